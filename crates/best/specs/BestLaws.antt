-- Laws of `best_from`: one rotation more, two stretches joined, and a stretch over which the best stays. Assumes nothing.
use Rattle.std.specs.Prelude.{◌≡◌, Bool, not, T}
use Rattle.std.proofs.Math.Path.{refl, ap}
use Rattle.std.proofs.Common.{sym, ◌∙◌, ⊎_elim, lt-ltb, le-ltb}
use Prim.Native.Nat.{ℕ, zero, suc, ◌+◌, ◌-◌, ◌≤◌, ◌<◌}
use native.Mathlib.Omega.{arith}
use Rattle.words.specs.Cases.{lt_or_ge}
use Rattle.rules.proofs.Tests.{split, is_true, is_false}
use Rattle.best.specs.declared.Best.{Best}
use Rattle.best.specs.Best.{nothing, better, best_from, best_of}

-- ---- one rotation

pub better_less : (c r j : ℕ) (b : Best) → c < b.cost → better c r j b ≡ record { cost = c; r = r; j = j }
unfolding better
better_less c r j b h = rw (lt-ltb c b.cost h) refl

pub better_not : (c r j : ℕ) (b : Best) → b.cost ≤ c → better c r j b ≡ b
unfolding better
better_not c r j b h = rw (le-ltb c b.cost h) refl

-- the two branches of the code
pub better_taken : (r j : ℕ) {c x : ℕ} (b : Best) → c ≡ x → c < b.cost → record { cost = c; r = r; j = j } ≡ better x r j b
better_taken r j {c} {x} b e h = rw e (sym (better_less x r j b (rw e at h)))

pub better_left : (r j : ℕ) {c x : ℕ} (b : Best) → c ≡ x → b.cost ≤ c → b ≡ better x r j b
better_left r j {c} {x} b e h = sym (better_not x r j b (rw e at h))

-- what comes out costs no more
pub better_le : (c r j : ℕ) (b : Best) → (better c r j b).cost ≤ c
better_le c r j b =
    ⊎_elim
    (λ (h : c < b.cost). rw (better_less c r j b h) (omega arith))
    (λ (h : b.cost ≤ c). rw (better_not c r j b h) h)
    (lt_or_ge c b.cost)

module _ (cost : ℕ → ℕ) (test : ℕ → Bool) (r : ℕ) (b : Best) (s : ℕ) where
  pub from_none : best_from cost test r b s 0 ≡ b
  unfolding best_from
  from_none = refl

  -- one more that passes the test, and one more that does not
  pub from_pass : (k : ℕ) → T (test (s + k)) → best_from cost test r b s (suc k) ≡ better (cost (s + k)) r (s + k) (best_from cost test r b s k)
  unfolding best_from
  from_pass k t = rw (is_true (test (s + k)) t) refl

  pub from_fail : (k : ℕ) → T (not (test (s + k))) → best_from cost test r b s (suc k) ≡ best_from cost test r b s k
  unfolding best_from
  from_fail k t = rw (is_false (test (s + k)) t) refl

  -- one more that costs no less than the best
  pub from_dear : (k : ℕ) → (best_from cost test r b s k).cost ≤ cost (s + k) → best_from cost test r b s (suc k) ≡ best_from cost test r b s k
  from_dear k h =
      ⊎_elim
      (λ t. from_pass k t ∙ better_not (cost (s + k)) r (s + k) (best_from cost test r b s k) h)
      (λ t. from_fail k t)
      (split (test (s + k)))

  -- none passes
  pub from_fails : (k : ℕ) → ((i : ℕ) → s ≤ i → i < s + k → T (not (test i))) → best_from cost test r b s k ≡ b
  from_fails zero h = from_none
  from_fails (suc k) h = from_fail k (h (s + k) (omega arith) (omega arith)) ∙ from_fails k (λ i a l. h i a (omega arith))

  -- none costs less
  pub from_dears : (k : ℕ) → ((i : ℕ) → s ≤ i → i < s + k → b.cost ≤ cost i) → best_from cost test r b s k ≡ b
  from_dears zero h = from_none
  from_dears (suc k) h =
      let e : best_from cost test r b s k ≡ b = from_dears k (λ i a l. h i a (omega arith)) in
      from_dear k (rw e (h (s + k) (omega arith) (omega arith))) ∙ e

  -- one stretch, and then another
  pub from_join : (k m : ℕ) → best_from cost test r b s (k + m) ≡ best_from cost test r (best_from cost test r b s k) (s + k) m
  unfolding best_from
  from_join k zero = let e : k + 0 ≡ k = omega arith in ap (best_from cost test r b s) e
  from_join k (suc m) =
      let e : k + suc m ≡ suc (k + m) = omega arith in
      let a : s + (k + m) ≡ s + k + m = omega arith in
      rw (e, a, from_join k m) refl

-- none passes among the last ones
pub from_skip : (cost : ℕ → ℕ) (test : ℕ → Bool) (r : ℕ) (b : Best) (s k m : ℕ) → k ≤ m → ((i : ℕ) → k ≤ i → i < m → T (not (test (s + i))))
    → best_from cost test r b s m ≡ best_from cost test r b s k
from_skip cost test r b s k m h z =
    let e : k + (m - k) ≡ m = omega arith in
    sym (ap (best_from cost test r b s) e)
    ∙ from_join cost test r b s k (m - k)
    ∙ from_fails cost test r (best_from cost test r b s k) (s + k) (m - k) (λ i a l.
    let q : s + (i - s) ≡ i = omega arith in
    rw q at (z (i - s) (omega arith) (omega arith)))

-- the best of a stretch and of the one after it, by their ends
pub from_on : (cost : ℕ → ℕ) (test : ℕ → Bool) (r : ℕ) (b : Best) (s m e : ℕ) → s ≤ m → m ≤ e
    → best_from cost test r (best_from cost test r b s (m - s)) m (e - m) ≡ best_from cost test r b s (e - s)
from_on cost test r b s m e h l =
    let k : m - s + (e - m) ≡ e - s = omega arith in
    let a : s + (m - s) ≡ m = omega arith in
    sym (ap (best_from cost test r b s) (sym k) ∙ from_join cost test r b s (m - s) (e - m) ∙ ap (λ (x : ℕ). best_from cost test r (best_from cost test r b s (m - s)) x (e - m)) a)

-- only the rotation j of a stretch counts: none before it passes, and none after it costs less
pub from_one : (cost : ℕ → ℕ) (test : ℕ → Bool) (r : ℕ) (b : Best) (s j e : ℕ) → s ≤ j → j < e → T (test j)
    → ((i : ℕ) → s ≤ i → i < j → T (not (test i))) → ((i : ℕ) → j < i → i < e → cost j ≤ cost i)
    → best_from cost test r b s (e - s) ≡ better (cost j) r j b
from_one cost test r b s j e h l t before after =
    let zero-on : j + 0 ≡ j = omega arith in
    let one : suc j - j ≡ suc 0 = omega arith in
    let to : best_from cost test r b s (j - s) ≡ b = from_fails cost test r b s (j - s) (λ i a x. before i a (omega arith)) in
    let at : best_from cost test r b j (suc j - j) ≡ better (cost j) r j b =
    ap (best_from cost test r b j) one ∙ from_pass cost test r b j 0 (rw zero-on t) ∙ rw (zero-on, from_none cost test r b j) refl in
    let past : best_from cost test r (better (cost j) r j b) (suc j) (e - suc j) ≡ better (cost j) r j b =
    from_dears cost test r (better (cost j) r j b) (suc j) (e - suc j) (λ i a x. omega (arith, better_le (cost j) r j b, after i (omega arith) (omega arith))) in
    sym (from_on cost test r b s j e h (omega arith))
    ∙ ap (λ (x : Best). best_from cost test r x j (e - j)) to
    ∙ sym (from_on cost test r b j (suc j) e (omega arith) l)
    ∙ ap (λ (x : Best). best_from cost test r x (suc j) (e - suc j)) at
    ∙ past

-- ---- the layouts

pub of_none : (cost : ℕ → ℕ → ℕ) (test : ℕ → ℕ → Bool) (n : ℕ) → best_of cost test n 0 ≡ nothing
unfolding best_of
of_none cost test n = refl

pub of_more : (cost : ℕ → ℕ → ℕ) (test : ℕ → ℕ → Bool) (n r : ℕ) → best_of cost test n (suc r) ≡ best_from (cost r) (test r) r (best_of cost test n r) 0 n
unfolding best_of
of_more cost test n r = refl
