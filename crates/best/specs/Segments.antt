-- Between wrap points costs never fall: no key goes back to the start of its ring there, so each key's place rises with the rotation, and the table
-- never falls. So of a segment's free rotations the first is the best. Assumes nothing.
use Rattle.std.specs.Prelude.{◌≡◌, ◌≢◌, List, length, get_or}
use Rattle.std.proofs.Common.{sym, ap, ◌∙◌, ⊎_elim, mod-lt, mod-eq_of_lt, mul-le-mul_right, add-one}
use Prim.Native.Nat.{ℕ, zero, suc, ◌+◌, ◌-◌, ◌%◌, ◌^◌, ◌≤◌, ◌<◌}
use native.Mathlib.Omega.{arith}
use Rattle.std.proofs.Math.Nat.{mod-add-mod, mod_self}
use Rattle.words.specs.Cases.{lt_or_ge}
use Rattle.words.specs.Map.{slot}
use Rattle.words.specs.Next.{next_set}
use Rattle.words.specs.NextLaws.{First, next_is}
use Rattle.rules.specs.Good.{Rising}
use Rattle.rings.specs.declared.Ring.{Ring}
use Rattle.rings.specs.Ring.{Shape}
use Rattle.rings.specs.Keys.{place_at, entry_at, cost_to, cost_at}
use Rattle.rings.specs.RingLaws.{n_pos}
use Rattle.rings.specs.KeyLaws.{place_turn, entry_lt}
use Rattle.best.specs.declared.Best.{Best}
use Rattle.best.specs.Best.{better, best_from}
use Rattle.best.specs.BestLaws.{from_fails, from_join, from_one}
use Rattle.best.specs.Prices.{Prices, is_free}
use Rattle.best.specs.PriceLaws.{free_one, free_zero}
use Rattle.best.specs.Wraps.{Points}

-- costs never fall from rotation `begin` up to `end`
abbrev pub Rises : (cost : ℕ → ℕ) (begin end : ℕ) → Type 0
Rises cost begin end = (j i : ℕ) → begin ≤ j → j ≤ i → i < end → cost j ≤ cost i

-- ---- a key's place

mod_suc : (n a : ℕ) → 0 < n → suc a % n ≢ 0 → suc a % n ≡ suc (a % n)
mod_suc n a h nz =
    let st : (a % n + 1) % n ≡ suc a % n = mod-add-mod a n 1 ∙ ap (λ (x : ℕ). x % n) (add-one a) in
    ⊎_elim
    (λ (l : a % n + 1 < n). sym st ∙ mod-eq_of_lt l ∙ add-one (a % n))
    (λ (l : n ≤ a % n + 1).
    let e : a % n + 1 ≡ n = omega (arith, mod-lt a h) in
    absurd (nz (sym st ∙ ap (λ (x : ℕ). x % n) e ∙ mod_self n)))
    (lt_or_ge (a % n + 1) n)

place_suc : (g : Ring) → Shape g → (d k : ℕ) → place_at g d (suc k) ≢ 0 → place_at g d (suc k) ≡ suc (place_at g d k)
place_suc g s d k nz =
    let e : place_at g d 0 + suc k ≡ suc (place_at g d 0 + k) = omega arith in
    let f : place_at g d (suc k) ≡ suc (place_at g d 0 + k) % g.n = place_turn g d (suc k) ∙ ap (λ (x : ℕ). x % g.n) e in
    f ∙ mod_suc g.n (place_at g d 0 + k) (n_pos g s) (λ z. nz (f ∙ z)) ∙ ap suc (sym (place_turn g d k))

-- it never falls from j to j + m where it is not 0 after j
place_rise : (g : Ring) → Shape g → (d j m : ℕ) → ((p : ℕ) → j < p → p ≤ j + m → place_at g d p ≢ 0) → place_at g d j ≤ place_at g d (j + m)
place_rise g s d j zero h = let e : j + 0 ≡ j = omega arith in rw e (omega arith)
place_rise g s d j (suc m) h =
    let e : j + suc m ≡ suc (j + m) = omega arith in
    rw e (omega (arith, place_suc g s d (j + m) (h (suc (j + m)) (omega arith) (omega arith)), place_rise g s d j m (λ p a l. h p a (omega arith))))

-- ---- the cost

entry_rise : (g : Ring) (d j k : ℕ) → place_at g d j ≤ place_at g d k → entry_at g d j ≤ entry_at g d k
unfolding entry_at
entry_rise g d j k h = omega (arith, mul-le-mul_right (2 ^ g.t) h)

module _ (g : Ring) (s : Shape g) (table keys : List ℕ) (p : Prices g table keys) where
  cost_rise : (j k i : ℕ) → i ≤ length keys → ((m : ℕ) → m < i → place_at g (get_or keys m 0) j ≤ place_at g (get_or keys m 0) k)
      → cost_to g table keys j i ≤ cost_to g table keys k i
  unfolding cost_to Rising
  cost_rise j k zero l h = omega arith
  cost_rise j k (suc i) l h =
      omega (
        arith,
        cost_rise j k i (omega arith) (λ m a. h m (omega arith)),
        p.climbs (entry_at g (get_or keys i 0) j) (entry_at g (get_or keys i 0) k) (entry_rise g (get_or keys i 0) j k (h i (omega arith))) (entry_lt g s p.entries (get_or keys i 0) k (p.priced i l)),
      )

  -- from one wrap point to the next
  segment_rises : (wraps : List ℕ) → Points g keys wraps → (b e : ℕ) → e ≤ g.n → ((q : ℕ) → b < q → q < e → slot wraps q ≡ 0) → Rises (cost_at g table keys) b e
  unfolding cost_at Points
  segment_rises wraps w b e le none j i hb hj hi =
      cost_rise j i (length keys) (omega arith) (λ m lm.
      let to : j + (i - j) ≡ i = omega arith in
      let go : place_at g (get_or keys m 0) j ≤ place_at g (get_or keys m 0) (j + (i - j)) =
      place_rise g s (get_or keys m 0) j (i - j) (λ q a l z. omega (arith, none q (omega arith) (omega arith), w m q lm (omega arith) (omega arith) z)) in
      rw to at go)

  -- from b up to the next wrap point
  pub next_rises : (wraps : List ℕ) → Points g keys wraps → (b : ℕ) {e : ℕ} → b < g.n → e ≡ next_set wraps (b + 1) g.n → Rises (cost_at g table keys) b e
  next_rises wraps w b {e} l h =
      let f : First wraps (b + 1) g.n e = rw h (next_is wraps (b + 1) g.n (omega arith)) in
      segment_rises wraps w b e f.to (λ q x y. f.below q (omega arith) y)

-- ---- the code: one segment, and one after the other

module _ (cost : ℕ → ℕ) (free : List ℕ) (r : ℕ) (b : Best) (s e : ℕ) where
  pub segment_first : {j : ℕ} {b' : Best} → s ≤ e → Rises cost s e → j ≡ next_set free s e → j < e → b' ≡ better (cost j) r j b → b' ≡ best_from cost (is_free free) r b s (e - s)
  segment_first {j} {b'} h up n l is =
      let f : First free s e j = rw n (next_is free s e h) in
      is ∙ sym (from_one cost (is_free free) r b s j e f.from l (free_one free j (f.at l)) (λ i a x. free_zero free i (f.below i a x)) (λ i a x. up j i f.from (omega arith) x))

  pub segment_none : {j : ℕ} → s ≤ e → j ≡ next_set free s e → e ≤ j → b ≡ best_from cost (is_free free) r b s (e - s)
  segment_none {j} h n l =
      let f : First free s e j = rw n (next_is free s e h) in
      sym (from_fails cost (is_free free) r b s (e - s) (λ i a x. free_zero free i (f.below i a (omega arith))))

pub segment_more : (cost : ℕ → ℕ) (free : List ℕ) (r : ℕ) (old : Best) (s e : ℕ) {b b' : Best} → b ≡ best_from cost (is_free free) r old 0 s → s ≤ e
    → b' ≡ best_from cost (is_free free) r b s (e - s) → b' ≡ best_from cost (is_free free) r old 0 e
segment_more cost free r old s e {b} {b'} is h is' =
    let k : s + (e - s) ≡ e = omega arith in
    let z : 0 + s ≡ s = omega arith in
    is'
    ∙ ap (λ (x : Best). best_from cost (is_free free) r x s (e - s)) is
    ∙ ap (λ (x : ℕ). best_from cost (is_free free) r (best_from cost (is_free free) r old 0 s) x (e - s)) (sym z)
    ∙ sym (from_join cost (is_free free) r old 0 s (e - s))
    ∙ ap (best_from cost (is_free free) r old 0) k
