-- The counts, one bucket after the other. Assumes nothing.
use mathlib.Core.Path.{◌≡◌, refl, sym, ap, ◌∙◌}
use mathlib.Core.List.{List}
use mathlib.Core.Logic.{◌≢◌}
use Prim.Native.Nat.{ℕ, zero, suc, ◌+◌, ◌<◌}
use native.Mathlib.Omega.{arith}
use lib.ListN.{get_or}
use borrow.Author.Tests.{eq-eqb, ne_eqb}
use Rattle.rules.specs.declared.Counts.{Counts}
use Rattle.rules.specs.Lists.{below, count_from, total}
use Rattle.rules.specs.Order.{Input, size_of}
use Rattle.rules.specs.Answers.{placed_keys, bumped_keys, zero_bucket, counts_of}
use Rattle.groups.specs.Groups as Groups
use Rattle.sweep.specs.Counting.{Regular, Counted}

total_from : (f : ℕ → ℕ) (a n : ℕ) → total f (count_from a (suc n)) ≡ total f (count_from a n) + f (a + n)
total_from f a zero = let e : a + 0 ≡ a = omega arith in rw e (omega arith)
total_from f a (suc n) =
    let e : suc a + n ≡ a + suc n = omega arith in
    let h = total_from f (suc a) n in
    ap (λ (x : ℕ). f a + x) (rw e at h) ∙ omega arith

total_more : (f : ℕ → ℕ) (n : ℕ) → total f (below (n + 1)) ≡ total f (below n) + f n
total_more f n =
    let s : n + 1 ≡ suc n = omega arith in
    let o : 0 + n ≡ n = omega arith in
    ap (λ (k : ℕ). total f (below k)) s ∙ (rw o at (total_from f 0 n))

plus_none : (n : ℕ) → n + 0 ≡ n
plus_none n = omega arith

abbrev pub counts_at : (placed bumped zeros : ℕ) → Counts
counts_at placed bumped zeros = record { placed = placed; bumped = bumped; zero = zeros }

pub counted_none : (begins seeds : List ℕ) → Counted begins seeds 0 (counts_at 0 0 0)
counted_none begins seeds = record { placed = λ i e. refl; bumped = λ i e. refl; zero = λ i e. refl }

module _ {begins seeds : List ℕ} {n p q z : ℕ} (c : Counted begins seeds n (counts_at p q z)) {size : ℕ} (is : size ≡ Groups.size_in begins n) where
  same : (i : Input) → i.begins ≡ begins → size_of i n ≡ size
  unfolding size_of
  same i e = ap (λ (bs : List ℕ). Groups.size_in bs n) e ∙ sym is

  -- a bucket whose seed is 0
  pub counted_zero : get_or seeds n 0 ≡ 0 → Counted begins seeds (n + 1) (counts_at p (q + size) (z + 1))
  unfolding placed_keys bumped_keys zero_bucket
  counted_zero h =
      let t = eq-eqb (get_or seeds n 0) 0 h in
      record {
        placed = λ i e. sym (total_more (placed_keys i seeds) n ∙ (rw (t, sym (c.placed i e)) (plus_none p)));
        bumped = λ i e. sym (total_more (bumped_keys i seeds) n ∙ (rw (t, same i e, sym (c.bumped i e)) refl));
        zero = λ i e. sym (total_more (zero_bucket i seeds) n ∙ (rw (t, sym (c.zero i e)) refl));
      }

  -- and one whose seed is not
  pub counted_placed : get_or seeds n 0 ≢ 0 → Counted begins seeds (n + 1) (counts_at (p + size) q z)
  unfolding placed_keys bumped_keys zero_bucket
  counted_placed h =
      let t = ne_eqb (get_or seeds n 0) 0 h in
      record {
        placed = λ i e. sym (total_more (placed_keys i seeds) n ∙ (rw (t, same i e, sym (c.placed i e)) refl));
        bumped = λ i e. sym (total_more (bumped_keys i seeds) n ∙ (rw (t, sym (c.bumped i e)) (plus_none q)));
        zero = λ i e. sym (total_more (zero_bucket i seeds) n ∙ (rw (t, sym (c.zero i e)) (plus_none z)));
      }

-- the same by equal numbers
pub counted_as : {begins seeds : List ℕ} {n p q z p' q' z' : ℕ} → Counted begins seeds n (counts_at p q z) → p' ≡ p → q' ≡ q → z' ≡ z → Counted begins seeds n (counts_at p' q' z')
counted_as c ep eq ez = record { placed = λ i e. ep ∙ c.placed i e; bumped = λ i e. eq ∙ c.bumped i e; zero = λ i e. ez ∙ c.zero i e }

-- ---- at the end
pub counted_all : {begins seeds : List ℕ} {n : ℕ} {c : Counts} → Counted begins seeds n c → (i : Input) → i.begins ≡ begins → i.settings.buckets ≡ n → c ≡ counts_of i seeds
unfolding counts_of
counted_all {begins} {seeds} {n} {c} d i e h = λ k. record { placed = ep k; bumped = eb k; zero = ez k }
  where
    ep : c.placed ≡ total (placed_keys i seeds) (below i.settings.buckets)
    ep = d.placed i e ∙ ap (λ (k : ℕ). total (placed_keys i seeds) (below k)) (sym h)

    eb : c.bumped ≡ total (bumped_keys i seeds) (below i.settings.buckets)
    eb = d.bumped i e ∙ ap (λ (k : ℕ). total (bumped_keys i seeds) (below k)) (sym h)

    ez : c.zero ≡ total (zero_bucket i seeds) (below i.settings.buckets)
    ez = d.zero i e ∙ ap (λ (k : ℕ). total (zero_bucket i seeds) (below k)) (sym h)

pub regular_grouped : {begins : List ℕ} {n b : ℕ} → Regular begins n → b < n → Groups.Grouped begins b
regular_grouped {b = b} r h = record { placed = omega (arith, r.long); rises = r.rises b h }
