-- The largest size, one bucket after the other: each step takes the larger of what was found and the next size. Assumes nothing.
use mathlib.Core.Path.{◌≡◌, refl, sym, ap, ◌∙◌, subst}
use mathlib.Core.Bool.{true}
use mathlib.Core.List.{List}
use Prim.Native.Nat.{ℕ, zero, suc, ◌+◌, ◌<◌, ◌≤◌, max}
use native.Mathlib.Omega.{arith}
use lib.Dec.{T, leb→le}
use lib.ListN.{length, get_or}
use Rattle.rules.specs.Lists.{count_from, below}
use Rattle.rules.specs.Order.{Input, size_of}
use Rattle.rules.specs.Numbers.{largest_of, rising, step_up}
use Rattle.groups.specs.Groups.{size_in, Grouped}
use Rattle.checks.specs.Largest.{Largest}
use Rattle.checks.proofs.Every.{every_at}

largest_from : (i : Input) (a n : ℕ) → largest_of i (count_from a (suc n)) ≡ max (largest_of i (count_from a n)) (size_of i (a + n))
unfolding largest_of
largest_from i a zero =
    let e : a + 0 ≡ a = omega arith in
    rw e (omega arith)
largest_from i a (suc n) =
    let e : suc a + n ≡ a + suc n = omega arith in
    let h = largest_from i (suc a) n in
    ap (max (size_of i a)) (rw e at h) ∙ omega arith

pub largest_none : (begins : List ℕ) → Largest begins 0 0
unfolding largest_of
largest_none begins = record { same = λ i e. refl }

module _ {begins : List ℕ} {n z : ℕ} (found : Largest begins n z) where
  step : (i : Input) → i.begins ≡ begins → largest_of i (below (n + 1)) ≡ max z (size_in begins n)
  unfolding size_of
  step i e =
      let h = largest_from i 0 n in
      let o : 0 + n ≡ n = omega arith in
      let s : n + 1 ≡ suc n = omega arith in
      let same : size_of i n ≡ size_in begins n = ap (λ (bs : List ℕ). size_in bs n) e in
      ap (λ (k : ℕ). largest_of i (below k)) s ∙ h ∙ (rw (o, sym (found.same i e), same) refl)

  pub largest_next : {size next : ℕ} → size ≡ size_in begins n → next ≡ max z size → Largest begins (n + 1) next
  largest_next is h = record { same = λ i e. omega (arith, step i e) }

-- where begins rises over n buckets, each of them is grouped
pub rising_grouped : (begins : List ℕ) (n b : ℕ) → n + 1 ≤ length begins → rising begins n ≡ true → b < n → Grouped begins b
unfolding rising step_up
rising_grouped begins n b long up h = record {
  placed = omega arith;
  rises = leb→le (get_or begins b 0) (get_or begins (b + 1) 0) (subst T (sym (every_at (step_up begins) n up b h)) tt);
}
