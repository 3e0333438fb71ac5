-- The bounds of weights: an entry is within ±2^32, and above seven keys the weight is held to ±2^40. Assumes nothing.
use mathlib.Core.Logic.{◌⊎◌, inl, inr}
use mathlib.Core.Bool.{not, cond}
use Prim.Native.Nat.{ℕ, ◌+◌, ◌-◌, ◌*◌, ◌^◌, ◌≤◌}
use native.Mathlib.Nat.{le_trans}
use native.Mathlib.Omega.{arith}
use lib.Dec.{T, leb, lit≤}
use lib.IntN.{ℤ, nat_abs, pos, ◌+ℤ◌, ◌-ℤ◌, ◌*ℤ◌}
use Rattle.integers.specs.Ints.{held, held_abs, abs_is, sub_is, one_side}
use Rattle.rules.specs.Order.{Input, size_of, weight_entry, weight, priority}
use Rattle.rules.specs.Good.{Moderate}
use Rattle.rules.proofs.Tests.{split, is_true, is_false}

module _ (i : Input) (M : Moderate i) where
  pub entry_abs : (size : ℕ) → nat_abs (weight_entry i.weights size) ≤ 2 ^ 32
  unfolding weight_entry Moderate
  entry_abs size = M (size - 1)

  pub weight_abs : (size : ℕ) → nat_abs (weight i.weights size) ≤ 2 ^ 40
  unfolding weight
  weight_abs size = go (split (leb size 7))
    where
      far : ℤ
      far = (weight_entry i.weights 7 -ℤ weight_entry i.weights 6) *ℤ pos (size - 7) +ℤ weight_entry i.weights 7

      go : T (leb size 7) ⊎ T (not (leb size 7)) → nat_abs (cond (leb size 7) (weight_entry i.weights size) (held (2 ^ 40) far)) ≤ 2 ^ 40
      go (inl t) = rw (is_true (leb size 7) t) (le_trans (entry_abs size) (lit≤ tt))
      go (inr t) = rw (is_false (leb size 7) t) (held_abs (2 ^ 40) far)

  pub priority_abs : (b : ℕ) → nat_abs (priority i b) ≤ 2 ^ 40 + 1024 * b
  unfolding priority
  priority_abs b =
      let w = weight_abs (size_of i b) in
      omega (
        arith,
        abs_is (weight i.weights (size_of i b)),
        abs_is (weight i.weights (size_of i b) -ℤ pos (1024 * b)),
        one_side (weight i.weights (size_of i b) -ℤ pos (1024 * b)),
        sub_is (weight i.weights (size_of i b)) (pos (1024 * b)),
      )
