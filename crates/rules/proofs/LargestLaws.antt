-- The largest bucket size is the least number that no size exceeds. Assumes nothing.
use Prim.Native.Nat.{ℕ, ◌<◌, ◌≤◌}
use mathlib.Core.Logic.{inl, inr}
use mathlib.Core.List.{List, [], ◌∷◌}
use native.Mathlib.Omega.{arith}
use lib.Dec.{T, eqb, eqb→eq, eqb_refl}
use Rattle.rules.specs.Lists.{below, elem}
use Rattle.rules.specs.Order.{Input, size_of}
use Rattle.rules.specs.Numbers.{largest_of, largest}
use Rattle.rules.specs.Good.{Grouped}
use Rattle.rules.proofs.Tests.{or_cases, or_left, or_right, mem_elem}
use Rattle.rules.proofs.Ranges.{mem_below, below_elem}

module _ (i : Input) where
  le_largest_of : (bs : List ℕ) (b : ℕ) → T (elem b bs) → size_of i b ≤ largest_of i bs
  unfolding largest_of
  le_largest_of [] b t = absurd t
  le_largest_of (c ∷ bs) b t = elim (or_cases (eqb b c) (elem b bs) t) [ inl e ↦ rw (eqb→eq b c e) (omega arith) | inr u ↦ omega (arith, le_largest_of bs b u) ]

  largest_of_le : (n : ℕ) (bs : List ℕ) → ((b : ℕ) → T (elem b bs) → size_of i b ≤ n) → largest_of i bs ≤ n
  unfolding largest_of
  largest_of_le n [] h = omega arith
  largest_of_le n (c ∷ bs) h = omega (arith, h c (or_left (eqb c c) (elem c bs) (eqb_refl c)), largest_of_le n bs (λ b t. h b (or_right (eqb b c) (elem b bs) t)))

  pub size_le_largest : (b : ℕ) → b < i.settings.buckets → size_of i b ≤ largest i
  unfolding largest
  size_le_largest b h = le_largest_of (below i.settings.buckets) b (mem_elem (mem_below b i.settings.buckets h))

  pub largest_le : (n : ℕ) → ((b : ℕ) → b < i.settings.buckets → size_of i b ≤ n) → largest i ≤ n
  unfolding largest
  largest_le n h = largest_of_le n (below i.settings.buckets) (λ b t. h b (below_elem b i.settings.buckets t))

  pub largest_high : Grouped i → largest i ≤ 4096
  largest_high G = largest_le 4096 G.sizes
