-- One integer for rule W: the priority times 1024 and the complement of b mod 1024 below it. The low part is less than 1024, so the greater key is the
-- greater priority or, at the same priority, the smaller b mod 1024. And of two buckets of one size the lower goes first. Assumes nothing.
use mathlib.Core.Path.{◌≡◌}
use mathlib.Core.Logic.{◌⊎◌, inl, inr}
use mathlib.Core.Bool.{Bool, not, ◌&&◌, ◌||◌}
use Prim.Native.Nat.{ℕ, ◌+◌, ◌-◌, ◌*◌, ◌%◌, ◌<◌}
use native.Mathlib.Omega.{arith}
use lib.Dec.{T, ltb, ltb→lt, lt→ltb}
use lib.IntN.{ℤ, pos, ◌+ℤ◌, ◌*ℤ◌}
use lib.Signed.{lt_z}
use Rattle.integers.specs.Ints.{up, dn, add_is, sub_is, mul-up, mul_dn, lt_yes, lt_no, yes_lt}
use Rattle.rules.specs.Order.{Input, Tie, by_low_bits, size_of, weight, priority, goes_first}
use Rattle.rules.proofs.Tests.{split, or_left, or_right, or_cases, and_both, and_left, and_right}

-- the key of a bucket with this priority
unfoldable pub packed : (priority : ℤ) → (b : ℕ) → ℤ
packed p b = p *ℤ pos 1024 +ℤ pos (1023 - b % 1024)

packed_is : (p : ℤ) (b : ℕ) → up (packed p b) + dn p * 1024 ≡ up p * 1024 + (1023 - b % 1024) + dn (packed p b)
unfolding packed
packed_is p b = omega (arith, add_is (p *ℤ pos 1024) (pos (1023 - b % 1024)), mul-up p 1024, mul_dn p 1024)

module _ (i : Input) where
  pub first_key : (b c : ℕ) → T (goes_first by_low_bits i b c) → T (lt_z (packed (priority i c) c) (packed (priority i b) b))
  unfolding goes_first
  first_key b c t = yes_lt (packed pc c) (packed pb b) (go (or_cases (lt_z pc pb) (not (lt_z pb pc) && ltb (by_low_bits b) (by_low_bits c)) t))
    where
      pb : ℤ
      pb = priority i b

      pc : ℤ
      pc = priority i c

      go : T (lt_z pc pb) ⊎ T (not (lt_z pb pc) && ltb (by_low_bits b) (by_low_bits c)) → up (packed pc c) + dn (packed pb b) < up (packed pb b) + dn (packed pc c)
      go (inl u) = let p = lt_yes pc pb u in omega (arith, packed_is pb b, packed_is pc c)
      go (inr u) =
          let p = lt_no pb pc (and_left (not (lt_z pb pc)) (ltb (by_low_bits b) (by_low_bits c)) u) in
          let q = ltb→lt (by_low_bits b) (by_low_bits c) (and_right (not (lt_z pb pc)) (ltb (by_low_bits b) (by_low_bits c)) u) in
          omega (arith, packed_is pb b, packed_is pc c)

  pub key_first : (b c : ℕ) → T (lt_z (packed (priority i c) c) (packed (priority i b) b)) → T (goes_first by_low_bits i b c)
  unfolding goes_first
  key_first b c t = go (split (lt_z pc pb)) (split (lt_z pb pc))
    where
      pb : ℤ
      pb = priority i b

      pc : ℤ
      pc = priority i c

      low : Bool
      low = ltb (by_low_bits b) (by_low_bits c)

      go : T (lt_z pc pb) ⊎ T (not (lt_z pc pb)) → T (lt_z pb pc) ⊎ T (not (lt_z pb pc)) → T (lt_z pc pb || (not (lt_z pb pc) && low))
      go (inl u) v = or_left (lt_z pc pb) (not (lt_z pb pc) && low) u
      go (inr u) (inl v) = absurd (let k = lt_yes (packed pc c) (packed pb b) t in let p = lt_yes pb pc v in omega (arith, packed_is pb b, packed_is pc c))
      go (inr u) (inr v) =
          or_right (lt_z pc pb) (not (lt_z pb pc) && low) (and_both (not (lt_z pb pc)) low v
          (lt→ltb (by_low_bits b) (by_low_bits c) (let k = lt_yes (packed pc c) (packed pb b) t in let p = lt_no pc pb u in let q = lt_no pb pc v in omega (arith, packed_is pb b, packed_is pc c))))

  -- the head of a queue of one size is its best
  pub size_first : (tie : Tie) (b c : ℕ) → size_of i b ≡ size_of i c → b < c → T (goes_first tie i b c)
  unfolding goes_first priority
  size_first tie b c e h =
      or_left (lt_z (priority i c) (priority i b)) (not (lt_z (priority i b) (priority i c)) && ltb (tie b) (tie c))
      (yes_lt (priority i c) (priority i b) (rw (← e) (omega (arith, sub_is (weight i.weights (size_of i b)) (pos (1024 * b)), sub_is (weight i.weights (size_of i b)) (pos (1024 * c))))))
