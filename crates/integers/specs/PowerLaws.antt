-- Laws of `log_up` and `least_power`. They hold because the search of `least_from` goes up one exponent at a time: it stops at the first
-- that is enough, so half of its power is too little. Assumes nothing.
use Rattle.std.specs.Prelude.{◌≡◌, refl, Bool, true, false, ℕ, zero, suc, ◌+◌, ◌-◌, ◌*◌, ◌^◌, ◌≤◌, ◌<◌, min, leb}
use Rattle.std.proofs.Common.{sym, ap, ◌∙◌, subst, le_refl, le_trans, le_antisymm, lt_of_not-le, le_of_suc-le-suc, add-zero, zero-add, arith, pow_mono, pow_pos, leb-true, leb-false}
use Rattle.std.proofs.Math.Nat.{min-eq_left, min-eq_right}
use Rattle.std.proofs.Math.Decide.{dec_le}
use Rattle.std.specs.Int.Count.{count_leading_zeros}
use Rattle.std.proofs.lemmas.Nat.{leading_length}
use Rattle.integers.specs.Power.{least_from, log_up, least_power}

-- k is the least with x ≤ 2 ^ k. The second fact says that half of 2 ^ k is below x, and that k is 0 where x is 0 or 1.
pub record Log (x k : ℕ) : Type 0 where
  pub above : x ≤ 2 ^ k
  pub tight : 2 ^ k ≤ 2 * (x - 1) + 1

pub below_pow : (x : ℕ) → x < 2 ^ x
below_pow zero = omega arith
below_pow (suc x) = omega (arith, below_pow x)

from_log : (f j x : ℕ) (b : Bool) → leb x (2 ^ j) ≡ b → 2 ^ j ≤ 2 * (x - 1) + 1 → x ≤ 2 ^ (j + f) → Log x (least_from f j x)
unfolding least_from
from_log zero j x b e lo hi = record { above = subst (λ (n : ℕ). x ≤ 2 ^ n) (add-zero j) hi; tight = lo }
from_log (suc f) j x true e lo hi = rw e (record { above = leb-true x (2 ^ j) e; tight = lo })
from_log (suc f) j x false e lo hi =
    let more : 2 ^ j < x = leb-false x (2 ^ j) e in
    rw e (from_log f (suc j) x (leb x (2 ^ suc j)) refl (omega arith) (subst (λ (n : ℕ). x ≤ 2 ^ n) (omega arith) hi))

pub log_up_log : (x : ℕ) → Log x (log_up x)
unfolding log_up
log_up_log x = from_log x 0 x (leb x (2 ^ 0)) refl (omega arith) (rw zero-add (omega (arith, below_pow x)))

-- where 2 ^ j is at least x, k is at most j
pub log_least : (x k j : ℕ) → Log x k → x ≤ 2 ^ j → k ≤ j
log_least x k j l h =
    le_of_suc-le-suc (lt_of_not-le (λ (g : suc j ≤ k).
    let m : 2 ^ suc j ≤ 2 ^ k = pow_mono g in
    let f : ⊥ = omega (arith, pow_pos j) in f))

pub log_unique : (x a b : ℕ) → Log x a → Log x b → a ≡ b
log_unique x a b p q = le_antisymm (log_least x a b p q.above) (log_least x b a q p.above)

-- ---- log_up

pub log_up_is : (x k : ℕ) → Log x k → k ≡ log_up x
log_up_is x k l = log_unique x k (log_up x) l (log_up_log x)

pub log_up_above : (x : ℕ) → x ≤ 2 ^ log_up x
log_up_above x = (log_up_log x).above

pub log_up_least : (x j : ℕ) → x ≤ 2 ^ j → log_up x ≤ j
log_up_least x j h = log_least x (log_up x) j (log_up_log x) h

pub log_up_mono : {x y : ℕ} → x ≤ y → log_up x ≤ log_up y
log_up_mono {x} {y} h = log_up_least x (log_up y) (le_trans h (log_up_above y))

pub log_up_pow : (k : ℕ) → log_up (2 ^ k) ≡ k
log_up_pow k = sym (log_up_is (2 ^ k) k (record { above = le_refl (2 ^ k); tight = omega (arith, pow_pos k) }))

-- 64 less the leading zeros of x - 1
pub log_of_zeros : (x : ℕ) → x - 1 < 2 ^ 64 → Log x (64 - count_leading_zeros 64 (x - 1))
log_of_zeros x h =
    let z : ℕ = count_leading_zeros 64 (x - 1) in
    let s = leading_length 64 (x - 1) h in
    let s1 : z + s.0 ≡ 64 = s.1 in
    let is_m : 64 - z ≡ s.0 = omega arith in
    let lt : x - 1 < 2 ^ s.0 = s.2 in
    let le : 2 ^ s.0 ≤ 2 * (x - 1) + 1 = s.3 in
    subst (λ (k : ℕ). Log x k) (sym is_m) (record { above = omega arith; tight = le })

-- ---- least_power

pub least_power_above : (x : ℕ) → x ≤ least_power x
unfolding least_power
least_power_above x = log_up_above x

pub least_power_pos : (x : ℕ) → 0 < least_power x
unfolding least_power
least_power_pos x = pow_pos (log_up x)

-- less than twice x, where x is not 0
pub least_power_tight : (x : ℕ) → least_power x ≤ 2 * (x - 1) + 1
unfolding least_power
least_power_tight x = (log_up_log x).tight

pub least_power_least : (x j : ℕ) → x ≤ 2 ^ j → least_power x ≤ 2 ^ j
unfolding least_power
least_power_least x j h = pow_mono (log_up_least x j h)

pub least_power_mono : {x y : ℕ} → x ≤ y → least_power x ≤ least_power y
unfolding least_power
least_power_mono h = pow_mono (log_up_mono h)

pub least_power_pow : (k : ℕ) → least_power (2 ^ k) ≡ 2 ^ k
unfolding least_power
least_power_pow k = ap (λ (n : ℕ). 2 ^ n) (log_up_pow k)

pub min_pow : (a b : ℕ) → min (2 ^ a) (2 ^ b) ≡ 2 ^ min a b
min_pow a b = by (dec_le a b)
  where
    by : Dec (a ≤ b) → min (2 ^ a) (2 ^ b) ≡ 2 ^ min a b
    by (yes h) = min-eq_left (pow_mono h) ∙ ap (λ (n : ℕ). 2 ^ n) (sym (min-eq_left h))
    by (no n) = let h : b ≤ a = omega arith in min-eq_right (pow_mono h) ∙ ap (λ (k : ℕ). 2 ^ k) (sym (min-eq_right h))

pub min_least_power : (x k : ℕ) → min (least_power x) (2 ^ k) ≡ 2 ^ min (log_up x) k
unfolding least_power
min_least_power x k = min_pow (log_up x) k

-- the definitions compute, also on large numbers
computes : (log_up 0 ≡ 0) × (log_up 1 ≡ 0) × (log_up 5 ≡ 3) × (log_up 134217728 ≡ 27) × (least_power 67108865 ≡ 134217728)
unfolding least_from log_up least_power
computes = (refl, refl, refl, refl, refl)
