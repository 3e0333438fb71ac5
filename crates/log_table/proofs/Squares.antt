-- `close 25 d d 0 t` tests that t is `Nearest` to 2 ^ 24 · log2 d, by short numbers: d is squared 25 times in an interval, whose bounds keep at
-- least 64 bits, rounded down and up. The power lies in the interval, so what holds of both bounds holds of it. Assumes nothing.
use mathlib.Core.Path.{◌≡◌, refl, sym, ap, ◌∙◌, subst, subst₂}
use mathlib.Core.Bool.{Bool, false, cond, ◌&&◌}
use Prim.Native.Nat.{ℕ, zero, suc, ◌+◌, ◌-◌, ◌*◌, ◌/◌, ◌^◌, ◌≤◌, ◌<◌}
use native.Mathlib.Nat.{mul-le-mul, mul-le-mul_left, mul-lt-mul_of_pos_right, div-mul-le_self, mul-one, pow-suc}
use native.Mathlib.Omega.{arith}
use lib.Dec.{T, leb, ltb, leb→le, ltb→lt}
use lib.Pow.{pow_pos, pow-add}
use Rattle.integers.specs.Division.{ceil_bounds, pow_split}
use Rattle.log_table.specs.House.{Nearest}
use Rattle.log_table.proofs.Walks.{both_left, both_right}

-- how many of the bits of a square are dropped: a mantissa of 65 to 128 bits stays one, a shorter one is kept whole
unfoldable pub spare : ℕ → ℕ
spare l = cond (ltb l (2 ^ 64)) 0 (cond (ltb l (2 ^ 96)) 64 128)

-- t is half the length of every number from l · 2 ^ e to h · 2 ^ e
unfoldable pub decided : ℕ → ℕ → ℕ → ℕ → Bool
decided l h e t = leb e (2 * t) && (ltb (2 ^ (2 * t - e)) (2 * l) && ltb h (2 * 2 ^ (2 * t - e)))

-- and of their powers, n squares on
unfoldable pub close : ℕ → ℕ → ℕ → ℕ → ℕ → Bool
close zero l h e t = decided l h e t
close (suc n) zero h e t = false
close (suc n) (suc p) zero e t = false
close (suc n) (suc p) (suc q) e t =
    let s = spare (suc p) in
    close n (suc p * suc p / 2 ^ s) ((suc q * suc q + (2 ^ s - 1)) / 2 ^ s) (2 * e + s) t

-- y is from l · E to h · E
pub record Between (l h E y : ℕ) : Type 0 where
  pub low : l * E ≤ y
  pub high : y ≤ h * E

decided_near : (N d l h e t : ℕ) → T (decided l h e t) → Between l h (2 ^ e) (d ^ N) → Nearest N d t
unfolding decided
decided_near N d l h e t pass b =
    let k : ℕ = 2 * t - e in
    let rest : T (ltb (2 ^ k) (2 * l) && ltb h (2 * 2 ^ k)) = both_right (leb e (2 * t)) (ltb (2 ^ k) (2 * l) && ltb h (2 * 2 ^ k)) pass in
    let split : 2 ^ (2 * t) ≡ 2 ^ k * 2 ^ e = pow_split (2 * t) e (leb→le e (2 * t) (both_left (leb e (2 * t)) (ltb (2 ^ k) (2 * l) && ltb h (2 * 2 ^ k)) pass)) in
    let lower : 2 ^ k * 2 ^ e < 2 * l * 2 ^ e = mul-lt-mul_of_pos_right (ltb→lt (2 ^ k) (2 * l) (both_left (ltb (2 ^ k) (2 * l)) (ltb h (2 * 2 ^ k)) rest)) (pow_pos e) in
    let upper : h * 2 ^ e < 2 * 2 ^ k * 2 ^ e = mul-lt-mul_of_pos_right (ltb→lt h (2 * 2 ^ k) (both_right (ltb (2 ^ k) (2 * l)) (ltb h (2 * 2 ^ k)) rest)) (pow_pos e) in
    let low : l * 2 ^ e ≤ d ^ N = b.low in
    let high : d ^ N ≤ h * 2 ^ e = b.high in
    record { below = omega arith; above = omega arith }

-- the square of a number in an interval, with c of the bounds' squares dropped
squared : (l h E y c k j : ℕ) → Between l h E y → k * c ≤ l * l → h * h ≤ j * c → Between k j (E * E * c) (y * y)
squared l h E y c k j b lo hi = record {
  low = omega (arith, mul-le-mul_left (E * E) lo, mul-le-mul b.low b.low);
  high = omega (arith, mul-le-mul_left (E * E) hi, mul-le-mul b.high b.high);
}

double_pow : (e s : ℕ) → 2 ^ (2 * e + s) ≡ 2 ^ e * 2 ^ e * 2 ^ s
double_pow e s = pow-add 2 (2 * e) s ∙ ap (λ (x : ℕ). x * 2 ^ s) (ap (λ (x : ℕ). 2 ^ x) (omega arith) ∙ pow-add 2 e e)

pub close_near : (n m d l h e t : ℕ) → T (close n l h e t) → Between l h (2 ^ e) (d ^ m) → Nearest (m * 2 ^ n) d t
unfolding close
close_near zero m d l h e t pass b = subst (λ (k : ℕ). Nearest k d t) (sym (mul-one m)) (decided_near m d l h e t pass b)
close_near (suc n) m d zero h e t pass b = absurd pass
close_near (suc n) m d (suc p) zero e t pass b = absurd pass
close_near (suc n) m d (suc p) (suc q) e t pass b =
    let s : ℕ = spare (suc p) in
    let k : ℕ = suc p * suc p / 2 ^ s in
    let j : ℕ = (suc q * suc q + (2 ^ s - 1)) / 2 ^ s in
    let lo : k * 2 ^ s ≤ suc p * suc p = div-mul-le_self (suc p * suc p) (2 ^ s) in
    let hi : suc q * suc q ≤ j * 2 ^ s = (ceil_bounds (suc q * suc q) (2 ^ s) j (pow_pos s) refl).0 in
    let more : Between k j (2 ^ e * 2 ^ e * 2 ^ s) (d ^ m * d ^ m) = squared (suc p) (suc q) (2 ^ e) (d ^ m) (2 ^ s) k j b lo hi in
    let next : Between k j (2 ^ (2 * e + s)) (d ^ (m + m)) = subst₂ (λ (x y : ℕ). Between k j x y) (sym (double_pow e s)) (sym (pow-add d m m)) more in
    let doubled : (m + m) * 2 ^ n ≡ m * 2 ^ suc n = omega (arith, ap (λ (x : ℕ). m * x) (pow-suc 2 n)) in
    subst (λ (x : ℕ). Nearest x d t) doubled (close_near n (m + m) d k j (2 * e + s) t pass next)
