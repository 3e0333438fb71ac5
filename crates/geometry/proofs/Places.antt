-- What the code of positions leans on: a bucket's first slice by the halves of Q, a layout's shift, and two masks in place of one remainder. Assumes nothing.
use Rattle.std.proofs.Common.{◌≡◌, ℕ, ◌+◌, ◌-◌, ◌*◌, ◌/◌, ◌%◌, ◌^◌, ◌<◌, ◌≤◌, sym, ap, ◌∙◌, subst, le_trans, lt_of_lt_of_le, mul-le-mul_right, mod-eq_of_lt, mul_assoc, mul-lt-mul_of_pos_right, div-add-mod', le-div_iff_mul-le, mul-add, arith, pow_pos, pow_mono, shl_lt}
use native.Mathlib.Nat.{mul-div-le, mod-add-mod, mul-add-div_right, div-le_of_le-mul}
use lib.Bits.{bit_and, and_mask}
use Rattle.rules.specs.declared.Settings.{Settings}
use Rattle.rules.specs.Geometry as G

-- b * Q / 2 ^ 64 by the halves of Q
pub first_halves : (b q : ℕ) → b * (q / 2 ^ 64) + b * (q % 2 ^ 64) / 2 ^ 64 ≡ b * q / 2 ^ 64
first_halves b q =
    let e : q / 2 ^ 64 * 2 ^ 64 + q % 2 ^ 64 ≡ q = div-add-mod' q (2 ^ 64) in
    let w : b * (q / 2 ^ 64) * 2 ^ 64 + b * (q % 2 ^ 64) ≡ b * q = ap (λ (n : ℕ). n + b * (q % 2 ^ 64)) (mul_assoc b (q / 2 ^ 64) (2 ^ 64)) ∙ sym (mul-add b (q / 2 ^ 64 * 2 ^ 64) (q % 2 ^ 64)) ∙ ap (λ (n : ℕ). b * n) e in
    sym (mul-add-div_right {m = 2 ^ 64} (pow_pos 64) (b * (q / 2 ^ 64)) (b * (q % 2 ^ 64))) ∙ ap (λ (n : ℕ). n / 2 ^ 64) w

-- a bucket's first slice is at most ns
pub first_high : (s : Settings) (b : ℕ) → b ≤ s.buckets → G.first s b ≤ G.slices s
unfolding G.first G.quotient
first_high s b h =
    let q : ℕ = G.slices s * 2 ^ 64 / s.buckets in
    let a : b * q ≤ s.buckets * q = mul-le-mul_right q h in
    div-le_of_le-mul (2 ^ 64) {m = b * q} {n = G.slices s} (le_trans a (le_trans (mul-div-le (G.slices s * 2 ^ 64) s.buckets) (omega arith)))

-- a layout's shift is below 64
pub shift_lt : (r L : ℕ) → r < L → 1 ≤ L → L ≤ 64 → r * (64 / L) < 64
shift_lt r L lt lo hi =
    let b : 1 ≤ 64 / L = (le-div_iff_mul-le {k = L} {x = 1} {y = 64} lo).1 (omega arith) in
    let p : r * (64 / L) < L * (64 / L) = mul-lt-mul_of_pos_right lt b in
    lt_of_lt_of_le p (mul-div-le 64 L)

-- a seed's shift
pub seed_lt : (v k : ℕ) → v < 2 ^ 16 → k ≤ 16 → v * 2 ^ k < 2 ^ 32
seed_lt v k hv hk = lt_of_lt_of_le (shl_lt {a = v} 16 k hv) (pow_mono {i = 16 + k} {j = 32} (omega arith))

-- the two masks take the remainder of the whole sum
pub masked : (l k x y : ℕ) → l ≡ 2 ^ k → y < 2 ^ 64 → bit_and (bit_and x (l - 1) + y % 2 ^ 64) (l - 1) ≡ (x + y) % l
masked l k x y e h =
    subst (λ (n : ℕ). bit_and (bit_and x (n - 1) + y % 2 ^ 64) (n - 1) ≡ (x + y) % n) (sym e)
    (and_mask (bit_and x (2 ^ k - 1) + y % 2 ^ 64) k
    ∙ ap (λ (n : ℕ). (n + y % 2 ^ 64) % 2 ^ k) (and_mask x k)
    ∙ ap (λ (n : ℕ). (x % 2 ^ k + n) % 2 ^ k) (mod-eq_of_lt h)
    ∙ mod-add-mod x (2 ^ k) y)
