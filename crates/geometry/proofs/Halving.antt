-- Rounding a small float half up. Assumes nothing.
use Rattle.std.proofs.Common.{◌≡◌, ℕ, ◌+◌, ◌-◌, ◌*◌, ◌/◌, ◌%◌, ◌^◌, ◌<◌, ◌≤◌, min, Bool, true, false, T, pos, negsuc, sym, refl, ap, ◌∙◌, subst, true≢false, le_trans, lt_of_lt_of_le, mul-le-mul_right, mod-lt, lt_of_mul-lt-mul_right, mul-lt-mul_of_pos_right, mul-pos, div-add-mod', mul_right_comm, le_of_mul-le-mul_right, arith, lit<, lit≤, lt→ltb, pow_mono, shl_lt, ltb-false, ltb-true}
use native.Mathlib.Nat.{eq_of_mul-eq-mul_right, div-eq_of_lt-le, div-le_of_le-mul}
use lib.Ieee.{Float, nan, inf, fin, binary64, up, down, round, add, sum, of_int, of_bits, lt, to_unsigned}
use lib.Ieee.Fits.{down_pos}
use lib.Ieee.Exact.{HasValue, round_exact}
use lib.Ieee.Back.{round_whole}
use lib.Ieee.Positive.{num, den, den_pos}
use Rattle.rules.specs.BucketCount.{half_up}
use Rattle.geometry.specs.Small.{Small}

-- ---- the whole part
whole : (n d : ℕ) → 0 < d → n ≤ 67108864 * d → n / d ≤ 67108864
whole n d p h = div-le_of_le-mul d {m = n} {n = 67108864} (omega arith)

uncapped : (a c : ℕ) → a ≤ 67108864 → 67108864 ≤ c → min a c ≡ a
uncapped a c h k = omega arith

pub small_part : (x : Float) → Small x → num x / den x ≤ 67108864
small_part x s = whole (num x) (den x) (den_pos x) s.most

pub whole_part : (x : Float) → Small x → to_unsigned 64 x ≡ num x / den x
unfolding to_unsigned
whole_part nan s = absurd s.value
whole_part (inf t) s = absurd s.value
whole_part (fin true m e) s = absurd (true≢false s.value.0)
whole_part (fin false m e) s = uncapped (m * up e / down e) (2 ^ 64 - 1) (small_part (fin false m e) s) (lit≤ tt)

-- ---- what `truncating_f64_to_u64` requires
above_minus_one : (d n : ℕ) → 0 < d → 0 < 1 * d + n * 1
above_minus_one d n h = omega arith

under_top : (n d : ℕ) → 0 < d → n ≤ 67108864 * d → n * 1 < 18446744073709551616 * d
under_top n d h k = omega arith

pub asked : (x : Float) → Small x → T (lt (fin true 1 (pos 0)) x) × T (lt x (fin false 1 (pos 64)))
unfolding lt
asked nan s = absurd s.value
asked (inf t) s = absurd s.value
asked (fin true m e) s = absurd (true≢false s.value.0)
asked (fin false m e) s = (
  lt→ltb 0 (1 * down e + m * up e * 1) (above_minus_one (down e) (m * up e) (down_pos e)),
  lt→ltb (m * up e * 1) (1 * 2 ^ 64 * down e) (under_top (m * up e) (down e) (down_pos e) s.most),
)

-- ---- t + 1/2, exactly

-- from one fraction to another of the same size
pub rescale : (x : Float) (s : Bool) (w l n d : ℕ) → 0 < l → n * l ≡ w * d → HasValue x s w l → HasValue x s n d
rescale nan s w l n d p h v = v
rescale (inf t) s w l n d p h v = v
rescale (fin t m e) s w l n d p h v = (
  v.0,
  eq_of_mul-eq-mul_right l p (m * up e * d) (n * down e)
      (mul_right_comm (m * up e) d l ∙ ap (λ (x : ℕ). x * d) v.1 ∙ mul_right_comm w (down e) d ∙ ap (λ (x : ℕ). x * down e) (sym h) ∙ mul_right_comm n l (down e)),
)

-- with P for 2 ^ 1073
units : (P D t n : ℕ) → n * 1 ≡ t * D → (n * 2 + 1 * D) * (P * 2) ≡ (2 * t + 1) * P * (D * 2)
units P D t n e =
    let e' : n ≡ t * D = omega arith in
    ap (λ (k : ℕ). (k * 2 + 1 * D) * (P * 2)) e' ∙ (omega arith)

halves : (D t n : ℕ) → n * 1 ≡ t * D → (2 * t + 1) * (D * 2) ≡ (n * 2 + 1 * D) * 2
halves D t n e =
    let e' : n ≡ t * D = omega arith in
    (omega arith) ∙ ap (λ (k : ℕ). (k * 2 + 1 * D) * 2) (sym e')

room : (t : ℕ) → t ≤ 67108864 → 2 * t + 1 < 2 ^ 53
room t h = omega arith

add_half : (x : Float) (t : ℕ) → t ≤ 67108864 → HasValue x false t 1 → HasValue (add binary64 x (fin false 1 (negsuc 0))) false (2 * t + 1) 2
unfolding add sum
add_half nan t h v = absurd v
add_half (inf s) t h v = absurd v
add_half (fin true m e) t h v = absurd (true≢false v.0)
add_half (fin false m e) t h v =
    let n : ℕ = m * up e * 2 + 1 * down e in
    let d : ℕ = down e * 2 in
    let D : 0 < d = mul-pos (down_pos e) (lit< tt) in
    let x = round binary64 false n d in
    let small : (2 * t + 1) * 2 ^ 1073 < 2 ^ 2098 = lt_of_lt_of_le (shl_lt {a = 2 * t + 1} 53 1073 (room t h)) (pow_mono {i = 53 + 1073} {j = 2098} (lit≤ tt)) in
    rescale x false n d (2 * t + 1) 2 D (halves (down e) t (m * up e) v.1)
    (round_exact binary64 false n d (2 * t + 1) 1073 D (room t h) small (units (2 ^ 1073) (down e) t (m * up e) v.1))

-- ---- the test q < t + 1/2

-- what the code compares with
abbrev pub half : ℕ → Float
half t = add binary64 (of_int binary64 (pos t)) (of_bits binary64 0x3fe0_0000_0000_0000)

half_is : of_bits binary64 0x3fe0_0000_0000_0000 ≡ fin false 1 (negsuc 0)
unfolding of_bits
half_is = refl

pub of_int_value : (t : ℕ) → t ≤ 2 ^ 53 → HasValue (of_int binary64 (pos t)) false t 1
unfolding of_int
of_int_value t h = round_whole binary64 false t h

half_value : (t : ℕ) → t ≤ 67108864 → HasValue (half t) false (2 * t + 1) 2
half_value t h = subst (λ (x : Float). HasValue (add binary64 (of_int binary64 (pos t)) x) false (2 * t + 1) 2) (sym half_is) (add_half (of_int binary64 (pos t)) t h (of_int_value t (le_trans h (lit≤ tt))))

-- two fractions n / d and y / f, of which the second is a / c, in the order of n / d and a / c
cross_lt : (n d y f a c : ℕ) → 0 < f → 0 < c → y * c ≡ a * f → n * f < y * d → n * c < a * d
cross_lt n d y f a c F C v h =
    let p : n * f * c < y * d * c = mul-lt-mul_of_pos_right h C in
    let r : y * c * d ≡ a * f * d = ap (λ (k : ℕ). k * d) v in
    lt_of_mul-lt-mul_right f {m = n * c} {n = a * d} (omega arith)

cross_le : (n d y f a c : ℕ) → 0 < f → y * c ≡ a * f → y * d ≤ n * f → a * d ≤ n * c
cross_le n d y f a c F v h =
    let p : y * d * c ≤ n * f * c = mul-le-mul_right c h in
    let r : y * c * d ≡ a * f * d = ap (λ (k : ℕ). k * d) v in
    le_of_mul-le-mul_right {m = a * d} {n = n * c} {k = f} (omega arith) F

pub lt_true : (x y : Float) (a c : ℕ) → Small x → 0 < c → HasValue y false a c → lt x y ≡ true → num x * c < a * den x
unfolding lt
lt_true nan y a c s C v h = absurd s.value
lt_true (inf t) y a c s C v h = absurd s.value
lt_true (fin true m e) y a c s C v h = absurd (true≢false s.value.0)
lt_true (fin false m e) nan a c s C v h = absurd v
lt_true (fin false m e) (inf t) a c s C v h = absurd v
lt_true (fin false m e) (fin true n d) a c s C v h = absurd (true≢false v.0)
lt_true (fin false m e) (fin false n d) a c s C v h = cross_lt (m * up e) (down e) (n * up d) (down d) a c (down_pos d) C v.1 (ltb-true _ _ h)

pub lt_false : (x y : Float) (a c : ℕ) → Small x → HasValue y false a c → lt x y ≡ false → a * den x ≤ num x * c
unfolding lt
lt_false nan y a c s v h = absurd s.value
lt_false (inf t) y a c s v h = absurd s.value
lt_false (fin true m e) y a c s v h = absurd (true≢false s.value.0)
lt_false (fin false m e) nan a c s v h = absurd v
lt_false (fin false m e) (inf t) a c s v h = absurd v
lt_false (fin false m e) (fin true n d) a c s v h = absurd (true≢false v.0)
lt_false (fin false m e) (fin false n d) a c s v h = cross_le (m * up e) (down e) (n * up d) (down d) a c (down_pos d) v.1 (ltb-false _ _ h)

-- ---- half up from the whole part
module _ (N D : ℕ) (pos : 0 < D) where
  low : N * 2 < (2 * (N / D) + 1) * D → (2 * N + D) / (2 * D) ≡ N / D
  low h =
      let e : N / D * D + N % D ≡ N = div-add-mod' N D in
      div-eq_of_lt-le {k = N / D} (2 * D) {m = 2 * N + D} (omega arith) (omega arith)

  high : (2 * (N / D) + 1) * D ≤ N * 2 → (2 * N + D) / (2 * D) ≡ N / D + 1
  high h =
      let e : N / D * D + N % D ≡ N = div-add-mod' N D in
      let r : N % D < D = mod-lt N pos in
      div-eq_of_lt-le {k = N / D + 1} (2 * D) {m = 2 * N + D} (omega arith) (omega arith)

pub rounds_down : (x : Float) (t : ℕ) → Small x → t ≡ to_unsigned 64 x → lt x (half t) ≡ true → t ≡ half_up x
unfolding half_up
rounds_down x t s e h =
    let e1 : t ≡ num x / den x = e ∙ whole_part x s in
    let b : t ≤ 67108864 = subst (λ (k : ℕ). k ≤ 67108864) (sym e1) (small_part x s) in
    let c : num x * 2 < (2 * t + 1) * den x = lt_true x (half t) (2 * t + 1) 2 s (lit< tt) (half_value t b) h in
    e1 ∙ sym (low (num x) (den x) (den_pos x) (subst (λ (k : ℕ). num x * 2 < (2 * k + 1) * den x) e1 c))

pub rounds_up : (x : Float) (t : ℕ) → Small x → t ≡ to_unsigned 64 x → lt x (half t) ≡ false → t + 1 ≡ half_up x
unfolding half_up
rounds_up x t s e h =
    let e1 : t ≡ num x / den x = e ∙ whole_part x s in
    let b : t ≤ 67108864 = subst (λ (k : ℕ). k ≤ 67108864) (sym e1) (small_part x s) in
    let c : (2 * t + 1) * den x ≤ num x * 2 = lt_false x (half t) (2 * t + 1) 2 s (half_value t b) h in
    ap (λ (k : ℕ). k + 1) e1 ∙ sym (high (num x) (den x) (den_pos x) (subst (λ (k : ℕ). (2 * k + 1) * den x ≤ num x * 2) e1 c))

pub part_small : (x : Float) (t : ℕ) → Small x → t ≡ to_unsigned 64 x → t ≤ 67108864
part_small x t s e = subst (λ (k : ℕ). k ≤ 67108864) (sym (e ∙ whole_part x s)) (small_part x s)
