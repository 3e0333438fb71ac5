-- The test of a bucket size, and the quotient of the keys by it. Assumes nothing.
use Rattle.std.proofs.Common.{◌≡◌, ℕ, zero, suc, ◌*◌, ◌^◌, ◌<◌, ◌≤◌, Bool, true, false, cond, ◌&&◌, ◌||◌, T, eqb, ltb, leb, ◌⊎◌, pos, sym, refl, ap, ◌∙◌, subst, ap₂, inl, inr, true≢false, le_trans, le_of_eq, lt_of_lt_of_le, mul-le-mul_right, eq-zero-or-pos, eq-or-lt_of_le, mul-le-mul_left, mul-pos, ne_of_gt, zero-mul, mul-one, le_of_mul-le-mul_right, arith, lit<, lit≤, ltb→lt, lt→ltb, le-ltb, lt-ltb, eq-eqb, ne_eqb, le-leb, leb-true}
use native.Mathlib.Decide.{dec_le}
use borrow.Author.Tests.{lt-leb}
use lib.Ieee.{Float, nan, inf, fin, binary64, up, down, round, div, of_int, of_bits, lt, eq, le}
use lib.Ieee.Fits.{down_pos, up_pos}
use lib.Ieee.Exact.{HasValue, round_exact}
use lib.Ieee.Back.{round_whole}
use lib.Ieee.Order.{round_mono}
use lib.Ieee.Scale.{round_same}
use lib.Ieee.Positive.{num, den, den_pos, positive, own_value, value→cross, positive_of_value, between, le→cross}
use Rattle.rules.specs.BucketCount.{size_fits, quotient_float}
use Rattle.geometry.specs.Small.{Small}

-- ---- tests of numbers

leb_same : (a b c d : ℕ) → (a ≤ b → c ≤ d) → (c ≤ d → a ≤ b) → leb a b ≡ leb c d
leb_same a b c d f g = go (dec_le a b)
  where
    go : Dec (a ≤ b) → leb a b ≡ leb c d
    go (yes h) = le-leb a b h ∙ sym (le-leb c d (f h))
    go (no n) =
        let m : b < a = omega arith in
        let n' : c ≤ d → ⊥ = λ k. n (g k) in
        lt-leb a b m ∙ sym (lt-leb c d (omega (arith, n')))

-- `le` of two values that are not negative
le_test : (a b : ℕ) (u : Bool) → (ltb a b || (eqb a b && (true || u))) ≡ leb a b
le_test a b u = go (dec_le a b)
  where
    both : (a ≡ b) ⊎ (a < b) → a ≤ b → (ltb a b || (eqb a b && (true || u))) ≡ leb a b
    both (inl e) h = simp (le-ltb a b (le_of_eq (sym e)), eq-eqb a b e, le-leb a b h)
    both (inr l) h = simp (lt-ltb a b l, le-leb a b h)

    go : Dec (a ≤ b) → (ltb a b || (eqb a b && (true || u))) ≡ leb a b
    go (yes h) = both (eq-or-lt_of_le h) h
    go (no n) =
        let m : b < a = omega arith in
        simp (le-ltb a b (omega arith), ne_eqb a b (ne_of_gt m), lt-leb a b m)

and_false : (x : Bool) → (x && false) ≡ false
and_false true = refl
and_false false = refl

-- ---- the size's test

abbrev one : Float
one = fin false 1 (pos 0)

pub one_is : of_bits binary64 0x3ff0_0000_0000_0000 ≡ one
unfolding of_bits
one_is = refl

-- a / d ≥ 1
at_least : (n d : ℕ) → leb d n ≡ leb (1 * d) (n * 1)
at_least n d = leb_same d n (1 * d) (n * 1) (λ h. omega arith) (λ h. omega arith)

-- n / d ≤ y / f, which is c / 1
at_most : (n d y f c : ℕ) → 0 < f → y * 1 ≡ c * f → leb n (c * d) ≡ leb (n * f) (y * d)
at_most n d y f c F v =
    let v' : y ≡ c * f = omega arith in
    leb_same n (c * d) (n * f) (y * d)
    (λ h. let p : n * f ≤ c * d * f = mul-le-mul_right f h in subst (λ (k : ℕ). n * f ≤ k * d) (sym v') (omega arith))
    (λ h. let q : n * f ≤ c * f * d = subst (λ (k : ℕ). n * f ≤ k * d) v' h in le_of_mul-le-mul_right {m = n} {n = c * d} {k = f} (omega arith) F)

pub size_fits_is : (cap : ℕ) (z y : Float) → HasValue y false cap 1 → size_fits cap z ≡ (le one z && le z y)
unfolding size_fits le lt eq
size_fits_is cap nan y v = refl
size_fits_is cap (inf true) y v = refl
size_fits_is cap (inf false) nan v = absurd v
size_fits_is cap (inf false) (inf t) v = absurd v
size_fits_is cap (inf false) (fin t n d) v = refl
size_fits_is cap (fin true m e) y v =
    let h : eqb (1 * down e) 0 ≡ false = ne_eqb (1 * down e) 0 (not_zero (down e) (down_pos e)) in
    sym (ap (λ (b : Bool). (eqb (1 * down e) (m * up e * 1) && b) && le (fin true m e) y) h ∙ ap (λ (b : Bool). b && le (fin true m e) y) (and_false (eqb (1 * down e) (m * up e * 1))))
  where
    not_zero : (d : ℕ) → 0 < d → 1 * d ≡ 0 → ⊥
    not_zero d p q = omega arith
size_fits_is cap (fin false m e) nan v = absurd v
size_fits_is cap (fin false m e) (inf t) v = absurd v
size_fits_is cap (fin false m e) (fin true n d) v = absurd (true≢false v.0)
size_fits_is cap (fin false m e) (fin false n d) v =
    ap₂ ◌&&◌ (at_least (m * up e) (down e) ∙ sym (le_test (1 * down e) (m * up e * 1) (eqb (1 * down e) 0)))
    (at_most (m * up e) (down e) (n * up d) (down d) cap (down_pos d) v.1 ∙ sym (le_test (m * up e * down d) (n * up d * down e) (eqb (m * up e * down d) 0)))

-- a size that passes is finite and above 0, at least 1 and at most cap
pub record Sizes (cap : ℕ) (z : Float) : Type 0 where
  pub above : T (positive z)
  pub least : den z ≤ num z
  pub most : num z ≤ cap * den z

and_both : (a b : Bool) → (a && b) ≡ true → (a ≡ true) × (b ≡ true)
and_both true b h = (refl, h)
and_both false b h = absurd (true≢false (sym h))

pub sizes : (cap : ℕ) (z : Float) → size_fits cap z ≡ true → Sizes cap z
unfolding size_fits
sizes cap nan h = absurd (true≢false (sym h))
sizes cap (inf s) h = absurd (true≢false (sym h))
sizes cap (fin true m e) h = absurd (true≢false (sym h))
sizes cap (fin false m e) h =
    let p = and_both (leb (down e) (m * up e)) (leb (m * up e) (cap * down e)) h in
    let l : down e ≤ m * up e = leb-true (down e) (m * up e) p.0 in
    record {
      above = lt→ltb 0 m (first m (up e) (lt_of_lt_of_le (down_pos e) l));
      least = l;
      most = leb-true (m * up e) (cap * down e) p.1;
    }
  where
    first : (n u : ℕ) → 0 < n * u → 0 < n
    first zero u q = absurd (ne_of_gt q (zero-mul u))
    first (suc n) u q = omega arith

-- ---- the quotient: the machine divides the float k by the size, and rounds the exact fraction once

same_fraction : (n u d k f : ℕ) → n * 1 ≡ k * u → n * d * f ≡ k * d * (f * u)
same_fraction n u d k f v =
    let v' : n ≡ k * u = omega arith in
    ap (λ (x : ℕ). x * d * f) v' ∙ (omega arith)

pub div_is : (x z : Float) (k : ℕ) → HasValue x false k 1 → T (positive z) → div binary64 x z ≡ quotient_float k z
unfolding div quotient_float
div_is nan z k v p = absurd v
div_is (inf s) z k v p = absurd v
div_is (fin true m e) z k v p = absurd (true≢false v.0)
div_is (fin false m e) nan k v p = absurd p
div_is (fin false m e) (inf t) k v p = absurd p
div_is (fin false m e) (fin true n d) k v p = absurd p
div_is (fin false m e) (fin false n d) k v p =
    let h : 0 < n = ltb→lt 0 n p in
    let z : eqb n 0 ≡ false = ne_eqb n 0 (ne_of_gt h) in
    ap (λ (b : Bool). cond b (cond (eqb m 0) nan (inf false)) (round binary64 false (m * up e * down d) (n * up d * down e))) z
    ∙ round_same binary64 false (m * up e * down d) (n * up d * down e) (k * down d) (n * up d) (mul-pos (mul-pos h (up_pos d)) (down_pos e)) (mul-pos h (up_pos d))
    (same_fraction (m * up e) (down e) (down d) k (n * up d) v.1)

-- ---- the quotient is finite, not negative and at most k

own : (x : Float) (a c : ℕ) → HasValue x false a c → HasValue x false (num x) (den x)
own nan a c v = v
own (inf t) a c v = v
own (fin t m e) a c v = (v.0, refl)

num_pos : (z : Float) (cap : ℕ) → Sizes cap z → 0 < num z
num_pos z cap s = lt_of_lt_of_le (den_pos z) s.least

-- a product with a factor above 0 that is 0
none : (n f d : ℕ) → 0 < f → n * f ≡ 0 * d → n ≡ 0
none zero f d p h = refl
none (suc n) f d p h = let z : suc n * f ≡ 0 = h ∙ zero-mul d in absurd (ne_of_gt (mul-pos {m = suc n} {n = f} (omega arith) p) z)

quotient_zero : (z : Float) (cap : ℕ) → Sizes cap z → Small (quotient_float 0 z)
unfolding quotient_float
quotient_zero z cap s =
    let q = round binary64 false (0 * den z) (num z) in
    let v : HasValue q false (0 * den z) (num z) =
    round_exact binary64 false (0 * den z) (num z) 0 0 (num_pos z cap s) (lit< tt) (lit< tt) (ap (λ (k : ℕ). k * 2 ^ 1074) (zero-mul (den z)) ∙ zero-mul (2 ^ 1074) ∙ sym (zero-mul (num z))) in
    let c : num q * num z ≡ 0 * den z * den q = value→cross q (0 * den z) (num z) v in
    let n : num q ≡ 0 = none (num q) (num z) (den q) (num_pos z cap s) (c ∙ ap (λ (k : ℕ). k * den q) (zero-mul (den z))) in
    record { value = own q (0 * den z) (num z) v; most = subst (λ (k : ℕ). k ≤ 67108864 * den q) (sym n) (omega arith) }

-- 1 / 64
least_float : Float
least_float = round binary64 false 1 64

bound : (n f k d : ℕ) → 0 < f → n * f ≤ k * f * d → n ≤ k * d
bound n f k d F h = le_of_mul-le-mul_right {m = n} {n = k * d} {k = f} (omega arith) F

quotient_some : (k : ℕ) (z : Float) → 0 < k → k ≤ 67108864 → Sizes 64 z → Small (quotient_float k z)
unfolding quotient_float
quotient_some k z K L s =
    let q = round binary64 false (k * den z) (num z) in
    let lo = round binary64 false 1 64 in
    let hi = round binary64 false k 1 in
    let vlo : HasValue lo false 1 64 = round_exact binary64 false 1 64 1 1068 (lit< tt) (lit< tt) (lit< tt) refl in
    let vhi : HasValue hi false k 1 = round_whole binary64 false k (le_trans L (lit≤ tt)) in
    let plo : T (positive lo) = positive_of_value lo 1 64 vlo (lit< tt) in
    let phi : T (positive hi) = positive_of_value hi k 1 vhi K in
    let n64 : num z ≤ 64 * den z = s.most in
    let dn : den z ≤ num z = s.least in
    let kd : 1 * den z ≤ k * den z = mul-le-mul_right (den z) K in
    let kn : k * den z ≤ k * num z = mul-le-mul_left k dn in
    let l1 : T (le lo q) = round_mono binary64 1 64 (k * den z) (num z) (lit< tt) (num_pos z 64 s) (omega arith) in
    let l2 : T (le q hi) = round_mono binary64 (k * den z) (num z) k 1 (num_pos z 64 s) (lit< tt) (omega arith) in
    let pq : T (positive q) = between lo q hi plo phi l1 l2 in
    let c : num q * den hi ≤ num hi * den q = le→cross q hi pq phi l2 in
    let h : num hi ≡ k * den hi = sym (mul-one (num hi)) ∙ value→cross hi k 1 vhi in
    let c' : num q * den hi ≤ k * den hi * den q = subst (λ (x : ℕ). num q * den hi ≤ x * den q) h c in
    let b : num q ≤ k * den q = bound (num q) (den hi) k (den q) (den_pos hi) c' in
    record { value = own_value q pq; most = le_trans b (mul-le-mul_right (den q) L) }

pub quotient_small : (k cap : ℕ) (z : Float) → k ≤ 67108864 → cap ≤ 64 → Sizes cap z → Small (quotient_float k z)
quotient_small k cap z L C s = go (eq-zero-or-pos k)
  where
    wider : Sizes 64 z
    wider = record { above = s.above; least = s.least; most = le_trans s.most (mul-le-mul_right (den z) C) }

    go : (k ≡ zero) ⊎ (zero < k) → Small (quotient_float k z)
    go (inl e) = subst (λ (n : ℕ). Small (quotient_float n z)) (sym e) (quotient_zero z cap s)
    go (inr p) = quotient_some k z p L wider

-- the tests as the code makes them
cap_value : (cap : ℕ) → cap ≤ 64 → HasValue (of_int binary64 (pos cap)) false cap 1
unfolding of_int
cap_value cap h = round_whole binary64 false cap (le_trans h (lit≤ tt))

pub by_tests : (cap : ℕ) (z : Float) → cap ≤ 64 → size_fits cap z ≡ (le (of_bits binary64 0x3ff0_0000_0000_0000) z && le z (of_int binary64 (pos cap)))
by_tests cap z h =
    size_fits_is cap z (of_int binary64 (pos cap)) (cap_value cap h)
    ∙ ap (λ (o : Float). le o z && le z (of_int binary64 (pos cap))) (sym one_is)

-- the machine's quotient
pub quotient_is : (k : ℕ) (z : Float) → k ≤ 67108864 → T (positive z) → div binary64 (of_int binary64 (pos k)) z ≡ quotient_float k z
unfolding of_int
quotient_is k z h p = div_is (of_int binary64 (pos k)) z k (round_whole binary64 false k (le_trans h (lit≤ tt))) p
