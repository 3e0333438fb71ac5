-- Integers for `omega`, which reads naturals only: z is `up z` less `dn z`, two naturals of which one is 0. Each operation and each test is one
-- linear fact of them, by cases on the signs. Assumes nothing.
use Rattle.std.specs.Prelude.{◌≡◌, refl, Bool, true, false, not, cond, ℕ, zero, suc, ◌+◌, ◌*◌, ◌-◌, ◌<◌, ◌≤◌, ◌^◌, min, T, ltb, leb, ℤ, pos, negsuc, neg_ℤ, nat_abs, ◌+ℤ◌, ◌-ℤ◌, ◌*ℤ◌}
use Rattle.std.proofs.Common.{sym, ap, ◌∙◌, subst, arith, ltb-true, ltb-false, leb-true, leb-false, lt-ltb, le-ltb, SFits}
use Rattle.std.proofs.Math.IntN.{sub_ℕ}
use Rattle.std.specs.Int.Signed.{lt_z, le_z}
use Rattle.std.specs.Int.{w64}

abbrev pub up : ℤ → ℕ
up (pos n) = n
up (negsuc n) = 0

abbrev pub dn : ℤ → ℕ
dn (pos n) = 0
dn (negsuc n) = suc n

-- z held to at most k and at least -k
unfoldable pub held : ℕ → ℤ → ℤ
held k z = cond (lt_z (pos k) z) (pos k) (cond (lt_z z (neg_ℤ (pos k))) (neg_ℤ (pos k)) z)

-- ---- sums, differences, products

sub_by : (a b : ℕ) (t : Bool) → ltb a b ≡ t → up (cond t (negsuc (b - suc a)) (pos (a - b))) + b ≡ dn (cond t (negsuc (b - suc a)) (pos (a - b))) + a
sub_by a b true e = omega (arith, ltb-true a b e)
sub_by a b false e = omega (arith, ltb-false a b e)

pub sub_nat : (a b : ℕ) → up (sub_ℕ a b) + b ≡ dn (sub_ℕ a b) + a
sub_nat a b = sub_by a b (ltb a b) refl

pub add_is : (x y : ℤ) → up (x +ℤ y) + dn x + dn y ≡ dn (x +ℤ y) + up x + up y
add_is (pos a) (pos b) = omega arith
add_is (pos a) (negsuc b) = omega (arith, sub_nat a (suc b))
add_is (negsuc a) (pos b) = omega (arith, sub_nat b (suc a))
add_is (negsuc a) (negsuc b) = omega arith

pub neg_up : (x : ℤ) → up (neg_ℤ x) ≡ dn x
neg_up (pos zero) = refl
neg_up (pos (suc n)) = refl
neg_up (negsuc n) = refl

pub neg_dn : (x : ℤ) → dn (neg_ℤ x) ≡ up x
neg_dn (pos zero) = refl
neg_dn (pos (suc n)) = refl
neg_dn (negsuc n) = refl

pub sub_is : (x y : ℤ) → up (x -ℤ y) + dn x + up y ≡ dn (x -ℤ y) + up x + dn y
sub_is x y = omega (arith, add_is x (neg_ℤ y), neg_up y, neg_dn y)

pub mul-up : (x : ℤ) (k : ℕ) → up (x *ℤ pos k) ≡ up x * k
mul-up (pos a) k = refl
mul-up (negsuc a) k = omega (arith, neg_up (pos (suc a * k)))

pub mul_dn : (x : ℤ) (k : ℕ) → dn (x *ℤ pos k) ≡ dn x * k
mul_dn (pos a) k = omega arith
mul_dn (negsuc a) k = omega (arith, neg_dn (pos (suc a * k)))

-- ---- equality and order, with the tests as equations

pub eq_by : (x y : ℤ) → up x + dn y ≡ up y + dn x → x ≡ y
eq_by (pos a) (pos b) e = ap pos (omega arith)
eq_by (pos a) (negsuc b) e = absurd (omega arith)
eq_by (negsuc a) (pos b) e = absurd (omega arith)
eq_by (negsuc a) (negsuc b) e = ap negsuc (omega arith)

never : {X : Type 0} → true ≡ false → X
never e = absurd (subst T e tt)

pub lt_true : (x y : ℤ) → lt_z x y ≡ true → up x + dn y < up y + dn x
lt_true (pos a) (pos b) e = omega (arith, ltb-true a b e)
lt_true (pos a) (negsuc b) e = never (sym e)
lt_true (negsuc a) (pos b) e = omega arith
lt_true (negsuc a) (negsuc b) e = omega (arith, ltb-true b a e)

pub lt_false : (x y : ℤ) → lt_z x y ≡ false → up y + dn x ≤ up x + dn y
lt_false (pos a) (pos b) e = omega (arith, ltb-false a b e)
lt_false (pos a) (negsuc b) e = omega arith
lt_false (negsuc a) (pos b) e = never e
lt_false (negsuc a) (negsuc b) e = omega (arith, ltb-false b a e)

pub lt_by : (x y : ℤ) → up x + dn y < up y + dn x → lt_z x y ≡ true
lt_by (pos a) (pos b) h = lt-ltb a b (omega arith)
lt_by (pos a) (negsuc b) h = absurd (omega arith)
lt_by (negsuc a) (pos b) h = refl
lt_by (negsuc a) (negsuc b) h = lt-ltb b a (omega arith)

pub ge_by : (x y : ℤ) → up y + dn x ≤ up x + dn y → lt_z x y ≡ false
ge_by (pos a) (pos b) h = le-ltb a b (omega arith)
ge_by (pos a) (negsuc b) h = refl
ge_by (negsuc a) (pos b) h = absurd (omega arith)
ge_by (negsuc a) (negsuc b) h = le-ltb b a (omega arith)

-- `le_z x y` is the other way round of `lt_z y x`
pub le_is : (x y : ℤ) → le_z x y ≡ not (lt_z y x)
le_is (pos a) (pos b) = by (leb a b) refl
  where
    by : (t : Bool) → leb a b ≡ t → leb a b ≡ not (ltb b a)
    by true e = e ∙ ap not (sym (le-ltb b a (leb-true a b e)))
    by false e = e ∙ ap not (sym (lt-ltb b a (leb-false a b e)))
le_is (pos a) (negsuc b) = refl
le_is (negsuc a) (pos b) = refl
le_is (negsuc a) (negsuc b) = by (leb b a) refl
  where
    by : (t : Bool) → leb b a ≡ t → leb b a ≡ not (ltb a b)
    by true e = e ∙ ap not (sym (le-ltb a b (leb-true b a e)))
    by false e = e ∙ ap not (sym (lt-ltb a b (leb-false b a e)))

pub le_true : (x y : ℤ) → le_z x y ≡ true → up x + dn y ≤ up y + dn x
le_true x y e = lt_false y x (flip (lt_z y x) (sym (le_is x y) ∙ e))
  where
    flip : (t : Bool) → not t ≡ true → t ≡ false
    flip true e = never (sym e)
    flip false e = refl

pub le_false : (x y : ℤ) → le_z x y ≡ false → up y + dn x < up x + dn y
le_false x y e = lt_true y x (flip (lt_z y x) (sym (le_is x y) ∙ e))
  where
    flip : (t : Bool) → not t ≡ false → t ≡ true
    flip true e = refl
    flip false e = never e

pub le_by : (x y : ℤ) → up x + dn y ≤ up y + dn x → le_z x y ≡ true
le_by x y h = le_is x y ∙ ap not (ge_by y x h)

pub gt_by : (x y : ℤ) → up y + dn x < up x + dn y → le_z x y ≡ false
gt_by x y h = le_is x y ∙ ap not (lt_by y x h)

-- ---- the same tests as `T`

yes_true : (t : Bool) → T t → t ≡ true
yes_true true h = refl
yes_true false h = absurd h

no_false : (t : Bool) → T (not t) → t ≡ false
no_false true h = absurd h
no_false false h = refl

pub lt_yes : (x y : ℤ) → T (lt_z x y) → up x + dn y < up y + dn x
lt_yes x y t = lt_true x y (yes_true (lt_z x y) t)

pub lt_no : (x y : ℤ) → T (not (lt_z x y)) → up y + dn x ≤ up x + dn y
lt_no x y t = lt_false x y (no_false (lt_z x y) t)

pub yes_lt : (x y : ℤ) → up x + dn y < up y + dn x → T (lt_z x y)
yes_lt x y h = subst T (sym (lt_by x y h)) tt

pub no_lt : (x y : ℤ) → up y + dn x ≤ up x + dn y → T (not (lt_z x y))
no_lt x y h = subst (λ (t : Bool). T (not t)) (sym (ge_by x y h)) tt

pub le_yes : (x y : ℤ) → T (le_z x y) → up x + dn y ≤ up y + dn x
le_yes x y t = le_true x y (yes_true (le_z x y) t)

pub yes_le : (x y : ℤ) → up x + dn y ≤ up y + dn x → T (le_z x y)
yes_le x y h = subst T (sym (le_by x y h)) tt

-- ---- ranges

pub abs_is : (z : ℤ) → nat_abs z ≡ up z + dn z
abs_is (pos n) = omega arith
abs_is (negsuc n) = omega arith

-- one of the parts is 0
pub one_side : (z : ℤ) → min (up z) (dn z) ≡ 0
one_side (pos n) = omega arith
one_side (negsuc n) = omega arith

-- z from -q to p
pub between : (z : ℤ) (p q : ℕ) → up z ≤ dn z + p → dn z ≤ up z + q → (up z ≤ p) × (dn z ≤ q)
between z p q h k = (omega (arith, one_side z), omega (arith, one_side z))

pub abs_le : (z : ℤ) (k : ℕ) → up z ≤ dn z + k → dn z ≤ up z + k → nat_abs z ≤ k
abs_le z k h j = omega (arith, one_side z, abs_is z)

pub sfits_by : (z : ℤ) → up z < dn z + 2 ^ 63 → dn z ≤ up z + 2 ^ 63 → SFits w64 z
sfits_by (pos n) h k = record { sfits = omega arith }
sfits_by (negsuc n) h k = record { sfits = omega arith }

pub small_fits : (z : ℤ) → nat_abs z < 2 ^ 63 → SFits w64 z
small_fits z h = sfits_by z (omega (arith, abs_is z)) (omega (arith, abs_is z))

-- ---- held

-- the two tests, and what they choose
pub record HeldAs (k : ℕ) (z r : ℤ) : Type 0 where
  pub ups : up r ≡ min (up z) k
  pub dns : dn r ≡ min (dn z) k

held_by : (k : ℕ) (z : ℤ) (s t : Bool) → lt_z (pos k) z ≡ s → lt_z z (neg_ℤ (pos k)) ≡ t
    → HeldAs k z (cond s (pos k) (cond t (neg_ℤ (pos k)) z))
held_by k z true t p q = let h = lt_true (pos k) z p in record { ups = omega (arith, one_side z); dns = omega (arith, one_side z) }
held_by k z false true p q =
    let h = lt_true z (neg_ℤ (pos k)) q in
    let u = neg_up (pos k) in
    let d = neg_dn (pos k) in
    record { ups = omega (arith, one_side z); dns = omega (arith, one_side z) }
held_by k z false false p q =
    let g = lt_false (pos k) z p in
    let h = lt_false z (neg_ℤ (pos k)) q in
    let u = neg_up (pos k) in
    let d = neg_dn (pos k) in
    record { ups = omega (arith, one_side z); dns = omega (arith, one_side z) }

pub held_is : (k : ℕ) (z : ℤ) → HeldAs k z (held k z)
unfolding held
held_is k z = held_by k z (lt_z (pos k) z) (lt_z z (neg_ℤ (pos k))) refl refl

pub held_abs : (k : ℕ) (z : ℤ) → nat_abs (held k z) ≤ k
held_abs k z = abs_le (held k z) k (omega (arith, (held_is k z).ups)) (omega (arith, (held_is k z).dns))
