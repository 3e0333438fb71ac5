-- Quotients and remainders by a divisor that is a variable, where the kit's libraries stop: bounds of a quotient, long division one digit at a
-- time, sums of two remainders, and turns of a ring. Each follows from x ≡ x / n * n + x % n with x % n < n. Assumes nothing.
use Rattle.std.specs.Prelude.{◌≡◌, ◌⊎◌, ℕ, zero, suc, ◌+◌, ◌-◌, ◌*◌, ◌/◌, ◌%◌, ◌^◌, ◌≤◌, ◌<◌, min}
use Rattle.std.proofs.Common.{sym, ap, ap₂, ◌∙◌, subst, inl, inr, add-mul, add_comm, mul_assoc, add-zero, zero-mul, sub-add_cancel, mul-lt-mul_of_pos_right, div-add-mod', mod-lt, mod-eq_of_lt, div-lt_iff_lt-mul, le-div_iff_mul-le, lt_of_mul-lt-mul_right, mul-div_cancel, arith, pow_pos, pow-add}
use Rattle.std.proofs.Math.Nat.{sub_self, min-eq_left, min-eq_right, mod-one, mod-eq-sub-mod, div-eq_of_lt-le, div-le_of_le-mul, add-mul-div_right, add-mul-mod_self_right}
use Rattle.std.proofs.Math.Decide.{dec_le}
use Rattle.std.proofs.Math.Arith.{mod-mul}
use Rattle.std.proofs.Math.Pow.{mod-mod-pow, field}

-- ---- bounds

pub div_bounds : (x n q : ℕ) → 0 < n → x / n ≡ q → (q * n ≤ x) × (x < q * n + n)
div_bounds x n q h e =
    let d : x / n * n + x % n ≡ x = div-add-mod' x n in
    (omega (arith, ap (λ (k : ℕ). k * n) e), omega (arith, ap (λ (k : ℕ). k * n) e, mod-lt x h))

pub div_mono : {x y : ℕ} (n : ℕ) → 0 < n → x ≤ y → x / n ≤ y / n
div_mono {x} {y} n h le =
    let d : x / n * n + x % n ≡ x = div-add-mod' x n in
    (le-div_iff_mul-le {k = n} {x = x / n} {y = y} h).1 (omega arith)

-- a quotient that is rounded up
pub ceil_bounds : (x n q : ℕ) → 0 < n → (x + (n - 1)) / n ≡ q → (x ≤ q * n) × (q * n < x + n)
ceil_bounds x n q h e = let b = div_bounds (x + (n - 1)) n q h e in (omega arith, omega arith)

-- a part of c, such as h * c / 2 ^ 64
pub part_lt : (x c n : ℕ) → x < n → 0 < c → x * c / n < c
part_lt x c n h pos =
    let p : x * c < n * c = mul-lt-mul_of_pos_right h pos in
    (div-lt_iff_lt-mul {k = n} {x = x * c} {y = c} (omega arith)).1 (omega arith)

pub part_le : (x c n : ℕ) → x < n → x * c / n ≤ c - 1
part_le x zero n h = div-le_of_le-mul n {m = x * 0} {n = 0} (omega arith)
part_le x (suc c) n h = omega (arith, part_lt x (suc c) n h (omega arith))

-- ---- long division

-- to divide a * c by n, divide a, and carry its remainder to the next digit
pub carry : (a c n : ℕ) → 0 < n → a * c / n ≡ a / n * c + a % n * c / n
carry a c n hn =
    let q1 : ℕ = a / n in
    let r1 : ℕ = a % n in
    let q0 : ℕ = r1 * c / n in
    let r0 : ℕ = r1 * c % n in
    let e1 : q1 * n + r1 ≡ a = div-add-mod' a n in
    let e0 : q0 * n + r0 ≡ r1 * c = div-add-mod' (r1 * c) n in
    let b0 : r0 < n = mod-lt (r1 * c) hn in
    let m1 : a * c ≡ q1 * n * c + r1 * c = ap (λ (x : ℕ). x * c) (sym e1) ∙ add-mul (q1 * n) r1 c in
    div-eq_of_lt-le {k = q1 * c + q0} n {m = a * c} (omega arith) (omega arith)

-- the digits of r / n to the base c, two of them
pub two_digits : (r c n : ℕ) → 0 < n → r * c / n * c + r * c % n * c / n ≡ r * (c * c) / n
two_digits r c n h = sym (carry (r * c) c n h) ∙ ap (λ (x : ℕ). x / n) (mul_assoc r c c)

-- ---- sums of remainders, and numbers that lie close to each other

pub mod_once : (n x : ℕ) → n ≤ x → x < n + n → x % n ≡ x - n
mod_once n x h lt = mod-eq-sub-mod h ∙ mod-eq_of_lt (omega arith)

pub mod_cases : (n x : ℕ) → x < n + n → ((x < n) × (x % n ≡ x)) ⊎ ((n ≤ x) × (x % n ≡ x - n))
mod_cases n x h = by (dec_le n x)
  where
    by : Dec (n ≤ x) → ((x < n) × (x % n ≡ x)) ⊎ ((n ≤ x) × (x % n ≡ x - n))
    by (yes p) = inr (p, mod_once n x p h)
    by (no p) = let l : x < n = omega arith in inl (l, mod-eq_of_lt l)

-- equal remainders less than n apart are of equal numbers
pub mod_apart : (n p q : ℕ) → p ≤ q → q < p + n → p % n ≡ q % n → p ≡ q
mod_apart n p q le lt e =
    let dp : p / n * n + p % n ≡ p = div-add-mod' p n in
    let dq : q / n * n + q % n ≡ q = div-add-mod' q n in
    let up : q / n < p / n + 1 = lt_of_mul-lt-mul_right n {m = q / n} {n = p / n + 1} (omega arith) in
    let down : p / n < q / n + 1 = lt_of_mul-lt-mul_right n {m = p / n} {n = q / n + 1} (omega (arith, mod-lt q (positive n p q le lt))) in
    let same : p / n ≡ q / n = omega arith in
    omega (arith, ap (λ (k : ℕ). k * n) same)
  where
    positive : (n p q : ℕ) → p ≤ q → q < p + n → 0 < n
    positive n p q le lt = omega arith

-- ---- powers of two

pub pow_split : (a b : ℕ) → b ≤ a → 2 ^ a ≡ 2 ^ (a - b) * 2 ^ b
pow_split a b h = ap (λ (n : ℕ). 2 ^ n) (sym (sub-add_cancel {n = a} {m = b} h)) ∙ pow-add 2 (a - b) b

pub pow_div : (a b : ℕ) → b ≤ a → 2 ^ a / 2 ^ b ≡ 2 ^ (a - b)
pow_div a b h = ap (λ (n : ℕ). n / 2 ^ b) (pow_split a b h) ∙ mul-div_cancel (2 ^ (a - b)) (pow_pos b)

-- a shorter remainder of a longer one, and its upper digits
pub mod_mod_le : (x a b : ℕ) → b ≤ a → x % 2 ^ a % 2 ^ b ≡ x % 2 ^ b
mod_mod_le x a b h = ap (λ (n : ℕ). x % 2 ^ n % 2 ^ b) (sym (sub-add_cancel {n = a} {m = b} h)) ∙ mod-mod-pow x (a - b) b

pub mod_div_le : (x a b : ℕ) → b ≤ a → x % 2 ^ a / 2 ^ b ≡ x / 2 ^ b % 2 ^ (a - b)
mod_div_le x a b h = ap (λ (n : ℕ). x % 2 ^ n / 2 ^ b) (sym (sub-add_cancel {n = a} {m = b} h)) ∙ field x (a - b) b

-- ---- a ring of n rows with stride s: j turns move the row and keep the place within the stride

pub ring_turn : (x j n s : ℕ) → 0 < n → 0 < s → (x + j * s) % (n * s) ≡ x % s + (x / s + j) % n * s
ring_turn x j n s hn hs =
    mod-mul (x + j * s) {m = n} {c = s} hn hs
    ∙ ap₂ (λ (a b : ℕ). a % n * s + b) (add-mul-div_right x j {z = s} hs) (add-mul-mod_self_right x j s)
    ∙ add_comm ((x / s + j) % n * s) (x % s)

short_turn : (k t x j : ℕ) → t ≤ k → (x + j * 2 ^ t) % 2 ^ k ≡ x % 2 ^ t + (x / 2 ^ t + j) % 2 ^ (k - t) * 2 ^ t
short_turn k t x j h =
    ap (λ (n : ℕ). (x + j * 2 ^ t) % n) (pow_split k t h) ∙ ring_turn x j (2 ^ (k - t)) (2 ^ t) (pow_pos (k - t)) (pow_pos t)

-- a stride of the whole length or more turns nothing
long_turn : (k e x j : ℕ) → k ≤ e → (x + j * 2 ^ e) % 2 ^ k ≡ x % 2 ^ k + (x / 2 ^ k + j) % 2 ^ (k - k) * 2 ^ k
long_turn k e x j h =
    ap (λ (n : ℕ). (x + j * n) % 2 ^ k) (pow_split e k h)
    ∙ ap (λ (n : ℕ). (x + n) % 2 ^ k) (sym (mul_assoc j (2 ^ (e - k)) (2 ^ k)))
    ∙ add-mul-mod_self_right x (j * 2 ^ (e - k)) (2 ^ k)
    ∙ sym (ap (λ (n : ℕ). x % 2 ^ k + (x / 2 ^ k + j) % 2 ^ n * 2 ^ k) (sub_self k)
    ∙ ap (λ (n : ℕ). x % 2 ^ k + n * 2 ^ k) (mod-one (x / 2 ^ k + j))
    ∙ ap (λ (n : ℕ). x % 2 ^ k + n) (zero-mul (2 ^ k))
    ∙ add-zero (x % 2 ^ k))

-- j turns of 2 ^ e in a slice of 2 ^ k: the stride is the lesser of the two
pub turn : (k e x j : ℕ) → (x + j * 2 ^ e) % 2 ^ k ≡ x % 2 ^ min e k + (x / 2 ^ min e k + j) % 2 ^ (k - min e k) * 2 ^ min e k
turn k e x j = by (dec_le e k)
  where
    at : ℕ → Type 0
    at t = (x + j * 2 ^ e) % 2 ^ k ≡ x % 2 ^ t + (x / 2 ^ t + j) % 2 ^ (k - t) * 2 ^ t

    by : Dec (e ≤ k) → at (min e k)
    by (yes h) = subst at (sym (min-eq_left h)) (short_turn k e x j h)
    by (no n) = let h : k ≤ e = omega arith in subst at (sym (min-eq_right h)) (long_turn k e x j h)
