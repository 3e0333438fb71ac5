-- The digits that `io::decimal` gives are `decimal`'s: the fewest that hold the number. Assumes nothing.
use Rattle.std.specs.Prelude.{ℕ, zero, suc, ◌+◌, ◌-◌, ◌*◌, ◌/◌, ◌%◌, ◌^◌, ◌≤◌, ◌<◌, ◌≡◌, refl, List, [], ◌∷◌, ◌++◌, length}
use Rattle.std.proofs.Common.{arith, pow-suc, div-lt_iff_lt-mul, le-div_iff_mul-le, mod-eq_of_lt, sym, ap, ◌∙◌, lit<, length-append, lt-ltb, le-ltb}
use Rattle.std.proofs.Math.Decide.{dec_lt}
use Rattle.std.proofs.Math.Nat.{pow-le-pow_right}
use Rattle.std.proofs.Math.Logic.{by_cases}
use Rattle.io.specs.Digits.{hex_digit_ascii, last_digits, IsDigitCount}
use Rattle.list_output.specs.Text.{digits_in, decimal}

digits_small : (f n : ℕ) → n < 10 → digits_in f n ≡ (48 + n) ∷ []
unfolding digits_in
digits_small zero n h = refl
digits_small (suc f) n h = rw (lt-ltb n 10 h) refl

digits_large : (f n : ℕ) → 10 ≤ n → digits_in (suc f) n ≡ digits_in f (n / 10) ++ (48 + n % 10) ∷ []
unfolding digits_in
digits_large f n h = rw (le-ltb n 10 h) refl

digits_last : (n : ℕ) → digits_in 0 n ≡ (48 + n) ∷ []
unfolding digits_in
digits_last n = refl

-- at most twenty digits
digits_most : (f n : ℕ) → length (digits_in f n) ≤ suc f
digits_most zero n = omega (arith, ap length (digits_last n))
digits_most (suc f) n =
    by_cases (dec_lt n 10)
    (λ (h : n < 10). omega (arith, ap length (digits_small (suc f) n h)))
    (λ (h : n < 10 → ⊥). omega (arith, ap length (digits_large f n (omega arith)), length-append (digits_in f (n / 10)) ((48 + n % 10) ∷ []), digits_most f (n / 10)))

pub decimal_most : (n : ℕ) → length (decimal n) ≤ 20
unfolding decimal
decimal_most n = digits_most 19 n

-- k + 1 digits hold n, and k do not
record Holds (k n : ℕ) : Type 0 where
  enough : n < 10 ^ suc k
  fewest : 0 < k → 10 ^ k ≤ n

glyph_digit : (d : ℕ) → d < 10 → hex_digit_ascii d ≡ 48 + d
glyph_digit d h = rw (lt-ltb d 10 h) refl

digits_are : (k f n : ℕ) → k ≤ f → Holds k n → last_digits 10 (suc k) n ≡ digits_in f n
digits_are zero f n h g =
    let small : n < 10 = g.enough in
    ap (λ (x : ℕ). x ∷ []) (glyph_digit (n % 10) (omega arith) ∙ ap (λ (x : ℕ). 48 + x) (mod-eq_of_lt small)) ∙ sym (digits_small f n small)
digits_are (suc k) zero n h g = absurd (omega arith)
digits_are (suc k) (suc f) n h g =
    let low : 10 ^ k * 10 ≤ n = rw (pow-suc 10 k) at (g.fewest (omega arith)) in
    let one : 1 ≤ 10 ^ k = pow-le-pow_right (lit< tt) {i = 0} {j = k} (omega arith) in
    let rest : Holds k (n / 10) =
    record {
      enough = (div-lt_iff_lt-mul {x = n} {y = 10 ^ suc k} (lit< tt)).1 (rw (pow-suc 10 (suc k)) at g.enough);
      fewest = λ p. (le-div_iff_mul-le {x = 10 ^ k} {y = n} (lit< tt)).1 low;
    } in
    ap (λ (ds : List ℕ). ds ++ (hex_digit_ascii (n % 10) ∷ [])) (digits_are k f (n / 10) (omega arith) rest)
    ∙ ap (λ (x : ℕ). digits_in f (n / 10) ++ (x ∷ [])) (glyph_digit (n % 10) (omega arith))
    ∙ sym (digits_large f n (omega arith))

pub digits_decimal : (n r : ℕ) → n < 2 ^ 64 → IsDigitCount 10 1 n r → last_digits 10 r n ≡ decimal n
unfolding decimal
digits_decimal n zero h f = absurd (omega arith)
digits_decimal n (suc k) h f =
    let low : 0 < k → 10 ^ k ≤ n = λ p. (let e : suc k - 1 ≡ k = omega arith in rw e at (f.2 (omega arith))) in
    by_cases (dec_lt k 20)
    (λ (s : k < 20). digits_are k 19 n (omega arith) (record { enough = f.1; fewest = low }))
    (λ (s : k < 20 → ⊥). absurd (omega (arith, low (omega arith), pow-le-pow_right {n = 10} (lit< tt) {i = 20} {j = k} (omega arith))))
