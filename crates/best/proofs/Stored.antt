-- What is written to the part work[up..up + count] alone: the set of wrap points, cleared and with a point more; and a test as a summand.
use Rattle.std.specs.Prelude.{◌≡◌, ◌≢◌, refl, Bool, true, false, List, ℕ, ◌+◌, ◌-◌, ◌≤◌, not, eqb, length, replicate}
use Rattle.std.proofs.Common.{sym, ap, ◌∙◌, subst, ⊎_elim, arith, eq-eqb, ne_eqb}
use Rattle.std.proofs.lemmas.List.{length-replicate}
use Rattle.std.proofs.lemmas.Slice.{between-put_mid}
use borrow.Rule.Slice.PartMut.{put_mid}
use mir.Val.{bool_byte}
use Rattle.words.specs.Cases.{same_or_not}
use Rattle.words.specs.Map.{marked}
use Rattle.words.specs.MapLaws.{length_marked}
use Rattle.rings.specs.declared.Ring.{Ring}
use Rattle.rings.specs.Ring.{Word}
use Rattle.rings.specs.Keys.{place_at}
use Rattle.rings.specs.Parts.{part, part_range, length_part}
use Rattle.rings.proofs.Middle.{put_front, put_len}
use Rattle.best.specs.Kept.{kept_self}
use Rattle.best.specs.Listed.{some, none}
use Rattle.best.proofs.ListLaws.{some_zero, some_one, none_one, none_zero}
use Rattle.best.specs.Wraps.{with_point, Filled}
use Rattle.best.specs.WrapLaws.{with_none, with_some}

-- ---- tests

pub some_test : (x : ℕ) → bool_byte (not (eqb x 0)) ≡ some x
some_test x = ⊎_elim (λ (e : x ≡ 0). rw (eq-eqb x 0 e, some_zero x e) refl) (λ (n : x ≢ 0). rw (ne_eqb x 0 n, some_one x n) refl) (same_or_not x 0)

pub none_test : (x : ℕ) → bool_byte (eqb x 0) ≡ none x
none_test x = ⊎_elim (λ (e : x ≡ 0). rw (eq-eqb x 0 e, none_one x e) refl) (λ (n : x ≢ 0). rw (ne_eqb x 0 n, none_zero x n) refl) (same_or_not x 0)

pub byte_small : {r : ℕ} (b : Bool) → r ≡ bool_byte b → r ≤ 1
byte_small true e = omega arith
byte_small false e = omega arith

-- ---- parts; k is `up + count - up`

pub put_filled : (up count k : ℕ) (l ys : List ℕ) → k ≡ count → up + count ≤ length l → length ys ≡ count → Filled up count l ys (put_mid up k l ys)
put_filled up count k l ys e fits len = record {
  kept = record { front = put_front l ys up count k e fits len; len = put_len l ys up count k e fits len };
  is = sym (part_range (put_mid up k l ys) up count) ∙ between-put_mid up k l ys (up + count) (omega arith) (omega arith);
}

part_len : (up count k : ℕ) (l : List ℕ) → k ≡ count → up + count ≤ length l → length (part l up k) ≡ count
part_len up count k l e fits = length_part l up k (omega arith) ∙ e

-- cleared
pub filled_zeros : (up count k : ℕ) {l ys : List ℕ} → k ≡ count → up + count ≤ length l → ys ≡ replicate (length (part l up k)) 0 → Filled up count l (replicate count 0) (put_mid up k l ys)
filled_zeros up count k {l} {ys} e fits is =
    let z : ys ≡ replicate count 0 = is ∙ ap (λ n. replicate n 0) (part_len up count k l e fits) in
    subst (λ (w : List ℕ). Filled up count l w (put_mid up k l ys)) z (put_filled up count k l ys e fits (ap length z ∙ length-replicate count 0))

-- a key's point
pub filled_none : (g : Ring) (d up count : ℕ) {x : ℕ} (l : List ℕ) → Word g.n (place_at g d 0) x → x ≡ 0 → Filled up count l (with_point g d (part l up count)) l
filled_none g d up count l w z = record { kept = kept_self up l; is = sym (with_none g d (part l up count) (sym w.is ∙ z)) }

pub filled_point : (g : Ring) (d up count k : ℕ) {x : ℕ} {l ys : List ℕ} → Word g.n (place_at g d 0) x → x ≢ 0 → k ≡ count → up + count ≤ length l
    → ys ≡ marked (part l up k) (g.n - x) → Filled up count l (with_point g d (part l up count)) (put_mid up k l ys)
filled_point g d up count k {x} {l} {ys} w n e fits is =
    subst (λ (w : List ℕ). Filled up count l w (put_mid up k l ys)) point (put_filled up count k l ys e fits (ap length is ∙ length_marked (part l up k) (g.n - x) ∙ part_len up count k l e fits))
  where
    point : ys ≡ with_point g d (part l up count)
    point =
        is
        ∙ ap (λ m. marked (part l up m) (g.n - x)) e
        ∙ ap (λ (y : ℕ). marked (part l up count) (g.n - y)) w.is
        ∙ sym (with_some g d (part l up count) (λ z. n (w.is ∙ z)))
