-- The bytes of a number, group by group: below 128 the number itself, else its low group and the bytes of the rest.
-- Ten groups are enough because each division by 128 takes one off the exponent. Assumes nothing.
use Rattle.std.specs.Prelude.{Some, None, ℕ, zero, suc, ◌+◌, ◌/◌, ◌%◌, ◌^◌, ◌≤◌, ◌<◌, ◌≡◌, List, [], ◌∷◌, set}
use Rattle.std.proofs.Common.{arith, pow-suc, div-lt_iff_lt-mul, sym, ap, ◌∙◌, lit<, add-one, lt-ltb, le-ltb, le-leb}
use Rattle.std.proofs.Math.Decide.{dec_lt}
use Rattle.std.proofs.Math.Path.{refl}
use Rattle.std.proofs.Math.Logic.{by_cases}
use Rattle.std.proofs.Math.ListN.{length}
use Rattle.std.proofs.lemmas.List.Edits.{sets}
use Rattle.std.proofs.lemmas.Bool.{lt-leb}
use Rattle.house_numbers.specs.Encode.{groups_in, encoded, has_room, encoded_next, encoded_out}

groups_small : (f v : ℕ) → v < 128 → groups_in f v ≡ v ∷ []
unfolding groups_in
groups_small zero v h = refl
groups_small (suc f) v h = rw (lt-ltb v 128 h) refl

groups_last : (v : ℕ) → groups_in 0 v ≡ v ∷ []
unfolding groups_in
groups_last v = refl

groups_large : (f v : ℕ) → 128 ≤ v → groups_in (suc f) v ≡ (128 + v % 128) ∷ groups_in f (v / 128)
unfolding groups_in
groups_large f v h = rw (le-ltb v 128 h) refl

-- v / 128 has one group less
less : (f v : ℕ) → v < 128 ^ suc (suc f) → v / 128 < 128 ^ suc f
less f v h = (div-lt_iff_lt-mul {x = v} {y = 128 ^ suc f} (lit< tt)).1 (rw (pow-suc 128 (suc f)) at h)

groups_enough : (f g v : ℕ) → v < 128 ^ suc f → v < 128 ^ suc g → groups_in f v ≡ groups_in g v
groups_enough zero g v hf hg = groups_small 0 v hf ∙ sym (groups_small g v hf)
groups_enough (suc f) zero v hf hg = groups_small (suc f) v hg ∙ sym (groups_small 0 v hg)
groups_enough (suc f) (suc g) v hf hg =
    by_cases (dec_lt v 128)
    (λ (h : v < 128). groups_small (suc f) v h ∙ sym (groups_small (suc g) v h))
    (λ (h : v < 128 → ⊥).
    groups_large f v (omega arith)
    ∙ ap (λ (r : List ℕ). (128 + v % 128) ∷ r) (groups_enough f g (v / 128) (less f v hf) (less g v hg))
    ∙ sym (groups_large g v (omega arith)))

groups_most : (f v : ℕ) → length (groups_in f v) ≤ suc f
groups_most zero v = omega (arith, ap length (groups_last v))
groups_most (suc f) v =
    by_cases (dec_lt v 128)
    (λ (h : v < 128). omega (arith, ap length (groups_small (suc f) v h)))
    (λ (h : v < 128 → ⊥). omega (arith, ap length (groups_large f v (omega arith)), groups_most f (v / 128)))

pub encoded_small : (v : ℕ) → v < 128 → encoded v ≡ v ∷ []
unfolding encoded
encoded_small v h = groups_small 9 v h

pub encoded_large : (v : ℕ) → v < 2 ^ 64 → 128 ≤ v → encoded v ≡ (128 + v % 128) ∷ encoded (v / 128)
unfolding encoded
encoded_large v fits h =
    groups_large 8 v h
    ∙ ap (λ (r : List ℕ). (128 + v % 128) ∷ r) (groups_enough 8 9 (v / 128) (omega arith) (omega arith))

pub length_small : (v : ℕ) → v < 128 → length (encoded v) ≡ 1
length_small v h = ap length (encoded_small v h)

pub length_large : (v : ℕ) → v < 2 ^ 64 → 128 ≤ v → length (encoded v) ≡ suc (length (encoded (v / 128)))
length_large v fits h = ap length (encoded_large v fits h)

-- there is at least one group, and there are at most ten
pub length_pos : (v : ℕ) → 1 ≤ length (encoded v)
unfolding encoded
length_pos v =
    by_cases (dec_lt v 128)
    (λ (h : v < 128). omega (arith, ap length (groups_small 9 v h)))
    (λ (h : v < 128 → ⊥). omega (arith, ap length (groups_large 8 v (omega arith))))

pub length_ten : (v : ℕ) → length (encoded v) ≤ 10
unfolding encoded
length_ten v = groups_most 9 v

-- ---- the bytes written one after the other

pub sets_small : (out : List ℕ) (at v : ℕ) → v < 128 → set out at v ≡ sets out at (encoded v)
sets_small out at v h = sym (ap (sets out at) (encoded_small v h))

pub sets_large : (out : List ℕ) (at v : ℕ) → v < 2 ^ 64 → 128 ≤ v → sets (set out at (128 + v % 128)) (at + 1) (encoded (v / 128)) ≡ sets out at (encoded v)
sets_large out at v fits h = rw add-one (sym (ap (sets out at) (encoded_large v fits h)))

-- ---- the answer and the bytes afterwards, with room and without

module _ (v : ℕ) (out : List ℕ) (at : ℕ) where
  module _ (h : length out < at + length (encoded v)) where
    pub next_none : None ≡ encoded_next v (length out) at
    unfolding encoded_next has_room
    next_none = rw (lt-leb (at + length (encoded v)) (length out) h) refl

    pub out_kept : out ≡ encoded_out v out at
    unfolding encoded_out has_room
    out_kept = rw (lt-leb (at + length (encoded v)) (length out) h) refl

  module _ (h : at + length (encoded v) ≤ length out) where
    pub next_after : Some (at + length (encoded v)) ≡ encoded_next v (length out) at
    unfolding encoded_next has_room
    next_after = rw (le-leb (at + length (encoded v)) (length out) h) refl

    pub out_set : sets out at (encoded v) ≡ encoded_out v out at
    unfolding encoded_out has_room
    out_set = rw (le-leb (at + length (encoded v)) (length out) h) refl
