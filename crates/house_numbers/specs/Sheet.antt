-- Worked numbers: one, two and ten groups, a padded number, and each refusal. Assumes nothing.
use Rattle.std.specs.Prelude.{None, ◌^◌, ◌-◌, ◌≡◌, refl, [], ◌∷◌, ◌++◌, replicate}
use Rattle.house_numbers.specs.Encode.{groups_in, encoded}
use Rattle.house_numbers.specs.Decode.{found, grown_value, grown_to, grown_by, settled, decoded_from, decoded_at}

-- 300 is 44 + 2 · 128
pub one_group : encoded 5 ≡ 5 ∷ []
unfolding encoded groups_in
one_group = refl

pub two_groups : encoded 300 ≡ 172 ∷ 2 ∷ []
unfolding encoded groups_in
two_groups = refl

pub ten_groups : encoded (2 ^ 64 - 1) ≡ replicate 9 255 ++ 1 ∷ []
unfolding encoded groups_in
ten_groups = refl

pub read_largest : decoded_at (replicate 9 255 ++ 1 ∷ 7 ∷ []) 0 ≡ found (2 ^ 64 - 1) 10
unfolding decoded_at decoded_from settled grown_by grown_to grown_value
read_largest = refl

-- 5 as two groups
pub read_padded : decoded_at (133 ∷ 0 ∷ []) 0 ≡ found 5 2
unfolding decoded_at decoded_from settled grown_by grown_to grown_value
read_padded = refl

-- over 64 bits; over ten groups; short
pub too_wide : decoded_at (replicate 9 255 ++ 2 ∷ []) 0 ≡ None
unfolding decoded_at decoded_from settled grown_by grown_to grown_value
too_wide = refl

pub too_long : decoded_at (replicate 10 128 ++ 0 ∷ []) 0 ≡ None
unfolding decoded_at decoded_from settled grown_by grown_to grown_value
too_long = refl

pub too_short : decoded_at (133 ∷ 128 ∷ []) 0 ≡ None
unfolding decoded_at decoded_from settled grown_by grown_to grown_value
too_short = refl
