-- The listing's level as a file, worked by hand, and three files that are refused. Assumes nothing.
use mathlib.Core.Path.{◌≡◌, refl}
use mathlib.Core.List.{[], ◌∷◌}
use Rattle.house_numbers.specs.Encode.{groups_in, encoded}
use Rattle.house_numbers.specs.Decode.{grown_value, grown_to, grown_by, settled, decoded_from, decoded_at}
use Rattle.level_file.specs.Taking.{taken_of, taken_at}
use Rattle.level_file.specs.Format.{Level, level_of, gaps_from, settings_numbers, numbers_of, bytes_of, file_of}
use Rattle.level_file.specs.Reading.{then, refused_if, read_of, number_at, head_at, read_file}
use Rattle.level_file.specs.Reading.Read.{No}

-- m 7, slice 3, ll 0, sb 4, B 3; seeds 3, 4, 0; holes 0, 3, 5, 6
abbrev listed : Level
listed = level_of (record { m = 7; log2_slice_len = 3; ll = 0; sb = 4; buckets = 3 }) (3 ∷ 4 ∷ 0 ∷ []) (0 ∷ 3 ∷ 5 ∷ 6 ∷ [])

pub written : file_of listed ≡ 1 ∷ 7 ∷ 3 ∷ 0 ∷ 4 ∷ 3 ∷ 3 ∷ 4 ∷ 0 ∷ 4 ∷ 0 ∷ 3 ∷ 2 ∷ 1 ∷ []
unfolding file_of numbers_of settings_numbers gaps_from bytes_of encoded groups_in
written = refl

-- an empty file; a version that goes on and ends; version 2
pub empty : read_file [] 0 0 ≡ No 22
unfolding read_file head_at number_at read_of taken_at taken_of decoded_at decoded_from then
empty = refl

pub short_version : read_file (129 ∷ []) 0 0 ≡ No 22
unfolding read_file head_at number_at read_of taken_at taken_of decoded_at decoded_from settled grown_by grown_to grown_value then
short_version = refl

pub other_version : read_file (2 ∷ []) 0 0 ≡ No 23
unfolding read_file head_at number_at read_of taken_at taken_of decoded_at decoded_from settled grown_by grown_to grown_value then refused_if
other_version = refl
