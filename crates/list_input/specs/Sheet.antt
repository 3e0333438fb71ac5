-- Sheet P9's input, from its bytes to what it asks for; and an input of each error of form. Assumes nothing.
use Rattle.std.specs.Prelude.{ℕ, ◌+◌, ◌-◌, ◌^◌, ◌≡◌, refl, List, [], ◌∷◌, ◌++◌, pos, negsuc}
use Rattle.std.proofs.Math.Option.{none, some}
use Rattle.house_numbers.specs.Decode.{grown_value, grown_to, grown_by}
use Rattle.list_input.specs.Form.{numbers_by, numbers_from, numbers_of, grouped, well_formed, if_formed, form_of}
use Rattle.list_input.specs.Asked.{weight_of, hashes_in, begins_in, hashes_of, begins_of, weights_of}

abbrev pub bytes9 : List ℕ
bytes9 = 7 ∷ 3 ∷ 0 ∷ 4 ∷ 1 ∷ 128 ∷ 32 ∷ 0 ∷ 0 ∷ 0 ∷ 0 ∷ 0 ∷ 0 ∷ 3 ∷ 2 ∷ 128 ∷ 128 ∷ 128 ∷ 128 ∷ 128 ∷ 128 ∷ 128 ∷ 128 ∷ 64 ∷ 131 ∷ 128 ∷ 128 ∷ 128 ∷ 128 ∷ 128 ∷ 128 ∷ 128 ∷ 64 ∷ 1 ∷ 128 ∷ 128 ∷ 128 ∷ 128 ∷ 128 ∷ 128 ∷ 128 ∷ 128 ∷ 128 ∷ 1 ∷ 0 ∷ []

abbrev pub numbers9 : List ℕ
numbers9 = 7 ∷ 3 ∷ 0 ∷ 4 ∷ 1 ∷ 4096 ∷ 0 ∷ 0 ∷ 0 ∷ 0 ∷ 0 ∷ 0 ∷ 3 ∷ 2 ∷ 4611686018427387904 ∷ 4611686018427387907 ∷ 1 ∷ 9223372036854775808 ∷ 0 ∷ []

pub form9 : form_of bytes9 ≡ some numbers9
unfolding form_of if_formed numbers_of numbers_from numbers_by grown_by grown_to grown_value well_formed grouped
form9 = refl

pub hashes9 : hashes_of numbers9 ≡ 2 ^ 62 ∷ (2 ^ 62 + 3) ∷ 2 ^ 63 ∷ []
unfolding hashes_of hashes_in
hashes9 = refl

pub begins9 : begins_of numbers9 ≡ 0 ∷ 2 ∷ 3 ∷ 3 ∷ []
unfolding begins_of begins_in
begins9 = refl

pub weights9 : weights_of numbers9 ≡ pos 2048 ∷ pos 0 ∷ pos 0 ∷ pos 0 ∷ pos 0 ∷ pos 0 ∷ pos 0 ∷ []
unfolding weights_of weight_of
weights9 = refl

-- weights are told apart by the low bit
pub least_weight : weight_of (2 ^ 64 - 1) ≡ negsuc (2 ^ 63 - 1)
unfolding weight_of
least_weight = refl

-- left over; short; a bump flag of 2
pub left_over : form_of (bytes9 ++ 0 ∷ []) ≡ none
unfolding form_of if_formed numbers_of numbers_from numbers_by grown_by grown_to grown_value well_formed grouped
left_over = refl

pub no_bytes : form_of [] ≡ none
unfolding form_of if_formed numbers_of numbers_from well_formed
no_bytes = refl

pub flag_two : form_of (7 ∷ 3 ∷ 0 ∷ 4 ∷ 2 ∷ 0 ∷ 0 ∷ 0 ∷ 0 ∷ 0 ∷ 0 ∷ 0 ∷ 0 ∷ []) ≡ none
unfolding form_of if_formed numbers_of numbers_from numbers_by grown_by grown_to grown_value well_formed grouped
flag_two = refl
