-- What a call tells in numbers: the one that it answers with, and the lent places that it writes, each from what the Rattle function under it says and from
-- what the place held. Assumes nothing.
use Rattle.std.specs.Prelude.{ℕ, ◌-◌, ◌^◌, List, get_or}
use Rattle.rules.specs.Answers.{Said, Answer, Refusal}

-- 0 where done, else document 01's number
unfoldable pub number_told : Said → ℕ
number_told (Answer values) = 0
number_told (Refusal n named) = n

-- the values where done, else kept
unfoldable pub values_told : Said → (before : List ℕ) → List ℕ
values_told (Answer values) before = values
values_told (Refusal n named) before = before

-- the one value where done, else kept
unfoldable pub value_told : Said → (before : ℕ) → ℕ
value_told (Answer values) before = get_or values 0 before
value_told (Refusal n named) before = before

-- the bucket that a refusal names, else kept
unfoldable pub bucket_told : Said → (before : ℕ) → ℕ
bucket_told (Answer values) before = before
bucket_told (Refusal n named) before = get_or named 0 before

-- a lookup's slot, or 2^64 - 1 where it has none: Bumped
unfoldable pub slot_or : List ℕ → ℕ
slot_or found = get_or found 0 (2 ^ 64 - 1)

-- the slot where done, else kept
unfoldable pub slot_told : Said → (before : ℕ) → ℕ
slot_told (Answer values) before = slot_or values
slot_told (Refusal n named) before = before
