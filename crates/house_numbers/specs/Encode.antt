-- A number as bytes: groups of seven bits, low group first, top bit set while more follow. Assumes nothing.
use Rattle.std.specs.Prelude.{Option, Some, None, ℕ, zero, suc, ◌+◌, ◌/◌, ◌%◌, Bool, cond, List, [], ◌∷◌, ltb, leb, length}
use Rattle.std.proofs.lemmas.List.Edits.{sets}

-- the groups of v: as many as it takes, and at most one more than the first number says
unfoldable pub groups_in : ℕ → (v : ℕ) → List ℕ
groups_in zero v = v ∷ []
groups_in (suc f) v = cond (ltb v 128) (v ∷ []) ((128 + v % 128) ∷ groups_in f (v / 128))

-- the bytes of v, which has at most ten groups where it is below 2^64
unfoldable pub encoded : (v : ℕ) → List ℕ
encoded v = groups_in 9 v

-- whether there is room for the bytes of v at a place in so many bytes
unfoldable pub has_room : (v size at : ℕ) → Bool
has_room v size at = leb (at + length (encoded v)) size

-- the place after them
unfoldable pub encoded_next : (v size at : ℕ) → Option ℕ
encoded_next v size at = cond (has_room v size at) (Some (at + length (encoded v))) None

-- the bytes afterwards: those of v at the place if they have room, and the others as they were
unfoldable pub encoded_out : (v : ℕ) → (out : List ℕ) → (at : ℕ) → List ℕ
encoded_out v out at = cond (has_room v (length out) at) (sets out at (encoded v)) out
