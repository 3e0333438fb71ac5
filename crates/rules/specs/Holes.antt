-- Rule H: holes and lookup. Assumes nothing.
use Rattle.std.specs.Prelude.{ℕ, zero, suc, Bool, not, List, [], ◌∷◌, eqb, get_or}
use Rattle.words.specs.Map.{slot}
use Rattle.rules.specs.declared.Settings.{Settings}
use Rattle.rules.specs.Lists.{below, filter, concat_map}
use Rattle.rules.specs.Geometry.{bucket_of, position}

-- slot x is unmarked in the bitmap
unfoldable pub unmarked : (bitmap : List ℕ) → (x : ℕ) → Bool
unmarked bitmap x = not (eqb (slot bitmap x) 1)

-- holes: unmarked slots below m, ascending
unfoldable pub holes_of : (m : ℕ) → (bitmap : List ℕ) → List ℕ
holes_of m bitmap = filter (unmarked bitmap) (below m)

-- where a lookup with the bucket's seed v sends h: nowhere if v is 0, else to the position
unfoldable pub slot_by : Settings → (v h : ℕ) → List ℕ
slot_by s zero h = []
slot_by s (suc v) h = position s (suc v) h ∷ []

unfoldable pub looked_up : Settings → (seeds : List ℕ) → (h : ℕ) → List ℕ
looked_up s seeds h = slot_by s (get_or seeds (bucket_of s h) 0) h

-- the slots at which the keys of a list are found
unfoldable pub found_slots : Settings → (seeds hashes : List ℕ) → List ℕ
found_slots s seeds hashes = concat_map (looked_up s seeds) hashes
