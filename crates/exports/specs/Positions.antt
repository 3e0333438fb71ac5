-- Many lookups in one level: what is checked, and the slots afterwards. Assumes nothing.
use Rattle.std.specs.Prelude.{ℕ, Bool, not, ◌||◌, List, [], ◌∷◌, ◌++◌, map, eqb, length}
use Rattle.rules.specs.declared.Settings.{Settings}
use Rattle.rules.specs.Holes.{looked_up}
use Rattle.rules.specs.Numbers.{Line, line, first_of, lines_to6}
use Rattle.rules.specs.Answers.{kept_unless}
use Rattle.exports.specs.Told.{slot_or}

module _ (s : Settings) (seeds : List ℕ) where
  -- the slot of a hash, or 2^64 - 1 where it is Bumped
  unfoldable pub slot_of : (h : ℕ) → ℕ
  slot_of h = slot_or (looked_up s seeds h)

  -- seeds not B long, or slots not as long as hashes
  abbrev pub lent_wrong : (hashes slots : List ℕ) → Bool
  lent_wrong hashes slots = not (eqb (length seeds) s.buckets) || not (eqb (length slots) (length hashes))

  -- 1 to 6, then 13
  unfoldable pub positions_lines : (hashes slots : List ℕ) → List Line
  positions_lines hashes slots = lines_to6 s ++ line 13 (lent_wrong hashes slots) ∷ []

  unfoldable pub positions_number : (hashes slots : List ℕ) → ℕ
  positions_number hashes slots = first_of (positions_lines hashes slots)

  -- each hash looked up, or all kept
  unfoldable pub positions_slots : (hashes before : List ℕ) → List ℕ
  positions_slots hashes before = kept_unless (positions_number hashes before) before (map slot_of hashes)
