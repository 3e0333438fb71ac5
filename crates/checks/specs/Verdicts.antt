-- What the checks of a sweep answer. Assumes nothing.
use Rattle.std.specs.Prelude.{◌≡◌, Bool, not, ◌||◌, List, [], ◌∷◌, ◌++◌, ℕ, ◌^◌, ◌≤◌, ◌<◌, eqb, ltb}
use Rattle.rules.specs.declared.Settings.{Settings}
use Rattle.rules.specs.declared.How.{How}
use Rattle.rules.specs.Order.{Input}
use Rattle.rules.specs.Numbers.{Line, largest, bitmap_words, line8, line9, line10, line11, line12, line20}
use Rattle.rules.specs.Answers.{work_needed}
use Rattle.checks.specs.declared.Room.{Room}

-- the lines 9 to 11
abbrev pub group_lines : Input → List Line
group_lines i = line9 i ∷ line10 i ∷ line11 i ∷ []

-- the lines 8, 20 and 9 to 12
abbrev pub input_lines : How → Input → List Line
input_lines how i = line8 i ∷ line20 how ∷ group_lines i ++ line12 i ∷ []

-- the test of line 13, with W at hand
abbrev pub lent_bad : Settings → (words seeds bitmap work : ℕ) → Bool
lent_bad s words seeds bitmap work = not (eqb seeds s.buckets) || not (eqb bitmap (bitmap_words s.m)) || ltb work words

-- room holds z and W of an input, which are no larger than this
pub record RoomFor (i : Input) (room : Room) : Type 0 where
  pub z : (room.z ≡ largest i) × (room.z ≤ 4096)
  pub words : (room.words ≡ work_needed i) × (room.words < 2 ^ 36)
