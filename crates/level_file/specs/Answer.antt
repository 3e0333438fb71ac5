-- What reading a file answers, and what it leaves of the lent seeds and holes. Assumes nothing.
use Rattle.std.specs.Prelude.{Result, Ok, Err, ℕ, ◌≡◌, List, [], ◌∷◌, ◌++◌, length, replicate}
use Rattle.rules.specs.declared.Settings.{Settings}
use Rattle.rules.specs.declared.Refusal as R
use Rattle.rules.specs.Answers.{Said, Answer, Refusal, number_of}
use Rattle.level_file.specs.declared.reading.Level as Told
use Rattle.level_file.specs.Format.{Level, settings_numbers, filled}
use Rattle.level_file.specs.Reading.{Read}
use Rattle.level_file.specs.Reading.Read.{Got, No}

-- the five settings and the hole count
unfoldable pub read_values : Settings → (holes : ℕ) → List ℕ
read_values s count = settings_numbers s ++ count ∷ []

-- each case of the answer in numbers
unfoldable pub said_read : Result Told.Level R.Refusal → Said
said_read (Ok l) = Answer (read_values l.settings l.hole_count)
said_read (Err why) = Refusal (number_of why) []

-- what is to be said
unfoldable pub read_answer : Read Level → Said
read_answer (Got l end) = Answer (read_values l.settings (length l.holes))
read_answer (No n) = Refusal n []

-- the lent seeds and holes afterwards: zero on any refusal; success keeps what lies beyond
unfoldable pub seeds_after : Read Level → (before : List ℕ) → List ℕ
seeds_after (Got l end) before = filled l.seeds before
seeds_after (No n) before = replicate (length before) 0

unfoldable pub holes_after : Read Level → (before : List ℕ) → List ℕ
holes_after (Got l end) before = filled l.holes before
holes_after (No n) before = replicate (length before) 0

-- ---- within the reader

-- of a level that was read, how many holes it has
unfoldable pub counted : Read Level → Read ℕ
counted (Got l end) = Got (length l.holes) end
counted (No n) = No n

-- the lent seeds and holes where the file was accepted
unfoldable pub LeavesSeeds : Read Level → (before after : List ℕ) → Type 0
LeavesSeeds r before after = (l : Level) (end : ℕ) → r ≡ Got l end → after ≡ filled l.seeds before

unfoldable pub LeavesHoles : Read Level → (before after : List ℕ) → Type 0
LeavesHoles r before after = (l : Level) (end : ℕ) → r ≡ Got l end → after ≡ filled l.holes before
