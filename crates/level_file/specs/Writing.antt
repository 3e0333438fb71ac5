-- What writing a level answers, and what it leaves of the lent bytes. Assumes nothing.
use Rattle.std.specs.Prelude.{Option, Some, None, Result, Ok, Err, ℕ, ◌≤◌, Bool, cond, not, ◌&&◌, List, [], ◌∷◌, ◌++◌, ltb, eqb, length, replicate}
use Rattle.rules.specs.Numbers.{Line, line, first_of, lines_to7}
use Rattle.rules.specs.declared.Refusal as R
use Rattle.rules.specs.Answers.{Said, Answer, Refusal, number_of, unless, kept_unless}
use Rattle.level_file.specs.Format.{Level, bytes_of, file_of, seeds_fine, holes_fine, filled}

-- seeds not B long
unfoldable pub seeds_missing : Level → Bool
seeds_missing l = not (eqb (length l.seeds) l.settings.buckets)

-- a seed of 2^sb or more, or a hole not rising or not below m
unfoldable pub values_bad : Level → Bool
values_bad l = not (seeds_fine l.settings l.seeds && holes_fine l.settings.m 0 0 l.holes)

-- 1 to 7, then 13, 24 and 26
unfoldable pub write_lines : Level → (room : ℕ) → List Line
write_lines l room = lines_to7 l.settings ++ line 13 (seeds_missing l) ∷ line 24 (values_bad l) ∷ line 26 (ltb room (length (file_of l))) ∷ []

unfoldable pub write_number : Level → (room : ℕ) → ℕ
write_number l room = first_of (write_lines l room)

-- each case of the answer in numbers
unfoldable pub said_written : Result ℕ R.Refusal → Said
said_written (Ok n) = Answer (n ∷ [])
said_written (Err why) = Refusal (number_of why) []

-- what is to be said: the file's length
unfoldable pub write_answer : Level → (room : ℕ) → Said
write_answer l room = unless (write_number l room) (Answer (length (file_of l) ∷ []))

-- the lent bytes afterwards: the file and what lay beyond, or zero on any refusal
unfoldable pub bytes_after : Level → (before : List ℕ) → List ℕ
bytes_after l before = kept_unless (write_number l (length before)) (replicate (length before) 0) (filled (file_of l) before)

-- ---- within the writer

-- the bytes that numbers take, where they may be written
unfoldable pub measured : (fine : Bool) → (numbers : List ℕ) → Option ℕ
measured fine vs = cond fine (Some (length (bytes_of vs))) None

-- no hole is below the one before
unfoldable pub Climbs : (before : ℕ) → (holes : List ℕ) → Type 0
Climbs before [] = Unit {0}
Climbs before (h ∷ hs) = (before ≤ h) × Climbs h hs
