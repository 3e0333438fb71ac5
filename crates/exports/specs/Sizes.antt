-- What a sweep of a largest bucket of z keys wants lent: what is checked, and the sizes afterwards. Assumes nothing.
use Rattle.std.specs.Prelude.{ℕ, List, [], ◌∷◌, ◌++◌, ltb}
use Rattle.rules.specs.declared.Settings.{Settings}
use Rattle.rules.specs.Geometry.{entries, work_words}
use Rattle.rules.specs.Numbers.{Line, line, first_of, lines_to7, bitmap_words}
use Rattle.rules.specs.Answers.{kept_unless}

module _ (s : Settings) (z : ℕ) where
  -- 1 to 7, then 10: a bucket of more than 4,096 keys
  unfoldable pub sizes_lines : List Line
  sizes_lines = lines_to7 s ++ line 10 (ltb 4096 z) ∷ []

  unfoldable pub sizes_number : ℕ
  sizes_number = first_of sizes_lines

  -- W, the table entries needed and ceil(m/64), or all kept
  unfoldable pub sizes_after : (before : List ℕ) → List ℕ
  sizes_after before = kept_unless sizes_number before (work_words s z ∷ entries s ∷ bitmap_words s.m ∷ [])
