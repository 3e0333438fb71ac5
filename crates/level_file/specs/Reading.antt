-- What reading any bytes as a level file gives, number by number: a value and the place after it, or the number of a refusal. Assumes nothing.
use Rattle.std.specs.Prelude.{Result, Ok, Err, ⊤, ℕ, zero, suc, ◌+◌, Bool, cond, not, ◌||◌, List, [], ◌∷◌, ◌≡◌, ltb, leb, eqb, length}
use Rattle.rules.specs.declared.Settings.{Settings}
use Rattle.rules.specs.Numbers.{first_of, lines_to7}
use Rattle.rules.specs.declared.Refusal.{Refusal}
use Rattle.rules.specs.Answers.{number_of}
use Rattle.house_numbers.specs.declared.Decoded.{Decoded}
use Rattle.level_file.specs.Taking.{taken_at}
use Rattle.level_file.specs.Format.{Level, level_of, seed_bad, filled}

pub data Read (A : Type 0) : Type 0 where
  Got : (value : A) → (at : ℕ) → Read A
  No : (number : ℕ) → Read A

module _ {A B : Type 0} where
  unfoldable pub then : Read A → (A → ℕ → Read B) → Read B
  then (Got x at) f = f x at
  then (No n) f = No n

module _ {A : Type 0} where
  -- refused with a number where the test passes
  unfoldable pub refused_if : (test : Bool) → (number : ℕ) → Read A → Read A
  refused_if test number r = cond test (No number) r

  -- refused with a number unless it is 0
  unfoldable pub refused_by : (number : ℕ) → Read A → Read A
  refused_by zero r = r
  refused_by (suc n) r = No (suc n)

unfoldable pub read_of : Result Decoded Refusal → Read ℕ
read_of (Ok d) = Got d.value d.next
read_of (Err why) = No (number_of why)

-- a hole that is `gap` above the one before: not rising (the gap is below the least that is allowed), or not below m
unfoldable pub gap_bad : (m before least gap : ℕ) → Bool
gap_bad m before least gap = ltb gap least || leb m (before + gap)

module _ (bytes : List ℕ) where
  unfoldable pub number_at : (at : ℕ) → Read ℕ
  number_at at = read_of (taken_at bytes at)

  -- so many numbers; 24 at one that is bad
  unfoldable pub numbers_at : (bad : ℕ → Bool) → (count at : ℕ) → Read (List ℕ)
  numbers_at bad zero at = Got [] at
  numbers_at bad (suc n) at =
      then (number_at at) (λ v next. refused_if (bad v) 24
      (then (numbers_at bad n next) (λ vs end. Got (v ∷ vs) end)))

  -- so many holes after `before`
  unfoldable pub holes_at : (m count before least at : ℕ) → Read (List ℕ)
  holes_at m zero before least at = Got [] at
  holes_at m (suc n) before least at =
      then (number_at at) (λ gap next. refused_if (gap_bad m before least gap) 24
      (then (holes_at m n (before + gap) 1 next) (λ hs end. Got ((before + gap) ∷ hs) end)))

  -- the five settings
  unfoldable pub settings_at : (at : ℕ) → Read Settings
  settings_at at =
      then (number_at at) (λ m at₁. then (number_at at₁) (λ len at₂. then (number_at at₂) (λ ll at₃. then (number_at at₃) (λ sb at₄. then (number_at at₄) (λ buckets at₅.
      Got (record { m = m; log2_slice_len = len; ll = ll; sb = sb; buckets = buckets }) at₅)))))

  -- settings that pass 1 to 7
  unfoldable pub checked_at : (at : ℕ) → Read Settings
  checked_at at = then (settings_at at) (λ s end. refused_by (first_of (lines_to7 s)) (Got s end))

  -- the version, 23 where it is not 1, and the settings
  unfoldable pub head_at : Read Settings
  head_at = then (number_at 0) (λ version at. refused_if (not (eqb version 1)) 23 (checked_at at))

  -- the hole count: 24 above m, 26 above the room there is
  unfoldable pub count_at : (m room at : ℕ) → Read ℕ
  count_at m room at = then (number_at at) (λ count next. refused_if (ltb m count) 24 (refused_if (ltb room count) 26 (Got count next)))

  -- the holes: their count and they; 25 where bytes are left over
  unfoldable pub hole_part : (m room at : ℕ) → Read (List ℕ)
  hole_part m room at =
      then (count_at m room at) (λ count at₁. then (holes_at m count 0 0 at₁) (λ holes end. refused_if (ltb end (length bytes)) 25 (Got holes end)))

  -- the seeds and the holes, with room for so many of each; 26 where there are more buckets
  unfoldable pub body_at : (seedRoom holeRoom : ℕ) → (s : Settings) → (at : ℕ) → Read Level
  body_at seedRoom holeRoom s at =
      refused_if (ltb seedRoom s.buckets) 26
      (then (numbers_at (seed_bad s) s.buckets at) (λ seeds at₁.
      then (hole_part s.m holeRoom at₁) (λ holes end.
      Got (level_of s seeds holes) end)))

  -- a whole file
  unfoldable pub read_file : (seedRoom holeRoom : ℕ) → Read Level
  read_file seedRoom holeRoom = then head_at (body_at seedRoom holeRoom)

-- ---- what a part of the reader answers and leaves

-- an answer and the place after it, as what was read
unfoldable pub read_as : {A : Type 0} → Result A Refusal → (at : ℕ) → Read A
read_as (Ok x) at = Got x at
read_as (Err why) at = No (number_of why)

-- the same of a list that was read into a buffer
unfoldable pub read_into : Result ⊤ Refusal → (buffer : List ℕ) → (at : ℕ) → Read (List ℕ)
read_into (Ok done) buffer at = Got buffer at
read_into (Err why) buffer at = No (number_of why)

-- of a list that was read, how many
unfoldable pub sized : Read (List ℕ) → Read ℕ
sized (Got vs end) = Got (length vs) end
sized (No n) = No n

-- what a buffer holds where a list was read into it
unfoldable pub Leaves : Read (List ℕ) → (before after : List ℕ) → Type 0
Leaves r before after = (vs : List ℕ) (end : ℕ) → r ≡ Got vs end → after ≡ filled vs before
