-- The number told is that of the first line that applies, and for a sweep that passed them all 14 or 0. So 0 tells that the call is done, and nothing else
-- does. Each holds by the cases of the number. And a level that a sweep tells 0 of is one that the check tells 0 of. Assumes nothing.
use mathlib.Core.Path.{◌≡◌, refl, ap}
use mathlib.Core.List.{List}
use mathlib.Core.Option.{Option, none, some}
use Prim.Native.Nat.{ℕ, zero, suc}
use native.Mathlib.Omega.{arith}
use lib.Ieee.{Float}
use lib.ListN.{length}
use Rattle.rules.specs.declared.Settings.{Settings}
use Rattle.rules.specs.declared.How.{How}
use Rattle.rules.specs.declared.Counts.{Counts}
use Rattle.rules.specs.Order.{Input, Tie}
use Rattle.rules.specs.Sweep.{final_seeds}
use Rattle.words.specs.Map.{Words}
use Rattle.rules.specs.Numbers.{Lent, first_of, lookup_lines, holes_lines, count_lines, bitmap_words}
use Rattle.rules.specs.Answers.{Answer, unless, ran_answer, counts_of, sweep_turns, stops_at, sweep_number, sweep_answer, sweep_seeds, sweep_bitmap, lookup_answer, holes_answer, count_answer}
use Rattle.level_check.specs.Check.{level_of, check_answer}
use Rattle.level_check.proofs.Finished.{accepts_sweep}
use Rattle.exports.specs.Told.{number_told}

told_unless : (n : ℕ) (values : List ℕ) → number_told (unless n (Answer values)) ≡ n
unfolding number_told unless
told_unless zero values = refl
told_unless (suc n) values = refl

pub lookup_told : (s : Settings) (seeds : List ℕ) (h : ℕ) → number_told (lookup_answer s seeds h) ≡ first_of (lookup_lines s (length seeds))
unfolding lookup_answer
lookup_told s seeds h = told_unless (first_of (lookup_lines s (length seeds))) _

pub holes_told : (m : ℕ) (bitmap out : List ℕ) → number_told (holes_answer m bitmap out) ≡ first_of (holes_lines m bitmap (length out))
unfolding holes_answer
holes_told m bitmap out = told_unless (first_of (holes_lines m bitmap (length out))) _

pub count_told : (log2SliceLen k : ℕ) (size : Float) → number_told (count_answer log2SliceLen k size) ≡ first_of (count_lines log2SliceLen k size)
unfolding count_answer
count_told log2SliceLen k size = told_unless (first_of (count_lines log2SliceLen k size)) _

told_ran : (n : ℕ) (stop : Option ℕ) (counts : Counts) → number_told (unless n (ran_answer stop counts)) ≡ 0 → (n ≡ 0) × (stop ≡ none)
unfolding number_told unless ran_answer
told_ran zero none counts e = (refl, refl)
told_ran zero (some b) counts e = absurd (omega arith)
told_ran (suc n) stop counts e = absurd (omega arith)

pub sweep_told : (tie : Tie) (how : How) (i : Input) (lent : Lent)
    → number_told (sweep_answer tie how i lent) ≡ 0 → (sweep_number how i lent ≡ 0) × (stops_at tie how i ≡ none)
unfolding sweep_answer
sweep_told tie how i lent e = told_ran (sweep_number how i lent) (stops_at tie how i) (counts_of i (final_seeds i (sweep_turns tie how.chunks i))) e

-- what phastr_sweep has finished, phastr_check_level accepts
pub swept_checked : (tie : Tie) (how : How) (i : Input) (lent : Lent) → Words i.hashes → number_told (sweep_answer tie how i lent) ≡ 0
    → (seeds bitmap scratch : List ℕ) → length scratch ≡ bitmap_words i.settings.m
    → number_told (check_answer (level_of i.settings i.hashes i.begins) (sweep_seeds tie how i lent seeds) (sweep_bitmap tie how i lent bitmap) scratch) ≡ 0
unfolding number_told
swept_checked tie how i lent w e seeds bitmap scratch h =
    let r = sweep_told tie how i lent e in
    ap number_told (accepts_sweep tie how i lent r.0 r.1 w seeds bitmap scratch h)
