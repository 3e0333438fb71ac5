-- The complete answers by cases: a number that applies refuses and keeps each buffer; without one the sweep ran, and it stopped or not. Assumes nothing.
use mathlib.Core.Path.{◌≡◌, refl}
use mathlib.Core.Logic.{◌≢◌}
use mathlib.Core.Bool.{Bool, true, false, cond}
use mathlib.Core.List.{List, [], ◌∷◌, ◌++◌}
use mathlib.Core.Option.{none, some}
use Prim.Native.Nat.{ℕ, zero, suc}
use native.Mathlib.Omega.{arith}
use lib.ListN.{length, drop, replicate}
use Rattle.rules.specs.declared.How.{How}
use Rattle.rules.specs.Order.{Input, Tie}
use Rattle.rules.specs.Numbers.{Lent}
use Rattle.rules.specs.Sweep.{final_seeds, final_bitmap, fails_at}
use Rattle.rules.specs.Answers.{Said, Answer, Refusal, unless, kept_unless, ran_answer, ran_buffer, count_values, counts_of, sweep_turns, stops_at, sweep_number, sweep_answer, sweep_seeds, sweep_bitmap, work_needed, sweep_work}

-- ---- by the number

pub unless_zero : (n : ℕ) (answer : Said) → n ≡ 0 → unless n answer ≡ answer
unfolding unless
unless_zero n answer e = rw e refl

pub unless_some : (n : ℕ) (answer : Said) → n ≢ 0 → unless n answer ≡ Refusal n []
unfolding unless
unless_some zero answer h = absurd (h refl)
unless_some (suc n) answer h = refl

pub kept_zero : (n : ℕ) (before after : List ℕ) → n ≡ 0 → kept_unless n before after ≡ after
unfolding kept_unless
kept_zero n before after e = rw e refl

pub kept_some : (n : ℕ) (before after : List ℕ) → n ≢ 0 → kept_unless n before after ≡ before
unfolding kept_unless
kept_some zero before after h = absurd (h refl)
kept_some (suc n) before after h = refl

-- ---- the sweep

-- what a sweep says, and what it leaves in each buffer lent for writing
pub record Left (tie : Tie) (how : How) (i : Input) (lent : Lent) (seeds bitmap work : List ℕ) (said : Said) (seeds' bitmap' work' : List ℕ) : Type 0 where
  pub said_is : sweep_answer tie how i lent ≡ said
  pub seeds_are : sweep_seeds tie how i lent seeds ≡ seeds'
  pub bitmap_is : sweep_bitmap tie how i lent bitmap ≡ bitmap'
  pub work_is : sweep_work how i lent work ≡ work'

module _ (tie : Tie) (how : How) (i : Input) (lent : Lent) (seeds bitmap work : List ℕ) where
  -- refused by a check: nothing is written
  pub sweep_refused : sweep_number how i lent ≢ 0 → Left tie how i lent seeds bitmap work (Refusal (sweep_number how i lent) []) seeds bitmap work
  unfolding sweep_answer sweep_seeds sweep_bitmap sweep_work
  sweep_refused h = record {
    said_is = unless_some (sweep_number how i lent) (ran_answer (stops_at tie how i) (counts_of i (final_seeds i (sweep_turns tie how.chunks i)))) h;
    seeds_are = kept_some (sweep_number how i lent) seeds (ran_buffer (stops_at tie how i) seeds (final_seeds i (sweep_turns tie how.chunks i))) h;
    bitmap_is = kept_some (sweep_number how i lent) bitmap (ran_buffer (stops_at tie how i) bitmap (final_bitmap i (sweep_turns tie how.chunks i))) h;
    work_is = kept_some (sweep_number how i lent) work (replicate (work_needed i) 0 ++ drop (work_needed i) work) h;
  }

  -- done
  pub sweep_done : sweep_number how i lent ≡ 0 → stops_at tie how i ≡ none
      → Left tie how i lent seeds bitmap work (Answer (count_values (counts_of i (final_seeds i (sweep_turns tie how.chunks i))))) (final_seeds i (sweep_turns tie how.chunks i)) (final_bitmap i (sweep_turns tie how.chunks i)) (replicate (work_needed i) 0 ++ drop (work_needed i) work)
  unfolding sweep_answer sweep_seeds sweep_bitmap sweep_work unless kept_unless ran_answer ran_buffer
  sweep_done e s = record { said_is = rw (e, s) refl; seeds_are = rw (e, s) refl; bitmap_is = rw (e, s) refl; work_is = rw e refl }

  -- 14: seeds, bitmap and the first W work words are zero
  pub sweep_stopped : (b : ℕ) → sweep_number how i lent ≡ 0 → stops_at tie how i ≡ some b
      → Left tie how i lent seeds bitmap work (Refusal 14 (b ∷ [])) (replicate (length seeds) 0) (replicate (length bitmap) 0) (replicate (work_needed i) 0 ++ drop (work_needed i) work)
  unfolding sweep_answer sweep_seeds sweep_bitmap sweep_work unless kept_unless ran_answer ran_buffer
  sweep_stopped b e s = record { said_is = rw (e, s) refl; seeds_are = rw (e, s) refl; bitmap_is = rw (e, s) refl; work_is = rw e refl }

-- bumping allowed never stops; forbidden stops at the first bucket that gets 0
pub stops_allowed : (tie : Tie) (how : How) (i : Input) → how.bump ≡ true → stops_at tie how i ≡ none
unfolding stops_at
stops_allowed tie how i e = rw e refl

pub stops_forbidden : (tie : Tie) (how : How) (i : Input) → how.bump ≡ false → stops_at tie how i ≡ fails_at i (sweep_turns tie how.chunks i)
unfolding stops_at
stops_forbidden tie how i e = rw e refl

-- where it stops, the turns did
pub stops_fails : (tie : Tie) (how : How) (i : Input) (b : ℕ) → stops_at tie how i ≡ some b → fails_at i (sweep_turns tie how.chunks i) ≡ some b
unfolding stops_at
stops_fails tie how i b e = go how.bump e
  where
    go : (t : Bool) → cond t none (fails_at i (sweep_turns tie how.chunks i)) ≡ some b → fails_at i (sweep_turns tie how.chunks i) ≡ some b
    go true e = let z : ◌≡◌ {A = ℕ} 0 1 = cc in absurd (omega arith)
    go false e = e
