-- The mission's third demand, as laws about the public call. `sweep` leaves what `Left` says (its four promises); so where it answers with counts, all that
-- `Swept` says holds of the seeds and the bitmap in the caller's hands, and where it answers 14 with a bucket, all that `Stopped` says of the turns up to it.
-- Assumes nothing.
use mathlib.Core.Path.{◌≡◌, refl, ◌∙◌}
use mathlib.Core.Option.{Option, none, some}
use mathlib.Core.List.{List, [], ◌∷◌}
use Prim.Native.Nat.{ℕ, zero, suc}
use native.Mathlib.Omega.{arith}
use Rattle.words.specs.Map.{Words}
use Rattle.rules.specs.declared.How.{How}
use Rattle.rules.specs.declared.Counts.{Counts}
use Rattle.rules.specs.declared.Refusal as R
use Rattle.std.specs.Prelude.{Ok, Err, Some}
use Rattle.rules.specs.Numbers.{lent_of, first_of, sweep_lines}
use Rattle.rules.specs.Order.{Input, by_low_bits}
use Rattle.rules.specs.Sweep.{final_seeds, final_bitmap}
use Rattle.rules.specs.Answers.{Answer, Refusal, number_of, said_sweep, said_outcome, said_stop, named_by, unless, ran_answer, counts_of, count_values, sweep_turns, stops_at, sweep_number, sweep_answer}
use Rattle.rules.proofs.AnswerLaws as Laws
use Rattle.rules.proofs.Theorems.{Swept, Stopped, swept_low, stopped}
use Rattle.sweep.specs.Performing.{Left}

-- an answer is no refusal
not_refused : (n : ℕ) (vs : List ℕ) (o : Option ℕ) (c : Counts) → Answer vs ≡ unless n (ran_answer o c) → (n ≡ 0) × (o ≡ none)
unfolding unless ran_answer
not_refused zero vs none c e = (refl, refl)
not_refused zero vs (some b) c e = let z : ◌≡◌ {A = ℕ} 0 1 = cc in absurd (omega arith)
not_refused (suc n) vs o c e = let z : ◌≡◌ {A = ℕ} 0 1 = cc in absurd (omega arith)

-- and a refusal that names a bucket is 14's
named_bucket : (n k b : ℕ) (o : Option ℕ) (c : Counts) → Refusal k (b ∷ []) ≡ unless n (ran_answer o c) → (n ≡ 0) × (o ≡ some b)
unfolding unless ran_answer
named_bucket zero k b none c e = let z : ◌≡◌ {A = ℕ} 0 1 = cc in absurd (omega arith)
named_bucket zero k b (some d) c e = (refl, cc)
named_bucket (suc n) k b o c e = let z : ◌≡◌ {A = ℕ} 0 1 = cc in absurd (omega arith)

-- what holds of a level that was swept to its end
pub record Finished (chunks : ℕ) (i : Input) (c : Counts) (seeds' bitmap' : List ℕ) : Type 0 where
  pub swept : Swept by_low_bits chunks i
  pub seeds_are : seeds' ≡ final_seeds i (sweep_turns by_low_bits chunks i)
  pub bitmap_is : bitmap' ≡ final_bitmap i (sweep_turns by_low_bits chunks i)
  pub counts_are : count_values c ≡ count_values (counts_of i (final_seeds i (sweep_turns by_low_bits chunks i)))

pub finished : {i : Input} {how : How} {seeds bitmap work seeds' bitmap' work' : List ℕ} {c : Counts}
    → Left i how seeds bitmap work (record { outcome = Ok c }) seeds' bitmap' work' → Words i.hashes → Finished how.chunks i c seeds' bitmap'
unfolding said_sweep said_outcome sweep_answer sweep_number
finished {i} {how} {seeds} {bitmap} {work} {c = c} l w =
    let n = first_of (sweep_lines how i (lent_of seeds bitmap work)) in
    let r = not_refused n (count_values c) (stops_at by_low_bits how i) (counts_of i (final_seeds i (sweep_turns by_low_bits how.chunks i))) l.answer in
    let d = Laws.sweep_done by_low_bits how i (lent_of seeds bitmap work) seeds bitmap work r.0 r.1 in
    record {
      swept = swept_low how i (lent_of seeds bitmap work) r.0 w;
      seeds_are = l.given ∙ d.seeds_are;
      bitmap_is = l.marked ∙ d.bitmap_is;
      counts_are = values (l.answer ∙ d.said_is);
    }
  where
    values : {vs us : List ℕ} → Answer vs ≡ Answer us → vs ≡ us
    values e = cc

-- and of one that ended at a bucket that nothing fits, bumping forbidden
pub halted : {i : Input} {how : How} {seeds bitmap work seeds' bitmap' work' : List ℕ} {why : R.Refusal} {b : ℕ}
    → Left i how seeds bitmap work (record { outcome = Err (record { why = why; bucket = Some b }) }) seeds' bitmap' work' → Words i.hashes → Stopped by_low_bits how.chunks i b
unfolding said_sweep said_outcome said_stop named_by sweep_answer sweep_number
halted {i} {how} {seeds} {bitmap} {work} {why = why} {b = b} l w =
    let n = first_of (sweep_lines how i (lent_of seeds bitmap work)) in
    let r = named_bucket n (number_of why) b (stops_at by_low_bits how i) (counts_of i (final_seeds i (sweep_turns by_low_bits how.chunks i))) l.answer in
    stopped by_low_bits how i (lent_of seeds bitmap work) r.0 w b r.1
