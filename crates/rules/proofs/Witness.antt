-- Nothing is promised of an empty set: document 01's listing passes the checks, so all that `Swept` says holds of it, and with a bucket of two equal
-- hashes and bumping forbidden it passes them and stops, so all that `Stopped` says holds of that. Its answer and buffers are the listing's. Assumes nothing.
use mathlib.Core.Path.{◌≡◌, refl}
use mathlib.Core.Bool.{Bool, true, false}
use mathlib.Core.List.{List, [], ◌∷◌}
use mathlib.Core.Option.{some}
use Prim.Native.Nat.{ℕ, ◌^◌}
use lib.Dec.{T, ltb, ltb→lt}
use lib.ListN.{get_or}
use Rattle.words.specs.Map.{Words}
use Rattle.rules.specs.Lists.{every}
use Rattle.rules.specs.Order.{Input, by_low_bits}
use Rattle.rules.specs.Numbers.{first_of, sweep_lines}
use Rattle.rules.specs.Chunks.{in_one}
use Rattle.rules.specs.Answers.{Answer, Refusal, stops_at, sweep_answer, sweep_seeds, sweep_bitmap}
use Rattle.rules.proofs.Ranges.{every_get_d}
use Rattle.rules.proofs.Theorems.{Swept, swept_low, Stopped, stopped}
use Rattle.rules.proofs.Sheets.{table, small, listing, lent_for, runs}

-- each entry below 2^64, by one test
narrow : ℕ → Bool
narrow x = ltb x (2 ^ 64)

words_by : (xs : List ℕ) → T (every narrow xs) → Words xs
unfolding narrow
words_by xs t k = ltb→lt (get_or xs k 0) (2 ^ 64) (every_get_d narrow 0 xs t tt k)

-- ---- done

listing_passes : first_of (sweep_lines (in_one true) (listing 2048) (lent_for (listing 2048))) ≡ 0
unfolding listing table runs
listing_passes = refl

pub listing_swept : Swept by_low_bits 1 (listing 2048)
unfolding listing narrow
listing_swept = swept_low (in_one true) (listing 2048) (lent_for (listing 2048)) listing_passes (words_by (listing 2048).hashes tt)

-- placed 3, bumped 0, one zero bucket; seeds 3, 4, 0; slots 1, 2 and 4 marked, whatever the buffers held
pub listing_answer : sweep_answer by_low_bits (in_one true) (listing 2048) (lent_for (listing 2048)) ≡ Answer (3 ∷ 0 ∷ 1 ∷ [])
unfolding listing table runs
listing_answer = refl

pub listing_seeds : sweep_seeds by_low_bits (in_one true) (listing 2048) (lent_for (listing 2048)) (1 ∷ 2 ∷ 3 ∷ []) ≡ 3 ∷ 4 ∷ 0 ∷ []
unfolding listing table runs
listing_seeds = refl

pub listing_bitmap : sweep_bitmap by_low_bits (in_one true) (listing 2048) (lent_for (listing 2048)) (5 ∷ []) ≡ 22 ∷ []
unfolding listing table runs
listing_bitmap = refl

-- no chunk is refused, by 20, before what else is wrong with what is lent
pub listing_unchunked : sweep_answer by_low_bits (record { bump = true; chunks = 0 }) (listing 2048) (record { seeds = 0; bitmap = 0; work = 0 }) ≡ Refusal 20 []
unfolding listing table runs
listing_unchunked = refl

-- one word of work less is refused, by 13
pub listing_short : sweep_answer by_low_bits (in_one true) (listing 2048) (record { seeds = 3; bitmap = 1; work = 2821 }) ≡ Refusal 13 []
unfolding listing table runs
listing_short = refl

-- ---- stopped

-- P5: two equal hashes in the one bucket
unfoldable pub twins : Input
twins = small 7 4 (0 ∷ 0 ∷ [])

twins_passes : first_of (sweep_lines (in_one false) twins (lent_for twins)) ≡ 0
unfolding twins small table runs
twins_passes = refl

twins_stops : stops_at by_low_bits (in_one false) twins ≡ some 0
unfolding twins small table runs
twins_stops = refl

pub twins_stopped : Stopped by_low_bits 1 twins 0
unfolding twins small narrow
twins_stopped = stopped by_low_bits (in_one false) twins (lent_for twins) twins_passes (words_by twins.hashes tt) 0 twins_stops
