-- The complete answer of each public call, and each lent word afterwards, from the arguments as they came in. Assumes nothing.
use Rattle.std.specs.Prelude.{ℕ, zero, suc, cond, List, [], ◌∷◌, ◌++◌, eqb, Float, get_or, length, drop, replicate, Result, Ok, Err, Some, None, ⊤}
use Rattle.std.specs.Prelude
use Rattle.std.proofs.Math.Option.{Option, none, some}
use Rattle.rules.specs.declared.Settings.{Settings}
use Rattle.rules.specs.declared.How.{How}
use Rattle.rules.specs.declared.Counts.{Counts}
use Rattle.rules.specs.declared.SweepRecord.{SweepRecord}
use Rattle.rules.specs.declared.Refusal as R
use Rattle.rules.specs.declared.Refusal.TheVariants as Why
use Rattle.rules.specs.declared.Stop.{Stop}
use Rattle.rules.specs.Lists.{below, total, indicator}
use Rattle.rules.specs.Geometry.{work_words}
use Rattle.rules.specs.BucketCount.{buckets_for}
use Rattle.rules.specs.Order.{Input, Tie, size_of}
use Rattle.rules.specs.Chunks.{ranges, orders_of}
use Rattle.rules.specs.Sweep.{final_seeds, final_bitmap, fails_at}
use Rattle.rules.specs.Holes.{holes_of, looked_up}
use Rattle.rules.specs.Numbers.{Lent, first_of, largest, lines_to7, sweep_lines, lookup_lines, holes_lines, count_lines}

-- what a call says: the values of its answer, or document 01's number and what it names
pub data Said : Type 0 where
  Answer : List ℕ → Said
  Refusal : (number : ℕ) → List ℕ → Said

-- document 01's number of each refusal
abbrev pub number_of : R.Refusal → ℕ
number_of Why.SeedBits = 1
number_of Why.Layouts = 2
number_of Why.SliceLen = 3
number_of Why.LayoutBits = 4
number_of Why.Slots = 5
number_of Why.Buckets = 6
number_of Why.SlicesPerBucket = 7
number_of Why.Weights = 8
number_of Why.Begins = 9
number_of Why.LargeBucket = 10
number_of Why.StrayHash = 11
number_of Why.Table = 12
number_of Why.Lengths = 13
number_of Why.NoSeed = 14
number_of Why.HoleBuffer = 15
number_of Why.BucketSize = 16
number_of Why.Keys = 17
number_of Why.Form = 18
number_of Why.TooLarge = 19
number_of Why.Chunks = 20
number_of Why.TableLength = 21
number_of Why.FileShort = 22
number_of Why.FileVersion = 23
number_of Why.FileValue = 24
number_of Why.FileLeftOver = 25
number_of Why.FileRoom = 26
number_of Why.BadSeed = 28
number_of Why.SlotTwice = 29
number_of Why.Bitmap = 30

-- the number of the refusal that a call came back with, and 0 where it went well
abbrev pub refused_by : {A : Type 0} → Result A R.Refusal → ℕ
refused_by (Ok x) = 0
refused_by (Err why) = number_of why

-- the bucket that a refusal names, where it names one
unfoldable pub named_by : Prelude.Option ℕ → List ℕ
named_by (Some b) = b ∷ []
named_by None = []

-- placed, bumped, zero
unfoldable pub count_values : Counts → List ℕ
count_values c = c.placed ∷ c.bumped ∷ c.zero ∷ []

unfoldable pub said_stop : Stop → Said
said_stop s = Refusal (number_of s.why) (named_by s.bucket)

unfoldable pub said_outcome : Result Counts Stop → Said
said_outcome (Ok c) = Answer (count_values c)
said_outcome (Err s) = said_stop s

unfoldable pub said_sweep : SweepRecord → Said
said_sweep r = said_outcome r.outcome

-- what a lookup says: nothing of a bumped key, else its slot
unfoldable pub said_looked : Result (Prelude.Option ℕ) R.Refusal → Said
said_looked (Ok None) = Answer []
said_looked (Ok (Some x)) = Answer (x ∷ [])
said_looked (Err why) = Refusal (number_of why) []

-- what a hole list and a bucket count say
unfoldable pub said_count : Result ℕ R.Refusal → Said
said_count (Ok n) = Answer (n ∷ [])
said_count (Err why) = Refusal (number_of why) []

unfoldable pub said_checked : Result ⊤ R.Refusal → Said
said_checked (Ok done) = Answer []
said_checked (Err why) = Refusal (number_of why) []

-- the answer where no number applies, else the refusal
unfoldable pub unless : (number : ℕ) → Said → Said
unless zero answer = answer
unless (suc n) answer = Refusal (suc n) []

-- a lent buffer that a refusal leaves as it came
unfoldable pub kept_unless : (number : ℕ) → (before after : List ℕ) → List ℕ
kept_unless zero before after = after
kept_unless (suc n) before after = before

unfoldable pub settings_answer : Settings → Said
settings_answer s = unless (first_of (lines_to7 s)) (Answer [])

unfoldable pub count_answer : (log2SliceLen k : ℕ) → Float → Said
count_answer log2SliceLen k size = unless (first_of (count_lines log2SliceLen k size)) (Answer (buckets_for k size ∷ []))

unfoldable pub lookup_answer : Settings → (seeds : List ℕ) → (h : ℕ) → Said
lookup_answer s seeds h = unless (first_of (lookup_lines s (length seeds))) (Answer (looked_up s seeds h))

-- how many holes there are, and the buffer: the holes at its front, the rest kept
unfoldable pub holes_answer : (m : ℕ) → (bitmap out : List ℕ) → Said
holes_answer m bitmap out = unless (first_of (holes_lines m bitmap (length out))) (Answer (length (holes_of m bitmap) ∷ []))

unfoldable pub holes_out : (m : ℕ) → (bitmap out : List ℕ) → List ℕ
holes_out m bitmap out = kept_unless (first_of (holes_lines m bitmap (length out))) out (holes_of m bitmap ++ drop (length (holes_of m bitmap)) out)

-- bucket b's keys where its seed is not 0, and where it is
unfoldable pub placed_keys : Input → (seeds : List ℕ) → (b : ℕ) → ℕ
placed_keys i seeds b = cond (eqb (get_or seeds b 0) 0) 0 (size_of i b)

unfoldable pub bumped_keys : Input → (seeds : List ℕ) → (b : ℕ) → ℕ
bumped_keys i seeds b = cond (eqb (get_or seeds b 0) 0) (size_of i b) 0

-- 1 for a bucket that counts as zero: one whose seed is 0
unfoldable pub zero_bucket : Input → (seeds : List ℕ) → (b : ℕ) → ℕ
zero_bucket i seeds b = indicator (eqb (get_or seeds b 0) 0)

-- placed = keys in buckets with nonzero seed; bumped = the other keys; zero = buckets whose seed is 0
unfoldable pub counts_of : Input → (seeds : List ℕ) → Counts
counts_of i seeds = record {
  placed = total (placed_keys i seeds) (below i.settings.buckets);
  bumped = total (bumped_keys i seeds) (below i.settings.buckets);
  zero = total (zero_bucket i seeds) (below i.settings.buckets);
}

-- the answer of a sweep that ran: 14 with the bucket at which it stopped, or the counts
unfoldable pub ran_answer : Option ℕ → Counts → Said
ran_answer none counts = Answer (count_values counts)
ran_answer (some b) counts = Refusal 14 (b ∷ [])

-- a buffer after a sweep that ran: zero where it stopped, else filled
unfoldable pub ran_buffer : Option ℕ → (before after : List ℕ) → List ℕ
ran_buffer none before after = after
ran_buffer (some b) before after = replicate (length before) 0

-- the turns of the whole sweep, in chunks
unfoldable pub sweep_turns : Tie → (chunks : ℕ) → Input → List ℕ
sweep_turns tie chunks i = orders_of tie i (ranges i.settings chunks)

-- 14: bumping forbidden and the bucket taken gets 0
unfoldable pub stops_at : Tie → How → Input → Option ℕ
stops_at tie how i = cond how.bump none (fails_at i (sweep_turns tie how.chunks i))

-- the first that applies of the numbers that are checked before the first turn
unfoldable pub sweep_number : How → Input → Lent → ℕ
sweep_number how i lent = first_of (sweep_lines how i lent)

module _ (tie : Tie) (how : How) (i : Input) (lent : Lent) where
  unfoldable pub sweep_answer : Said
  sweep_answer = unless (sweep_number how i lent) (ran_answer (stops_at tie how i) (counts_of i (final_seeds i (sweep_turns tie how.chunks i))))

  unfoldable pub sweep_seeds : (before : List ℕ) → List ℕ
  sweep_seeds before = kept_unless (sweep_number how i lent) before (ran_buffer (stops_at tie how i) before (final_seeds i (sweep_turns tie how.chunks i)))

  unfoldable pub sweep_bitmap : (before : List ℕ) → List ℕ
  sweep_bitmap before = kept_unless (sweep_number how i lent) before (ran_buffer (stops_at tie how i) before (final_bitmap i (sweep_turns tie how.chunks i)))

-- W, from what was handed in
unfoldable pub work_needed : Input → ℕ
work_needed i = work_words i.settings (largest i)

-- the first W words are zero after a sweep that ran, and the rest keep their contents
unfoldable pub sweep_work : How → Input → Lent → (before : List ℕ) → List ℕ
sweep_work how i lent before = kept_unless (sweep_number how i lent) before (replicate (work_needed i) 0 ++ drop (work_needed i) before)
