-- The two theorems, as they are said of the records and buffers of two sweeps. Assumes nothing.
use Rattle.std.specs.Prelude.{◌≡◌, Bool, true, false, List, [], ◌∷◌, ℕ, ◌+◌, ◌<◌, T, get_or}
use Rattle.rules.specs.declared.SweepRecord.{SweepRecord}
use Rattle.rules.specs.declared.How.{How}
use Rattle.rules.specs.Order.{Input}
use Rattle.rules.specs.Chunks.{chunk_count}
use Rattle.rules.specs.Holes.{holes_of}
use Rattle.rules.specs.Numbers.{Lent}
use Rattle.rules.specs.Answers.{Said, Answer, Refusal, said_sweep}
use Rattle.steady.specs.Alike.{DifferIn, Reordered}

-- no number was said: the sweep was accepted, and is done
unfoldable pub is_answer : Said → Bool
is_answer (Answer values) = true
is_answer (Refusal number named) = false

unfoldable pub accepted : SweepRecord → Bool
accepted r = is_answer (said_sweep r)

-- the sweep got past the checks: it is done, or stopped at a bucket that it names (14)
unfoldable pub is_run : Said → Bool
is_run (Answer values) = true
is_run (Refusal number []) = false
is_run (Refusal number (b ∷ bs)) = true

unfoldable pub ran : SweepRecord → Bool
ran r = is_run (said_sweep r)

-- what two sweeps of m slots say and leave is the same: the record, each seed, each bit, each hole
pub record SameLevel (m : ℕ) (r r' : SweepRecord) (seeds seeds' bitmap bitmap' : List ℕ) : Type 0 where
  pub record_same : r ≡ r'
  pub seeds_same : seeds ≡ seeds'
  pub bitmap_same : bitmap ≡ bitmap'
  pub holes_same : holes_of m bitmap ≡ holes_of m bitmap'

-- early pages stay put: both swept in one chunk and accepted, groups that differ only in bucket b, then all buckets numbered below b - 255 have the same seeds
abbrev pub EarlyStay : (how : How) (i j : Input) (r r' : SweepRecord) (seeds seeds' : List ℕ) → Type 0
EarlyStay how i j r r' seeds seeds' = chunk_count i.settings how.chunks ≡ 1 → (b : ℕ) → DifferIn b i j → T (accepted r) → T (accepted r') → (x : ℕ) → x + 255 < b → get_or seeds x 0 ≡ get_or seeds' x 0

module _ (i j : Input) (r r' : SweepRecord) where
  -- reordering keys inside buckets changes no seed, bit or hole, in any number of chunks
  abbrev pub OrderFree : (seeds seeds' bitmap bitmap' : List ℕ) → Type 0
  OrderFree seeds seeds' bitmap bitmap' = Reordered i j → T (ran r) → T (ran r') → SameLevel i.settings.m r r' seeds seeds' bitmap bitmap'

  -- nor, where as much is lent, the number that refuses it
  abbrev pub RefusedAlike : (lent lent' : Lent) → Type 0
  RefusedAlike lent lent' = Reordered i j → lent ≡ lent' → r ≡ r'
