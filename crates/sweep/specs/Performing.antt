-- A sweep whose checks have passed: what it asks, and what it leaves. Assumes nothing.
use Rattle.std.specs.Prelude.{◌≡◌, List, ℕ}
use Rattle.rules.specs.declared.How.{How}
use Rattle.rules.specs.declared.SweepRecord.{SweepRecord}
use Rattle.rules.specs.Numbers.{lent_of, largest}
use Rattle.rules.specs.Order.{Input, by_low_bits}
use Rattle.rules.specs.Answers.{said_sweep, sweep_number, sweep_answer, sweep_seeds, sweep_bitmap, sweep_work, work_needed}
use Rattle.geometry.specs.declared.shape.Geometry.{Geometry}

pub record Performing (i : Input) (how : How) (g : Geometry) (z words : ℕ) (seeds bitmap work : List ℕ) : Type 0 where
  pub fine : sweep_number how i (lent_of seeds bitmap work) ≡ 0
  pub settings : g.settings ≡ i.settings
  pub largest_is : z ≡ largest i
  pub words_are : words ≡ work_needed i

-- the answer and every lent word afterwards are the sweep's
pub record Left (i : Input) (how : How) (seeds bitmap work : List ℕ) (r : SweepRecord) (seeds' bitmap' work' : List ℕ) : Type 0 where
  pub answer : said_sweep r ≡ sweep_answer by_low_bits how i (lent_of seeds bitmap work)
  pub given : seeds' ≡ sweep_seeds by_low_bits how i (lent_of seeds bitmap work) seeds
  pub marked : bitmap' ≡ sweep_bitmap by_low_bits how i (lent_of seeds bitmap work) bitmap
  pub worked : work' ≡ sweep_work how i (lent_of seeds bitmap work) work
