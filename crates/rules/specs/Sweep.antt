-- A sweep: rule S over a list of buckets in turn, from a plain list of marked slots. Assumes nothing.
use Rattle.std.specs.Prelude.{ℕ, zero, suc, ◌+◌, ◌*◌, ◌/◌, cond, List, [], ◌∷◌, ◌++◌, map, eqb}
use Rattle.std.proofs.Math.Option.{Option, none, some}
use Rattle.rules.specs.Lists.{below, elem, number}
use Rattle.rules.specs.Order.{Input}
use Rattle.rules.specs.Seed.{slots_of, seed_for}

-- a bucket and the seed that it was given
pub record Given : Type 0 where
  pub bucket : ℕ
  pub seed : ℕ

-- the slots that a bucket takes by its seed: none where that is 0
unfoldable pub takes : Input → (b v : ℕ) → List ℕ
takes i b zero = []
takes i b (suc v) = slots_of i b (suc v)

-- what each bucket of a list is given in its turn, from the slots marked so far
unfoldable pub given : Input → (marked : List ℕ) → List ℕ → List Given
given i marked [] = []
given i marked (b ∷ bs) =
    let v = seed_for i marked b in
    record { bucket = b; seed = v } ∷ given i (takes i b v ++ marked) bs

-- the slots marked in the end
unfoldable pub marks : Input → (marked : List ℕ) → List ℕ → List ℕ
marks i marked [] = marked
marks i marked (b ∷ bs) = marks i (takes i b (seed_for i marked b) ++ marked) bs

-- the seed given to bucket b; 0 where it never had a turn
unfoldable pub seed_in : List Given → (b : ℕ) → ℕ
seed_in [] b = 0
seed_in (g ∷ gs) b = cond (eqb g.bucket b) g.seed (seed_in gs b)

-- the first bucket that was given 0
unfoldable pub first_zero : List Given → Option ℕ
first_zero [] = none
first_zero (g ∷ gs) = cond (eqb g.seed 0) (some g.bucket) (first_zero gs)

-- bit k of word w is 1 where slot 64w + k is marked
unfoldable pub word_of : (marked : List ℕ) → (w : ℕ) → ℕ
word_of marked w = number (map (λ (k : ℕ). elem (64 * w + k) marked) (below 64))

-- slot i is bit i mod 64 of word floor(i/64); there are ceil(m/64) words
unfoldable pub bitmap_of : (m : ℕ) → (marked : List ℕ) → List ℕ
bitmap_of m marked = map (word_of marked) (below ((m + 63) / 64))

-- a sweep starts with no slot marked: the seeds, the marked slots, the bitmap and the first bucket that gets 0, for the buckets in turn
module _ (i : Input) (turns : List ℕ) where
  unfoldable pub final_seeds : List ℕ
  final_seeds = map (seed_in (given i [] turns)) (below i.settings.buckets)

  unfoldable pub final_marks : List ℕ
  final_marks = marks i [] turns

  unfoldable pub final_bitmap : List ℕ
  final_bitmap = bitmap_of i.settings.m final_marks

  unfoldable pub fails_at : Option ℕ
  fails_at = first_zero (given i [] turns)
