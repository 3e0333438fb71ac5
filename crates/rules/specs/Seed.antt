-- Rule S: one bucket's seed. Assumes nothing.
use Rattle.std.specs.Prelude.{ℕ, ◌+◌, ◌-◌, ◌*◌, Bool, cond, not, ◌&&◌, List, [], ◌∷◌, ◌++◌, map, eqb, get_or}
use Rattle.rules.specs.Lists.{below, filter, best, smaller, then_by, sum, all_free, distinct}
use Rattle.rules.specs.Geometry.{layouts, ring_len, rotations, first, position}
use Rattle.rules.specs.Order.{Input, keys_of}

-- a candidate (r,j)
pub record Candidate : Type 0 where
  pub r : ℕ
  pub j : ℕ

-- (r,0), .., (r,n-1)
abbrev pub row : (n r : ℕ) → List Candidate
row n r = map (λ (j : ℕ). record { r = r; j = j }) (below n)

abbrev pub rows : (n : ℕ) → List ℕ → List Candidate
rows n [] = []
rows n (r ∷ rs) = row n r ++ rows n rs

-- (0,0)
unfoldable pub is_first : Candidate → Bool
is_first c = eqb c.r 0 && eqb c.j 0

module _ (i : Input) where
  -- (0,0) is barred when n = R
  unfoldable pub barred : Candidate → Bool
  barred c = is_first c && eqb (ring_len i.settings) (rotations i.settings)

  unfoldable pub unbarred : Candidate → Bool
  unbarred c = not (barred c)

  -- candidates are (r,j) with r < L, j < n
  unfoldable pub candidates : List Candidate
  candidates = filter unbarred (rows (ring_len i.settings) (below (layouts i.settings)))

  -- its seed is j·L+r, and n·L for (0,0)
  unfoldable pub seed_of : Candidate → ℕ
  seed_of c = cond (is_first c) (ring_len i.settings * layouts i.settings) (c.j * layouts i.settings + c.r)

  -- the positions of the bucket's keys under a seed
  unfoldable pub slots_of : (b v : ℕ) → List ℕ
  slots_of b v = map (position i.settings v) (keys_of i b)

  -- all free and pairwise different
  unfoldable pub fits : (marked : List ℕ) → (b v : ℕ) → Bool
  fits marked b v = all_free marked (slots_of b v) && distinct (slots_of b v)

  -- table[position - first(b) + 95]
  unfoldable pub price : (b x : ℕ) → ℕ
  price b x = get_or i.table (x - first i.settings b + 95) 0

  -- sum over keys
  unfoldable pub cost : (b v : ℕ) → ℕ
  cost b v = sum (map (price b) (slots_of b v))

  -- by (cost, r, j)
  unfoldable pub cheaper : (b : ℕ) → Candidate → Candidate → Bool
  cheaper b = then_by (smaller (λ (c : Candidate). cost b (seed_of c))) (then_by (smaller (λ (c : Candidate). c.r)) (smaller (λ (c : Candidate). c.j)))

  -- a candidate fits if its seed does
  unfoldable pub candidate_fits : (marked : List ℕ) → (b : ℕ) → Candidate → Bool
  candidate_fits marked b c = fits marked b (seed_of c)

  unfoldable pub fitting : (marked : List ℕ) → (b : ℕ) → List Candidate
  fitting marked b = filter (candidate_fits marked b) candidates

  -- the seed of the least of a list of candidates, or 0
  unfoldable pub seed_of_least : (b : ℕ) → List Candidate → ℕ
  seed_of_least b [] = 0
  seed_of_least b (c ∷ cs) = seed_of (best (cheaper b) c cs)

  -- the bucket gets the least (cost, r, j) that fits, or 0
  unfoldable pub seed_for : (marked : List ℕ) → (b : ℕ) → ℕ
  seed_for marked b = seed_of_least b (fitting marked b)
