-- The free rotations of a bucket, as words: what the functions that fill them answer. Assumes nothing.
use Rattle.std.specs.Prelude.{◌≡◌, List, ℕ, ◌+◌, ◌*◌, ◌≤◌, ◌<◌, max, length, get_or, take, drop}
use Rattle.words.specs.Bit.{bit}
use Rattle.words.specs.Map.{ones_to}
use Rattle.rings.specs.declared.Ring.{Ring}
use Rattle.rings.specs.Keys.{bar_bit, used_of, free_at}
use Rattle.rings.specs.Parts.{part}

-- bit j of x: whether rotation 64 w + j of layout r is barred
pub record Bar (g : Ring) (r w x : ℕ) : Type 0 where
  pub at : (j : ℕ) → j < 64 → bit x j ≡ bar_bit g r (64 * w + j)

-- bit j of x: whether rotation 64 w + j of layout r is barred or one of the first i keys has its slot used
pub record Blocked (g : Ring) (used keys : List ℕ) (start r w i x : ℕ) : Type 0 where
  pub at : (j : ℕ) → j < 64 → j < g.n → bit x j ≡ max (bar_bit g r (64 * w + j)) (used_of g used keys start (64 * w + j) i)

-- bit j of f: whether rotation 64 w + j of layout r is free
pub record FreeWord (g : Ring) (used keys : List ℕ) (start r w f : ℕ) : Type 0 where
  pub at : (j : ℕ) → j < 64 → j < g.n → bit f j ≡ free_at g used keys start r (64 * w + j)
  pub past : (j : ℕ) → j < 64 → g.n ≤ j → bit f j ≡ 0

-- the free words of the first r layouts: layout q's keys are the size ones from at + q size on, and its words the count ones from to + q count on
pub record FilledTo (g : Ring) (l : List ℕ) (at size start to count r total : ℕ) (now : List ℕ) : Type 0 where
  pub front : take to now ≡ take to l
  pub len : length now ≡ length l
  pub words : (q k : ℕ) → q < r → k < count → FreeWord g l (part l (at + q * size) size) start q k (get_or now (to + q * count + k) 0)
  pub sum : total ≡ ones_to (drop to now) (r * count)
  pub most : total ≤ 64 * (r * count)
  pub after : (k : ℕ) → to + r * count ≤ k → get_or now k 0 ≡ get_or l k 0
