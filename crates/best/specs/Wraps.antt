-- Wrap points. Key d is at place 0 of its ring at rotation n - x, where x > 0 is its place at rotation 0; a layout's wrap points are a bit set of n bits.
-- Assumes nothing.
use Rattle.std.specs.Prelude.{◌≡◌, cond, List, ℕ, zero, suc, ◌-◌, ◌<◌, eqb, length, get_or, replicate}
use Rattle.words.specs.Map.{slot, marked}
use Rattle.rings.specs.declared.Ring.{Ring}
use Rattle.rings.specs.Keys.{place_at}
use Rattle.rings.specs.Parts.{part}
use Rattle.best.specs.Kept.{Kept}

-- the set with key d's wrap point
unfoldable pub with_point : (g : Ring) (d : ℕ) (wraps : List ℕ) → List ℕ
with_point g d wraps = cond (eqb (place_at g d 0) 0) wraps (marked wraps (g.n - place_at g d 0))

-- the wrap points of the first i keys, in `count` words
unfoldable pub points_of : (g : Ring) (keys : List ℕ) (count i : ℕ) → List ℕ
points_of g keys count zero = replicate count 0
points_of g keys count (suc i) = with_point g (get_or keys i 0) (points_of g keys count i)

-- each rotation that takes a key to place 0 is marked
unfoldable pub Points : (g : Ring) (keys wraps : List ℕ) → Type 0
Points g keys wraps = (i p : ℕ) → i < length keys → 0 < p → p < g.n → place_at g (get_or keys i 0) p ≡ 0 → slot wraps p ≡ 1

-- what is below `up` is as it was, and from there on there are these `count` words
pub record Filled (up count : ℕ) (l words after : List ℕ) : Type 0 where
  pub kept : Kept up l after
  pub is : part after up count ≡ words
