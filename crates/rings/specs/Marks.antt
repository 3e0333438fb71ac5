-- A slot of the ring ring_marked and ring_unmarked. Assumes nothing.
use Rattle.std.specs.Prelude.{◌≡◌, Bool, true, false, List, ℕ}
use Rattle.words.specs.Map.{marked_at, cleared_at}
use Rattle.rings.specs.declared.Ring.{Ring}
use Rattle.rings.specs.Ring.{word_of, bit_of, ring_bit}

unfoldable pub ring_marked : (t words : ℕ) → List ℕ → ℕ → List ℕ
ring_marked t words used p = marked_at used (word_of t words p) (bit_of t p)

unfoldable pub ring_unmarked : (t words : ℕ) → List ℕ → ℕ → List ℕ
ring_unmarked t words used p = cleared_at used (word_of t words p) (bit_of t p)

-- a slot was free and is ring_marked, or was ring_marked and nothing changed
pub record Took (g : Ring) (used : List ℕ) (p : ℕ) (free : Bool) (after : List ℕ) : Type 0 where
  pub yes : free ≡ true → (ring_bit g.t g.words used p ≡ 0) × (after ≡ ring_marked g.t g.words used p)
  pub no : free ≡ false → (ring_bit g.t g.words used p ≡ 1) × (after ≡ used)
