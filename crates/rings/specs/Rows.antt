-- Rows of the ring: 64 slots that stand 2^t apart, and the ring of a key, which goes round after n of them. Assumes nothing.
use Rattle.std.specs.Prelude.{◌≡◌, List, ℕ, ◌+◌, ◌-◌, ◌*◌, ◌%◌, ◌^◌, ◌≤◌, ◌<◌}
use Rattle.words.specs.Bit.{bit}
use Rattle.rings.specs.Ring.{ring_bit}

-- bit i of r is slot p + i 2^t
pub record Row (t words : ℕ) (used : List ℕ) (p r : ℕ) : Type 0 where
  pub at : (i : ℕ) → i < 64 → bit r i ≡ ring_bit t words used (p + i * 2 ^ t)

-- bit j of r is the slot at place (x + j) mod n of the ring that starts at slot first
pub record Ring64 (t words n : ℕ) (used : List ℕ) (first x r : ℕ) : Type 0 where
  pub at : (j : ℕ) → j < 64 → j < n → bit r j ≡ ring_bit t words used (first + (x + j) % n * 2 ^ t)

-- the low n bits of a word, turned by x
pub record Turned (n row x r : ℕ) : Type 0 where
  pub at : (j : ℕ) → j < n → bit r j ≡ bit row ((x + j) % n)

-- the low k bits of a, and then those of b
pub record Wrapped (a b k r : ℕ) : Type 0 where
  pub low : (j : ℕ) → j < k → bit r j ≡ bit a j
  pub high : (j : ℕ) → j < 64 → k ≤ j → bit r j ≡ bit b (j - k)
