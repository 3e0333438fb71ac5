-- The free words while they are filled: begun with the barred rotation, then one key after the other, and turned over at the end.
-- Layout q's words are the count ones from to + q count on, and its keys are keys_of q. Assumes nothing.
use Rattle.std.specs.Prelude.{◌≡◌, List, ℕ, ◌+◌, ◌-◌, ◌*◌, ◌^◌, ◌≤◌, ◌<◌, max, length, get_or, take, drop}
use Rattle.std.specs.Int.Bits.{bit_and}
use Rattle.words.specs.Bit.{bit}
use Rattle.words.specs.Map.{ones_to}
use Rattle.rings.specs.declared.Ring.{Ring}
use Rattle.rings.specs.Ring.{ring_bit}
use Rattle.rings.specs.Keys.{slot_at}
use Rattle.rings.specs.Free.{Bar, Blocked}

-- of the elements of l only those from `to` on, `words` of them, are not what they were
pub record Within (l : List ℕ) (to words : ℕ) (now : List ℕ) : Type 0 where
  pub front : take to now ≡ take to l
  pub len : length now ≡ length l
  pub after : (k : ℕ) → to + words ≤ k → get_or now k 0 ≡ get_or l k 0

-- the first `words` words from `to` on are 0
pub record Cleared (l : List ℕ) (to words : ℕ) (now : List ℕ) : Type 0 where
  pub within : Within l to words now
  pub zero : (k : ℕ) → k < words → get_or now (to + k) 0 ≡ 0

-- the words of all layouts have the barred rotation alone
pub record BegunFree (g : Ring) (l : List ℕ) (to layouts count : ℕ) (now : List ℕ) : Type 0 where
  pub within : Within l to (layouts * count) now
  pub words : (q k : ℕ) → q < layouts → k < count → Bar g q k (get_or now (to + q * count + k) 0)

-- the low n bits
pub record Own (n r : ℕ) : Type 0 where
  pub at : (j : ℕ) → j < 64 → j < n → bit r j ≡ 1
  pub past : (j : ℕ) → j < 64 → n ≤ j → bit r j ≡ 0

-- f is the complement of x, cut to n bits
pub record Flipped (g : Ring) (x f : ℕ) : Type 0 where
  pub at : (j : ℕ) → j < 64 → j < g.n → bit f j ≡ 1 - bit x j
  pub past : (j : ℕ) → j < 64 → g.n ≤ j → bit f j ≡ 0

-- each of the first `words` words from `to` on is its complement, cut to the bits of own; `total` bits are left
pub record TurnedOver (l : List ℕ) (to words own total : ℕ) (now : List ℕ) : Type 0 where
  pub within : Within l to words now
  pub over : (k : ℕ) → k < words → get_or now (to + k) 0 ≡ bit_and (2 ^ 64 - 1 - get_or l (to + k) 0) own
  pub sum : total ≡ ones_to (drop to now) words
  pub most : total ≤ 64 * words

-- the same for the bits below n
pub record FinishedFree (g : Ring) (l : List ℕ) (to words total : ℕ) (now : List ℕ) : Type 0 where
  pub within : Within l to words now
  pub flipped : (k : ℕ) → k < words → Flipped g (get_or l (to + k) 0) (get_or now (to + k) 0)
  pub sum : total ≡ ones_to (drop to now) words
  pub most : total ≤ 64 * words

-- bit j of z: bit j of x, or whether key d's slot at rotation 64 w + j is used
pub record Added (g : Ring) (used : List ℕ) (d start w x z : ℕ) : Type 0 where
  pub at : (j : ℕ) → j < 64 → j < g.n → bit z j ≡ max (bit x j) (ring_bit g.t g.words used (slot_at g start d (64 * w + j)))

-- the first i keys of each layout are in
pub record BlockedAll (g : Ring) (used : List ℕ) (keys_of : ℕ → List ℕ) (start to count layouts i : ℕ) (now : List ℕ) : Type 0 where
  pub at : (q k : ℕ) → q < layouts → k < count → Blocked g used (keys_of q) start q k i (get_or now (to + q * count + k) 0)
