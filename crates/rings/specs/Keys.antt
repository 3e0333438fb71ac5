-- Ring keys. A ring key has two halves. The high one is the first slot of the key's ring, counted from slot start - 95, where start is the first slot
-- of the bucket: so it counts entries of the table. The low one is the key's place in its ring at rotation 0, times 2^t.
-- Assumes nothing.
use Rattle.std.specs.Prelude.{◌≡◌, Bool, true, false, List, ℕ, zero, suc, ◌+◌, ◌-◌, ◌*◌, ◌/◌, ◌%◌, ◌^◌, ◌≤◌, ◌<◌, max, eqb, length, get_or}
use Rattle.words.specs.Bit.{bit}
use Rattle.rings.specs.declared.Ring.{Ring}
use Rattle.rings.specs.Ring.{ring_bit}

-- the place in its ring that key d takes at rotation j
unfoldable pub place_at : (g : Ring) (d j : ℕ) → ℕ
place_at g d j = (d % 2 ^ 32 / 2 ^ g.t + j) % g.n

-- the entry of the table with key d's price at rotation j
unfoldable pub entry_at : (g : Ring) (d j : ℕ) → ℕ
entry_at g d j = d / 2 ^ 32 + place_at g d j * 2 ^ g.t

-- the slot that key d takes at rotation j
unfoldable pub slot_at : (g : Ring) (start d j : ℕ) → ℕ
slot_at g start d j = entry_at g d j + start - 95

-- what is asked of a ring key
pub record Key (start d : ℕ) : Type 0 where
  pub ahead : 95 ≤ d / 2 ^ 32 + start
  pub low : d < 2 ^ 63

abbrev pub Keys : (keys : List ℕ) (start : ℕ) → Type 0
Keys keys start = (i : ℕ) → i < length keys → Key start (get_or keys i 0)

-- bit j of r: whether key d's slot at rotation 64 w + j is used
pub record KeyRow (g : Ring) (used : List ℕ) (d start w r : ℕ) : Type 0 where
  pub at : (j : ℕ) → j < 64 → j < g.n → bit r j ≡ ring_bit g.t g.words used (slot_at g start d (64 * w + j))

-- the sum of the first i keys' entries at a rotation
unfoldable pub cost_to : (g : Ring) (table keys : List ℕ) (rot i : ℕ) → ℕ
cost_to g table keys rot zero = 0
cost_to g table keys rot (suc i) = cost_to g table keys rot i + get_or table (entry_at g (get_or keys i 0) rot) 0

-- the cost of a rotation: the sum of the keys' entries
unfoldable pub cost_at : (g : Ring) (table keys : List ℕ) (rot : ℕ) → ℕ
cost_at g table keys rot = cost_to g table keys rot (length keys)

-- every entry of every key is one of the table's first ones
abbrev pub Priced : (g : Ring) (entries : ℕ) (keys : List ℕ) → Type 0
Priced g entries keys = (i : ℕ) → i < length keys → get_or keys i 0 / 2 ^ 32 + (g.n - 1) * 2 ^ g.t < entries

abbrev pub one : Bool → ℕ → ℕ
one true x = x
one false x = 0

-- whether a rotation of layout r is barred: rotation 0 of layout 0 is where n = R
unfoldable pub bar_bit : (g : Ring) (r rot : ℕ) → ℕ
bar_bit g r rot = one (eqb r 0) (one (eqb rot 0) (one (eqb g.n g.rotations) 1))

-- whether one of the first i keys has its slot used at a rotation
unfoldable pub used_of : (g : Ring) (used keys : List ℕ) (start rot i : ℕ) → ℕ
used_of g used keys start rot zero = 0
used_of g used keys start rot (suc i) = max (used_of g used keys start rot i) (ring_bit g.t g.words used (slot_at g start (get_or keys i 0) rot))

-- whether a rotation of layout r is free
unfoldable pub free_at : (g : Ring) (used keys : List ℕ) (start r rot : ℕ) → ℕ
free_at g used keys start r rot = 1 - max (bar_bit g r rot) (used_of g used keys start rot (length keys))
