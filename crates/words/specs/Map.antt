-- A list of 64-bit words as a map of slots: slot p is bit p % 64 of word p / 64. Past the last word every slot is 0.
-- Assumes nothing.
use Rattle.std.specs.Prelude.{List, ℕ, zero, suc, ◌+◌, ◌-◌, ◌/◌, ◌%◌, ◌^◌, ◌<◌, get_or, set}
use Rattle.std.specs.Int.Bits.{bit_and, bit_or}
use Rattle.std.specs.Int.Count.{ones}
use Rattle.words.specs.Bit.{bit}

-- each word has 64 bits
abbrev pub Words : List ℕ → Type 0
Words ws = (k : ℕ) → get_or ws k 0 < 2 ^ 64

-- whether slot p is marked: 0 or 1
unfoldable pub slot : List ℕ → ℕ → ℕ
slot ws p = bit (get_or ws (p / 64) 0) (p % 64)

-- bit i of word w set
unfoldable pub marked_at : List ℕ → ℕ → ℕ → List ℕ
marked_at ws w i = set ws w (bit_or (get_or ws w 0) (2 ^ i))

-- bit i of word w cleared
unfoldable pub cleared_at : List ℕ → ℕ → ℕ → List ℕ
cleared_at ws w i = set ws w (bit_and (get_or ws w 0) ((2 ^ 64 - 1) - 2 ^ i))

-- slot p marked
unfoldable pub marked : List ℕ → ℕ → List ℕ
marked ws p = marked_at ws (p / 64) (p % 64)

-- slot p cleared
unfoldable pub cleared : List ℕ → ℕ → List ℕ
cleared ws p = cleared_at ws (p / 64) (p % 64)

-- how many of the slots below n are marked
unfoldable pub tally : List ℕ → ℕ → ℕ
tally ws zero = 0
tally ws (suc n) = tally ws n + slot ws n

-- the set bits of the first k words
unfoldable pub ones_to : List ℕ → ℕ → ℕ
ones_to ws zero = 0
ones_to ws (suc k) = ones_to ws k + ones (get_or ws k 0)
