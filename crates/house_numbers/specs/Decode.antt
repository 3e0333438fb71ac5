-- The number at a place among bytes. Assumes nothing.
use Rattle.std.specs.Prelude.{Option, Some, None, ℕ, ◌+◌, ◌*◌, ◌%◌, ◌^◌, cond, ◌||◌, List, [], ◌∷◌, ltb, leb, drop}
use Rattle.house_numbers.specs.declared.Part.{Part}
use Rattle.house_numbers.specs.declared.Grown.{Grown}
use Rattle.house_numbers.specs.declared.Grown.TheVariants as Grow
use Rattle.house_numbers.specs.declared.Decoded.{Decoded}

-- a number that was read, and the place after it
abbrev pub read_number : (value next : ℕ) → Decoded
read_number v next = record { value = v; next = next }

abbrev pub found : (value next : ℕ) → Option Decoded
found v next = Some (read_number v next)

-- no group yet
abbrev pub no_groups : Part
no_groups = record { value = 0; groups = 0 }

-- the value with one group more: each group counts 128 times the one before
unfoldable pub grown_value : Part → (byte : ℕ) → ℕ
grown_value p byte = p.value + byte % 128 * 128 ^ p.groups

-- a group that is not refused: the last where the top bit is not set
unfoldable pub grown_to : (groups value byte : ℕ) → Grown
grown_to groups value byte = cond (ltb byte 128) (Grow.Whole value) (Grow.More (record { value = value; groups = groups + 1 }))

-- one more byte. Refused: over ten groups, or over 64 bits
unfoldable pub grown_by : Part → (byte : ℕ) → Option Grown
grown_by p byte = cond (ltb 9 p.groups || leb (2 ^ 64) (grown_value p byte)) None (Some (grown_to p.groups (grown_value p byte) byte))

-- what a grown part is, given the place after its last byte and what the bytes from there on make of a part that wants more
unfoldable pub settled : Option Grown → (next : ℕ) → (Part → Option Decoded) → Option Decoded
settled (Some (Grow.More p)) next more = more p
settled (Some (Grow.Whole v)) next more = found v next
settled None next more = None

-- what the bytes from a place on make of a part; refused where they end
unfoldable pub decoded_from : (at : ℕ) → List ℕ → Part → Option Decoded
decoded_from at [] p = None
decoded_from at (b ∷ bs) p = settled (grown_by p b) (at + 1) (decoded_from (at + 1) bs)

-- the number at a place
unfoldable pub decoded_at : (bytes : List ℕ) → (at : ℕ) → Option Decoded
decoded_at bytes at = decoded_from at (drop at bytes) no_groups
