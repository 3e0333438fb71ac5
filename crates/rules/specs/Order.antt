-- The groups of keys, and rule W: whose turn it is. Assumes nothing.
use Rattle.std.specs.Prelude.{ℕ, zero, suc, ◌+◌, ◌-◌, ◌*◌, ◌^◌, ◌%◌, Bool, cond, List, [], ◌∷◌, ltb, leb, ℤ, ◌+ℤ◌, ◌-ℤ◌, ◌*ℤ◌, get_or, length, take, drop}
use Rattle.std.proofs.Math.IntN as Int
use Rattle.integers.specs.Ints.{held}
use Rattle.rules.specs.declared.Settings.{Settings}
use Rattle.rules.specs.Lists.{between, filter, best, remove, greater, smaller, then_by}

-- what a sweep is given
pub record Input : Type 0 where
  pub settings : Settings
  pub weights : List ℤ
  pub hashes : List ℕ
  pub begins : List ℕ
  pub table : List ℕ

-- the same, put together from a call's arguments
abbrev pub input_of : Settings → (weights : List ℤ) → (hashes begins table : List ℕ) → Input
input_of s weights hashes begins table = record { settings = s; weights = weights; hashes = hashes; begins = begins; table = table }

-- how many keys bucket b has: begins holds where each bucket's keys begin, and at last where they end
unfoldable pub size_of : Input → (b : ℕ) → ℕ
size_of i b = get_or i.begins (b + 1) 0 - get_or i.begins b 0

-- the keys of bucket b
unfoldable pub keys_of : Input → (b : ℕ) → List ℕ
keys_of i b = take (size_of i b) (drop (get_or i.begins b 0) i.hashes)

-- the entry of a size from 1 to 7
unfoldable pub weight_entry : List ℤ → (size : ℕ) → ℤ
weight_entry ws size = get_or ws (size - 1) (Int.pos 0)

-- weight of size 1 to 7: that entry; above: (w7-w6)(size-7)+w7, held to ±2^40
unfoldable pub weight : List ℤ → (size : ℕ) → ℤ
weight ws size =
    cond (leb size 7) (weight_entry ws size)
    (held (2 ^ 40) ((weight_entry ws 7 -ℤ weight_entry ws 6) *ℤ Int.pos (size - 7) +ℤ weight_entry ws 7))

-- weight - 1024b
unfoldable pub priority : Input → (b : ℕ) → ℤ
priority i b = weight i.weights (size_of i b) -ℤ Int.pos (1024 * b)

-- a rule for ties is a number for each bucket: the smaller goes first
abbrev pub Tie : Type 0
Tie = ℕ → ℕ

-- the smaller b mod 1024
abbrev pub by_low_bits : Tie
by_low_bits b = b % 1024

-- the greatest weight - 1024b; on a tie the smaller by the rule for ties
unfoldable pub goes_first : Tie → Input → ℕ → ℕ → Bool
goes_first tie i = then_by (greater (priority i)) (smaller tie)

abbrev pub has_keys : Input → (b : ℕ) → Bool
has_keys i b = ltb 0 (size_of i b)

-- the nonempty buckets from lo up to hi, ascending
unfoldable pub nonempty : Input → (lo hi : ℕ) → List ℕ
nonempty i lo hi = filter (has_keys i) (between lo hi)

-- from o to o+255
abbrev pub in_window : (o b : ℕ) → Bool
in_window o b = ltb b (o + 256)

-- the untaken are o ∷ rest, ascending, so o is the least: of those from o to o+255, the one that goes before the others
unfoldable pub turn : (ℕ → ℕ → Bool) → (o : ℕ) → (rest : List ℕ) → ℕ
turn before o rest = best before o (filter (in_window o) rest)

-- turn after turn, until none is untaken; there are at most as many turns as the first number says
unfoldable pub turns : (ℕ → ℕ → Bool) → ℕ → List ℕ → List ℕ
turns before zero untaken = []
turns before (suc f) [] = []
turns before (suc f) (o ∷ rest) =
    let b = turn before o rest in
    b ∷ turns before f (remove b (o ∷ rest))

-- the order in which the buckets from lo up to hi are taken
unfoldable pub order : Tie → Input → (lo hi : ℕ) → List ℕ
order tie i lo hi = turns (goes_first tie i) (length (nonempty i lo hi)) (nonempty i lo hi)
