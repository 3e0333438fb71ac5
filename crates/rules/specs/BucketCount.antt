-- Rule G's bucket count for k keys and an f64 bucket size. A float is the exact fraction num / den of `lib.Ieee.Positive`. Assumes nothing.
use Rattle.std.specs.Prelude.{ℕ, ◌+◌, ◌-◌, ◌*◌, ◌/◌, ◌%◌, ◌^◌, min, max, Bool, true, false, ◌&&◌, leb}
use lib.Ieee.{Float, nan, inf, fin, binary64, up, down, round}
use Rattle.std.specs.Float.Ieee.Positive.{num, den}

-- the largest bucket size, min(2^log2_slice_len/8, 64)
unfoldable pub size_cap : (log2SliceLen : ℕ) → ℕ
size_cap log2SliceLen = min (2 ^ log2SliceLen / 8) 64

-- a size in 1 to cap, which no NaN, no infinity and no negative is
unfoldable pub size_fits : (cap : ℕ) → Float → Bool
size_fits cap nan = false
size_fits cap (inf negative) = false
size_fits cap (fin true m e) = false
size_fits cap (fin false m e) = leb (down e) (m * up e) && leb (m * up e) (cap * down e)

-- the double quotient, k divided by the size and rounded once
unfoldable pub quotient_float : (k : ℕ) → Float → Float
quotient_float k size = round binary64 false (k * den size) (num size)

-- to the nearest whole number with halves upward: floor(x + 1/2)
unfoldable pub half_up : Float → ℕ
half_up x = (2 * num x + den x) / (2 * den x)

-- made odd by adding 1 if even
unfoldable pub odd_up : ℕ → ℕ
odd_up n = n + (1 - n % 2)

-- the quotient to the nearest whole number, at least 1, made odd
unfoldable pub buckets_for : (k : ℕ) → Float → ℕ
buckets_for k size = odd_up (max 1 (half_up (quotient_float k size)))
