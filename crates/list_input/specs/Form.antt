-- Errors of form (18): input short, left over, a number of over ten groups or over 64 bits, or a bump flag other than 0 or 1.
-- Assumes nothing.
use Rattle.std.specs.Prelude.{Option as Maybe, Some, None, ℕ, ◌-◌, Bool, false, cond, ◌&&◌, List, [], ◌∷◌, eqb, leb, ltb, length, get_or, drop}
use Rattle.std.proofs.Math.Option.{Option, none, some}
use Rattle.house_numbers.specs.declared.Part.{Part}
use Rattle.house_numbers.specs.declared.Grown.{Grown}
use Rattle.house_numbers.specs.declared.Grown.TheVariants as Grow
use Rattle.house_numbers.specs.Decode.{no_groups, grown_by}

abbrev pub in_front : ℕ → Option (List ℕ) → Option (List ℕ)
in_front v none = none
in_front v (some ns) = some (v ∷ ns)

-- the numbers after one more byte, from what the bytes that follow make of a part
unfoldable pub numbers_by : Maybe Grown → (Part → Option (List ℕ)) → Option (List ℕ)
numbers_by (Some (Grow.More p)) rest = rest p
numbers_by (Some (Grow.Whole v)) rest = in_front v (rest no_groups)
numbers_by None rest = none

-- the numbers that the bytes are, of which the first goes on from a part; none where one is refused, or the bytes end within one
unfoldable pub numbers_from : List ℕ → Part → Option (List ℕ)
numbers_from [] p = cond (eqb p.groups 0) (some []) none
numbers_from (b ∷ bs) p = numbers_by (grown_by p b) (numbers_from bs)

unfoldable pub numbers_of : (bytes : List ℕ) → Option (List ℕ)
numbers_of bytes = numbers_from bytes no_groups

-- per bucket its key count and hashes, with so many hashes and then so many buckets still to come, and nothing left over
unfoldable pub grouped : (keys buckets : ℕ) → List ℕ → Bool
grouped keys buckets [] = eqb keys 0 && eqb buckets 0
grouped keys buckets (x ∷ xs) = cond (ltb 0 keys) (grouped (keys - 1) buckets xs) (cond (ltb 0 buckets) (grouped x (buckets - 1) xs) false)

-- order: m, log2_slice_len, ll, sb, bump flag, seven weights, B, then per bucket its key count and hashes
unfoldable pub well_formed : List ℕ → Bool
well_formed ns = leb 13 (length ns) && (leb (get_or ns 4 0) 1 && grouped 0 (get_or ns 12 0) (drop 13 ns))

unfoldable pub if_formed : Option (List ℕ) → Option (List ℕ)
if_formed none = none
if_formed (some ns) = cond (well_formed ns) (some ns) none

-- the numbers of an input without an error of form
unfoldable pub form_of : (bytes : List ℕ) → Option (List ℕ)
form_of bytes = if_formed (numbers_of bytes)
