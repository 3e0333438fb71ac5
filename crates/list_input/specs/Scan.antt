-- The input as it comes, byte by byte: the part of a number that is being read, the form so far, and the first 205 numbers.
-- Assumes nothing.
use Rattle.std.specs.Prelude.{Option, Some, None, ℕ, ◌+◌, ◌-◌, min, Bool, false, cond, not, ◌&&◌, ◌||◌, List, [], ◌∷◌, eqb, leb, ltb, set}
use Rattle.house_numbers.specs.declared.Grown.{Grown}
use Rattle.house_numbers.specs.declared.Grown.TheVariants as Grow
use Rattle.house_numbers.specs.Decode.{no_groups, grown_by}
use Rattle.list_input.specs.declared.Form.{Form}
use Rattle.list_input.specs.declared.Form.TheVariants.{Head, Groups}
use Rattle.list_input.specs.declared.Scan.{Scan}

-- ---- the form, number by number; none after an error

-- the fifth number is the bump flag, 0 or 1
unfoldable pub flag_fits : (head v : ℕ) → Bool
flag_fits head v = not (eqb head 4) || leb v 1

-- one of the thirteen numbers at the head; the last of them is the number of buckets to come
unfoldable pub head_step : (head v : ℕ) → Option Form
head_step head v = cond (flag_fits head v) (Some (cond (ltb head 12) (Head (head + 1)) (Groups 0 v))) None

-- a hash, or the next bucket's key count, or left over
unfoldable pub body_step : (keys buckets v : ℕ) → Option Form
body_step keys buckets v = cond (ltb 0 keys) (Some (Groups (keys - 1) buckets)) (cond (ltb 0 buckets) (Some (Groups v (buckets - 1))) None)

unfoldable pub form_step : Form → (v : ℕ) → Option Form
form_step (Head head) v = head_step head v
form_step (Groups keys buckets) v = body_step keys buckets v

-- an error stays
unfoldable pub form_then : Option Form → (v : ℕ) → Option Form
form_then None v = None
form_then (Some f) v = form_step f v

-- no error so far, and nothing still to come
unfoldable pub form_ends : Option Form → Bool
form_ends None = false
form_ends (Some (Head head)) = false
form_ends (Some (Groups keys buckets)) = eqb keys 0 && eqb buckets 0

-- ---- the bytes

abbrev pub form_start : Option Form
form_start = Some (Head 0)

abbrev pub scan_start : Scan
scan_start = record { part = no_groups; form = form_start; count = 0 }

-- so many numbers have been read; 206 stands for every number above 205
abbrev pub counted : (count : ℕ) → ℕ
counted count = min (count + 1) 206

-- one more number
unfoldable pub scan_after : Scan → (v : ℕ) → Scan
scan_after s v = record { part = no_groups; form = form_then s.form v; count = counted s.count }

unfoldable pub stored : (count : ℕ) → (numbers : List ℕ) → (v : ℕ) → List ℕ
stored count numbers v = cond (ltb count 205) (set numbers count v) numbers

-- what one more byte made of the part: more of it, a number, or an error
unfoldable pub scan_by : Scan → Option Grown → Scan
scan_by s (Some (Grow.More p)) = record { part = p; form = s.form; count = s.count }
scan_by s (Some (Grow.Whole v)) = scan_after s v
scan_by s None = record { part = no_groups; form = None; count = s.count }

unfoldable pub store_by : (count : ℕ) → (numbers : List ℕ) → Option Grown → List ℕ
store_by count numbers (Some (Grow.More p)) = numbers
store_by count numbers (Some (Grow.Whole v)) = stored count numbers v
store_by count numbers None = numbers

-- the scan and the numbers after some bytes
unfoldable pub fed_scan : Scan → List ℕ → Scan
fed_scan s [] = s
fed_scan s (b ∷ bs) = fed_scan (scan_by s (grown_by s.part b)) bs

unfoldable pub fed_numbers : Scan → (numbers : List ℕ) → List ℕ → List ℕ
fed_numbers s numbers [] = numbers
fed_numbers s numbers (b ∷ bs) = fed_numbers (scan_by s (grown_by s.part b)) (store_by s.count numbers (grown_by s.part b)) bs

-- the input may end here without an error of form
unfoldable pub scan_ends : Scan → Bool
scan_ends s = eqb s.part.groups 0 && form_ends s.form

-- ---- the numbers of the input, once they are known

-- the form after some numbers
unfoldable pub form_after : Option Form → List ℕ → Option Form
form_after f [] = f
form_after f (v ∷ ns) = form_after (form_then f v) ns

-- the count of the numbers after some more
unfoldable pub count_after : (count : ℕ) → List ℕ → ℕ
count_after count [] = count
count_after count (v ∷ ns) = count_after (counted count) ns

-- the numbers kept after some more
unfoldable pub kept_after : (count : ℕ) → (numbers : List ℕ) → List ℕ → List ℕ
kept_after count numbers [] = numbers
kept_after count numbers (v ∷ ns) = kept_after (counted count) (stored count numbers v) ns
