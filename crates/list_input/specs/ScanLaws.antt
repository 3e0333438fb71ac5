-- Feeding bytes one after the other, and part after part. Assumes nothing.
use Rattle.std.specs.Prelude.{Option, ℕ, ◌+◌, ◌≤◌, ◌<◌, ◌≡◌, List, [], ◌∷◌, ◌++◌, length, get_or, drop}
use Rattle.std.proofs.Math.Numerals.{add-one}
use Rattle.std.proofs.Math.Path.{refl}
use Rattle.std.proofs.Common.{sym, drop_of_length-le, drop-cons}
use Rattle.house_numbers.specs.declared.Grown.{Grown}
use Rattle.house_numbers.specs.Decode.{grown_by}
use Rattle.list_input.specs.declared.Scan.{Scan}
use Rattle.list_input.specs.Scan.{scan_by, store_by, fed_scan, fed_numbers}

module _ (s : Scan) (bytes : List ℕ) (i : ℕ) where
  pub fed_end : length bytes ≤ i → fed_scan s (drop i bytes) ≡ s
  unfolding fed_scan
  fed_end h = rw (drop_of_length-le bytes h) refl

  pub fed_byte : i < length bytes → fed_scan s (drop i bytes) ≡ fed_scan (scan_by s (grown_by s.part (get_or bytes i 0))) (drop (i + 1) bytes)
  unfolding fed_scan
  fed_byte h = rw (drop-cons bytes i 0 h) (rw add-one refl)

  module _ (numbers : List ℕ) where
    pub numbers_end : length bytes ≤ i → fed_numbers s numbers (drop i bytes) ≡ numbers
    unfolding fed_numbers
    numbers_end h = rw (drop_of_length-le bytes h) refl

    pub numbers_byte : i < length bytes
        → fed_numbers s numbers (drop i bytes)
        ≡ fed_numbers (scan_by s (grown_by s.part (get_or bytes i 0))) (store_by s.count numbers (grown_by s.part (get_or bytes i 0))) (drop (i + 1) bytes)
    unfolding fed_numbers
    numbers_byte h = rw (drop-cons bytes i 0 h) (rw add-one refl)

-- one more byte, as the code takes it
module _ (s : Scan) (bytes : List ℕ) (i : ℕ) (h : i < length bytes) (g : Option Grown) (e : g ≡ grown_by s.part (get_or bytes i 0)) (next : Scan) (f : next ≡ scan_by s g) where
  pub fed_step : fed_scan next (drop (i + 1) bytes) ≡ fed_scan s (drop i bytes)
  fed_step = rw (f, e) (sym (fed_byte s bytes i h))

  pub numbers_step : (numbers stored : List ℕ) → stored ≡ store_by s.count numbers g
      → fed_numbers next stored (drop (i + 1) bytes) ≡ fed_numbers s numbers (drop i bytes)
  numbers_step numbers stored k = rw (f, k, e) (sym (numbers_byte s bytes i numbers h))

-- part after part is the whole
pub fed_append : (s : Scan) (xs ys : List ℕ) → fed_scan s (xs ++ ys) ≡ fed_scan (fed_scan s xs) ys
unfolding fed_scan
fed_append s [] ys = refl
fed_append s (b ∷ xs) ys = fed_append (scan_by s (grown_by s.part b)) xs ys

pub numbers_append : (s : Scan) (numbers xs ys : List ℕ) → fed_numbers s numbers (xs ++ ys) ≡ fed_numbers (fed_scan s xs) (fed_numbers s numbers xs) ys
unfolding fed_scan fed_numbers
numbers_append s numbers [] ys = refl
numbers_append s numbers (b ∷ xs) ys = numbers_append (scan_by s (grown_by s.part b)) (store_by s.count numbers (grown_by s.part b)) xs ys
