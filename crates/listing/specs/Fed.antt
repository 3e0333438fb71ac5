-- A scan that some bytes were fed to, and what is printed at its end. Assumes nothing.
use Rattle.std.specs.Prelude.{ℕ, ◌≤◌, ◌<◌, ◌≡◌, List, length}
use Rattle.std.proofs.lemmas.List.Edits.{sets}
use Rattle.list_input.specs.declared.Scan.{Scan}
use Rattle.list_input.specs.Scan.{scan_start, fed_scan, fed_numbers}
use Rattle.listing.specs.Listing.{listing_of}

-- these bytes were fed, from the start of the input
pub record FedBy (bytes : List ℕ) (scan : Scan) (numbers : List ℕ) : Type 0 where
  pub size : length numbers ≡ 205
  pub before : List ℕ
  pub long : length before ≡ 205
  pub scanned : scan ≡ fed_scan scan_start bytes
  pub kept : numbers ≡ fed_numbers scan_start before bytes

pub record Fed (scan : Scan) (numbers : List ℕ) : Type 0 where
  pub bytes : List ℕ
  pub by : FedBy bytes scan numbers

-- the first r bytes of the buffer are the listing of whatever bytes were fed, and the rest is kept
pub record Finished (scan : Scan) (numbers before after : List ℕ) (r : ℕ) : Type 0 where
  pub count : (bytes : List ℕ) → FedBy bytes scan numbers → r ≡ length (listing_of bytes)
  pub text : (bytes : List ℕ) → FedBy bytes scan numbers → after ≡ sets before 0 (listing_of bytes)

-- the listing at the front of a buffer with room for every listing, and nothing in a shorter one
pub record Listing (bytes before after : List ℕ) (r : ℕ) : Type 0 where
  pub count : 32768 ≤ length before → r ≡ length (listing_of bytes)
  pub text : 32768 ≤ length before → after ≡ sets before 0 (listing_of bytes)
  pub none : length before < 32768 → r ≡ 0
  pub kept : length before < 32768 → after ≡ before
