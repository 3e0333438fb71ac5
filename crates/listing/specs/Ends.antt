-- The listing from the end of a scan: 18 where it does not end well, 19 where there were more numbers than the program keeps, and else
-- the listing of the numbers kept. Assumes nothing.
use Rattle.std.specs.Prelude.{ℕ, ◌≤◌, ◌<◌, ◌≡◌, true, false, List, [], length, take}
use Rattle.std.proofs.Common.{arith, sym, ap, ◌∙◌}
use Rattle.std.proofs.Math.Path.{refl}
use Rattle.list_input.specs.Form.{well_formed}
use Rattle.list_input.specs.Asked.{over_size}
use Rattle.list_input.specs.AskedLaws.{over_many}
use Rattle.list_input.specs.Scan.{scan_start, fed_scan, fed_numbers, scan_ends}
use Rattle.list_input.specs.Heard.{formed, unformed, kept_front}
use Rattle.list_output.specs.Text.{refused_text}
use Rattle.listing.specs.Listing.{asked_text, formed_text, listing_of}

module _ (bytes : List ℕ) where
  pub listing_unformed : scan_ends (fed_scan scan_start bytes) ≡ false → listing_of bytes ≡ refused_text 18 []
  unfolding listing_of formed_text
  listing_unformed e = rw (unformed bytes e) refl

  module _ (numbers : List ℕ) (long : length numbers ≡ 205) (e : scan_ends (fed_scan scan_start bytes) ≡ true) where
    listing_numbers : listing_of bytes ≡ asked_text (formed bytes numbers e).ns
    unfolding listing_of formed_text
    listing_numbers = rw (formed bytes numbers e).are refl

    -- over 205 numbers
    pub listing_many : 205 < (fed_scan scan_start bytes).count → listing_of bytes ≡ refused_text 19 []
    unfolding asked_text
    listing_many h =
        let f = formed bytes numbers e in
        listing_numbers ∙ (rw (over_many f.ns f.well (omega (arith, f.count))) refl)

    -- at most 205: they are the first of those kept
    module _ (few : (fed_scan scan_start bytes).count ≤ 205) where
      kept_are : take (fed_scan scan_start bytes).count (fed_numbers scan_start numbers bytes) ≡ (formed bytes numbers e).ns
      kept_are =
          let f = formed bytes numbers e in
          let all : (fed_scan scan_start bytes).count ≡ length f.ns = omega (arith, f.count) in
          ap (λ (n : ℕ). take n (fed_numbers scan_start numbers bytes)) all
          ∙ ap (take (length f.ns)) f.kept
          ∙ kept_front f.ns numbers (omega arith) long

      pub kept_formed : well_formed (take (fed_scan scan_start bytes).count (fed_numbers scan_start numbers bytes)) ≡ true
      kept_formed = ap well_formed kept_are ∙ (formed bytes numbers e).well

      pub listing_kept : listing_of bytes ≡ asked_text (take (fed_scan scan_start bytes).count (fed_numbers scan_start numbers bytes))
      listing_kept = listing_numbers ∙ ap asked_text (sym kept_are)

-- an input over size is refused by 19
pub asked_over : (ns : List ℕ) → over_size ns ≡ true → asked_text ns ≡ refused_text 19 []
unfolding asked_text
asked_over ns e = rw e refl
