-- Feeding bytes, from the start and further on, and what the end of the scan then prints. Assumes nothing.
use Prim.Native.Nat.{ℕ, ◌≤◌, ◌<◌}
use mathlib.Core.Path.{◌≡◌, refl, sym, ap, ◌∙◌, subst}
use mathlib.Core.Bool.{Bool, true, false, cond}
use mathlib.Core.List.{List, [], ◌∷◌, ◌++◌}
use lib.Dec.{ltb}
use lib.ListN.{length, take, set, length-set}
use lib.Seq.{sets}
use Rattle.std.specs.Prelude.{Option, Some, None}
use Rattle.house_numbers.specs.declared.Grown.{Grown}
use Rattle.house_numbers.specs.declared.Grown.TheVariants as Grow
use Rattle.house_numbers.specs.Decode.{grown_by}
use Rattle.list_input.specs.declared.Scan.{Scan}
use Rattle.list_input.specs.Form.{well_formed}
use Rattle.list_input.specs.Scan.{scan_start, scan_by, stored, store_by, fed_scan, fed_numbers, scan_ends}
use Rattle.list_output.specs.Text.{refused_text}
use Rattle.listing.specs.Listing.{asked_text, listing_of}
use Rattle.listing.specs.Ends.{listing_unformed, listing_many, listing_kept, kept_formed}
use Rattle.listing.specs.Fed.{FedBy, Finished}

-- ---- feeding

store_long : (count : ℕ) (ns : List ℕ) (g : Option Grown) → length (store_by count ns g) ≡ length ns
unfolding store_by stored
store_long count ns (Some (Grow.More p)) = refl
store_long count ns (Some (Grow.Whole v)) = go (ltb count 205)
  where
    go : (t : Bool) → length (cond t (set ns count v) ns) ≡ length ns
    go true = length-set ns count v
    go false = refl
store_long count ns None = refl

fed_long : (bytes : List ℕ) (s : Scan) (ns : List ℕ) → length (fed_numbers s ns bytes) ≡ length ns
unfolding fed_numbers
fed_long [] s ns = refl
fed_long (b ∷ bytes) s ns = fed_long bytes (scan_by s (grown_by s.part b)) (store_by s.count ns (grown_by s.part b)) ∙ store_long s.count ns (grown_by s.part b)

scan_append : (a b : List ℕ) (s : Scan) → fed_scan (fed_scan s a) b ≡ fed_scan s (a ++ b)
unfolding fed_scan
scan_append [] b s = refl
scan_append (x ∷ a) b s = scan_append a b (scan_by s (grown_by s.part x))

numbers_append : (a b : List ℕ) (s : Scan) (ns : List ℕ) → fed_numbers (fed_scan s a) (fed_numbers s ns a) b ≡ fed_numbers s ns (a ++ b)
unfolding fed_scan fed_numbers
numbers_append [] b s ns = refl
numbers_append (x ∷ a) b s ns = numbers_append a b (scan_by s (grown_by s.part x)) (store_by s.count ns (grown_by s.part x))

-- the numbers keep their room
pub fed_size : (bytes before numbers : List ℕ) (s : Scan) → length before ≡ 205 → numbers ≡ fed_numbers s before bytes → length numbers ≡ 205
fed_size bytes before numbers s long e = ap length e ∙ fed_long bytes s before ∙ long

-- nothing yet
pub fed_none : (s : Scan) (numbers : List ℕ) → s ≡ scan_start → length numbers ≡ 205 → FedBy [] s numbers
unfolding fed_scan fed_numbers
fed_none s numbers e long = record { size = long; before = numbers; long = long; scanned = e; kept = refl }

-- more bytes
pub fed_more : (bytes chunk : List ℕ) (s t : Scan) (ns after : List ℕ) → FedBy bytes s ns → t ≡ fed_scan s chunk → after ≡ fed_numbers s ns chunk → FedBy (bytes ++ chunk) t after
fed_more bytes chunk s t ns after f e g = record {
  size = fed_size chunk ns after s f.size g;
  before = f.before;
  long = f.long;
  scanned = e ∙ ap (λ (x : Scan). fed_scan x chunk) f.scanned ∙ scan_append bytes chunk scan_start;
  kept = g ∙ ap (λ (x : Scan). fed_numbers x ns chunk) f.scanned ∙ ap (λ (l : List ℕ). fed_numbers (fed_scan scan_start bytes) l chunk) f.kept ∙ numbers_append bytes chunk scan_start f.before;
}

-- ---- the end

module _ (scan : Scan) (numbers : List ℕ) where
  pub finished_by : (before after text : List ℕ) (r : ℕ) → r ≡ length text → after ≡ sets before 0 text → ((bytes : List ℕ) → FedBy bytes scan numbers → listing_of bytes ≡ text)
      → Finished scan numbers before after r
  finished_by before after text r e f t = record {
    count = λ bytes fed. e ∙ ap length (sym (t bytes fed));
    text = λ bytes fed. f ∙ ap (sets before 0) (sym (t bytes fed));
  }

  pub unformed_text : scan_ends scan ≡ false → (bytes : List ℕ) → FedBy bytes scan numbers → listing_of bytes ≡ refused_text 18 []
  unformed_text e bytes f = listing_unformed bytes (ap scan_ends (sym f.scanned) ∙ e)

  module _ (e : scan_ends scan ≡ true) where
    pub many_text : 205 < scan.count → (bytes : List ℕ) → FedBy bytes scan numbers → listing_of bytes ≡ refused_text 19 []
    many_text h bytes f = listing_many bytes f.before f.long (ap scan_ends (sym f.scanned) ∙ e) (subst (λ (s : Scan). 205 < s.count) f.scanned h)

    module _ (h : scan.count ≤ 205) (bytes : List ℕ) (f : FedBy bytes scan numbers) where
      same_kept : take (fed_scan scan_start bytes).count (fed_numbers scan_start f.before bytes) ≡ take scan.count numbers
      same_kept = ap (λ (s : Scan). take s.count (fed_numbers scan_start f.before bytes)) (sym f.scanned) ∙ ap (take scan.count) (sym f.kept)

      pub kept_text : listing_of bytes ≡ asked_text (take scan.count numbers)
      kept_text = listing_kept bytes f.before f.long (ap scan_ends (sym f.scanned) ∙ e) (subst (λ (s : Scan). s.count ≤ 205) f.scanned h) ∙ ap asked_text same_kept

      pub kept_well : well_formed (take scan.count numbers) ≡ true
      kept_well = ap well_formed (sym same_kept) ∙ kept_formed bytes f.before f.long (ap scan_ends (sym f.scanned) ∙ e) (subst (λ (s : Scan). s.count ≤ 205) f.scanned h)
