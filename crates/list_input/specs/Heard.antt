-- What a scan of a whole input says of it. The bytes are its numbers one after the other: the form, the count and the numbers kept after
-- the bytes are those after the numbers; where the bytes are no numbers, the scan does not end well. Assumes nothing.
use Rattle.std.specs.Prelude.{Option as Maybe, Some, None, ℕ, suc, ◌+◌, ◌≤◌, min, ◌≡◌, refl, Bool, true, false, cond, ◌&&◌, List, [], ◌∷◌, eqb, length, take, drop, set}
use Rattle.std.proofs.Common.{arith, sym, ap, ◌∙◌, take_at, eqb-true, lt-ltb}
use Rattle.std.proofs.Math.Bool.{and-false}
use Rattle.std.proofs.Math.Option.{Option, none, some}
use Rattle.std.proofs.lemmas.List.Edits.{sets, sets-eq}
use Rattle.house_numbers.specs.declared.Grown.{Grown}
use Rattle.house_numbers.specs.declared.Grown.TheVariants as Grow
use Rattle.house_numbers.specs.Decode.{no_groups, grown_by}
use Rattle.list_input.specs.declared.Scan.{Scan}
use Rattle.list_input.specs.Form.{in_front, numbers_by, numbers_from, numbers_of, well_formed, if_formed, form_of}
use Rattle.list_input.specs.Scan.{form_then, form_ends, scan_start, counted, scan_after, stored, scan_by, store_by, fed_scan, fed_numbers, scan_ends, form_after, count_after, kept_after}
use Rattle.list_input.specs.FormLaws.{form_ends_lem}

never : (x : Option (List ℕ)) (ns : List ℕ) → x ≡ none → x ≡ some ns → ⊥
never x ns e f = let z : ◌≡◌ {A = ℕ} 0 1 = cc in omega arith

-- ---- the bytes are numbers

-- a scan and numbers kept that are where some numbers take them
record Heard (s : Scan) (numbers ns : List ℕ) (last : Scan) (stored : List ℕ) : Type 0 where
  whole : last.part.groups ≡ 0
  form : last.form ≡ form_after s.form ns
  count : last.count ≡ count_after s.count ns
  kept : stored ≡ kept_after s.count numbers ns

Hears : List ℕ → Type 0
Hears bytes = (s : Scan) (numbers ns : List ℕ) → numbers_from bytes s.part ≡ some ns → Heard s numbers ns (fed_scan s bytes) (fed_numbers s numbers bytes)

hears_none : Hears []
unfolding Hears numbers_from fed_scan fed_numbers form_after count_after kept_after
hears_none s numbers ns e = go (eqb s.part.groups 0) refl ns e
  where
    go : (t : Bool) → eqb s.part.groups 0 ≡ t → (ns : List ℕ) → cond t (some []) none ≡ some ns → Heard s numbers ns s numbers
    go true k [] e = record { whole = eqb-true s.part.groups 0 k; form = refl; count = refl; kept = refl }
    go true k (v ∷ ns) e = absurd (let z : ◌≡◌ {A = ℕ} 0 1 = cc in omega arith)
    go false k ns e = absurd (never none ns refl e)

hears_more : (b : ℕ) (bytes : List ℕ) → Hears bytes → Hears (b ∷ bytes)
unfolding Hears numbers_from numbers_by fed_scan fed_numbers scan_by scan_after store_by form_after count_after kept_after
hears_more b bytes hears s numbers ns e = go (grown_by s.part b) ns e
  where
    whole : (v : ℕ) (x : Option (List ℕ)) → numbers_from bytes no_groups ≡ x → (ns : List ℕ) → in_front v x ≡ some ns
        → Heard s numbers ns (fed_scan (scan_after s v) bytes) (fed_numbers (scan_after s v) (stored s.count numbers v) bytes)
    whole v none k ns e = absurd (never none ns refl e)
    whole v (some rest) k ns e =
        let same : ns ≡ v ∷ rest = cc in
        let h = hears (scan_after s v) (stored s.count numbers v) rest k in
        rw same (record { whole = h.whole; form = h.form; count = h.count; kept = h.kept })

    go : (g : Maybe Grown) (ns : List ℕ) → numbers_by g (numbers_from bytes) ≡ some ns
        → Heard s numbers ns (fed_scan (scan_by s g) bytes) (fed_numbers (scan_by s g) (store_by s.count numbers g) bytes)
    go (Some (Grow.More p)) ns e =
        let h = hears (scan_by s (Some (Grow.More p))) numbers ns e in
        record { whole = h.whole; form = h.form; count = h.count; kept = h.kept }
    go (Some (Grow.Whole v)) ns e = whole v (numbers_from bytes no_groups) refl ns e
    go None ns e = absurd (never none ns refl e)

hears_all : (bytes : List ℕ) → Hears bytes
hears_all [] = hears_none
hears_all (b ∷ bytes) = hears_more b bytes (hears_all bytes)

-- ---- the bytes are no numbers

-- an error stays
fed_broken : (bytes : List ℕ) (s : Scan) → s.form ≡ None → (fed_scan s bytes).form ≡ None
unfolding fed_scan scan_by scan_after form_then
fed_broken [] s e = e
fed_broken (b ∷ bytes) s e = fed_broken bytes (scan_by s (grown_by s.part b)) (go (grown_by s.part b))
  where
    go : (g : Maybe Grown) → (scan_by s g).form ≡ None
    go (Some (Grow.More p)) = e
    go (Some (Grow.Whole v)) = rw e refl
    go None = refl

scan_broken : (s : Scan) → s.form ≡ None → scan_ends s ≡ false
unfolding scan_ends form_ends
scan_broken s e = rw e (and-false (eqb s.part.groups 0))

Deaf : List ℕ → Type 0
Deaf bytes = (s : Scan) → numbers_from bytes s.part ≡ none → scan_ends (fed_scan s bytes) ≡ false

deaf_none : Deaf []
unfolding Deaf numbers_from fed_scan scan_ends
deaf_none s e = go (eqb s.part.groups 0) e
  where
    go : (t : Bool) → cond {A = Option (List ℕ)} t (some []) none ≡ none → (t && form_ends s.form) ≡ false
    go true e = absurd (never none [] refl (sym e))
    go false e = refl

deaf_more : (b : ℕ) (bytes : List ℕ) → Deaf bytes → Deaf (b ∷ bytes)
unfolding Deaf numbers_from numbers_by fed_scan scan_by scan_after
deaf_more b bytes deaf s e = go (grown_by s.part b) e
  where
    whole : (x : Option (List ℕ)) (v : ℕ) → numbers_from bytes no_groups ≡ x → in_front v x ≡ none → scan_ends (fed_scan (scan_after s v) bytes) ≡ false
    whole none v k e = deaf (scan_after s v) k
    whole (some rest) v k e = absurd (never none (v ∷ rest) refl (sym e))

    go : (g : Maybe Grown) → numbers_by g (numbers_from bytes) ≡ none → scan_ends (fed_scan (scan_by s g) bytes) ≡ false
    go (Some (Grow.More p)) e = deaf (scan_by s (Some (Grow.More p))) e
    go (Some (Grow.Whole v)) e = whole (numbers_from bytes no_groups) v refl e
    go None e = scan_broken _ (fed_broken bytes (scan_by s None) refl)

deaf_all : (bytes : List ℕ) → Deaf bytes
deaf_all [] = deaf_none
deaf_all (b ∷ bytes) = deaf_more b bytes (deaf_all bytes)

-- ---- how many numbers there were, and which were kept

count_is : (ns : List ℕ) (c : ℕ) → c ≤ 206 → count_after c ns ≡ min (c + length ns) 206
unfolding count_after
count_is [] c h = omega arith
count_is (v ∷ ns) c h = count_is ns (counted c) (omega arith) ∙ (omega arith)

kept_sets : (ns : List ℕ) (c : ℕ) (numbers : List ℕ) → c + length ns ≤ 205 → kept_after c numbers ns ≡ sets numbers c ns
unfolding kept_after stored
kept_sets [] c numbers h = refl
kept_sets (v ∷ ns) c numbers h =
    let next : counted c ≡ suc c = omega arith in
    rw (lt-ltb c 205 (omega arith), next) (kept_sets ns (suc c) (set numbers c v) (omega arith))

pub kept_front : (ns numbers : List ℕ) → length ns ≤ 205 → length numbers ≡ 205 → take (length ns) (kept_after 0 numbers ns) ≡ ns
kept_front ns numbers few long =
    ap (take (length ns)) (kept_sets ns 0 numbers (omega arith) ∙ sets-eq ns numbers 0 (omega arith))
    ∙ take_at ns (drop (0 + length ns) numbers) (length ns) refl

-- ---- what the end of a scan says

-- an input without an error of form: its numbers, how many, and those kept
pub record Formed (bytes numbers : List ℕ) : Type 0 where
  pub ns : List ℕ
  pub are : form_of bytes ≡ some ns
  pub well : well_formed ns ≡ true
  pub count : (fed_scan scan_start bytes).count ≡ min (length ns) 206
  pub kept : fed_numbers scan_start numbers bytes ≡ kept_after 0 numbers ns

ends_is : (bytes numbers ns : List ℕ) → numbers_of bytes ≡ some ns → scan_ends (fed_scan scan_start bytes) ≡ well_formed ns
unfolding numbers_of scan_ends Hears
ends_is bytes numbers ns e =
    let h = hears_all bytes scan_start numbers ns e in
    rw (h.whole, h.form) (form_ends_lem ns)

pub formed : (bytes numbers : List ℕ) → scan_ends (fed_scan scan_start bytes) ≡ true → Formed bytes numbers
unfolding numbers_of form_of if_formed Hears Deaf
formed bytes numbers e = go (numbers_of bytes) refl
  where
    go : (x : Option (List ℕ)) → numbers_of bytes ≡ x → Formed bytes numbers
    go none k = absurd (let z : ◌≡◌ {A = Bool} true false = sym e ∙ deaf_all bytes scan_start k in let y : ◌≡◌ {A = ℕ} 0 1 = cc in omega arith)
    go (some ns) k =
        let h = hears_all bytes scan_start numbers ns k in
        let good : well_formed ns ≡ true = sym (ends_is bytes numbers ns k) ∙ e in
        record { ns = ns; are = rw (k, good) refl; well = good; count = h.count ∙ count_is ns 0 (omega arith) ∙ (omega arith); kept = h.kept }

pub unformed : (bytes : List ℕ) → scan_ends (fed_scan scan_start bytes) ≡ false → form_of bytes ≡ none
unfolding form_of if_formed
unformed bytes e = go (numbers_of bytes) refl
  where
    go : (x : Option (List ℕ)) → numbers_of bytes ≡ x → if_formed (numbers_of bytes) ≡ none
    go none k = rw k refl
    go (some ns) k = rw (k, sym (ends_is bytes [] ns k) ∙ e) refl
