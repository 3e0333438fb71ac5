-- What is accepted, the other direction: a file that is read as a level describes it, and the level can be written and has room. Each step of reading is taken back:
-- what it gave says what was given before it. Assumes nothing.
use Prim.Native.Nat.{ℕ, zero, suc, ◌+◌, ◌-◌, ◌≤◌, ◌<◌}
use native.Mathlib.Omega.{arith}
use mathlib.Core.Path.{◌≡◌, refl, ap, subst}
use mathlib.Core.Bool.{Bool, true, false, not, ◌||◌}
use mathlib.Core.List.{List, [], ◌∷◌, ◌++◌}
use lib.Dec.{T, ltb, leb, eqb}
use lib.ListN.{length}
use borrow.Author.Tests.{ltb-false, leb-false, eqb-true, not-false}
use Rattle.rules.specs.declared.Settings.{Settings}
use Rattle.rules.specs.Numbers.{first_of, lines_to7}
use Rattle.rules.specs.Good.{Good}
use Rattle.rules.proofs.CheckLaws.{passes_7}
use Rattle.rules.proofs.Tests.{is_false, of_false, and_both, not_or_left, not_or_right}
use Rattle.level_file.specs.Format.{Level, level_of, gaps_from, settings_numbers, numbers_of, seed_bad, all_but, seeds_fine, holes_fine, Writable, Decodes, Describes}
use Rattle.level_file.specs.Reading.{Read, then, refused_if, refused_by, gap_bad, number_at, numbers_at, holes_at, settings_at, checked_at, head_at, count_at, hole_part, body_at, read_file}
use Rattle.level_file.specs.Reading.Read.{Got, No}
use Rattle.level_file.proofs.DecodesLaws.{decodes_none, decodes_more, decodes_both, decodes_inside}
use Rattle.level_file.proofs.Accepts.{hole_fine}

-- ---- steps taken back

module _ {A : Type 0} where
  pub never : (n : ℕ) (x : A) (end : ℕ) → ◌≡◌ {A = Read A} (No n) (Got x end) → ⊥
  never n x end e = let z : ◌≡◌ {A = ℕ} 0 1 = cc in omega arith

  pub got_value : (x y : A) (m n : ℕ) → Got x m ≡ Got y n → x ≡ y
  got_value x y m n e = cc

  got_place : (x y : A) (m n : ℕ) → Got x m ≡ Got y n → m ≡ n
  got_place x y m n e = cc

  carry : (P : A → ℕ → Type 0) (x y : A) (m n : ℕ) → Got x m ≡ Got y n → P x m → P y n
  carry P x y m n e p = subst (λ (z : A). P z n) (got_value x y m n e) (subst (λ (k : ℕ). P x k) (got_place x y m n e) p)

  pub if_back : (test : Bool) (n : ℕ) (r : Read A) (x : A) (end : ℕ) → refused_if test n r ≡ Got x end → (test ≡ false) × (r ≡ Got x end)
  unfolding refused_if
  if_back true n r x end e = absurd (never n x end e)
  if_back false n r x end e = (refl, e)

  pub by_back : (n : ℕ) (r : Read A) (x : A) (end : ℕ) → refused_by n r ≡ Got x end → (n ≡ 0) × (r ≡ Got x end)
  unfolding refused_by
  by_back zero r x end e = (refl, e)
  by_back (suc n) r x end e = absurd (never (suc n) x end e)

-- what came before
pub record Came {A B : Type 0} (r : Read A) (f : A → ℕ → Read B) (y : B) (end : ℕ) : Type 0 where
  pub value : A
  pub at : ℕ
  pub got : r ≡ Got value at
  pub rest : f value at ≡ Got y end

pub then_back : {A B : Type 0} (r : Read A) (f : A → ℕ → Read B) (y : B) (end : ℕ) → then r f ≡ Got y end → Came r f y end
unfolding then
then_back (Got x at) f y end e = record { value = x; at = at; got = refl; rest = e }
then_back (No n) f y end e = absurd (never n y end e)

-- ---- part by part

module _ (bytes : List ℕ) where
  -- of numbers that were read: they stand there, are as many as asked, and none is bad
  record Numbers (bad : ℕ → Bool) (count at : ℕ) (vs : List ℕ) (end : ℕ) : Type 0 where
    stand : Decodes bytes vs at end
    many : length vs ≡ count
    fine : T (all_but bad vs)

  numbers_stand : (bad : ℕ → Bool) (count at : ℕ) (vs : List ℕ) (end : ℕ) → numbers_at bytes bad count at ≡ Got vs end → Numbers bad count at vs end
  unfolding numbers_at
  numbers_stand bad zero at vs end e = carry (Numbers bad 0 at) [] vs at end e (record { stand = decodes_none bytes at; many = refl; fine = tt })
  numbers_stand bad (suc n) at vs end e =
      let c = then_back (number_at bytes at) _ vs end e in
      let i = if_back (bad c.value) 24 _ vs end c.rest in
      let d = then_back (numbers_at bytes bad n c.at) _ vs end i.1 in
      let more : Numbers bad n c.at d.value d.at = numbers_stand bad n c.at d.value d.at d.got in
      carry (Numbers bad (suc n) at) (c.value ∷ d.value) vs d.at end d.rest
      (record {
        stand = decodes_more bytes at c.at d.at c.value d.value c.got more.stand;
        many = ap suc more.many;
        fine = and_both (not (bad c.value)) (all_but bad d.value) (of_false i.0) more.fine;
      })

  -- of holes that were read: their differences stand there, and they rise and lie below m
  record Holes (m count before least at : ℕ) (hs : List ℕ) (end : ℕ) : Type 0 where
    stand : Decodes bytes (gaps_from before hs) at end
    many : length hs ≡ count
    fine : T (holes_fine m before least hs)

  none_hole : (m before least at : ℕ) → Holes m 0 before least at [] at
  unfolding gaps_from holes_fine
  none_hole m before least at = record { stand = decodes_none bytes at; many = refl; fine = tt }

  gap_facts : (m before least gap : ℕ) → gap_bad m before least gap ≡ false → (least ≤ gap) × (before + gap < m)
  unfolding gap_bad
  gap_facts m before least gap e =
      let no : T (not (ltb gap least || leb m (before + gap))) = of_false e in
      (ltb-false gap least (is_false (ltb gap least) (not_or_left (ltb gap least) (leb m (before + gap)) no)), leb-false m (before + gap) (is_false (leb m (before + gap)) (not_or_right (ltb gap least) (leb m (before + gap)) no)))

  gaps_cons : (before gap : ℕ) (hs : List ℕ) → gaps_from before ((before + gap) ∷ hs) ≡ gap ∷ gaps_from (before + gap) hs
  unfolding gaps_from
  gaps_cons before gap hs = let e : before + gap - before ≡ gap = omega arith in ap (λ (x : ℕ). x ∷ gaps_from (before + gap) hs) e

  holes_stand : (m count before least at : ℕ) (hs : List ℕ) (end : ℕ) → holes_at bytes m count before least at ≡ Got hs end → Holes m count before least at hs end
  unfolding holes_at
  holes_stand m zero before least at hs end e = carry (Holes m 0 before least at) [] hs at end e (none_hole m before least at)
  holes_stand m (suc n) before least at hs end e =
      let c = then_back (number_at bytes at) _ hs end e in
      let i = if_back (gap_bad m before least c.value) 24 _ hs end c.rest in
      let h : ℕ = before + c.value in
      let d = then_back (holes_at bytes m n h 1 c.at) _ hs end i.1 in
      let more : Holes m n h 1 c.at d.value d.at = holes_stand m n h 1 c.at d.value d.at d.got in
      let f = gap_facts m before least c.value i.0 in
      carry (Holes m (suc n) before least at) (h ∷ d.value) hs d.at end d.rest
      (record {
        stand = rw (gaps_cons before c.value d.value) (decodes_more bytes at c.at d.at c.value (gaps_from h d.value) c.got more.stand);
        many = ap suc more.many;
        fine = hole_fine m before least h d.value (omega (arith, f.0)) f.1 more.fine;
      })

  record Head (s : Settings) (end : ℕ) : Type 0 where
    stand : Decodes bytes (1 ∷ settings_numbers s) 0 end
    good : Good s

  settings_stand : (at : ℕ) (s : Settings) (end : ℕ) → settings_at bytes at ≡ Got s end → Decodes bytes (settings_numbers s) at end
  unfolding settings_at settings_numbers
  settings_stand at s end e =
      let c₁ = then_back (number_at bytes at) _ s end e in
      let c₂ = then_back (number_at bytes c₁.at) _ s end c₁.rest in
      let c₃ = then_back (number_at bytes c₂.at) _ s end c₂.rest in
      let c₄ = then_back (number_at bytes c₃.at) _ s end c₃.rest in
      let c₅ = then_back (number_at bytes c₄.at) _ s end c₄.rest in
      let read : Settings = record { m = c₁.value; log2_slice_len = c₂.value; ll = c₃.value; sb = c₄.value; buckets = c₅.value } in
      carry (λ t k. Decodes bytes (settings_numbers t) at k) read s c₅.at end c₅.rest
      (decodes_more bytes at c₁.at c₅.at c₁.value (c₂.value ∷ c₃.value ∷ c₄.value ∷ c₅.value ∷ []) c₁.got
      (decodes_more bytes c₁.at c₂.at c₅.at c₂.value (c₃.value ∷ c₄.value ∷ c₅.value ∷ []) c₂.got
      (decodes_more bytes c₂.at c₃.at c₅.at c₃.value (c₄.value ∷ c₅.value ∷ []) c₃.got
      (decodes_more bytes c₃.at c₄.at c₅.at c₄.value (c₅.value ∷ []) c₄.got
      (decodes_more bytes c₄.at c₅.at c₅.at c₅.value [] c₅.got (decodes_none bytes c₅.at))))))

  head_stands : (s : Settings) (end : ℕ) → head_at bytes ≡ Got s end → Head s end
  unfolding head_at checked_at
  head_stands s end e =
      let c = then_back (number_at bytes 0) _ s end e in
      let i = if_back (not (eqb c.value 1)) 23 _ s end c.rest in
      let version : c.value ≡ 1 = eqb-true c.value 1 (not-false (eqb c.value 1) i.0) in
      let d = then_back (settings_at bytes c.at) _ s end i.1 in
      let b = by_back (first_of (lines_to7 d.value)) (Got d.value d.at) s end d.rest in
      carry Head d.value s d.at end b.1
      (record {
        stand = decodes_more bytes 0 c.at d.at 1 (settings_numbers d.value) (rw version at c.got) (settings_stand c.at d.value d.at d.got);
        good = passes_7 d.value b.0;
      })

  record Counted (m room count at end : ℕ) : Type 0 where
    stand : Decodes bytes (count ∷ []) at end
    fits : count ≤ room

  count_stands : (m room at count end : ℕ) → count_at bytes m room at ≡ Got count end → Counted m room count at end
  unfolding count_at
  count_stands m room at count end e =
      let c = then_back (number_at bytes at) _ count end e in
      let i = if_back (ltb m c.value) 24 _ count end c.rest in
      let j = if_back (ltb room c.value) 26 _ count end i.1 in
      carry (λ n k. Counted m room n at k) c.value count c.at end j.1
      (record { stand = decodes_more bytes at c.at c.at c.value [] c.got (decodes_none bytes c.at); fits = ltb-false room c.value j.0 })

  -- of a hole part that was read: count and differences stand there to the end of the file, and the holes are fine and have room
  record Part (m room at : ℕ) (hs : List ℕ) (end : ℕ) : Type 0 where
    stand : Decodes bytes (length hs ∷ gaps_from 0 hs) at end
    fine : T (holes_fine m 0 0 hs)
    fits : length hs ≤ room
    over : length bytes ≤ end

  part_stands : (m room at : ℕ) (hs : List ℕ) (end : ℕ) → hole_part bytes m room at ≡ Got hs end → Part m room at hs end
  unfolding hole_part
  part_stands m room at hs end e =
      let c = then_back (count_at bytes m room at) _ hs end e in
      let d = then_back (holes_at bytes m c.value 0 0 c.at) _ hs end c.rest in
      let i = if_back (ltb d.at (length bytes)) 25 _ hs end d.rest in
      let count : Counted m room c.value at c.at = count_stands m room at c.value c.at c.got in
      let holes : Holes m c.value 0 0 c.at d.value d.at = holes_stand m c.value 0 0 c.at d.value d.at d.got in
      let counted : Decodes bytes (length d.value ∷ []) at c.at = rw holes.many count.stand in
      carry (Part m room at) d.value hs d.at end i.1
      (record {
        stand = decodes_both bytes (length d.value ∷ []) (gaps_from 0 d.value) at c.at d.at counted holes.stand;
        fine = holes.fine;
        fits = rw holes.many count.fits;
        over = ltb-false d.at (length bytes) i.0;
      })

  -- of a file that was read: it describes the level, which can be written and has room
  pub record Accepted (seedRoom holeRoom : ℕ) (l : Level) : Type 0 where
    pub described : Describes bytes l
    pub writable : Writable l
    pub seeds_fit : l.settings.buckets ≤ seedRoom
    pub holes_fit : length l.holes ≤ holeRoom

  describes : (s : Settings) (seeds holes : List ℕ) (mid₁ mid₂ end : ℕ) → Decodes bytes (1 ∷ settings_numbers s) 0 mid₁ → Decodes bytes seeds mid₁ mid₂
      → Decodes bytes (length holes ∷ gaps_from 0 holes) mid₂ end → length bytes ≤ end → Describes bytes (level_of s seeds holes)
  unfolding Describes numbers_of
  describes s seeds holes mid₁ mid₂ end h a g over =
      let tail : List ℕ = length holes ∷ gaps_from 0 holes in
      let numbers : List ℕ = (1 ∷ settings_numbers s) ++ (seeds ++ tail) in
      let all : Decodes bytes numbers 0 end = decodes_both bytes (1 ∷ settings_numbers s) (seeds ++ tail) 0 mid₁ end h (decodes_both bytes seeds tail mid₁ mid₂ end a g) in
      let whole : end ≡ length bytes = omega (arith, decodes_inside bytes numbers 0 end (omega arith) all) in
      subst (λ (k : ℕ). Decodes bytes numbers 0 k) whole all

  body_stands : (seedRoom holeRoom : ℕ) (s : Settings) (at : ℕ) → Head s at → (l : Level) (end : ℕ) → body_at bytes seedRoom holeRoom s at ≡ Got l end → Accepted seedRoom holeRoom l
  unfolding body_at seeds_fine
  body_stands seedRoom holeRoom s at head l end e =
      let i = if_back (ltb seedRoom s.buckets) 26 _ l end e in
      let c = then_back (numbers_at bytes (seed_bad s) s.buckets at) _ l end i.1 in
      let d = then_back (hole_part bytes s.m holeRoom c.at) _ l end c.rest in
      let seeds : Numbers (seed_bad s) s.buckets at c.value c.at = numbers_stand (seed_bad s) s.buckets at c.value c.at c.got in
      let part : Part s.m holeRoom c.at d.value d.at = part_stands s.m holeRoom c.at d.value d.at d.got in
      carry (λ x k. Accepted seedRoom holeRoom x) (level_of s c.value d.value) l d.at end d.rest
      (record {
        described = describes s c.value d.value at c.at d.at head.stand seeds.stand part.stand part.over;
        writable = record { good = head.good; many = seeds.many; fine_seeds = seeds.fine; fine_holes = part.fine };
        seeds_fit = ltb-false seedRoom s.buckets i.0;
        holes_fit = part.fits;
      })

  -- The reader accepts no other file.
  pub accepted : (seedRoom holeRoom : ℕ) (l : Level) (end : ℕ) → read_file bytes seedRoom holeRoom ≡ Got l end → Accepted seedRoom holeRoom l
  unfolding read_file
  accepted seedRoom holeRoom l end e =
      let c = then_back (head_at bytes) (body_at bytes seedRoom holeRoom) l end e in
      body_stands seedRoom holeRoom c.value c.at (head_stands c.value c.at c.got) l end c.rest
