-- What is accepted, one direction: a file that describes a level that can be written is read as that level, where the lent seeds and holes have room. So reading what
-- was written gives it back. Number by number: what is read there is the next of the level's numbers, and no refusal applies to it. Assumes nothing.
use Prim.Native.Nat.{ℕ, ◌+◌, ◌-◌, ◌^◌, ◌≤◌, ◌<◌}
use native.Mathlib.Omega.{arith}
use mathlib.Core.Path.{◌≡◌, refl, sym, ap, subst, ◌∙◌}
use mathlib.Core.Bool.{Bool, false, not, ◌&&◌}
use mathlib.Core.List.{List, [], ◌∷◌, ◌++◌, append-nil}
use lib.Dec.{T, ltb, leb, eqb}
use lib.ListN.{length}
use lib.Pow.{pow_mono}
use borrow.Author.Tests.{lt-ltb, le-ltb, le-leb, lt-leb, ltb-true, leb-true, leb-false}
use Rattle.rules.specs.declared.Settings.{Settings}
use Rattle.rules.specs.Numbers.{first_of, lines_to7}
use Rattle.rules.specs.Good.{Good}
use Rattle.rules.proofs.CheckLaws.{good_7}
use Rattle.rules.proofs.Tests.{is_true, is_false, of_true, of_false, and_left, and_right, and_both}
use Rattle.level_file.specs.Format.{Level, gaps_from, settings_numbers, numbers_of, bytes_of, file_of, not_below, seed_bad, all_but, seeds_fine, holes_fine, Writable, Front, Decodes, Describes}
use Rattle.level_file.specs.Reading.{Read, then, refused_if, refused_by, gap_bad, number_at, numbers_at, holes_at, settings_at, checked_at, head_at, count_at, hole_part, body_at, read_file}
use Rattle.level_file.specs.Reading.Read.{Got}
use Rattle.level_file.proofs.DecodesLaws.{decoded_read, decodes_first, decodes_end, decodes_part, Small, bytes_decode}

-- ---- steps of reading

module _ {A B : Type 0} where
  then_got : (r : Read A) (f : A → ℕ → Read B) (x : A) (end : ℕ) → r ≡ Got x end → then r f ≡ f x end
  unfolding then
  then_got r f x end e = rw e refl

module _ {A : Type 0} where
  if_not : (test : Bool) (n : ℕ) (r : Read A) → test ≡ false → refused_if test n r ≡ r
  unfolding refused_if
  if_not test n r e = rw e refl

  by_zero : (n : ℕ) (r : Read A) → n ≡ 0 → refused_by n r ≡ r
  unfolding refused_by
  by_zero n r e = rw e refl

-- the number in front is read
first_read : (bytes : List ℕ) (at v : ℕ) (Rest : ℕ → Type 0) (f : Front bytes at v Rest) → number_at bytes at ≡ Got v f.next
first_read bytes at v Rest f = decoded_read bytes at v f.next f.number

-- ---- a hole in front

module _ (m before least h : ℕ) (hs : List ℕ) where
  pub hole_facts : T (holes_fine m before least (h ∷ hs)) → (before + least ≤ h) × (h < m) × T (holes_fine m h 1 hs)
  unfolding holes_fine
  hole_facts fine =
      let a : Bool = leb (before + least) h in
      let b : Bool = ltb h m in
      let c : Bool = holes_fine m h 1 hs in
      (leb-true (before + least) h (is_true a (and_left a b (and_left (a && b) c fine))), ltb-true h m (is_true b (and_right a b (and_left (a && b) c fine))), and_right (a && b) c fine)

  pub hole_fine : before + least ≤ h → h < m → T (holes_fine m h 1 hs) → T (holes_fine m before least (h ∷ hs))
  unfolding holes_fine
  hole_fine r b f = and_both (leb (before + least) h && ltb h m) (holes_fine m h 1 hs) (and_both (leb (before + least) h) (ltb h m) (of_true (le-leb (before + least) h r)) (of_true (lt-ltb h m b))) f

-- rising holes below m are few
pub holes_few : (m before least : ℕ) (hs : List ℕ) → T (holes_fine m before least hs) → length hs ≤ m - (before + least)
holes_few m before least [] fine = omega arith
holes_few m before least (h ∷ hs) fine = let f = hole_facts m before least h hs fine in omega (arith, f.0, f.1, holes_few m h 1 hs f.2)

gap_fine : (m before least gap : ℕ) → least ≤ gap → before + gap < m → gap_bad m before least gap ≡ false
unfolding gap_bad
gap_fine m before least gap l b = rw (le-ltb gap least l, lt-leb m (before + gap) b) refl

same_end : {A : Type 0} (x : A) (at end : ℕ) → at ≡ end → Got x at ≡ Got x end
same_end x at end e = ap (λ (k : ℕ). Got x k) e

-- ---- part by part

module _ (bytes : List ℕ) where
  numbers_read : (bad : ℕ → Bool) (vs : List ℕ) (at end : ℕ) → T (all_but bad vs) → Decodes bytes vs at end → numbers_at bytes bad (length vs) at ≡ Got vs end
  unfolding numbers_at
  numbers_read bad [] at end fine d = same_end [] at end (decodes_end bytes at end d)
  numbers_read bad (v ∷ vs) at end fine d =
      let f = decodes_first bytes v vs at end d in
      let ok : bad v ≡ false = is_false (bad v) (and_left (not (bad v)) (all_but bad vs) fine) in
      then_got (number_at bytes at) _ v f.next (first_read bytes at v _ f)
      ∙ if_not (bad v) 24 _ ok
      ∙ then_got (numbers_at bytes bad (length vs) f.next) _ vs end (numbers_read bad vs f.next end (and_right (not (bad v)) (all_but bad vs) fine) f.rest)

  holes_read : (m : ℕ) (hs : List ℕ) (before least at end : ℕ) → T (holes_fine m before least hs) → Decodes bytes (gaps_from before hs) at end
      → holes_at bytes m (length hs) before least at ≡ Got hs end
  unfolding holes_at gaps_from
  holes_read m [] before least at end fine d = same_end [] at end (decodes_end bytes at end d)
  holes_read m (h ∷ hs) before least at end fine d =
      let a = hole_facts m before least h hs fine in
      let gap : ℕ = h - before in
      let hole : before + gap ≡ h = omega (arith, a.0) in
      let f = decodes_first bytes gap (gaps_from h hs) at end d in
      let more : holes_at bytes m (length hs) (before + gap) 1 f.next ≡ Got hs end =
      ap (λ (x : ℕ). holes_at bytes m (length hs) x 1 f.next) hole ∙ holes_read m hs h 1 f.next end a.2 f.rest in
      then_got (number_at bytes at) _ gap f.next (first_read bytes at gap _ f)
      ∙ if_not (gap_bad m before least gap) 24 _ (gap_fine m before least gap (omega (arith, a.0)) (omega (arith, a.1, hole)))
      ∙ then_got (holes_at bytes m (length hs) (before + gap) 1 f.next) _ hs end more
      ∙ ap (λ (x : ℕ). Got (x ∷ hs) end) hole

  settings_read : (s : Settings) (at end : ℕ) → Decodes bytes (settings_numbers s) at end → settings_at bytes at ≡ Got s end
  unfolding settings_at settings_numbers
  settings_read s at end d =
      let f₁ = decodes_first bytes s.m (s.log2_slice_len ∷ s.ll ∷ s.sb ∷ s.buckets ∷ []) at end d in
      let f₂ = decodes_first bytes s.log2_slice_len (s.ll ∷ s.sb ∷ s.buckets ∷ []) f₁.next end f₁.rest in
      let f₃ = decodes_first bytes s.ll (s.sb ∷ s.buckets ∷ []) f₂.next end f₂.rest in
      let f₄ = decodes_first bytes s.sb (s.buckets ∷ []) f₃.next end f₃.rest in
      let f₅ = decodes_first bytes s.buckets [] f₄.next end f₄.rest in
      then_got (number_at bytes at) _ s.m f₁.next (first_read bytes at s.m _ f₁)
      ∙ then_got (number_at bytes f₁.next) _ s.log2_slice_len f₂.next (first_read bytes f₁.next s.log2_slice_len _ f₂)
      ∙ then_got (number_at bytes f₂.next) _ s.ll f₃.next (first_read bytes f₂.next s.ll _ f₃)
      ∙ then_got (number_at bytes f₃.next) _ s.sb f₄.next (first_read bytes f₃.next s.sb _ f₄)
      ∙ then_got (number_at bytes f₄.next) _ s.buckets f₅.next (first_read bytes f₄.next s.buckets _ f₅)
      ∙ same_end s f₅.next end (decodes_end bytes f₅.next end f₅.rest)

  head_read : (s : Settings) → Good s → (end : ℕ) → Decodes bytes (1 ∷ settings_numbers s) 0 end → head_at bytes ≡ Got s end
  unfolding head_at checked_at
  head_read s g end d =
      let f = decodes_first bytes 1 (settings_numbers s) 0 end d in
      then_got (number_at bytes 0) _ 1 f.next (first_read bytes 0 1 _ f)
      ∙ if_not (not (eqb 1 1)) 23 _ refl
      ∙ then_got (settings_at bytes f.next) _ s end (settings_read s f.next end f.rest)
      ∙ by_zero (first_of (lines_to7 s)) (Got s end) (good_7 s g)

  part_read : (m room : ℕ) (hs : List ℕ) (at : ℕ) → T (holes_fine m 0 0 hs) → length hs ≤ room → Decodes bytes (length hs ∷ gaps_from 0 hs) at (length bytes)
      → hole_part bytes m room at ≡ Got hs (length bytes)
  unfolding hole_part count_at
  part_read m room hs at fine fit d =
      let f = decodes_first bytes (length hs) (gaps_from 0 hs) at (length bytes) d in
      let few : length hs ≤ m = omega (arith, holes_few m 0 0 hs fine) in
      let count : count_at bytes m room at ≡ Got (length hs) f.next =
      then_got (number_at bytes at) _ (length hs) f.next (first_read bytes at (length hs) _ f)
      ∙ if_not (ltb m (length hs)) 24 _ (le-ltb m (length hs) few)
      ∙ if_not (ltb room (length hs)) 26 _ (le-ltb room (length hs) fit) in
      then_got (count_at bytes m room at) _ (length hs) f.next count
      ∙ then_got (holes_at bytes m (length hs) 0 0 f.next) _ hs (length bytes) (holes_read m hs 0 0 f.next (length bytes) fine f.rest)
      ∙ if_not (ltb (length bytes) (length bytes)) 25 (Got hs (length bytes)) (le-ltb (length bytes) (length bytes) (omega arith))

  -- The reader accepts each file that describes a level that can be written, and gives that level.
  pub accepts : (l : Level) → Writable l → Describes bytes l → (seedRoom holeRoom : ℕ) → l.settings.buckets ≤ seedRoom → length l.holes ≤ holeRoom
      → read_file bytes seedRoom holeRoom ≡ Got l (length bytes)
  unfolding read_file body_at numbers_of seeds_fine Describes
  accepts l w d seedRoom holeRoom seedsFit holesFit =
      let s : Settings = l.settings in
      let tail : List ℕ = length l.holes ∷ gaps_from 0 l.holes in
      let p = decodes_part bytes (1 ∷ settings_numbers s) (l.seeds ++ tail) 0 (length bytes) d in
      let q = decodes_part bytes l.seeds tail p.mid (length bytes) p.back in
      let seeds : numbers_at bytes (seed_bad s) (length l.seeds) p.mid ≡ Got l.seeds q.mid =
      numbers_read (seed_bad s) l.seeds p.mid q.mid w.fine_seeds q.front in
      then_got (head_at bytes) _ s p.mid (head_read s w.good p.mid p.front)
      ∙ if_not (ltb seedRoom s.buckets) 26 _ (le-ltb seedRoom s.buckets seedsFit)
      ∙ then_got (numbers_at bytes (seed_bad s) s.buckets p.mid) _ l.seeds q.mid (ap (λ (n : ℕ). numbers_at bytes (seed_bad s) n p.mid) (sym w.many) ∙ seeds)
      ∙ then_got (hole_part bytes s.m holeRoom q.mid) _ l.holes (length bytes) (part_read s.m holeRoom l.holes q.mid w.fine_holes holesFit q.back)

-- ---- what is written

small_cons : (v : ℕ) (vs : List ℕ) → v < 2 ^ 64 → Small vs → Small (v ∷ vs)
unfolding not_below Small
small_cons v vs h s = and_both (not (not_below (2 ^ 64) v)) (all_but (not_below (2 ^ 64)) vs) (of_false (lt-leb (2 ^ 64) v h)) s

seeds_small : (s : Settings) → Good s → (seeds rest : List ℕ) → T (seeds_fine s seeds) → Small rest → Small (seeds ++ rest)
unfolding seeds_fine not_below
seeds_small s g [] rest fine r = r
seeds_small s g (v ∷ vs) rest fine r =
    let below : v < 2 ^ s.sb = leb-false (2 ^ s.sb) v (is_false (seed_bad s v) (and_left (not (seed_bad s v)) (all_but (seed_bad s) vs) fine)) in
    let most : 2 ^ s.sb ≤ 2 ^ 16 = pow_mono g.sb_high in
    small_cons v (vs ++ rest) (omega arith) (seeds_small s g vs rest (and_right (not (seed_bad s v)) (all_but (seed_bad s) vs) fine) r)

gaps_small : (m : ℕ) → m < 2 ^ 64 → (before least : ℕ) (hs : List ℕ) → T (holes_fine m before least hs) → Small (gaps_from before hs)
unfolding gaps_from Small
gaps_small m small before least [] fine = tt
gaps_small m small before least (h ∷ hs) fine =
    let a = hole_facts m before least h hs fine in
    small_cons (h - before) (gaps_from h hs) (omega (arith, a.1)) (gaps_small m small h 1 hs a.2)

pub numbers_small : (l : Level) → Writable l → Small (numbers_of l)
unfolding numbers_of settings_numbers
numbers_small l w =
    let s : Settings = l.settings in
    let g : Good s = w.good in
    let m : s.m < 2 ^ 64 = omega (arith, g.m_high) in
    let few : length l.holes < 2 ^ 64 = omega (arith, holes_few s.m 0 0 l.holes w.fine_holes) in
    small_cons 1 _ (omega arith)
    (small_cons s.m _ m
    (small_cons s.log2_slice_len _ (omega (arith, g.slice_high))
    (small_cons s.ll _ (omega (arith, g.ll_high))
    (small_cons s.sb _ (omega (arith, g.sb_high))
    (small_cons s.buckets _ (omega (arith, g.buckets_high))
    (seeds_small s g l.seeds _ w.fine_seeds
    (small_cons (length l.holes) _ few (gaps_small s.m m 0 0 l.holes w.fine_holes))))))))

-- The file of a level that can be written describes it.
pub file_describes : (l : Level) → Writable l → Describes (file_of l) l
unfolding Describes file_of
file_describes l w =
    let file : List ℕ = bytes_of (numbers_of l) in
    let end : 0 + length file ≡ length file = omega arith in
    subst (λ (k : ℕ). Decodes file (numbers_of l) 0 k) end
    (subst (λ (xs : List ℕ). Decodes xs (numbers_of l) 0 (0 + length file)) (append-nil file) (bytes_decode (numbers_of l) (numbers_small l w) [] []))

-- Reading what was written gives back the settings, seeds and holes.
pub read_written : (l : Level) → Writable l → (seedRoom holeRoom : ℕ) → l.settings.buckets ≤ seedRoom → length l.holes ≤ holeRoom
    → read_file (file_of l) seedRoom holeRoom ≡ Got l (length (file_of l))
read_written l w = accepts (file_of l) l w (file_describes l w)
