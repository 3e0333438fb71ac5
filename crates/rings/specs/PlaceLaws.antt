-- Marks and marks taken back, the loops of `mark_keys`, `unmark_keys` and `mark_bitmap`, and what the marks mean.
-- Why: marks that found their slots free are taken back from the last to the first, each to the list that it was made in. Within one length of the ring
-- every key finds its slot free exactly if the slots were free and no two are one.
-- Assumes nothing.
use Rattle.std.specs.Prelude.{◌≡◌, refl, ◌≢◌, Bool, true, false, List, ℕ, zero, suc, ◌+◌, ◌-◌, ◌≤◌, ◌<◌, length, get_or, drop}
use Rattle.std.proofs.Common.{sym, ap, ◌∙◌, ⊎_elim, arith, add-one, get_or-drop}
use Rattle.words.specs.Cases.{lt_or_ge, same_or_not}
use Rattle.words.specs.Map.{Words, marked}
use Rattle.words.specs.MapLaws.{length_marked}
use Rattle.rings.specs.declared.Ring.{Ring}
use Rattle.rings.specs.Ring.{Shape, ring_bit}
use Rattle.rings.specs.Keys.{slot_at, Key, Keys}
use Rattle.rings.specs.Parts.{part, part_at, length_part}
use Rattle.rings.specs.Marks.{ring_marked, ring_unmarked, Took}
use Rattle.rings.specs.Place.{key_slot, marked_to, unmarked_to, Fresh, MarkedUpTo, Met, Placed, Fitted, Within, map_to}
use Rattle.rings.specs.RingLaws.{ring_bit_lt}
use Rattle.rings.specs.MarkLaws.{length_mark, length_unmark, drop_mark, drop_unmark, mark_words, mark_same, mark_other, unmark_mark}

-- what stands above the ring, read by element
above_same : (words : ℕ) (l l' : List ℕ) → drop words l' ≡ drop words l → (k : ℕ) → words ≤ k → get_or l' k 0 ≡ get_or l k 0
above_same words l l' e k h =
    let x : words + (k - words) ≡ k = omega arith in
    ap (λ (y : ℕ). get_or l' y 0) (sym x) ∙ sym (get_or-drop words l' (k - words) 0) ∙ ap (λ (y : List ℕ). get_or y (k - words) 0) e ∙ get_or-drop words l (k - words) 0 ∙ ap (λ (y : ℕ). get_or l y 0) x

pub marked_to_zero : (g : Ring) (l keys : List ℕ) (start j : ℕ) → marked_to g l keys start j 0 ≡ l
unfolding marked_to
marked_to_zero g l keys start j = refl

pub marked_to_more : (g : Ring) (l keys : List ℕ) (start j i : ℕ) → marked_to g l keys start j (i + 1) ≡ ring_marked g.t g.words (marked_to g l keys start j i) (key_slot g keys start j i)
unfolding marked_to
marked_to_more g l keys start j i = rw add-one refl

pub unmarked_to_zero : (g : Ring) (l keys : List ℕ) (start j : ℕ) → unmarked_to g l keys start j 0 ≡ l
unfolding unmarked_to
unmarked_to_zero g l keys start j = refl

pub unmarked_to_more : (g : Ring) (l keys : List ℕ) (start j i : ℕ) → 0 < i
    → unmarked_to g l keys start j i ≡ unmarked_to g (ring_unmarked g.t g.words l (key_slot g keys start j (i - 1))) keys start j (i - 1)
unfolding unmarked_to
unmarked_to_more g l keys start j zero h = absurd (omega arith)
unmarked_to_more g l keys start j (suc i) h = let e : suc i - 1 ≡ i = omega arith in rw e refl

pub length_marked_to : (g : Ring) (l keys : List ℕ) (start j i : ℕ) → length (marked_to g l keys start j i) ≡ length l
unfolding marked_to
length_marked_to g l keys start j zero = refl
length_marked_to g l keys start j (suc i) = length_mark g.t g.words (marked_to g l keys start j i) (key_slot g keys start j i) ∙ length_marked_to g l keys start j i

-- what stands above the ring stays
pub drop_marked_to : (g : Ring) → Shape g → (l keys : List ℕ) (start j i n : ℕ) → g.words ≤ n → drop n (marked_to g l keys start j i) ≡ drop n l
unfolding marked_to
drop_marked_to g s l keys start j zero n h = refl
drop_marked_to g s l keys start j (suc i) n h = drop_mark g s (marked_to g l keys start j i) (key_slot g keys start j i) n h ∙ drop_marked_to g s l keys start j i n h

pub marked_to_above : (g : Ring) → Shape g → (l keys : List ℕ) (start j i k : ℕ) → g.words ≤ k → get_or (marked_to g l keys start j i) k 0 ≡ get_or l k 0
marked_to_above g s l keys start j i k h = above_same g.words l (marked_to g l keys start j i) (drop_marked_to g s l keys start j i g.words (omega arith)) k h

pub part_marked_to : (g : Ring) → Shape g → (l keys : List ℕ) (start j i at size : ℕ) {l' : List ℕ} → g.words ≤ at → l' ≡ marked_to g l keys start j i → part l' at size ≡ part l at size
part_marked_to g s l keys start j i at size h e = rw (e, drop_marked_to g s l keys start j i at h) refl

-- the words stay words
pub marked_to_words : (g : Ring) → Shape g → (l keys : List ℕ) (start j i : ℕ) → Words l → Words (marked_to g l keys start j i)
unfolding marked_to
marked_to_words g s l keys start j zero h = h
marked_to_words g s l keys start j (suc i) h = mark_words g s (marked_to g l keys start j i) (key_slot g keys start j i) (marked_to_words g s l keys start j i h)

-- marks that found their slots free, taken back
pub taken_back : (g : Ring) → Shape g → (l keys : List ℕ) (start j i : ℕ) → g.words ≤ length l → Words l → Fresh g l keys start j i
    → unmarked_to g (marked_to g l keys start j i) keys start j i ≡ l
unfolding marked_to unmarked_to
taken_back g s l keys start j zero fits h f = refl
taken_back g s l keys start j (suc i) fits h f =
    rw (unmark_mark g s (marked_to g l keys start j i) (key_slot g keys start j i) (omega (arith, length_marked_to g l keys start j i)) (marked_to_words g s l keys start j i h) (f i (omega arith)))
    (taken_back g s l keys start j i fits h (λ m hm. f m (omega arith)))

-- a key that is read beside a ring that is being ring_marked
pub key_here : (g : Ring) → Shape g → (l : List ℕ) (at size start j i : ℕ) {l' : List ℕ} → g.words ≤ at → i < size → l' ≡ marked_to g l (part l at size) start j i
    → get_or l' (at + i) 0 ≡ get_or (part l at size) i 0
key_here g s l at size start j i h lt e =
    rw (e, marked_to_above g s l (part l at size) start j i (at + i) (omega arith)) (sym (part_at l at size i lt))

pub fresh_more : (g : Ring) (l keys : List ℕ) (start j i : ℕ) → Fresh g l keys start j i → ring_bit g.t g.words (marked_to g l keys start j i) (key_slot g keys start j i) ≡ 0
    → Fresh g l keys start j (i + 1)
fresh_more g l keys start j i f e m h =
    ⊎_elim
    (λ (a : m < i). f m a)
    (λ (a : i ≤ m). let x : m ≡ i = omega arith in rw x e)
    (lt_or_ge m i)

-- ---- the loop of `mark_keys`, over keys that lie in the marked list itself, above the ring

pub record Marking (g : Ring) (l : List ℕ) (at size start j i : ℕ) (now : List ℕ) : Type 0 where
  pub is : now ≡ marked_to g l (part l at size) start j i
  pub le : i ≤ size
  pub fresh : Fresh g l (part l at size) start j i
  pub len : length now ≡ length l

pub marking_none : (g : Ring) (l : List ℕ) (at size start j : ℕ) → Marking g l at size start j 0 l
marking_none g l at size start j = record { is = sym (marked_to_zero g l (part l at size) start j); le = omega arith; fresh = λ m h. absurd (omega arith); len = refl }

module _ {g : Ring} {l : List ℕ} {at size start j i : ℕ} {l' : List ℕ} (s : Shape g) (k : Marking g l at size start j i l') (above : g.words ≤ at) (lt : i < size) where
  pub marking_key : get_or l' (at + i) 0 ≡ get_or (part l at size) i 0
  marking_key = key_here g s l at size start j i above lt k.is

  pub marking_ok : at + size ≤ length l → Keys (part l at size) start → Key start (get_or l' (at + i) 0)
  marking_ok fits h = rw marking_key (h i (omega (arith, length_part l at size fits)))

  slot_here : {p : ℕ} → p ≡ slot_at g start (get_or l' (at + i) 0) j → p ≡ key_slot g (part l at size) start j i
  slot_here e = e ∙ ap (λ (d : ℕ). slot_at g start d j) marking_key

  pub marking_met : {p : ℕ} {free : Bool} {l'' : List ℕ} → p ≡ slot_at g start (get_or l' (at + i) 0) j → Took g l' p free l'' → free ≡ false → MarkedUpTo g l (part l at size) start j size i l''
  marking_met e t flag = record {
    is = (t.no flag).1 ∙ k.is;
    le = k.le;
    fresh = k.fresh;
    met = λ h. rw (slot_here e, k.is) at (t.no flag).0;
  }

  pub marking_more : {p : ℕ} {free : Bool} {l'' : List ℕ} → p ≡ slot_at g start (get_or l' (at + i) 0) j → Took g l' p free l'' → free ≡ true → Marking g l at size start j (i + 1) l''
  marking_more {p} {free} {l''} e t flag =
      let now : l'' ≡ ring_marked g.t g.words l' p = (t.yes flag).1 in
      record {
        is = now ∙ rw (slot_here e, k.is) (sym (marked_to_more g l (part l at size) start j i));
        le = omega arith;
        fresh = fresh_more g l (part l at size) start j i k.fresh (rw (slot_here e, k.is) at (t.yes flag).0);
        len = ap length now ∙ length_mark g.t g.words l' p ∙ k.len;
      }

pub marking_all : {g : Ring} {l : List ℕ} {at size start j i : ℕ} {l' : List ℕ} → Marking g l at size start j i l' → size ≤ i → MarkedUpTo g l (part l at size) start j size i l'
marking_all k h = record { is = k.is; le = k.le; fresh = k.fresh; met = λ lt. absurd (omega (arith, k.le)) }

-- ---- the loop of `unmark_keys`: what is left to do of the whole

pub length_unmarked_to : (g : Ring) (l keys : List ℕ) (start j i : ℕ) → length (unmarked_to g l keys start j i) ≡ length l
unfolding unmarked_to
length_unmarked_to g l keys start j zero = refl
length_unmarked_to g l keys start j (suc i) =
    length_unmarked_to g (ring_unmarked g.t g.words l (key_slot g keys start j i)) keys start j i ∙ length_unmark g.t g.words l (key_slot g keys start j i)

pub record Unmarking (g : Ring) (l keys : List ℕ) (at size start j count i : ℕ) (now : List ℕ) : Type 0 where
  pub is : unmarked_to g now keys start j i ≡ unmarked_to g l keys start j count
  pub le : i ≤ count
  pub len : length now ≡ length l
  -- what stands above the ring
  pub above : (k : ℕ) → g.words ≤ k → get_or now k 0 ≡ get_or l k 0

pub unmarking_start : (g : Ring) (l keys : List ℕ) (at size start j count : ℕ) → Unmarking g l keys at size start j count count l
unmarking_start g l keys at size start j count = record { is = refl; le = omega arith; len = refl; above = λ k h. refl }

module _ {g : Ring} {l : List ℕ} {at size start j count i : ℕ} {l' : List ℕ} (s : Shape g) (u : Unmarking g l (part l at size) at size start j count i l')
    (above : g.words ≤ at) (pos : 0 < i) (lt : i ≤ size) where
  pub unmarking_key : get_or l' (at + (i - 1)) 0 ≡ get_or (part l at size) (i - 1) 0
  unmarking_key = u.above (at + (i - 1)) (omega arith) ∙ sym (part_at l at size (i - 1) (omega arith))

  pub unmarking_ok : at + size ≤ length l → Keys (part l at size) start → Key start (get_or l' (at + (i - 1)) 0)
  unmarking_ok fits h = rw unmarking_key (h (i - 1) (omega (arith, length_part l at size fits)))

  pub unmarking_more : {p : ℕ} {l'' : List ℕ} → p ≡ slot_at g start (get_or l' (at + (i - 1)) 0) j → l'' ≡ ring_unmarked g.t g.words l' p
      → Unmarking g l (part l at size) at size start j count (i - 1) l''
  unmarking_more {p} {l''} e now =
      let at_key : p ≡ key_slot g (part l at size) start j (i - 1) = e ∙ ap (λ (d : ℕ). slot_at g start d j) unmarking_key in
      record {
        is = rw (now, at_key) (sym (unmarked_to_more g l' (part l at size) start j i pos)) ∙ u.is;
        le = omega (arith, u.le);
        len = ap length now ∙ length_unmark g.t g.words l' p ∙ u.len;
        above = λ k h. ap (λ (x : List ℕ). get_or x k 0) now ∙ above_same g.words l' (ring_unmarked g.t g.words l' p) (drop_unmark g s l' p g.words (omega arith)) k h ∙ u.above k h;
      }

-- ---- what `place` answers

differ : false ≡ true → ⊥
differ e = let z : ◌≡◌ {A = ℕ} 0 1 = cc in omega arith

pub placed_yes : {g : Ring} {l keys : List ℕ} {start j size r : ℕ} {after : List ℕ} → MarkedUpTo g l keys start j size r after → r ≡ size → Placed g l keys start j size true after
placed_yes m e = record { yes = λ t. (rw e at m.is, rw e at m.fresh); no = λ f. absurd (differ (sym f)) }

pub placed_no : {g : Ring} {l keys : List ℕ} {start j size r : ℕ} {mid after : List ℕ} → Shape g → g.words ≤ length l → Words l → MarkedUpTo g l keys start j size r mid → r ≢ size
    → after ≡ unmarked_to g mid keys start j r → Placed g l keys start j size false after
placed_no {g} {l} {keys} {start} {j} {size} {r} {mid} {after} s fits small m n e = record {
  yes = λ t. absurd (differ t);
  no = λ f. (e ∙ ap (λ (x : List ℕ). unmarked_to g x keys start j r) m.is ∙ taken_back g s l keys start j r fits small m.fresh, record { m = r; lt = below; hit = m.met below });
}
  where
    below : r < size
    below = omega (arith, m.le)

-- ---- what the marks mean, for keys whose slots lie within one length of the ring

module _ (g : Ring) (s : Shape g) (l keys : List ℕ) (start j base : ℕ) (fits : g.words ≤ length l) where
  fits_to : (i : ℕ) → g.words ≤ length (marked_to g l keys start j i)
  fits_to i = omega (arith, length_marked_to g l keys start j i)

  -- one more mark, at a slot in reach
  step_same : (i q : ℕ) → q ≡ key_slot g keys start j i → ring_bit g.t g.words (marked_to g l keys start j (suc i)) q ≡ 1
  unfolding marked_to
  step_same i q e = rw e (mark_same g s (marked_to g l keys start j i) (key_slot g keys start j i) (fits_to i))

  step_other : (i q : ℕ) → Within g base q → Within g base (key_slot g keys start j i) → q ≢ key_slot g keys start j i
      → ring_bit g.t g.words (marked_to g l keys start j (suc i)) q ≡ ring_bit g.t g.words (marked_to g l keys start j i) q
  unfolding marked_to
  step_other i q wq wp n = mark_other g s (marked_to g l keys start j i) (key_slot g keys start j i) q (omega (arith, wq.below, wp.from)) (omega (arith, wq.from, wp.below)) n

  -- every other slot is as it was
  pub marked_out : (i q : ℕ) → Within g base q → ((m : ℕ) → m < i → Within g base (key_slot g keys start j m)) → ((m : ℕ) → m < i → q ≢ key_slot g keys start j m)
      → ring_bit g.t g.words (marked_to g l keys start j i) q ≡ ring_bit g.t g.words l q
  marked_out zero q wq w n = ap (λ (x : List ℕ). ring_bit g.t g.words x q) (marked_to_zero g l keys start j)
  marked_out (suc i) q wq w n =
      step_other i q wq (w i (omega arith)) (n i (omega arith)) ∙ marked_out i q wq (λ m h. w m (omega arith)) (λ m h. n m (omega arith))

  -- a ring_marked slot stays ring_marked
  pub marked_keeps : (i q : ℕ) → Within g base q → ((m : ℕ) → m < i → Within g base (key_slot g keys start j m)) → ring_bit g.t g.words l q ≡ 1
      → ring_bit g.t g.words (marked_to g l keys start j i) q ≡ 1
  marked_keeps zero q wq w e = ap (λ (x : List ℕ). ring_bit g.t g.words x q) (marked_to_zero g l keys start j) ∙ e
  marked_keeps (suc i) q wq w e =
      ⊎_elim
      (λ (x : q ≡ key_slot g keys start j i). step_same i q x)
      (λ (n : q ≢ key_slot g keys start j i). step_other i q wq (w i (omega arith)) n ∙ marked_keeps i q wq (λ m h. w m (omega arith)) e)
      (same_or_not q (key_slot g keys start j i))

  -- the keys' slots are ring_marked
  pub marked_in : (i m : ℕ) → m < i → ((m : ℕ) → m < i → Within g base (key_slot g keys start j m))
      → ring_bit g.t g.words (marked_to g l keys start j i) (key_slot g keys start j m) ≡ 1
  marked_in zero m h w = absurd (omega arith)
  marked_in (suc i) m h w =
      ⊎_elim
      (λ (x : key_slot g keys start j m ≡ key_slot g keys start j i). step_same i (key_slot g keys start j m) x)
      (λ (n : key_slot g keys start j m ≢ key_slot g keys start j i).
      let lt : m < i = ⊎_elim (λ (a : m < i). a) (λ (a : i ≤ m). let e : m ≡ i = omega arith in absurd (n (ap (key_slot g keys start j) e))) (lt_or_ge m i) in
      step_other i (key_slot g keys start j m) (w m h) (w i (omega arith)) n ∙ marked_in i m lt (λ k hk. w k (omega arith)))
      (same_or_not (key_slot g keys start j m) (key_slot g keys start j i))

  -- all found their slots free: iff the slots were free and no two are one
  pub fresh_free : (i : ℕ) → ((m : ℕ) → m < i → Within g base (key_slot g keys start j m)) → Fresh g l keys start j i
      → (m : ℕ) → m < i → ring_bit g.t g.words l (key_slot g keys start j m) ≡ 0
  fresh_free i w f m h =
      ⊎_elim
      (λ (a : ring_bit g.t g.words l (key_slot g keys start j m) < 1). omega arith)
      (λ (a : 1 ≤ ring_bit g.t g.words l (key_slot g keys start j m)).
      absurd (omega (arith, f m h, marked_keeps m (key_slot g keys start j m) (w m h) (λ k hk. w k (omega arith)) (omega (arith, ring_bit_lt g.t g.words l (key_slot g keys start j m))))))
      (lt_or_ge (ring_bit g.t g.words l (key_slot g keys start j m)) 1)

  pub fresh_apart : (i : ℕ) → ((m : ℕ) → m < i → Within g base (key_slot g keys start j m)) → Fresh g l keys start j i
      → (m k : ℕ) → m < k → k < i → key_slot g keys start j m ≢ key_slot g keys start j k
  fresh_apart i w f m k hm hk e =
      omega (arith, f k hk, ap (ring_bit g.t g.words (marked_to g l keys start j k)) e, marked_in k m hm (λ x hx. w x (omega arith)))

  pub free_fresh : (i : ℕ) → ((m : ℕ) → m < i → Within g base (key_slot g keys start j m)) → ((m : ℕ) → m < i → ring_bit g.t g.words l (key_slot g keys start j m) ≡ 0)
      → ((m k : ℕ) → m < k → k < i → key_slot g keys start j m ≢ key_slot g keys start j k) → Fresh g l keys start j i
  free_fresh i w f d m h =
      marked_out m (key_slot g keys start j m) (w m h) (λ k hk. w k (omega arith)) (λ k hk e. d k m hk h (sym e)) ∙ f m h

-- a key that met a marked slot: the slots were not all free and different
pub met_clash : (g : Ring) → Shape g → (l keys : List ℕ) (start j base size : ℕ) → g.words ≤ length l → ((m : ℕ) → m < size → Within g base (key_slot g keys start j m))
    → ((m : ℕ) → m < size → ring_bit g.t g.words l (key_slot g keys start j m) ≡ 0) → ((m k : ℕ) → m < k → k < size → key_slot g keys start j m ≢ key_slot g keys start j k)
    → Met g l keys start j size → ⊥
met_clash g s l keys start j base size fits w free apart met = omega (arith, met.hit, free_fresh g s l keys start j base fits size w free apart met.m met.lt)

-- ---- what `fits` answers

pub fitted_no : {g : Ring} {l keys : List ℕ} {start j size : ℕ} {ok : Bool} {after : List ℕ} → Placed g l keys start j size ok after → ok ≡ false → (Fitted g l keys start j size false) × (after ≡ l)
fitted_no p e = (record { yes = λ t. absurd (differ t); no = λ f. (p.no e).1 }, (p.no e).0)

pub fitted_yes : {g : Ring} {l keys : List ℕ} {start j size : ℕ} {ok : Bool} {mid after : List ℕ} → Shape g → g.words ≤ length l → Words l → Placed g l keys start j size ok mid → ok ≡ true
    → after ≡ unmarked_to g mid keys start j size → (Fitted g l keys start j size true) × (after ≡ l)
fitted_yes {g} {l} {keys} {start} {j} {size} {ok} {mid} {after} s fits small p e u = (
  record { yes = λ t. (p.yes e).1; no = λ f. absurd (differ (sym f)) },
  u ∙ ap (λ (x : List ℕ). unmarked_to g x keys start j size) (p.yes e).0 ∙ taken_back g s l keys start j size fits small (p.yes e).1,
)

-- ---- the loop of `mark_bitmap`

pub length_map_to : (g : Ring) (bitmap keys : List ℕ) (start j i : ℕ) → length (map_to g bitmap keys start j i) ≡ length bitmap
unfolding map_to
length_map_to g bitmap keys start j zero = refl
length_map_to g bitmap keys start j (suc i) = length_marked (map_to g bitmap keys start j i) (key_slot g keys start j i) ∙ length_map_to g bitmap keys start j i

pub record Mapping (g : Ring) (bitmap keys : List ℕ) (start j i : ℕ) (now : List ℕ) : Type 0 where
  pub le : i ≤ length keys
  pub is : now ≡ map_to g bitmap keys start j i
  pub len : length now ≡ length bitmap

pub mapping_none : (g : Ring) (bitmap keys : List ℕ) (start j : ℕ) → Mapping g bitmap keys start j 0 bitmap
unfolding map_to
mapping_none g bitmap keys start j = record { le = omega arith; is = refl; len = refl }

pub mapping_more : {g : Ring} {bitmap keys : List ℕ} {start j i p : ℕ} {now after : List ℕ} → Mapping g bitmap keys start j i now → i < length keys → p ≡ slot_at g start (get_or keys i 0) j
    → after ≡ marked now p → Mapping g bitmap keys start j (i + 1) after
unfolding map_to
mapping_more {g} {bitmap} {keys} {start} {j} {i} {p} {now} {after} m lt e is =
    let here : after ≡ map_to g bitmap keys start j (i + 1) = is ∙ rw (e, m.is, add-one) refl in
    record { le = omega arith; is = here; len = ap length here ∙ length_map_to g bitmap keys start j (i + 1) }
