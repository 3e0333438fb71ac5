-- Marks in the ring and in the bitmap, one key after the other, and both taken back. Why: a key whose slot was free in the ring has another slot than the keys
-- before it, so in the bitmap too its slot was unmarked when its turn came, and clearing the slots from the last to the first leaves the bitmap as it was.
-- Assumes nothing.
use mathlib.Core.Path.{◌≡◌, refl, sym, ap, ◌∙◌}
use mathlib.Core.Logic.{◌≢◌}
use mathlib.Core.Bool.{true, false}
use mathlib.Core.List.{List}
use Prim.Native.Nat.{ℕ, zero, suc, ◌+◌, ◌-◌, ◌*◌, ◌/◌, ◌≤◌, ◌<◌}
use native.Mathlib.Omega.{arith}
use lib.ListN.{length, get_or}
use Rattle.words.specs.Map.{Words, slot, cleared}
use Rattle.words.specs.MapLaws.{cleared_marked, length_cleared}
use Rattle.rings.specs.declared.Ring.{Ring}
use Rattle.rings.specs.Ring.{Shape}
use Rattle.rings.specs.Keys.{slot_at}
use Rattle.rings.specs.Parts.{part, length_part}
use Rattle.rings.specs.Place.{key_slot, unmarked_to, map_to}
use Rattle.rings.specs.PlaceLaws.{Marking, marking_key, length_marked_to, part_marked_to, length_map_to, Unmarking, unmarking_key, placed_yes, placed_no, fresh_apart}
use Rattle.search.specs.HeldLaws.{map_out, map_words}
use Rattle.search.specs.Settle.{cleared_to, Settling, MarkedBoth, Blank, Settled}

-- ---- marks

-- the slot that the code has
pub slot_is : {g : Ring} {l : List ℕ} {at size start j i : ℕ} {l' : List ℕ} {p : ℕ} → Shape g → Marking g l at size start j i l' → g.words ≤ at → i < size → p ≡ slot_at g start (get_or l' (at + i) 0) j
    → p ≡ key_slot g (part l at size) start j i
slot_is {g} {start = start} {j = j} s m above lt e = e ∙ ap (λ (d : ℕ). slot_at g start d j) (marking_key s m above lt)

-- the keys are still there, and the bitmap is as long
pub settling_after : {g : Ring} {work : List ℕ} {a size start j r : ℕ} {bitmap work' bitmap' : List ℕ} → Settling g work a size start j bitmap
    → MarkedBoth g work bitmap (part work a size) start j size r work' bitmap' → Settling g work' a size start j bitmap'
settling_after {g} {work} {a} {size} {start} {j} {r} {bitmap} {work'} {bitmap'} s m = record {
  shape = s.shape;
  above = s.above;
  room = rw (ap length m.ring.is ∙ length_marked_to g work (part work a size) start j r) s.room;
  keys = rw same s.keys;
  begin = s.begin;
  small = s.small;
  inside = rw (same, ap length m.map ∙ length_map_to g bitmap (part work a size) start j r) s.inside;
}
  where
    same : part work' a size ≡ part work a size
    same = part_marked_to g s.shape work (part work a size) start j r a size s.above m.ring.is

-- ---- marks taken back

module _ (g : Ring) (bitmap keys : List ℕ) (start j : ℕ) where
  map_back : (i : ℕ) → Words bitmap → ((m : ℕ) → m < i → key_slot g keys start j m < 64 * length bitmap) → ((m : ℕ) → m < i → slot (map_to g bitmap keys start j m) (key_slot g keys start j m) ≡ 0)
      → cleared_to g (map_to g bitmap keys start j i) keys start j i ≡ bitmap
  unfolding map_to cleared_to
  map_back zero f inside blank = refl
  map_back (suc i) f inside blank =
      rw (cleared_marked (map_to g bitmap keys start j i) (key_slot g keys start j i) (omega (arith, inside i (omega arith), length_map_to g bitmap keys start j i)) (map_words g bitmap keys start j i f (key_slot g keys start j i / 64)) (blank i (omega arith)))
      (map_back i f (λ m h. inside m (omega arith)) (λ m h. blank m (omega arith)))

-- ---- the loop of `unmark_both` in the bitmap: what is left to do of the whole

pub cleared_none : (g : Ring) (bitmap keys : List ℕ) (start j : ℕ) → cleared_to g bitmap keys start j 0 ≡ bitmap
unfolding cleared_to
cleared_none g bitmap keys start j = refl

cleared_more : (g : Ring) (bitmap keys : List ℕ) (start j i : ℕ) → 0 < i → cleared_to g bitmap keys start j i ≡ cleared_to g (cleared bitmap (key_slot g keys start j (i - 1))) keys start j (i - 1)
unfolding cleared_to
cleared_more g bitmap keys start j zero h = absurd (omega arith)
cleared_more g bitmap keys start j (suc i) h = let e : suc i - 1 ≡ i = omega arith in rw e refl

pub record Clearing (g : Ring) (l keys : List ℕ) (start j count i : ℕ) (now : List ℕ) : Type 0 where
  pub is : cleared_to g now keys start j i ≡ cleared_to g l keys start j count
  pub len : length now ≡ length l

pub clearing_more : {g : Ring} {l keys : List ℕ} {start j count i p : ℕ} {now after : List ℕ} → Clearing g l keys start j count i now → 0 < i → p ≡ key_slot g keys start j (i - 1) → after ≡ cleared now p
    → Clearing g l keys start j count (i - 1) after
clearing_more {g} {l} {keys} {start} {j} {count} {i} {p} {now} c pos e is = record {
  is = rw (is, e) (sym (cleared_more g now keys start j i pos)) ∙ c.is;
  len = ap length is ∙ length_cleared now p ∙ c.len;
}

-- the slot that the code has
pub slot_back : {g : Ring} {l : List ℕ} {at size start j count i : ℕ} {l' : List ℕ} {p : ℕ} → Shape g → Unmarking g l (part l at size) at size start j count i l' → g.words ≤ at → 0 < i → i ≤ size
    → p ≡ slot_at g start (get_or l' (at + (i - 1)) 0) j → p ≡ key_slot g (part l at size) start j (i - 1)
slot_back {g} {start = start} {j = j} s u above pos le e = e ∙ ap (λ (d : ℕ). slot_at g start d j) (unmarking_key s u above pos le)

-- ---- the two ends of `settle`

module _ {g : Ring} {work bitmap keys : List ℕ} {start j size r : ℕ} {mid map : List ℕ} (m : MarkedBoth g work bitmap keys start j size r mid map) where
  pub settled_yes : r ≡ size → Settled g work bitmap keys start j size true mid map
  settled_yes e = record {
    yes = λ t. let p = (placed_yes m.ring e).yes t in (p.0, rw e at m.map, p.1);
    no = λ f. absurd (differ f);
  }
    where
      differ : true ≡ false → ⊥
      differ f = let z : ◌≡◌ {A = ℕ} 0 1 = cc f in omega arith

module _ {g : Ring} {work bitmap : List ℕ} {a size start j r : ℕ} {mid map : List ℕ} (m : MarkedBoth g work bitmap (part work a size) start j size r mid map) where
  pub settled_no : {bitmap' work' : List ℕ} → Settling g work a size start j bitmap → Words work → Words bitmap → Blank g bitmap (part work a size) start j → r ≢ size
      → work' ≡ unmarked_to g mid (part work a size) start j r → bitmap' ≡ cleared_to g (map_to g bitmap (part work a size) start j r) (part work a size) start j r
      → Settled g work bitmap (part work a size) start j size false work' bitmap'
  settled_no {bitmap'} {work'} s small words blank n ew eb = record {
    yes = λ t. absurd (differ t);
    no = λ f.
        let p = (placed_no s.shape fits small m.ring n ew).no f in
        (p.0, eb ∙ map_back g bitmap (part work a size) start j r words (λ k h. s.inside k (within k h)) unmarked, p.1);
  }
    where
      differ : false ≡ true → ⊥
      differ t = let z : ◌≡◌ {A = ℕ} 0 1 = cc t in omega arith

      fits : g.words ≤ length work
      fits = omega (arith, s.above, s.room)

      within : (k : ℕ) → k < r → k < length (part work a size)
      within k h = omega (arith, m.ring.le, length_part work a size s.room)

      unmarked : (k : ℕ) → k < r → slot (map_to g bitmap (part work a size) start j k) (key_slot g (part work a size) start j k) ≡ 0
      unmarked k h =
          map_out g bitmap (part work a size) start j k (key_slot g (part work a size) start j k) (λ x hx e.
          fresh_apart g s.shape work (part work a size) start j blank.near.base fits r (λ y hy. blank.near.near j y blank.turn (within y hy)) m.ring.fresh x k hx h (sym e))
          ∙ blank.unmarked k (within k h)
