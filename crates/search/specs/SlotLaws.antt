-- Lists of slots by their elements: all unmarked, pairwise different; and a rotation whose slots are free in the ring is placed exactly where they are
-- pairwise different. Assumes nothing.
use Rattle.std.specs.Prelude.{◌≡◌, ◌≢◌, not, List, [], ◌∷◌, map, ℕ, zero, suc, ◌≤◌, ◌<◌, T, eqb, length, get_or}
use Rattle.std.proofs.Common.{sym, ap, ◌∙◌, arith, T_not}
use Rattle.std.proofs.Math.Dec.{not_T}
use Rattle.std.proofs.Math.ListN.{length-map}
use Rattle.std.proofs.lemmas.List.{get_or-map}
use Rattle.rules.specs.Lists.{elem, all_free, distinct}
use Rattle.rules.proofs.Tests.{and_left, and_right, and_both, not_or, neq→neqb}
use Rattle.rules.proofs.Counting.{get_d_elem}
use Rattle.rings.specs.declared.Ring.{Ring}
use Rattle.rings.specs.Ring.{Shape}
use Rattle.rings.specs.Keys.{slot_at}
use Rattle.rings.specs.Place.{key_slot, Within, Fresh, Met}
use Rattle.rings.specs.PlaceLaws.{fresh_apart, met_clash}
use Rattle.search.specs.Slots.{slots_at, Unused, Reached}

-- ---- a list by its elements

none_elem : (y : ℕ) (xs : List ℕ) → ((k : ℕ) → k < length xs → y ≢ get_or xs k 0) → T (not (elem y xs))
none_elem y [] h = tt
none_elem y (x ∷ xs) h = not_or (eqb y x) (elem y xs) (neq→neqb y x (h 0 (omega arith))) (none_elem y xs (λ k l. h (suc k) (omega arith)))

pub distinct_apart : (xs : List ℕ) → T (distinct xs) → (m k : ℕ) → m < k → k < length xs → get_or xs m 0 ≢ get_or xs k 0
distinct_apart [] t m k h l = absurd (omega arith)
distinct_apart (x ∷ xs) t m zero h l = absurd (omega arith)
distinct_apart (x ∷ xs) t zero (suc k) h l = λ e. T_not (elem x xs) (and_left (not (elem x xs)) (distinct xs) t) (rw e (get_d_elem xs k (omega arith)))
distinct_apart (x ∷ xs) t (suc m) (suc k) h l = distinct_apart xs (and_right (not (elem x xs)) (distinct xs) t) m k (omega arith) (omega arith)

pub apart_distinct : (xs : List ℕ) → ((m k : ℕ) → m < k → k < length xs → get_or xs m 0 ≢ get_or xs k 0) → T (distinct xs)
apart_distinct [] h = tt
apart_distinct (x ∷ xs) h =
    and_both (not (elem x xs)) (distinct xs)
    (none_elem x xs (λ k l. h 0 (suc k) (omega arith) (omega arith)))
    (apart_distinct xs (λ m k a l. h (suc m) (suc k) (omega arith) (omega arith)))

pub free_at_lem : (marked xs : List ℕ) → T (all_free marked xs) → (k : ℕ) → k < length xs → T (not (elem (get_or xs k 0) marked))
free_at_lem marked [] t k l = absurd (omega arith)
free_at_lem marked (x ∷ xs) t zero l = and_left (not (elem x marked)) (all_free marked xs) t
free_at_lem marked (x ∷ xs) t (suc k) l = free_at_lem marked xs (and_right (not (elem x marked)) (all_free marked xs) t) k (omega arith)

pub at_free : (marked xs : List ℕ) → ((k : ℕ) → k < length xs → T (not (elem (get_or xs k 0) marked))) → T (all_free marked xs)
at_free marked [] h = tt
at_free marked (x ∷ xs) h = and_both (not (elem x marked)) (all_free marked xs) (h 0 (omega arith)) (at_free marked xs (λ k l. h (suc k) (omega arith)))

-- a map to pairwise different values is one of pairwise different values
pub map_distinct : (f : ℕ → ℕ) (xs : List ℕ) → T (distinct (map f xs)) → T (distinct xs)
map_distinct f xs t =
    apart_distinct xs (λ m k a l e. distinct_apart (map f xs) t m k a (rw (length-map xs f) l)
    (get_or-map f xs m 0 0 (omega arith) ∙ ap f e ∙ sym (get_or-map f xs k 0 0 l)))

-- ---- the slots of a layout's keys

module _ (g : Ring) (start : ℕ) (keys : List ℕ) (j : ℕ) where
  pub length_slots : length (slots_at g start keys j) ≡ length keys
  unfolding slots_at
  length_slots = length-map keys (λ (d : ℕ). slot_at g start d j)

  pub slots_at_lem : (m : ℕ) → m < length keys → get_or (slots_at g start keys j) m 0 ≡ key_slot g keys start j m
  unfolding slots_at
  slots_at_lem m l = get_or-map (λ (d : ℕ). slot_at g start d j) keys m 0 0 l

  pub slots_apart : T (distinct (slots_at g start keys j)) → (m k : ℕ) → m < k → k < length keys → key_slot g keys start j m ≢ key_slot g keys start j k
  slots_apart t m k a l = rw (slots_at_lem m (omega arith), slots_at_lem k l) at (distinct_apart (slots_at g start keys j) t m k a (rw length_slots l))

  pub apart_slots : ((m k : ℕ) → m < k → k < length keys → key_slot g keys start j m ≢ key_slot g keys start j k) → T (distinct (slots_at g start keys j))
  apart_slots h =
      apart_distinct (slots_at g start keys j) (λ m k a l.
      let lk : k < length keys = rw length_slots at l in
      rw (slots_at_lem m (omega arith), slots_at_lem k lk) (h m k a lk))

-- a rotation whose slots are unused is placed exactly where they are pairwise different
module _ (g : Ring) (s : Shape g) (l : List ℕ) (start : ℕ) (keys : List ℕ) (j size : ℕ) (long : length keys ≡ size) (room : g.words ≤ length l) (turn : j < g.n)
    (near : Reached g start keys) (free : Unused g l start keys j) where
  within : (m : ℕ) → m < size → Within g near.base (key_slot g keys start j m)
  within m h = near.near j m turn (rw long h)

  pub fresh_distinct : Fresh g l keys start j size → T (distinct (slots_at g start keys j))
  fresh_distinct f = apart_slots g start keys j (λ m k a h. fresh_apart g s l keys start j near.base room size within f m k a (rw long at h))

  pub met_twice : Met g l keys start j size → T (not (distinct (slots_at g start keys j)))
  met_twice m =
      not_T (distinct (slots_at g start keys j)) (λ t.
      met_clash g s l keys start j near.base size room within (λ m h. free m (rw long h)) (λ m k a h. slots_apart g start keys j t m k a (rw long h)) m)
