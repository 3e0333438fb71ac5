-- Ring and bitmap against the marked slots: a rotation of bucket b is free in the ring exactly where its candidate is unbarred and its slots are unmarked,
-- and after its slots are marked in ring and bitmap, these stand for the marked slots with the new ones added. Assumes nothing.
use Rattle.std.specs.Prelude.{◌≡◌, ◌≢◌, Bool, true, false, not, ◌&&◌, List, [], ◌∷◌, ◌++◌, map, T, eqb, get_or}
use Rattle.std.proofs.Math.Path.{refl, sym}
use Rattle.std.proofs.Common.{ap, ◌∙◌, arith, T_not, eqb→eq}
use Rattle.std.proofs.Math.Logic.{⊎_elim}
use Prim.Native.Nat.{ℕ, zero, suc, ◌*◌, ◌≤◌, ◌<◌}
use Rattle.std.proofs.Math.Dec.{not_T}
use Rattle.std.proofs.Math.ListN.{length}
use Rattle.std.proofs.lemmas.List.{length-map}
use Rattle.std.proofs.Math.Seq.{ext_get_or}
use Rattle.words.specs.Cases.{same_or_not}
use Rattle.words.specs.Map.{Words, slot}
use Rattle.words.specs.MapLaws.{marked_same, marked_other, marked_words}
use Rattle.rules.specs.Lists.{elem, indicator, all_free}
use Rattle.rules.specs.Geometry.{layouts, ring_len, rotations, position}
use Rattle.rules.specs.Order.{Input, keys_of}
use Rattle.rules.specs.Seed.{is_first, barred, unbarred, slots_of}
use Rattle.rules.proofs.Tests.{split, is_false, and_left, and_right, and_both, or_cases, or_left, or_right, not_or_left, not_or_right, eq→eqb}
use Rattle.rules.proofs.Counting.{ind_true, ind_false, get_d_elem}
use Rattle.rings.specs.declared.Ring.{Ring}
use Rattle.rings.specs.Ring.{ring_bit}
use Rattle.rings.specs.Keys.{one, bar_bit, free_at}
use Rattle.rings.specs.Place.{key_slot, Within, InMap, map_to, marked_to}
use Rattle.rings.specs.PlaceLaws.{length_map_to}
use Rattle.rings.specs.Columns.{Caches}
use Rattle.rings.specs.CacheLaws.{caches_place}
use Rattle.rings.specs.FilledLaws.{free_unbarred, free_slots, slots_free}
use Rattle.rings.specs.Level.{level_ring}
use Rattle.rings.specs.LevelLaws.{shape_level}
use Rattle.ring_keys.specs.LayoutLaws.{homes_of, keys_within, keys_in_map}
use Rattle.ring_keys.specs.CostLaws.{candidate_slot}
use Rattle.search.specs.Slots.{slots_at, Unused, Reached}
use Rattle.search.specs.Settle.{Blank}
use Rattle.search.specs.SlotLaws.{length_slots, slots_at_lem, free_at_lem, at_free}
use Rattle.search.specs.Candidates.{ring_in, start_of, row_of, at, seed_at}
use Rattle.search.specs.Searching.{Marks, Held}

-- ---- tests

same_test : (x y : Bool) → (T x → T y) → (T y → T x) → x ≡ y
same_test true true f g = refl
same_test true false f g = absurd (f tt)
same_test false true f g = absurd (g tt)
same_test false false f g = refl

bar_test : (x y z : Bool) → one x (one y (one z 1)) ≡ 0 → T (not ((x && y) && z))
bar_test true true true h = absurd (let e : 1 ≡ 0 = h in omega arith)
bar_test true true false h = tt
bar_test true false z h = tt
bar_test false y z h = tt

test_bar : (x y z : Bool) → T (not ((x && y) && z)) → one x (one y (one z 1)) ≡ 0
test_bar true true true t = absurd t
test_bar true true false t = refl
test_bar true false z t = refl
test_bar false y z t = refl

-- ---- members of lists

-- where it stands
pub find : (x : ℕ) (xs : List ℕ) → T (elem x xs) → (k : ℕ) × (k < length xs) × (x ≡ get_or xs k 0)
find x [] t = absurd t
find x (y ∷ ys) t =
    ⊎_elim
    (λ (e : T (eqb x y)). (0, omega arith, eqb→eq x y e))
    (λ (u : T (elem x ys)).
    let f = find x ys u in
    (suc f.0, omega (arith, f.1), f.2))
    (or_cases (eqb x y) (elem x ys) t)

elem_front : (x : ℕ) (xs ys : List ℕ) → T (elem x xs) → T (elem x (xs ++ ys))
elem_front x [] ys t = absurd t
elem_front x (z ∷ xs) ys t =
    ⊎_elim (λ e. or_left (eqb x z) (elem x (xs ++ ys)) e) (λ u. or_right (eqb x z) (elem x (xs ++ ys)) (elem_front x xs ys u)) (or_cases (eqb x z) (elem x xs) t)

elem_behind : (x : ℕ) (xs ys : List ℕ) → T (not (elem x xs)) → elem x (xs ++ ys) ≡ elem x ys
elem_behind x [] ys t = refl
elem_behind x (z ∷ xs) ys t = rw (is_false (eqb x z) (not_or_left (eqb x z) (elem x xs) t)) (elem_behind x xs ys (not_or_right (eqb x z) (elem x xs) t))

-- ---- the bitmap with the keys' slots marked

module _ (g : Ring) (bitmap keys : List ℕ) (start j : ℕ) where
  pub map_out : (k q : ℕ) → ((m : ℕ) → m < k → q ≢ key_slot g keys start j m) → slot (map_to g bitmap keys start j k) q ≡ slot bitmap q
  unfolding map_to
  map_out zero q h = refl
  map_out (suc k) q h = marked_other (map_to g bitmap keys start j k) (key_slot g keys start j k) q (h k (omega arith)) ∙ map_out k q (λ m l. h m (omega arith))

  map_in : (k m : ℕ) → m < k → ((m : ℕ) → m < k → key_slot g keys start j m < 64 * length bitmap) → slot (map_to g bitmap keys start j k) (key_slot g keys start j m) ≡ 1
  unfolding map_to
  map_in zero m l inside = absurd (omega arith)
  map_in (suc k) m l inside =
      ⊎_elim
      (λ (e : key_slot g keys start j m ≡ key_slot g keys start j k).
      rw e (marked_same (map_to g bitmap keys start j k) (key_slot g keys start j k) (omega (arith, length_map_to g bitmap keys start j k, inside k (omega arith)))))
      (λ (n : key_slot g keys start j m ≢ key_slot g keys start j k).
      marked_other (map_to g bitmap keys start j k) (key_slot g keys start j k) (key_slot g keys start j m) n ∙ map_in k m (earlier n) (λ p h. inside p (omega arith)))
      (same_or_not (key_slot g keys start j m) (key_slot g keys start j k))
    where
      earlier : key_slot g keys start j m ≢ key_slot g keys start j k → m < k
      earlier n = ⊎_elim (λ (e : m ≡ k). absurd (n (ap (key_slot g keys start j) e))) (λ (d : m ≢ k). omega arith) (same_or_not m k)

  pub map_words : (k : ℕ) → Words bitmap → Words (map_to g bitmap keys start j k)
  unfolding map_to
  map_words zero w = w
  map_words (suc k) w = marked_words (map_to g bitmap keys start j k) (key_slot g keys start j k) (map_words k w)

-- ---- bucket b when it has its turn

module _ {i : Input} {marked : List ℕ} {first b : ℕ} {bitmap work : List ℕ} (h : Held i marked first b bitmap work) (r : ℕ) (lr : r < layouts i.settings) where
  pub row_length : length (row_of i b r) ≡ length (keys_of i b)
  row_length = length-map (keys_of i b) _

  -- the keys' slots are near
  pub row_within : (j m : ℕ) → m < length (row_of i b r) → Within (ring_in i) first (key_slot (ring_in i) (row_of i b r) (start_of i b) j m)
  row_within j =
      keys_within i.settings h.sound.good b (start_of i b) (keys_of i b) (homes_of i h.sound b h.inside) r lr first h.near.o j h.near.from h.near.to h.near.oldest h.near.close

  pub row_reached : Reached (ring_in i) (start_of i b) (row_of i b r)
  row_reached = record { base = first; near = λ j m lj lm. row_within j m lm }

  pub row_in_map : (j : ℕ) → InMap (ring_in i) (row_of i b r) (start_of i b) j (length bitmap)
  row_in_map j =
      rw h.marks.len (keys_in_map i.settings h.sound.good b (start_of i b) (keys_of i b) (homes_of i h.sound b h.inside) r lr j)

  module _ (j : ℕ) (lj : j < ring_len i.settings) where
    pub slots_are : slots_at (ring_in i) (start_of i b) (row_of i b r) j ≡ slots_of i b (seed_at i r j)
    unfolding slots_of
    slots_are =
        ext_get_or 0 (slots_at (ring_in i) (start_of i b) (row_of i b r) j) (map (position i.settings (seed_at i r j)) (keys_of i b))
        (length_slots (ring_in i) (start_of i b) (row_of i b r) j ∙ row_length ∙ sym (length-map (keys_of i b) (position i.settings (seed_at i r j))))
        (λ k l.
        let lk : k < length (row_of i b r) = rw (length_slots (ring_in i) (start_of i b) (row_of i b r) j) at l in
        slots_at_lem (ring_in i) (start_of i b) (row_of i b r) j k lk ∙ candidate_slot i h.sound b h.inside r lr j lj k (rw row_length at lk))

    -- a slot's bit in the ring
    ring_bit_lem : (m : ℕ) → m < length (row_of i b r)
        → ring_bit (ring_in i).t (ring_in i).words work (key_slot (ring_in i) (row_of i b r) (start_of i b) j m) ≡ indicator (elem (key_slot (ring_in i) (row_of i b r) (start_of i b) j m) marked)
    ring_bit_lem m l =
        let w = row_within j m l in
        h.caches.same (key_slot (ring_in i) (row_of i b r) (start_of i b) j m) w.from w.below ∙ h.marks.bits (key_slot (ring_in i) (row_of i b r) (start_of i b) j m)

    pub unused_free : Unused (ring_in i) work (start_of i b) (row_of i b r) j → T (all_free marked (slots_of i b (seed_at i r j)))
    unused_free u =
        rw slots_are at (at_free marked (slots_at (ring_in i) (start_of i b) (row_of i b r) j) (λ k l.
        let lk : k < length (row_of i b r) = rw (length_slots (ring_in i) (start_of i b) (row_of i b r) j) at l in
        rw (slots_at_lem (ring_in i) (start_of i b) (row_of i b r) j k lk)
        (not_T (elem (key_slot (ring_in i) (row_of i b r) (start_of i b) j k) marked) (λ t. omega (arith, u k lk, ring_bit_lem k lk, ind_true (elem (key_slot (ring_in i) (row_of i b r) (start_of i b) j k) marked) t)))))

    slot_out : T (all_free marked (slots_of i b (seed_at i r j))) → (m : ℕ) → m < length (row_of i b r) → T (not (elem (key_slot (ring_in i) (row_of i b r) (start_of i b) j m) marked))
    slot_out t m l =
        let f = free_at_lem marked (slots_at (ring_in i) (start_of i b) (row_of i b r) j) (rw slots_are t) m (rw (length_slots (ring_in i) (start_of i b) (row_of i b r) j) l) in
        rw (slots_at_lem (ring_in i) (start_of i b) (row_of i b r) j m l) at f

    pub free_unused : T (all_free marked (slots_of i b (seed_at i r j))) → Unused (ring_in i) work (start_of i b) (row_of i b r) j
    free_unused t m l = ring_bit_lem m l ∙ ind_false (elem (key_slot (ring_in i) (row_of i b r) (start_of i b) j m) marked) (slot_out t m l)

    -- in the bitmap too
    pub free_blank : T (all_free marked (slots_of i b (seed_at i r j))) → Blank (ring_in i) bitmap (row_of i b r) (start_of i b) j
    unfolding level_ring
    free_blank t = record {
      near = row_reached;
      turn = lj;
      unmarked = λ m l. h.marks.bits (key_slot (ring_in i) (row_of i b r) (start_of i b) j m) ∙ ind_false (elem (key_slot (ring_in i) (row_of i b r) (start_of i b) j m) marked) (slot_out t m l);
    }

    bar_none : bar_bit (ring_in i) r j ≡ 0 → T (unbarred i (at r j))
    unfolding unbarred barred is_first bar_bit level_ring
    bar_none e = bar_test (eqb r 0) (eqb j 0) (eqb (ring_len i.settings) (rotations i.settings)) e

    none_bar : T (unbarred i (at r j)) → bar_bit (ring_in i) r j ≡ 0
    unfolding unbarred barred is_first bar_bit level_ring
    none_bar t = test_bar (eqb r 0) (eqb j 0) (eqb (ring_len i.settings) (rotations i.settings)) t

    -- free in the ring, and unbarred with unmarked slots
    pub free_is : eqb (free_at (ring_in i) work (row_of i b r) (start_of i b) r j) 1 ≡ (unbarred i (at r j) && all_free marked (slots_of i b (seed_at i r j)))
    free_is =
        same_test (eqb (free_at (ring_in i) work (row_of i b r) (start_of i b) r j) 1) (unbarred i (at r j) && all_free marked (slots_of i b (seed_at i r j)))
        (λ t.
        let e = eqb→eq (free_at (ring_in i) work (row_of i b r) (start_of i b) r j) 1 t in
        and_both (unbarred i (at r j)) (all_free marked (slots_of i b (seed_at i r j)))
        (bar_none (free_unbarred (ring_in i) work (row_of i b r) (start_of i b) r j e))
        (unused_free (free_slots (ring_in i) work (row_of i b r) (start_of i b) r j e)))
        (λ t.
        eq→eqb (free_at (ring_in i) work (row_of i b r) (start_of i b) r j) 1 (slots_free (ring_in i) work (row_of i b r) (start_of i b) r j
        (none_bar (and_left (unbarred i (at r j)) (all_free marked (slots_of i b (seed_at i r j))) t))
        (free_unused (and_right (unbarred i (at r j)) (all_free marked (slots_of i b (seed_at i r j))) t))))

    -- ---- its slots marked

    pub marks_after : Marks i.settings.m (map_to (ring_in i) bitmap (row_of i b r) (start_of i b) j (length (keys_of i b))) (slots_of i b (seed_at i r j) ++ marked)
    marks_after = record {
      len = length_map_to (ring_in i) bitmap (row_of i b r) (start_of i b) j (length (keys_of i b)) ∙ h.marks.len;
      words = map_words (ring_in i) bitmap (row_of i b r) (start_of i b) j (length (keys_of i b)) h.marks.words;
      bits = λ q. ⊎_elim (yes q) (no q) (split (elem q (slots_of i b (seed_at i r j))));
    }
      where
        after : List ℕ
        after = map_to (ring_in i) bitmap (row_of i b r) (start_of i b) j (length (keys_of i b))

        yes : (q : ℕ) → T (elem q (slots_of i b (seed_at i r j))) → slot after q ≡ indicator (elem q (slots_of i b (seed_at i r j) ++ marked))
        yes q t =
            let f = find q (slots_at (ring_in i) (start_of i b) (row_of i b r) j) (rw slots_are t) in
            let l : f.0 < length (row_of i b r) = rw (length_slots (ring_in i) (start_of i b) (row_of i b r) j) at f.1 in
            let e : q ≡ key_slot (ring_in i) (row_of i b r) (start_of i b) j f.0 = f.2 ∙ slots_at_lem (ring_in i) (start_of i b) (row_of i b r) j f.0 l in
            ap (slot after) e
            ∙ map_in (ring_in i) bitmap (row_of i b r) (start_of i b) j (length (keys_of i b)) f.0 (rw row_length at l) (λ m lm. row_in_map j m (rw row_length lm))
            ∙ sym (ind_true (elem q (slots_of i b (seed_at i r j) ++ marked)) (elem_front q (slots_of i b (seed_at i r j)) marked t))

        no : (q : ℕ) → T (not (elem q (slots_of i b (seed_at i r j)))) → slot after q ≡ indicator (elem q (slots_of i b (seed_at i r j) ++ marked))
        no q t =
            map_out (ring_in i) bitmap (row_of i b r) (start_of i b) j (length (keys_of i b)) q (λ m lm e.
            let l : m < length (row_of i b r) = rw row_length lm in
            let x : T (elem (get_or (slots_at (ring_in i) (start_of i b) (row_of i b r) j) m 0) (slots_at (ring_in i) (start_of i b) (row_of i b r) j)) =
            get_d_elem (slots_at (ring_in i) (start_of i b) (row_of i b r) j) m (rw (length_slots (ring_in i) (start_of i b) (row_of i b r) j) l) in
            T_not (elem q (slots_of i b (seed_at i r j))) t (rw (slots_at_lem (ring_in i) (start_of i b) (row_of i b r) j m l, ← e, slots_are) at x))
            ∙ h.marks.bits q
            ∙ ap indicator (sym (elem_behind q (slots_of i b (seed_at i r j)) marked t))

    pub caches_after : (ring_in i).words ≤ length work
        → Caches (ring_in i) (marked_to (ring_in i) work (row_of i b r) (start_of i b) j (length (keys_of i b))) (map_to (ring_in i) bitmap (row_of i b r) (start_of i b) j (length (keys_of i b))) first
    caches_after room =
        caches_place (shape_level i.settings h.sound.good) (row_of i b r) (start_of i b) j (length (keys_of i b)) room
        (λ m lm. (row_in_map j m (rw row_length lm), row_within j m (rw row_length lm))) h.caches
