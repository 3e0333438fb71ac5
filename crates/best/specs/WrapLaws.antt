-- A layout's set has the wrap point of each of its keys, and the loop that fills it, in words that lie above the keys in one list.
-- Assumes nothing.
use Rattle.std.specs.Prelude.{◌≡◌, ◌≢◌, List, get_or, take, drop, replicate}
use Rattle.std.proofs.Math.Path.{refl}
use Rattle.std.proofs.Common.{sym, ap, ◌∙◌, mod-eq_of_lt, add-one, eq-eqb, ne_eqb}
use Rattle.std.proofs.Math.Logic.{⊎_elim}
use Prim.Native.Nat.{ℕ, zero, suc, ◌+◌, ◌-◌, ◌*◌, ◌%◌, ◌≤◌, ◌<◌}
use native.Mathlib.Omega.{arith}
use Rattle.std.proofs.Math.Nat.{mod-eq-sub-mod}
use Rattle.std.proofs.Math.ListN.{length}
use Rattle.std.proofs.lemmas.List.{length-replicate}
use Rattle.words.specs.Cases.{lt_or_ge, same_or_not}
use Rattle.words.specs.Map.{slot, marked}
use Rattle.words.specs.MapLaws.{length_marked, marked_same, marked_other}
use Rattle.rings.specs.declared.Ring.{Ring}
use Rattle.rings.specs.Ring.{Shape}
use Rattle.rings.specs.Keys.{place_at}
use Rattle.rings.specs.KeyLaws.{place_lt, place_turn}
use Rattle.rings.specs.Parts.{part, part_at, part_range, length_part, elem_same}
use Rattle.best.specs.Kept.{kept_self, kept_on, kept_part, kept_range}
use Rattle.best.specs.Wraps.{with_point, points_of, Points, Filled}

-- ---- one key's point

module _ (g : Ring) (d : ℕ) (wraps : List ℕ) where
  pub with_none : place_at g d 0 ≡ 0 → with_point g d wraps ≡ wraps
  unfolding with_point
  with_none e = rw (eq-eqb (place_at g d 0) 0 e) refl

  pub with_some : place_at g d 0 ≢ 0 → with_point g d wraps ≡ marked wraps (g.n - place_at g d 0)
  unfolding with_point
  with_some n = rw (ne_eqb (place_at g d 0) 0 n) refl

  with_length : length (with_point g d wraps) ≡ length wraps
  with_length =
      ⊎_elim (λ e. ap length (with_none e)) (λ n. ap length (with_some n) ∙ length_marked wraps (g.n - place_at g d 0)) (same_or_not (place_at g d 0) 0)

  module _ (p : ℕ) (fits : p < 64 * length wraps) where
    with_stays : slot wraps p ≡ 1 → slot (with_point g d wraps) p ≡ 1
    with_stays h =
        ⊎_elim
        (λ e. ap (λ (x : List ℕ). slot x p) (with_none e) ∙ h)
        (λ n. ap (λ (x : List ℕ). slot x p) (with_some n) ∙ ⊎_elim
        (λ e. ap (λ (q : ℕ). slot (marked wraps q) p) (sym e) ∙ marked_same wraps p fits)
        (λ m. marked_other wraps (g.n - place_at g d 0) p m ∙ h)
        (same_or_not p (g.n - place_at g d 0)))
        (same_or_not (place_at g d 0) 0)

    module _ (s : Shape g) (pos : 0 < p) (lt : p < g.n) (home : place_at g d p ≡ 0) where
      -- the way to the end of the ring
      way : place_at g d 0 + p ≡ g.n
      way =
          ⊎_elim
          (λ (l : place_at g d 0 + p < g.n). absurd (omega (arith, place_turn g d p, mod-eq_of_lt l)))
          (λ (l : g.n ≤ place_at g d 0 + p).
          let m : (place_at g d 0 + p) % g.n ≡ place_at g d 0 + p - g.n = mod-eq-sub-mod l ∙ mod-eq_of_lt (omega (arith, place_lt g s d 0)) in
          omega (arith, place_turn g d p))
          (lt_or_ge (place_at g d 0 + p) g.n)

      with_own : slot (with_point g d wraps) p ≡ 1
      with_own =
          let e : g.n - place_at g d 0 ≡ p = omega (arith, way) in
          ap (λ (x : List ℕ). slot x p) (with_some (λ z. omega (arith, way))) ∙ ap (λ (q : ℕ). slot (marked wraps q) p) e ∙ marked_same wraps p fits

-- ---- the points of all keys

pub points_none : (g : Ring) (keys : List ℕ) (count : ℕ) → points_of g keys count 0 ≡ replicate count 0
unfolding points_of
points_none g keys count = refl

pub points_more : (g : Ring) (keys : List ℕ) (count i : ℕ) → points_of g keys count (i + 1) ≡ with_point g (get_or keys i 0) (points_of g keys count i)
unfolding points_of
points_more g keys count i = rw add-one refl

points_length : (g : Ring) (keys : List ℕ) (count i : ℕ) → length (points_of g keys count i) ≡ count
unfolding points_of
points_length g keys count zero = length-replicate count 0
points_length g keys count (suc i) = with_length g (get_or keys i 0) (points_of g keys count i) ∙ points_length g keys count i

module _ (g : Ring) (s : Shape g) (keys : List ℕ) (count : ℕ) (fits : g.n ≤ 64 * count) where
  points_to : (k i p : ℕ) → i < k → 0 < p → p < g.n → place_at g (get_or keys i 0) p ≡ 0 → slot (points_of g keys count k) p ≡ 1
  unfolding points_of
  points_to zero i p l pos lt home = absurd (omega arith)
  points_to (suc k) i p l pos lt home =
      let room : p < 64 * length (points_of g keys count k) = rw (points_length g keys count k) (omega arith) in
      ⊎_elim
      (λ (x : i < k). with_stays g (get_or keys k 0) (points_of g keys count k) p room (points_to k i p x pos lt home))
      (λ (x : k ≤ i).
      let e : i ≡ k = omega arith in
      with_own g (get_or keys k 0) (points_of g keys count k) p room s pos lt (rw e at home))
      (lt_or_ge i k)

  pub points_all : Points g keys (points_of g keys count (length keys))
  unfolding Points
  points_all i p l pos lt home = points_to (length keys) i p l pos lt home

-- ---- the loop of `fill_wraps`

pub record Pointing (g : Ring) (l : List ℕ) (at size up count i : ℕ) (now : List ℕ) : Type 0 where
  pub le : i ≤ size
  pub filled : Filled up count l (points_of g (part l at size) count i) now

pub pointing_none : (g : Ring) (at size : ℕ) {up count : ℕ} {l l' : List ℕ} → Filled up count l (replicate count 0) l' → Pointing g l' at size up count 0 l'
pointing_none g at size {up} {count} {l} {l'} f = record {
  le = omega arith;
  filled = record { kept = kept_self up l'; is = f.is ∙ sym (points_none g (part l' at size) count) };
}

module _ {g : Ring} {l : List ℕ} {at size up count i : ℕ} {now : List ℕ} (a : Pointing g l at size up count i now) where
  pub pointing_more : {now' : List ℕ} → i < size → at + size ≤ up → Filled up count now (with_point g (get_or now (at + i) 0) (part now up count)) now'
      → Pointing g l at size up count (i + 1) now'
  pointing_more {now'} h below f =
      let key : get_or now (at + i) 0 ≡ get_or (part l at size) i 0 = elem_same now l up (at + i) (omega arith) a.filled.kept.front ∙ sym (part_at l at size i h) in
      record {
        le = omega arith;
        filled = record {
          kept = kept_on a.filled.kept f.kept;
          is = f.is ∙ rw (key, a.filled.is, points_more g (part l at size) count i) refl;
        };
      }

  -- in the list before the words were cleared
  pub pointing_end : {old words : List ℕ} → size ≤ i → at + size ≤ up → Filled up count old words l → Filled up count old (points_of g (part old at size) count size) now
  pointing_end {old} {words} h below f =
      let e : i ≡ size = omega (arith, a.le) in
      record {
        kept = kept_on f.kept a.filled.kept;
        is = a.filled.is ∙ rw (e, kept_part at size f.kept below) refl;
      }

-- ---- the points beside the keys, as parts of the code

module _ {up count : ℕ} {l words after : List ℕ} (f : Filled up count l words after) (n : ℕ) (fits : n ≤ 64 * count) (room : up + count ≤ length l) where
  pub free_room : (at : ℕ) → at + count ≤ up → n ≤ 64 * length (take (at + count - at) (drop at after))
  free_room at h = rw (kept_range at count f.kept h, length_part l at count (omega arith)) fits

  pub wraps_room : n ≤ 64 * length (take (up + count - up) (drop up after))
  wraps_room = rw (part_range after up count, length_part after up count (omega (arith, f.kept.len))) fits

pub points_here : {g : Ring} {up count : ℕ} (a size : ℕ) {l after : List ℕ} → Shape g → Filled up count l (points_of g (part l a size) count size) after → g.n ≤ 64 * count
    → a + size ≤ up → a + size ≤ length l → Points g (take (a + size - a) (drop a after)) (take (up + count - up) (drop up after))
points_here {g} {up} {count} a size {l} {after} s f fits below room =
    let all : Points g (part l a size) (points_of g (part l a size) count (length (part l a size))) = points_all g s (part l a size) count fits in
    rw (kept_range a size f.kept below, part_range after up count, f.is) (rw (length_part l a size room) at all)
