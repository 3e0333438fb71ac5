-- The list of the words that are not 0. Why: a word's place is told by the number of such words before it, so the next one goes behind all that are listed, and
-- a word that is 0 leaves the place to the next. Assumes nothing.
use mathlib.Core.Path.{◌≡◌, refl, sym, ap, ◌∙◌}
use mathlib.Core.Logic.{◌≢◌, ◌⊎◌, inl, inr, ⊎_elim}
use mathlib.Core.List.{List}
use Prim.Native.Nat.{ℕ, zero, suc, ◌+◌, ◌*◌, ◌≤◌, ◌<◌}
use native.Mathlib.Omega.{arith}
use native.Mathlib.Numerals.{add-one}
use lib.ListN.{length, get_or, set, length-set}
use lib.Seq.{get_or-set_same, get_or-set_other}
use Rattle.words.specs.Cases.{lt_or_ge, same_or_not}
use Rattle.rings.specs.Parts.{part, part_at, elem_same}
use Rattle.best.specs.Kept.{Kept, kept_self, kept_set, kept_on}
use Rattle.best.specs.Listed.{some, none, some_to, place, Entry, Listed}

-- ---- 0 or not

pub some_zero : (x : ℕ) → x ≡ 0 → some x ≡ 0
unfolding some
some_zero x e = rw e refl

pub some_one : (x : ℕ) → x ≢ 0 → some x ≡ 1
unfolding some
some_one zero h = absurd (h refl)
some_one (suc x) h = refl

pub none_one : (x : ℕ) → x ≡ 0 → none x ≡ 1
unfolding none
none_one x e = rw e refl

pub none_zero : (x : ℕ) → x ≢ 0 → none x ≡ 0
unfolding none
none_zero zero h = absurd (h refl)
none_zero (suc x) h = refl

some_le : (x : ℕ) → some x ≤ 1
some_le x = ⊎_elim (λ e. omega (arith, some_zero x e)) (λ h. omega (arith, some_one x h)) (same_or_not x 0)

-- ---- how many are not 0

pub none_before : (free : List ℕ) → some_to free 0 ≡ 0
unfolding some_to
none_before free = refl

pub some_more : (free : List ℕ) (i : ℕ) → some_to free (i + 1) ≡ some_to free i + some (get_or free i 0)
unfolding some_to
some_more free i = rw add-one refl

pub some_few : (free : List ℕ) (i : ℕ) → some_to free i ≤ i
unfolding some_to
some_few free zero = omega arith
some_few free (suc i) = omega (arith, some_few free i, some_le (get_or free i 0))

-- a later word has a later place
pub place_later : (free : List ℕ) (x i : ℕ) → x < i → get_or free x 0 ≢ 0 → suc (some_to free x) ≤ some_to free i
unfolding some_to
place_later free x zero l h = absurd (omega arith)
place_later free x (suc i) l h =
    ⊎_elim
    (λ (b : x < i). omega (arith, place_later free x i b h))
    (λ (b : i ≤ x). let e : i ≡ x = omega arith in rw e (omega (arith, some_one (get_or free x 0) h)))
    (lt_or_ge x i)

-- the same place where none between is listed
pub place_same : (free : List ℕ) (x d : ℕ) → ((i : ℕ) → x ≤ i → i < x + d → get_or free i 0 ≡ 0) → some_to free (x + d) ≡ some_to free x
place_same free x zero z = let e : x + 0 ≡ x = omega arith in ap (some_to free) e
place_same free x (suc d) z =
    let e : x + suc d ≡ x + d + 1 = omega arith in
    ap (some_to free) e
    ∙ omega (arith, some_more free (x + d), some_zero (get_or free (x + d) 0) (z (x + d) (omega arith) (omega arith)), place_same free x d (λ i a l. z i a (omega arith)))

-- ---- the list

-- an entry that a store leaves
pub entry_kept : {free : List ℕ} {list i : ℕ} {work : List ℕ} (k v : ℕ) → k ≢ place free list i → k ≢ place free list i + 1 → Entry free list i work → Entry free list i (set work k v)
entry_kept {free} {list} {i} {work} k v a b e = record {
  word = get_or-set_other work k (place free list i) v 0 (λ x. a (sym x)) ∙ e.word;
  number = get_or-set_other work k (place free list i + 1) v 0 (λ x. b (sym x)) ∙ e.number;
}

pub listed_none : (free : List ℕ) (list : ℕ) (work : List ℕ) → Listed free list 0 work
listed_none free list work i l h = absurd (omega arith)

entry_new : (free : List ℕ) (list i : ℕ) (work : List ℕ) (c f : ℕ) → c ≡ place free list i → f ≡ get_or free i 0 → c + 1 < length work → Entry free list i (set (set work c f) (c + 1) i)
entry_new free list i work c f ec ef room = record {
  word = ap (λ (x : ℕ). get_or (set (set work c f) (c + 1) i) x 0) (sym ec) ∙ get_or-set_other (set work c f) (c + 1) c i 0 (omega arith) ∙ get_or-set_same work c f 0 (omega arith) ∙ ef;
  number = ap (λ (x : ℕ). get_or (set (set work c f) (c + 1) i) (x + 1) 0) (sym ec) ∙ get_or-set_same (set work c f) (c + 1) i 0 (rw (length-set work c f) room);
}

pub listed_more : {free : List ℕ} {list i : ℕ} {work : List ℕ} {c f : ℕ} → Listed free list i work → c ≡ place free list i → f ≡ get_or free i 0 → c + 1 < length work
    → Listed free list (i + 1) (set (set work c f) (c + 1) i)
listed_more {free} {list} {i} {work} {c} {f} known ec ef room x l h =
    ⊎_elim
    (λ (b : x < i).
    let p : suc (some_to free x) ≤ some_to free i = place_later free x i b h in
    entry_kept (c + 1) i (omega arith) (omega arith) (entry_kept c f (omega arith) (omega arith) (known x b h)))
    (λ (b : i ≤ x). let e : x ≡ i = omega arith in rw e (entry_new free list i work c f ec ef room))
    (lt_or_ge x i)

-- ---- the loop of `list_words`: the first i of the words work[to..to + bits] are listed, and the next goes to work[c]

pub record ListedTo (l : List ℕ) (to bits list i c : ℕ) (work : List ℕ) : Type 0 where
  pub le : i ≤ bits
  pub at : c ≡ place (part l to bits) list i
  pub listed : Listed (part l to bits) list i work
  pub kept : Kept list l work

pub to_none : (l : List ℕ) (to bits list : ℕ) → ListedTo l to bits list 0 list l
to_none l to bits list = record {
  le = omega arith;
  at = omega (arith, none_before (part l to bits));
  listed = listed_none (part l to bits) list l;
  kept = kept_self list l;
}

module _ {l : List ℕ} {to bits list i c : ℕ} {work : List ℕ} (t : ListedTo l to bits list i c work) (below : to + bits ≤ list) (room : list + 2 * bits ≤ length l) where
  pub to_room : i < bits → (list ≤ c) × (c + 1 < length work) × (to + i < length work)
  to_room h =
      (omega (arith, t.at), omega (arith, t.at, some_few (part l to bits) i, t.kept.len), omega (arith, t.kept.len))

  to_word : i < bits → get_or work (to + i) 0 ≡ get_or (part l to bits) i 0
  to_word h = elem_same work l list (to + i) (omega arith) t.kept.front ∙ sym (part_at l to bits i h)

  pub to_more : {s : ℕ} → i < bits → s ≡ some (get_or work (to + i) 0) → ListedTo l to bits list (i + 1) (c + 2 * s) (set (set work c (get_or work (to + i) 0)) (c + 1) i)
  to_more {s} h e = record {
    le = omega arith;
    at = omega (arith, t.at, e, ap some (to_word h), some_more (part l to bits) i);
    listed = listed_more t.listed t.at (to_word h) (to_room h).1;
    kept = kept_on t.kept (kept_on (kept_set list work c (get_or work (to + i) 0) (to_room h).0) (kept_set list (set work c (get_or work (to + i) 0)) (c + 1) i (omega (arith, (to_room h).0))));
  }

-- ---- the first word that is not 0

pub record First (free : List ℕ) (from n : ℕ) : Type 0 where
  pub x : ℕ
  pub ge : from ≤ x
  pub lt : x < n
  pub is : get_or free x 0 ≢ 0
  pub before : (i : ℕ) → from ≤ i → i < x → get_or free i 0 ≡ 0

-- among the d words from `from` on there is one, or all of them are 0
pub first_some : (free : List ℕ) (from d : ℕ) → First free from (from + d) ⊎ ((i : ℕ) → from ≤ i → i < from + d → get_or free i 0 ≡ 0)
first_some free from zero = inr (λ i a l. absurd (omega arith))
first_some free from (suc d) = ⊎_elim found none_yet (first_some free from d)
  where
    found : First free from (from + d) → First free from (from + suc d) ⊎ ((i : ℕ) → from ≤ i → i < from + suc d → get_or free i 0 ≡ 0)
    found f = inl (record { x = f.x; ge = f.ge; lt = omega (arith, f.lt); is = f.is; before = f.before })

    none_yet : ((i : ℕ) → from ≤ i → i < from + d → get_or free i 0 ≡ 0) → First free from (from + suc d) ⊎ ((i : ℕ) → from ≤ i → i < from + suc d → get_or free i 0 ≡ 0)
    none_yet z =
        ⊎_elim
        (λ (e : get_or free (from + d) 0 ≡ 0).
        inr (λ i a l. ⊎_elim (λ (b : i < from + d). z i a b) (λ (b : from + d ≤ i). let q : i ≡ from + d = omega arith in rw q e) (lt_or_ge i (from + d))))
        (λ (h : get_or free (from + d) 0 ≢ 0). inl (record { x = from + d; ge = omega arith; lt = omega arith; is = h; before = z }))
        (same_or_not (get_or free (from + d) 0) 0)
