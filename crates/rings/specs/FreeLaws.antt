-- What a barred, a used and a blocked rotation is: what the free words are made of.
-- Why: a word's bits are told one by one, and the ring's slots are told by the front of the list.
-- Assumes nothing.
use Rattle.std.specs.Prelude.{◌≡◌, refl, ◌≢◌, Bool, true, false, List, ℕ, zero, suc, ◌+◌, ◌*◌, ◌≤◌, ◌<◌, max, eqb, length, get_or, set, take, drop}
use Rattle.std.proofs.Common.{sym, ap, ap₂, ◌∙◌, ⊎_elim, arith, length-drop, get_or-take, eq-eqb, ne_eqb}
use Rattle.std.specs.Int.Count.{ones}
use Rattle.std.proofs.lemmas.List.{drop-set-add}
use Rattle.words.specs.Bit.{bit}
use Rattle.words.specs.BitLaws.{bit_zero, bit_suc, bit_of_zero}
use Rattle.words.specs.Cases.{lt_or_ge}
use Rattle.words.specs.Map.{ones_to}
use Rattle.words.specs.TallyLaws.{ones_to_set}
use Rattle.rings.specs.declared.Ring.{Ring}
use Rattle.rings.specs.Ring.{Shape, word_of, bit_of, ring_bit}
use Rattle.rings.specs.Keys.{slot_at, one, bar_bit, used_of}
use Rattle.rings.specs.Free.{Bar, Blocked}
use Rattle.rings.specs.RingLaws.{shape_pos, word_lt, ring_bit_lt}

-- ---- the barred rotation

pub bar_layout : (g : Ring) (r w : ℕ) → r ≢ 0 → Bar g r w 0
unfolding bar_bit
bar_layout g r w h = record { at = λ j l. rw (ne_eqb r 0 h) (bit_of_zero j) }

pub bar_word : (g : Ring) (r w : ℕ) → w ≢ 0 → Bar g r w 0
unfolding bar_bit
bar_word g r w h = record { at = λ j l. rw (ne_eqb (64 * w + j) 0 (λ e. h (omega arith))) (bit_of_zero j ∙ sym (off (eqb r 0))) }
  where
    off : (b : Bool) → one b 0 ≡ 0
    off true = refl
    off false = refl

pub bar_ring : (g : Ring) → (g.n ≡ g.rotations → ⊥) → Bar g 0 0 0
unfolding bar_bit
bar_ring g h = record { at = λ j l. rw (ne_eqb g.n g.rotations h) (bit_of_zero j ∙ sym (off (eqb (64 * 0 + j) 0))) }
  where
    off : (a : Bool) → one a 0 ≡ 0
    off true = refl
    off false = refl

pub bar_yes : (g : Ring) → g.n ≡ g.rotations → Bar g 0 0 1
unfolding bar_bit
bar_yes g hn = record { at = λ j l. rw (eq-eqb g.n g.rotations hn) (go j) }
  where
    go : (j : ℕ) → bit 1 j ≡ one (eqb (64 * 0 + j) 0) 1
    go zero = bit_zero 1
    go (suc j) = rw (ne_eqb (64 * 0 + suc j) 0 (omega arith)) (bit_suc 1 j ∙ bit_of_zero j)

-- ---- the keys of a layout, one after the other

pub blocked_none : {g : Ring} (used keys : List ℕ) (start : ℕ) {r w x : ℕ} → Bar g r w x → Blocked g used keys start r w 0 x
unfolding used_of
blocked_none used keys start b = record { at = λ j h hj. rw (b.at j h) (omega arith) }

-- `used_of` is 1 iff one of the keys has its slot used
pub used_lt : (g : Ring) (used keys : List ℕ) (start rot i : ℕ) → used_of g used keys start rot i < 2
unfolding used_of
used_lt g used keys start rot zero = omega arith
used_lt g used keys start rot (suc i) = omega (arith, used_lt g used keys start rot i, ring_bit_lt g.t g.words used (slot_at g start (get_or keys i 0) rot))

pub used_has : (g : Ring) (used keys : List ℕ) (start rot i m : ℕ) → m < i → ring_bit g.t g.words used (slot_at g start (get_or keys m 0) rot) ≡ 1
    → used_of g used keys start rot i ≡ 1
unfolding used_of
used_has g used keys start rot zero m h e = absurd (omega arith)
used_has g used keys start rot (suc i) m h e =
    ⊎_elim
    (λ (l : m < i). omega (arith, used_has g used keys start rot i m l e, ring_bit_lt g.t g.words used (slot_at g start (get_or keys i 0) rot)))
    (λ (l : i ≤ m).
    let x : i ≡ m = omega arith in
    rw x (omega (arith, e, used_lt g used keys start rot m)))
    (lt_or_ge m i)

pub used_none : (g : Ring) (used keys : List ℕ) (start rot i m : ℕ) → m < i → used_of g used keys start rot i ≡ 0
    → ring_bit g.t g.words used (slot_at g start (get_or keys m 0) rot) ≡ 0
used_none g used keys start rot i m h e =
    ⊎_elim
    (λ (l : ring_bit g.t g.words used (slot_at g start (get_or keys m 0) rot) < 1). omega arith)
    (λ (l : 1 ≤ ring_bit g.t g.words used (slot_at g start (get_or keys m 0) rot)).
    absurd (omega (arith, used_has g used keys start rot i m h (omega (arith, ring_bit_lt g.t g.words used (slot_at g start (get_or keys m 0) rot))))))
    (lt_or_ge (ring_bit g.t g.words used (slot_at g start (get_or keys m 0) rot)) 1)

-- ---- the ring is the front of the list

pub ring_front : (g : Ring) → Shape g → (l : List ℕ) (q : ℕ) → ring_bit g.t g.words (take g.words l) q ≡ ring_bit g.t g.words l q
unfolding ring_bit
ring_front g s l q = ap (λ (x : ℕ). bit x (bit_of g.t q)) (get_or-take g.words l (word_of g.t g.words q) 0 (word_lt g.t g.words q (shape_pos g s)))

pub used_front : (g : Ring) → Shape g → (l keys : List ℕ) (start rot i : ℕ) → used_of g (take g.words l) keys start rot i ≡ used_of g l keys start rot i
unfolding used_of
used_front g s l keys start rot zero = refl
used_front g s l keys start rot (suc i) = ap₂ (λ (x y : ℕ). max x y) (used_front g s l keys start rot i) (ring_front g s l _)

-- the ring's slots are told by the list's front
pub used_same : (g : Ring) → Shape g → (l l' keys : List ℕ) (start rot i : ℕ) → take g.words l ≡ take g.words l' → used_of g l keys start rot i ≡ used_of g l' keys start rot i
used_same g s l l' keys start rot i e =
    sym (used_front g s l keys start rot i) ∙ ap (λ (x : List ℕ). used_of g x keys start rot i) e ∙ used_front g s l' keys start rot i

-- ---- the set bits of words from a place on

pub ones_next : (l : List ℕ) (at k v : ℕ) → at + k < length l → ones_to (drop at (set l (at + k) v)) (k + 1) ≡ ones_to (drop at l) k + ones v
ones_next l at k v h = rw (drop-set-add at l k v) (ones_to_set (drop at l) k v (rw (length-drop at l) (omega arith)))
