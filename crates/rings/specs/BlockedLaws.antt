-- The free words while they are filled, step by step, and that they are the free rotations at the end.
-- Why: a word is the bar and the rows of its layout's keys, each or-ed in once, and the words stand above all that is read.
-- Assumes nothing.
use Rattle.std.specs.Prelude.{◌≡◌, refl, ◌⊎◌, List, ℕ, zero, suc, ◌+◌, ◌-◌, ◌*◌, ◌%◌, ◌^◌, ◌≤◌, ◌<◌, length, get_or, set, take, drop}
use Rattle.std.proofs.Common.{sym, ap, ap₂, ◌∙◌, ⊎_elim, arith, mul-le-mul_right, add-one, length-set, get_or-set_same, get_or-set_other}
use Rattle.std.proofs.Math.Arith.{digits_lt}
use Rattle.std.specs.Int.Bits.{bit_and, bit_or}
use Rattle.std.specs.Int.Count.{ones}
use Rattle.std.proofs.lemmas.Nat.{ones-le}
use Rattle.words.specs.BitLaws.{bit_and_lem, bit_or_lem, bit_not}
use Rattle.words.specs.ShiftLaws.{one_shl, bit_mask, bit_mask_high}
use Rattle.words.specs.Cases.{lt_or_ge}
use Rattle.words.specs.TallyLaws.{ones_to_zero}
use Rattle.rings.specs.declared.Ring.{Ring}
use Rattle.rings.specs.Ring.{Shape, ring_bit}
use Rattle.rings.specs.Keys.{KeyRow, used_of, free_at}
use Rattle.rings.specs.Parts.{part, length_part, front_same, elem_same, front_set}
use Rattle.rings.specs.Free.{Bar, Blocked, FreeWord, FilledTo}
use Rattle.rings.specs.Blocked.{Within, Cleared, BegunFree, Own, Flipped, TurnedOver, FinishedFree, Added, BlockedAll}
use Rattle.rings.specs.FreeLaws.{bar_layout, bar_word, blocked_none, ring_front, used_same, ones_next}

-- ---- lists that differ in a stretch of words alone

pub within_none : (l : List ℕ) (to words : ℕ) → Within l to words l
within_none l to words = record { front = refl; len = refl; after = λ k h. refl }

pub within_then : {l l' l'' : List ℕ} {to words : ℕ} → Within l to words l' → Within l' to words l'' → Within l to words l''
within_then a b = record { front = b.front ∙ a.front; len = b.len ∙ a.len; after = λ k h. b.after k h ∙ a.after k h }

-- a stretch inside another
pub within_wider : {l l' : List ℕ} {to words : ℕ} (to' words' : ℕ) → to' ≤ to → to + words ≤ to' + words' → Within l to words l' → Within l to' words' l'
within_wider {l} {l'} {to} {words} to' words' h hw a = record {
  front = front_same l' l to to' h a.front;
  len = a.len;
  after = λ k hk. a.after k (omega arith);
}

pub within_set : {l l' : List ℕ} {to words : ℕ} (i v : ℕ) → to ≤ i → i < to + words → Within l to words l' → Within l to words (set l' i v)
within_set {l} {l'} {to} {words} i v h hi a = record {
  front = front_set to l' i v h ∙ a.front;
  len = length-set l' i v ∙ a.len;
  after = λ k hk. get_or-set_other l' i k v 0 (omega arith) ∙ a.after k hk;
}

-- what stands outside of the stretch
pub within_other : {l l' : List ℕ} {to words : ℕ} → Within l to words l' → (k : ℕ) → (k < to) ⊎ (to + words ≤ k) → get_or l' k 0 ≡ get_or l k 0
within_other {l} {l'} {to} {words} a k h = ⊎_elim (λ (b : k < to). elem_same l' l to k b a.front) (λ (b : to + words ≤ k). a.after k b) h

-- ---- the beginning

-- a word of a layout, and where it stands
pub word_in : (layouts count q k : ℕ) → q < layouts → k < count → q * count + k < layouts * count
word_in layouts count q k hq hk = digits_lt hq hk

pub begun_empty : (g : Ring) {l l' : List ℕ} {to layouts count : ℕ} → layouts * count ≡ 0 → Cleared l to (layouts * count) l' → BegunFree g l to layouts count l'
begun_empty g {l} {l'} {to} {layouts} {count} z a = record {
  within = a.within;
  words = λ q k hq hk. absurd (omega (arith, word_in layouts count q k hq hk));
}

pub begun : {g : Ring} {l l' : List ℕ} {to layouts count x : ℕ} → 0 < layouts * count → to + layouts * count ≤ length l → Bar g 0 0 x → Cleared l to (layouts * count) l'
    → BegunFree g l to layouts count (set l' to x)
begun {g} {l} {l'} {to} {layouts} {count} {x} pos fits b a = record {
  within = within_set to x (omega arith) (omega arith) a.within;
  words = word;
}
  where
    other : (q k : ℕ) → q < layouts → k < count → 0 < q * count + k → get_or (set l' to x) (to + q * count + k) 0 ≡ 0
    other q k hq hk h =
        let e : to + q * count + k ≡ to + (q * count + k) = omega arith in
        rw e (get_or-set_other l' to (to + (q * count + k)) x 0 (omega arith) ∙ a.zero (q * count + k) (word_in layouts count q k hq hk))

    word : (q k : ℕ) → q < layouts → k < count → Bar g q k (get_or (set l' to x) (to + q * count + k) 0)
    word zero zero hq hk =
        let e : to + 0 * count + 0 ≡ to = omega arith in
        rw (e, get_or-set_same l' to x 0 (omega (arith, a.within.len))) b
    word zero (suc k) hq hk = rw (other 0 (suc k) hq hk (omega arith)) (bar_word g 0 (suc k) (omega arith))
    word (suc q) k hq hk = rw (other (suc q) k hq hk (omega (arith, one))) (bar_layout g (suc q) k (omega arith))
      where
        one : suc q * count ≡ q * count + count
        one = omega arith

pub begun_blocked : {g : Ring} {l now : List ℕ} {to layouts count : ℕ} (used : List ℕ) (keys_of : ℕ → List ℕ) (start : ℕ) → BegunFree g l to layouts count now
    → BlockedAll g used keys_of start to count layouts 0 now
begun_blocked used keys_of start a = record { at = λ q k hq hk. blocked_none used (keys_of q) start (a.words q k hq hk) }

-- ---- one key more

-- the ring is the front of the list
pub ring_same : (g : Ring) → Shape g → (l l' : List ℕ) → take g.words l ≡ take g.words l' → (q : ℕ) → ring_bit g.t g.words l q ≡ ring_bit g.t g.words l' q
ring_same g s l l' e q = sym (ring_front g s l q) ∙ ap (λ (x : List ℕ). ring_bit g.t g.words x q) e ∙ ring_front g s l' q

pub added : {g : Ring} {used : List ℕ} {d start w y : ℕ} (x : ℕ) → KeyRow g used d start w y → Added g used d start w x (bit_or x y)
added {g} {used} {d} {start} {w} {y} x a = record { at = λ j h hj. rw (bit_or_lem, a.at j h hj) refl }

pub blocked_added : {g : Ring} {used keys : List ℕ} {start r w i x z : ℕ} → Blocked g used keys start r w i x → Added g used (get_or keys i 0) start w x z → Blocked g used keys start r w (i + 1) z
unfolding used_of
blocked_added a b = record { at = λ j h hj. rw (b.at j h hj, a.at j h hj, add-one) (omega arith) }

-- ---- the end

pub own_short : (n : ℕ) → n < 64 → Own n (1 * 2 ^ n % 2 ^ 64 - 1)
own_short n h = record { at = λ j h64 hj. rw (one_shl 64 n h) (bit_mask n j hj); past = λ j h64 hj. rw (one_shl 64 n h) (bit_mask_high n j hj) }

pub own_long : (n : ℕ) → 64 ≤ n → Own n (2 ^ 64 - 1)
own_long n h = record { at = λ j h64 hj. bit_mask 64 j h64; past = λ j h64 hj. absurd (omega arith) }

pub over_none : (l : List ℕ) (to own : ℕ) → TurnedOver l to 0 own 0 l
over_none l to own = record { within = within_none l to 0; over = λ k h. absurd (omega arith); sum = sym (ones_to_zero (drop to l)); most = omega arith }

pub over_more : {l l' : List ℕ} {to i own total f n : ℕ} → to + i < length l → TurnedOver l to i own total l' → f ≡ bit_and (2 ^ 64 - 1 - get_or l' (to + i) 0) own → f < 2 ^ 64 → n ≡ ones f
    → TurnedOver l to (i + 1) own (total + n) (set l' (to + i) f)
over_more {l} {l'} {to} {i} {own} {total} {f} {n} lt a new small e = record {
  within = within_set (to + i) f (omega arith) (omega arith) (within_wider to (i + 1) (omega arith) (omega arith) a.within);
  over = λ k h. ⊎_elim
      (λ (b : k < i). get_or-set_other l' (to + i) (to + k) f 0 (omega arith) ∙ a.over k b)
      (λ (b : i ≤ k).
      let x : k ≡ i = omega arith in
      rw (x, get_or-set_same l' (to + i) f 0 (omega (arith, a.within.len)), ← a.within.after (to + i) (omega arith)) new)
      (lt_or_ge k i);
  sum = sym (ones_next l' to i f (omega (arith, a.within.len)) ∙ ap₂ (λ (x y : ℕ). x + y) (sym a.sum) (sym e));
  most = omega (arith, a.most, ones-le 64 f small);
}

flipped : (g : Ring) {own : ℕ} (x : ℕ) → x < 2 ^ 64 → Own g.n own → Flipped g x (bit_and (2 ^ 64 - 1 - x) own)
flipped g {own} x small o = record {
  at = λ j h hj. bit_and_lem (2 ^ 64 - 1 - x) own j ∙ rw (o.at j h hj, bit_not 64 x j small h) (omega arith);
  past = λ j h hj. bit_and_lem (2 ^ 64 - 1 - x) own j ∙ rw (o.past j h hj) (omega arith);
}

pub finished : {g : Ring} {l now : List ℕ} {to words own total : ℕ} → ((k : ℕ) → get_or l k 0 < 2 ^ 64) → Own g.n own → TurnedOver l to words own total now → FinishedFree g l to words total now
finished {g} {l} {now} {to} {words} {own} {total} small o a = record {
  within = a.within;
  flipped = λ k h. rw (a.over k h) (flipped g (get_or l (to + k) 0) (small (to + k)) o);
  sum = a.sum;
  most = a.most;
}

-- the complement of what all keys block
free_flipped : {g : Ring} → Shape g → {used filled keys : List ℕ} {start r w x f : ℕ} → take g.words used ≡ take g.words filled → Blocked g used keys start r w (length keys) x → Flipped g x f
    → FreeWord g filled keys start r w f
unfolding free_at
free_flipped {g} s {used} {filled} {keys} {start} {r} {w} {x} {f} e b a = record {
  at = λ j h hj. a.at j h hj ∙ rw (b.at j h hj, used_same g s used filled keys start (64 * w + j) (length keys) e) refl;
  past = λ j h hj. a.past j h hj;
}

-- `filled` is the list with the keys in and the free words not yet: it differs from l in the free words alone
pub filled_all : {g : Ring} → Shape g → {used : List ℕ} {keys_of : ℕ → List ℕ} (filled : List ℕ) (at : ℕ) {size start to count layouts total : ℕ} {l now : List ℕ}
    → BlockedAll g used keys_of start to count layouts size l → FinishedFree g l to (layouts * count) total now
    → take g.words used ≡ take g.words filled → Within filled to (layouts * count) l
    → at + layouts * size ≤ length filled → ((q : ℕ) → q < layouts → keys_of q ≡ part filled (at + q * size) size)
    → FilledTo g filled at size start to count layouts total now
filled_all {g} s {used} {keys_of} filled at {size} {start} {to} {count} {layouts} {total} {l} {now} b f ring w fits keys =
    let t : Within filled to (layouts * count) now = within_then w f.within in
    record {
      front = t.front;
      len = t.len;
      words = word;
      sum = f.sum;
      most = f.most;
      after = t.after;
    }
  where
    more : (q : ℕ) → suc q * size ≡ q * size + size
    more q = omega arith

    size_of : (q : ℕ) → q < layouts → length (part filled (at + q * size) size) ≡ size
    size_of q hq = length_part filled (at + q * size) size (omega (arith, mul-le-mul_right size hq, more q))

    word : (q k : ℕ) → q < layouts → k < count → FreeWord g filled (part filled (at + q * size) size) start q k (get_or now (to + q * count + k) 0)
    word q k hq hk =
        let e : to + q * count + k ≡ to + (q * count + k) = omega arith in
        free_flipped s {x = get_or l (to + q * count + k) 0} ring
        (rw (← keys q hq, size_of' q hq) (b.at q k hq hk))
        (rw e (f.flipped (q * count + k) (word_in layouts count q k hq hk)))
      where
        size_of' : (q : ℕ) → q < layouts → length (keys_of q) ≡ size
        size_of' q hq = rw (keys q hq) (size_of q hq)
