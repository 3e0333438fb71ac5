-- What a mark and a clearing do to a list of words: to the slot itself, to every other slot, to the length, the words' width and the parts of the list; lists with the same slots are the same.
-- Why: they store one word, in which one bit changes (`put`, `wipe`, `flip` of BitLaws). Told first by word and bit, for any layout of slots, then by slot.
-- Assumes nothing.
use Rattle.std.specs.Prelude.{◌≡◌, ◌≢◌, ◌⊎◌, List, not, ℕ, ◌+◌, ◌-◌, ◌*◌, ◌/◌, ◌%◌, ◌^◌, ◌≤◌, ◌<◌, eqb, get_or, take, drop, replicate}
use Rattle.std.proofs.Math.Path.{refl, ap}
use Rattle.std.proofs.Common.{sym, ap₂, ◌∙◌, arith, get_or-set_same, get_or-set_other, get_or-take, get_or-drop, ext_get_or}
use Rattle.std.proofs.Math.Logic.{⊎_elim}
use Rattle.std.specs.Int.Bits.{bit_and, bit_or, bit_xor}
use Rattle.std.proofs.Math.ListN.{length, set, length-set, get_or-eq_default}
use Rattle.std.proofs.lemmas.List.{length-replicate, get_or-replicate, set-get_or}
use Rattle.std.proofs.Math.Seq.{set-set, set_out, take-set-le, take-set-lt, drop-set-lt}
use Rattle.words.specs.Bit.{bit}
use Rattle.words.specs.Map.{Words, slot, marked_at, cleared_at, marked, cleared}
use Rattle.words.specs.Cases.{lt_or_ge, same_or_not}
use Rattle.words.specs.BitLaws.{bit_lt, bit_cases, bit_of_zero, bit_test, bit_ext, put_same, put_other, put_lt, put_again, wipe_same, wipe_other, wipe_lt, wipe_again, wipe_put, put_wipe, flip_wipe}
use Rattle.words.specs.ShiftLaws.{one_shl}

-- ---- a store into word w

-- past the last word all is 0
pub word_past : (ws : List ℕ) (w : ℕ) → length ws ≤ w → get_or ws w 0 ≡ 0
word_past ws w h = get_or-eq_default ws 0 h

module _ (ws : List ℕ) (w v : ℕ) where
  -- a bit that the store leaves
  pub set_other : (x j : ℕ) → (x ≡ w → bit v j ≡ bit (get_or ws w 0) j) → bit (get_or (set ws w v) x 0) j ≡ bit (get_or ws x 0) j
  set_other x j h =
      ⊎_elim
      (λ (e : x ≡ w).
      ⊎_elim
      (λ (l : w < length ws). rw (e, get_or-set_same ws w v 0 l) (h e))
      (λ (g : length ws ≤ w). rw (set_out ws w v g) refl)
      (lt_or_ge w (length ws)))
      (λ n. rw (get_or-set_other ws w x v 0 n) refl)
      (same_or_not x w)

  pub set_words : Words ws → v < 2 ^ 64 → Words (set ws w v)
  set_words f h k =
      ⊎_elim
      (λ (e : k ≡ w).
      ⊎_elim
      (λ (l : w < length ws). rw (e, get_or-set_same ws w v 0 l) h)
      (λ (g : length ws ≤ w). rw (set_out ws w v g) (f k))
      (lt_or_ge w (length ws)))
      (λ n. rw (get_or-set_other ws w k v 0 n) (f k))
      (same_or_not k w)

-- ---- bit i of word w set

module _ (ws : List ℕ) (w i : ℕ) where
  pub length_marked_at : length (marked_at ws w i) ≡ length ws
  unfolding marked_at
  length_marked_at = length-set ws w (bit_or (get_or ws w 0) (2 ^ i))

  pub marked_at_same : w < length ws → bit (get_or (marked_at ws w i) w 0) i ≡ 1
  unfolding marked_at
  marked_at_same h = rw (get_or-set_same ws w (bit_or (get_or ws w 0) (2 ^ i)) 0 h) (put_same (get_or ws w 0) i)

  pub marked_at_other : (x j : ℕ) → (x ≡ w → j ≡ i → ⊥) → bit (get_or (marked_at ws w i) x 0) j ≡ bit (get_or ws x 0) j
  unfolding marked_at
  marked_at_other x j n = set_other ws w (bit_or (get_or ws w 0) (2 ^ i)) x j (λ e. put_other (get_or ws w 0) i j (n e))

  pub marked_at_words : i < 64 → Words ws → Words (marked_at ws w i)
  unfolding marked_at
  marked_at_words h f = set_words ws w (bit_or (get_or ws w 0) (2 ^ i)) f (put_lt 64 (get_or ws w 0) i (f w) h)

  -- set already
  pub marked_at_again : bit (get_or ws w 0) i ≡ 1 → marked_at ws w i ≡ ws
  unfolding marked_at
  marked_at_again o = rw (put_again (get_or ws w 0) i o) (set-get_or ws w 0)

  -- the parts of the list below and above the word stay
  pub take_marked_at : (m : ℕ) → m ≤ w → take m (marked_at ws w i) ≡ take m ws
  unfolding marked_at
  take_marked_at m h = take-set-le m ws w (bit_or (get_or ws w 0) (2 ^ i)) h

  -- and the part that has the word is marked itself
  pub front_marked_at : (m : ℕ) → w < m → take m (marked_at ws w i) ≡ marked_at (take m ws) w i
  unfolding marked_at
  front_marked_at m h =
      take-set-lt m ws w (bit_or (get_or ws w 0) (2 ^ i)) h
      ∙ ap (λ (x : ℕ). set (take m ws) w (bit_or x (2 ^ i))) (sym (get_or-take m ws w 0 h))

  pub drop_marked_at : (m : ℕ) → w < m → drop m (marked_at ws w i) ≡ drop m ws
  unfolding marked_at
  drop_marked_at m h = drop-set-lt m ws w (bit_or (get_or ws w 0) (2 ^ i)) h

  -- `ws[w] |= 1 << i`
  pub mark_code : i < 64 → set ws w (bit_or (get_or ws w 0) (1 * 2 ^ i % 2 ^ 64)) ≡ marked_at ws w i
  unfolding marked_at
  mark_code h = rw (one_shl 64 i h) refl

  -- ---- bit i of word w cleared

  pub length_cleared_at : length (cleared_at ws w i) ≡ length ws
  unfolding cleared_at
  length_cleared_at = length-set ws w (bit_and (get_or ws w 0) ((2 ^ 64 - 1) - 2 ^ i))

  pub cleared_at_same : i < 64 → bit (get_or (cleared_at ws w i) w 0) i ≡ 0
  unfolding cleared_at
  cleared_at_same h =
      ⊎_elim
      (λ (l : w < length ws). rw (get_or-set_same ws w (bit_and (get_or ws w 0) ((2 ^ 64 - 1) - 2 ^ i)) 0 l) (wipe_same 64 (get_or ws w 0) i h))
      (λ (g : length ws ≤ w). rw (set_out ws w (bit_and (get_or ws w 0) ((2 ^ 64 - 1) - 2 ^ i)) g, word_past ws w g) (bit_of_zero i))
      (lt_or_ge w (length ws))

  pub cleared_at_other : (x j : ℕ) → i < 64 → j < 64 → (x ≡ w → j ≡ i → ⊥) → bit (get_or (cleared_at ws w i) x 0) j ≡ bit (get_or ws x 0) j
  unfolding cleared_at
  cleared_at_other x j h l n =
      set_other ws w (bit_and (get_or ws w 0) ((2 ^ 64 - 1) - 2 ^ i)) x j (λ e. wipe_other 64 (get_or ws w 0) i j h l (n e))

  pub cleared_at_words : Words ws → Words (cleared_at ws w i)
  unfolding cleared_at
  cleared_at_words f = set_words ws w (bit_and (get_or ws w 0) ((2 ^ 64 - 1) - 2 ^ i)) f (wipe_lt 64 (get_or ws w 0) i)

  -- not set
  pub cleared_at_again : i < 64 → get_or ws w 0 < 2 ^ 64 → bit (get_or ws w 0) i ≡ 0 → cleared_at ws w i ≡ ws
  unfolding cleared_at
  cleared_at_again h f z = rw (wipe_again 64 (get_or ws w 0) i f h z) (set-get_or ws w 0)

  pub take_cleared_at : (m : ℕ) → m ≤ w → take m (cleared_at ws w i) ≡ take m ws
  unfolding cleared_at
  take_cleared_at m h = take-set-le m ws w (bit_and (get_or ws w 0) ((2 ^ 64 - 1) - 2 ^ i)) h

  pub front_cleared_at : (m : ℕ) → w < m → take m (cleared_at ws w i) ≡ cleared_at (take m ws) w i
  unfolding cleared_at
  front_cleared_at m h =
      take-set-lt m ws w (bit_and (get_or ws w 0) ((2 ^ 64 - 1) - 2 ^ i)) h
      ∙ ap (λ (x : ℕ). set (take m ws) w (bit_and x ((2 ^ 64 - 1) - 2 ^ i))) (sym (get_or-take m ws w 0 h))

  pub drop_cleared_at : (m : ℕ) → w < m → drop m (cleared_at ws w i) ≡ drop m ws
  unfolding cleared_at
  drop_cleared_at m h = drop-set-lt m ws w (bit_and (get_or ws w 0) ((2 ^ 64 - 1) - 2 ^ i)) h

  -- `ws[w] &= !(1 << i)`
  pub clear_code : i < 64 → set ws w (bit_and (get_or ws w 0) ((2 ^ 64 - 1) - 1 * 2 ^ i % 2 ^ 64)) ≡ cleared_at ws w i
  unfolding cleared_at
  clear_code h = rw (one_shl 64 i h) refl

  -- `ws[w] ^= 1 << i` of a set bit
  pub flip_code : i < 64 → get_or ws w 0 < 2 ^ 64 → bit (get_or ws w 0) i ≡ 1 → set ws w (bit_xor (get_or ws w 0) (1 * 2 ^ i % 2 ^ 64)) ≡ cleared_at ws w i
  unfolding cleared_at
  flip_code h f o = rw (one_shl 64 i h, flip_wipe 64 (get_or ws w 0) i f h o) refl

  -- ---- set and taken back, and the other way round

  pub cleared_at_marked_at : w < length ws → i < 64 → get_or ws w 0 < 2 ^ 64 → bit (get_or ws w 0) i ≡ 0 → cleared_at (marked_at ws w i) w i ≡ ws
  unfolding cleared_at marked_at
  cleared_at_marked_at l h f z =
      rw (get_or-set_same ws w (bit_or (get_or ws w 0) (2 ^ i)) 0 l, set-set, wipe_put 64 (get_or ws w 0) i f h z) (set-get_or ws w 0)

  pub marked_at_cleared_at : w < length ws → i < 64 → get_or ws w 0 < 2 ^ 64 → bit (get_or ws w 0) i ≡ 1 → marked_at (cleared_at ws w i) w i ≡ ws
  unfolding cleared_at marked_at
  marked_at_cleared_at l h f o =
      rw (get_or-set_same ws w (bit_and (get_or ws w 0) ((2 ^ 64 - 1) - 2 ^ i)) 0 l, set-set, put_wipe 64 (get_or ws w 0) i f h o) (set-get_or ws w 0)

-- ---- slots

pub slot_lt : (ws : List ℕ) (p : ℕ) → slot ws p < 2
unfolding slot
slot_lt ws p = bit_lt (get_or ws (p / 64) 0) (p % 64)

pub slot_cases : (ws : List ℕ) (p : ℕ) → (slot ws p ≡ 0) ⊎ (slot ws p ≡ 1)
unfolding slot
slot_cases ws p = bit_cases (get_or ws (p / 64) 0) (p % 64)

-- by word and bit
pub slot_at : (ws : List ℕ) (w i : ℕ) → i < 64 → slot ws (w * 64 + i) ≡ bit (get_or ws w 0) i
unfolding slot
slot_at ws w i h =
    let q : (w * 64 + i) / 64 ≡ w = omega arith in
    let r : (w * 64 + i) % 64 ≡ i = omega arith in
    ap₂ (λ (x y : ℕ). bit (get_or ws x 0) y) q r

pub slot_past : (ws : List ℕ) (p : ℕ) → 64 * length ws ≤ p → slot ws p ≡ 0
unfolding slot
slot_past ws p h = rw (word_past ws (p / 64) (omega arith)) (bit_of_zero (p % 64))

-- the slots of a word that is 0
pub slot_empty : (ws : List ℕ) (p : ℕ) → get_or ws (p / 64) 0 ≡ 0 → slot ws p ≡ 0
unfolding slot
slot_empty ws p z = rw z (bit_of_zero (p % 64))

pub slot_replicate : (n p : ℕ) → slot (replicate n 0) p ≡ 0
slot_replicate n p =
    ⊎_elim
    (λ (l : p / 64 < n). slot_empty (replicate n 0) p (get_or-replicate n (p / 64) 0 0 l))
    (λ (g : n ≤ p / 64). slot_past (replicate n 0) p (omega (arith, length-replicate {A = ℕ} n 0)))
    (lt_or_ge (p / 64) n)

-- the slots of a part of the list
pub slot_take : (ws : List ℕ) (n p : ℕ) → p < 64 * n → slot (take n ws) p ≡ slot ws p
unfolding slot
slot_take ws n p h = rw (get_or-take n ws (p / 64) 0 (omega arith)) refl

pub slot_drop : (ws : List ℕ) (n p : ℕ) → slot (drop n ws) p ≡ slot ws (64 * n + p)
unfolding slot
slot_drop ws n p =
    let q : (64 * n + p) / 64 ≡ n + p / 64 = omega arith in
    let r : (64 * n + p) % 64 ≡ p % 64 = omega arith in
    rw (get_or-drop n ws (p / 64) 0, q, r) refl

pub slot_part : (ws : List ℕ) (a k p : ℕ) → p < 64 * k → slot (take k (drop a ws)) p ≡ slot ws (64 * a + p)
slot_part ws a k p h = slot_take (drop a ws) k p h ∙ slot_drop ws a p

-- a store of a word
pub slot_set_same : (ws : List ℕ) (w v p : ℕ) → w < length ws → p / 64 ≡ w → slot (set ws w v) p ≡ bit v (p % 64)
unfolding slot
slot_set_same ws w v p h e = rw (e, get_or-set_same ws w v 0 h) refl

pub slot_set_other : (ws : List ℕ) (w v p : ℕ) → p / 64 ≢ w → slot (set ws w v) p ≡ slot ws p
unfolding slot
slot_set_other ws w v p n = rw (get_or-set_other ws w (p / 64) v 0 n) refl

-- lists with the same slots are the same
pub slot_ext : (ws vs : List ℕ) → length ws ≡ length vs → Words ws → Words vs → ((p : ℕ) → p < 64 * length ws → slot ws p ≡ slot vs p) → ws ≡ vs
slot_ext ws vs l f g h =
    ext_get_or 0 ws vs l
    (λ w hw. bit_ext 64 (get_or ws w 0) (get_or vs w 0) (f w) (g w) (λ i hi. sym (slot_at ws w i hi) ∙ h (w * 64 + i) (omega arith) ∙ slot_at vs w i hi))

-- `ws[p / 64] >> p % 64 & 1 != 0`
pub test_slot : (ws : List ℕ) (p : ℕ) → not (eqb (bit_and (get_or ws (p / 64) 0 / 2 ^ (p % 64)) 1) 0) ≡ eqb (slot ws p) 1
unfolding slot
test_slot ws p = bit_test (get_or ws (p / 64) 0) (p % 64)

-- ---- slot p marked or cleared

module _ (ws : List ℕ) (p : ℕ) where
  pub length_marked : length (marked ws p) ≡ length ws
  unfolding marked
  length_marked = length_marked_at ws (p / 64) (p % 64)

  pub marked_same : p < 64 * length ws → slot (marked ws p) p ≡ 1
  unfolding slot marked
  marked_same h = marked_at_same ws (p / 64) (p % 64) (omega arith)

  pub marked_other : (q : ℕ) → q ≢ p → slot (marked ws p) q ≡ slot ws q
  unfolding slot marked
  marked_other q n = marked_at_other ws (p / 64) (p % 64) (q / 64) (q % 64) (λ e d. n (omega arith))

  pub marked_words : Words ws → Words (marked ws p)
  unfolding marked
  marked_words f = marked_at_words ws (p / 64) (p % 64) (omega arith) f

  -- marked already
  pub marked_again : slot ws p ≡ 1 → marked ws p ≡ ws
  unfolding slot marked
  marked_again o = marked_at_again ws (p / 64) (p % 64) o

  pub take_marked : (m : ℕ) → 64 * m ≤ p → take m (marked ws p) ≡ take m ws
  unfolding marked
  take_marked m h = take_marked_at ws (p / 64) (p % 64) m (omega arith)

  pub drop_marked : (m : ℕ) → p < 64 * m → drop m (marked ws p) ≡ drop m ws
  unfolding marked
  drop_marked m h = drop_marked_at ws (p / 64) (p % 64) m (omega arith)

  pub length_cleared : length (cleared ws p) ≡ length ws
  unfolding cleared
  length_cleared = length_cleared_at ws (p / 64) (p % 64)

  pub cleared_same : slot (cleared ws p) p ≡ 0
  unfolding slot cleared
  cleared_same = cleared_at_same ws (p / 64) (p % 64) (omega arith)

  pub cleared_other : (q : ℕ) → q ≢ p → slot (cleared ws p) q ≡ slot ws q
  unfolding slot cleared
  cleared_other q n = cleared_at_other ws (p / 64) (p % 64) (q / 64) (q % 64) (omega arith) (omega arith) (λ e d. n (omega arith))

  pub cleared_words : Words ws → Words (cleared ws p)
  unfolding cleared
  cleared_words f = cleared_at_words ws (p / 64) (p % 64) f

  -- free already
  pub cleared_again : get_or ws (p / 64) 0 < 2 ^ 64 → slot ws p ≡ 0 → cleared ws p ≡ ws
  unfolding slot cleared
  cleared_again f z = cleared_at_again ws (p / 64) (p % 64) (omega arith) f z

  pub take_cleared : (m : ℕ) → 64 * m ≤ p → take m (cleared ws p) ≡ take m ws
  unfolding cleared
  take_cleared m h = take_cleared_at ws (p / 64) (p % 64) m (omega arith)

  pub drop_cleared : (m : ℕ) → p < 64 * m → drop m (cleared ws p) ≡ drop m ws
  unfolding cleared
  drop_cleared m h = drop_cleared_at ws (p / 64) (p % 64) m (omega arith)

  -- a free slot marked and taken back, and the other way round
  pub cleared_marked : p < 64 * length ws → get_or ws (p / 64) 0 < 2 ^ 64 → slot ws p ≡ 0 → cleared (marked ws p) p ≡ ws
  unfolding slot marked cleared
  cleared_marked h f z = cleared_at_marked_at ws (p / 64) (p % 64) (omega arith) (omega arith) f z

  pub marked_cleared : p < 64 * length ws → get_or ws (p / 64) 0 < 2 ^ 64 → slot ws p ≡ 1 → marked (cleared ws p) p ≡ ws
  unfolding slot marked cleared
  marked_cleared h f o = marked_at_cleared_at ws (p / 64) (p % 64) (omega arith) (omega arith) f o

pub marked_twice : (ws : List ℕ) (p : ℕ) → p < 64 * length ws → marked (marked ws p) p ≡ marked ws p
marked_twice ws p h = marked_again (marked ws p) p (marked_same ws p h)

-- the order of two marks is free
pub marked_swap : (ws : List ℕ) (p q : ℕ) → Words ws → marked (marked ws p) q ≡ marked (marked ws q) p
marked_swap ws p q f =
    slot_ext (marked (marked ws p) q) (marked (marked ws q) p) same_length
    (marked_words (marked ws p) q (marked_words ws p f)) (marked_words (marked ws q) p (marked_words ws q f)) at
  where
    same_length : length (marked (marked ws p) q) ≡ length (marked (marked ws q) p)
    same_length = omega (arith, length_marked (marked ws p) q, length_marked ws p, length_marked (marked ws q) p, length_marked ws q)

    at : (r : ℕ) → r < 64 * length (marked (marked ws p) q) → slot (marked (marked ws p) q) r ≡ slot (marked (marked ws q) p) r
    at r h =
        let l : r < 64 * length ws = omega (arith, length_marked (marked ws p) q, length_marked ws p) in
        let lp : r < 64 * length (marked ws p) = omega (arith, length_marked ws p) in
        let lq : r < 64 * length (marked ws q) = omega (arith, length_marked ws q) in
        ⊎_elim
        (λ (e : r ≡ p).
        ⊎_elim
        (λ (d : r ≡ q). rw (← e, ← d) refl)
        (λ (d : r ≢ q). rw (marked_other (marked ws p) q r d, ← e, marked_same ws r l, marked_same (marked ws q) r lq) refl)
        (same_or_not r q))
        (λ (e : r ≢ p).
        rw (marked_other (marked ws q) p r e) (⊎_elim
        (λ (d : r ≡ q). rw (← d, marked_same (marked ws p) r lp, marked_same ws r l) refl)
        (λ (d : r ≢ q). rw (marked_other (marked ws p) q r d, marked_other ws p r e, marked_other ws q r d) refl)
        (same_or_not r q)))
        (same_or_not r p)
