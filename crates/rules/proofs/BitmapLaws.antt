-- Rule H's bitmap: slot x of it is 1 exactly where x is marked, and the bits from m on are 0 where no slot from m on is marked. It is the one list of
-- ceil(m/64) words of which that holds. Assumes nothing.
use mathlib.Core.Path.{◌≡◌, sym, ap, ◌∙◌, subst}
use mathlib.Core.Logic.{◌⊎◌, inl, inr}
use mathlib.Core.Bool.{Bool, true, false, not, ◌||◌}
use mathlib.Core.List.{List, [], ◌∷◌, map}
use Prim.Native.Nat.{ℕ, zero, suc, ◌+◌, ◌*◌, ◌/◌, ◌%◌, ◌^◌, ◌<◌, ◌≤◌}
use native.Mathlib.Nat.{pow-succ', div-add-mod, mod-lt}
use native.Mathlib.Omega.{arith}
use lib.Dec.{T, not_T, eqb, eqb→eq, ltb, ltb→lt, nltb→le, lit<}
use lib.ListN.{length, get_or, replicate, length-replicate, get_or-eq_default}
use Rattle.words.specs.Bit.{bit}
use Rattle.words.specs.BitLaws.{bit_zero, bit_suc, bit_of_zero}
use Rattle.words.specs.Map as Map
use Rattle.words.specs.Map.{Words, slot}
use Rattle.words.specs.MapLaws.{slot_ext, slot_past, slot_replicate, length_marked, marked_words, marked_same, marked_other}
use Rattle.rules.specs.Lists.{below, elem, indicator, number}
use Rattle.rules.specs.Sweep.{word_of, bitmap_of}
use Rattle.rules.proofs.Tests.{split, is_true, is_false, neq}
use Rattle.rules.proofs.Counting.{ind_le, ind_true, ind_false}
use Rattle.rules.proofs.Ranges.{get_d_below, length_below}

half : (b : Bool) (n : ℕ) → (indicator b + 2 * n) / 2 ≡ n
half true n = omega arith
half false n = omega arith

odd : (b : Bool) (n : ℕ) → (indicator b + 2 * n) % 2 ≡ indicator b
odd true n = omega arith
odd false n = omega arith

-- ---- a number from a row of bits

pub bit_number : (bs : List Bool) (k : ℕ) → bit (number bs) k ≡ indicator (get_or bs k false)
bit_number [] k = bit_of_zero k
bit_number (b ∷ bs) zero = bit_zero (indicator b + 2 * number bs) ∙ odd b (number bs)
bit_number (b ∷ bs) (suc k) = bit_suc (indicator b + 2 * number bs) k ∙ ap (λ (n : ℕ). bit n k) (half b (number bs)) ∙ bit_number bs k

pub number_lt : (bs : List Bool) → number bs < 2 ^ length bs
number_lt [] = omega arith
number_lt (b ∷ bs) = omega (arith, ind_le b, number_lt bs, pow-succ' 2 (length bs))

-- ---- the bitmap

module _ (marked : List ℕ) where
  pub word_bit : (w k : ℕ) → k < 64 → bit (word_of marked w) k ≡ indicator (elem (64 * w + k) marked)
  unfolding word_of
  word_bit w k h =
      bit_number (map (λ (j : ℕ). elem (64 * w + j) marked) (below 64)) k ∙ ap indicator (get_d_below (λ (j : ℕ). elem (64 * w + j) marked) false 64 k h)

  pub word_lt : (w : ℕ) → word_of marked w < 2 ^ 64
  unfolding word_of
  word_lt w = number_lt (map (λ (j : ℕ). elem (64 * w + j) marked) (below 64))

  pub bitmap_length : (m : ℕ) → length (bitmap_of m marked) ≡ (m + 63) / 64
  unfolding bitmap_of
  bitmap_length m = length_below (word_of marked) ((m + 63) / 64)

  pub bitmap_words_lem : (m : ℕ) → Words (bitmap_of m marked)
  unfolding bitmap_of
  bitmap_words_lem m k = go (split (ltb k ((m + 63) / 64)))
    where
      go : T (ltb k ((m + 63) / 64)) ⊎ T (not (ltb k ((m + 63) / 64))) → get_or (bitmap_of m marked) k 0 < 2 ^ 64
      go (inl t) = rw (get_d_below (word_of marked) 0 ((m + 63) / 64) k (ltb→lt k ((m + 63) / 64) t)) (word_lt k)
      go (inr t) = rw (get_or-eq_default (bitmap_of m marked) 0 (subst (λ (n : ℕ). n ≤ k) (sym (bitmap_length m)) (nltb→le k ((m + 63) / 64) t))) (lit< tt)

  pub bitmap_slot : (m x : ℕ) → x < 64 * ((m + 63) / 64) → slot (bitmap_of m marked) x ≡ indicator (elem x marked)
  unfolding bitmap_of slot
  bitmap_slot m x h =
      ap (λ (w : ℕ). bit w (x % 64)) (get_d_below (word_of marked) 0 ((m + 63) / 64) (x / 64) (omega arith))
      ∙ word_bit (x / 64) (x % 64) (mod-lt x (lit< tt))
      ∙ ap (λ (y : ℕ). indicator (elem y marked)) (div-add-mod x 64)

  -- every slot, where none from m on is marked
  pub bitmap_all : (m : ℕ) → ((x : ℕ) → T (elem x marked) → x < m) → (x : ℕ) → slot (bitmap_of m marked) x ≡ indicator (elem x marked)
  bitmap_all m low x = go (split (ltb x (64 * ((m + 63) / 64)))) (split (elem x marked))
    where
      go : T (ltb x (64 * ((m + 63) / 64))) ⊎ T (not (ltb x (64 * ((m + 63) / 64)))) → T (elem x marked) ⊎ T (not (elem x marked)) → slot (bitmap_of m marked) x ≡ indicator (elem x marked)
      go (inl t) u = bitmap_slot m x (ltb→lt x (64 * ((m + 63) / 64)) t)
      go (inr t) (inl u) = absurd (let a = nltb→le x (64 * ((m + 63) / 64)) t in let b = low x u in let z : ⊥ = omega arith in z)
      go (inr t) (inr u) =
          slot_past (bitmap_of m marked) x (rw (bitmap_length m) (nltb→le x (64 * ((m + 63) / 64)) t)) ∙ sym (ind_false (elem x marked) u)

  -- words with those slots are the bitmap
  pub bitmap_is : (m : ℕ) (ws : List ℕ) → length ws ≡ (m + 63) / 64 → Words ws → ((x : ℕ) → x < 64 * ((m + 63) / 64) → slot ws x ≡ indicator (elem x marked))
      → ws ≡ bitmap_of m marked
  bitmap_is m ws e w h =
      slot_ext ws (bitmap_of m marked) (e ∙ sym (bitmap_length m)) w (bitmap_words_lem m)
      (λ x k. let l : x < 64 * ((m + 63) / 64) = subst (λ (n : ℕ). x < 64 * n) e k in h x l ∙ sym (bitmap_slot m x l))

-- ---- one slot more, and none

pub bitmap_none : (m : ℕ) → bitmap_of m [] ≡ replicate ((m + 63) / 64) 0
bitmap_none m =
    sym (bitmap_is [] m (replicate ((m + 63) / 64) 0) (length-replicate ((m + 63) / 64) 0) (λ k. zeros ((m + 63) / 64) k) (λ x h. slot_replicate ((m + 63) / 64) x))
  where
    zeros : (n k : ℕ) → get_or (replicate n 0) k 0 < 2 ^ 64
    zeros zero k = lit< tt
    zeros (suc n) zero = lit< tt
    zeros (suc n) (suc k) = zeros n k

-- the bitmap with slot x marked in it
pub bitmap_mark : (m x : ℕ) (marked : List ℕ) → x < m → bitmap_of m (x ∷ marked) ≡ Map.marked (bitmap_of m marked) x
bitmap_mark m x marked h =
    sym (bitmap_is (x ∷ marked) m (Map.marked (bitmap_of m marked) x) (length_marked (bitmap_of m marked) x ∙ bitmap_length marked m)
    (marked_words (bitmap_of m marked) x (bitmap_words_lem marked m)) at)
  where
    at : (y : ℕ) → y < 64 * ((m + 63) / 64) → slot (Map.marked (bitmap_of m marked) x) y ≡ indicator (eqb y x || elem y marked)
    at y k = go (split (eqb y x))
      where
        go : T (eqb y x) ⊎ T (not (eqb y x)) → slot (Map.marked (bitmap_of m marked) x) y ≡ indicator (eqb y x || elem y marked)
        go (inl t) = rw (is_true (eqb y x) t) (rw (eqb→eq y x t) (marked_same (bitmap_of m marked) x (rw (bitmap_length marked m) (omega arith))))
        go (inr t) = rw (is_false (eqb y x) t) (marked_other (bitmap_of m marked) x y (neq y x t) ∙ bitmap_slot marked m y k)

-- only the set of marked slots matters
pub bitmap_same : (m : ℕ) (xs ys : List ℕ) → ((x : ℕ) → elem x xs ≡ elem x ys) → bitmap_of m xs ≡ bitmap_of m ys
bitmap_same m xs ys h = bitmap_is ys m (bitmap_of m xs) (bitmap_length xs m) (bitmap_words_lem xs m) (λ x l. bitmap_slot xs m x l ∙ ap indicator (h x))

-- a slot is free in the list exactly where its bit is 0
pub slot_free : (m x : ℕ) (marked : List ℕ) → x < m → slot (bitmap_of m marked) x ≡ 0 → T (not (elem x marked))
slot_free m x marked h e = not_T (elem x marked) (λ t. let a = bitmap_slot marked m x (omega arith) in let b = ind_true (elem x marked) t in omega arith)

pub free_slot : (m x : ℕ) (marked : List ℕ) → x < m → T (not (elem x marked)) → slot (bitmap_of m marked) x ≡ 0
free_slot m x marked h t = bitmap_slot marked m x (omega arith) ∙ ind_false (elem x marked) t
