-- What a store into the part l[a..a + n] leaves of the list: the part has what was stored, and all else stays.
-- `put_mid a k l ys` is l with ys in the place of the k words from a on; k is `a + n - a` in the code's words.
use Rattle.std.specs.Prelude.{◌≡◌, refl, List, ℕ, ◌+◌, ◌-◌, ◌≤◌, ◌<◌, length, get_or, take, drop, replicate}
use Rattle.std.proofs.Common.{sym, ap, ◌∙◌, arith, ◌++◌, zero-add, length-append, length-take, length-drop, get_or-drop}
use Rattle.std.proofs.lemmas.List.{length-replicate, get_or-replicate, get_or_append_left, get_or-append_right}
use Rattle.std.proofs.lemmas.Slice.{take-put_mid_below, drop-put_mid}
use borrow.Rule.Slice.PartMut.{put_mid}
use Rattle.words.specs.TallyLaws.{ones_to_same}
use Rattle.rings.specs.Parts.{part, part_at, length_part}
use Rattle.rings.specs.Blocked.{Within, Cleared, TurnedOver}

module _ (l ys : List ℕ) (a n k : ℕ) (e : k ≡ n) (fits : a + n ≤ length l) (len : length ys ≡ n) where
  pub put_front : take a (put_mid a k l ys) ≡ take a l
  put_front = take-put_mid_below a k l ys a (omega arith) (omega arith)

  pub put_len : length (put_mid a k l ys) ≡ length l
  put_len = simp (length-append, length-take, length-drop) (omega arith)

  pub put_at : (i : ℕ) → i < n → get_or (put_mid a k l ys) (a + i) 0 ≡ get_or ys i 0
  put_at i h =
      let z : a + i - a ≡ i = omega arith in
      get_or-append_right (take a l) (ys ++ drop k (drop a l)) a (a + i) 0 (length-take a l ∙ omega arith) (omega arith)
      ∙ rw z (get_or_append_left ys (drop k (drop a l)) 0 i (omega arith))

  pub put_after : (i : ℕ) → a + n ≤ i → get_or (put_mid a k l ys) i 0 ≡ get_or l i 0
  put_after i h =
      let z : a + n + (i - (a + n)) ≡ i = omega arith in
      sym (ap (λ j. get_or (put_mid a k l ys) j 0) z)
      ∙ sym (get_or-drop (a + n) (put_mid a k l ys) (i - (a + n)) 0)
      ∙ ap (λ (x : List ℕ). get_or x (i - (a + n)) 0) (drop-put_mid a k l ys (a + n) (omega arith) (omega arith) (omega arith))
      ∙ get_or-drop (a + n) l (i - (a + n)) 0
      ∙ ap (λ j. get_or l j 0) z

  pub put_within : Within l a n (put_mid a k l ys)
  put_within = record { front = put_front; len = put_len; after = put_after }

-- a part filled with 0
pub put_cleared : (l ys : List ℕ) (a n k : ℕ) → k ≡ n → a + n ≤ length l → ys ≡ replicate (length (part l a k)) 0 → Cleared l a n (put_mid a k l ys)
put_cleared l ys a n k e fits is =
    record { within = put_within l ys a n k e fits len; zero = λ i h. put_at l ys a n k e fits len i h ∙ rw is (get_or-replicate (length (part l a k)) i 0 0 (omega (arith, part_len))) }
  where
    part_len : length (part l a k) ≡ n
    part_len = length_part l a k (omega arith) ∙ e

    len : length ys ≡ n
    len = rw (is, length-replicate, part_len) refl

-- a part turned over
pub put_over : {l ys : List ℕ} {a n k own total : ℕ} → k ≡ n → a + n ≤ length l → TurnedOver (part l a k) 0 n own total ys → TurnedOver l a n own total (put_mid a k l ys)
put_over {l} {ys} {a} {n} {k} {own} {total} e fits t = record {
  within = put_within l ys a n k e fits len;
  over = λ i h. put_at l ys a n k e fits len i h ∙ (rw zero-add at (t.over i h)) ∙ rw (part_at l a k i (omega arith)) refl;
  sum = t.sum ∙ ones_to_same ys (drop a (put_mid a k l ys)) n (λ i h. sym (get_or-drop a (put_mid a k l ys) i 0 ∙ put_at l ys a n k e fits len i h));
  most = t.most;
}
  where
    len : length ys ≡ n
    len = t.within.len ∙ length_part l a k (omega arith) ∙ e
