-- The groups: where begins never falls and ends at the hash count, a bucket's keys are as many as its size, and the buckets' keys are the hashes, one
-- bucket after the other. Assumes nothing.
use mathlib.Core.Path.{◌≡◌, sym, ap, ◌∙◌, subst}
use mathlib.Core.Logic.{inl, inr}
use mathlib.Core.List.{List, [], ◌∷◌, ◌++◌}
use Prim.Native.Nat.{ℕ, zero, suc, ◌+◌, ◌-◌, ◌^◌, ◌<◌, ◌≤◌}
use native.Mathlib.Nat.{add-zero, zero-add, sub_self, le_refl, le_trans}
use native.Mathlib.Omega.{arith}
use lib.Dec.{T, eqb}
use lib.ListN.{length, get_or, take, drop, length-take, length-drop}
use lib.Seq.{take_all, take-add, drop-drop}
use Rattle.words.specs.Map.{Words}
use Rattle.rules.specs.Lists.{below, count_from, elem, concat_map, total}
use Rattle.rules.specs.Order.{Input, size_of, keys_of}
use Rattle.rules.specs.Good.{Grouped}
use Rattle.rules.proofs.Tests.{or_cases, or_left, or_right}
use Rattle.rules.proofs.Ranges.{elem_get_d, below_elem}
use Rattle.rules.proofs.Sums.{length_concat, total_congr}

pub elem_take : (x n : ℕ) (l : List ℕ) → T (elem x (take n l)) → T (elem x l)
elem_take x zero l t = absurd t
elem_take x (suc n) [] t = t
elem_take x (suc n) (y ∷ l) t = elim (or_cases (eqb x y) (elem x (take n l)) t) [ inl e ↦ or_left (eqb x y) (elem x l) e | inr u ↦ or_right (eqb x y) (elem x l) (elem_take x n l u) ]

pub elem_drop : (x n : ℕ) (l : List ℕ) → T (elem x (drop n l)) → T (elem x l)
elem_drop x zero l t = t
elem_drop x (suc n) [] t = t
elem_drop x (suc n) (y ∷ l) t = or_right (eqb x y) (elem x l) (elem_drop x n l t)

module _ (i : Input) where
  abbrev begin : ℕ → ℕ
  begin b = get_or i.begins b 0

  pub key_elem : (b h : ℕ) → T (elem h (keys_of i b)) → T (elem h i.hashes)
  unfolding keys_of
  key_elem b h t = elem_drop h (begin b) i.hashes (elem_take h (size_of i b) (drop (begin b) i.hashes) t)

  pub key_small : Words i.hashes → (b h : ℕ) → T (elem h (keys_of i b)) → h < 2 ^ 64
  key_small w b h t = elem_get_d (λ (k : ℕ). k < 2 ^ 64) i.hashes w h (key_elem b h t)

  module _ (G : Grouped i) where
    pub begins_rise : (b n : ℕ) → b + n ≤ i.settings.buckets → get_or i.begins b 0 ≤ get_or i.begins (b + n) 0
    begins_rise b zero h = rw (add-zero b) (le_refl (begin b))
    begins_rise b (suc n) h = subst (λ (k : ℕ). begin b ≤ begin k) (omega arith) (le_trans (G.rises b (omega arith)) (begins_rise (b + 1) n (omega arith)))

    pub begins_le : (b : ℕ) → b ≤ i.settings.buckets → get_or i.begins b 0 ≤ length i.hashes
    begins_le b h = subst (λ (k : ℕ). begin b ≤ k) (ap begin (omega arith) ∙ G.ends) (begins_rise b (i.settings.buckets - b) (omega arith))

    -- a bucket's keys are as many as its size
    pub keys_length : (b : ℕ) → b < i.settings.buckets → length (keys_of i b) ≡ size_of i b
    unfolding keys_of size_of
    keys_length b h =
        let r = G.rises b h in
        let e = begins_le (b + 1) (omega arith) in
        length-take (begin (b + 1) - begin b) (drop (begin b) i.hashes) ∙ rw (length-drop (begin b) i.hashes) (omega arith)

    -- the keys of n buckets from a on
    keys_from : (a n : ℕ) → a + n ≤ i.settings.buckets → concat_map (keys_of i) (count_from a n) ≡ take (begin (a + n) - begin a) (drop (begin a) i.hashes)
    unfolding keys_of size_of
    keys_from a zero h = rw (add-zero a) (sym (ap (λ (k : ℕ). take k (drop (begin a) i.hashes)) (sub_self (begin a))))
    keys_from a (suc n) h =
        ap (λ (l : List ℕ). take (begin (a + 1) - begin a) (drop (begin a) i.hashes) ++ l) (keys_from (suc a) n (omega arith) ∙ joined)
        ∙ sym (take-add (begin (a + 1) - begin a) (begin (a + suc n) - begin (a + 1)) (drop (begin a) i.hashes))
        ∙ ap (λ (k : ℕ). take k (drop (begin a) i.hashes)) sum
      where
        over : suc a + n ≡ a + suc n
        over = omega arith

        next : suc a ≡ a + 1
        next = omega arith

        up : begin (a + 1) ≤ begin (a + suc n)
        up = subst (λ (k : ℕ). begin (a + 1) ≤ begin k) (omega arith) (begins_rise (a + 1) n (omega arith))

        sum : begin (a + 1) - begin a + (begin (a + suc n) - begin (a + 1)) ≡ begin (a + suc n) - begin a
        sum = let u = G.rises a (omega arith) in let v = up in omega arith

        back : begin (a + 1) ≡ begin a + (begin (a + 1) - begin a)
        back = let u = G.rises a (omega arith) in omega arith

        joined : take (begin (suc a + n) - begin (suc a)) (drop (begin (suc a)) i.hashes) ≡ take (begin (a + suc n) - begin (a + 1)) (drop (begin (a + 1) - begin a) (drop (begin a) i.hashes))
        joined =
            ap (λ (k : ℕ). take (begin k - begin (suc a)) (drop (begin (suc a)) i.hashes)) over
            ∙ ap (λ (k : ℕ). take (begin (a + suc n) - begin k) (drop (begin k) i.hashes)) next
            ∙ ap (λ (l : List ℕ). take (begin (a + suc n) - begin (a + 1)) l)
            (ap (λ (k : ℕ). drop k i.hashes) back ∙ sym (drop-drop (begin (a + 1) - begin a) (begin a) i.hashes))

    -- the buckets' keys are the hashes
    pub keys_all : concat_map (keys_of i) (below i.settings.buckets) ≡ i.hashes
    keys_all = keys_from 0 i.settings.buckets (omega arith) ∙ rw (zero-add i.settings.buckets, G.starts, G.ends) (take_all (length i.hashes - 0) i.hashes (omega arith))

    pub sizes_all : total (size_of i) (below i.settings.buckets) ≡ length i.hashes
    sizes_all =
        total_congr (size_of i) (λ (b : ℕ). length (keys_of i b)) (below i.settings.buckets) (λ b t. sym (keys_length b (below_elem b i.settings.buckets t)))
        ∙ sym (length_concat (keys_of i) (below i.settings.buckets))
        ∙ ap length keys_all
