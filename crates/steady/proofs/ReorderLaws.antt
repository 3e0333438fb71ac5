-- The order of the keys inside a bucket is free: rule S asks which slots are taken, whether they differ and what they cost together, and a reordering
-- changes none of that. So over any list of turns no seed, no marked slot and no bucket of 14 changes. Assumes nothing.
use mathlib.Core.Path.{◌≡◌, refl, sym, ap, ◌∙◌}
use mathlib.Core.Bool.{Bool, true, false, cond, ◌||◌}
use mathlib.Core.List.{List, [], ◌∷◌, ◌++◌, map, Memᴰ}
use Prim.Native.Nat.{ℕ, zero, suc}
use native.Mathlib.Omega.{arith}
use lib.Dec.{T, eqb, eqb_refl}
use Rattle.rules.specs.Lists.{below, elem, count, indicator, sum, total, all_free, distinct, best}
use Rattle.rules.specs.Geometry.{position}
use Rattle.rules.specs.Order.{Input, keys_of}
use Rattle.rules.specs.Seed.{Candidate, barred, unbarred, candidates, seed_of, slots_of, fits, price, cost, cheaper, candidate_fits, fitting, seed_of_least, seed_for}
use Rattle.rules.specs.Sweep.{Given, takes, given, marks, seed_in, first_zero, final_seeds, final_marks, final_bitmap, fails_at}
use Rattle.rules.proofs.Tests.{or_left, or_right}
use Rattle.rules.proofs.Counting.{elem_count, count_elem}
use Rattle.rules.proofs.Orders.{best_mem}
use Rattle.rules.proofs.Sums.{Same, total_same}
use Rattle.rules.proofs.SetLaws.{SameSet, filter_same, free_same}
use Rattle.rules.proofs.HoleLaws.{distinct_once, once_distinct, free_of, free_by}
use Rattle.rules.proofs.BitmapLaws.{bitmap_same}
use Rattle.steady.specs.Alike.{regrouped}

-- ---- tests and sums of a list in another order

pub same_test : (a b : Bool) → (T a → T b) → (T b → T a) → a ≡ b
same_test true true f g = refl
same_test true false f g = absurd (f tt)
same_test false true f g = absurd (g tt)
same_test false false f g = refl

module _ (xs ys : List ℕ) (h : Same xs ys) where
  pub elem_reordered : SameSet xs ys
  elem_reordered x = same_test (elem x xs) (elem x ys) (λ t. count_elem x ys (omega (arith, h x, elem_count x xs t))) (λ t. count_elem x xs (omega (arith, h x, elem_count x ys t)))

  pub free_reordered : (marked : List ℕ) → all_free marked xs ≡ all_free marked ys
  free_reordered marked =
      same_test (all_free marked xs) (all_free marked ys)
      (λ t. free_by marked ys (λ x u. free_of marked xs t x (rw (elem_reordered x) u)))
      (λ t. free_by marked xs (λ x u. free_of marked ys t x (rw (sym (elem_reordered x)) u)))

  pub distinct_reordered : distinct xs ≡ distinct ys
  distinct_reordered =
      same_test (distinct xs) (distinct ys)
      (λ t. once_distinct ys (λ x. omega (arith, h x, distinct_once xs t x)))
      (λ t. once_distinct xs (λ x. omega (arith, h x, distinct_once ys t x)))

count_map_total : (f : ℕ → ℕ) (y : ℕ) (xs : List ℕ) → count y (map f xs) ≡ total (λ (x : ℕ). indicator (eqb y (f x))) xs
count_map_total f y [] = refl
count_map_total f y (x ∷ xs) = omega (arith, count_map_total f y xs)

pub map_reordered : (f : ℕ → ℕ) (xs ys : List ℕ) → Same xs ys → Same (map f xs) (map f ys)
map_reordered f xs ys h y = count_map_total f y xs ∙ total_same (λ (x : ℕ). indicator (eqb y (f x))) xs ys h ∙ sym (count_map_total f y ys)

sum_total : (f : ℕ → ℕ) (xs : List ℕ) → sum (map f xs) ≡ total f xs
sum_total f [] = refl
sum_total f (x ∷ xs) = omega (arith, sum_total f xs)

pub sum_reordered : (f : ℕ → ℕ) (xs ys : List ℕ) → Same xs ys → sum (map f xs) ≡ sum (map f ys)
sum_reordered f xs ys h = sum_total f xs ∙ total_same f xs ys h ∙ sym (sum_total f ys)

or_assoc : (a b c : Bool) → a || (b || c) ≡ (a || b) || c
or_assoc true b c = refl
or_assoc false b c = refl

elem_either : (x : ℕ) (xs ys : List ℕ) → elem x (xs ++ ys) ≡ elem x xs || elem x ys
elem_either x [] ys = refl
elem_either x (y ∷ xs) ys = ap (λ (c : Bool). eqb x y || c) (elem_either x xs ys) ∙ or_assoc (eqb x y) (elem x xs) (elem x ys)

pub append_alike : (us vs xs ys : List ℕ) → SameSet us vs → SameSet xs ys → SameSet (us ++ xs) (vs ++ ys)
append_alike us vs xs ys h k x = elem_either x us xs ∙ rw (h x, k x) (sym (elem_either x vs ys))

-- two orders that agree on a list have the same best of it
pub best_alike : {A : Type 0} (f g : A → A → Bool) (a : A) (xs : List A) → ((x y : A) → Memᴰ x (a ∷ xs) → Memᴰ y (a ∷ xs) → f x y ≡ g x y) → best f a xs ≡ best g a xs
best_alike f g a [] h = refl
best_alike {A} f g a (b ∷ bs) h = go (best f b bs) (best g b bs) (best_alike f g b bs (λ x y m n. h x y (Memᴰ.tail m) (Memᴰ.tail n))) (best_mem f b bs)
  where
    go : (c d : A) → c ≡ d → Memᴰ c (b ∷ bs) → cond (f c a) c a ≡ cond (g d a) d a
    go c d e m = rw (sym e, h c a (Memᴰ.tail m) (Memᴰ.head refl)) refl

-- ---- rule S: one bucket

module _ (i : Input) (hashes begins : List ℕ) where
  abbrev j : Input
  j = regrouped i hashes begins

  module _ (b : ℕ) (h : Same (keys_of i b) (keys_of j b)) where
    pub slots_reordered : (v : ℕ) → Same (slots_of i b v) (slots_of j b v)
    unfolding slots_of
    slots_reordered v = map_reordered (position i.settings v) (keys_of i b) (keys_of j b) h

    pub fits_reordered : (xs ys : List ℕ) → SameSet xs ys → (v : ℕ) → fits i xs b v ≡ fits j ys b v
    unfolding fits
    fits_reordered xs ys k v =
        let us = slots_of i b v in
        let vs = slots_of j b v in
        rw (free_same xs ys k us, free_reordered us vs (slots_reordered v) ys, distinct_reordered us vs (slots_reordered v)) refl

    pub cost_reordered : (v : ℕ) → cost i b v ≡ cost j b v
    unfolding cost price
    cost_reordered v = sum_reordered (price i b) (slots_of i b v) (slots_of j b v) (slots_reordered v)

    cheaper_reordered : (c d : Candidate) → cheaper i b c d ≡ cheaper j b c d
    unfolding cheaper seed_of
    cheaper_reordered c d = rw (cost_reordered (seed_of i c), cost_reordered (seed_of i d)) refl

    least_reordered : (cs : List Candidate) → seed_of_least i b cs ≡ seed_of_least j b cs
    unfolding seed_of_least seed_of
    least_reordered [] = refl
    least_reordered (c ∷ cs) = ap (seed_of i) (best_alike (cheaper i b) (cheaper j b) c cs (λ x y m n. cheaper_reordered x y))

    pub seed_reordered : (xs ys : List ℕ) → SameSet xs ys → seed_for i xs b ≡ seed_for j ys b
    unfolding seed_for fitting candidate_fits candidates unbarred barred seed_of
    seed_reordered xs ys k =
        least_reordered (fitting i xs b)
        ∙ ap (seed_of_least j b)
        (filter_same (candidate_fits i xs b) (candidate_fits j ys b) (λ c. fits_reordered xs ys k (seed_of i c)) (candidates i))

    pub takes_reordered : (v : ℕ) → SameSet (takes i b v) (takes j b v)
    unfolding takes
    takes_reordered zero x = refl
    takes_reordered (suc v) x = elem_reordered (slots_of i b (suc v)) (slots_of j b (suc v)) (slots_reordered (suc v)) x

  -- ---- any list of turns

  -- each bucket of the list has the same keys, in any order
  abbrev pub Alike : List ℕ → Type 0
  Alike bs = (b : ℕ) → T (elem b bs) → Same (keys_of i b) (keys_of j b)

  alike_first : (b : ℕ) (bs : List ℕ) → Alike (b ∷ bs) → Same (keys_of i b) (keys_of j b)
  alike_first b bs h = h b (or_left (eqb b b) (elem b bs) (eqb_refl b))

  alike_rest : (b : ℕ) (bs : List ℕ) → Alike (b ∷ bs) → Alike bs
  alike_rest b bs h c t = h c (or_right (eqb c b) (elem c bs) t)

  next_alike : (b : ℕ) (xs ys : List ℕ) → Same (keys_of i b) (keys_of j b) → SameSet xs ys
      → SameSet (takes i b (seed_for i xs b) ++ xs) (takes j b (seed_for j ys b) ++ ys)
  next_alike b xs ys h k =
      let v = seed_for i xs b in
      rw (sym (seed_reordered b h xs ys k)) (append_alike (takes i b v) (takes j b v) xs ys (takes_reordered b h v) k)

  pub given_reordered : (bs xs ys : List ℕ) → SameSet xs ys → Alike bs → given i xs bs ≡ given j ys bs
  unfolding given
  given_reordered [] xs ys k h = refl
  given_reordered (b ∷ bs) xs ys k h =
      ap (λ (l : List Given). record { bucket = b; seed = seed_for i xs b } ∷ l)
      (given_reordered bs (takes i b (seed_for i xs b) ++ xs) (takes j b (seed_for j ys b) ++ ys)
      (next_alike b xs ys (alike_first b bs h) k) (alike_rest b bs h))
      ∙ ap (λ (v : ℕ). record { bucket = b; seed = v } ∷ given j (takes j b (seed_for j ys b) ++ ys) bs)
      (seed_reordered b (alike_first b bs h) xs ys k)

  pub marks_reordered : (bs xs ys : List ℕ) → SameSet xs ys → Alike bs → SameSet (marks i xs bs) (marks j ys bs)
  unfolding marks
  marks_reordered [] xs ys k h = k
  marks_reordered (b ∷ bs) xs ys k h =
      marks_reordered bs (takes i b (seed_for i xs b) ++ xs) (takes j b (seed_for j ys b) ++ ys)
      (next_alike b xs ys (alike_first b bs h) k) (alike_rest b bs h)

  module _ (turns : List ℕ) (h : Alike turns) where
    -- no seed, no bit and no bucket of 14
    pub seeds_reordered : final_seeds i turns ≡ final_seeds j turns
    unfolding final_seeds
    seeds_reordered = ap (λ (l : List Given). map (seed_in l) (below i.settings.buckets)) (given_reordered turns [] [] (λ x. refl) h)

    pub bitmap_reordered : final_bitmap i turns ≡ final_bitmap j turns
    unfolding final_bitmap final_marks
    bitmap_reordered = bitmap_same i.settings.m (marks i [] turns) (marks j [] turns) (marks_reordered turns [] [] (λ x. refl) h)

    pub fails_reordered : fails_at i turns ≡ fails_at j turns
    unfolding fails_at
    fails_reordered = ap first_zero (given_reordered turns [] [] (λ x. refl) h)
