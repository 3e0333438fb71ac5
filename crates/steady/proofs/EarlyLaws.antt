-- Early pages stay put. While the least untaken bucket o has o + 255 < b, every bucket of its window is below b, so two inputs whose sizes agree below b
-- take the same bucket; once that is no longer so, every bucket below b - 255 has been taken. So the two orders begin alike, and since rule S looks at
-- the slots marked so far and the bucket's keys, the buckets below b - 255 get the same seeds. Assumes nothing.
use mathlib.Core.Path.{◌≡◌, refl, sym, ap, ◌∙◌, subst}
use mathlib.Core.Logic.{◌⊎◌, inl, inr}
use mathlib.Core.Bool.{Bool, true, false, not, cond, ◌&&◌}
use mathlib.Core.List.Memᴰ
use mathlib.Core.List.{List, [], ◌∷◌, ◌++◌, Memᴰ, tail-eq_of_cons-eq}
use Prim.Native.Nat.{ℕ, zero, suc, ◌+◌, ◌<◌, ◌≤◌}
use native.Mathlib.Nat.{le_refl, not-suc-le-zero}
use native.Mathlib.Omega.{arith}
use lib.Dec.{T, T_not, not_T, eqb, eqb→eq, eqb_refl, ltb, ltb→lt, lt→ltb, nltb→le}
use lib.ListN.{length}
use Rattle.rules.specs.Lists.{between, elem, count, remove, keep, filter, best}
use Rattle.rules.specs.Order.{Input, Tie, size_of, keys_of, priority, goes_first, has_keys, in_window, nonempty, turn, turns, order}
use Rattle.rules.specs.Seed.{seed_for}
use Rattle.rules.specs.Sweep.{Given, takes, given, seed_in}
use Rattle.rules.proofs.Tests.{split, is_true, is_false, or_cases, mem_filter}
use Rattle.rules.proofs.Orders.{best_mem}
use Rattle.rules.proofs.Counting.{ind_true, length_remove, not_elem_count, count_elem, count_filter_in}
use Rattle.rules.proofs.Sums.{Same}
use Rattle.rules.proofs.TurnLaws.{Ascending, turn_elem, turns_count, ascending_remove, ascending_nonempty}
use Rattle.rules.proofs.SweepLaws.{seed_absent}
use Rattle.steady.specs.Alike.{regrouped}
use Rattle.steady.specs.Begun.{under, Begun}
use Rattle.steady.proofs.ReorderLaws.{best_alike, given_reordered}

-- ---- filters

and_false : (c : Bool) → c && false ≡ false
and_false true = refl
and_false false = refl

module _ {A : Type 0} (r : A → Bool) where
  filter_keep : (c : Bool) (z : A) (zs : List A) → filter r (keep c z zs) ≡ keep (c && r z) z (filter r zs)
  filter_keep true z zs = refl
  filter_keep false z zs = refl

  -- tests that agree where r passes leave the same of what r leaves
  filter_twice : (p q : A → Bool) → ((x : A) → T (r x) → p x ≡ q x) → (zs : List A) → filter r (filter p zs) ≡ filter r (filter q zs)
  filter_twice p q h [] = refl
  filter_twice p q h (z ∷ zs) =
      filter_keep (p z) z (filter p zs)
      ∙ ap (keep (p z && r z) z) (filter_twice p q h zs)
      ∙ ap (λ (c : Bool). keep c z (filter r (filter q zs))) (both (split (r z)))
      ∙ sym (filter_keep (q z) z (filter q zs))
    where
      both : T (r z) ⊎ T (not (r z)) → p z && r z ≡ q z && r z
      both (inl t) = rw (h z t) refl
      both (inr n) = rw (is_false (r z) n) (and_false (p z) ∙ sym (and_false (q z)))

  -- a narrower test needs only what r leaves
  filter_narrow : (p : A → Bool) → ((x : A) → T (p x) → T (r x)) → (zs : List A) → filter p (filter r zs) ≡ filter p zs
  filter_narrow p h [] = refl
  filter_narrow p h (z ∷ zs) = go (split (r z)) (split (p z)) (filter_narrow p h zs)
    where
      go : T (r z) ⊎ T (not (r z)) → T (p z) ⊎ T (not (p z)) → filter p (filter r zs) ≡ filter p zs → filter p (keep (r z) z (filter r zs)) ≡ keep (p z) z (filter p zs)
      go (inl t) u ih = rw (is_true (r z) t) (ap (keep (p z) z) ih)
      go (inr n) (inl u) ih = absurd (T_not (r z) n (h z u))
      go (inr n) (inr m) ih = rw (is_false (r z) n, is_false (p z) m) ih

filter_remove : (r : ℕ → Bool) (c : ℕ) → T (r c) → (zs : List ℕ) → filter r (remove c zs) ≡ remove c (filter r zs)
filter_remove r c t [] = refl
filter_remove r c t (z ∷ zs) = go (split (eqb c z)) (split (r z)) (filter_remove r c t zs)
  where
    go : T (eqb c z) ⊎ T (not (eqb c z)) → T (r z) ⊎ T (not (r z)) → filter r (remove c zs) ≡ remove c (filter r zs)
        → filter r (cond (eqb c z) zs (z ∷ remove c zs)) ≡ remove c (keep (r z) z (filter r zs))
    go (inl e) (inl u) ih = rw (is_true (r z) u, is_true (eqb c z) e) refl
    go (inl e) (inr m) ih = absurd (T_not (r z) m (subst (λ (k : ℕ). T (r k)) (eqb→eq c z e) t))
    go (inr n) (inl u) ih = rw (is_false (eqb c z) n, is_true (r z) u, is_false (eqb c z) n) (ap (λ (l : List ℕ). z ∷ l) ih)
    go (inr n) (inr m) ih = rw (is_false (eqb c z) n, is_false (r z) m) ih

-- ---- rule W

ascending_least : (o : ℕ) (rest : List ℕ) → Ascending (o ∷ rest) → (x : ℕ) → T (elem x (o ∷ rest)) → o ≤ x
ascending_least o rest h x t = elim (or_cases (eqb x o) (elem x rest) t) [ inl e ↦ omega (arith, eqb→eq x o e) | inr u ↦ omega (arith, h.0 x u) ]

under_count : (b x : ℕ) (xs ys : List ℕ) → filter (under b) xs ≡ filter (under b) ys → x < b → count x xs ≡ count x ys
under_count b x xs ys e l =
    sym (count_filter_in (under b) x (lt→ltb x b l) xs) ∙ ap (count x) e ∙ count_filter_in (under b) x (lt→ltb x b l) ys

-- the same least, where it is below b
under_first : (b o : ℕ) (rest : List ℕ) (o' : ℕ) (rest' : List ℕ) → Ascending (o ∷ rest) → Ascending (o' ∷ rest') → filter (under b) (o ∷ rest) ≡ filter (under b) (o' ∷ rest') → o < b → o ≡ o'
under_first b o rest o' rest' h h' e l =
    let there : T (elem o (o' ∷ rest')) = count_elem o (o' ∷ rest') (omega (arith, under_count b o (o ∷ rest) (o' ∷ rest') e l, ind_true (eqb o o) (eqb_refl o))) in
    let low = ascending_least o' rest' h' o there in
    let back : T (elem o' (o ∷ rest)) = count_elem o' (o ∷ rest) (omega (arith, under_count b o' (o ∷ rest) (o' ∷ rest') e (omega arith), ind_true (eqb o' o') (eqb_refl o'))) in
    omega (arith, ascending_least o rest h o' back)

module _ (b : ℕ) (before before' : ℕ → ℕ → Bool) (agree : (x y : ℕ) → x < b → y < b → before x y ≡ before' x y) where
  turn_under : (o : ℕ) (rest : List ℕ) → o + 255 < b → turn before o rest < b
  unfolding turn
  turn_under o rest l = elim (Memᴰ.cases_cons (best_mem before o (filter (in_window o) rest)))
      [ inl e ↦ omega (arith, e) | inr m ↦ omega (arith, ltb→lt (turn before o rest) _ (mem_filter (in_window o) rest m).1) ]

  turn_alike : (o : ℕ) (rest rest' : List ℕ) → filter (under b) rest ≡ filter (under b) rest' → o + 255 < b → turn before o rest ≡ turn before' o rest'
  unfolding turn
  turn_alike o rest rest' e l =
      best_alike before before' o (filter (in_window o) rest) (λ x y m n. agree x y (near x m) (near y n))
      ∙ ap (best before' o) (sym (filter_narrow (under b) (in_window o) narrow rest) ∙ ap (filter (in_window o)) e ∙ filter_narrow (under b) (in_window o) narrow rest')
    where
      narrow : (x : ℕ) → T (in_window o x) → T (under b x)
      narrow x t = lt→ltb x b (omega (arith, ltb→lt x (o + 256) t))

      near : (x : ℕ) → Memᴰ x (o ∷ filter (in_window o) rest) → x < b
      near x m = elim (Memᴰ.cases_cons m) [ inl e ↦ omega (arith, e) | inr k ↦ ltb→lt x b (narrow x (mem_filter (in_window o) rest k).1) ]

  -- no bucket below b - 255 is left
  stop : (f f' : ℕ) (xs ys : List ℕ) → length xs ≤ f → length ys ≤ f' → filter (under b) xs ≡ filter (under b) ys → ((x : ℕ) → x + 255 < b → count x xs ≡ 0)
      → Begun b (turns before f xs) (turns before' f' ys)
  stop f f' xs ys k k' e none = record {
    both = [];
    rest = turns before f xs;
    rest' = turns before' f' ys;
    one_is = refl;
    other_is = refl;
    low = λ x t. absurd t;
    taken = λ x l. turns_count before f xs k x ∙ none x l;
    taken' = λ x l. turns_count before' f' ys k' x ∙ sym (under_count b x xs ys e (omega arith)) ∙ none x l;
  }

  abbrev Beginning : ℕ → Type 0
  Beginning f = (f' : ℕ) (xs ys : List ℕ) → length xs ≤ f → length ys ≤ f' → Ascending xs → Ascending ys → filter (under b) xs ≡ filter (under b) ys
      → Begun b (turns before f xs) (turns before' f' ys)

  -- the same bucket is taken in both
  go_on : (f f' o : ℕ) (rest rest' : List ℕ) → length (o ∷ rest) ≤ suc f → length (o ∷ rest') ≤ suc f' → Ascending (o ∷ rest) → Ascending (o ∷ rest')
      → filter (under b) (o ∷ rest) ≡ filter (under b) (o ∷ rest') → o + 255 < b → Beginning f → Begun b (turns before (suc f) (o ∷ rest)) (turns before' (suc f') (o ∷ rest'))
  unfolding turns
  go_on f f' o rest rest' k k' h h' e l ih = subst (λ (c : ℕ). Begun b (turns before (suc f) (o ∷ rest)) (c ∷ turns before' f' (remove c (o ∷ rest')))) alike (push later)
    where
      t : ℕ
      t = turn before o rest

      tail : filter (under b) rest ≡ filter (under b) rest'
      tail = tail-eq_of_cons-eq (rw (is_true (ltb o b) (lt→ltb o b (omega arith))) at e)

      alike : t ≡ turn before' o rest'
      alike = turn_alike o rest rest' tail l

      in_one_lem : T (elem t (o ∷ rest))
      in_one_lem = turn_elem before o rest

      in_other : T (elem t (o ∷ rest'))
      in_other = subst (λ (c : ℕ). T (elem c (o ∷ rest'))) (sym alike) (turn_elem before' o rest')

      low_t : T (under b t)
      low_t = lt→ltb t b (turn_under o rest l)

      later : Begun b (turns before f (remove t (o ∷ rest))) (turns before' f' (remove t (o ∷ rest')))
      later = ih f' (remove t (o ∷ rest)) (remove t (o ∷ rest')) (omega (arith, length_remove t (o ∷ rest) in_one_lem)) (omega (arith, length_remove t (o ∷ rest') in_other))
          (ascending_remove t (o ∷ rest) h) (ascending_remove t (o ∷ rest') h')
          (filter_remove (under b) t low_t (o ∷ rest) ∙ ap (remove t) e ∙ sym (filter_remove (under b) t low_t (o ∷ rest')))

      push : Begun b (turns before f (remove t (o ∷ rest))) (turns before' f' (remove t (o ∷ rest')))
          → Begun b (t ∷ turns before f (remove t (o ∷ rest))) (t ∷ turns before' f' (remove t (o ∷ rest')))
      push g = record {
        both = t ∷ g.both;
        rest = g.rest;
        rest' = g.rest';
        one_is = ap (λ (q : List ℕ). t ∷ q) g.one_is;
        other_is = ap (λ (q : List ℕ). t ∷ q) g.other_is;
        low = λ x u. elim (or_cases (eqb x t) (elem x g.both) u) [ inl q ↦ omega (arith, eqb→eq x t q, turn_under o rest l) | inr q ↦ g.low x q ];
        taken = g.taken;
        taken' = g.taken';
      }

  step : (f f' o : ℕ) (rest ys : List ℕ) → length (o ∷ rest) ≤ suc f → length ys ≤ f' → Ascending (o ∷ rest) → Ascending ys
      → filter (under b) (o ∷ rest) ≡ filter (under b) ys → T (ltb (o + 255) b) ⊎ T (not (ltb (o + 255) b)) → Beginning f → Begun b (turns before (suc f) (o ∷ rest)) (turns before' f' ys)
  step f f' o rest ys k k' h h' e (inr n) ih = stop (suc f) f' (o ∷ rest) ys k k' e (λ x l. not_elem_count x (o ∷ rest) (not_T (elem x (o ∷ rest)) (λ t.
      omega (arith, ascending_least o rest h x t, nltb→le (o + 255) b n))))
  step f f' o rest [] k k' h h' e (inl t) ih =
      let l = ltb→lt (o + 255) b t in
      absurd (let z = under_count b o (o ∷ rest) [] e (omega arith) in omega (arith, ind_true (eqb o o) (eqb_refl o)))
  step f zero o rest (o' ∷ rest') k k' h h' e (inl t) ih = absurd (not-suc-le-zero k')
  step f (suc f') o rest (o' ∷ rest') k k' h h' e (inl t) ih =
      let l = ltb→lt (o + 255) b t in
      let q : o' ≡ o = sym (under_first b o rest o' rest' h h' e (omega arith)) in
      rw q (go_on f f' o rest rest' k k' h (rw q at h') (rw q at e) l ih)

  pub turns_begun : (f : ℕ) → Beginning f
  turns_begun zero f' [] ys k k' h h' e = stop zero f' [] ys k k' e (λ x l. refl)
  turns_begun zero f' (o ∷ rest) ys k k' h h' e = absurd (not-suc-le-zero k)
  turns_begun (suc f) f' [] ys k k' h h' e = stop (suc f) f' [] ys k k' e (λ x l. refl)
  turns_begun (suc f) f' (o ∷ rest) ys k k' h h' e = step f f' o rest ys k k' h h' e (split (ltb (o + 255) b)) (λ g us vs. turns_begun f g us vs)

-- two inputs with the same weights whose sizes agree below b
module _ (tie : Tie) (i : Input) (hashes begins : List ℕ) (b : ℕ) (sizes : (c : ℕ) → c < b → size_of i c ≡ size_of (regrouped i hashes begins) c) where
  first_alike : (x y : ℕ) → x < b → y < b → goes_first tie i x y ≡ goes_first tie (regrouped i hashes begins) x y
  unfolding goes_first priority
  first_alike x y l k = rw (sizes x l, sizes y k) refl

  nonempty_alike : (lo hi : ℕ) → filter (under b) (nonempty i lo hi) ≡ filter (under b) (nonempty (regrouped i hashes begins) lo hi)
  unfolding nonempty
  nonempty_alike lo hi =
      filter_twice (under b) (has_keys i) (has_keys (regrouped i hashes begins)) (λ x t. ap (ltb 0) (sizes x (ltb→lt x b t))) (between lo hi)

  pub order_begun : (lo hi : ℕ) → Begun b (order tie i lo hi) (order tie (regrouped i hashes begins) lo hi)
  unfolding order
  order_begun lo hi =
      let xs = nonempty i lo hi in
      let ys = nonempty (regrouped i hashes begins) lo hi in
      turns_begun b (goes_first tie i) (goes_first tie (regrouped i hashes begins)) first_alike (length xs) (length ys) xs ys (le_refl (length xs)) (le_refl (length ys))
      (ascending_nonempty i lo hi) (ascending_nonempty (regrouped i hashes begins) lo hi) (nonempty_alike lo hi)

-- ---- rule S

-- turns after the last of a bucket do not change its seed
pub seed_before : (i : Input) (pre post : List ℕ) (x : ℕ) (marked : List ℕ) → count x post ≡ 0 → seed_in (given i marked (pre ++ post)) x ≡ seed_in (given i marked pre) x
unfolding given seed_in
seed_before i [] post x marked h = seed_absent i post x marked h
seed_before i (p ∷ pre) post x marked h = ap (λ (v : ℕ). cond (eqb p x) (seed_for i marked p) v) (seed_before i pre post x (takes i p (seed_for i marked p) ++ marked) h)

-- orders that begin alike, over buckets with the same keys, in any order
pub seeds_begun : (i : Input) (hashes begins : List ℕ) (b : ℕ) → ((c : ℕ) → c < b → Same (keys_of i c) (keys_of (regrouped i hashes begins) c)) → (one other : List ℕ) → Begun b one other
    → (x : ℕ) → x + 255 < b → seed_in (given i [] one) x ≡ seed_in (given (regrouped i hashes begins) [] other) x
seeds_begun i hashes begins b keys one other g x l =
    ap (λ (q : List ℕ). seed_in (given i [] q) x) g.one_is
    ∙ seed_before i g.both g.rest x [] (g.taken x l)
    ∙ ap (λ (q : List Given). seed_in q x) (given_reordered i hashes begins g.both [] [] (λ y. refl) (λ c t. keys c (g.low c t)))
    ∙ sym (seed_before (regrouped i hashes begins) g.both g.rest' x [] (g.taken' x l))
    ∙ sym (ap (λ (q : List ℕ). seed_in (given (regrouped i hashes begins) [] q) x) g.other_is)
