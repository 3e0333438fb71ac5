-- A sweep over any list of buckets in turn: the seed stored for a bucket is the one that rule S gave at its first turn, judged against the slots marked
-- before it, and a bucket that had no turn has 0. Turns can be taken part by part. Assumes nothing.
use mathlib.Core.Path.{◌≡◌, refl, sym, ap, ◌∙◌, subst}
use mathlib.Core.Logic.{◌⊎◌, inl, inr, ◌≢◌}
use mathlib.Core.Bool.{not, cond}
use mathlib.Core.List.{List, [], ◌∷◌, ◌++◌}
use Prim.Native.Nat.{ℕ, ◌<◌}
use native.Mathlib.Omega.{arith}
use lib.Dec.{T, eqb, eqb→eq, eqb_refl}
use lib.ListN.{length, get_or, set, length-set}
use lib.Seq.{ext_get_or, get_or-set_same, get_or-set_other}
use Rattle.rules.specs.Lists.{elem, count}
use Rattle.rules.specs.Order.{Input}
use Rattle.rules.specs.Seed.{seed_for}
use Rattle.rules.specs.Sweep.{Given, takes, given, marks, seed_in, final_seeds, final_marks}
use Rattle.rules.proofs.Tests.{split, is_true, is_false, neq, eq→eqb, neq→neqb}
use Rattle.rules.proofs.Counting.{ind_true, ind_false}
use Rattle.rules.proofs.Ranges.{get_d_below, length_below}

-- a list up to and after the first b
pub split_first : (b : ℕ) (xs : List ℕ) → T (elem b xs) → (pre : List ℕ) × (post : List ℕ) × (xs ≡ pre ++ b ∷ post) × (count b pre ≡ 0)
split_first b [] t = absurd t
split_first b (x ∷ xs) t = go (split (eqb b x)) (split_first b xs)
  where
    go : T (eqb b x) ⊎ T (not (eqb b x)) → (T (elem b xs) → (pre : List ℕ) × (post : List ℕ) × (xs ≡ pre ++ b ∷ post) × (count b pre ≡ 0))
        → (pre : List ℕ) × (post : List ℕ) × (x ∷ xs ≡ pre ++ b ∷ post) × (count b pre ≡ 0)
    go (inl e) ih = ([], xs, rw (eqb→eq b x e) refl, refl)
    go (inr n) ih =
        let w = ih (rw (is_false (eqb b x) n) at t) in
        (x ∷ w.0, w.1, ap (λ (l : List ℕ). x ∷ l) w.2, omega (arith, w.3, ind_false (eqb b x) n))

module _ (i : Input) where
  -- ---- part by part

  pub marks_append : (pre post marked : List ℕ) → marks i marked (pre ++ post) ≡ marks i (marks i marked pre) post
  unfolding marks
  marks_append [] post marked = refl
  marks_append (p ∷ pre) post marked = marks_append pre post _

  pub given_append : (pre post marked : List ℕ) → given i marked (pre ++ post) ≡ given i marked pre ++ given i (marks i marked pre) post
  unfolding given marks
  given_append [] post marked = refl
  given_append (p ∷ pre) post marked =
      ap (λ (l : List Given). record { bucket = p; seed = seed_for i marked p } ∷ l) (given_append pre post (takes i p (seed_for i marked p) ++ marked))

  -- ---- the seed of a bucket

  pub seed_at_lem : (pre : List ℕ) (b : ℕ) (post marked : List ℕ) → count b pre ≡ 0 → seed_in (given i marked (pre ++ b ∷ post)) b ≡ seed_for i (marks i marked pre) b
  unfolding given seed_in marks
  seed_at_lem [] b post marked h = rw (is_true (eqb b b) (eqb_refl b)) refl
  seed_at_lem (p ∷ pre) b post marked h = go (split (eqb p b)) (seed_at_lem pre b post (takes i p (seed_for i marked p) ++ marked) (omega arith))
    where
      v : ℕ
      v = seed_for i marked p

      rest : List ℕ
      rest = takes i p v ++ marked

      go : T (eqb p b) ⊎ T (not (eqb p b)) → seed_in (given i rest (pre ++ b ∷ post)) b ≡ seed_for i (marks i rest pre) b
          → cond (eqb p b) v (seed_in (given i rest (pre ++ b ∷ post)) b) ≡ seed_for i (marks i rest pre) b
      go (inl e) ih = absurd (let c = ind_true (eqb b p) (eq→eqb b p (sym (eqb→eq p b e))) in omega arith)
      go (inr n) ih = rw (is_false (eqb p b) n) ih

  pub seed_absent : (bs : List ℕ) (b : ℕ) (marked : List ℕ) → count b bs ≡ 0 → seed_in (given i marked bs) b ≡ 0
  unfolding given seed_in
  seed_absent [] b marked h = refl
  seed_absent (p ∷ bs) b marked h = go (split (eqb p b)) (seed_absent bs b (takes i p (seed_for i marked p) ++ marked) (omega arith))
    where
      v : ℕ
      v = seed_for i marked p

      rest : List ℕ
      rest = takes i p v ++ marked

      go : T (eqb p b) ⊎ T (not (eqb p b)) → seed_in (given i rest bs) b ≡ 0 → cond (eqb p b) v (seed_in (given i rest bs) b) ≡ 0
      go (inl e) ih = absurd (let c = ind_true (eqb b p) (eq→eqb b p (sym (eqb→eq p b e))) in omega arith)
      go (inr n) ih = rw (is_false (eqb p b) n) ih

  -- a later turn of another bucket changes nothing
  pub seed_other : (pre : List ℕ) (b c : ℕ) (marked : List ℕ) → c ≢ b → seed_in (given i marked (pre ++ b ∷ [])) c ≡ seed_in (given i marked pre) c
  unfolding given seed_in
  seed_other [] b c marked h = rw (is_false (eqb b c) (neq→neqb b c (λ e. h (sym e)))) refl
  seed_other (p ∷ pre) b c marked h =
      ap (λ (k : ℕ). cond (eqb p c) (seed_for i marked p) k) (seed_other pre b c (takes i p (seed_for i marked p) ++ marked) h)

  -- ---- all seeds

  pub seeds_length : (turns : List ℕ) → length (final_seeds i turns) ≡ i.settings.buckets
  unfolding final_seeds
  seeds_length turns = length_below (seed_in (given i [] turns)) i.settings.buckets

  pub seeds_at : (turns : List ℕ) (b : ℕ) → b < i.settings.buckets → get_or (final_seeds i turns) b 0 ≡ seed_in (given i [] turns) b
  unfolding final_seeds
  seeds_at turns b h = get_d_below (seed_in (given i [] turns)) 0 i.settings.buckets b h

  -- no turn yet: all 0, and no slot marked
  pub seeds_none : (b : ℕ) → b < i.settings.buckets → get_or (final_seeds i []) b 0 ≡ 0
  unfolding given seed_in
  seeds_none b h = seeds_at [] b h

  -- one turn more: the bucket's seed is stored, the others stay
  pub seeds_turn : (pre : List ℕ) (b : ℕ) → b < i.settings.buckets → count b pre ≡ 0
      → final_seeds i (pre ++ b ∷ []) ≡ set (final_seeds i pre) b (seed_for i (final_marks i pre) b)
  unfolding final_marks
  seeds_turn pre b h once = ext_get_or 0 (final_seeds i (pre ++ b ∷ [])) (set (final_seeds i pre) b v) (seeds_length (pre ++ b ∷ []) ∙ sym (length-set (final_seeds i pre) b v ∙ seeds_length pre))
      (λ c k. at c (subst (λ (n : ℕ). c < n) (seeds_length (pre ++ b ∷ [])) k))
    where
      v : ℕ
      v = seed_for i (marks i [] pre) b

      at : (c : ℕ) → c < i.settings.buckets → get_or (final_seeds i (pre ++ b ∷ [])) c 0 ≡ get_or (set (final_seeds i pre) b v) c 0
      at c k = go (split (eqb c b))
        where
          go : T (eqb c b) ⊎ T (not (eqb c b)) → get_or (final_seeds i (pre ++ b ∷ [])) c 0 ≡ get_or (set (final_seeds i pre) b v) c 0
          go (inl e) =
              rw (eqb→eq c b e) (seeds_at (pre ++ b ∷ []) b h ∙ seed_at_lem pre b [] [] once ∙ sym (get_or-set_same (final_seeds i pre) b v 0 (subst (λ (n : ℕ). b < n) (sym (seeds_length pre)) h)))
          go (inr n) =
              seeds_at (pre ++ b ∷ []) c k ∙ seed_other pre b c [] (neq c b n) ∙ sym (get_or-set_other (final_seeds i pre) b c v 0 (neq c b n) ∙ seeds_at pre c k)

  -- and its slots are marked
  pub marks_turn : (pre : List ℕ) (b : ℕ) → final_marks i (pre ++ b ∷ []) ≡ takes i b (seed_for i (final_marks i pre) b) ++ final_marks i pre
  unfolding final_marks marks
  marks_turn pre b = marks_append pre (b ∷ []) []

module _ (i : Input) (turns : List ℕ) where
  -- the turn of bucket b: what was taken before it and what after, and what it got
  pub record Turn (b : ℕ) : Type 0 where
    pub before : List ℕ
    pub after : List ℕ
    pub ordered : turns ≡ before ++ b ∷ after
    pub once : count b before ≡ 0
    pub seed : get_or (final_seeds i turns) b 0 ≡ seed_for i (final_marks i before) b

  pub turn_of : (b : ℕ) → b < i.settings.buckets → T (elem b turns) → Turn b
  unfolding final_marks
  turn_of b h t =
      let w = split_first b turns t in
      record {
        before = w.0;
        after = w.1;
        ordered = w.2;
        once = w.3;
        seed = seeds_at i turns b h ∙ ap (λ (l : List ℕ). seed_in (given i [] l) b) w.2 ∙ seed_at_lem i w.0 b w.1 [] w.3;
      }

  pub no_turn : (b : ℕ) → b < i.settings.buckets → count b turns ≡ 0 → get_or (final_seeds i turns) b 0 ≡ 0
  no_turn b h t = seeds_at i turns b h ∙ seed_absent i turns b [] t
