-- 14 names the first bucket, in turn, that gets 0: those before it got another seed. Part by part too. Assumes nothing.
use mathlib.Core.Path.{◌≡◌, refl, ap, ◌∙◌, subst}
use mathlib.Core.Logic.{◌⊎◌, inl, inr, ◌≢◌}
use mathlib.Core.Bool.{not, cond}
use mathlib.Core.List.{List, [], ◌∷◌, ◌++◌, head-eq_of_cons-eq, tail-eq_of_cons-eq}
use mathlib.Core.Option.{Option, none, some}
use Prim.Native.Nat.{ℕ}
use native.Mathlib.Omega.{arith}
use lib.Dec.{T, eqb, eqb→eq}
use lib.ListN.{length, length-append}
use Rattle.rules.specs.Order.{Input}
use Rattle.rules.specs.Seed.{seed_for}
use Rattle.rules.specs.Sweep.{Given, takes, given, marks, first_zero, final_marks, fails_at}
use Rattle.rules.proofs.Tests.{split, is_true, is_false, neq, neq→neqb, eq→eqb}
use Rattle.rules.proofs.SweepLaws.{given_append}

no_some : {A : Type 0} {c : A} → some c ≡ none → ⊥
no_some e = let z : ◌≡◌ {A = ℕ} 0 1 = cc in omega arith

-- b is the first of bs that gets 0
pub record FirstZero (i : Input) (marked bs : List ℕ) (b : ℕ) : Type 0 where
  pub before : List ℕ
  pub after : List ℕ
  pub ordered : bs ≡ before ++ b ∷ after
  pub gets_zero : seed_for i (marks i marked before) b ≡ 0
  pub none_before : first_zero (given i marked before) ≡ none

module _ (i : Input) where
  none_zero : (c : ℕ) (bs marked : List ℕ) → first_zero (given i marked (c ∷ bs)) ≡ none
      → (seed_for i marked c ≢ 0) × (first_zero (given i (takes i c (seed_for i marked c) ++ marked) bs) ≡ none)
  unfolding first_zero given
  none_zero c bs marked e = go (split (eqb (seed_for i marked c) 0))
    where
      v : ℕ
      v = seed_for i marked c

      later : Option ℕ
      later = first_zero (given i (takes i c v ++ marked) bs)

      go : T (eqb v 0) ⊎ T (not (eqb v 0)) → (v ≢ 0) × (later ≡ none)
      go (inl t) = absurd (no_some (rw (is_true (eqb v 0) t) at e))
      go (inr t) = (neq v 0 t, rw (is_false (eqb v 0) t) at e)

  -- where none got 0, no bucket did at its turn
  pub first_none : (bs marked : List ℕ) → first_zero (given i marked bs) ≡ none → (pre : List ℕ) (b : ℕ) (post : List ℕ) → bs ≡ pre ++ b ∷ post → seed_for i (marks i marked pre) b ≢ 0
  unfolding marks
  first_none [] marked e pre b post q = absurd (let z = ap length q in omega (arith, length-append pre (b ∷ post)))
  first_none (c ∷ bs) marked e [] b post q = subst (λ (k : ℕ). seed_for i marked k ≢ 0) (head-eq_of_cons-eq q) (none_zero c bs marked e).0
  first_none (c ∷ bs) marked e (p ∷ pre) b post q =
      subst (λ (k : ℕ). seed_for i (marks i (takes i k (seed_for i marked k) ++ marked) pre) b ≢ 0) (head-eq_of_cons-eq q)
      (first_none bs (takes i c (seed_for i marked c) ++ marked) (none_zero c bs marked e).1 pre b post (tail-eq_of_cons-eq q))

  pub first_some : (bs marked : List ℕ) (b : ℕ) → first_zero (given i marked bs) ≡ some b → FirstZero i marked bs b
  unfolding first_zero given marks
  first_some [] marked b e = absurd (let z : ◌≡◌ {A = ℕ} 0 1 = cc in omega arith)
  first_some (c ∷ bs) marked b e = go (split (eqb v 0)) (first_some bs (takes i c v ++ marked) b)
    where
      v : ℕ
      v = seed_for i marked c

      rest : List ℕ
      rest = takes i c v ++ marked

      push : T (not (eqb v 0)) → FirstZero i rest bs b → FirstZero i marked (c ∷ bs) b
      push n w = record {
        before = c ∷ w.before;
        after = w.after;
        ordered = ap (λ (l : List ℕ). c ∷ l) w.ordered;
        gets_zero = w.gets_zero;
        none_before = rw (is_false (eqb v 0) n) w.none_before;
      }

      here : T (eqb v 0) → c ≡ b → FirstZero i marked (c ∷ bs) b
      here z q = record {
        before = [];
        after = bs;
        ordered = ap (λ (k : ℕ). k ∷ bs) q;
        gets_zero = subst (λ (k : ℕ). seed_for i marked k ≡ 0) q (eqb→eq v 0 z);
        none_before = refl;
      }

      go : T (eqb v 0) ⊎ T (not (eqb v 0)) → (first_zero (given i rest bs) ≡ some b → FirstZero i rest bs b) → FirstZero i marked (c ∷ bs) b
      go (inl z) ih = here z (let f : some c ≡ some b = rw (is_true (eqb v 0) z) at e in cc)
      go (inr n) ih = push n (ih (rw (is_false (eqb v 0) n) at e))

  -- ---- one turn more

  zero_append_none : (xs ys : List Given) → first_zero xs ≡ none → first_zero (xs ++ ys) ≡ first_zero ys
  unfolding first_zero
  zero_append_none [] ys e = refl
  zero_append_none (g ∷ xs) ys e = go (split (eqb g.seed 0)) (zero_append_none xs ys)
    where
      go : T (eqb g.seed 0) ⊎ T (not (eqb g.seed 0)) → (first_zero xs ≡ none → first_zero (xs ++ ys) ≡ first_zero ys) → cond (eqb g.seed 0) (some g.bucket) (first_zero (xs ++ ys)) ≡ first_zero ys
      go (inl t) ih = absurd (no_some (rw (is_true (eqb g.seed 0) t) at e))
      go (inr t) ih = rw (is_false (eqb g.seed 0) t) (ih (rw (is_false (eqb g.seed 0) t) at e))

  zero_append_some : (xs ys : List Given) (b : ℕ) → first_zero xs ≡ some b → first_zero (xs ++ ys) ≡ some b
  unfolding first_zero
  zero_append_some [] ys b e = absurd (let z : ◌≡◌ {A = ℕ} 0 1 = cc in omega arith)
  zero_append_some (g ∷ xs) ys b e = go (split (eqb g.seed 0)) (zero_append_some xs ys b)
    where
      go : T (eqb g.seed 0) ⊎ T (not (eqb g.seed 0)) → (first_zero xs ≡ some b → first_zero (xs ++ ys) ≡ some b) → cond (eqb g.seed 0) (some g.bucket) (first_zero (xs ++ ys)) ≡ some b
      go (inl t) ih = rw (is_true (eqb g.seed 0) t) (rw (is_true (eqb g.seed 0) t) at e)
      go (inr t) ih = rw (is_false (eqb g.seed 0) t) (ih (rw (is_false (eqb g.seed 0) t) at e))

  pass_here : (marked : List ℕ) (b : ℕ) → seed_for i marked b ≢ 0 → first_zero (given i marked (b ∷ [])) ≡ none
  unfolding given first_zero
  pass_here marked b h = rw (is_false (eqb (seed_for i marked b) 0) (neq→neqb (seed_for i marked b) 0 h)) refl

  stop_here : (marked : List ℕ) (b : ℕ) (post : List ℕ) → seed_for i marked b ≡ 0 → first_zero (given i marked (b ∷ post)) ≡ some b
  unfolding given first_zero
  stop_here marked b post h = stop (seed_for i marked b) h
    where
      stop : (v : ℕ) → v ≡ 0 → cond (eqb v 0) (some b) (first_zero (given i (takes i b v ++ marked) post)) ≡ some b
      stop v e = rw (is_true (eqb v 0) (eq→eqb v 0 e)) refl

  pub fails_none : fails_at i [] ≡ none
  unfolding fails_at given first_zero
  fails_none = refl

  -- the turn passes, or it stops the sweep
  pub fails_passes : (pre : List ℕ) (b : ℕ) → fails_at i pre ≡ none → seed_for i (final_marks i pre) b ≢ 0 → fails_at i (pre ++ b ∷ []) ≡ none
  unfolding fails_at final_marks
  fails_passes pre b e h = ap first_zero (given_append i pre (b ∷ []) []) ∙ zero_append_none (given i [] pre) (given i (marks i [] pre) (b ∷ [])) e ∙ pass_here (marks i [] pre) b h

  pub fails_stops : (pre : List ℕ) (b : ℕ) (post : List ℕ) → fails_at i pre ≡ none → seed_for i (final_marks i pre) b ≡ 0 → fails_at i (pre ++ b ∷ post) ≡ some b
  unfolding fails_at final_marks
  fails_stops pre b post e h = ap first_zero (given_append i pre (b ∷ post) []) ∙ zero_append_none (given i [] pre) (given i (marks i [] pre) (b ∷ post)) e ∙ stop_here (marks i [] pre) b post h

  pub fails_append : (pre post : List ℕ) (b : ℕ) → fails_at i pre ≡ some b → fails_at i (pre ++ post) ≡ some b
  unfolding fails_at
  fails_append pre post b e = ap first_zero (given_append i pre post []) ∙ zero_append_some (given i [] pre) (given i (marks i [] pre) post) b e
