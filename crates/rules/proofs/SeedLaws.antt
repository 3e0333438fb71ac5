-- Rule S: a bucket gets the seed of the first candidate that fits by (cost, r, j), so no nonzero seed below 2^sb that fits costs less, and it gets 0
-- exactly where none fits. The first is one alone, so a search that names it, or that prices a short list which has it, names the seed. Assumes nothing.
use mathlib.Core.Path.{◌≡◌, refl, sym, ap, ◌∙◌, subst}
use mathlib.Core.Logic.{◌⊎◌, inl, inr, ◌≢◌}
use mathlib.Core.Bool.{not, ◌&&◌}
use mathlib.Core.List.Memᴰ
use mathlib.Core.List.{List, [], ◌∷◌, Memᴰ}
use Prim.Native.Nat.{ℕ, ◌^◌, ◌<◌, ◌≤◌}
use native.Mathlib.Omega.{arith}
use lib.Dec.{T, T_not, not_T, ltb, nltb→le}
use lib.Pow.{pow_pos}
use Rattle.rules.specs.Lists.{best, smaller, then_by, all_free, distinct}
use Rattle.rules.specs.Order.{Input}
use Rattle.rules.specs.Seed.{Candidate, candidates, seed_of, slots_of, fits, cost, cheaper, candidate_fits, fitting, seed_of_least, seed_for}
use Rattle.rules.proofs.Tests.{and_left, and_right, and_both, not_or_left, mem_filter, filter_mem}
use Rattle.rules.proofs.Orders.{Strict, best_mem, best_top, strict_then, strict_smaller, then_level, smaller_level}
use Rattle.rules.proofs.CandidateLaws.{candidate_of, candidate_mem, fits_candidate, cost_candidate, seed_range}

-- ---- a seed that fits

-- its slots are pairwise different
pub fits_distinct : (i : Input) (marked : List ℕ) (b v : ℕ) → T (fits i marked b v) → T (distinct (slots_of i b v))
unfolding fits
fits_distinct i marked b v t = and_right (all_free marked (slots_of i b v)) (distinct (slots_of i b v)) t

-- and all free
pub fits_free : (i : Input) (marked : List ℕ) (b v : ℕ) → T (fits i marked b v) → T (all_free marked (slots_of i b v))
unfolding fits
fits_free i marked b v t = and_left (all_free marked (slots_of i b v)) (distinct (slots_of i b v)) t

pub free_fits : (i : Input) (marked : List ℕ) (b v : ℕ) → T (all_free marked (slots_of i b v)) → T (distinct (slots_of i b v)) → T (fits i marked b v)
unfolding fits
free_fits i marked b v s t = and_both (all_free marked (slots_of i b v)) (distinct (slots_of i b v)) s t

-- ---- the order by (cost, r, j)

module _ (i : Input) (b : ℕ) where
  pub strict_cheaper : Strict (cheaper i b)
  unfolding cheaper
  strict_cheaper = strict_then (strict_smaller (λ (c : Candidate). cost i b (seed_of i c))) (strict_then (strict_smaller (λ (c : Candidate). c.r)) (strict_smaller (λ (c : Candidate). c.j)))

  pub cheaper_cost : (c d : Candidate) → T (not (cheaper i b c d)) → cost i b (seed_of i d) ≤ cost i b (seed_of i c)
  unfolding cheaper
  cheaper_cost c d t =
      nltb→le (cost i b (seed_of i c)) (cost i b (seed_of i d))
      (not_or_left (ltb (cost i b (seed_of i c)) (cost i b (seed_of i d))) (not (ltb (cost i b (seed_of i d)) (cost i b (seed_of i c))) && then_by (smaller (λ (e : Candidate). e.r)) (smaller (λ (e : Candidate). e.j)) c d) t)

  -- no two candidates are level
  pub same_candidate : (c d : Candidate) → T (not (cheaper i b c d)) → T (not (cheaper i b d c)) → c ≡ d
  unfolding cheaper
  same_candidate c d s t =
      let F = strict_smaller (λ (e : Candidate). cost i b (seed_of i e)) in
      let R = strict_smaller (λ (e : Candidate). e.r) in
      let J = strict_smaller (λ (e : Candidate). e.j) in
      let u = then_level F (strict_then R J) c d s t in
      let v = then_level R J c d u.0 u.1 in
      let er : c.r ≡ d.r = smaller_level (λ (e : Candidate). e.r) c d (not_or_left (ltb c.r d.r) (not (ltb d.r c.r) && ltb c.j d.j) u.0) (not_or_left (ltb d.r c.r) (not (ltb c.r d.r) && ltb d.j c.j) u.1) in
      let ej : c.j ≡ d.j = smaller_level (λ (e : Candidate). e.j) c d v.0 v.1 in
      λ k. record { r = er k; j = ej k }

module _ (i : Input) (marked : List ℕ) (b : ℕ) where
  pub fitting_in : (c : Candidate) → Memᴰ c (fitting i marked b) → Memᴰ c (candidates i) × T (fits i marked b (seed_of i c))
  unfolding fitting candidate_fits
  fitting_in c m = mem_filter (candidate_fits i marked b) (candidates i) m

  pub in_fitting : (c : Candidate) → Memᴰ c (candidates i) → T (fits i marked b (seed_of i c)) → Memᴰ c (fitting i marked b)
  unfolding fitting candidate_fits
  in_fitting c m t = filter_mem (candidate_fits i marked b) (candidates i) m t

  -- the two cases of rule S: nothing fits, or c is the first of what fits
  pub record First (c : Candidate) : Type 0 where
    pub seed : seed_for i marked b ≡ seed_of i c
    pub here : Memᴰ c (fitting i marked b)
    pub top : (d : Candidate) → Memᴰ d (fitting i marked b) → T (not (cheaper i b d c))

  pub cases : ((fitting i marked b ≡ []) × (seed_for i marked b ≡ 0)) ⊎ ((c : Candidate) × First c)
  unfolding seed_for seed_of_least
  cases = go (fitting i marked b) refl
    where
      go : (cs : List Candidate) → fitting i marked b ≡ cs → ((fitting i marked b ≡ []) × (seed_for i marked b ≡ 0)) ⊎ ((c : Candidate) × First c)
      go [] e = inl (e, ap (seed_of_least i b) e)
      go (c ∷ cs) e = inr (
        best (cheaper i b) c cs,
        record {
          seed = ap (seed_of_least i b) e;
          here = subst (λ (l : List Candidate). Memᴰ (best (cheaper i b) c cs) l) (sym e) (best_mem (cheaper i b) c cs);
          top = λ d m. best_top (strict_cheaper i b) c cs d (subst (λ (l : List Candidate). Memᴰ d l) e m);
        },
      )

  -- ---- for the code: what names the first

  -- a candidate that fits, and that none that fits goes before
  pub seed_is : (c : Candidate) → Memᴰ c (candidates i) → T (fits i marked b (seed_of i c))
      → ((d : Candidate) → Memᴰ d (candidates i) → T (fits i marked b (seed_of i d)) → T (not (cheaper i b d c))) → seed_for i marked b ≡ seed_of i c
  seed_is c m t top = go cases
    where
      go : ((fitting i marked b ≡ []) × (seed_for i marked b ≡ 0)) ⊎ ((c : Candidate) × First c) → seed_for i marked b ≡ seed_of i c
      go (inl z) = absurd (Memᴰ.not-nil (subst (λ (l : List Candidate). Memᴰ c l) z.0 (in_fitting c m t)))
      go (inr f) =
          let w = fitting_in f.0 f.1.here in
          f.1.seed ∙ ap (seed_of i) (sym (same_candidate i b c f.0 (f.1.top c (in_fitting c m t)) (top f.0 w.0 w.1)))

  -- a short list is enough, if each candidate that fits has one in it that it does not go before
  pub seed_short : (c : Candidate) (cs : List Candidate) → ((d : Candidate) → Memᴰ d (c ∷ cs) → Memᴰ d (candidates i) × T (fits i marked b (seed_of i d)))
      → ((d : Candidate) → Memᴰ d (candidates i) → T (fits i marked b (seed_of i d)) → (e : Candidate) × Memᴰ e (c ∷ cs) × T (not (cheaper i b d e)))
      → seed_for i marked b ≡ seed_of i (best (cheaper i b) c cs)
  seed_short c cs good cover =
      let w = good (best (cheaper i b) c cs) (best_mem (cheaper i b) c cs) in
      seed_is (best (cheaper i b) c cs) w.0 w.1
      (λ d m t. let e = cover d m t in (strict_cheaper i b).level d e.0 (best (cheaper i b) c cs) e.2 (best_top (strict_cheaper i b) c cs e.0 e.1))

  -- no candidate fits
  pub seed_zero : ((d : Candidate) → Memᴰ d (candidates i) → T (not (fits i marked b (seed_of i d)))) → seed_for i marked b ≡ 0
  seed_zero none = go cases
    where
      go : ((fitting i marked b ≡ []) × (seed_for i marked b ≡ 0)) ⊎ ((c : Candidate) × First c) → seed_for i marked b ≡ 0
      go (inl z) = z.1
      go (inr f) = let w = fitting_in f.0 f.1.here in absurd (T_not (fits i marked b (seed_of i f.0)) (none f.0 w.0) w.1)

  -- ---- rule S, over every nonzero seed below 2^sb

  module _ (ok : i.settings.ll < i.settings.sb) where
    fits_in : (v : ℕ) → v ≢ 0 → v < 2 ^ i.settings.sb → T (fits i marked b v) → Memᴰ (candidate_of i v) (fitting i marked b)
    fits_in v ne lt t = in_fitting (candidate_of i v) (candidate_mem i ok v ne lt) (subst T (fits_candidate i marked b v) t)

    -- the seed that a bucket got fits, and none that fits costs less
    pub record Cheapest (got : ℕ) : Type 0 where
      pub below_all : got < 2 ^ i.settings.sb
      pub fit : T (fits i marked b got)
      pub least : (v : ℕ) → v ≢ 0 → v < 2 ^ i.settings.sb → T (fits i marked b v) → cost i b got ≤ cost i b v

    pub seed_least : seed_for i marked b ≢ 0 → Cheapest (seed_for i marked b)
    seed_least ne = go cases
      where
        go : ((fitting i marked b ≡ []) × (seed_for i marked b ≡ 0)) ⊎ ((c : Candidate) × First c) → Cheapest (seed_for i marked b)
        go (inl z) = absurd (ne z.1)
        go (inr f) = rw f.1.seed (record {
          below_all = (seed_range i ok f.0 (fitting_in f.0 f.1.here).0).1;
          fit = (fitting_in f.0 f.1.here).1;
          least = λ v n l t. rw (cost_candidate i b v) (cheaper_cost i b (candidate_of i v) f.0 (f.1.top (candidate_of i v) (fits_in v n l t)));
        })

    -- and it got 0 exactly where none fits
    pub seed_none : seed_for i marked b ≡ 0 → (v : ℕ) → v ≢ 0 → v < 2 ^ i.settings.sb → T (not (fits i marked b v))
    seed_none e v ne lt = not_T (fits i marked b v) (λ t. go t cases)
      where
        go : T (fits i marked b v) → ((fitting i marked b ≡ []) × (seed_for i marked b ≡ 0)) ⊎ ((c : Candidate) × First c) → ⊥
        go t (inl z) = Memᴰ.not-nil (subst (λ (l : List Candidate). Memᴰ (candidate_of i v) l) z.0 (fits_in v ne lt t))
        go t (inr f) = let p = (seed_range i ok f.0 (fitting_in f.0 f.1.here).0).0 in let q = f.1.seed in omega arith

    pub none_seed : ((v : ℕ) → v ≢ 0 → v < 2 ^ i.settings.sb → T (not (fits i marked b v))) → seed_for i marked b ≡ 0
    none_seed h = seed_zero (λ d m. let k = seed_range i ok d m in h (seed_of i d) (λ z. let p = k.0 in omega arith) k.1)

    pub seed_lt : seed_for i marked b < 2 ^ i.settings.sb
    seed_lt = go cases
      where
        go : ((fitting i marked b ≡ []) × (seed_for i marked b ≡ 0)) ⊎ ((c : Candidate) × First c) → seed_for i marked b < 2 ^ i.settings.sb
        go (inl z) = rw z.1 (pow_pos i.settings.sb)
        go (inr f) = rw f.1.seed (seed_range i ok f.0 (fitting_in f.0 f.1.here).0).1
