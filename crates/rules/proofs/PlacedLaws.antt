-- Where the keys are. For any list of turns in which no bucket stands twice: look up the hashes in the finished seeds, and the slots found are the
-- marked ones, each once and below m; holes and placed keys add up to m. It holds because a bucket takes only free, pairwise different slots, a hash is
-- looked up with the seed of its own bucket, and a bucket that had no turn has the seed 0. Assumes nothing.
use mathlib.Core.Path.{◌≡◌, refl, sym, ap, ◌∙◌, subst}
use mathlib.Core.Logic.{◌⊎◌, inl, inr}
use mathlib.Core.Bool.{Bool, not, cond}
use mathlib.Core.List.Memᴰ
use mathlib.Core.List.{List, [], ◌∷◌, ◌++◌, map}
use Prim.Native.Nat.{ℕ, zero, suc, ◌+◌, ◌<◌, ◌≤◌}
use native.Mathlib.Nat.{add-zero, suc-ne-zero}
use native.Mathlib.Omega.{arith}
use lib.Dec.{T, eqb, ltb, eqb_refl, eqb-suc-zero, ltb→lt, nltb→le, not_T}
use lib.ListN.{length, get_or, length-map}
use Rattle.words.specs.Map.{Words, slot}
use Rattle.rules.specs.Lists.{below, filter, elem, count, indicator, concat_map, total}
use Rattle.rules.specs.Geometry.{position, bucket_of}
use Rattle.rules.specs.Order.{Input, Tie, order, keys_of, size_of, has_keys}
use Rattle.rules.specs.Seed.{slots_of, fits, seed_for}
use Rattle.rules.specs.Sweep.{takes, given, marks, seed_in, final_seeds, final_marks, final_bitmap}
use Rattle.rules.specs.Holes.{slot_by, looked_up, found_slots, holes_of}
use Rattle.rules.specs.Good.{Grouped, Sound}
use Rattle.rules.proofs.Tests.{split, is_true, is_false, eq→eqb, neq→neqb, elem_mem, mem_elem, or_left, or_right}
use Rattle.rules.proofs.Counting.{Once, Under, ind_true, ind_false, count_append, count_filter_in, count_filter_out, count_below_in, count_elem, elem_count, not_elem_count}
use Rattle.rules.proofs.Ranges.{below_elem}
use Rattle.rules.proofs.Sums.{Same, total_congr, total_same, total_filter, same_length, count_concat, concat_concat}
use Rattle.rules.proofs.GeometryLaws.{position_lt}
use Rattle.rules.proofs.TurnLaws.{order_once, order_empty, order_outside}
use Rattle.rules.proofs.SeedLaws.{fits_free, fits_distinct, seed_least}
use Rattle.rules.proofs.GroupLaws.{keys_all, keys_length, key_small}
use Rattle.rules.proofs.SweepLaws.{seeds_at, seed_absent}
use Rattle.rules.proofs.HoleLaws.{distinct_once, once_append, elem_append, holes_length}
use Rattle.rules.proofs.BitmapLaws.{bitmap_all}

-- turns in which no bucket stands twice
pub record Proper (i : Input) (turns : List ℕ) : Type 0 where
  pub once : Once turns
  pub inside : Under i.settings.buckets turns

-- an order is such a list, and so is its beginning, and orders of ranges that do not overlap, one after the other
pub order_proper : (tie : Tie) (i : Input) (lo hi : ℕ) → hi ≤ i.settings.buckets → Proper i (order tie i lo hi)
order_proper tie i lo hi le = record { once = λ x. each x (split (ltb x lo)) (split (ltb x hi)) (split (has_keys i x)); inside = λ x t. low x t (split (ltb x hi)) }
  where
    low : (x : ℕ) → T (elem x (order tie i lo hi)) → T (ltb x hi) ⊎ T (not (ltb x hi)) → x < i.settings.buckets
    low x t (inl u) = omega (arith, ltb→lt x hi u)
    low x t (inr u) = absurd (let a = elem_count x (order tie i lo hi) t in let z = order_outside tie i lo hi x (inr (nltb→le x hi u)) in omega arith)

    each : (x : ℕ) → T (ltb x lo) ⊎ T (not (ltb x lo)) → T (ltb x hi) ⊎ T (not (ltb x hi)) → T (has_keys i x) ⊎ T (not (has_keys i x)) → count x (order tie i lo hi) ≤ 1
    each x (inl a) b c = omega (arith, order_outside tie i lo hi x (inl (ltb→lt x lo a)))
    each x (inr a) (inl b) (inl c) = omega (arith, order_once tie i lo hi x (nltb→le x lo a) (ltb→lt x hi b) c)
    each x (inr a) (inl b) (inr c) = omega (arith, order_empty tie i lo hi x c)
    each x (inr a) (inr b) c = omega (arith, order_outside tie i lo hi x (inr (nltb→le x hi b)))

pub proper_before : (i : Input) (pre post : List ℕ) → Proper i (pre ++ post) → Proper i pre
proper_before i pre post P = record {
  once = λ x. omega (arith, count_append x pre post, P.once x);
  inside = λ x t. P.inside x (count_elem x (pre ++ post) (omega (arith, count_append x pre post, elem_count x pre t)));
}

pub proper_append : (i : Input) (pre post : List ℕ) → Proper i pre → Proper i post → ((x : ℕ) → T (elem x pre) → count x post ≡ 0) → Proper i (pre ++ post)
proper_append i pre post P Q apart = record { once = λ x. one x (split (elem x pre)); inside = λ x t. elim (elem_append x pre post t) [ inl u ↦ P.inside x u | inr u ↦ Q.inside x u ] }
  where
    one : (x : ℕ) → T (elem x pre) ⊎ T (not (elem x pre)) → count x (pre ++ post) ≤ 1
    one x (inl t) = omega (arith, count_append x pre post, P.once x, apart x t)
    one x (inr t) = omega (arith, count_append x pre post, Q.once x, not_elem_count x pre t)

-- ---- the sweep keeps slots apart, for any turns

module _ (i : Input) (ok : i.settings.ll < i.settings.sb) where
  step_once : (marked : List ℕ) (b : ℕ) → Once marked → Once (takes i b (seed_for i marked b) ++ marked)
  unfolding takes
  step_once marked b h = go (seed_for i marked b) refl
    where
      go : (v : ℕ) → seed_for i marked b ≡ v → Once (takes i b v ++ marked)
      go zero e = h
      go (suc v) e =
          let t : T (fits i marked b (suc v)) = subst (λ (u : ℕ). T (fits i marked b u)) e (seed_least i marked b ok (λ z. suc-ne-zero v (sym e ∙ z))).fit in
          once_append (slots_of i b (suc v)) marked (fits_free i marked b (suc v) t) (distinct_once (slots_of i b (suc v)) (fits_distinct i marked b (suc v) t)) h

  pub marks_once : (bs marked : List ℕ) → Once marked → Once (marks i marked bs)
  unfolding marks
  marks_once [] marked h = h
  marks_once (b ∷ bs) marked h = marks_once bs (takes i b (seed_for i marked b) ++ marked) (step_once marked b h)

module _ (i : Input) (big : 1 ≤ i.settings.m) (w : Words i.hashes) where
  pub takes_under : (b v : ℕ) → Under i.settings.m (takes i b v)
  unfolding takes slots_of
  takes_under b zero x t = absurd t
  takes_under b (suc v) x t =
      let k = Memᴰ.of_map (position i.settings (suc v)) (keys_of i b) (elem_mem x (map (position i.settings (suc v)) (keys_of i b)) t) in
      subst (λ (y : ℕ). y < i.settings.m) k.2 (position_lt i.settings (suc v) k.0 big (key_small i w b k.0 (mem_elem k.1)))

  pub marks_under : (bs marked : List ℕ) → Under i.settings.m marked → Under i.settings.m (marks i marked bs)
  unfolding marks
  marks_under [] marked h = h
  marks_under (b ∷ bs) marked h = marks_under bs (takes i b (seed_for i marked b) ++ marked)
      (λ x t. elim (elem_append x (takes i b (seed_for i marked b)) marked t) [ inl u ↦ takes_under b (seed_for i marked b) x u | inr u ↦ h x u ])

-- ---- the marked slots, bucket by bucket

module _ (i : Input) (x : ℕ) where
  -- how many of b's slots are x
  hits : (ℕ → ℕ) → ℕ → ℕ
  hits seed b = count x (takes i b (seed b))

  marks_total : (bs marked : List ℕ) → Once bs → count x (marks i marked bs) ≡ total (hits (seed_in (given i marked bs))) bs + count x marked
  unfolding marks given seed_in hits
  marks_total [] marked h = omega arith
  marks_total (p ∷ bs) marked h =
      omega (
        arith,
        marks_total bs rest (λ y. omega (arith, h y)),
        count_append x (takes i p v) marked,
        first_one,
        total_congr (hits (seed_in (given i marked (p ∷ bs)))) (hits (seed_in (given i rest bs))) bs others,
      )
    where
      v : ℕ
      v = seed_for i marked p

      rest : List ℕ
      rest = takes i p v ++ marked

      first_one : count x (takes i p (cond (eqb p p) v (seed_in (given i rest bs) p))) ≡ count x (takes i p v)
      first_one = rw (is_true (eqb p p) (eqb_refl p)) refl

      differ : (b : ℕ) → T (elem b bs) → T (not (eqb p b))
      differ b t = neq→neqb p b (λ e. let one = h b in let c = ind_true (eqb b p) (eq→eqb b p (sym e)) in omega (arith, elem_count b bs t))

      others : (b : ℕ) → T (elem b bs) → count x (takes i b (cond (eqb p b) v (seed_in (given i rest bs) b))) ≡ count x (takes i b (seed_in (given i rest bs) b))
      others b t = rw (is_false (eqb p b) (differ b t)) refl

  module _ (turns : List ℕ) (P : Proper i turns) where
    seed_now : ℕ → ℕ
    seed_now b = get_or (final_seeds i turns) b 0

    had_turn : ℕ → Bool
    had_turn b = elem b turns

    -- the turns are the buckets below B that had one
    turns_below : Same turns (filter had_turn (below i.settings.buckets))
    unfolding had_turn
    turns_below y = go (split (elem y turns))
      where
        go : T (elem y turns) ⊎ T (not (elem y turns)) → count y turns ≡ count y (filter had_turn (below i.settings.buckets))
        go (inl t) =
            let a = count_filter_in had_turn y t (below i.settings.buckets) in
            omega (arith, count_below_in y i.settings.buckets (P.inside y t), elem_count y turns t, P.once y)
        go (inr t) = omega (arith, not_elem_count y turns t, count_filter_out had_turn y t (below i.settings.buckets))

    -- a bucket that had none takes nothing
    hits_absent : (b : ℕ) → T (not (had_turn b)) → hits (seed_in (given i [] turns)) b ≡ 0
    unfolding hits had_turn takes
    hits_absent b t = rw (seed_absent i turns b [] (not_elem_count b turns t)) refl

    marked_total : count x (final_marks i turns) ≡ total (hits seed_now) (below i.settings.buckets)
    unfolding final_marks hits seed_now
    marked_total =
        marks_total turns [] P.once
        ∙ add-zero (total (hits (seed_in (given i [] turns))) turns)
        ∙ total_same (hits (seed_in (given i [] turns))) turns (filter had_turn (below i.settings.buckets)) turns_below
        ∙ total_filter (hits (seed_in (given i [] turns))) had_turn (below i.settings.buckets) hits_absent
        ∙ total_congr (hits (seed_in (given i [] turns))) (hits seed_now) (below i.settings.buckets)
        (λ b t. ap (λ (v : ℕ). count x (takes i b v)) (sym (seeds_at i turns b (below_elem b i.settings.buckets t))))

-- ---- the keys, looked up bucket by bucket

module _ (i : Input) (G : Grouped i) where
  -- the keys of a bucket are found by the bucket's seed
  pub found_keys : (seeds : List ℕ) (b : ℕ) → b < i.settings.buckets → concat_map (looked_up i.settings seeds) (keys_of i b) ≡ takes i b (get_or seeds b 0)
  unfolding takes slots_of looked_up slot_by
  found_keys seeds b hb = each (keys_of i b) (G.home b hb) ∙ under (get_or seeds b 0)
    where
      each : (ks : List ℕ) → ((h : ℕ) → T (elem h ks) → bucket_of i.settings h ≡ b) → concat_map (looked_up i.settings seeds) ks ≡ concat_map (slot_by i.settings (get_or seeds b 0)) ks
      each [] home = refl
      each (k ∷ ks) home =
          rw (home k (or_left (eqb k k) (elem k ks) (eqb_refl k)))
          (ap (λ (l : List ℕ). slot_by i.settings (get_or seeds b 0) k ++ l) (each ks (λ h t. home h (or_right (eqb h k) (elem h ks) t))))

      none : (ks : List ℕ) → concat_map (slot_by i.settings 0) ks ≡ []
      none [] = refl
      none (k ∷ ks) = none ks

      all : (v : ℕ) (ks : List ℕ) → concat_map (slot_by i.settings (suc v)) ks ≡ map (position i.settings (suc v)) ks
      all v [] = refl
      all v (k ∷ ks) = ap (λ (l : List ℕ). position i.settings (suc v) k ∷ l) (all v ks)

      under : (v : ℕ) → concat_map (slot_by i.settings v) (keys_of i b) ≡ takes i b v
      under zero = none (keys_of i b)
      under (suc v) = all v (keys_of i b)

  -- all hashes, bucket by bucket
  pub found_buckets : (seeds : List ℕ) → found_slots i.settings seeds i.hashes ≡ concat_map (λ (b : ℕ). concat_map (looked_up i.settings seeds) (keys_of i b)) (below i.settings.buckets)
  unfolding found_slots
  found_buckets seeds =
      ap (concat_map (looked_up i.settings seeds)) (sym (keys_all i G)) ∙ concat_concat (looked_up i.settings seeds) (keys_of i) (below i.settings.buckets)

  pub length_takes : (b v : ℕ) → b < i.settings.buckets → length (takes i b v) ≡ cond (eqb v 0) 0 (size_of i b)
  unfolding takes slots_of
  length_takes b zero h = refl
  length_takes b (suc v) h = rw (eqb-suc-zero v) (length-map (keys_of i b) (position i.settings (suc v)) ∙ keys_length i G b h)

-- ---- the theorem

pub record Placement (i : Input) (turns : List ℕ) : Type 0 where
  -- the slots found are the marked ones
  pub exactly : Same (found_slots i.settings (final_seeds i turns) i.hashes) (final_marks i turns)
  -- no two are alike
  pub apart : Once (found_slots i.settings (final_seeds i turns) i.hashes)
  -- they lie below m
  pub under : Under i.settings.m (found_slots i.settings (final_seeds i turns) i.hashes)
  -- a slot's bit in the bitmap says how often it is found; bits from m on are 0
  pub bits : (x : ℕ) → slot (final_bitmap i turns) x ≡ count x (found_slots i.settings (final_seeds i turns) i.hashes)
  pub spare : (x : ℕ) → i.settings.m ≤ x → slot (final_bitmap i turns) x ≡ 0
  -- holes and placed keys add up to m
  pub whole : length (holes_of i.settings.m (final_bitmap i turns)) + length (found_slots i.settings (final_seeds i turns) i.hashes) ≡ i.settings.m

once_indicator : (x : ℕ) (xs : List ℕ) → Once xs → indicator (elem x xs) ≡ count x xs
once_indicator x xs h = go (split (elem x xs))
  where
    go : T (elem x xs) ⊎ T (not (elem x xs)) → indicator (elem x xs) ≡ count x xs
    go (inl t) = omega (arith, ind_true (elem x xs) t, elem_count x xs t, h x)
    go (inr t) = omega (arith, ind_false (elem x xs) t, not_elem_count x xs t)

pub placement : (i : Input) → Sound i → Words i.hashes → (turns : List ℕ) → Proper i turns → Placement i turns
unfolding final_marks final_bitmap hits seed_now
placement i S w turns P = record {
  exactly = exact;
  apart = λ x. rw (exact x) (once x);
  under = λ x t. low x (count_elem x (final_marks i turns) (subst (λ (n : ℕ). 1 ≤ n) (exact x) (elem_count x found t)));
  bits = λ x. bitmap_all (final_marks i turns) i.settings.m low x ∙ once_indicator x (final_marks i turns) once ∙ sym (exact x);
  spare = λ x h. bitmap_all (final_marks i turns) i.settings.m low x ∙ ind_false (elem x (final_marks i turns)) (not_T (elem x (final_marks i turns)) (λ t. let z = low x t in omega arith));
  whole = omega (arith, holes_length i.settings.m (final_marks i turns) once low, same_length found (final_marks i turns) exact);
}
  where
    found : List ℕ
    found = found_slots i.settings (final_seeds i turns) i.hashes

    once : Once (final_marks i turns)
    once = marks_once i S.good.ll_low turns [] (λ x. omega arith)

    low : Under i.settings.m (final_marks i turns)
    low = marks_under i S.good.m_low w turns [] (λ x t. absurd t)

    exact : Same found (final_marks i turns)
    exact x =
        ap (count x) (found_buckets i S.grouped (final_seeds i turns))
        ∙ count_concat x (λ (b : ℕ). concat_map (looked_up i.settings (final_seeds i turns)) (keys_of i b)) (below i.settings.buckets)
        ∙ total_congr (λ (b : ℕ). count x (concat_map (looked_up i.settings (final_seeds i turns)) (keys_of i b))) (hits i x (seed_now i x turns P)) (below i.settings.buckets)
        (λ b t. ap (count x) (found_keys i S.grouped (final_seeds i turns) b (below_elem b i.settings.buckets t)))
        ∙ sym (marked_total i x turns P)
