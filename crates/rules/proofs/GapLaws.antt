-- Why a gap keeps chunks apart: a bucket's hashes lie in the slices from floor(b·ns/B) to floor((b+1)·ns/B), a position is less than l above its slice, and
-- a gap of buckets has at least l slices. So a key more than a gap further on has a higher slot whatever the seeds, and what is swept in one range does
-- not see what was marked by ranges that lie a gap away. Assumes nothing.
use mathlib.Core.Path.{◌≡◌, refl, sym, ap, ◌∙◌}
use mathlib.Core.Logic.{◌⊎◌, inl, inr}
use mathlib.Core.Bool.{Bool, not, cond, ◌&&◌, ◌||◌}
use mathlib.Core.List.Memᴰ
use mathlib.Core.List.{List, [], ◌∷◌, ◌++◌, map}
use Prim.Native.Nat.{ℕ, zero, suc, ◌+◌, ◌*◌, ◌/◌, ◌%◌, ◌^◌, ◌≤◌, ◌<◌}
use native.Mathlib.Nat.{le-div_iff_mul-le, le_of_mul-le-mul_right, mul-le-mul_left, mul-le-mul_right, mod-lt}
use native.Mathlib.Omega.{arith}
use lib.Dec.{T, T_not, not_T, eqb, eqb→eq, eqb_refl, lit<}
use Rattle.integers.specs.Division.{div_bounds, div_mono}
use Rattle.rules.specs.declared.Settings.{Settings}
use Rattle.rules.specs.Lists.{elem, all_free}
use Rattle.rules.specs.Geometry.{slice_len, slices, scale, layouts, bucket_of, slice_of, layout_offset, position}
use Rattle.rules.specs.Order.{Input, keys_of}
use Rattle.rules.specs.Good.{Good, Grouped}
use Rattle.rules.specs.Seed.{slots_of, fits, candidates, candidate_fits, seed_of, seed_for, seed_of_least, fitting}
use Rattle.rules.specs.Sweep.{Given, takes, given, marks, seed_in}
use Rattle.rules.specs.Chunks.{chunk_gap}
use Rattle.rules.proofs.Tests.{split, is_true, is_false, or_cases, or_left, or_right, not_or_left, not_or_right, neq, neq→neqb, elem_mem, mem_elem}
use Rattle.rules.proofs.Counting.{Under, count_append, elem_count, count_elem, not_elem_count}
use Rattle.rules.proofs.GeometryLaws.{len_pos, slices_pos}
use Rattle.rules.proofs.SetLaws.{filter_same}
use Rattle.rules.proofs.HoleLaws.{elem_append}
use Rattle.rules.proofs.SweepLaws.{given_append, seed_absent}

-- ---- slices

-- with W = 2^64, N slices and B buckets: h B < (b+1) W gives floor(h N / W) ≤ floor((b+1) N / B)
reach_by : (W N B b h : ℕ) → 0 < W → 0 < B → h * B < b * W + W → h * N / W ≤ (b + 1) * N / B
reach_by W N B b h w pos hb =
    let q : ℕ = h * N / W in
    let low : q * W ≤ h * N = (div_bounds (h * N) W q w refl).0 in
    (le-div_iff_mul-le {k = B} {x = q} {y = (b + 1) * N} pos).1
    (le_of_mul-le-mul_right {m = q * B} {n = (b + 1) * N} {k = W} (omega (arith, mul-le-mul_left B low, mul-le-mul_left N hb)) w)

-- b W ≤ h B gives floor(b N / B) ≤ floor(h N / W)
from_by : (W N B b h : ℕ) → 0 < W → 0 < B → b * W ≤ h * B → b * N / B ≤ h * N / W
from_by W N B b h w pos hb =
    let q : ℕ = b * N / B in
    let low : q * B ≤ b * N = (div_bounds (b * N) B q pos refl).0 in
    (le-div_iff_mul-le {k = W} {x = q} {y = h * N} w).1
    (le_of_mul-le-mul_right {m = q * W} {n = h * N} {k = B} (omega (arith, mul-le-mul_left W low, mul-le-mul_left N hb)) pos)

-- l B ≤ g N: g buckets further on there are l slices more
gap_by : (N B b l g : ℕ) → 0 < B → l * B ≤ g * N → b * N / B + l ≤ (b + g) * N / B
gap_by N B b l g pos h =
    let q : ℕ = b * N / B in
    let low : q * B ≤ b * N = (div_bounds (b * N) B q pos refl).0 in
    (le-div_iff_mul-le {k = B} {x = q + l} {y = (b + g) * N} pos).1 (omega arith)

module _ (s : Settings) (some : 0 < s.buckets) where
  -- gap·ns ≥ l·B
  pub gap_wide : 1 ≤ s.m → slice_len s * s.buckets ≤ chunk_gap s * slices s
  unfolding chunk_gap
  gap_wide big =
      let h = (div_bounds (slice_len s * s.buckets) (slices s) (slice_len s * s.buckets / slices s) (slices_pos s big) refl).1 in
      omega arith

  pub slice_reach : (b h : ℕ) → bucket_of s h ≡ b → slice_of s h ≤ (b + 1) * slices s / s.buckets
  unfolding slice_of bucket_of
  slice_reach b h home = reach_by (2 ^ 64) (slices s) s.buckets b h (lit< tt) some (div_bounds (h * s.buckets) (2 ^ 64) b (lit< tt) home).1

  pub slice_from : (b h : ℕ) → bucket_of s h ≡ b → b * slices s / s.buckets ≤ slice_of s h
  unfolding slice_of bucket_of
  slice_from b h home = from_by (2 ^ 64) (slices s) s.buckets b h (lit< tt) some (div_bounds (h * s.buckets) (2 ^ 64) b (lit< tt) home).0

  -- the last slot that a bucket b can reach lies before the first slice of b + 1 + gap
  pub gap_lemma : 1 ≤ s.m → (b : ℕ) → (b + 1) * slices s / s.buckets + slice_len s ≤ (b + 1 + chunk_gap s) * slices s / s.buckets
  gap_lemma big b = gap_by (slices s) s.buckets (b + 1) (slice_len s) (chunk_gap s) some (gap_wide big)

  pub position_reach : (b h v : ℕ) → bucket_of s h ≡ b → position s v h < (b + 1) * slices s / s.buckets + slice_len s
  unfolding position
  position_reach b h v home = omega (arith, slice_reach b h home, mod-lt (layout_offset s (v % layouts s) h + v * 2 ^ scale s) (len_pos s))

  pub position_from : (b h v : ℕ) → bucket_of s h ≡ b → b * slices s / s.buckets ≤ position s v h
  unfolding position
  position_from b h v home = omega (arith, slice_from b h home)

  -- more than a gap further on, every slot is higher, whatever the seeds
  pub gap_apart : 1 ≤ s.m → (a b h k u v : ℕ) → a + chunk_gap s < b → bucket_of s h ≡ a → bucket_of s k ≡ b → position s u h < position s v k
  gap_apart big a b h k u v far ha hb =
      let up : (a + 1 + chunk_gap s) * slices s / s.buckets ≤ b * slices s / s.buckets = div_mono s.buckets some (mul-le-mul_right (slices s) (omega arith)) in
      omega (arith, position_reach a h u ha, gap_lemma big a, position_from b k v hb)

-- ---- what a bucket sees of the marked slots

-- alike on the slots that bucket b can take
abbrev pub Alike : Input → List ℕ → List ℕ → (b : ℕ) → Type 0
Alike i xs ys b = (v x : ℕ) → T (elem x (slots_of i b v)) → elem x xs ≡ elem x ys

free_alike : (xs ys zs : List ℕ) → ((x : ℕ) → T (elem x zs) → elem x xs ≡ elem x ys) → all_free xs zs ≡ all_free ys zs
free_alike xs ys [] h = refl
free_alike xs ys (z ∷ zs) h =
    rw (h z (or_left (eqb z z) (elem z zs) (eqb_refl z))) (ap (λ (c : Bool). not (elem z ys) && c) (free_alike xs ys zs (λ x t. h x (or_right (eqb x z) (elem x zs) t))))

append_alike : (x : ℕ) (zs xs ys : List ℕ) → elem x xs ≡ elem x ys → elem x (zs ++ xs) ≡ elem x (zs ++ ys)
append_alike x [] xs ys h = h
append_alike x (z ∷ zs) xs ys h = ap (λ (c : Bool). eqb x z || c) (append_alike x zs xs ys h)

module _ (i : Input) where
  fits_alike : (xs ys : List ℕ) (b : ℕ) → Alike i xs ys b → (v : ℕ) → fits i xs b v ≡ fits i ys b v
  unfolding fits
  fits_alike xs ys b h v = rw (free_alike xs ys (slots_of i b v) (h v)) refl

  pub seed_alike : (xs ys : List ℕ) (b : ℕ) → Alike i xs ys b → seed_for i xs b ≡ seed_for i ys b
  unfolding seed_for fitting candidate_fits
  seed_alike xs ys b h = ap (seed_of_least i b) (filter_same (candidate_fits i xs b) (candidate_fits i ys b) (λ c. fits_alike xs ys b h (seed_of i c)) (candidates i))

  pub given_alike : (bs xs ys : List ℕ) → ((b : ℕ) → T (elem b bs) → Alike i xs ys b) → given i xs bs ≡ given i ys bs
  unfolding given
  given_alike [] xs ys h = refl
  given_alike (b ∷ bs) xs ys h =
      rw (seed_alike xs ys b (h b (or_left (eqb b b) (elem b bs) (eqb_refl b))))
      (ap (λ (l : List Given). record { bucket = b; seed = seed_for i ys b } ∷ l)
      (given_alike bs (takes i b (seed_for i ys b) ++ xs) (takes i b (seed_for i ys b) ++ ys)
      (λ c t v x u. append_alike x (takes i b (seed_for i ys b)) xs ys (h c (or_right (eqb c b) (elem c bs) t) v x u))))

  -- a slot that turns marked is one of a bucket of theirs
  pub marks_from : (bs marked : List ℕ) (x : ℕ) → T (elem x (marks i marked bs)) → T (elem x marked) ⊎ ((b : ℕ) × (v : ℕ) × T (elem b bs) × T (elem x (slots_of i b v)))
  unfolding marks takes
  marks_from [] marked x t = inl t
  marks_from (b ∷ bs) marked x t = go (marks_from bs (takes i b (seed_for i marked b) ++ marked) x t)
    where
      taken : (v : ℕ) → T (elem x (takes i b v)) → T (elem x (slots_of i b v))
      taken zero u = absurd u
      taken (suc v) u = u

      first : T (elem x (takes i b (seed_for i marked b))) ⊎ T (elem x marked) → T (elem x marked) ⊎ ((c : ℕ) × (v : ℕ) × T (elem c (b ∷ bs)) × T (elem x (slots_of i c v)))
      first (inl u) = inr (b, seed_for i marked b, or_left (eqb b b) (elem b bs) (eqb_refl b), taken (seed_for i marked b) u)
      first (inr u) = inl u

      go : T (elem x (takes i b (seed_for i marked b) ++ marked)) ⊎ ((c : ℕ) × (v : ℕ) × T (elem c bs) × T (elem x (slots_of i c v)))
          → T (elem x marked) ⊎ ((c : ℕ) × (v : ℕ) × T (elem c (b ∷ bs)) × T (elem x (slots_of i c v)))
      go (inl u) = first (elem_append x (takes i b (seed_for i marked b)) marked u)
      go (inr w) = inr (w.0, w.1, or_right (eqb w.0 b) (elem w.0 bs) w.2, w.3)

  -- and what was marked stays so
  pub marks_keep : (bs marked : List ℕ) (x : ℕ) → T (elem x marked) → T (elem x (marks i marked bs))
  unfolding marks
  marks_keep [] marked x t = t
  marks_keep (b ∷ bs) marked x t =
      marks_keep bs (takes i b (seed_for i marked b) ++ marked) x (count_elem x (takes i b (seed_for i marked b) ++ marked) (omega (arith, elem_count x marked t, count_append x (takes i b (seed_for i marked b)) marked)))

-- ---- buckets more than a gap apart

abbrev pub Far : (g : ℕ) → (a b : ℕ) → Type 0
Far g a b = (a + g < b) ⊎ (b + g < a)

-- each of one list is far from each of the other
abbrev pub FarOff : (g : ℕ) → List ℕ → List ℕ → Type 0
FarOff g xs ys = (a b : ℕ) → T (elem a xs) → T (elem b ys) → Far g a b

module _ (i : Input) (good : Good i.settings) (G : Grouped i) where
  some_buckets : 0 < i.settings.buckets
  some_buckets = let o = good.odd in omega arith

  -- they never share a slot
  pub far_slots : (a b : ℕ) → a < i.settings.buckets → b < i.settings.buckets → Far (chunk_gap i.settings) a b → (u v x : ℕ) → T (elem x (slots_of i a u)) → T (elem x (slots_of i b v)) → ⊥
  unfolding slots_of
  far_slots a b ha hb far u v x s t =
      let one = Memᴰ.of_map (position i.settings u) (keys_of i a) (elem_mem x (map (position i.settings u) (keys_of i a)) s) in
      let two = Memᴰ.of_map (position i.settings v) (keys_of i b) (elem_mem x (map (position i.settings v) (keys_of i b)) t) in
      let home = G.home a ha one.0 (mem_elem one.1) in
      let away = G.home b hb two.0 (mem_elem two.1) in
      elim far [
        | inl l ↦ omega (arith, one.2, two.2, gap_apart i.settings some_buckets good.m_low a b one.0 two.0 u v l home away)
        | inr l ↦ omega (arith, one.2, two.2, gap_apart i.settings some_buckets good.m_low b a two.0 one.0 v u l away home)
      ]

  -- what far buckets marked is not seen
  pub given_far : (pre bs marked : List ℕ) → Under i.settings.buckets pre → Under i.settings.buckets bs → FarOff (chunk_gap i.settings) pre bs
      → given i (marks i marked pre) bs ≡ given i marked bs
  given_far pre bs marked low high far = given_alike i bs (marks i marked pre) marked (λ b t v x u. same b t v x u (split (elem x marked)) (split (elem x (marks i marked pre))))
    where
      same : (b : ℕ) → T (elem b bs) → (v x : ℕ) → T (elem x (slots_of i b v)) → T (elem x marked) ⊎ T (not (elem x marked)) → T (elem x (marks i marked pre)) ⊎ T (not (elem x (marks i marked pre)))
          → elem x (marks i marked pre) ≡ elem x marked
      same b t v x u (inl p) (inl q) = is_true (elem x (marks i marked pre)) q ∙ sym (is_true (elem x marked) p)
      same b t v x u (inl p) (inr q) = absurd (T_not (elem x (marks i marked pre)) q (marks_keep i pre marked x p))
      same b t v x u (inr p) (inl q) = elim (marks_from i pre marked x q) [
        | inl w ↦ absurd (T_not (elem x marked) p w)
        | inr w ↦ absurd (far_slots w.0 b (low w.0 w.2) (high b t) (far w.0 b w.2 t) w.1 v x w.3 u)
      ]
      same b t v x u (inr p) (inr q) = is_false (elem x (marks i marked pre)) q ∙ sym (is_false (elem x marked) p)

-- ---- one list, then another

seed_first : (i : Input) (xs marked : List ℕ) (gs : List Given) (b : ℕ) → T (elem b xs) → seed_in (given i marked xs ++ gs) b ≡ seed_in (given i marked xs) b
unfolding given seed_in
seed_first i [] marked gs b t = absurd t
seed_first i (x ∷ xs) marked gs b t = go (split (eqb x b)) (seed_first i xs (takes i x (seed_for i marked x) ++ marked) gs b)
  where
    v : ℕ
    v = seed_for i marked x

    rest : List Given
    rest = given i (takes i x v ++ marked) xs

    go : T (eqb x b) ⊎ T (not (eqb x b)) → (T (elem b xs) → seed_in (rest ++ gs) b ≡ seed_in rest b) → cond (eqb x b) v (seed_in (rest ++ gs) b) ≡ cond (eqb x b) v (seed_in rest b)
    go (inl e) ih = rw (is_true (eqb x b) e) refl
    go (inr n) ih = rw (is_false (eqb x b) n) (ih (elim (or_cases (eqb b x) (elem b xs) t) [ inl e ↦ absurd (neq x b n (sym (eqb→eq b x e))) | inr u ↦ u ]))

seed_skip : (i : Input) (xs marked : List ℕ) (gs : List Given) (b : ℕ) → T (not (elem b xs)) → seed_in (given i marked xs ++ gs) b ≡ seed_in gs b
unfolding given seed_in
seed_skip i [] marked gs b t = refl
seed_skip i (x ∷ xs) marked gs b t = go (seed_skip i xs (takes i x (seed_for i marked x) ++ marked) gs b (not_or_right (eqb b x) (elem b xs) t))
  where
    v : ℕ
    v = seed_for i marked x

    rest : List Given
    rest = given i (takes i x v ++ marked) xs

    go : seed_in (rest ++ gs) b ≡ seed_in gs b → cond (eqb x b) v (seed_in (rest ++ gs) b) ≡ seed_in gs b
    go ih = rw (is_false (eqb x b) (neq→neqb x b (λ e. neq b x (not_or_left (eqb b x) (elem b xs) t) (sym e)))) ih

module _ (i : Input) (good : Good i.settings) (G : Grouped i) (xs ys : List ℕ) (low : Under i.settings.buckets xs) (high : Under i.settings.buckets ys)
    (far : FarOff (chunk_gap i.settings) xs ys) where
  back : FarOff (chunk_gap i.settings) ys xs
  back a b s t = elim (far b a t s) [ inl l ↦ inr l | inr l ↦ inl l ]

  -- far lists one after the other: each as if alone
  pub given_both : (marked : List ℕ) → given i marked (xs ++ ys) ≡ given i marked xs ++ given i marked ys
  given_both marked = given_append i xs ys marked ∙ ap (λ (l : List Given). given i marked xs ++ l) (given_far i good G xs ys marked low high far)

  given_back : (marked : List ℕ) → given i marked (ys ++ xs) ≡ given i marked ys ++ given i marked xs
  given_back marked = given_append i ys xs marked ∙ ap (λ (l : List Given). given i marked ys ++ l) (given_far i good G ys xs marked high low back)

  -- so either may be swept first
  pub either_order : (marked : List ℕ) (b : ℕ) → seed_in (given i marked (xs ++ ys)) b ≡ seed_in (given i marked (ys ++ xs)) b
  either_order marked b =
      ap (λ (l : List Given). seed_in l b) (given_both marked) ∙ go (split (elem b xs)) (split (elem b ys)) ∙ sym (ap (λ (l : List Given). seed_in l b) (given_back marked))
    where
      not_both : T (elem b xs) → T (not (elem b ys))
      not_both t = not_T (elem b ys) (λ u. elim (far b b t u) [ inl l ↦ omega arith | inr l ↦ omega arith ])

      go : T (elem b xs) ⊎ T (not (elem b xs)) → T (elem b ys) ⊎ T (not (elem b ys)) → seed_in (given i marked xs ++ given i marked ys) b ≡ seed_in (given i marked ys ++ given i marked xs) b
      go (inl t) u = seed_first i xs marked (given i marked ys) b t ∙ sym (seed_skip i ys marked (given i marked xs) b (not_both t))
      go (inr t) (inl u) = seed_skip i xs marked (given i marked ys) b t ∙ sym (seed_first i ys marked (given i marked xs) b u)
      go (inr t) (inr u) =
          seed_skip i xs marked (given i marked ys) b t ∙ seed_absent i ys b marked (not_elem_count b ys u)
          ∙ sym (seed_skip i ys marked (given i marked xs) b u ∙ seed_absent i xs b marked (not_elem_count b xs t))
