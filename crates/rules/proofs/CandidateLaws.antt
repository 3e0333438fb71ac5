-- Candidates and seeds: each nonzero seed v below 2^sb has the positions of the candidate (v mod L, v / L mod n), and each candidate's seed is such a
-- seed. The seed n·L stands for (0,0), which 0 would be; it is below 2^sb exactly where n < R, else (0,0) is barred. Assumes nothing.
use mathlib.Core.Path.{◌≡◌, refl, sym, ap, ◌∙◌, subst, fun_ext}
use mathlib.Core.Logic.{◌⊎◌, inl, inr, ◌≢◌}
use mathlib.Core.Bool.{not, ◌&&◌}
use mathlib.Core.List.Memᴰ
use mathlib.Core.List.{List, [], ◌∷◌, ◌++◌, map, Memᴰ}
use Prim.Native.Nat.{ℕ, ◌+◌, ◌*◌, ◌/◌, ◌%◌, ◌^◌, ◌<◌, ◌≤◌}
use native.Mathlib.Nat.{mod-lt, div-lt_iff_lt-mul, mod-eq_of_lt, div-add-mod', mul-pos, mul-le-mul_right, mul-lt-mul_of_pos_right}
use native.Mathlib.Omega.{arith}
use lib.Arith.{digits_lt, digits_div, digits_mod, lt_of_le-ne}
use lib.Dec.{T, T_not, not_T, eqb, eqb→eq}
use Rattle.rules.specs.Lists.{below}
use Rattle.rules.specs.Geometry.{layouts, ring_len, rotations, slice_of, stride, position}
use Rattle.rules.specs.Ring.{column_of, row_of}
use Rattle.rules.specs.Order.{Input, keys_of}
use Rattle.rules.specs.Seed.{Candidate, row, rows, is_first, barred, unbarred, candidates, seed_of, slots_of, fits, cost}
use Rattle.rules.proofs.Tests.{split, is_true, is_false, and_left, and_right, and_both, not_and_cases, neq, eq→eqb, mem_filter, filter_mem}
use Rattle.rules.proofs.Ranges.{mem_below, below_mem}
use Rattle.rules.proofs.GeometryLaws.{layouts_pos, ring_pos, rotations_all, ring_le}
use Rattle.rules.proofs.RingLaws.{position_ring, position_normal, normal, normal_small, normal_whole}

-- ---- the rows

rows_mem : (n : ℕ) (rs : List ℕ) (r j : ℕ) → Memᴰ r rs → j < n → Memᴰ {A = Candidate} (record { r = r; j = j }) (rows n rs)
rows_mem n [] r j m h = absurd (Memᴰ.not-nil m)
rows_mem n (q ∷ rs) r j m h = go (Memᴰ.cases_cons m) (λ k. rows_mem n rs r j k h)
  where
    go : (r ≡ q) ⊎ Memᴰ r rs → (Memᴰ r rs → Memᴰ {A = Candidate} (record { r = r; j = j }) (rows n rs)) → Memᴰ {A = Candidate} (record { r = r; j = j }) (row n q ++ rows n rs)
    go (inl e) ih = Memᴰ.append_left {s = row n q} (rows n rs) (rw (← e) (Memᴰ.map (λ (k : ℕ). record { r = r; j = k }) (mem_below j n h)))
    go (inr k) ih = Memᴰ.append_right (row n q) (ih k)

mem_rows : (n : ℕ) (rs : List ℕ) (c : Candidate) → Memᴰ c (rows n rs) → Memᴰ c.r rs × (c.j < n)
mem_rows n [] c m = absurd (Memᴰ.not-nil m)
mem_rows n (q ∷ rs) c m = go (Memᴰ.append_cases (row n q) m) (mem_rows n rs c)
  where
    go : Memᴰ c (row n q) ⊎ Memᴰ c (rows n rs) → (Memᴰ c (rows n rs) → Memᴰ c.r rs × (c.j < n)) → Memᴰ c.r (q ∷ rs) × (c.j < n)
    go (inl k) ih =
        let w = Memᴰ.of_map (λ (a : ℕ). record { r = q; j = a }) (below n) k in
        (Memᴰ.head (ap (λ (d : Candidate). d.r) (sym w.2)), subst (λ (d : Candidate). d.j < n) w.2 (below_mem w.0 n w.1))
    go (inr k) ih = (Memᴰ.tail (ih k).0, (ih k).1)

-- ---- (0,0)

pub is_first_lem : (c : Candidate) → T (is_first c) → (c.r ≡ 0) × (c.j ≡ 0)
unfolding is_first
is_first_lem c t = (eqb→eq c.r 0 (and_left (eqb c.r 0) (eqb c.j 0) t), eqb→eq c.j 0 (and_right (eqb c.r 0) (eqb c.j 0) t))

pub first_is : (c : Candidate) → c.r ≡ 0 → c.j ≡ 0 → T (is_first c)
unfolding is_first
first_is c er ej = and_both (eqb c.r 0) (eqb c.j 0) (eq→eqb c.r 0 er) (eq→eqb c.j 0 ej)

-- the number of any other candidate is no 0
not_first : (L : ℕ) (c : Candidate) → 0 < L → T (not (is_first c)) → 0 < c.j * L + c.r
unfolding is_first
not_first L c lp t = pick (not_and_cases (eqb c.r 0) (eqb c.j 0) t)
  where
    pick : T (not (eqb c.r 0)) ⊎ T (not (eqb c.j 0)) → 0 < c.j * L + c.r
    pick (inl u) = let d = neq c.r 0 u in omega arith
    pick (inr u) = let d = neq c.j 0 u in omega (arith, mul-pos {m = c.j} {n = L} (omega arith) lp)

module _ (i : Input) where
  abbrev L : ℕ
  L = layouts i.settings

  abbrev n : ℕ
  n = ring_len i.settings

  abbrev R : ℕ
  R = rotations i.settings

  -- each (r,j) that is not barred is a candidate
  pub in_candidates : (r j : ℕ) → r < layouts i.settings → j < ring_len i.settings → T (unbarred i (record { r = r; j = j }))
      → Memᴰ {A = Candidate} (record { r = r; j = j }) (candidates i)
  unfolding candidates
  in_candidates r j hr hj t = filter_mem (unbarred i) _ (rows_mem n _ r j (mem_below r L hr) hj) t

  -- what a candidate of the list is
  pub candidate_in : (c : Candidate) → Memᴰ c (candidates i) → (c.r < layouts i.settings) × (c.j < ring_len i.settings) × T (unbarred i c)
  unfolding candidates
  candidate_in c m =
      let f = mem_filter (unbarred i) _ m in
      let w = mem_rows n _ c f.0 in
      (below_mem c.r L w.0, w.1, f.1)

  -- the seed of (0,0), and of any other
  pub seed_first : (c : Candidate) → T (is_first c) → seed_of i c ≡ ring_len i.settings * layouts i.settings
  unfolding seed_of
  seed_first c t = rw (is_true (is_first c) t) refl

  pub seed_other : (c : Candidate) → T (not (is_first c)) → seed_of i c ≡ c.j * layouts i.settings + c.r
  unfolding seed_of
  seed_other c t = rw (is_false (is_first c) t) refl

  -- the seed of a candidate has the positions of j L + r
  pub seed_normal : (c : Candidate) → c.r < layouts i.settings → c.j < ring_len i.settings → normal i.settings (seed_of i c) ≡ c.j * layouts i.settings + c.r
  seed_normal c hr hj = go (split (is_first c))
    where
      go : T (is_first c) ⊎ T (not (is_first c)) → normal i.settings (seed_of i c) ≡ c.j * L + c.r
      go (inl t) = let z = is_first_lem c t in rw (seed_first c t) (normal_whole i.settings ∙ rw (z.0, z.1) (omega arith))
      go (inr t) = rw (seed_other c t) (normal_small i.settings c.r c.j hr hj)

  pub seed_position : (c : Candidate) (h : ℕ) → c.r < layouts i.settings → c.j < ring_len i.settings
      → position i.settings (seed_of i c) h ≡ position i.settings (c.j * layouts i.settings + c.r) h
  seed_position c h hr hj = position_normal i.settings (seed_of i c) h ∙ ap (λ (v : ℕ). position i.settings v h) (seed_normal c hr hj)

  -- the ring form of a candidate's positions
  pub candidate_ring : (c : Candidate) (h : ℕ) → c.r < layouts i.settings → c.j < ring_len i.settings
      → position i.settings (seed_of i c) h ≡ slice_of i.settings h + (column_of i.settings c.r h + row_of i.settings c.r h c.j * 2 ^ stride i.settings)
  candidate_ring c h hr hj = seed_position c h hr hj ∙ position_ring i.settings c.r c.j h hr

  -- the candidate of a seed
  unfoldable pub candidate_of : (v : ℕ) → Candidate
  candidate_of v = record { r = v % layouts i.settings; j = v / layouts i.settings % ring_len i.settings }

  pub candidate_of_number : (r j : ℕ) → r < layouts i.settings → j < ring_len i.settings → candidate_of (j * layouts i.settings + r) ≡ record { r = r; j = j }
  unfolding candidate_of
  candidate_of_number r j hr hj = λ k. record { r = digits_mod j hr k; j = place_is k }
    where
      place_is : (j * L + r) / L % n ≡ j
      place_is = ap (λ (q : ℕ). q % n) (digits_div j hr) ∙ mod-eq_of_lt hj

  -- every seed has the slots of its candidate, so it fits where that fits and costs as much
  pub slots_candidate : (b v : ℕ) → slots_of i b v ≡ slots_of i b (seed_of i (candidate_of v))
  unfolding slots_of candidate_of normal
  slots_candidate b v = ap (λ (f : ℕ → ℕ). map f (keys_of i b)) (fun_ext (λ h. position_normal i.settings v h ∙ sym (seed_position (candidate_of v) h (mod-lt v (layouts_pos i.settings)) (mod-lt (v / L) (ring_pos i.settings)))))

  pub fits_candidate : (marked : List ℕ) (b v : ℕ) → fits i marked b v ≡ fits i marked b (seed_of i (candidate_of v))
  unfolding fits
  fits_candidate marked b v = rw (slots_candidate b v) refl

  pub cost_candidate : (b v : ℕ) → cost i b v ≡ cost i b (seed_of i (candidate_of v))
  unfolding cost
  cost_candidate b v = rw (slots_candidate b v) refl

  -- (0,0) is barred when n = R, and nothing else is
  open_unbarred : (c : Candidate) → T (is_first c) → n ≡ R → T (unbarred i c) → ⊥
  unfolding unbarred barred
  open_unbarred c t e u = T_not (is_first c && eqb n R) u (and_both (is_first c) (eqb n R) t (eq→eqb n R e))

  unbarred_by : (c : Candidate) → (T (is_first c) → n ≡ R → ⊥) → T (unbarred i c)
  unfolding unbarred barred
  unbarred_by c h = not_T (is_first c && eqb n R) (λ t. h (and_left (is_first c) (eqb n R) t) (eqb→eq n R (and_right (is_first c) (eqb n R) t)))

  seed_zero : (v : ℕ) → n ≡ R → v / L < R → (candidate_of v).r ≡ 0 → (candidate_of v).j ≡ 0 → v ≡ 0
  unfolding candidate_of
  seed_zero v en lt er ej =
      let q : v / L ≡ 0 = sym (mod-eq_of_lt (rw en lt)) ∙ ej in
      sym (div-add-mod' v L) ∙ rw (q, er) (omega arith)

  module _ (ok : i.settings.ll < i.settings.sb) where
    all_seeds : R * L ≡ 2 ^ i.settings.sb
    all_seeds = rotations_all i.settings (omega arith)

    -- the candidate of a nonzero seed below 2^sb is not barred
    candidate_unbarred : (v : ℕ) → v ≢ 0 → v < 2 ^ i.settings.sb → T (unbarred i (candidate_of v))
    candidate_unbarred v ne lt = unbarred_by (candidate_of v) (λ t e. let z = is_first_lem (candidate_of v) t in ne (seed_zero v e in_ring z.0 z.1))
      where
        in_ring : v / L < R
        in_ring = (div-lt_iff_lt-mul {k = L} {x = v} {y = R} (layouts_pos i.settings)).1 (rw all_seeds lt)

    pub candidate_mem : (v : ℕ) → v ≢ 0 → v < 2 ^ i.settings.sb → Memᴰ (candidate_of v) (candidates i)
    unfolding candidate_of
    candidate_mem v ne lt =
        in_candidates (v % L) (v / L % n) (mod-lt v (layouts_pos i.settings)) (mod-lt (v / L) (ring_pos i.settings)) (candidate_unbarred v ne lt)

    -- a candidate's seed is no 0, and below 2^sb
    pub seed_range : (c : Candidate) → Memᴰ c (candidates i) → (0 < seed_of i c) × (seed_of i c < 2 ^ i.settings.sb)
    seed_range c m = go (split (is_first c))
      where
        le : n ≤ R
        le = ring_le i.settings (omega arith)

        lp : 0 < L
        lp = layouts_pos i.settings

        known : (c.r < L) × (c.j < n) × T (unbarred i c)
        known = candidate_in c m

        room : T (is_first c) → n < R
        room t = lt_of_le-ne le (λ e. open_unbarred c t e known.2)

        go : T (is_first c) ⊎ T (not (is_first c)) → (0 < seed_of i c) × (seed_of i c < 2 ^ i.settings.sb)
        go (inl t) = rw (seed_first c t) (mul-pos (ring_pos i.settings) lp, rw (← all_seeds) (mul-lt-mul_of_pos_right (room t) lp))
        go (inr t) = rw (seed_other c t) (not_first L c lp t, omega (arith, digits_lt {q = c.j} {m = n} {r = c.r} {c = L} known.1 known.0, mul-le-mul_right L le, all_seeds))
