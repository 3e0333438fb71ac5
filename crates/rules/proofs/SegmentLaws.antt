-- The first free rotation of each segment suffices. Between wrap points a rotation moves every key of the bucket up, and the table never falls, so a
-- later rotation of a segment costs no less than an earlier one, and at the same cost (r, j) is for the earlier. Assumes nothing.
use mathlib.Core.Path.{◌≡◌, sym, ap, ◌∙◌}
use mathlib.Core.Logic.{◌⊎◌, inl, inr}
use mathlib.Core.Bool.{not, ◌&&◌, ◌||◌}
use mathlib.Core.List.{List, [], ◌∷◌, map}
use Prim.Native.Nat.{ℕ, suc, ◌+◌, ◌-◌, ◌*◌, ◌/◌, ◌%◌, ◌^◌, ◌<◌, ◌≤◌}
use native.Mathlib.Nat.{le_refl, le_trans, div-lt_iff_lt-mul}
use native.Mathlib.Omega.{arith}
use lib.Arith.{le→nltb}
use lib.Dec.{T, eqb, ltb, eqb_refl, lit≤}
use lib.Pow.{pow_pos}
use Rattle.integers.specs.Division.{mod_cases}
use Rattle.rules.specs.declared.Settings.{Settings}
use Rattle.rules.specs.Lists.{elem, sum}
use Rattle.rules.specs.Geometry.{layouts, ring_len, stride, position, first, entries}
use Rattle.rules.specs.Ring.{ring_offset, row_of}
use Rattle.rules.specs.Order.{Input, keys_of}
use Rattle.rules.specs.Seed.{Candidate, seed_of, slots_of, price, cost, cheaper}
use Rattle.rules.specs.Good.{Rising, Sound}
use Rattle.rules.proofs.Tests.{or_left, or_right, not_or, not_and_right}
use Rattle.rules.proofs.GeometryLaws.{entry_lt, ring_len_lem}
use Rattle.rules.proofs.RingLaws.{position_segment, offset_lt}
use Rattle.rules.proofs.CandidateLaws.{cost_candidate, candidate_of_number}

-- ---- wrap points

-- the row before any rotation is one of the ring
pub start_lt : (s : Settings) (r h : ℕ) → ring_offset s r h / 2 ^ stride s < ring_len s
start_lt s r h = (div-lt_iff_lt-mul {k = 2 ^ stride s} {x = ring_offset s r h} {y = ring_len s} (pow_pos (stride s))).1 (rw (ring_len_lem s) (offset_lt s r h))

-- key h wraps where rotation n - x comes up, with x its row before any rotation: not from j to j + d, if that is not above j and up to j + d
pub unwrapped : (s : Settings) (r h j d : ℕ) → j + d < ring_len s
    → (ring_len s - ring_offset s r h / 2 ^ stride s ≤ j) ⊎ (j + d < ring_len s - ring_offset s r h / 2 ^ stride s)
    → (k : ℕ) → j ≤ k → k < j + d → suc (row_of s r h k) < ring_len s
unfolding row_of
unwrapped s r h j d top side k lo hi = go side (mod_cases (ring_len s) (ring_offset s r h / 2 ^ stride s + k) (let a = start_lt s r h in omega arith))
  where
    x : ℕ
    x = ring_offset s r h / 2 ^ stride s

    go : (ring_len s - x ≤ j) ⊎ (j + d < ring_len s - x)
        → ((x + k < ring_len s) × ((x + k) % ring_len s ≡ x + k)) ⊎ ((ring_len s ≤ x + k) × ((x + k) % ring_len s ≡ x + k - ring_len s)) → suc ((x + k) % ring_len s) < ring_len s
    go (inl a) (inl m) = let l = m.0 in absurd (let z : ⊥ = omega arith in z)
    go (inl a) (inr m) = let l = m.0 in let e = m.1 in let y = start_lt s r h in omega arith
    go (inr a) (inl m) = let e = m.1 in omega arith
    go (inr a) (inr m) = let l = m.0 in absurd (let z : ⊥ = omega arith in z)

-- ---- costs

prices : (i : Input) (size b : ℕ) → Rising i.table size → (p q : ℕ → ℕ) (ks : List ℕ)
    → ((h : ℕ) → T (elem h ks) → (p h ≤ q h) × (q h - first i.settings b + 95 < size)) → sum (map (price i b) (map p ks)) ≤ sum (map (price i b) (map q ks))
unfolding Rising price
prices i size b R p q [] h = omega arith
prices i size b R p q (k ∷ ks) h =
    let w = h k (or_left (eqb k k) (elem k ks) (eqb_refl k)) in
    omega (arith, R (p k - first i.settings b + 95) (q k - first i.settings b + 95) (omega arith) w.1, prices i size b R p q ks (λ a t. h a (or_right (eqb a k) (elem a ks) t)))

-- a table that never falls prices higher slots no lower
pub cost_mono : (i : Input) (size : ℕ) → Rising i.table size → (b v u : ℕ)
    → ((h : ℕ) → T (elem h (keys_of i b)) → (position i.settings v h ≤ position i.settings u h) × (position i.settings u h - first i.settings b + 95 < size))
    → cost i b v ≤ cost i b u
unfolding cost slots_of
cost_mono i size R b v u h = prices i size b R (position i.settings v) (position i.settings u) (keys_of i b) h

-- no key of bucket b wraps between rotation j and rotation j + d of layout r
unfoldable pub Smooth : Input → (b r j d : ℕ) → Type 0
Smooth i b r j d = (h : ℕ) → T (elem h (keys_of i b)) → (k : ℕ) → j ≤ k → k < j + d → suc (row_of i.settings r h k) < ring_len i.settings

module _ (i : Input) (S : Sound i) where
  few : i.settings.buckets ≤ 2 ^ 64
  few = le_trans S.good.buckets_high (lit≤ tt)

  -- the cost of a candidate is that of its number
  pub cost_number : (b r j : ℕ) → r < layouts i.settings → j < ring_len i.settings → cost i b (seed_of i (record { r = r; j = j })) ≡ cost i b (j * layouts i.settings + r)
  cost_number b r j hr hj =
      sym (cost_candidate i b (j * layouts i.settings + r) ∙ ap (λ (c : Candidate). cost i b (seed_of i c)) (candidate_of_number i r j hr hj))

  pub segment_cost : (b r j d : ℕ) → b < i.settings.buckets → r < layouts i.settings → j + d < ring_len i.settings → Smooth i b r j d
      → cost i b (seed_of i (record { r = r; j = j })) ≤ cost i b (seed_of i (record { r = r; j = j + d }))
  unfolding Smooth
  segment_cost b r j d hb hr hd w =
      rw (cost_number b r j hr (omega arith), cost_number b r (j + d) hr hd)
      (cost_mono i (entries i.settings) S.priced.climbs b (j * layouts i.settings + r) ((j + d) * layouts i.settings + r)
      (λ h t. (position_segment i.settings r j d h hr (w h t), (entry_lt i.settings (omega arith) b h (S.grouped.home b hb h t) ((j + d) * layouts i.settings + r) hb few).1)))

  -- the first rotation of a segment that fits is not beaten by a later one
  pub segment_first : (b r j d : ℕ) → b < i.settings.buckets → r < layouts i.settings → j + d < ring_len i.settings → Smooth i b r j d
      → T (not (cheaper i b (record { r = r; j = j + d }) (record { r = r; j = j })))
  unfolding cheaper
  segment_first b r j d hb hr hd w =
      not_or (ltb late early) (not (ltb early late) && (ltb r r || (not (ltb r r) && ltb (j + d) j))) (le→nltb late early (segment_cost b r j d hb hr hd w))
      (not_and_right (not (ltb early late)) (ltb r r || (not (ltb r r) && ltb (j + d) j))
      (not_or (ltb r r) (not (ltb r r) && ltb (j + d) j) (le→nltb r r (le_refl r)) (not_and_right (not (ltb r r)) (ltb (j + d) j) (le→nltb (j + d) j (omega arith)))))
    where
      early : ℕ
      early = cost i b (seed_of i (record { r = r; j = j }))

      late : ℕ
      late = cost i b (seed_of i (record { r = r; j = j + d }))
