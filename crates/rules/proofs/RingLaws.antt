-- The ring form of a position: rotation j of layout r moves a key j rows on and leaves its column. It holds because L·2^scale, what one rotation adds,
-- is 2^t or a multiple of the slice length. So a seed's positions are those of its layout and of its rotation modulo n. Assumes nothing.
use mathlib.Core.Path.{◌≡◌, refl, sym, ap, ◌∙◌}
use Prim.Native.Nat.{ℕ, zero, suc, ◌+◌, ◌*◌, ◌/◌, ◌%◌, ◌^◌, ◌<◌, ◌≤◌}
use native.Mathlib.Nat.{add-zero, add-suc, mod-lt, suc-mod, mod-add-mod, add-mod-mod, mod_self, mod-eq_of_lt, mul-div_cancel, mul-mod_left, div-add-mod', le_trans, le_refl, mul-le-mul_right}
use native.Mathlib.Omega.{arith}
use lib.Arith.{digits_div, digits_mod}
use lib.Pow.{pow-add, pow_pos}
use Rattle.integers.specs.Division.{turn}
use Rattle.rules.specs.declared.Settings.{Settings}
use Rattle.rules.specs.Geometry.{slice_len, log_len, scale, layouts, stride, ring_len, slice_of, layout_offset, position}
use Rattle.rules.specs.Ring.{ring_offset, column_of, row_of}
use Rattle.rules.proofs.GeometryLaws.{len_pow, len_pos, ring_pow, ring_pos, layouts_pos}

-- the seed's own part, split: o + (j L + r) S is o + r S and j times L S
regroup : (o j L r S : ℕ) → o + (j * L + r) * S ≡ o + r * S + j * (L * S)
regroup o j L r S = omega arith

module _ (s : Settings) where
  step : layouts s * 2 ^ scale s ≡ 2 ^ (s.ll + scale s)
  unfolding layouts
  step = sym (pow-add 2 s.ll (scale s))

  on_ring : (x j : ℕ) → (x + j * 2 ^ (s.ll + scale s)) % slice_len s ≡ x % 2 ^ stride s + (x / 2 ^ stride s + j) % ring_len s * 2 ^ stride s
  unfolding stride
  on_ring x j = rw (len_pow s, ring_pow s) (turn (log_len s) (s.ll + scale s) x j)

  -- a row that does not wrap goes one up
  pub row_next : (r j h : ℕ) → suc (row_of s r h j) < ring_len s → row_of s r h (suc j) ≡ suc (row_of s r h j)
  unfolding row_of
  row_next r j h k =
      ap (λ (n : ℕ). n % ring_len s) (add-suc (ring_offset s r h / 2 ^ stride s) j) ∙ suc-mod (ring_offset s r h / 2 ^ stride s + j) (ring_len s) ∙ mod-eq_of_lt k

  row_climbs : (r j h : ℕ) → suc (row_of s r h j) < ring_len s → row_of s r h j ≤ row_of s r h (suc j)
  row_climbs r j h k = omega (arith, row_next r j h k)

  pub position_ring : (r j h : ℕ) → r < layouts s → position s (j * layouts s + r) h ≡ slice_of s h + (column_of s r h + row_of s r h j * 2 ^ stride s)
  unfolding position column_of row_of ring_offset
  position_ring r j h lt =
      ap (λ (n : ℕ). slice_of s h + (layout_offset s n h + (j * layouts s + r) * 2 ^ scale s) % slice_len s) (digits_mod j lt)
      ∙ ap (λ (n : ℕ). slice_of s h + n)
      (ap (λ (n : ℕ). n % slice_len s) (regroup (layout_offset s r h) j (layouts s) r (2 ^ scale s) ∙ ap (λ (n : ℕ). layout_offset s r h + r * 2 ^ scale s + j * n) step)
      ∙ sym (mod-add-mod (layout_offset s r h + r * 2 ^ scale s) (slice_len s) (j * 2 ^ (s.ll + scale s)))
      ∙ on_ring (ring_offset s r h) j)

  -- any seed v, by its layout v mod L and its rotation v / L
  pub position_by : (v h : ℕ) → position s v h ≡ slice_of s h + (column_of s (v % layouts s) h + row_of s (v % layouts s) h (v / layouts s) * 2 ^ stride s)
  position_by v h =
      ap (λ (k : ℕ). position s k h) (sym (div-add-mod' v (layouts s))) ∙ position_ring (v % layouts s) (v / layouts s) h (mod-lt v (layouts_pos s))

  pub column_lt : (r h : ℕ) → column_of s r h < 2 ^ stride s
  unfolding column_of
  column_lt r h = mod-lt (ring_offset s r h) (pow_pos (stride s))

  pub row_lt : (r h j : ℕ) → row_of s r h j < ring_len s
  unfolding row_of
  row_lt r h j = mod-lt (ring_offset s r h / 2 ^ stride s + j) (ring_pos s)

  pub offset_lt : (r h : ℕ) → ring_offset s r h < slice_len s
  unfolding ring_offset
  offset_lt r h = mod-lt (layout_offset s r h + r * 2 ^ scale s) (len_pos s)

  -- n rotations come back to the start
  pub row_mod : (r h j : ℕ) → row_of s r h (j % ring_len s) ≡ row_of s r h j
  unfolding row_of
  row_mod r h j = add-mod-mod (ring_offset s r h / 2 ^ stride s) j (ring_len s)

  -- the seed of the same layout and the same place on the ring
  unfoldable pub normal : (v : ℕ) → ℕ
  normal v = v / layouts s % ring_len s * layouts s + v % layouts s

  pub position_normal : (v h : ℕ) → position s v h ≡ position s (normal v) h
  unfolding normal
  position_normal v h =
      position_by v h
      ∙ ap (λ (k : ℕ). slice_of s h + (column_of s (v % layouts s) h + k * 2 ^ stride s)) (sym (row_mod (v % layouts s) h (v / layouts s)))
      ∙ sym (position_ring (v % layouts s) (v / layouts s % ring_len s) h (mod-lt v (layouts_pos s)))

  pub normal_small : (r j : ℕ) → r < layouts s → j < ring_len s → normal (j * layouts s + r) ≡ j * layouts s + r
  unfolding normal
  normal_small r j hr hj = rw (digits_div j hr, digits_mod j hr, mod-eq_of_lt hj) refl

  pub normal_whole : normal (ring_len s * layouts s) ≡ 0
  unfolding normal
  normal_whole = rw (mul-div_cancel (ring_len s) (layouts_pos s), mul-mod_left (ring_len s) (layouts s), mod_self (ring_len s)) (omega arith)

  -- ---- between wrap points

  -- a rotation that does not wrap key h moves it up
  pub position_climbs : (r j h : ℕ) → r < layouts s → suc (row_of s r h j) < ring_len s → position s (j * layouts s + r) h ≤ position s (suc j * layouts s + r) h
  position_climbs r j h lt k =
      rw (position_ring r j h lt, position_ring r (suc j) h lt) (omega (arith, mul-le-mul_right (2 ^ stride s) (row_climbs r j h k)))

  -- d rotations on
  pub position_segment : (r j d h : ℕ) → r < layouts s → ((k : ℕ) → j ≤ k → k < j + d → suc (row_of s r h k) < ring_len s)
      → position s (j * layouts s + r) h ≤ position s ((j + d) * layouts s + r) h
  position_segment r j zero h lt w = rw (add-zero j) (le_refl (position s (j * layouts s + r) h))
  position_segment r j (suc d) h lt w =
      rw (add-suc j d)
      (le_trans (position_segment r j d h lt (λ k a c. w k a (omega arith))) (position_climbs r (j + d) h lt (w (j + d) (omega arith) (omega arith))))
