-- What a ring key tells of its hash h: its two halves, and at each rotation j of layout r the row, the table entry and the slot of h under seed j·L + r.
-- Why: a position is the slice, the column and 2^t times the row (position_ring); the halves do not meet, because l is at most 2^16; and the slice of a
-- key of bucket b lies from first(b) to first(b) + p + 1.
-- Assumes nothing.
use Rattle.std.specs.Prelude.{◌≡◌, ℕ, suc, ◌+◌, ◌-◌, ◌*◌, ◌/◌, ◌%◌, ◌^◌, ◌≤◌, ◌<◌}
use Rattle.std.proofs.Math.Path.{refl}
use Rattle.std.proofs.Common.{sym, ap, ◌∙◌, arith, lt_of_le_of_lt, lt_of_lt_of_le, mul-div_cancel, div-mul-le_self, suc-mul, pow_pos, pow_mono}
use Rattle.std.proofs.Math.Nat.{lt_of_mul-lt-mul_right}
use Rattle.std.proofs.Math.Arith.{digits_div, digits_mod}
use Rattle.integers.specs.Division.{div_bounds}
use Rattle.rules.specs.declared.Settings.{Settings}
use Rattle.rules.specs.Geometry.{layouts, bucket_of, slice_of, first, position, stride, ring_len, entries}
use Rattle.rules.specs.Ring.{ring_offset, column_of, row_of}
use Rattle.rules.specs.Good.{Good}
use Rattle.rules.proofs.GeometryLaws.{len_high, slices_le, slice_lt, position_lt, stride_high, ring_len_lem, ring_pos, first_le, slice_near}
use Rattle.rules.proofs.RingLaws.{position_ring, column_lt, offset_lt}
use Rattle.rings.specs.Keys.{place_at, entry_at, slot_at, Key}
use Rattle.rings.specs.Place.{Within}
use Rattle.rings.specs.Level.{level_ring}
use Rattle.rings.specs.LevelLaws.{reach}
use Rattle.ring_keys.specs.RingKey.{ring_key, Home}

-- ---- the halves

-- the low half
low_lt : (s : Settings) → s.log2_slice_len ≤ 16 → (r h : ℕ) → ring_offset s r h / 2 ^ stride s * 2 ^ stride s < 65536
low_lt s short r h = lt_of_le_of_lt (div-mul-le_self (ring_offset s r h) (2 ^ stride s)) (omega (arith, offset_lt s r h, len_high s short))

module _ (s : Settings) (short : s.log2_slice_len ≤ 16) (start r h : ℕ) where
  pub high_half : ring_key s start r h / 2 ^ 32 ≡ slice_of s h + column_of s r h + 95 - start
  unfolding ring_key
  high_half = digits_div (slice_of s h + column_of s r h + 95 - start) (omega (arith, low_lt s short r h))

  pub low_half : ring_key s start r h % 2 ^ 32 ≡ ring_offset s r h / 2 ^ stride s * 2 ^ stride s
  unfolding ring_key
  low_half = digits_mod (slice_of s h + column_of s r h + 95 - start) (omega (arith, low_lt s short r h))

  -- the place before any rotation
  pub place_start : ring_key s start r h % 2 ^ 32 / 2 ^ stride s ≡ ring_offset s r h / 2 ^ stride s
  place_start = rw (low_half) (mul-div_cancel (ring_offset s r h / 2 ^ stride s) (pow_pos (stride s)))

  -- the place at rotation j
  pub place_is : (j : ℕ) → place_at (level_ring s) (ring_key s start r h) j ≡ row_of s r h j
  unfolding place_at level_ring row_of
  place_is j = rw (place_start) refl

-- ---- a hash of bucket b

last_row : (n w : ℕ) → 0 < n → (n - 1) * w + w ≡ n * w
last_row n w h = let e : suc (n - 1) ≡ n = omega arith in sym (suc-mul (n - 1) w) ∙ ap (λ (k : ℕ). k * w) e

module _ (s : Settings) (b start h : ℕ) (at : Home s b start h) where
  some : 0 < s.buckets
  some = omega (arith, at.inside)

  -- its slice is not before the bucket's first slot
  pub start_le : start ≤ slice_of s h
  start_le = rw at.begins (first_le s some b h at.home)

  pub home_small : h < 2 ^ 64
  unfolding bucket_of
  home_small =
      let f : h * s.buckets < b * 2 ^ 64 + 2 ^ 64 = (div_bounds (h * s.buckets) (2 ^ 64) b (pow_pos 64) at.home).1 in
      lt_of_mul-lt-mul_right s.buckets (lt_of_lt_of_le f more)
    where
      more : b * 2 ^ 64 + 2 ^ 64 ≤ 2 ^ 64 * s.buckets
      more = omega (arith, at.inside)

module _ (s : Settings) (good : Good s) (b start h : ℕ) (at : Home s b start h) where
  few : s.buckets ≤ 2 ^ 64
  few = omega (arith, good.buckets_high)

  -- what `rings` asks of a ring key
  pub key_ok : (r : ℕ) → Key start (ring_key s start r h)
  key_ok r = record {
    ahead = rw (high_half s good.slice_high start r h) (omega (arith, start_le s b start h at));
    low = below (ring_key s start r h) (omega (arith, high_half s good.slice_high start r h, slice_lt s h good.m_low (home_small s b start h at), slices_le s, good.m_high, column_lt s r h, width));
  }
    where
      width : 2 ^ stride s ≤ 2 ^ 16
      width = pow_mono (stride_high s good.slice_high)

      below : (d : ℕ) → d / 2 ^ 32 < 2 ^ 31 → d < 2 ^ 63
      below d l = omega arith

  module _ (r : ℕ) (lt : r < layouts s) where
    -- the entry of the table that rule S prices h by, under seed j·L + r
    pub entry_is : (j : ℕ) → entry_at (level_ring s) (ring_key s start r h) j ≡ position s (j * layouts s + r) h - first s b + 95
    unfolding entry_at level_ring
    entry_is j =
        rw (high_half s good.slice_high start r h, place_is s good.slice_high start r h j, position_ring s r j h lt, ← at.begins)
        (omega (arith, start_le s b start h at))

    -- the slot of h under seed j·L + r
    pub slot_is : (j : ℕ) → slot_at (level_ring s) start (ring_key s start r h) j ≡ position s (j * layouts s + r) h
    unfolding slot_at entry_at level_ring
    slot_is j =
        rw (high_half s good.slice_high start r h, place_is s good.slice_high start r h j, position_ring s r j h lt)
        (omega (arith, start_le s b start h at))

    -- it is one of the m slots
    pub slot_lt : (j : ℕ) → slot_at (level_ring s) start (ring_key s start r h) j < s.m
    slot_lt j = rw (slot_is j) (position_lt s (j * layouts s + r) h good.m_low (home_small s b start h at))

    -- it is in the stretch of the ring, where this begins at most a column before the first slot of a bucket o, and b is one of the 256 from o on
    pub slot_within : (base o j : ℕ) → base ≤ first s o → first s o < base + 64 * 2 ^ stride s → o ≤ b → b < o + 256
        → Within (level_ring s) base (slot_at (level_ring s) start (ring_key s start r h) j)
    slot_within base o j lo hi le near = rw (slot_is j) (reach s good base o b h (j * layouts s + r) lo hi le near at.inside at.home)

  -- the last entry that a rotation can need is one of the table's
  pub priced_is : (r : ℕ) → ring_key s start r h / 2 ^ 32 + ((level_ring s).n - 1) * 2 ^ (level_ring s).t < entries s
  unfolding entries level_ring
  priced_is r =
      rw (high_half s good.slice_high start r h)
      (omega (arith, slice_near s (some s b start h at) b h at.home at.inside few, at.begins, start_le s b start h at, column_lt s r h, ring_len_lem s, last_row (ring_len s) (2 ^ stride s) (ring_pos s)))
