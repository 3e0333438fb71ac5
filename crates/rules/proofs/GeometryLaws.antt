-- Rule G. The slice length is a power of two, at most m; so there is a slice, a hash's slice is below their number and its position below m. The ring
-- length is a power of two, at most R, and n strides make a slice. A bucket's hashes lie in the slices from first(b) to first(b) + p + 1, so each
-- position has an entry in the table. Assumes nothing.
use mathlib.Core.Path.{◌≡◌, refl, sym, ap, ◌∙◌}
use Prim.Native.Nat.{ℕ, zero, suc, ◌+◌, ◌-◌, ◌*◌, ◌/◌, ◌%◌, ◌^◌, ◌<◌, ◌≤◌, min}
use native.Mathlib.Nat.{le_of_suc-le-suc, le_trans, min-le_left, mod-lt, div-lt_iff_lt-mul, mul-lt-mul_of_pos_left, mul_comm, le_of_mul-le-mul_right, lt_of_mul-lt-mul_right, mul-le-mul_left, mul-le-mul_right}
use native.Mathlib.Omega.{arith}
use lib.Dec.{lit<}
use lib.Pow.{pow_pos, pow_mono}
use Rattle.integers.specs.Power.{log_up, least_power}
use Rattle.integers.specs.PowerLaws.{log_up_pow, min_least_power, least_power_tight}
use Rattle.integers.specs.Division.{div_bounds, div_mono, ceil_bounds, pow_split, pow_div}
use Rattle.rules.specs.declared.Settings.{Settings}
use Rattle.rules.specs.Geometry.{slice_len, log_len, slices, scale, layouts, stride, ring_len, rotations, bucket_of, slice_of, layout_offset, position, first, quotient, per_bucket, entries}

-- ---- lengths

-- a power of two that is at most twice the half of m, and one more, is at most m
half_pow : (m k : ℕ) → 1 ≤ m → 2 ^ k ≤ 2 * (m / 2 + 1 - 1) + 1 → 2 ^ k ≤ m
half_pow m zero h e = h
half_pow m (suc k) h e = omega arith

module _ (s : Settings) where
  pub log_len_is : log_len s ≡ min (log_up (s.m / 2 + 1)) s.log2_slice_len
  unfolding log_len slice_len
  log_len_is = ap log_up (min_least_power (s.m / 2 + 1) s.log2_slice_len) ∙ log_up_pow (min (log_up (s.m / 2 + 1)) s.log2_slice_len)

  -- l is 2 to its logarithm
  pub len_pow : slice_len s ≡ 2 ^ log_len s
  unfolding slice_len
  len_pow = min_least_power (s.m / 2 + 1) s.log2_slice_len ∙ ap (λ (k : ℕ). 2 ^ k) (sym log_len_is)

  pub log_len_le : log_len s ≤ s.log2_slice_len
  log_len_le = omega (arith, log_len_is)

  pub len_pos : 0 < slice_len s
  len_pos = rw len_pow (pow_pos (log_len s))

  pub len_le_m : 1 ≤ s.m → slice_len s ≤ s.m
  unfolding slice_len least_power
  len_le_m h = le_trans (min-le_left (least_power (s.m / 2 + 1)) (2 ^ s.log2_slice_len)) (half_pow s.m (log_up (s.m / 2 + 1)) h (least_power_tight (s.m / 2 + 1)))

  pub len_high : s.log2_slice_len ≤ 16 → slice_len s ≤ 65536
  len_high h = rw len_pow (pow_mono {j = 16} (omega (arith, log_len_le)))

  -- ns and l make m + 1
  pub slices_len : 1 ≤ s.m → slices s + slice_len s ≡ s.m + 1
  unfolding slices
  slices_len h = omega (arith, len_le_m h)

  pub slices_pos : 1 ≤ s.m → 1 ≤ slices s
  slices_pos h = omega (arith, slices_len h, len_le_m h)

  pub slices_le : slices s ≤ s.m
  unfolding slices
  slices_le = omega (arith, len_pos)

  pub layouts_pos : 0 < layouts s
  unfolding layouts
  layouts_pos = pow_pos s.ll

  -- ---- positions

  pub slice_lt : (h : ℕ) → 1 ≤ s.m → h < 2 ^ 64 → slice_of s h < slices s
  unfolding slice_of
  slice_lt h k lt = (div-lt_iff_lt-mul {k = 2 ^ 64} {x = h * slices s} {y = slices s} (lit< tt)).1
      (rw (mul_comm h (slices s)) (mul-lt-mul_of_pos_left lt (slices_pos k)))

  -- every position lies below m
  pub position_lt : (v h : ℕ) → 1 ≤ s.m → h < 2 ^ 64 → position s v h < s.m
  unfolding position
  position_lt v h k lt = omega (arith, slice_lt h k lt, slices_len k, mod-lt (layout_offset s (v % layouts s) h + v * 2 ^ scale s) len_pos)

  -- ---- the ring

  pub stride_le : stride s ≤ log_len s
  unfolding stride
  stride_le = omega arith

  pub stride_high : s.log2_slice_len ≤ 16 → stride s ≤ 16
  stride_high h = omega (arith, stride_le, log_len_le)

  -- n is a power of two
  pub ring_pow : ring_len s ≡ 2 ^ (log_len s - stride s)
  unfolding ring_len
  ring_pow = ap (λ (n : ℕ). n / 2 ^ stride s) len_pow ∙ pow_div (log_len s) (stride s) stride_le

  pub ring_pos : 0 < ring_len s
  ring_pos = rw ring_pow (pow_pos (log_len s - stride s))

  -- n strides make a slice
  pub ring_len_lem : ring_len s * 2 ^ stride s ≡ slice_len s
  ring_len_lem = rw (ring_pow, len_pow) (sym (pow_split (log_len s) (stride s) stride_le))

  -- L R is 2 ^ sb
  pub rotations_pow : s.ll ≤ s.sb → rotations s ≡ 2 ^ (s.sb - s.ll)
  unfolding rotations layouts
  rotations_pow h = pow_div s.sb s.ll h

  pub rotations_all : s.ll ≤ s.sb → rotations s * layouts s ≡ 2 ^ s.sb
  unfolding layouts
  rotations_all h = rw (rotations_pow h) (sym (pow_split s.sb s.ll h))

  -- always n ≤ R
  pub ring_le : s.ll ≤ s.sb → ring_len s ≤ rotations s
  unfolding stride scale
  ring_le h = rw (ring_pow, rotations_pow h) (pow_mono (omega arith))

-- ---- where a bucket's slots are: from first(b) on, at most p + 1 + l of them

-- with W = 2^64, N slices and B buckets: b W ≤ h B, Q B ≤ N W give b Q ≤ h N
low_by : (W N B Q b h : ℕ) → 0 < B → b * W ≤ h * B → Q * B ≤ N * W → b * Q ≤ h * N
low_by W N B Q b h pos hb hq = le_of_mul-le-mul_right {m = b * Q} {n = h * N} {k = B} (omega (arith, mul-le-mul_left N hb, mul-le-mul_left b hq)) pos

-- h B < (b+1) W, N W < Q B + B, b Q < (F+1) W, N ≤ p B, b < B ≤ W give h N < (F + p + 2) W
high_by : (W N B Q b h F p : ℕ) → 0 < B → h * B < b * W + W → N * W < Q * B + B → b * Q < F * W + W → N ≤ p * B → b < B → B ≤ W → h * N < (F + p + 2) * W
high_by W N B Q b h F p pos hb hq hf hp lt le = lt_of_mul-lt-mul_right B {m = h * N} {n = (F + p + 2) * W}
    (omega (arith, mul-le-mul_left N hb, mul-le-mul_left b hq, mul-le-mul_right B hf, mul-le-mul_left W hp, mul-le-mul_right B lt, mul-le-mul_left B le))

module _ (s : Settings) (some : 0 < s.buckets) (b h : ℕ) (home : bucket_of s h ≡ b) where
  pub first_le : first s b ≤ slice_of s h
  unfolding first slice_of quotient bucket_of
  first_le = div_mono (2 ^ 64) (lit< tt)
      (low_by (2 ^ 64) (slices s) s.buckets (quotient s) b h some (div_bounds (h * s.buckets) (2 ^ 64) b (lit< tt) home).0
      (div_bounds (slices s * 2 ^ 64) s.buckets (quotient s) some refl).0)

  pub slice_near : b < s.buckets → s.buckets ≤ 2 ^ 64 → slice_of s h ≤ first s b + per_bucket s + 1
  unfolding first slice_of quotient bucket_of per_bucket
  slice_near lt le =
      le_of_suc-le-suc (le_trans ((div-lt_iff_lt-mul {k = 2 ^ 64} {x = h * slices s} {y = first s b + per_bucket s + 2} (lit< tt)).1
      (high_by (2 ^ 64) (slices s) s.buckets (quotient s) b h (first s b) (per_bucket s) some
      (div_bounds (h * s.buckets) (2 ^ 64) b (lit< tt) home).1 (div_bounds (slices s * 2 ^ 64) s.buckets (quotient s) some refl).1
      (div_bounds (b * quotient s) (2 ^ 64) (first s b) (lit< tt) refl).1 (ceil_bounds (slices s) s.buckets (per_bucket s) some refl).0 lt le))
      (two (first s b) (per_bucket s)))
    where
      two : (a c : ℕ) → a + c + 2 ≤ suc (a + c + 1)
      two a c = omega arith

  -- the table index is in range
  pub entry_lt : (v : ℕ) → b < s.buckets → s.buckets ≤ 2 ^ 64 → (first s b ≤ position s v h) × (position s v h - first s b + 95 < entries s)
  unfolding position entries
  entry_lt v lt le =
      let f = first_le in
      let n = slice_near lt le in
      let r = mod-lt (layout_offset s (v % layouts s) h + v * 2 ^ scale s) (len_pos s) in
      (omega arith, omega arith)
