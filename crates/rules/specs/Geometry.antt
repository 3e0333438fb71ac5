-- Rule G: what follows from m, B, log2_slice_len, ll and sb. Assumes nothing.
use Rattle.std.specs.Prelude.{ℕ, ◌+◌, ◌-◌, ◌*◌, ◌/◌, ◌%◌, ◌^◌, min, max}
use Rattle.integers.specs.Power.{log_up, least_power}
use Rattle.rules.specs.declared.Settings.{Settings}

module _ (s : Settings) where
  -- l = min(least power of two ≥ floor(m/2)+1, 2^log2_slice_len)
  unfoldable pub slice_len : ℕ
  slice_len = min (least_power (s.m / 2 + 1)) (2 ^ s.log2_slice_len)

  -- log2 l
  unfoldable pub log_len : ℕ
  log_len = log_up slice_len

  -- slices ns = m+1-l
  unfoldable pub slices : ℕ
  slices = s.m + 1 - slice_len

  -- scale = max(0, log2 l - sb): `-` stops at 0
  unfoldable pub scale : ℕ
  scale = log_len - s.sb

  -- L = 2^ll layouts
  unfoldable pub layouts : ℕ
  layouts = 2 ^ s.ll

  -- a hash h has bucket floor(h·B/2^64), slice floor(h·ns/2^64) and o = h·B mod 2^64
  unfoldable pub bucket_of : (h : ℕ) → ℕ
  bucket_of h = h * s.buckets / 2 ^ 64

  unfoldable pub slice_of : (h : ℕ) → ℕ
  slice_of h = h * slices / 2 ^ 64

  unfoldable pub offset_of : (h : ℕ) → ℕ
  offset_of h = h * s.buckets % 2 ^ 64

  -- Q = floor(ns·2^64/B)
  unfoldable pub quotient : ℕ
  quotient = slices * 2 ^ 64 / s.buckets

  -- first(b) = floor(b·Q/2^64)
  unfoldable pub first : (b : ℕ) → ℕ
  first b = b * quotient / 2 ^ 64

  -- floor(o/2^(r·(64/L))), the offset that layout r reads
  unfoldable pub layout_offset : (r h : ℕ) → ℕ
  layout_offset r h = offset_of h / 2 ^ (r * (64 / layouts))

  -- position of h under seed v, with r = v mod L: slice + ((floor(o/2^(r·(64/L))) + v·2^scale) mod l)
  unfoldable pub position : (v h : ℕ) → ℕ
  position v h = slice_of h + (layout_offset (v % layouts) h + v * 2 ^ scale) % slice_len

  -- stride exponent t = min(ll+scale, log2 l)
  unfoldable pub stride : ℕ
  stride = min (s.ll + scale) log_len

  -- ring length n = l/2^t
  unfoldable pub ring_len : ℕ
  ring_len = slice_len / 2 ^ stride

  -- rotations R = 2^sb/L
  unfoldable pub rotations : ℕ
  rotations = 2 ^ s.sb / layouts

  -- p = ceil(ns/B)
  unfoldable pub per_bucket : ℕ
  per_bucket = (slices + (s.buckets - 1)) / s.buckets

  -- ring slots = least power of two ≥ 4(l+1) + 512p + 64·2^t
  unfoldable pub ring_slots : ℕ
  ring_slots = least_power (4 * (slice_len + 1) + 512 * per_bucket + 64 * 2 ^ stride)

  -- table entries needed: 95 + (p+1) + l
  unfoldable pub entries : ℕ
  entries = 95 + (per_bucket + 1) + slice_len

  -- with z the largest bucket size, W = slots/32 + z(L+2) + 3·L·max(n,64) + 2,560
  unfoldable pub work_words : (z : ℕ) → ℕ
  work_words z = ring_slots / 32 + z * (layouts + 2) + 3 * layouts * max ring_len 64 + 2560
