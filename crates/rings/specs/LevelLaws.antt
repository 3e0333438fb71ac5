-- The ring of a level has the shape that is asked of a ring, and the slots that the keys of 256 buckets can take lie within one length of it.
-- Why: first(b) rises by at most p a bucket, a key's slot is less than p + 1 + l past it, and the ring has more slots than 64·2^t + 256p + l + 1.
-- Assumes nothing.
use Rattle.std.specs.Prelude.{◌≡◌, refl, ℕ, ◌+◌, ◌-◌, ◌*◌, ◌/◌, ◌^◌, ◌≤◌, ◌<◌}
use Rattle.std.proofs.Common.{sym, ◌∙◌, arith, le_trans, mul-le-mul_left, mul-le-mul_right, mul-div_cancel, div-lt_iff_lt-mul, pow_pos}
use Rattle.std.proofs.Math.Path.{ap}
use Rattle.std.proofs.Math.Pow.{pow-add, pow_mono}
use Rattle.integers.specs.Power.{log_up, least_power}
use Rattle.integers.specs.PowerLaws.{log_up_above, least_power_above, least_power_tight}
use Rattle.integers.specs.Division.{div_bounds, div_mono, ceil_bounds, pow_div}
use Rattle.integers.specs.Shifts.{pow_le_cancel}
use Rattle.rules.specs.declared.Settings.{Settings}
use Rattle.rules.specs.Geometry.{slice_len, log_len, slices, stride, ring_slots, per_bucket, quotient, first, bucket_of, position, entries}
use Rattle.rules.specs.Good.{Good}
use Rattle.rules.proofs.GeometryLaws.{len_high, stride_high, ring_pow, ring_len_lem, entry_lt}
use Rattle.rings.specs.Ring.{Shape}
use Rattle.rings.specs.Place.{Within}
use Rattle.rings.specs.Level.{level_ring}

-- ---- the shape

-- what the ring must have room for
abbrev room : Settings → ℕ
room s = 4 * (slice_len s + 1) + 512 * per_bucket s + 64 * 2 ^ stride s

module _ (s : Settings) where
  log_ge : stride s + 6 ≤ log_up (room s)
  log_ge = pow_le_cancel (le_trans least (log_up_above (room s)))
    where
      least : 2 ^ (stride s + 6) ≤ room s
      least = rw (pow-add 2 (stride s) 6) (omega arith)

  words_pow : ring_slots s / 64 ≡ 2 ^ (log_up (room s) - 6)
  unfolding ring_slots least_power
  words_pow = pow_div (log_up (room s)) 6 (omega (arith, log_ge))

  -- the ring's slots are those of rule G
  pub slots_are : 64 * (level_ring s).words ≡ ring_slots s
  unfolding ring_slots least_power level_ring
  slots_are = rw (words_pow) (sym (ap (λ (x : ℕ). 2 ^ x) split ∙ pow-add 2 6 (log_up (room s) - 6)))
    where
      split : log_up (room s) ≡ 6 + (log_up (room s) - 6)
      split = omega (arith, log_ge)

  -- room for a column, the slots of 512 buckets and more
  pub slots_ge : 4 * (slice_len s + 1) + 512 * per_bucket s + 64 * 2 ^ stride s ≤ ring_slots s
  unfolding ring_slots
  slots_ge = least_power_above (room s)

  slots_le : slice_len s ≤ 65536 → per_bucket s ≤ 4096 → stride s ≤ 16 → ring_slots s ≤ 2 ^ 24
  unfolding ring_slots
  slots_le hl hp ht = omega (arith, least_power_tight (room s), pow_le)
    where
      pow_le : 2 ^ stride s ≤ 2 ^ 16
      pow_le = pow_mono ht

  pub shape_level : Good s → Shape (level_ring s)
  unfolding level_ring
  shape_level good = record {
    e = log_up (room s) - 6 - stride s;
    size = words_pow ∙ ap (λ (x : ℕ). 2 ^ x) split;
    stride = stride_high s good.slice_high;
    few = omega (arith, slots_le (len_high s good.slice_high) good.share (stride_high s good.slice_high), div_le);
    k = log_len s - stride s;
    ring = ring_pow s;
    span = rw (ring_len_lem s) (len_high s good.slice_high);
  }
    where
      split : log_up (room s) - 6 ≡ log_up (room s) - 6 - stride s + stride s
      split = omega (arith, log_ge)

      div_le : ring_slots s / 64 ≤ ring_slots s
      div_le = omega arith

-- ---- where a bucket's keys can go

quotient_le : (u ns b p : ℕ) → 0 < b → ns ≤ p * b → ns * u / b ≤ p * u
quotient_le u ns b p hb h = le_trans (div_mono b hb more) (same (mul-div_cancel (p * u) hb))
  where
    more : ns * u ≤ p * u * b
    more = omega (arith, mul-le-mul_right u h)

    same : {x y : ℕ} → x ≡ y → x ≤ y
    same e = omega arith

step_by : (u q p o d a : ℕ) → q ≤ p * u → o * q < a * u + u → (o + d) * q < (a + d * p + 1) * u
step_by u q p o d a hq h = omega (arith, mul-le-mul_left d hq)

module _ (s : Settings) (some : 0 < s.buckets) where
  pub first_mono : (o b : ℕ) → o ≤ b → first s o ≤ first s b
  unfolding first
  first_mono o b h = div_mono (2 ^ 64) (pow_pos 64) (mul-le-mul_right (quotient s) h)

  -- p slots a bucket
  pub first_near : (o d : ℕ) → first s (o + d) ≤ first s o + d * per_bucket s
  unfolding first quotient per_bucket
  first_near o d = omega (arith, (div-lt_iff_lt-mul {k = 2 ^ 64} {x = (o + d) * quotient s} {y = first s o + d * per_bucket s + 1} (pow_pos 64)).1 below)
    where
      below : (o + d) * quotient s < (first s o + d * per_bucket s + 1) * 2 ^ 64
      below =
          step_by (2 ^ 64) (quotient s) (per_bucket s) o d (first s o)
          (quotient_le (2 ^ 64) (slices s) s.buckets (per_bucket s) some (ceil_bounds (slices s) s.buckets (per_bucket s) some refl).0)
          (div_bounds (o * quotient s) (2 ^ 64) (first s o) (pow_pos 64) refl).1

-- a key of one of the buckets o to o + 255, with any seed: its slot is in the ring's stretch, where this begins at most a column before first(o)
pub reach : (s : Settings) → Good s → (base o b h v : ℕ) → base ≤ first s o → first s o < base + 64 * 2 ^ stride s → o ≤ b → b < o + 256 → b < s.buckets → bucket_of s h ≡ b
    → Within (level_ring s) base (position s v h)
unfolding entries
reach s good base o b h v lo hi le near in_range home =
    let some : 0 < s.buckets = omega arith in
    let e : (first s b ≤ position s v h) × (position s v h - first s b + 95 < entries s) = entry_lt s some b h home v in_range (omega (arith, good.buckets_high)) in
    let d : o + (b - o) ≡ b = omega arith in
    let f : first s b ≤ first s o + (b - o) * per_bucket s = rw d at (first_near s some o (b - o)) in
    let m : (b - o) * per_bucket s ≤ 255 * per_bucket s = mul-le-mul_right (per_bucket s) (omega arith) in
    record {
      from = omega (arith, first_mono s some o b le, e);
      below = omega (arith, slots_are s, slots_ge s, e, f, m);
    }
