-- The parts that `Geometry::new` computes are rule G's numbers: Q's upper half is ns / B, and its lower half the fraction that is left.
-- Assumes nothing.
use Rattle.std.proofs.Common.{◌≡◌, ℕ, ◌+◌, ◌-◌, ◌*◌, ◌/◌, ◌%◌, ◌^◌, ◌<◌, min, sym, ap, ◌∙◌, mod-lt, pow_pos}
use lib.Arith.{digits_div, digits_mod}
use Rattle.rules.specs.declared.Settings.{Settings}
use Rattle.rules.specs.Geometry as G
use Rattle.integers.specs.Power.{least_power}
use Rattle.integers.specs.Division.{carry, part_lt}
use Rattle.geometry.specs.Ruled.{Numbers}

module _ (ns b : ℕ) (pos : 0 < b) where
  whole : ns * 2 ^ 64 / b ≡ ns / b * 2 ^ 64 + ns % b * 2 ^ 64 / b
  whole = carry ns (2 ^ 64) b pos

  small : ns % b * 2 ^ 64 / b < 2 ^ 64
  small = part_lt (ns % b) (2 ^ 64) b (mod-lt ns pos) (pow_pos 64)

  quotient_hi : ns * 2 ^ 64 / b / 2 ^ 64 ≡ ns / b
  quotient_hi = ap (λ (x : ℕ). x / 2 ^ 64) whole ∙ digits_div (ns / b) small

  quotient_lo : ns * 2 ^ 64 / b % 2 ^ 64 ≡ ns % b * 2 ^ 64 / b
  quotient_lo = ap (λ (x : ℕ). x % 2 ^ 64) whole ∙ digits_mod (ns / b) small

pub assemble : (s : Settings) (l k ns sc la t p sp sd q sl : ℕ) → 0 < s.buckets
    → l ≡ G.slice_len s → k ≡ G.log_len s → ns ≡ G.slices s → sc ≡ k - s.sb → la ≡ 2 ^ s.ll → t ≡ min (s.ll + sc) k → p ≡ G.per_bucket s → sp ≡ 2 ^ t
    → sd ≡ 2 ^ s.sb → q ≡ ns % s.buckets * 2 ^ 64 / s.buckets → sl ≡ least_power (4 * (l + 1) + 512 * p + 64 * sp)
    → Numbers s l ns sc la (64 / la) t (l / sp) (sd / la) (ns / s.buckets) q p sl (95 + (p + 1) + l)
unfolding G.scale G.layouts G.stride G.ring_len G.rotations G.quotient G.ring_slots G.entries
assemble s l k ns sc la t p sp sd q sl pos el ek en ec ea et ep esp esd eq es =
    let hi : ns / s.buckets ≡ G.slices s * 2 ^ 64 / s.buckets / 2 ^ 64 =
    sym (quotient_hi ns s.buckets pos) ∙ ap (λ (n : ℕ). n * 2 ^ 64 / s.buckets / 2 ^ 64) en in
    let lo : q ≡ G.slices s * 2 ^ 64 / s.buckets % 2 ^ 64 =
    eq ∙ sym (quotient_lo ns s.buckets pos) ∙ ap (λ (n : ℕ). n * 2 ^ 64 / s.buckets % 2 ^ 64) en in
    record {
      l_is = el;
      slices_is = en;
      scale_is = cc;
      layouts_is = ea;
      layout_bits_is = cc;
      stride_is = cc;
      ring_is = cc;
      rotations_is = cc;
      q_hi_is = hi;
      q_lo_is = lo;
      per_bucket_is = ep;
      slots_is = cc;
      entries_is = cc;
    }
