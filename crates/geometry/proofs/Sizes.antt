-- What a geometry's fields are and how large. Assumes nothing.
use Rattle.std.proofs.Common.{◌≡◌, ◌+◌, ◌-◌, ◌*◌, ◌/◌, ◌%◌, ◌^◌, ◌<◌, ◌≤◌, sym, ap, ◌∙◌, ℕ, le_trans, lt_of_le_of_lt, div-le_self, arith, pow_pos, pow_mono}
use Rattle.integers.specs.PowerLaws.{least_power_tight}
use Rattle.rules.specs.declared.Settings.{Settings}
use Rattle.rules.specs.Geometry as G
use Rattle.rules.specs.Good.{Usable}
use Rattle.rules.proofs.GeometryLaws.{len_pow, len_pos, len_high, log_len_le, slices_pos, slices_le, slices_len, stride_high, ring_pos}
use Rattle.geometry.specs.declared.shape.Geometry.{Geometry}

pub record Sized (g : Geometry) : Type 0 where
  pub l_is : g.l ≡ G.slice_len g.settings
  pub l_pow : g.l ≡ 2 ^ G.log_len g.settings
  pub l_low : 1 ≤ g.l
  pub l_high : g.l ≤ 65536
  pub ns_is : g.slices ≡ G.slices g.settings
  pub ns_low : 1 ≤ g.slices
  pub ns_high : g.slices ≤ 134217728
  pub sum : g.slices + g.l ≡ g.settings.m + 1
  pub scale_is : g.scale ≡ G.scale g.settings
  pub scale_high : g.scale ≤ 16
  pub layouts_is : g.layouts ≡ 2 ^ g.settings.ll
  pub layouts_low : 1 ≤ g.layouts
  pub layouts_high : g.layouts ≤ 64
  pub bits_is : g.layout_bits ≡ 64 / g.layouts
  pub stride_is : g.stride ≡ G.stride g.settings
  pub stride_high : g.stride ≤ 16
  pub ring_is : g.ring ≡ G.ring_len g.settings
  pub ring_low : 1 ≤ g.ring
  pub ring_high : g.ring ≤ 65536
  pub rotations_is : g.rotations ≡ G.rotations g.settings
  pub hi_is : g.q_hi ≡ G.quotient g.settings / 2 ^ 64
  pub lo_is : g.q_lo ≡ G.quotient g.settings % 2 ^ 64
  pub p_is : g.per_bucket ≡ G.per_bucket g.settings
  pub slots_is : g.slots ≡ G.ring_slots g.settings
  pub slots_high : g.slots < 2 ^ 40
  pub entries_is : g.entries ≡ G.entries g.settings

-- p without check 7
share_lt : (s : Settings) → Usable s → G.per_bucket s < 268435456
unfolding G.per_bucket
share_lt s d =
    lt_of_le_of_lt (div-le_self (G.slices s + (s.buckets - 1)) s.buckets) (omega (arith, slices_le s, d.m_high, d.buckets_high))

-- the ring slots of settings that 1 to 6 do not refuse
slots_lt : (s : Settings) → Usable s → G.ring_slots s < 2 ^ 40
unfolding G.ring_slots
slots_lt s d =
    let t : 2 ^ G.stride s ≤ 2 ^ 16 = pow_mono (stride_high s d.slice_high) in
    omega (arith, len_high s d.slice_high, share_lt s d, least_power_tight (4 * (G.slice_len s + 1) + 512 * G.per_bucket s + 64 * 2 ^ G.stride s))

module _ (g : Geometry) where
  pub sized : Sized g
  unfolding G.scale G.layouts G.ring_len
  sized =
      let s = g.settings in
      let d = g.usable in
      let n = g.numbers in
      let p : 2 ^ s.ll ≤ 2 ^ 6 = pow_mono d.ll_high in
      record {
        l_is = n.l_is;
        l_pow = n.l_is ∙ len_pow s;
        l_low = omega (arith, n.l_is, len_pos s);
        l_high = omega (arith, n.l_is, len_high s d.slice_high);
        ns_is = n.slices_is;
        ns_low = omega (arith, n.slices_is, slices_pos s d.m_low);
        ns_high = omega (arith, n.slices_is, slices_le s, d.m_high);
        sum = omega (arith, n.slices_is, n.l_is, slices_len s d.m_low);
        scale_is = n.scale_is;
        scale_high = omega (arith, n.scale_is, log_len_le s, d.slice_high);
        layouts_is = n.layouts_is;
        layouts_low = omega (arith, n.layouts_is, pow_pos s.ll);
        layouts_high = omega (arith, n.layouts_is, p);
        bits_is = n.layout_bits_is ∙ ap (λ (x : ℕ). 64 / x) (sym n.layouts_is);
        stride_is = n.stride_is;
        stride_high = omega (arith, n.stride_is, stride_high s d.slice_high);
        ring_is = n.ring_is;
        ring_low = omega (arith, n.ring_is, ring_pos s);
        ring_high = omega (arith, n.ring_is, le_trans (div-le_self (G.slice_len s) (2 ^ G.stride s)) (len_high s d.slice_high));
        rotations_is = n.rotations_is;
        hi_is = n.q_hi_is;
        lo_is = n.q_lo_is;
        p_is = n.per_bucket_is;
        slots_is = n.slots_is;
        slots_high = omega (arith, n.slots_is, slots_lt s d);
        entries_is = n.entries_is;
      }
