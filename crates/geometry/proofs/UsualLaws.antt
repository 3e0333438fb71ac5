-- The default shape's numbers. Why: the length of a slice, log2 of the layouts and the bits of a seed give scale, stride, ring length and
-- rotations by rule G, and rule G computes; of 1,024 slots and more a slice has 1,024. Assumes nothing.
use Rattle.std.proofs.Common.{◌≡◌, ℕ, ◌+◌, ◌-◌, ◌/◌, ◌≤◌, ◌&&◌, T, eqb, leb, sym, refl, ap, ◌∙◌, arith, eqb→eq, leb→le}
use Rattle.integers.specs.Power.{log_up, least_power, least_from}
use Rattle.integers.specs.PowerLaws.{least_power_mono}
use Rattle.rules.specs.declared.Settings.{Settings}
use Rattle.rules.specs.Geometry as G
use Rattle.rules.proofs.Tests.{and_left, and_right}
use Rattle.geometry.specs.declared.shape.Geometry.{Geometry}
use Rattle.geometry.specs.Ruled.{Numbers}
use Rattle.geometry.specs.Usual.{Usual, usual_numbers, usual_shape, usual_settings}
use Rattle.geometry.proofs.Sizes.{sized}

-- ---- what the tests tell

pub usual_told : (g : Geometry) → T (usual_shape g) → Usual g
unfolding usual_shape usual_numbers
usual_told g t =
    let len = eqb g.l 1024 in
    let ll = eqb g.settings.ll 2 in
    let sb = eqb g.settings.sb 8 in
    let rest : T (ll && sb) = and_right len (ll && sb) t in
    record {
      len = eqb→eq g.l 1024 (and_left len (ll && sb) t);
      ll = eqb→eq g.settings.ll 2 (and_left ll sb rest);
      sb = eqb→eq g.settings.sb 8 (and_right ll sb rest);
    }

-- 513 slots and more want a slice of 1,024
least_1024 : least_power 513 ≡ 1024
unfolding least_power log_up least_from
least_1024 = refl

module _ (s : Settings) (t : T (usual_settings s)) where
  after_slice : T (eqb s.ll 2 && (eqb s.sb 8 && (leb 1024 s.m && leb s.m 134217728)))
  unfolding usual_settings
  after_slice = and_right (eqb s.log2_slice_len 10) (eqb s.ll 2 && (eqb s.sb 8 && (leb 1024 s.m && leb s.m 134217728))) t

  slice_ten : s.log2_slice_len ≡ 10
  unfolding usual_settings
  slice_ten = eqb→eq s.log2_slice_len 10 (and_left (eqb s.log2_slice_len 10) (eqb s.ll 2 && (eqb s.sb 8 && (leb 1024 s.m && leb s.m 134217728))) t)

  after_ll : T (eqb s.sb 8 && (leb 1024 s.m && leb s.m 134217728))
  after_ll = and_right (eqb s.ll 2) (eqb s.sb 8 && (leb 1024 s.m && leb s.m 134217728)) after_slice

  ll_two : s.ll ≡ 2
  ll_two = eqb→eq s.ll 2 (and_left (eqb s.ll 2) (eqb s.sb 8 && (leb 1024 s.m && leb s.m 134217728)) after_slice)

  sb_eight : s.sb ≡ 8
  sb_eight = eqb→eq s.sb 8 (and_left (eqb s.sb 8) (leb 1024 s.m && leb s.m 134217728) after_ll)

  slots_low : 1024 ≤ s.m
  slots_low =
      leb→le 1024 s.m (and_left (leb 1024 s.m) (leb s.m 134217728) (and_right (eqb s.sb 8) (leb 1024 s.m && leb s.m 134217728) after_ll))

  len_1024 : G.slice_len s ≡ 1024
  unfolding G.slice_len
  len_1024 = rw slice_ten (omega (arith, least_1024, least_power_mono {x = 513} {y = s.m / 2 + 1} (omega (arith, slots_low))))

  pub usual_of : (g : Geometry) → g.settings ≡ s → Usual g
  usual_of g e = record { len = g.numbers.l_is ∙ ap G.slice_len e ∙ len_1024; ll = ap (λ (x : Settings). x.ll) e ∙ ll_two; sb = ap (λ (x : Settings). x.sb) e ∙ sb_eight }

-- ---- rule G

module _ (s : Settings) (len : G.slice_len s ≡ 1024) (ll : s.ll ≡ 2) (sb : s.sb ≡ 8) where
  log_is : G.log_len s ≡ 10
  unfolding G.log_len log_up least_from
  log_is = rw len refl

  scale_is : G.scale s ≡ 2
  unfolding G.scale
  scale_is = rw (log_is, sb) refl

  layouts_is : G.layouts s ≡ 4
  unfolding G.layouts
  layouts_is = rw ll refl

  pub stride_is : G.stride s ≡ 4
  unfolding G.stride
  stride_is = rw (scale_is, log_is, ll) refl

  pub ring_is : G.ring_len s ≡ 64
  unfolding G.ring_len
  ring_is = rw (len, stride_is) refl

  pub rotations_is : G.rotations s ≡ 64
  unfolding G.rotations
  rotations_is = rw (layouts_is, sb) refl

-- ---- a geometry of the default shape

module _ {g : Geometry} (u : Usual g) where
  pub usual_len : G.slice_len g.settings ≡ 1024
  usual_len = sym (sized g).l_is ∙ u.len

  pub usual_slots : 1024 ≤ g.settings.m
  usual_slots = omega (arith, (sized g).sum, (sized g).ns_low, u.len)

  slices_of : g.settings.m - 1023 ≡ g.slices
  slices_of = omega (arith, (sized g).sum, u.len)

  layouts_of : g.layouts ≡ 4
  unfolding G.layouts
  layouts_of = (sized g).layouts_is ∙ layouts_is g.settings usual_len u.ll u.sb

  bits_of : g.layout_bits ≡ 16
  bits_of = (sized g).bits_is ∙ ap (λ (x : ℕ). 64 / x) layouts_of

  -- the literals are rule G's numbers
  pub literal_numbers : Numbers g.settings 1024 (g.settings.m - 1023) 2 4 16 4 64 64 g.q_hi g.q_lo g.per_bucket g.slots g.entries
  literal_numbers =
      let s = g.settings in
      let n = g.numbers in
      record {
        l_is = sym usual_len;
        slices_is = slices_of ∙ n.slices_is;
        scale_is = sym (scale_is s usual_len u.ll u.sb);
        layouts_is = sym layouts_of ∙ n.layouts_is;
        layout_bits_is = sym bits_of ∙ n.layout_bits_is;
        stride_is = sym (stride_is s usual_len u.ll u.sb);
        ring_is = sym (ring_is s usual_len u.ll u.sb);
        rotations_is = sym (rotations_is s usual_len u.ll u.sb);
        q_hi_is = n.q_hi_is;
        q_lo_is = n.q_lo_is;
        per_bucket_is = n.per_bucket_is;
        slots_is = n.slots_is;
        entries_is = n.entries_is;
      }
