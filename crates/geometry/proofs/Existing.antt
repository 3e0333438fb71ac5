-- Settings that 1 to 6 do not refuse have a geometry: rule G's numbers, one by one. Assumes nothing.
use Rattle.std.proofs.Common.{◌/◌, ◌%◌, ◌^◌, refl}
use Rattle.rules.specs.declared.Settings.{Settings}
use Rattle.rules.specs.Geometry as G
use Rattle.rules.specs.Good.{Usable}
use Rattle.geometry.specs.declared.shape.Geometry.{Geometry}

abbrev pub geometry_by : (s : Settings) → Usable s → Geometry
geometry_by s d = record {
  settings = s;
  l = G.slice_len s;
  slices = G.slices s;
  scale = G.scale s;
  layouts = G.layouts s;
  layout_bits = 64 / G.layouts s;
  stride = G.stride s;
  ring = G.ring_len s;
  rotations = G.rotations s;
  q_hi = G.quotient s / 2 ^ 64;
  q_lo = G.quotient s % 2 ^ 64;
  per_bucket = G.per_bucket s;
  slots = G.ring_slots s;
  entries = G.entries s;
  usable = d;
  numbers = record {
    l_is = refl;
    slices_is = refl;
    scale_is = refl;
    layouts_is = refl;
    layout_bits_is = refl;
    stride_is = refl;
    ring_is = refl;
    rotations_is = refl;
    q_hi_is = refl;
    q_lo_is = refl;
    per_bucket_is = refl;
    slots_is = refl;
    entries_is = refl;
  };
}
