-- Rule G field by field: what the numbers of a level are, given its settings. Assumes nothing.
use Rattle.std.specs.Prelude.{◌≡◌, ℕ, ◌/◌, ◌%◌, ◌^◌}
use Rattle.rules.specs.declared.Settings.{Settings}
use Rattle.rules.specs.Geometry as G

pub record Numbers (s : Settings) (l slices scale layouts layout_bits stride ring rotations q_hi q_lo per_bucket slots entries : ℕ) : Type 0 where
  pub l_is : l ≡ G.slice_len s
  pub slices_is : slices ≡ G.slices s
  pub scale_is : scale ≡ G.scale s
  pub layouts_is : layouts ≡ G.layouts s
  pub layout_bits_is : layout_bits ≡ 64 / G.layouts s
  pub stride_is : stride ≡ G.stride s
  pub ring_is : ring ≡ G.ring_len s
  pub rotations_is : rotations ≡ G.rotations s
  pub q_hi_is : q_hi ≡ G.quotient s / 2 ^ 64
  pub q_lo_is : q_lo ≡ G.quotient s % 2 ^ 64
  pub per_bucket_is : per_bucket ≡ G.per_bucket s
  pub slots_is : slots ≡ G.ring_slots s
  pub entries_is : entries ≡ G.entries s
