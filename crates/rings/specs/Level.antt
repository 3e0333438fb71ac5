-- The ring of a level, by rule G. Assumes nothing.
use Rattle.std.specs.Prelude.{◌/◌}
use Rattle.rules.specs.declared.Settings.{Settings}
use Rattle.rules.specs.Geometry.{stride, ring_len, rotations, ring_slots}
use Rattle.rings.specs.declared.Ring.{Ring}
use Rattle.rings.specs.Ring.{ring_of}

unfoldable pub level_ring : Settings → Ring
level_ring s = ring_of (stride s) (ring_slots s / 64) (ring_len s) (rotations s)
