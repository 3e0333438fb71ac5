-- `ring_of` takes the numbers of rule G that the geometry has.
use mathlib.Core.Path.{◌≡◌, refl}
use Prim.Native.Nat.{◌/◌}
use Rattle.geometry.specs.declared.shape.Geometry.{Geometry}
use Rattle.geometry.proofs.Sizes.{sized}
use Rattle.rings.specs.Ring.{ring_of}
use Rattle.rings.specs.Level.{level_ring}
use Rattle.ring_keys.proofs.level.ring_of.Goals as goal

ring_is : (g : Geometry) → ring_of g.stride (g.slots / 64) g.ring g.rotations ≡ level_ring g.settings
unfolding level_ring
ring_is g = let z = sized g in rw (z.stride_is, z.slots_is, z.ring_is, z.rotations_is) refl

pub returns : goal.returns
returns c = ring_is c.args.g
