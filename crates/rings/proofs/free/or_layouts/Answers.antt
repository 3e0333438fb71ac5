-- `or_layouts` adds a key to layout after layout: the words stand above the keys and the ring, and each layout has its own.
use native.Mathlib.Omega.{arith}
use Prim.Native.Nat.{ℕ, ◌+◌, ◌*◌}
use mathlib.Core.Path.{◌≡◌}
use Rattle.rings.specs.StreamLaws.{layouts_more}
use Rattle.rings.proofs.free.or_layouts.Goals as goal

-- the key's place, as the code sums it up
turn : (at i q : ℕ) → at + i + q ≡ at + q + i
turn at i q = omega arith

pub loop-r-preserved : goal.loop-r-preserved
loop-r-preserved c =
    layouts_more c.requires.shape c.requires.words_le_to.0 (c.requires.layout_keys.below c.loop-r.r c.loop-r-test.true) c.loop-r.invariant (rw (← turn c.args.at c.args.i (c.loop-r.r * c.args.size)) at c.or_key.ensures)
