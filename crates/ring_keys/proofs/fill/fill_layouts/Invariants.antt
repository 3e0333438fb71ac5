-- `fill_layouts` writes layout after layout: the shift goes on by addition.
use Rattle.std.proofs.Common.{◌≡◌, ◌*◌}
use Rattle.ring_keys.specs.RingKey.{LayoutsFilled}
use Rattle.ring_keys.proofs.fill.fill_layouts.Given as goal

abbrev pub invariant-loop-r : goal.invariant-loop-r
invariant-loop-r l = (l.shift ≡ l.r * l.g.layout_bits) × LayoutsFilled l.g.settings l.h l.start l.at l.size l.r l.initial.work l.work
