-- `mark_bitmap` marks key after key in the bitmap.
use Rattle.rings.specs.PlaceLaws.{mapping_none, mapping_more}
use Rattle.rings.proofs.place.mark_bitmap.Goals as goal

pub loop-d-init : goal.loop-d-init
loop-d-init c = mapping_none _ _ _ _ _

pub loop-d-preserved : goal.loop-d-preserved
loop-d-preserved c = mapping_more c.loop-d.invariant c.loop-d-test.true c.slot_of-p.ensures c.set_bit.ensures
