-- Ring and bitmap are marked key after key (`Marking`, `Mapping`), up to a key whose slot the ring has marked already; the keys lie above the ring, so no mark
-- changes them. The measure is the number of keys left. Assumes nothing.
use Rattle.std.proofs.Common.{◌≡◌, arith}
use Rattle.rings.specs.Parts.{length_part}
use Rattle.rings.specs.PlaceLaws.{marking_none, marking_ok, marking_met, marking_more, marking_all, mapping_none, mapping_more}
use Rattle.search.proofs.BothLaws.{slot_is}
use Rattle.search.proofs.settle.mark_both.Goals as goal

pub loop-i-init : goal.loop-i-init
loop-i-init c = (marking_none _ _ _ _ _ _, mapping_none _ _ _ _ _)

pub overflow_add-row : goal.overflow_add-row
overflow_add-row c = let l = c.loop-i.invariant in let h = c.loop-i-test.true in omega (arith, l.0.len)

pub offset_bounds-work-row : goal.offset_bounds-work-row
offset_bounds-work-row c = let l = c.loop-i.invariant in let h = c.loop-i-test.true in omega (arith, l.0.len)

pub bounds-work-row : goal.bounds-work-row
bounds-work-row c = let l = c.loop-i.invariant in let h = c.loop-i-test.true in omega (arith, l.0.len)

pub slot_of-p-requires : goal.slot_of-p-requires
slot_of-p-requires c =
    let l = c.loop-i.invariant in let h = c.loop-i-test.true in
    record {
      shape = c.requires.shape;
      key = marking_ok c.requires.shape l.0 c.requires.above h c.requires.room c.requires.keys;
      start_bound = (c.requires.begin, c.requires.small);
    }

pub take_slot-requires : goal.take_slot-requires
take_slot-requires c =
    let l = c.loop-i.invariant in let h = c.loop-i-test.true in
    record {
      shape = c.requires.shape;
      words_in_bounds = omega (arith, l.0.len);
    }

pub shape_of-work-then-not-take_slot : goal.shape_of-work-then-not-take_slot
shape_of-work-then-not-take_slot c = omega (arith, c.take_slot.auto, c.loop-i.invariant.0.len)

pub shape_of-bitmap-then-not-take_slot : goal.shape_of-bitmap-then-not-take_slot
shape_of-bitmap-then-not-take_slot c = c.loop-i.invariant.1.len

pub returns-then-not-take_slot : goal.returns-then-not-take_slot
returns-then-not-take_slot c = let l = c.loop-i.invariant in let h = c.loop-i-test.true in record { ring = marking_met c.requires.shape l.0 c.requires.above h c.slot_of-p.ensures c.take_slot.ensures c.if-not-take_slot.true; map = l.1.is }

pub set_bit-requires : goal.set_bit-requires
set_bit-requires c = let l = c.loop-i.invariant in let h = c.loop-i-test.true in let e = slot_is c.requires.shape l.0 c.requires.above h c.slot_of-p.ensures in omega (arith, e, c.requires.inside c.loop-i.i (omega (arith, length_part c.args.work.now c.args.row.a c.args.row.size c.requires.room)), l.1.len)

pub loop-i-preserved : goal.loop-i-preserved
loop-i-preserved c = let l = c.loop-i.invariant in let h = c.loop-i-test.true in (marking_more c.requires.shape l.0 c.requires.above h c.slot_of-p.ensures c.take_slot.ensures c.if-not-take_slot.false, mapping_more l.1 (omega (arith, length_part c.args.work.now c.args.row.a c.args.row.size c.requires.room)) (slot_is c.requires.shape l.0 c.requires.above h c.slot_of-p.ensures) c.set_bit.ensures)

pub shape_of-work : goal.shape_of-work
shape_of-work c = c.loop-i.invariant.0.len

pub shape_of-bitmap : goal.shape_of-bitmap
shape_of-bitmap c = c.loop-i.invariant.1.len

pub returns : goal.returns
returns c =
    let e : c.loop-i.i ≡ c.args.row.size = omega arith in
    record { ring = rw e at (marking_all c.loop-i.invariant.0 c.loop-i-test.false); map = rw e at c.loop-i.invariant.1.is }
