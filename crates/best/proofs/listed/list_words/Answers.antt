-- The words passed are listed (`ListedTo`).
use native.Mathlib.Omega.{arith}
use lib.ListN.{length-set}
use Rattle.std.proofs.Common.{◌∙◌, ◌+◌, not, eqb, get_or}
use Rattle.best.proofs.Stored.{some_test, byte_small}
use Rattle.best.proofs.ListLaws.{to_none, to_room, to_more}
use Rattle.best.proofs.listed.list_words.Goals as goal

pub loop-i-init : goal.loop-i-init
loop-i-init c = to_none _ _ _ _

pub offset_bounds-work-c : goal.offset_bounds-work-c
offset_bounds-work-c c = let r = to_room c.loop-i.invariant c.requires.0 c.requires.1 c.loop-i-test.true in omega (arith, r.1)

pub bounds-work-c : goal.bounds-work-c
bounds-work-c c = let r = to_room c.loop-i.invariant c.requires.0 c.requires.1 c.loop-i-test.true in omega (arith, r.1)

pub overflow_add-work : goal.overflow_add-work
overflow_add-work c = let r = to_room c.loop-i.invariant c.requires.0 c.requires.1 c.loop-i-test.true in omega (arith, r.1)

pub offset_bounds-work-c-in-loop-i : goal.offset_bounds-work-c-in-loop-i
offset_bounds-work-c-in-loop-i c = let r = to_room c.loop-i.invariant c.requires.0 c.requires.1 c.loop-i-test.true in omega (arith, r.1)

pub bounds-work-c-in-loop-i : goal.bounds-work-c-in-loop-i
bounds-work-c-in-loop-i c = let r = to_room c.loop-i.invariant c.requires.0 c.requires.1 c.loop-i-test.true in rw (length-set) (omega (arith, r.1))

pub overflow_add-c : goal.overflow_add-c
overflow_add-c c =
    let r = to_room c.loop-i.invariant c.requires.0 c.requires.1 c.loop-i-test.true in
    omega (arith, r.1, byte_small (not (eqb (get_or c.loop-i.work (c.args.to + c.loop-i.i) 0) 0)) c.from.ensures)

pub loop-i-preserved : goal.loop-i-preserved
loop-i-preserved c = to_more c.loop-i.invariant c.requires.0 c.requires.1 c.loop-i-test.true (c.from.ensures ∙ some_test _)
