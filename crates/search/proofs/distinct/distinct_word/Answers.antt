-- The best so far is that of the rotations below the lowest bit left (`Walk`), and the work is as it was. The measure is what is left of the word.
-- Assumes nothing.
use mathlib.Core.Path.{refl, ◌∙◌}
use Prim.Native.Nat.{◌+◌, ◌*◌}
use native.Mathlib.Omega.{arith}
use lib.Count.{count_trailing_zeros}
use Rattle.words.specs.CountLaws.{clear_less}
use Rattle.rings.specs.Parts.{length_part}
use Rattle.best.specs.Walk.{walk_lt, walk_free, walk_end}
use Rattle.search.specs.Rows.{row_at}
use Rattle.search.specs.DistinctLaws.{walk_begin, walk_step, free_turn}
use Rattle.search.proofs.distinct.distinct_word.Goals as goal

pub loop-left-init : goal.loop-left-init
loop-left-init c =
    (refl, rw c.free-f.ensures (walk_begin c.args.g c.args.table.now c.args.work.now (c.args.rows.at + c.args.r * c.args.rows.size) c.args.rows.size c.args.start (c.args.rows.to + c.args.r * c.args.rows.count) c.args.rows.count c.args.w c.args.r c.args.best c.requires.w_lt_count (c.type_inv.work (c.args.rows.to + c.args.r * c.args.rows.count + c.args.w)).fits))

pub overflow_mul-j : goal.overflow_mul-j
overflow_mul-j c = omega (arith, c.requires.free_row.ended.short, length_part c.args.work.now (c.args.rows.to + c.args.r * c.args.rows.count) c.args.rows.count c.requires.free_row.room)

pub overflow_cast-j : goal.overflow_cast-j
overflow_cast-j c = omega (arith, walk_lt c.loop-left.invariant.1 c.loop-left-test.true)

pub overflow_add-j : goal.overflow_add-j
overflow_add-j c = omega (arith, walk_lt c.loop-left.invariant.1 c.loop-left-test.true, c.requires.free_row.ended.short, length_part c.args.work.now (c.args.rows.to + c.args.r * c.args.rows.count) c.args.rows.count c.requires.free_row.room)

pub better_distinct-best-requires : goal.better_distinct-best-requires
better_distinct-best-requires c = let a = c.loop-left.invariant.1 in
    let free = walk_free a c.loop-left-test.true in
    let turn = free_turn (64 * c.args.w + count_trailing_zeros 64 c.loop-left.left) c.requires.free_row.ended free in
    rw (c.loop-left.invariant.0, c.keys-a.ensures) (record { key_row = c.requires.key_row; j_lt_n = turn; unused = c.requires.free_row.unused _ turn free })

pub loop-left-smaller : goal.loop-left-smaller
loop-left-smaller c = clear_less _ c.loop-left-test.true

pub loop-left-preserved : goal.loop-left-preserved
loop-left-preserved c = (c.better_distinct-best.ensures.1 ∙ c.loop-left.invariant.0, walk_step c.args.g c.args.start (row_at c.args.work.now c.args.rows.at c.args.rows.size c.args.r) (row_at c.args.work.now c.args.rows.to c.args.rows.count c.args.r) c.args.table.now c.loop-left.invariant.1 c.loop-left-test.true (rw (c.loop-left.invariant.0, c.keys-a.ensures) at c.better_distinct-best.ensures.0))

pub returns : goal.returns
returns c = (walk_end c.loop-left.invariant.1 c.loop-left-test.false, c.loop-left.invariant.0)
