-- Sorting leaves the ring, the ring keys and the free words; then the pass finds the best rotation at which no two keys meet, and places it.
-- Assumes nothing.
use Rattle.std.proofs.Common.{refl, arith}
use Rattle.rings.specs.RingLaws.{n_le}
use Rattle.search.specs.LaidLaws.{laid_aside_put, laid_sorted, laid_rows, laid_settling, laid_few, laid_twins, apart_in, apart_blank, apart_zero, apart_placed}
use Rattle.search.proofs.search_distinct.Goals as goal

pub returns-then-has_equal : goal.returns-then-has_equal
returns-then-has_equal c = λ i marked first b d. laid_twins (laid_sorted d c.has_equal.new.work c.has_equal.auto.work) c.args.work.now (laid_aside_put d c.has_equal.new.work c.has_equal.auto.work).len c.has_equal.ensures.answer c.if-has_equal.true

pub best_distinct-requires : goal.best_distinct-requires
best_distinct-requires c = rw c.requires.size (laid_rows (laid_sorted c.requires.retrying.laid c.has_equal.new.work c.has_equal.auto.work))

pub returns-in_default : goal.returns-in_default
returns-in_default c = λ i marked first b d.
    let none = rw (c.in_default.is, c.requires.size) at c.best_distinct.ensures in
    rw none.1 (apart_zero (laid_sorted d c.has_equal.new.work c.has_equal.auto.work) refl c.args.work.now (laid_aside_put d c.has_equal.new.work c.has_equal.auto.work).len (λ k. (c.type_inv.table k).fits) none.0)

pub keys-a-requires : goal.keys-a-requires
keys-a-requires c = let d = laid_sorted c.requires.retrying.laid c.has_equal.new.work c.has_equal.auto.work in
    let best = rw c.requires.size at c.in-Some.ensures.0.0 in
    let k = (laid_rows d).keys c.in-Some.best.r (apart_in d best c.in-Some.ensures.0.1).0 in
    rw c.requires.size (omega (arith, k.room, (laid_aside_put c.requires.retrying.laid c.has_equal.new.work c.has_equal.auto.work).len))

pub settle-requires : goal.settle-requires
settle-requires c = let d = laid_sorted c.requires.retrying.laid c.has_equal.new.work c.has_equal.auto.work in
    let best = rw c.requires.size at c.in-Some.ensures.0.0 in
    let l = apart_in d best c.in-Some.ensures.0.1 in
    rw (c.keys-a.ensures, c.requires.size, c.in-Some.ensures.1) (record { settling = laid_settling d c.in-Some.best.r c.in-Some.best.j l.0 l.1; blank = apart_blank d best c.in-Some.ensures.0.1 })

pub seed_of-requires : goal.seed_of-requires
seed_of-requires c = let d = laid_sorted c.requires.retrying.laid c.has_equal.new.work c.has_equal.auto.work in
    let l = apart_in d (rw c.requires.size at c.in-Some.ensures.0.0) c.in-Some.ensures.0.1 in
    (l.0, l.1, laid_few d, n_le c.args.ring ((laid_rows d).keys c.in-Some.best.r l.0).shape)

pub returns : goal.returns
returns c = λ i marked first b d.
    let best = rw c.requires.size at c.in-Some.ensures.0.0 in
    apart_placed (laid_sorted d c.has_equal.new.work c.has_equal.auto.work) best c.args.work.now (laid_aside_put d c.has_equal.new.work c.has_equal.auto.work).len c.in-Some.ensures.0.1 (rw (c.keys-a.ensures, c.requires.size, c.in-Some.ensures.1) at c.settle.ensures) c.seed_of.ensures
