-- The ring keys and free words are filled in and the best free rotation is looked for; where it is placed its seed is the bucket's, and where two keys meet
-- the pass over all free rotations goes on from the same words. Assumes nothing.
use Rattle.std.proofs.Common.{refl, ◌∙◌, arith}
use Rattle.rings.specs.RingLaws.{n_le}
use Rattle.search.specs.LaidLaws.{laid_rows, laid_settling, best_in, best_blank, best_zero, best_placed}
use Rattle.search.specs.ReadyLaws.{ready_shape, bucket_in, layouts_few, layouts_room, map_fits, code_preparing, code_looking, code_laid, searched_since}
use Rattle.search.proofs.search.Goals as goal

pub first-start-requires : goal.first-start-requires
first-start-requires c = bucket_in c.requires.ready

pub free_words-count-requires : goal.free_words-count-requires
free_words-count-requires c = ready_shape c.requires.ready

pub overflow_mul-mid : goal.overflow_mul-mid
overflow_mul-mid c = let q = c.requires.ready in omega (arith, layouts_room q c.first-start.ensures.0 c.free_words-count.ensures)

pub overflow_add-mid : goal.overflow_add-mid
overflow_add-mid c = let q = c.requires.ready in omega (arith, map_fits q c.free_words-count.result c.free_words-count.ensures)

pub overflow_add-to : goal.overflow_add-to
overflow_add-to c = let q = c.requires.ready in omega (arith, layouts_few q)

pub overflow_mul-to : goal.overflow_mul-to
overflow_mul-to c = let q = c.requires.ready in omega (arith, layouts_room q c.first-start.ensures.0 c.free_words-count.ensures, q.most)

pub overflow_add-to-2 : goal.overflow_add-to-2
overflow_add-to-2 c = let q = c.requires.ready in omega (arith, map_fits q c.free_words-count.result c.free_words-count.ensures)

pub prepare-total-requires : goal.prepare-total-requires
prepare-total-requires c = code_preparing c.requires.ready c.first-start.ensures.0 c.free_words-count.ensures

pub best_free-requires : goal.best_free-requires
best_free-requires c = let q = c.requires.ready in
    let es = c.first-start.ensures.0 in
    let w = c.free_words-count.ensures in
    let k = c.prepare-total.ensures in
    code_looking q es w k

pub returns-in_default : goal.returns-in_default
returns-in_default c = λ i marked first q.
    let none = rw c.in_default.is at c.best_free.ensures in
    let d = code_laid q c.first-start.ensures.0 c.free_words-count.ensures c.prepare-total.ensures refl none.1 in
    best_zero d.laid d.is c.args.work.now d.len (λ n. (c.type_inv.table n).fits) none.0

pub keys-a-requires : goal.keys-a-requires
keys-a-requires c = let q = c.requires.ready in
    let k = c.prepare-total.ensures in
    let d = code_laid q c.first-start.ensures.0 c.free_words-count.ensures k c.in-Some.ensures.0.0 c.in-Some.ensures.1 in
    omega (arith, ((laid_rows d.laid).keys _ (best_in d.laid d.is c.in-Some.ensures.0.1).0).room, d.len)

pub settle-requires : goal.settle-requires
settle-requires c =
    let q = c.requires.ready in
    let f = c.in-Some.best in
    let d = code_laid q c.first-start.ensures.0 c.free_words-count.ensures c.prepare-total.ensures c.in-Some.ensures.0.0 c.in-Some.ensures.1 in
    let n = best_in d.laid d.is c.in-Some.ensures.0.1 in
    rw c.keys-a.ensures (
    record {
      settling = laid_settling d.laid f.r f.j n.0 n.1;
      blank = best_blank d.laid d.is c.in-Some.ensures.0.1;
    }
    )

pub seed_of-requires : goal.seed_of-requires
seed_of-requires c = let q = c.requires.ready in
    let d = code_laid q c.first-start.ensures.0 c.free_words-count.ensures c.prepare-total.ensures c.in-Some.ensures.0.0 c.in-Some.ensures.1 in
    let n = best_in d.laid d.is c.in-Some.ensures.0.1 in
    (n.0, n.1, layouts_few q, n_le c.args.ring (ready_shape q))

pub returns-then-settle : goal.returns-then-settle
returns-then-settle c = λ i marked first q. let k = c.prepare-total.ensures in
    let d = code_laid q c.first-start.ensures.0 c.free_words-count.ensures k c.in-Some.ensures.0.0 c.in-Some.ensures.1 in
    best_placed d.laid d.is c.args.work.now d.len c.in-Some.ensures.0.1 (rw c.keys-a.ensures at c.settle.ensures) c.if-settle.true c.seed_of.ensures

pub search_distinct-requires : goal.search_distinct-requires
search_distinct-requires c = let p = c.requires in
    let n = c.settle.ensures.no c.if-settle.false in
    let d = code_laid p.ready c.first-start.ensures.0 c.free_words-count.ensures c.prepare-total.ensures c.in-Some.ensures.0.0 c.in-Some.ensures.1 in
    record {
      retrying = rw (n.0, n.1) (record { i = p.i; marked = p.marked; first = p.first; b = c.args.b; laid = d.laid });
      size = refl;
    }

pub returns : goal.returns
returns c = λ i marked first q. let k = c.prepare-total.ensures in
    let n = c.settle.ensures.no c.if-settle.false in
    let d = code_laid q c.first-start.ensures.0 c.free_words-count.ensures k c.in-Some.ensures.0.0 c.in-Some.ensures.1 in
    searched_since c.args.work.now (c.settle.auto.work ∙ d.len) (c.search_distinct.ensures i marked first c.args.b (rw (n.0, n.1) d.laid))
