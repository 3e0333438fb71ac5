-- The free words listed behind themselves are what the pass asks for, and its best is the best free rotation. Assumes nothing.
use Rattle.best.specs.Kept.{kept_on}
use Rattle.best.proofs.AllLaws.{shift_few, pass_of, best_of_lem}
use Rattle.best.proofs.all.best_all.Goals as goal

pub best_sized-best-requires : goal.best_sized-best-requires
best_sized-best-requires c = let l = c.list_words.ensures in pass_of c.requires (λ k. (c.slice_known-1.given k).fits) l.0 l.1

pub layout_of-requires : goal.layout_of-requires
layout_of-requires c = shift_few c.requires

pub returns : goal.returns
returns c = let l = c.list_words.ensures in let p = c.best_sized-best.ensures in (best_of_lem c.requires (λ k. (c.slice_known-1.given k).fits) l.0 l.1 p c.layout_of.ensures, kept_on l.1 p.1)
