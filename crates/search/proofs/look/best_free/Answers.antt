-- Where no word has a one there is none; both ways to the best give the best of the rotations that are free. Assumes nothing.
use Rattle.std.proofs.Common.{sym, ap}
use Rattle.best.specs.declared.Best.{Best}
use Rattle.best.specs.Kept.{kept_self}
use Rattle.search.specs.LookLaws.{none_best}
use Rattle.search.proofs.look.best_free.Goals as goal

pub returns-in-0 : goal.returns-in-0
returns-in-0 c = (ap (λ (b : Best). b.cost) (sym (none_best c.requires (λ k. (c.type_inv.work k).fits) c.in-0.is)), kept_self _ _)
