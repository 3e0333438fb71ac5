-- The keys and free words lie below the wrap points, so filling those leaves them. Assumes nothing.
use Rattle.std.proofs.Common.{◌+◌, ◌≤◌, arith}
use Rattle.best.specs.Kept.{kept_range}
use Rattle.best.specs.WrapLaws.{free_room, wraps_room, points_here}
use Rattle.best.proofs.many.best_between.Goals as goal

pub best_segments-requires : goal.best_segments-requires
best_segments-requires c =
    let p = c.requires.size_bound in
    let w = c.fill_wraps.ensures in
    let a : c.keys-a.result + c.args.rows.size ≤ c.args.up = rw c.keys-a.ensures p.0 in
    let f : c.free-f.result + c.args.rows.count ≤ c.args.up = rw c.free-f.ensures p.1 in
    record {
      shape = c.requires.shape;
      prices = rw (kept_range c.keys-a.result c.args.rows.size w.kept a, c.keys-a.ensures) c.requires.prices;
      n_bound = (free_room w c.args.g.n p.3 p.2 c.free-f.result f, wraps_room w c.args.g.n p.3 p.2);
      points = points_here c.keys-a.result c.args.rows.size c.requires.shape w p.3 a (omega arith);
    }

pub returns : goal.returns
returns c = let p = c.requires.size_bound in
    let w = c.fill_wraps.ensures.kept in
    let a : c.keys-a.result + c.args.rows.size ≤ c.args.up = rw c.keys-a.ensures p.0 in
    let f : c.free-f.result + c.args.rows.count ≤ c.args.up = rw c.free-f.ensures p.1 in
    (rw (kept_range c.keys-a.result c.args.rows.size w a, kept_range c.free-f.result c.args.rows.count w f, c.keys-a.ensures, c.free-f.ensures) at c.best_segments.ensures, w)
