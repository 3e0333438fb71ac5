-- `fill_keys` fills hash after hash: hash i's keys go to word i of each layout's part.
use Rattle.std.proofs.Common.{arith, get_or}
use Rattle.ring_keys.specs.HashLaws.{start_le}
use Rattle.ring_keys.specs.FillLaws.{keys_more}
use Rattle.ring_keys.proofs.fill.fill_keys.Goals as goal

pub fill_layouts-requires-clause-start_bound : goal.fill_layouts-requires-clause-start_bound
fill_layouts-requires-clause-start_bound c =
    start_le c.args.g.settings c.requires.bucket.b c.args.start (get_or c.args.hashes.now c.loop-i.i 0) (c.requires.bucket.homes c.loop-i.i (omega arith))

pub loop-i-preserved : goal.loop-i-preserved
loop-i-preserved c = keys_more c.loop-i.invariant (omega arith) c.fill_layouts.ensures
