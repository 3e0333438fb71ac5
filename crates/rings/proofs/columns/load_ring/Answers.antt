-- `load_ring` loads one column after another, as many as the ring has; then the ring is a cache of the bitmap from column c on.
use Rattle.rings.specs.CacheLaws.{cached_more, cached_all}
use Rattle.rings.proofs.columns.load_ring.Goals as goal

pub loop-k-preserved : goal.loop-k-preserved
loop-k-preserved c =
    cached_more c.requires.shape c.args.c c.loop-k-test.true c.loop-k.invariant c.load_column.ensures

pub returns : goal.returns
returns c = cached_all c.requires.shape c.args.c c.loop-k-test.false c.loop-k.invariant
