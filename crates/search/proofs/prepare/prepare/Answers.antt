-- One pass fills in ring keys and free words, with literals where these are the geometry's own numbers; where a layout has more than one free word the ring keys
-- are filled in first, and the free words are then those of the ring keys. Assumes nothing.
use Rattle.std.proofs.Common.{ap, arith}
use Rattle.geometry.specs.declared.shape.Geometry.{Geometry}
use Rattle.search.specs.Usual.{usual_ring}
use Rattle.search.specs.Preparing.{ring_shape, layouts_few, keys_room, keys_known, gathered, one_ready, one_gathered, literal_ready, literal_gathered}
use Rattle.search.proofs.prepare.prepare.Goals as goal

pub literal_ring-requires : goal.literal_ring-requires
literal_ring-requires c = usual_ring (c.is_usual.ensures.told c.if-is_usual.true) c.requires.level

pub gather-requires : goal.gather-requires
gather-requires c =
    let whole = literal_ready c.requires (c.is_usual.ensures.told c.if-is_usual.true) c.literal.result (ap (λ (x : Geometry). x.settings) c.literal.ensures) c.literal_ring.ensures in
    record { ready = whole.0; n_value = λ _. whole.1 }

pub returns-then-is_usual : goal.returns-then-is_usual
returns-then-is_usual c =
    literal_gathered c.requires (c.is_usual.ensures.told c.if-is_usual.true) c.literal.result (ap (λ (x : Geometry). x.settings) c.literal.ensures) c.literal_ring.ensures c.gather.ensures

pub gather-requires-then-ring-le64-clause-ready : goal.gather-requires-then-ring-le64-clause-ready
gather-requires-then-ring-le64-clause-ready c = one_ready c.requires c.if-ring-le64.true

pub returns-then-ring-le64 : goal.returns-then-ring-le64
returns-then-ring-le64 c = one_gathered c.requires c.if-ring-le64.true c.gather-then-ring-le64.ensures

pub fill_keys-requires : goal.fill_keys-requires
fill_keys-requires c =
    let p = c.requires in
    record {
      bucket = p.bucket;
      hashes_in_bounds = keys_room p;
    }

pub fill_free-requires : goal.fill_free-requires
fill_free-requires c =
    let p = c.requires in
    let k = c.fill_keys.ensures in
    record {
      shape = ring_shape p;
      words_le_at = (p.above, p.below, omega (arith, p.room, k.len), p.words.short, c.if-ring-le64.false);
      keys = keys_known p k;
      start_bound = (p.begin, layouts_few p);
    }

pub returns : goal.returns
returns c =
    gathered c.requires c.fill_keys.ensures c.fill_free.ensures
