use Rattle.sweep.proofs.TurnLaws.{level_groups, asked, seed_room, answered}
use native.Mathlib.Omega.{arith}
use Rattle.sweep.proofs.turning.serve.Goals as goal

pub keys_of-keys-requires : goal.keys_of-keys-requires
keys_of-keys-requires c =
    let w = c.requires.serves in
    let whole = level_groups w.level _ w.turn.high in
    record { grouped = whole.0; b_in_bounds = whole.1 }

pub search-v-requires : goal.search-v-requires
search-v-requires c =
    let w = c.requires.serves in
    record { i = w.i; marked = _; first = _; ready = asked w.level w.buffers w.turn c.requires.ring_value c.keys_of-keys.ensures }

pub overflow_cast-seeds : goal.overflow_cast-seeds
overflow_cast-seeds c =
    let w = c.requires.serves in
    omega (arith, (c.search-v.ensures w.i _ _ (asked w.level w.buffers w.turn c.requires.ring_value c.keys_of-keys.ensures)).small)

pub bounds-seeds-b : goal.bounds-seeds-b
bounds-seeds-b c = let w = c.requires.serves in seed_room w.level w.buffers w.turn

pub returns : goal.returns
returns c = λ i pre lo hi k first l f t. answered l f t (c.search-v.ensures i _ first (asked l f t c.requires.ring_value c.keys_of-keys.ensures))
