-- Each turn takes the bucket that the order names next, and leaves the buffers as the order's first turns do; where the window is empty or the turns are as many
-- as the buckets, the order has come to its end.
use Rattle.sweep.specs.Sweeping.{Buffers, Starting}
use Rattle.sweep.specs.Serving.{Turn}
use Rattle.sweep.proofs.StepLaws.{behind_oldest, behind_next, turn_of, buffers_moved, ends_all, ends_at, goes_on, order_few, ring_shape, ring_room, caches_in, caches_out, first_in, first_out, reach_out}
use Rattle.window.proofs.WindowLaws.{is_empty, not_empty, end}
use Rattle.window.specs.Window.{state_of, Full, Turned}
use Rattle.rules.specs.declared.Settings.{Settings}
use Rattle.rules.specs.Geometry as G
use Rattle.rules.specs.Order.{Input}
use Prim.Native.Nat.{ℕ, ◌≤◌}
use mathlib.Core.Bool.{true≢false}
use mathlib.Core.List.{List}
use mathlib.Core.Path.{refl, sym, ap, ◌∙◌, subst}
use native.Mathlib.Omega.{arith}
use Rattle.sweep.proofs.turning.take_turns.Goals as goal
use Rattle.sweep.proofs.turning.take_turns.Goals.{After-advance-first_slot, else-v-eq0-via-then-v-eq0+else-not-bump, else-v-eq0-via-else-v-eq0}

pub loop-turn-init : goal.loop-turn-init
loop-turn-init c = (λ i pre h. h.sweeping, refl, refl, refl)

pub refill-requires : goal.refill-requires
refill-requires c =
    let b = c.requires.begun in
    record { i = b.i; lo = _; k = _; ranged = b.starting.ranged; windowed = (c.loop-turn.invariant.0 b.i b.pre b.starting).windowed }

pub returns-then-is_empty : goal.returns-then-is_empty
returns-then-is_empty c = λ i pre h.
    let sw = c.loop-turn.invariant.0 i pre h in
    let f = c.refill.ensures.full i _ _ h.ranged sw.windowed in
    let z = is_empty _ _ (sym c.is_empty.ensures.value ∙ c.if-is_empty.true) in
    ends_all sw (end i _ _ _ h.ranged _ _ _ _ _ _ _ f z.0 z.1)

pub take-b-requires : goal.take-b-requires
take-b-requires c =
    let b = c.requires.begun in
    record {
      filled = record { i = b.i; lo = _; hi = _; k = _; ranged = b.starting.ranged; full = c.refill.ensures.full b.i _ _ b.starting.ranged (c.loop-turn.invariant.0 b.i b.pre b.starting).windowed };
      large_nonzero = not_empty _ _ (sym c.is_empty.ensures.value ∙ c.if-is_empty.false);
    }

pub advance-first_slot-requires : goal.advance-first_slot-requires
advance-first_slot-requires c =
    let b = c.requires.begun in
    let h = b.starting in
    let sw = c.loop-turn.invariant.0 b.i b.pre h in
    let f = c.refill.ensures.full b.i _ _ h.ranged sw.windowed in
    let t = c.take-b.ensures.turned b.i _ _ _ h.ranged f in
    let e = c.requires.ring_value in
    let behind = subst (λ (o : ℕ). c.loop-turn.first_slot ≤ G.first b.i.settings o) (sym c.oldest-oldest.ensures) (behind_oldest f t.some sw.behind) in
    record {
      shape = ring_shape h.level e;
      words_in_bounds = (ring_room h.level e c.loop-turn.work sw.buffers.room, omega (arith, c.take-b.ensures.oldest_le_bucket, c.oldest-oldest.ensures, t.high, h.range, ap (λ (s : Settings). s.buckets) h.level.settings), first_in h.level e _ _ behind);
      caches = caches_in h.level e sw.buffers.caches;
    }

-- a turn of any such start, with the ring moved on
module _ (c : After-advance-first_slot) (i : Input) (pre : List ℕ)
    (h : Starting i c.args.g c.args.bump c.args.hashes.now c.args.begins.now c.args.table.now c.args.weights.now pre c.args.lo c.args.hi c.args.from c.args.z
    (state_of c.args.window.now) c.args.seeds.now c.args.bitmap.now c.args.work.now) where
  full : Full i c.args.lo c.args.hi c.loop-turn._turn (state_of c.refill.new.self)
  full = c.refill.ensures.full i _ _ h.ranged (c.loop-turn.invariant.0 i pre h).windowed

  drawn : Turned i c.args.lo c.args.hi c.loop-turn._turn c.take-b.result (state_of c.take-b.new.self)
  drawn = c.take-b.ensures.turned i _ _ _ h.ranged full

  turn : Turn i pre c.args.lo c.args.hi c.loop-turn._turn c.take-b.result c.advance-first_slot.result
  turn =
      let e = c.requires.ring_value in
      let a = c.advance-first_slot.ensures in
      let o = c.oldest-oldest.result in
      let same = c.oldest-oldest.ensures in
      let near = c.take-b.ensures.oldest_le_bucket in
      turn_of o h.range h.fresh drawn (first_out h.level e _ o a.upper_bound.0) (reach_out h.level e _ o a.upper_bound.1) (omega arith, omega arith)

  moved : Buffers i pre c.args.lo c.args.hi c.loop-turn._turn c.advance-first_slot.result c.args.z c.loop-turn.seeds c.loop-turn.bitmap c.advance-first_slot.new.work
  moved = buffers_moved (c.loop-turn.invariant.0 i pre h).buffers (caches_out h.level c.requires.ring_value c.advance-first_slot.ensures.caches_2) c.advance-first_slot.auto.work

  -- the ring stays before what is left
  before_left : c.advance-first_slot.result ≤ G.first i.settings c.refill.new.self.oldest
  before_left =
      subst (λ (o : ℕ). c.advance-first_slot.result ≤ G.first i.settings o) c.oldest-oldest.ensures
      (first_out h.level c.requires.ring_value _ c.oldest-oldest.result c.advance-first_slot.ensures.upper_bound.0)

pub serve-v-requires : goal.serve-v-requires
serve-v-requires c =
    let b = c.requires.begun in
    let p = (goal.at.serve-v-requires c).After-advance-first_slot in
    record {
      ring_value = c.requires.ring_value;
      serves = record { i = b.i; pre = b.pre; lo = _; hi = _; k = _; first = _; level = b.starting.level; buffers = moved p b.i b.pre b.starting; turn = turn p b.i b.pre b.starting };
    }

pub returns-then-not-bump : goal.returns-then-not-bump
returns-then-not-bump c = λ i pre h.
    let p = (goal.at.returns-then-not-bump c).After-advance-first_slot in
    let v = c.serve-v.ensures i pre _ _ _ _ h.level (moved p i pre h) (turn p i pre h) in
    ends_at (turn p i pre h) v (c.loop-turn.invariant.0 i pre h).no_zero c.if-not-bump.true c.if-v-eq0.true

pub loop-turn-preserved : goal.loop-turn-preserved
loop-turn-preserved c = (
  λ i pre h.
      let p = (goal.at.loop-turn-preserved c).After-advance-first_slot in
      let u = turn p i pre h in
      let v = c.serve-v.ensures i pre _ _ _ _ h.level (moved p i pre h) u in
      record {
        windowed = (drawn p i pre h).windowed;
        buffers = v.buffers;
        behind = behind_next (full p i pre h) (drawn p i pre h).some (omega (arith, u.high)) (before_left p i pre h);
        no_zero = goes_on u v (c.loop-turn.invariant.0 i pre h).no_zero
            (λ q. elim c.else-v-eq0.branch [
              | else-v-eq0-via-then-v-eq0+else-not-bump w ↦ absurd (true≢false (sym w.if-not-bump.false ∙ q))
              | else-v-eq0-via-else-v-eq0 w ↦ w.if-v-eq0.false
            ]);
      },
  c.serve-v.auto.seeds ∙ c.loop-turn.invariant.1,
  c.serve-v.auto.bitmap ∙ c.loop-turn.invariant.2,
  c.serve-v.auto.work ∙ c.advance-first_slot.auto.work ∙ c.loop-turn.invariant.3,
)

pub returns : goal.returns
returns c = λ i pre h. ends_all (c.loop-turn.invariant.0 i pre h) (omega (arith, order_few i c.args.lo c.args.hi))
