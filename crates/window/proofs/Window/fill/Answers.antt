-- Each bucket from the next one on enters, and has a place in the window.
use Rattle.window.proofs.AscLaws.{asc_room}
use Rattle.window.proofs.Frames.{entered_heads}
use Rattle.window.proofs.WindowLaws.{enterable, enters}
use Rattle.window.specs.Large.{tell}
use Rattle.window.specs.Window.{State, state_at, Entering, Window}
use lib.IntN.{ℤ}
use native.Mathlib.Omega.{arith}
use Prim.Native.Nat.{ℕ, ◌+◌, ◌≤◌}
use mathlib.Core.List.{List}
use mathlib.Core.Path.{sym, ◌∙◌, subst}
use Rattle.window.proofs.Window.fill.Goals as goal

oldest_low : {begins : List ℕ} {table : List ℤ} {hi : ℕ} {s : State} → Entering begins table hi s → s.oldest ≤ 67108865
oldest_low {s = s} d = omega (arith, d.ranged.few, d.window.end, asc_room s.oldest s.next d.window.inside d.window.holds.asc)

pub overflow_add-self : goal.overflow_add-self
overflow_add-self c = omega (arith, oldest_low c.requires)

pub enter-requires : goal.enter-requires
enter-requires c =
    let d = c.requires in
    let m = c.min-to.ensures in
    let t = c.loop-b-test.true in
    let o = c.loop-b.invariant.0 in
    enterable d.i c.args.begins.now c.args.table.now c.args.hi d.ranged d.lo d.k _ _ _ _ c.loop-b.b d.rest
    (c.loop-b.invariant.1 d.i d.lo d.k d.rest d.ranged d.window) (omega arith) (omega arith) c.size_of-size.result c.size_of-size.ensures.0

pub loop-b-preserved : goal.loop-b-preserved
loop-b-preserved c =
    let m = c.min-to.ensures in
    let t = c.loop-b-test.true in
    let o = c.loop-b.invariant.0 in
    let same = c.enter.ensures.kept.0 in (
      same ∙ o,
      λ i lo k rest g w.
          let s = c.enter.new.self in
          subst (λ (first : ℕ). Window i lo c.args.hi k (state_at s.queues s.set (tell s.large) first (c.loop-b.b + 1)) rest) (sym same)
          (enters i c.args.begins.now c.args.table.now c.args.hi g lo k _ _ _ _ c.loop-b.b rest
          (c.loop-b.invariant.1 i lo k rest g w) (omega arith) (omega arith) c.size_of-size.result c.size_of-size.ensures.0 _ _ _ c.enter.ensures.entered),
      entered_heads c.enter.ensures.entered ∙ c.loop-b.invariant.2,
    )
