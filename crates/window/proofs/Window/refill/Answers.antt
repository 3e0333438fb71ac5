-- An empty window moves on; one with buckets has its oldest at the head of what is left.
use Rattle.window.proofs.WindowLaws.{skip, stays_headed, is_empty, not_empty}
use Rattle.window.specs.declared.Window as Declared
use Rattle.rules.specs.Order.{Input}
use Rattle.window.specs.Window.{state_of, Ranged, Window, Windowed, Headed}
use Prim.Native.Nat.{ℕ, ◌+◌, min}
use mathlib.Core.Logic.{◌⊎◌}
use mathlib.Core.List.{[]}
use mathlib.Core.Path.{◌≡◌, sym, ap, ◌∙◌, subst}
use Rattle.window.proofs.Window.refill.Goals as goal
use Rattle.window.proofs.Window.refill.Goals.{then-is_empty, else-is_empty, Joined-is_empty}

-- the window as it is to be filled
moved : (c : Joined-is_empty) (i : Input) (lo k : ℕ) → Ranged i c.args.begins.now c.args.table.now c.args.hi → (h : Windowed i lo c.args.hi k (state_of c.args.self.now))
    → Window i lo c.args.hi k (state_of c.if-is_empty.self) h.rest × ((h.rest ≡ []) ⊎ Headed c.if-is_empty.self.oldest h.rest)
moved c i lo k g h =
    let P : Declared.Window → Type 0 = λ s. Window i lo c.args.hi k (state_of s) h.rest × ((h.rest ≡ []) ⊎ Headed s.oldest h.rest) in
    elim c.if-is_empty.branch [
      | then-is_empty w ↦
          let z = is_empty _ _ (sym c.is_empty.ensures.value ∙ w.if-is_empty.true) in
          subst P (sym w.self-is) (skip i c.args.begins.now c.args.table.now c.args.hi g lo k _ w.skip-self.result h z.0 z.1 w.skip-self.ensures)
      | else-is_empty w ↦
          let n = not_empty _ _ (sym c.is_empty.ensures.value ∙ w.if-is_empty.false) in
          subst P (sym w.self-is) (h.window, stays_headed i c.args.begins.now c.args.table.now c.args.hi g lo k _ h c.is_empty.ensures.nonempty_bound n)
    ]

pub fill-requires : goal.fill-requires
fill-requires c =
    let d = c.requires in
    record { i = d.i; lo = d.lo; k = d.k; rest = d.windowed.rest; ranged = d.ranged; window = (moved (goal.at.fill-requires c).Joined-is_empty d.i d.lo d.k d.ranged d.windowed).0 }

pub returns-clause-full : goal.returns-clause-full
returns-clause-full c = λ i lo k g h.
    let w = moved (goal.at.returns-clause-full c).Joined-is_empty i lo k g h in
    let e = c.fill.ensures.oldest_value in
    record {
      rest = h.rest;
      window = c.fill.ensures.window i lo k h.rest g w.0;
      oldest = subst (λ (o : ℕ). (h.rest ≡ []) ⊎ Headed o h.rest) (sym e.0) w.1;
      wide = e.1 ∙ ap (λ (o : ℕ). min (o + 256) c.args.hi) (sym e.0);
    }
