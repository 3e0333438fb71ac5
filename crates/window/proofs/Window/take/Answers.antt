-- The bucket is taken from the queues and the set; where it was the oldest, the next one of the set becomes that.
use Rattle.window.proofs.Frames.{popped_rows}
use Rattle.window.proofs.WindowLaws.{ready, reaches, look, pop_range, pop_other, pop_oldest}
use Rattle.window.specs.declared.Window as Declared
use Rattle.window.specs.Large.{tell, Left, Searched}
use Rattle.window.specs.Window.{state_at, Turned}
use Rattle.words.specs.Map.{cleared}
use Rattle.words.specs.MapLaws.{length_cleared}
use lib.ListN.{length}
use native.Mathlib.Omega.{arith}
use Prim.Native.Nat.{ℕ, ◌<◌}
use mathlib.Core.Path.{◌≡◌, sym, ap, ◌∙◌, subst}
use mathlib.Core.List.{List}
use Rattle.window.proofs.Window.take.Goals as goal
use Rattle.window.proofs.Window.take.Goals.{then-b-self, else-b-self}

-- the set once a bucket is cleared
cleared_long : (set set' : List ℕ) (b : ℕ) → set' ≡ cleared set b → length set ≡ 16 → length set' ≡ 16
cleared_long set set' b e l = ap length e ∙ length_cleared set b ∙ l

pub pop-b-requires : goal.pop-b-requires
pop-b-requires c =
    let d = c.requires.filled in
    ready d.i c.args.begins.now c.args.table.now d.hi d.ranged d.lo d.k _ _ _ _ _ d.full c.requires.large_nonzero

pub overflow_add-self : goal.overflow_add-self
overflow_add-self c =
    let d = c.requires.filled in
    omega (arith, reaches d.i c.args.begins.now c.args.table.now d.hi d.ranged d.lo d.k _ _ _ _ _ d.full)

pub first_in-self-requires : goal.first_in-self-requires
first_in-self-requires c =
    let d = c.requires.filled in
    let r = reaches d.i c.args.begins.now c.args.table.now d.hi d.ranged d.lo d.k _ _ _ _ _ d.full in
    let p = pop_range d.i c.args.begins.now c.args.table.now d.hi d.ranged d.lo d.k _ _ _ _ _ d.full _ _ c.pop-b.ensures in
    let same = c.if-b-self.true in
    record {
      begin_le_end = (omega (arith, p, same), (omega (arith, d.full.window.holds.narrow), omega (arith, r)));
      set_len = cleared_long c.args.self.now.set _ _ c.clear_bit.ensures d.full.window.holds.marks.long;
    }

pub left-self-requires : goal.left-self-requires
left-self-requires c =
    let d = c.requires.filled in
    let r = reaches d.i c.args.begins.now c.args.table.now d.hi d.ranged d.lo d.k _ _ _ _ _ d.full in
    let p = pop_range d.i c.args.begins.now c.args.table.now d.hi d.ranged d.lo d.k _ _ _ _ _ d.full _ _ c.pop-b.ensures in
    let long = cleared_long c.args.self.now.set _ _ c.clear_bit.ensures d.full.window.holds.marks.long in
    let P : Declared.Window → Type 0 = λ s. Searched s.set c.args.begins.now c.args.table.now s.oldest s.next × (c.pop-b.result < s.next) in
    let all : P c.if-b-self.self = elim c.if-b-self.branch [
      | then-b-self w ↦
          let f = w.first_in-self.ensures in
          subst P (sym w.self-is) (look d.i c.args.begins.now c.args.table.now d.hi d.ranged d.lo d.k _ _ _ _ _ d.full _ w.first_in-self.result long (omega (arith, f.from)) f.to, p.1)
      | else-b-self w ↦
          subst P (sym w.self-is) (look d.i c.args.begins.now c.args.table.now d.hi d.ranged d.lo d.k _ _ _ _ _ d.full _ c.args.self.now.oldest long (omega arith) r.0, p.1)
    ] in
    record { searched = all.0; b_lt_e = all.1 }

pub returns : goal.returns
returns c =
    let d = c.requires.filled in
    let near = pop_range d.i c.args.begins.now c.args.table.now d.hi d.ranged d.lo d.k _ _ _ _ _ d.full _ _ c.pop-b.ensures in
    let n = tell c.left-self.result in
    record {
      turned = λ i lo hi k g f.
          let P : Declared.Window → Type 0 = λ s.
          Left s.set c.args.begins.now c.args.table.now (tell s.large) c.pop-b.result s.oldest s.next n
          → Turned i lo hi k c.pop-b.result (state_at s.queues s.set n s.oldest s.next) in
          let all : P c.if-b-self.self = elim c.if-b-self.branch [
            | then-b-self w ↦
                subst P (sym w.self-is)
                (λ l. pop_oldest i c.args.begins.now c.args.table.now hi g lo k _ _ _ _ _ f _ _ c.pop-b.ensures _ n w.first_in-self.result c.clear_bit.ensures l w.if-b-self.true w.first_in-self.ensures)
            | else-b-self w ↦
                subst P (sym w.self-is)
                (λ l. pop_other i c.args.begins.now c.args.table.now hi g lo k _ _ _ _ _ f _ _ c.pop-b.ensures _ n c.clear_bit.ensures l w.if-b-self.false)
          ] in
          all c.left-self.ensures;
      oldest_le_bucket = (near.0, omega (arith, near.1, d.full.window.holds.narrow));
      rows =
          let popped = popped_rows c.pop-b.ensures in
          let P : Declared.Window → Type 0 = λ s. s.queues.rows ≡ c.args.self.now.queues.rows in
          elim c.if-b-self.branch [ then-b-self w ↦ subst P (sym w.self-is) popped | else-b-self w ↦ subst P (sym w.self-is) popped ];
    }
