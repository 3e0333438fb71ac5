-- `fill` meets its contract: the loop keeps that the entries before d are there. Assumes nothing.
use mathlib.Core.Path.{◌≡◌, refl, subst}
use Prim.Native.Nat.{ℕ, ◌/◌}
use native.Mathlib.Omega.{arith}
use lib.ListN.{length, length-set}
use Rattle.log_table.proofs.Entries.{Filled, filled_start, filled_end, entry_small}
use Rattle.log_table.proofs.making.fill.Goals as goal

pub loop-d-init : goal.loop-d-init
loop-d-init c = filled_start c.args.table.now _ (omega arith) refl

pub next_entry-requires : goal.next_entry-requires
next_entry-requires c =
    let n = length-set c.args.table.now 0 0 in
    (omega arith, omega arith, omega arith, c.loop-d.invariant.done (c.loop-d.d / 2) (omega arith), entry_small (c.loop-d.d / 2) (omega arith))

pub returns : goal.returns
returns c =
    let n = length-set c.args.table.now 0 0 in
    let all : c.loop-d.d ≡ length c.args.table.now = omega arith in
    filled_end (length c.args.table.now) c.loop-d.table (omega arith) (subst (λ (d : ℕ). Filled d c.loop-d.table) all c.loop-d.invariant)
