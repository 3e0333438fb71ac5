-- `put_fields` writes a field at each turn. Assumes nothing.
use Rattle.list_output.specs.Writing.{Writing}
use Rattle.list_output.specs.Text.{fields}
use lib.ListN.{drop}
use Prim.Native.Nat.{◌+◌, ◌*◌, ◌≤◌}
use Rattle.list_output.proofs.lines.put_fields.Given as goal

abbrev pub invariant-loop-number : goal.invariant-loop-number
invariant-loop-number l = (Writing l.initial.out l.at (fields l.numbers) l.out l.place (fields (drop l.number-index l.numbers))) × (l.place ≤ l.at + 21 * l.number-index)
