-- `hole_lines` writes a line at each turn. Assumes nothing.
use Rattle.list_output.specs.Writing.{Writing}
use Rattle.list_output.specs.Text.{hole_line}
use Rattle.rules.specs.Lists.{concat_map}
use lib.ListN.{drop}
use Prim.Native.Nat.{◌+◌, ◌*◌, ◌≤◌}
use Rattle.list_output.proofs.text.hole_lines.Given as goal

abbrev pub invariant-loop-hole : goal.invariant-loop-hole
invariant-loop-hole l = (Writing l.initial.out l.at (concat_map hole_line l.holes) l.out l.place (concat_map hole_line (drop l.hole-index l.holes))) × (l.place ≤ l.at + 26 * l.hole-index)
