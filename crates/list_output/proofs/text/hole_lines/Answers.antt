-- `hole_lines` writes a line at each turn. Assumes nothing.
use Rattle.list_output.specs.Writing.{write_piece}
use Rattle.list_output.specs.TextLaws.{lines_element}
use Rattle.list_output.specs.Text.{hole_line}
use lib.ListN.{get_or}
use native.Mathlib.Omega.{arith}
use Rattle.list_output.proofs.text.hole_lines.Goals as goal

pub loop-hole-preserved : goal.loop-hole-preserved
loop-hole-preserved c =
    let holes = c.args.holes.now in
    let i = c.loop-hole.hole-index in
    let p = c.hole_line-place.ensures in
    (write_piece c.loop-hole.invariant.0 (hole_line (get_or holes i 0)) _ _ _ (lines_element hole_line holes i c.loop-hole-test.true) p.out_after p.value.0, omega (arith, p.value.1))
