-- `hole_line` is one line of one number. Assumes nothing.
use Rattle.list_output.specs.Text.{hole_line}
use native.Mathlib.Omega.{arith}
use Rattle.list_output.proofs.text.hole_line.Goals as goal

pub returns : goal.returns
unfolding hole_line
returns c =
    let p = c.put_line.ensures in
    record {
      value = (p.value.0, omega (arith, p.value.1));
      out_after = p.out_after;
    }
