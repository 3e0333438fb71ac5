-- `sweep_line` is one line of seven numbers. Assumes nothing.
use Rattle.list_output.specs.Text.{sweep_line}
use native.Mathlib.Omega.{arith}
use Rattle.list_output.proofs.text.sweep_line.Goals as goal

pub returns : goal.returns
unfolding sweep_line
returns c =
    let p = c.put_line.ensures in
    record {
      value = (omega (arith, p.value.0), omega (arith, p.value.1));
      out_after = p.out_after;
    }
