-- `put_line` writes the word, the fields and the newline, one after the other. Assumes nothing.
use mathlib.Core.List.{[]}
use lib.ListN.{set}
use Rattle.list_output.specs.Text.{line}
use Rattle.list_output.specs.Writing.{Writing, write_text, write_end}
use Rattle.list_output.specs.TextLaws.{line_written}
use mathlib.Core.Path.{refl}
use native.Mathlib.Omega.{arith}
use Prim.Native.Nat.{◌+◌}
use Rattle.list_output.proofs.lines.put_line.Goals as goal
use Rattle.list_output.proofs.lines.put_line.Goals.{After-slice_known-3-1}

-- the line is written where the function returns
written : (c : goal.After-slice_known-3-1) → Writing c.args.out.now c.args.at (line c.args.word.now c.args.numbers.now) (set c.put_fields-end.new.out c.put_fields-end.result 10) (c.put_fields-end.result + 1) []
written c =
    let a = c.args in
    line_written a.out.now a.at a.word.now a.numbers.now c.put-after_word.new.out c.put_fields-end.new.out c.put-after_word.result c.put_fields-end.result c.put-after_word.ensures.value c.put-after_word.ensures.out_after c.put_fields-end.ensures.value.0 c.put_fields-end.ensures.out_after

pub shape_of-out : goal.shape_of-out
shape_of-out c = (written (goal.at.shape_of-out c).After-slice_known-3-1).same

pub returns : goal.returns
returns c =
    record {
      value = (write_end (written (goal.at.returns c).After-slice_known-3-1) refl, omega (arith, c.put-after_word.ensures.value, c.put_fields-end.ensures.value.1));
      out_after = write_text (written (goal.at.returns c).After-slice_known-3-1) refl;
    }
