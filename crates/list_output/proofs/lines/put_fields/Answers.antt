-- `put_fields` writes a field at each turn. Assumes nothing.
use Rattle.list_output.specs.Text.{decimal}
use mathlib.Core.List.{◌∷◌}
use Rattle.list_output.specs.Writing.{write_piece, write_text, write_end}
use Rattle.list_output.specs.TextLaws.{fields_number, fields_end}
use lib.ListN.{get_or}
use native.Mathlib.Omega.{arith}
use Rattle.list_output.proofs.lines.put_fields.Goals as goal

pub loop-number-preserved : goal.loop-number-preserved
loop-number-preserved c =
    let ns = c.args.numbers.now in
    let i = c.loop-number.number-index in
    let p = c.put_number-place.ensures in
    (write_piece c.loop-number.invariant.0 (32 ∷ decimal (get_or ns i 0)) _ _ _ (fields_number ns i c.loop-number-test.true) p.out_after p.value.0, omega (arith, p.value.1))

pub returns : goal.returns
returns c =
    let none = fields_end _ _ c.loop-number-test.false in
    record {
      value = (write_end c.loop-number.invariant.0 none, omega arith);
      out_after = write_text c.loop-number.invariant.0 none;
    }
