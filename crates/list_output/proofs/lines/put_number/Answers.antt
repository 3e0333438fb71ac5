-- `put_number` writes a space and the digits of `io::decimal`, which are `decimal`'s. Assumes nothing.
use Rattle.list_output.specs.Writing.{sets_after}
use Rattle.list_output.specs.DecimalLaws.{decimal_most, digits_decimal}
use Rattle.list_output.specs.Text.{decimal}
use lib.ListN.{length, take, length-set}
use mathlib.Core.Path.{◌≡◌, ap, ◌∙◌}
use native.Mathlib.Omega.{arith}
use Rattle.list_output.proofs.lines.put_number.Goals as goal

pub put-requires : goal.put-requires
put-requires c =
    let a = c.args in
    let e : take c.decimal-k.result c.decimal-k.new.out ≡ decimal a.n = c.decimal-k.ensures.digits ∙ digits_decimal a.n c.decimal-k.result c.ranges.n.fits c.decimal-k.ensures.len in
    omega (arith, ap length e, decimal_most a.n, length-set a.out.now a.at 32)

pub shape_of-out : goal.shape_of-out
shape_of-out c =
    let a = c.args in
    c.put.auto.out ∙ length-set a.out.now a.at 32

pub returns : goal.returns
returns c =
    let a = c.args in
    let e : take c.decimal-k.result c.decimal-k.new.out ≡ decimal a.n = c.decimal-k.ensures.digits ∙ digits_decimal a.n c.decimal-k.result c.ranges.n.fits c.decimal-k.ensures.len in
    let p = c.put.ensures in
    record {
      value = (omega (arith, p.value, ap length e), omega (arith, p.value, ap length e, decimal_most a.n));
      out_after = sets_after a.out.now a.at 32 _ _ _ p.out_after e;
    }
