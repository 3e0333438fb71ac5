-- `refused_line` writes the number, and the bucket where one is named. Assumes nothing.
use Rattle.list_output.specs.TextLaws.{refused_bucket, refused_plain}
use lib.Seq.{sets}
use lib.ListN.{length}
use mathlib.Core.Path.{ap, ◌∙◌, refl}
use native.Mathlib.Omega.{arith}
use Rattle.list_output.proofs.text.refused_line.Goals as goal

pub returns-in-Some : goal.returns-in-Some
returns-in-Some c =
    let a = c.args in
    let p = c.put_line.ensures in
    let e = refused_bucket _ _ refl _ _ c.in-Some.is in
    record {
      value = (omega (arith, p.value.0, ap length e), omega (arith, p.value.1));
      out_after = p.out_after ∙ ap (sets a.out.now 0) e;
    }

pub returns-in-None : goal.returns-in-None
returns-in-None c =
    let a = c.args in
    let p = c.put_line-in-None.ensures in
    let e = refused_plain _ _ refl _ c.in-None.is in
    record {
      value = (omega (arith, p.value.0, ap length e), omega (arith, p.value.1));
      out_after = p.out_after ∙ ap (sets a.out.now 0) e;
    }
