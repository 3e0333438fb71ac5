-- `bucket_lines` writes a line at each turn, from the bucket's keys and seed. Assumes nothing.
use Rattle.list_output.specs.Writing.{write_piece}
use Rattle.list_output.specs.TextLaws.{lines_number, bucket_line_is}
use Rattle.list_output.specs.Text.{bucket_line}
use lib.Seq.{sets}
use lib.ListN.{length}
use mathlib.Core.List.{List}
use mathlib.Core.Path.{refl, ap, ◌∙◌}
use native.Mathlib.Omega.{arith}
use Prim.Native.Nat.{ℕ, ◌+◌}
use Rattle.list_output.proofs.text.bucket_lines.Goals as goal

pub loop-b-preserved : goal.loop-b-preserved
loop-b-preserved c =
    let a = c.args in
    let p = c.bucket_line-place.ensures in
    let e = bucket_line_is a.begins.now a.seeds.now c.loop-b.b _ _ c.size_of-keys.ensures.0 refl in (
      write_piece c.loop-b.invariant.0 (bucket_line a.begins.now a.seeds.now c.loop-b.b) _ _ _ (lines_number (bucket_line a.begins.now a.seeds.now) (length a.seeds.now) c.loop-b.b c.loop-b-test.true)
          (p.out_after ∙ ap (sets c.loop-b.out c.loop-b.place) e) (p.value.0 ∙ ap (λ (t : List ℕ). c.loop-b.place + length t) e),
      omega (arith, p.value.1),
    )
