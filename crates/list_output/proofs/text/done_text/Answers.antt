-- `done_text` writes the line of the sweep, those of the buckets and those of the holes. Assumes nothing.
use Rattle.list_output.specs.Writing.{write_text, write_end}
use Rattle.list_output.specs.TextLaws.{three_written}
use Rattle.list_output.specs.Text.{bucket_line, hole_line, sweep_line, done_text}
use Rattle.rules.specs.Lists.{below, concat_map}
use lib.ListN.{length}
use mathlib.Core.Path.{refl}
use native.Mathlib.Omega.{arith}
use Rattle.list_output.proofs.text.done_text.Goals as goal

pub returns : goal.returns
unfolding done_text
returns c =
    let a = c.args in
    let w =
    three_written a.out.now (sweep_line a.m (length a.seeds.now) a.keys a.counts (length a.holes.now))
    (concat_map (bucket_line a.begins.now a.seeds.now) (below (length a.seeds.now))) (concat_map hole_line a.holes.now)
    c.sweep_line-after_sweep.new.out c.bucket_lines-after_buckets.new.out c.hole_lines.new.out c.sweep_line-after_sweep.result c.bucket_lines-after_buckets.result c.hole_lines.result
    c.sweep_line-after_sweep.ensures.value.0 c.sweep_line-after_sweep.ensures.out_after c.bucket_lines-after_buckets.ensures.value.0 c.bucket_lines-after_buckets.ensures.out_after c.hole_lines.ensures.value.0 c.hole_lines.ensures.out_after in
    record {
      value = (omega (arith, write_end w refl), omega (arith, c.sweep_line-after_sweep.ensures.value.1, c.bucket_lines-after_buckets.ensures.value.1, c.hole_lines.ensures.value.1));
      out_after = write_text w refl;
    }
