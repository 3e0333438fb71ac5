-- `read_body`: the seeds and the holes, where the seeds have room. Assumes nothing.
use Rattle.level_file.proofs.PartLaws.{level_refused, seeds_void, holes_void, body_room, body_no, body_counted, body_seeds, body_holes}
use Rattle.level_file.specs.Reading.{read_as, read_into}
use Rattle.std.proofs.lemmas.Result.{err_from_is_err_and}
use lib.ListN.{length, take}
use lib.Seq.{length-take-le}
use native.Mathlib.Omega.{arith}
use mathlib.Core.Path.{◌≡◌, ◌∙◌}
use Rattle.level_file.proofs.reading.read_body.Goals as goal

pub returns-then-buckets-seeds : goal.returns-then-buckets-seeds
unfolding read_as
returns-then-buckets-seeds c =
    let e = body_room _ _ _ _ _ c.if-buckets-seeds.true in
    record {
      value = level_refused _ _ e;
      first = seeds_void _ _ e _ _;
      second = holes_void _ _ e _ _;
    }

pub returns-in_err-read_seeds : goal.returns-in_err-read_seeds
unfolding read_as read_into
returns-in_err-read_seeds c =
    let p = err_from_is_err_and c.from_residual.result c.from_residual.ensures.1 in
    let fit = c.if-buckets-seeds.false in
    let long = length-take-le c.args.settings.buckets c.args.seeds.now fit in
    let e = body_no _ _ _ _ _ fit _ _ c.power_of_two.ensures.0 long _ c.in_err-read_seeds.ensures.value in
    record {
      value = rw (p.1, p.2) (level_refused _ _ e);
      first = seeds_void _ _ e _ _;
      second = holes_void _ _ e _ _;
    }

pub returns : goal.returns
unfolding read_into
returns c =
    let fit = c.if-buckets-seeds.false in
    let long = length-take-le c.args.settings.buckets c.args.seeds.now fit in
    let is = c.power_of_two.ensures.0 in
    let v = c.in_ok-read_seeds.ensures.value in
    let same = c.in_ok-read_seeds.ensures.same in
    let many : length c.read_seeds.new.seeds ≡ length (take c.args.settings.buckets c.args.seeds.now) = omega arith in
    record {
      value = c.read_hole_part.ensures.value ∙ body_counted _ _ _ _ _ fit _ _ is long _ _ v _ same;
      first = body_seeds _ _ _ _ _ fit _ _ is long _ _ v _ same many _;
      second = body_holes _ _ _ _ _ fit _ _ is long _ _ v _ same _ _ c.read_hole_part.ensures.buffer;
    }
