-- `read_hole_part`: the count, the holes, and that nothing is left over. Assumes nothing.
use Rattle.level_file.proofs.PartLaws.{list_refused, list_void, list_sized, list_leaves, part_no, part_many, part_room, part_refused, part_over, part_got}
use Rattle.level_file.proofs.FillLaws.{number_got, number_no}
use Rattle.level_file.specs.Reading.{read_as, read_into}
use Rattle.std.proofs.lemmas.Result.{err_from_is_err_and}
use lib.ListN.{length}
use lib.Seq.{length-take-le}
use native.Mathlib.Omega.{arith}
use mathlib.Core.Path.{◌≡◌, refl, ◌∙◌}
use Rattle.level_file.proofs.reading.read_hole_part.Goals as goal

pub returns-in_err-count : goal.returns-in_err-count
unfolding read_as
returns-in_err-count c =
    let p = err_from_is_err_and c.from_residual.result c.from_residual.ensures.1 in
    let e = part_no _ _ _ _ _ (number_no _ _ _ _ refl _ c.in_err-count.ensures.value) in
    record {
      value = rw (p.1, p.2) (list_refused _ _ e);
      buffer = list_void _ _ e _ _;
    }

pub returns-then-count-m : goal.returns-then-count-m
unfolding read_as
returns-then-count-m c =
    let e = part_many _ _ _ _ _ _ (number_got _ _ _ _ refl _ c.in_ok-count.ensures.value) c.if-count-m.true in
    record {
      value = list_refused _ _ e;
      buffer = list_void _ _ e _ _;
    }

pub returns-then-count-holes : goal.returns-then-count-holes
unfolding read_as
returns-then-count-holes c =
    let e = part_room _ _ _ _ _ _ (number_got _ _ _ _ refl _ c.in_ok-count.ensures.value) c.if-count-m.false c.if-count-holes.true in
    record {
      value = list_refused _ _ e;
      buffer = list_void _ _ e _ _;
    }

pub returns-in_err-read_holes : goal.returns-in_err-read_holes
unfolding read_as read_into
returns-in_err-read_holes c =
    let p = err_from_is_err_and c.from_residual-in_err-read_holes.result c.from_residual-in_err-read_holes.ensures.1 in
    let n = number_got _ _ _ _ refl _ c.in_ok-count.ensures.value in
    let long = length-take-le c.in_ok-count.count c.args.holes.now c.if-count-holes.false in
    let e = part_refused _ _ _ _ _ _ n c.if-count-m.false c.if-count-holes.false _ c.in_ok-count.ensures.same _ long _ c.in_err-read_holes.ensures.value in
    record {
      value = rw (p.1, p.2) (list_refused _ _ e);
      buffer = list_void _ _ e _ _;
    }

pub returns-then-reader : goal.returns-then-reader
unfolding read_as read_into
returns-then-reader c =
    let n = number_got _ _ _ _ refl _ c.in_ok-count.ensures.value in
    let long = length-take-le c.in_ok-count.count c.args.holes.now c.if-count-holes.false in
    let short = rw (c.in_ok-read_holes.ensures.same ∙ c.in_ok-count.ensures.same) at c.if-reader.true in
    let e = part_over _ _ _ _ _ _ n c.if-count-m.false c.if-count-holes.false _ c.in_ok-count.ensures.same _ long _ _ c.in_ok-read_holes.ensures.value short in
    record {
      value = list_refused _ _ e;
      buffer = list_void _ _ e _ _;
    }

pub returns : goal.returns
unfolding read_as read_into
returns c =
    let n = number_got _ _ _ _ refl _ c.in_ok-count.ensures.value in
    let long = length-take-le c.in_ok-count.count c.args.holes.now c.if-count-holes.false in
    let past = rw (c.in_ok-read_holes.ensures.same ∙ c.in_ok-count.ensures.same) at c.if-reader.false in
    let e = part_got _ _ _ _ _ _ n c.if-count-m.false c.if-count-holes.false _ c.in_ok-count.ensures.same _ long _ _ c.in_ok-read_holes.ensures.value past in
    let many : length c.read_holes.new.holes ≡ c.in_ok-count.count = omega (arith, long) in
    record {
      value = list_sized _ _ _ _ e many;
      buffer = list_leaves _ _ _ _ e many _;
    }
