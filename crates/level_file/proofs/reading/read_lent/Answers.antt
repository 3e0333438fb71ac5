-- `read_lent`: head and body. Assumes nothing.
use Rattle.level_file.proofs.PartLaws.{seeds_void, holes_void, file_good, file_no, file_refused, file_said, file_seeds, file_holes, refused_said}
use Rattle.level_file.specs.Reading.{read_as}
use mathlib.Core.Path.{refl}
use Rattle.std.proofs.lemmas.Result.{err_from_is_err_and}
use Rattle.level_file.proofs.reading.read_lent.Goals as goal

pub returns-in_err-settings : goal.returns-in_err-settings
unfolding read_as
returns-in_err-settings c =
    let p = err_from_is_err_and c.from_residual.result c.from_residual.ensures.1 in
    let e = file_no _ _ _ _ (c.in_err-settings.ensures.value refl) in
    record {
      value = rw (p.1, p.2) (refused_said _ _ e);
      first = seeds_void _ _ e _ _;
      second = holes_void _ _ e _ _;
    }

pub read_body-requires : goal.read_body-requires
unfolding read_as
read_body-requires c = file_good _ 0 0 _ _ (c.in_ok-settings.ensures.value refl)

pub returns-in_err-hole_count : goal.returns-in_err-hole_count
unfolding read_as
returns-in_err-hole_count c =
    let p = err_from_is_err_and c.from_residual-in_err-hole_count.result c.from_residual-in_err-hole_count.ensures.1 in
    let e = file_refused _ _ _ _ _ (c.in_ok-settings.ensures.value refl) _ c.in_ok-settings.ensures.same _ c.in_err-hole_count.ensures.value in
    record {
      value = rw (p.1, p.2) (refused_said _ _ e);
      first = seeds_void _ _ e _ _;
      second = holes_void _ _ e _ _;
    }

pub returns : goal.returns
unfolding read_as
returns c =
    let g = c.in_ok-settings.ensures.value refl in
    let same = c.in_ok-settings.ensures.same in
    let b = c.in_ok-hole_count.ensures in
    record {
      value = file_said _ _ _ _ _ g _ same _ _ b.value;
      first = file_seeds _ _ _ _ _ g _ same _ _ b.first;
      second = file_holes _ _ _ _ _ g _ same _ _ b.second;
    }
