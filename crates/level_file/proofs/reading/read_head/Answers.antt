-- `read_head`: the version, then the settings. Assumes nothing.
use Rattle.level_file.proofs.FillLaws.{number_got, number_no}
use Rattle.level_file.proofs.HeadLaws.{version_no, version_other, version_one}
use Rattle.level_file.specs.Reading.{read_as, checked_at}
use Rattle.std.proofs.lemmas.Result.{err_from_is_err_and}
use Prim.Native.Nat.{ℕ}
use mathlib.Core.List.{List}
use mathlib.Core.Path.{refl, sym, ap, ◌∙◌}
use Rattle.level_file.proofs.reading.read_head.Goals as goal

pub returns-in_err-version-clause-value : goal.returns-in_err-version-clause-value
unfolding read_as
returns-in_err-version-clause-value c =
    let p = err_from_is_err_and c.from_residual.result c.from_residual.ensures.1 in
    λ z. rw (p.1, p.2) (version_no _ _ z _ (number_no _ _ _ _ refl _ c.in_err-version.ensures.value))

pub returns-then-version-ne-VERSION-clause-value : goal.returns-then-version-ne-VERSION-clause-value
unfolding read_as
returns-then-version-ne-VERSION-clause-value c = λ z. version_other _ _ z _ _ (number_got _ _ _ _ refl _ c.in_ok-version.ensures.value) c.if-version-ne-VERSION.true

pub returns-clause-value : goal.returns-clause-value
returns-clause-value c = λ z.
    c.read_settings.ensures.value
    ∙ ap (λ (bytes : List ℕ). checked_at bytes c.next.new.self.at) c.in_ok-version.ensures.same
    ∙ sym (version_one _ _ z _ _ (number_got _ _ _ _ refl _ c.in_ok-version.ensures.value) c.if-version-ne-VERSION.false)
