-- `read_settings`: the five numbers one after the other; each refusal is the whole's. Assumes nothing.
use Rattle.level_file.proofs.FillLaws.{number_got, number_no}
use Rattle.level_file.proofs.HeadLaws.{settings_no₁, settings_no₂, settings_no₃, settings_no₄, settings_no₅, settings_refused, settings_fine}
use Rattle.level_file.specs.Reading.{read_as}
use Rattle.std.proofs.lemmas.Result.{err_from_is_err_and}
use mathlib.Core.Path.{refl, ◌∙◌}
use Rattle.level_file.proofs.reading.read_settings.Goals as goal

pub returns-in_err-next-clause-value : goal.returns-in_err-next-clause-value
unfolding read_as
returns-in_err-next-clause-value c =
    let p = err_from_is_err_and c.from_residual.result c.from_residual.ensures.1 in
    rw (p.1, p.2) (settings_no₁ _ _ _ (number_no _ _ _ _ refl _ c.in_err-next.ensures.value))

pub returns-in_err-next-2-clause-value : goal.returns-in_err-next-2-clause-value
unfolding read_as
returns-in_err-next-2-clause-value c =
    let p = err_from_is_err_and c.from_residual-in_err-next-2.result c.from_residual-in_err-next-2.ensures.1 in
    let e₁ = number_got _ _ _ _ refl _ c.in_ok-next.ensures.value in
    let s₁ = c.in_ok-next.ensures.same in
    rw (p.1, p.2) (settings_no₂ _ _ _ _ e₁ _ (number_no _ _ _ _ s₁ _ c.in_err-next-2.ensures.value))

pub returns-in_err-next-3-clause-value : goal.returns-in_err-next-3-clause-value
unfolding read_as
returns-in_err-next-3-clause-value c =
    let p = err_from_is_err_and c.from_residual-in_err-next-3.result c.from_residual-in_err-next-3.ensures.1 in
    let e₁ = number_got _ _ _ _ refl _ c.in_ok-next.ensures.value in
    let s₁ = c.in_ok-next.ensures.same in
    let e₂ = number_got _ _ _ _ s₁ _ c.in_ok-next-2.ensures.value in
    let s₂ = c.in_ok-next-2.ensures.same ∙ s₁ in
    rw (p.1, p.2) (settings_no₃ _ _ _ _ e₁ _ _ e₂ _ (number_no _ _ _ _ s₂ _ c.in_err-next-3.ensures.value))

pub returns-in_err-next-4-clause-value : goal.returns-in_err-next-4-clause-value
unfolding read_as
returns-in_err-next-4-clause-value c =
    let p = err_from_is_err_and c.from_residual-in_err-next-4.result c.from_residual-in_err-next-4.ensures.1 in
    let e₁ = number_got _ _ _ _ refl _ c.in_ok-next.ensures.value in
    let s₁ = c.in_ok-next.ensures.same in
    let e₂ = number_got _ _ _ _ s₁ _ c.in_ok-next-2.ensures.value in
    let s₂ = c.in_ok-next-2.ensures.same ∙ s₁ in
    let e₃ = number_got _ _ _ _ s₂ _ c.in_ok-next-3.ensures.value in
    let s₃ = c.in_ok-next-3.ensures.same ∙ s₂ in
    rw (p.1, p.2) (settings_no₄ _ _ _ _ e₁ _ _ e₂ _ _ e₃ _ (number_no _ _ _ _ s₃ _ c.in_err-next-4.ensures.value))

pub returns-in_err-next-5-clause-value : goal.returns-in_err-next-5-clause-value
unfolding read_as
returns-in_err-next-5-clause-value c =
    let p = err_from_is_err_and c.from_residual-in_err-next-5.result c.from_residual-in_err-next-5.ensures.1 in
    let e₁ = number_got _ _ _ _ refl _ c.in_ok-next.ensures.value in
    let s₁ = c.in_ok-next.ensures.same in
    let e₂ = number_got _ _ _ _ s₁ _ c.in_ok-next-2.ensures.value in
    let s₂ = c.in_ok-next-2.ensures.same ∙ s₁ in
    let e₃ = number_got _ _ _ _ s₂ _ c.in_ok-next-3.ensures.value in
    let s₃ = c.in_ok-next-3.ensures.same ∙ s₂ in
    let e₄ = number_got _ _ _ _ s₃ _ c.in_ok-next-4.ensures.value in
    let s₄ = c.in_ok-next-4.ensures.same ∙ s₃ in
    rw (p.1, p.2) (settings_no₅ _ _ _ _ e₁ _ _ e₂ _ _ e₃ _ _ e₄ _ (number_no _ _ _ _ s₄ _ c.in_err-next-5.ensures.value))

pub returns-in_err-check_settings-clause-value : goal.returns-in_err-check_settings-clause-value
unfolding read_as
returns-in_err-check_settings-clause-value c =
    let p = err_from_is_err_and c.from_residual-in_err-check_settings.result c.from_residual-in_err-check_settings.ensures.1 in
    let e₁ = number_got _ _ _ _ refl _ c.in_ok-next.ensures.value in
    let s₁ = c.in_ok-next.ensures.same in
    let e₂ = number_got _ _ _ _ s₁ _ c.in_ok-next-2.ensures.value in
    let s₂ = c.in_ok-next-2.ensures.same ∙ s₁ in
    let e₃ = number_got _ _ _ _ s₂ _ c.in_ok-next-3.ensures.value in
    let s₃ = c.in_ok-next-3.ensures.same ∙ s₂ in
    let e₄ = number_got _ _ _ _ s₃ _ c.in_ok-next-4.ensures.value in
    let s₄ = c.in_ok-next-4.ensures.same ∙ s₃ in
    let e₅ = number_got _ _ _ _ s₄ _ c.in_ok-next-5.ensures.value in
    rw (p.1, p.2) (settings_refused _ _ _ _ e₁ _ _ e₂ _ _ e₃ _ _ e₄ _ _ e₅ _ c.in_err-check_settings.ensures.number)

pub returns-clause-value : goal.returns-clause-value
unfolding read_as
returns-clause-value c =
    let e₁ = number_got _ _ _ _ refl _ c.in_ok-next.ensures.value in
    let s₁ = c.in_ok-next.ensures.same in
    let e₂ = number_got _ _ _ _ s₁ _ c.in_ok-next-2.ensures.value in
    let s₂ = c.in_ok-next-2.ensures.same ∙ s₁ in
    let e₃ = number_got _ _ _ _ s₂ _ c.in_ok-next-3.ensures.value in
    let s₃ = c.in_ok-next-3.ensures.same ∙ s₂ in
    let e₄ = number_got _ _ _ _ s₃ _ c.in_ok-next-4.ensures.value in
    let s₄ = c.in_ok-next-4.ensures.same ∙ s₃ in
    let e₅ = number_got _ _ _ _ s₄ _ c.in_ok-next-5.ensures.value in
    settings_fine _ _ _ _ e₁ _ _ e₂ _ _ e₃ _ _ e₄ _ _ e₅ c.in_ok-check_settings.ensures.number
