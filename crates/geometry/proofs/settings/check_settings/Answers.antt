-- Lines 1 to 7 are lines 1 to 6 and line 7.
use Rattle.rules.proofs.CheckLaws.{numbered_6}
use Rattle.rules.proofs.Lines.{first_append_zero}
use Rattle.rules.proofs.RefusalLaws.{refused_first, checked_says}
use Rattle.rules.specs.Answers.{settings_answer}
use Rattle.rules.specs.declared.Refusal.TheVariants.{SlicesPerBucket}
use Rattle.std.specs.Prelude.{Ok, Err}
use Rattle.rules.specs.declared.Settings.{Settings}
use Rattle.rules.specs.Numbers.{first_of, lines_to6, lines_to7, line7}
use Rattle.std.proofs.lemmas.Grind.{common_steps}
use Rattle.std.proofs.Common.{◌≡◌, cond, ltb, [], ◌∷◌, sym, arith}
use Rattle.rules.specs.Geometry.{per_bucket}
use Rattle.geometry.proofs.settings.check_settings.Goals as goal

-- none of 1 to 6 applies
rest : (s : Settings) → 0 ≡ first_of (lines_to6 s) → first_of (lines_to7 s) ≡ cond (ltb 4096 (per_bucket s)) 7 0
unfolding lines_to7 first_of line7
rest s e = first_append_zero (lines_to6 s) (line7 s ∷ []) (numbered_6 s) (sym e)

pub returns-in_err-check_to_6-clause-number : goal.returns-in_err-check_to_6-clause-number
unfolding lines_to7
returns-in_err-check_to_6-clause-number c =
    let e = refused_first (lines_to6 c.args.s) (line7 c.args.s ∷ []) c.in_err-check_to_6.field-0.0 c.in_err-check_to_6.ensures.number in grind (arith, common_steps, e)

pub returns-then-per_bucket-gt4096-clause-number : goal.returns-then-per_bucket-gt4096-clause-number
returns-then-per_bucket-gt4096-clause-number c = grind (arith, common_steps, rest c.args.s c.in_ok-check_to_6.ensures.number)

pub returns-clause-number : goal.returns-clause-number
returns-clause-number c = grind (arith, common_steps, rest c.args.s c.in_ok-check_to_6.ensures.number)

pub returns-in_err-check_to_6-clause-answer : goal.returns-in_err-check_to_6-clause-answer
unfolding settings_answer
returns-in_err-check_to_6-clause-answer c = checked_says c.from_residual.result _ (returns-in_err-check_to_6-clause-number c)

pub returns-then-per_bucket-gt4096-clause-answer : goal.returns-then-per_bucket-gt4096-clause-answer
unfolding settings_answer
returns-then-per_bucket-gt4096-clause-answer c = checked_says (Err SlicesPerBucket) _ (returns-then-per_bucket-gt4096-clause-number c)

pub returns-clause-answer : goal.returns-clause-answer
unfolding settings_answer
returns-clause-answer c = checked_says (Ok tt) _ (returns-clause-number c)
