-- Each arm tells what `lookup` says of its variant, and `lookup` says the answer.
use mathlib.Core.Path.{ap, ◌∙◌}
use Rattle.rules.specs.Answers.{Said, said_looked}
use Rattle.exports.specs.Told.{number_told, slot_told}
use Rattle.exports.proofs.Results.{found_number, found_slot}
use Rattle.exports.proofs.asking.phastr_lookup.Goals as goal

pub returns-in-Ok : goal.returns-in-Ok
returns-in-Ok c =
    let said = c.in-Ok.ensures in
    rw (← c.settings_of.ensures) (record {
      answer = found_number c.in-Ok.found ∙ ap number_told said;
      found = c.unwrap_or.ensures ∙ found_slot c.in-Ok.found c.args.slot.now ∙ ap (λ (x : Said). slot_told x c.args.slot.now) said;
    })

pub returns-in-Err : goal.returns-in-Err
unfolding said_looked number_told slot_told
returns-in-Err c =
    let said = c.in-Err.ensures in
    rw (← c.settings_of.ensures) (record {
      answer = c.number.ensures ∙ ap number_told said;
      found = ap (λ (x : Said). slot_told x c.args.slot.now) said;
    })
