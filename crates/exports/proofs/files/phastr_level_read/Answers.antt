-- Each arm tells what `read_file` says of its variant; a refusal leaves six zeroes.
use mathlib.Core.Path.{ap, ◌∙◌}
use lib.ListN.{replicate}
use Rattle.rules.specs.Answers.{Said}
use Rattle.level_file.specs.Format.{settings_numbers}
use Rattle.level_file.specs.Answer.{said_read, read_values}
use Rattle.exports.specs.Told.{number_told, values_told}
use Rattle.exports.proofs.files.phastr_level_read.Goals as goal

pub returns-in-Ok : goal.returns-in-Ok
unfolding said_read read_values settings_numbers number_told values_told
returns-in-Ok c =
    let said = c.in-Ok.ensures.answer in
    record {
      answer = ap number_told said;
      given = c.read_file.ensures.first;
      listed = c.read_file.ensures.second;
      told = ap (λ (x : Said). values_told x (replicate 6 0)) said;
    }

pub returns-in-Err : goal.returns-in-Err
unfolding said_read read_values settings_numbers number_told values_told
returns-in-Err c =
    let said = c.in-Err.ensures.answer in
    record {
      answer = c.number.ensures ∙ ap number_told said;
      given = c.read_file.ensures.first;
      listed = c.read_file.ensures.second;
      told = ap (λ (x : Said). values_told x (replicate 6 0)) said;
    }
