-- What `write_file` says is told; a refusal leaves the length 0. Assumes nothing.
use mathlib.Core.Path.{ap, ◌∙◌}
use Rattle.rules.specs.Answers.{Said}
use Rattle.exports.specs.Told.{number_told, value_told}
use Rattle.exports.proofs.Results.{written_number, written_value}
use Rattle.exports.proofs.files.phastr_level_write.Goals as goal

pub returns : goal.returns
returns c =
    let said = c.write_file-done.ensures.answer in
    rw (← c.settings_of-s.ensures) (record {
      answer = c.tell.ensures.number ∙ written_number c.write_file-done.result ∙ ap number_told said;
      file = c.write_file-done.ensures.buffer;
      long = c.tell.ensures.value ∙ written_value c.write_file-done.result 0 ∙ ap (λ (x : Said). value_told x 0) said;
    })
