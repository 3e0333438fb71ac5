-- What `holes` says is told, and it leaves the buffer. Assumes nothing.
use mathlib.Core.Path.{ap, ◌∙◌}
use Rattle.rules.specs.Answers.{Said}
use Rattle.exports.specs.Told.{number_told, value_told}
use Rattle.exports.proofs.Results.{count_number, count_value}
use Rattle.exports.proofs.sweeping.phastr_holes.Goals as goal

pub returns : goal.returns
returns c =
    let said = c.holes.ensures.answer in
    record {
      answer = c.tell.ensures.number ∙ count_number c.holes.result ∙ ap number_told said;
      buffer = c.holes.ensures.buffer;
      counted = c.tell.ensures.value ∙ count_value c.holes.result c.args.count.now ∙ ap (λ (x : Said). value_told x c.args.count.now) said;
    }
