-- What `bucket_count` says is told. Assumes nothing.
use mathlib.Core.Path.{ap, ◌∙◌}
use Rattle.rules.specs.Answers.{Said}
use Rattle.exports.specs.Told.{number_told, value_told}
use Rattle.exports.proofs.Results.{count_number, count_value}
use Rattle.exports.proofs.sizing.phastr_bucket_count.Goals as goal

pub returns : goal.returns
returns c =
    let said = c.bucket_count.ensures in
    record {
      answer = c.tell.ensures.number ∙ count_number c.bucket_count.result ∙ ap number_told said;
      counted = c.tell.ensures.value ∙ count_value c.bucket_count.result c.args.count.now ∙ ap (λ (x : Said). value_told x c.args.count.now) said;
    }
