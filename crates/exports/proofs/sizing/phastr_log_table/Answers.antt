-- What `make_logs` says is told, and it leaves the table. Assumes nothing.
use mathlib.Core.Path.{ap, ◌∙◌}
use Rattle.exports.specs.Told.{number_told}
use Rattle.exports.proofs.Results.{checked_number}
use Rattle.exports.proofs.sizing.phastr_log_table.Goals as goal

pub returns-clause-answer : goal.returns-clause-answer
returns-clause-answer c = c.number.ensures ∙ checked_number c.make_logs.result ∙ ap number_told c.make_logs.ensures.answer
