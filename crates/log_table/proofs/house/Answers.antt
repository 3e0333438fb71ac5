-- `house` meets its contract: the constant is what `house_table` computes to, entry by entry. Assumes nothing.
use mathlib.Core.Path.{refl}
use Rattle.integers.specs.Power.{least_from, log_up}
use Rattle.log_table.specs.House.{house_table}
use Rattle.log_table.specs.Logs.{digit, raised, squares, bits, log_entry, logs_from, log_table}
use Rattle.log_table.proofs.HouseLaws.{house_is}
use Rattle.log_table.proofs.house.Goals as goal

pub returns : goal.returns
unfolding house_table log_table logs_from log_entry bits squares raised digit least_from log_up
returns c = house_is _ refl
