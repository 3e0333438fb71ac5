-- `next_entry` meets its contract: an even entry is that of the half and 2 ^ 24. Assumes nothing.
use native.Mathlib.Omega.{arith}
use Rattle.log_table.proofs.Entries.{even_is}
use Rattle.log_table.proofs.making.next_entry.Goals as goal

pub returns-then-d-eq0 : goal.returns-then-d-eq0
returns-then-d-eq0 c =
    even_is c.args.d _ (omega arith) (omega arith) (omega arith) c.requires.3
