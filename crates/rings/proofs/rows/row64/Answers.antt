-- `row64` gives the row from slot p on: the words of a slot and of the next column, joined at the slot's bit.
use Rattle.rings.specs.RowLaws.{row_joined}
use Rattle.rings.proofs.rows.row64.Goals as goal

pub returns : goal.returns
returns c =
    row_joined (c.type_inv.used _).fits c.word_of-w.ensures c.next_word-next.ensures c.bit_of.ensures.0 c.join.ensures
