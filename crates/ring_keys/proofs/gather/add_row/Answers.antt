-- `add_row` joins the key's row to the word, and stores nothing else.
use Rattle.ring_keys.specs.GatherLaws.{row_added}
use Rattle.ring_keys.proofs.gather.add_row.Goals as goal
use Rattle.ring_keys.proofs.gather.add_row.Goals.{then-this-ne0, else-this-ne0}

pub returns : goal.returns
returns g c =
    elim c.if-this-ne0.branch [
      | then-this-ne0 w ↦ rw w.row-is (row_added w.key_row_64-row.ensures)
      | else-this-ne0 w ↦ rw w.row-is (row_added w.key_row-row.ensures)
    ]
