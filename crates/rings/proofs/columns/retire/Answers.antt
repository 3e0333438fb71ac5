-- `retire` loads the column one ring's length on in the place of the first one, so the ring stays a cache one column further.
use mathlib.Core.Path.{refl}
use native.Mathlib.Omega.{arith}
use lib.Pow.{shr_le}
use Rattle.rings.specs.ColumnLaws.{column_lt, column_code, column_above}
use Rattle.rings.specs.CacheLaws.{next_slot, caches_next}
use Rattle.rings.proofs.columns.retire.Goals as goal

pub overflow_add-c : goal.overflow_add-c
overflow_add-c c = omega (arith, shr_le c.args.first_slot c.args.g.t, shr_le c.args.g.words c.args.g.t)

pub load_column-requires : goal.load_column-requires
load_column-requires c =
    record {
      shape = c.requires.shape;
      words_in_bounds = (c.requires.words_in_bounds.0, omega (arith, next_slot c.requires.shape c.requires.caches refl, c.requires.shape.few));
    }

pub overflow_add-result : goal.overflow_add-result
overflow_add-result c =
    omega (arith, column_code c.args.g c.requires.shape c.args.first_slot, column_lt c.args.g c.requires.shape)

pub returns : goal.returns
returns c =
    let e = column_code c.args.g c.requires.shape c.args.first_slot in
    let k = c.load_column.ensures in
    record {
      value = (e, rw e (caches_next c.requires.shape c.requires.caches refl k));
      work_unchanged = column_above c.requires.shape _ k;
    }
