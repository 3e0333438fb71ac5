-- `load_rows` writes row after row; where no slot of the stretch is used each row is 0.
use mathlib.Core.Path.{◌≡◌, sym, ap, ◌∙◌}
use Prim.Native.Nat.{ℕ, ◌+◌, ◌*◌, ◌%◌, ◌^◌, ◌≤◌}
use native.Mathlib.Omega.{arith}
use lib.Pow.{pow_mono}
use Rattle.words.specs.ShiftLaws.{one_shl}
use Rattle.rings.specs.Columns.{none_used}
use Rattle.rings.specs.ColumnLaws.{loaded_none, loaded_more, rows_empty}
use Rattle.rings.proofs.columns.load_rows.Goals as goal

-- 1 << t
stride : (t : ℕ) → t ≤ 16 → (1 * 2 ^ t % 2 ^ 64 ≡ 2 ^ t) × (2 ^ t ≤ 65536)
stride t h = (one_shl 64 t (omega arith), pow_mono h)

pub overflow_add-from : goal.overflow_add-from
overflow_add-from c = omega (arith, stride c.args.t c.requires.0)

pub none_used-empty-requires : goal.none_used-empty-requires
none_used-empty-requires c = omega (arith, stride c.args.t c.requires.0)

pub loop-i-init : goal.loop-i-init
loop-i-init c = loaded_none _ _ _ _ _

pub overflow_add-from-in-loop-i : goal.overflow_add-from-in-loop-i
overflow_add-from-in-loop-i c = omega (arith, stride c.args.t c.requires.0)

pub column_word-requires : goal.column_word-requires
column_word-requires c =
    let n = stride c.args.t c.requires.0 in
    record {
      t_bound = (c.requires.0, omega (arith, n));
      strided = λ e. rows_empty c.args.t c.args.bitmap.now c.args.from c.loop-i.i (omega (arith, n))
          (ap (λ (x : ℕ). none_used c.args.bitmap.now (c.args.from * 64) ((c.args.from + x) * 64)) (sym n.0) ∙ sym c.none_used-empty.ensures ∙ e);
    }

pub overflow_add-work : goal.overflow_add-work
overflow_add-work c = omega (arith, stride c.args.t c.requires.0)

pub offset_bounds-work-a : goal.offset_bounds-work-a
offset_bounds-work-a c = omega (arith, stride c.args.t c.requires.0)

pub bounds-work-a : goal.bounds-work-a
bounds-work-a c = omega (arith, stride c.args.t c.requires.0, c.loop-i.invariant.len)

pub loop-i-preserved : goal.loop-i-preserved
loop-i-preserved c =
    loaded_more c.loop-i.invariant (omega (arith, stride c.args.t c.requires.0)) c.column_word.ensures

pub returns : goal.returns
returns c =
    let e : c.loop-i.i ≡ 2 ^ c.args.t = omega (arith, stride c.args.t c.requires.0) in
    rw e at c.loop-i.invariant
