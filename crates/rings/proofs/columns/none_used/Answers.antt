-- `none_used` looks for the next used slot, up to the bitmap's end at most: past it there is none.
use Rattle.std.proofs.Common.{◌≡◌, ℕ, List, ◌*◌, ◌≤◌, ◌<◌, ap, ◌∙◌, sym, true, min, eqb, length, arith, eq-eqb, ⊎_elim, le-leb}
use Rattle.words.specs.Cases.{lt_or_ge}
use Rattle.words.specs.MapLaws.{slot_past}
use Rattle.words.specs.NextLaws.{next_none}
use Rattle.words.specs.Next.{next_set}
use Rattle.rings.specs.Columns.{none_used}
use Rattle.rings.specs.ColumnLaws.{none_cut}
use Rattle.rings.proofs.columns.none_used.Goals as goal

module _ (bitmap : List ℕ) (from to : ℕ) (h : from ≤ to) where
  -- the stretch is empty or lies past the end
  past : min to (length bitmap) ≤ from → none_used bitmap (from * 64) (to * 64) ≡ true
  unfolding none_used
  past l = eq-eqb (next_set bitmap (from * 64) (to * 64)) (to * 64) (next_none bitmap (from * 64) (to * 64) (omega arith) (λ k lo hi. slot_past bitmap k (omega arith)))

  -- the stretch, cut at the end
  cut : from < min to (length bitmap) → none_used bitmap (from * 64) (min to (length bitmap) * 64) ≡ none_used bitmap (from * 64) (to * 64)
  cut l =
      ⊎_elim
      (λ (b : length bitmap < to). none_cut bitmap (from * 64) (min to (length bitmap) * 64) (to * 64) (omega arith) (omega arith) (omega arith))
      (λ (b : to ≤ length bitmap). let e : min to (length bitmap) ≡ to = omega arith in ap (λ m. none_used bitmap (from * 64) (m * 64)) e)
      (lt_or_ge (length bitmap) to)

pub returns-then-end-from : goal.returns-then-end-from
returns-then-end-from c =
    le-leb c.min-end.result c.args.from c.if-end-from.true ∙ sym (past c.args.bitmap.now c.args.from c.args.to c.requires.0 (omega arith))

pub returns-else-end-from : goal.returns-else-end-from
unfolding none_used
returns-else-end-from c =
    let e : c.min-end.result ≡ min c.args.to (length c.args.bitmap.now) = c.min-end.ensures in
    ap (λ (x : ℕ). eqb x (c.min-end.result * 64)) c.next_set.ensures.0
    ∙ rw e (cut c.args.bitmap.now c.args.from c.args.to c.requires.0 (omega arith))
