-- `place` marks all or nothing: marks that found their slots free, taken back, leave the list as it was.
use native.Mathlib.Omega.{arith}
use Prim.Native.Nat.{ℕ}
use mathlib.Core.Path.{◌≡◌, ◌∙◌, ap}
use mathlib.Core.List.{List}
use Rattle.rings.specs.Parts.{part}
use Rattle.rings.specs.Place.{unmarked_to}
use Rattle.rings.specs.PlaceLaws.{placed_yes, placed_no, part_marked_to}
use Rattle.rings.proofs.place.place.Goals as goal

pub returns-then-k-size : goal.returns-then-k-size
returns-then-k-size c = placed_yes c.mark_keys-k.ensures c.if-k-size.true

pub unmark_keys-requires : goal.unmark_keys-requires
unmark_keys-requires c =
    let e : part c.mark_keys-k.new.work c.args.at c.args.size ≡ part c.args.work.now c.args.at c.args.size =
    part_marked_to c.args.g c.requires.shape _ _ _ _ _ c.args.at c.args.size c.requires.words_le_at.0 c.mark_keys-k.ensures.is in
    record {
      shape = c.requires.shape;
      words_le_at = (c.requires.words_le_at.0, omega (arith, c.mark_keys-k.auto), omega (arith, c.mark_keys-k.ensures.le));
      keys = rw e c.requires.keys;
      start_bound = c.requires.start_bound;
    }

pub returns : goal.returns
returns c =
    let e : part c.mark_keys-k.new.work c.args.at c.args.size ≡ part c.args.work.now c.args.at c.args.size =
    part_marked_to c.args.g c.requires.shape _ _ _ _ _ c.args.at c.args.size c.requires.words_le_at.0 c.mark_keys-k.ensures.is in
    placed_no c.requires.shape (omega arith) (λ k. (c.slice_known-1.given k).fits) c.mark_keys-k.ensures c.if-k-size.false
    (c.unmark_keys.ensures ∙ ap (λ (x : List ℕ). unmarked_to c.args.g c.mark_keys-k.new.work x c.args.start c.args.j c.mark_keys-k.result) e)
