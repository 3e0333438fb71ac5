-- `fits` is a place that is taken back.
use Rattle.std.proofs.Common.{ℕ, List, ◌≡◌, ◌∙◌, ap, arith}
use Rattle.rings.specs.Parts.{part}
use Rattle.rings.specs.Place.{unmarked_to}
use Rattle.rings.specs.PlaceLaws.{part_marked_to, fitted_yes}
use Rattle.rings.proofs.place.fits.Goals as goal

pub unmark_keys-requires-clause-keys : goal.unmark_keys-requires-clause-keys
unmark_keys-requires-clause-keys c =
    let e : part c.place-placed.new.work c.args.at c.args.size ≡ part c.args.work.now c.args.at c.args.size =
    part_marked_to c.args.g c.requires.shape _ _ _ _ _ c.args.at c.args.size c.requires.words_le_at.0 (c.place-placed.ensures.yes c.if-placed.true).0 in
    rw e c.requires.keys

pub returns-then-placed : goal.returns-then-placed
returns-then-placed c =
    let e : part c.place-placed.new.work c.args.at c.args.size ≡ part c.args.work.now c.args.at c.args.size =
    part_marked_to c.args.g c.requires.shape _ _ _ _ _ c.args.at c.args.size c.requires.words_le_at.0 (c.place-placed.ensures.yes c.if-placed.true).0 in
    rw c.if-placed.true (fitted_yes c.requires.shape (omega arith) (λ k. (c.slice_known-1.given k).fits) c.place-placed.ensures c.if-placed.true
    (c.unmark_keys.ensures ∙ ap (λ (x : List ℕ). unmarked_to c.args.g c.place-placed.new.work x c.args.start c.args.j c.args.size) e))
