-- `bar` gives the barred rotation: bit 0 of the first word of layout 0 where n = R, and nothing elsewhere.
use Rattle.std.proofs.Common.{◌≡◌, ◌≢◌, eq-eqb, ne_eqb, ⊎_elim}
use Rattle.words.specs.Cases.{same_or_not}
use Rattle.rings.specs.FreeLaws.{bar_ring, bar_yes}
use Rattle.rings.proofs.free.bar.Goals as goal

pub returns : goal.returns
returns c =
    let g = c.args.g in
    ⊎_elim
    (λ (e : g.n ≡ g.rotations). rw (c.from.ensures, eq-eqb g.n g.rotations e) (bar_yes g e))
    (λ (n : g.n ≢ g.rotations). rw (c.from.ensures, ne_eqb g.n g.rotations n) (bar_ring g n))
    (same_or_not g.n g.rotations)
