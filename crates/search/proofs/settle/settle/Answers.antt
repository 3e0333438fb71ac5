-- All slots are marked, or the marks are taken back in ring and bitmap; the keys lie above the ring, so they are still those of the entry. Assumes nothing.
use mathlib.Core.Path.{◌≡◌, refl, ap, ◌∙◌}
use mathlib.Core.List.{List}
use Prim.Native.Nat.{ℕ}
use native.Mathlib.Omega.{arith}
use Rattle.rings.specs.Parts.{part}
use Rattle.rings.specs.Place.{unmarked_to}
use Rattle.rings.specs.PlaceLaws.{part_marked_to}
use Rattle.search.proofs.BothLaws.{settling_after, settled_yes, settled_no}
use Rattle.search.proofs.settle.settle.Goals as goal

pub mark_slots-k-requires : goal.mark_slots-k-requires
mark_slots-k-requires c = c.requires.settling

pub returns-then-k-row : goal.returns-then-k-row
returns-then-k-row c = let m = c.mark_slots-k.ensures in settled_yes m c.if-k-row.true

pub unmark_both-requires : goal.unmark_both-requires
unmark_both-requires c =
    record {
      settling = settling_after c.requires.settling c.mark_slots-k.ensures;
      count_le_size = omega (arith, c.mark_slots-k.ensures.ring.le);
    }

pub returns : goal.returns
returns c = let e : part c.mark_slots-k.new.work c.args.row.a c.args.row.size ≡ part c.args.work.now c.args.row.a c.args.row.size = part_marked_to c.args.g c.requires.settling.shape _ _ _ _ _ c.args.row.a c.args.row.size c.requires.settling.above c.mark_slots-k.ensures.ring.is in let u = c.unmark_both.ensures in settled_no c.mark_slots-k.ensures c.requires.settling (λ k. (c.slice_known-1.given k).fits) (λ k. (c.slice_known-2-1.given k).fits) c.requires.blank c.if-k-row.false (u.0 ∙ ap (λ (x : List ℕ). unmarked_to c.args.g c.mark_slots-k.new.work x c.args.row.start c.args.j c.mark_slots-k.result) e) (u.1 ∙ rw (e, c.mark_slots-k.ensures.map) refl)
