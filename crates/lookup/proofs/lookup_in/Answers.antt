-- The seed that is read is that of the hash's bucket, and the answer goes by it. Assumes nothing.
use Rattle.std.proofs.Common.{arith, ◌≡◌, sym, ap, ◌∙◌, ℕ, ◌≢◌, ◌∷◌, [], get_or, refl}
use Rattle.rules.specs.Geometry as G
use Rattle.rules.specs.Holes.{looked_up, slot_by}
use Rattle.lookup.proofs.Cases.{slot_of}
use Rattle.lookup.proofs.lookup_in.Goals as goal

pub returns-in-0 : goal.returns-in-0
unfolding looked_up slot_by
returns-in-0 c = let e : get_or c.args.seeds.now (G.bucket_of c.args.g.settings c.args.hash) 0 ≡ 0 = rw c.bucket_of.ensures.0 at c.in-0.is in rw e refl

pub returns-in_default : goal.returns-in_default
unfolding looked_up
returns-in_default c =
    let a = c.args in
    let seed = get_or a.seeds.now c.bucket_of.result 0 in
    let other : seed ≢ 0 = λ z. grind (arith, z) in
    ap (λ (x : ℕ). x ∷ []) c.position.ensures.0 ∙ sym (slot_of a.g.settings seed a.hash other) ∙ ap (λ (b : ℕ). slot_by a.g.settings (get_or a.seeds.now b 0) a.hash) c.bucket_of.ensures.0
