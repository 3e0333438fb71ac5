-- `load` takes the column that the first slot of bucket lo stands in, so the ring begins at or before it.
use native.Mathlib.Omega.{arith}
use mathlib.Core.Path.{◌≡◌, sym, ap, ◌∙◌, subst}
use Prim.Native.Nat.{ℕ, ◌*◌, ◌/◌, ◌^◌}
use Rattle.geometry.proofs.Sizes.{sized}
use Rattle.rings.specs.Columns.{col_slot, Caches}
use Rattle.sweep.proofs.RangeLaws.{col_le, col_is}
use Rattle.sweep.proofs.moving.load.Goals as goal

pub load_ring-requires : goal.load_ring-requires
load_ring-requires c =
    record {
      shape = c.requires.shape;
      words_in_bounds = (c.requires.words_in_bounds.0, omega (arith, col_le c.args.ring.t c.first-at.result, c.first-at.ensures.1, (sized c.args.g).ns_high));
    }

pub overflow_mul-result : goal.overflow_mul-result
overflow_mul-result c =
    let at = c.first-at.result in
    let k = at / 2 ^ c.args.ring.t / 64 in
    omega (arith, ap (λ (x : ℕ). k * x) c.column_slots.ensures.0, col_is c.args.ring.t k, col_le c.args.ring.t at, c.first-at.ensures.1, (sized c.args.g).ns_high)

pub returns : goal.returns
returns c =
    let at = c.first-at.result in
    let k = at / 2 ^ c.args.ring.t / 64 in
    let e : k * c.column_slots.result ≡ col_slot c.args.ring.t k = ap (λ (x : ℕ). k * x) c.column_slots.ensures.0 ∙ col_is c.args.ring.t k in
    record {
      upper_bound = omega (arith, e, col_le c.args.ring.t at, c.first-at.ensures.0);
      caches = subst (λ (x : ℕ). Caches c.args.ring c.load_ring.new.work c.args.bitmap.now x) (sym e) c.load_ring.ensures;
    }
