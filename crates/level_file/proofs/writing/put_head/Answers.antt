-- `put_head`: the version and the settings as a list of numbers, of which what is left is written from the present place on (`Putting`).
-- Assumes nothing.
use Rattle.level_file.proofs.PutLaws.{drop_as, drop_all, putting_room, putting_step, putting_end, putting_done}
use Rattle.level_file.specs.Format.{settings_numbers, bytes_of}
use lib.ListN.{length}
use lib.Seq.{sets}
use mathlib.Core.List.{List}
use mathlib.Core.Path.{refl, ap, ◌∙◌}
use native.Mathlib.Omega.{arith}
use Prim.Native.Nat.{ℕ, ◌<◌, ◌≤◌}
use Rattle.level_file.proofs.writing.put_head.Goals as goal

pub put_groups-place-requires : goal.put_groups-place-requires
unfolding settings_numbers
put_groups-place-requires c =
    let ns = c.head_numbers-number-items in
    let inside : c.loop-number.number-index < length ns.result = omega (arith, ap length ns.ensures) in
    let all = ap (λ (xs : List ℕ). length (bytes_of xs)) ns.ensures in
    putting_room _ _ _ _ _ _ c.loop-number.invariant _ _ (drop_as _ _ _ refl inside) (omega (arith, c.requires, all))

pub loop-number-preserved : goal.loop-number-preserved
unfolding settings_numbers
loop-number-preserved c =
    let ns = c.head_numbers-number-items in
    let inside : c.loop-number.number-index < length ns.result = omega (arith, ap length ns.ensures) in
    let g = c.put_groups-place.ensures in
    putting_step _ _ _ _ _ _ c.loop-number.invariant _ _ (drop_as _ _ _ refl inside) _ _ g.out_after g.value

pub returns : goal.returns
unfolding settings_numbers
returns c =
    let n = c.head_numbers-number-items.ensures in
    let past : length c.head_numbers-number-items.result ≤ c.loop-number.number-index = omega (arith, ap length n) in
    let e = drop_all c.head_numbers-number-items.result c.loop-number.number-index past in
    record {
      value = omega (arith, putting_end _ _ _ _ _ _ c.loop-number.invariant e, ap (λ (xs : List ℕ). length (bytes_of xs)) n);
      out_after = putting_done _ _ _ _ _ _ c.loop-number.invariant e ∙ ap (λ (xs : List ℕ). sets c.args.out.now 0 (bytes_of xs)) n;
    }
