-- `measure_head`: the bytes of the numbers so far, at most ten to each (`Measuring`). Assumes nothing.
use Rattle.level_file.proofs.PutLaws.{drop_as, drop_all}
use Rattle.level_file.proofs.MeasureLaws.{measuring_step, bytes_nil}
use Rattle.level_file.specs.Format.{settings_numbers, bytes_of}
use Rattle.house_numbers.specs.EncodeLaws.{length_ten}
use lib.ListN.{length, get_or}
use mathlib.Core.List.{List}
use mathlib.Core.Path.{refl, ap}
use native.Mathlib.Omega.{arith}
use Prim.Native.Nat.{ℕ, ◌+◌, ◌<◌, ◌≤◌}
use Rattle.level_file.proofs.writing.measure_head.Goals as goal

pub overflow_add-total : goal.overflow_add-total
overflow_add-total c = omega (arith, c.group_count-total.ensures, length_ten (get_or c.head_numbers-number-items.result c.loop-number.number-index 0))

pub loop-number-preserved : goal.loop-number-preserved
unfolding settings_numbers
loop-number-preserved c =
    let ns = c.head_numbers-number-items in
    let inside : c.loop-number.number-index < length ns.result = omega (arith, ap length ns.ensures) in
    let g = c.group_count-total.ensures in (
      measuring_step _ _ _ _ _ c.loop-number.invariant.0 _ _ _ _ refl (drop_as _ _ _ refl inside) (ap (λ (k : ℕ). c.loop-number.total + k) g),
      omega (arith, g, length_ten (get_or ns.result c.loop-number.number-index 0)),
    )

pub overflow_add-result : goal.overflow_add-result
overflow_add-result c = omega (arith, c.group_count.ensures, length_ten c.args.count)

pub returns : goal.returns
unfolding settings_numbers
returns c =
    let n = c.head_numbers-number-items.ensures in
    let past : length c.head_numbers-number-items.result ≤ c.loop-number.number-index = omega (arith, ap length n) in
    let left = ap (λ (xs : List ℕ). length (bytes_of xs)) (drop_all c.head_numbers-number-items.result c.loop-number.number-index past) in
    let all = ap (λ (xs : List ℕ). length (bytes_of xs)) n in
    (omega (arith, c.group_count.ensures, c.loop-number.invariant.0.so_far, left, all, bytes_nil), omega (arith, c.group_count.ensures, length_ten c.args.count))
