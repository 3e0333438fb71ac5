-- `over_size` tests m, B and the keys as `over_size` says; the keys are what is neither head nor key count. Assumes nothing.
use Rattle.list_input.specs.AskedLaws.{long_enough, numbers_count, over_m, over_buckets, over_keys}
use native.Mathlib.Omega.{arith}
use Rattle.list_input.proofs.asked.over_size.Goals as goal
use Rattle.list_input.proofs.asked.over_size.Goals.{then-ns-gt1024-via-then-ns-gt1024, then-ns-gt1024-via-else-ns-gt1024+then-buckets-gt64}

pub bounds-ns-0 : goal.bounds-ns-0
bounds-ns-0 c = omega (arith, long_enough c.args.ns.now c.requires)

pub bounds-ns-12 : goal.bounds-ns-12
bounds-ns-12 c = omega (arith, long_enough c.args.ns.now c.requires)

pub overflow_sub-result : goal.overflow_sub-result
overflow_sub-result c = long_enough c.args.ns.now c.requires

pub returns-then-ns-gt1024 : goal.returns-then-ns-gt1024
returns-then-ns-gt1024 c =
    elim c.then-ns-gt1024.branch [
      | then-ns-gt1024-via-then-ns-gt1024 w ↦ over_m _ c.requires w.if-ns-gt1024.true
      | then-ns-gt1024-via-else-ns-gt1024+then-buckets-gt64 w ↦ over_buckets _ c.requires w.if-ns-gt1024.false w.if-buckets-gt64.true
    ]

pub overflow_sub-result-2 : goal.overflow_sub-result-2
overflow_sub-result-2 c = omega (arith, numbers_count c.args.ns.now c.requires)

pub returns : goal.returns
returns c = over_keys _ c.requires c.if-ns-gt1024.false c.if-buckets-gt64.false
