use Rattle.window.proofs.CyclicLaws.{one_stretch, first_stretch, second_stretch}
use Rattle.words.specs.NextLaws.{First, next_is}
use native.Mathlib.Omega.{arith}
use Prim.Native.Nat.{◌+◌, ◌-◌, ◌%◌}
use mathlib.Core.Path.{sym, subst}
use Rattle.window.proofs.cyclic.first_in.Goals as goal

pub returns-then-e-le1024 : goal.returns-then-e-le1024
returns-then-e-le1024 c =
    let set = c.args.set.now in
    let b = c.args.begin % 1024 in
    let e = b + (c.args.end - c.args.begin) in
    one_stretch set c.args.begin c.args.end c.requires.begin_le_end.0 c.requires.begin_le_end.1.0 c.next_set.result c.if-e-le1024.true
    (subst (First set b e) (sym c.next_set.ensures.0) (next_is set b e (omega arith)))

pub returns-then-r-lt1024 : goal.returns-then-r-lt1024
returns-then-r-lt1024 c =
    let set = c.args.set.now in
    let b = c.args.begin % 1024 in
    first_stretch set c.args.begin c.args.end c.requires.begin_le_end.0 c.requires.begin_le_end.1.0 c.next_set-r.result (omega (arith, c.if-e-le1024.false)) c.if-r-lt1024.true
    (subst (First set b 1024) (sym c.next_set-r.ensures.0) (next_is set b 1024 (omega arith)))

pub returns : goal.returns
returns c =
    let set = c.args.set.now in
    let b = c.args.begin % 1024 in
    let e = b + (c.args.end - c.args.begin) in
    second_stretch set c.args.begin c.args.end c.requires.begin_le_end.0 c.requires.begin_le_end.1.0 c.next_set-r.result c.next_set-2.result (omega (arith, c.if-e-le1024.false)) (omega (arith, c.if-r-lt1024.false))
    (subst (First set b 1024) (sym c.next_set-r.ensures.0) (next_is set b 1024 (omega arith)))
    (subst (First set 0 (e - 1024)) (sym c.next_set-2.ensures.0) (next_is set 0 (e - 1024) (omega arith)))
