-- `next_set` scans word by word (`Scan`): each return gives the answer that the words passed allow. The measure is the number of words left.
-- Assumes nothing.
use mathlib.Core.Path.{sym, ◌∙◌}
use native.Mathlib.Omega.{arith}
use Rattle.words.specs.NextLaws.{next_none}
use Rattle.words.proofs.Scan.{scan_start_lem, scan_step, scan_none, scan_from, scan_found}
use Rattle.words.proofs.next_set.Goals as goal

pub returns-then-begin-end : goal.returns-then-begin-end
returns-then-begin-end c =
    let a = c.args in
    (sym (next_none a.bits.now a.begin a.end (omega arith) (λ k h l. absurd (omega arith))), omega arith, omega arith)

pub loop-word-init : goal.loop-word-init
loop-word-init c = scan_start_lem _ _ _ (omega arith) (c.type_inv.bits _).fits

pub returns-then-w-last : goal.returns-then-w-last
returns-then-w-last c = (sym (scan_none c.loop-word.invariant c.loop-word-test.true (omega arith)), omega arith, omega arith)

pub loop-word-preserved : goal.loop-word-preserved
loop-word-preserved c = scan_step c.loop-word.invariant c.loop-word-test.true (omega arith) (c.type_inv.bits _).fits

pub returns : goal.returns
returns c =
    let i = c.loop-word.invariant in
    let n = c.loop-word-test.false in
    (c.min.ensures ∙ sym (scan_found i n), omega (arith, c.min.ensures, scan_from i n), omega (arith, c.min.ensures))
