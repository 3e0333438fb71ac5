-- `finish` prints the listing of whatever bytes were fed: 18, 19 for over 205 numbers, else what the numbers kept ask for.
-- Assumes nothing.
use lib.Seq.{length-take-le}
use native.Mathlib.Omega.{arith}
use mathlib.Core.Path.{sym, ◌∙◌}
use Rattle.rules.specs.Answers.{named_by}
use Rattle.listing.proofs.FedLaws.{finished_by, unformed_text, many_text, kept_text, kept_well}
use Rattle.listing.proofs.finish.Goals as goal

pub returns-then-not-scan_ends : goal.returns-then-not-scan_ends
unfolding named_by
returns-then-not-scan_ends c =
    let a = c.args in
    let p = c.refused_text.ensures in
    let value = rw c.into.ensures at p.value.0 in
    let after = rw c.into.ensures at p.out_after in
    record {
      finished = finished_by a.scan a.numbers.now a.out.now _ _ _ value after (unformed_text a.scan a.numbers.now (sym c.scan_ends.ensures ∙ c.if-not-scan_ends.true));
      upper_bound = omega (arith, p.value.1);
    }

pub returns-then-count-gt205 : goal.returns-then-count-gt205
unfolding named_by
returns-then-count-gt205 c =
    let a = c.args in
    let p = c.refused_text-then-count-gt205.ensures in
    let value = rw c.into-then-count-gt205.ensures at p.value.0 in
    let after = rw c.into-then-count-gt205.ensures at p.out_after in
    record {
      finished = finished_by a.scan a.numbers.now a.out.now _ _ _ value after (many_text a.scan a.numbers.now (sym c.scan_ends.ensures ∙ c.if-not-scan_ends.false) c.if-count-gt205.true);
      upper_bound = omega (arith, p.value.1);
    }

pub slice_bounds-asked-end : goal.slice_bounds-asked-end
slice_bounds-asked-end c = sym (length-take-le _ _ (omega (arith, c.if-count-gt205.false, c.requires.fed.by.size)))

pub asked-requires : goal.asked-requires
asked-requires c =
    let a = c.args in
    record {
      ns_value = kept_well a.scan a.numbers.now (sym c.scan_ends.ensures ∙ c.if-not-scan_ends.false) c.if-count-gt205.false _ c.requires.fed.by;
      in_bounds = c.requires.in_bounds;
    }

pub returns : goal.returns
returns c =
    let a = c.args in
    let p = c.asked.ensures in
    record {
      finished = finished_by a.scan a.numbers.now a.out.now _ _ _ p.value.0 p.out_after (kept_text a.scan a.numbers.now (sym c.scan_ends.ensures ∙ c.if-not-scan_ends.false) c.if-count-gt205.false);
      upper_bound = p.value.1;
    }
