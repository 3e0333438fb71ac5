-- `swept` prints what the sweep said: a refusal as it came, or the listing of the seeds and the bitmap that it left.
-- Assumes nothing.
use lib.Seq.{sets}
use lib.ListN.{length}
use native.Mathlib.Omega.{arith}
use mathlib.Core.Path.{◌≡◌, sym, ap, ◌∙◌}
use Rattle.rules.specs.Numbers.{lent_of}
use Rattle.rules.specs.Order.{Input, input_of}
use Rattle.std.specs.Prelude.{Ok}
use Rattle.rules.specs.declared.Counts.{Counts}
use Rattle.listing.specs.Listing.{lent_by}
use Rattle.listing.proofs.PrintLaws.{Swept, lent_same, swept_refused, swept_done, swept_text_lem}
use Rattle.listing.proofs.printing.swept.Goals as goal
use Rattle.listing.proofs.printing.swept.Goals.{After-sweep-r}

-- what the sweep was given, said and left
module _ (d : goal.After-sweep-r) where
  abbrev input : Input
  input =
      let a = d.args in
      input_of a.settings a.weights a.hashes.now a.begins.now a.table.now

  lent : lent_of d.args.seeds.now d.args.bitmap.now d.args.work.now ≡ lent_by input
  lent =
      let p = d.requires.seeds_len in
      lent_same input d.args.seeds.now d.args.bitmap.now d.args.work.now p.0 p.1 p.2

  swept_at : (counts : Counts) → d.sweep-r.result.outcome ≡ Ok counts
      → Swept d.args.bump input counts d.sweep-r.new.seeds d.sweep-r.new.bitmap
  swept_at counts e = swept_done _ input _ lent d.sweep-r.result d.sweep-r.ensures.answer counts _ _ _ _ e d.sweep-r.ensures.given d.sweep-r.ensures.marked

pub listed-requires : goal.listed-requires
listed-requires c =
    let p = c.requires in
    let k : length c.sweep-r.new.seeds ≡ c.args.settings.buckets = c.sweep-r.auto.seeds ∙ p.seeds_len.0 in
    record {
      le_m = ((swept_at (goal.at.listed-requires c).After-sweep-r _ c.in-Ok.is).m_low, p.m_bound.0, c.sweep-r.auto.bitmap ∙ p.seeds_len.1, omega (arith, k, p.m_bound.1), p.m_bound.2);
      by_index = λ b h. p.by_index b (omega (arith, k, h));
    }

pub returns-in-Err : goal.returns-in-Err
returns-in-Err c =
    let p = c.refused_text.ensures in
    let e = sym (swept_refused c.args.bump (input (goal.at.returns-in-Err c).After-sweep-r) _ (lent (goal.at.returns-in-Err c).After-sweep-r) c.sweep-r.result c.sweep-r.ensures.answer _ c.in-Err.is) in
    record {
      value = (p.value.0 ∙ ap length e, omega (arith, p.value.1));
      out_after = p.out_after ∙ ap (sets c.args.out.now 0) e;
    }

pub returns-in-Ok : goal.returns-in-Ok
returns-in-Ok c =
    let p = c.listed.ensures in
    let e = sym (swept_text_lem c.args.bump (input (goal.at.returns-in-Ok c).After-sweep-r) _ _ _ (swept_at (goal.at.returns-in-Ok c).After-sweep-r _ c.in-Ok.is)) in
    record {
      value = (p.value.0 ∙ ap length e, p.value.1);
      out_after = p.out_after ∙ ap (sets c.args.out.now 0) e;
    }
