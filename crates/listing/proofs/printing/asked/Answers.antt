-- `asked` prints `asked_text`: 19 by size, 19 by work, else the sweep of the hashes and begins at the front of its buffers.
-- Assumes nothing.
use lib.Seq.{sets, length-take-le}
use Rattle.rules.specs.Answers.{named_by}
use lib.ListN.{length, take, replicate}
use Prim.Native.Nat.{◌+◌, ◌≤◌}
use native.Mathlib.Omega.{arith}
use mathlib.Core.Bool.{false}
use mathlib.Core.Path.{◌≡◌, refl, sym, ap, ◌∙◌}
use Rattle.list_input.specs.Asked.{over_size, hashes_of, begins_of}
use Rattle.list_input.specs.AskedLaws.{long_enough, keys_most, begins_most}
use Rattle.listing.specs.Ends.{asked_over}
use Rattle.listing.proofs.AskedText.{few_buckets, few_slots, ends_are, long_begins, groups_are, begins_climb, text_over, text_swept}
use Rattle.listing.proofs.PrintLaws.{front_is, sets_long}
use Rattle.listing.proofs.printing.asked.Goals as goal
use Rattle.listing.proofs.printing.asked.Goals.{After-settings_of-settings}

-- past the test of size, the settings taken
module _ (d : goal.After-settings_of-settings) where
  small : over_size d.args.ns.now ≡ false
  small = sym d.over_size.ensures ∙ d.if-over_size.false

  few : d.settings_of-settings.result.buckets ≤ 64
  few = few_buckets _ d.requires.ns_value small _ d.settings_of-settings.ensures

  room : length d.split-keys.new.begins ≡ 65
  room = sets_long _ (replicate 65 0) (begins_of d.args.ns.now) 65 d.split-keys.ensures.begins_after refl

  hash_room : length d.split-keys.new.hashes ≡ 128
  hash_room = sets_long _ (replicate 128 0) (hashes_of d.args.ns.now) 128 d.split-keys.ensures.hashes_after refl

  begun : take (d.settings_of-settings.result.buckets + 1) d.split-keys.new.begins ≡ begins_of d.args.ns.now
  begun =
      let ns = d.args.ns.now in
      let well = d.requires.ns_value in
      front_is (begins_of ns) _ _ _ d.split-keys.ensures.begins_after (begins_most ns well small) (ends_are ns well small _ d.settings_of-settings.ensures)

  hashed : take d.split-keys.result d.split-keys.new.hashes ≡ hashes_of d.args.ns.now
  hashed =
      let ns = d.args.ns.now in
      let well = d.requires.ns_value in
      front_is (hashes_of ns) _ _ _ d.split-keys.ensures.hashes_after (keys_most ns well small) d.split-keys.ensures.value.0

pub returns-then-over_size : goal.returns-then-over_size
unfolding named_by
returns-then-over_size c =
    let p = c.refused_text.ensures in
    let value = rw c.into.ensures at p.value.0 in
    let after = rw c.into.ensures at p.out_after in
    let e = sym (asked_over c.args.ns.now (sym c.over_size.ensures ∙ c.if-over_size.true)) in
    record {
      value = (value ∙ ap length e, omega (arith, p.value.1));
      out_after = after ∙ ap (sets c.args.out.now 0) e;
    }

pub split-keys-requires : goal.split-keys-requires
split-keys-requires c =
    record {
      ns_value = c.requires.ns_value;
      ns_value_2 = sym c.over_size.ensures ∙ c.if-over_size.false;
    }

pub settings_of-settings-requires : goal.settings_of-settings-requires
settings_of-settings-requires c = long_enough _ c.requires.ns_value

pub overflow_add-ends : goal.overflow_add-ends
overflow_add-ends c = omega (arith, few (goal.at.overflow_add-ends c).After-settings_of-settings)

pub slice_bounds-begins-end : goal.slice_bounds-begins-end
slice_bounds-begins-end c = omega (arith, few (goal.at.slice_bounds-begins-end c).After-settings_of-settings, room (goal.at.slice_bounds-begins-end c).After-settings_of-settings)

pub slice_bounds-over_work-end : goal.slice_bounds-over_work-end
slice_bounds-over_work-end c = sym (length-take-le _ _ (omega (arith, few (goal.at.slice_bounds-over_work-end c).After-settings_of-settings, room (goal.at.slice_bounds-over_work-end c).After-settings_of-settings)))

pub over_work-requires : goal.over_work-requires
over_work-requires c =
    let ns = c.args.ns.now in
    record {
      buckets_in_bounds = long_begins ns c.requires.ns_value (small (goal.at.over_work-requires c).After-settings_of-settings) _ c.settings_of-settings.ensures _ (begun (goal.at.over_work-requires c).After-settings_of-settings);
      buckets_value = begins_climb ns c.requires.ns_value (small (goal.at.over_work-requires c).After-settings_of-settings) _ c.settings_of-settings.ensures _ (begun (goal.at.over_work-requires c).After-settings_of-settings);
    }

pub returns-then-over_work : goal.returns-then-over_work
unfolding named_by
returns-then-over_work c =
    let p = c.refused_text-then-over_work.ensures in
    let value = rw c.into-then-over_work.ensures at p.value.0 in
    let after = rw c.into-then-over_work.ensures at p.out_after in
    let e = sym (text_over c.args.ns.now c.requires.ns_value (small (goal.at.returns-then-over_work c).After-settings_of-settings) _ c.settings_of-settings.ensures _ (begun (goal.at.returns-then-over_work c).After-settings_of-settings) _ c.over_work.ensures c.if-over_work.true) in
    record {
      value = (value ∙ ap length e, omega (arith, p.value.1));
      out_after = after ∙ ap (sets c.args.out.now 0) e;
    }

pub weights_of-requires : goal.weights_of-requires
weights_of-requires c = long_enough _ c.requires.ns_value

pub bump_of-requires : goal.bump_of-requires
bump_of-requires c = long_enough _ c.requires.ns_value

pub slice_bounds-hashes-end : goal.slice_bounds-hashes-end
slice_bounds-hashes-end c = omega (arith, hash_room (goal.at.slice_bounds-hashes-end c).After-settings_of-settings, c.split-keys.ensures.value)

pub slice_bounds-swept_alone-end : goal.slice_bounds-swept_alone-end
slice_bounds-swept_alone-end c = sym (length-take-le _ _ (omega (arith, hash_room (goal.at.slice_bounds-swept_alone-end c).After-settings_of-settings, c.split-keys.ensures.value)))

pub slice_bounds-begins-end-2 : goal.slice_bounds-begins-end-2
slice_bounds-begins-end-2 c = omega (arith, few (goal.at.slice_bounds-begins-end-2 c).After-settings_of-settings, room (goal.at.slice_bounds-begins-end-2 c).After-settings_of-settings)

pub slice_bounds-swept_alone-end-2 : goal.slice_bounds-swept_alone-end-2
slice_bounds-swept_alone-end-2 c = sym (length-take-le _ _ (omega (arith, few (goal.at.slice_bounds-swept_alone-end-2 c).After-settings_of-settings, room (goal.at.slice_bounds-swept_alone-end-2 c).After-settings_of-settings)))

pub swept_alone-requires : goal.swept_alone-requires
swept_alone-requires c =
    let ns = c.args.ns.now in
    let well = c.requires.ns_value in
    let s = c.settings_of-settings.ensures in
    record {
      m_bound = (few_slots ns well (small (goal.at.swept_alone-requires c).After-settings_of-settings) _ s, few (goal.at.swept_alone-requires c).After-settings_of-settings, c.requires.in_bounds);
      by_index = groups_are ns well (small (goal.at.swept_alone-requires c).After-settings_of-settings) _ s _ (begun (goal.at.swept_alone-requires c).After-settings_of-settings);
    }

pub returns : goal.returns
returns c =
    let p = c.swept_alone.ensures in
    let e = sym (text_swept c.args.ns.now c.requires.ns_value (small (goal.at.returns c).After-settings_of-settings) _ c.settings_of-settings.ensures _ (begun (goal.at.returns c).After-settings_of-settings) _ c.over_work.ensures c.if-over_work.false _ _ _ c.weights_of.ensures c.bump_of.ensures (hashed (goal.at.returns c).After-settings_of-settings)) in
    record {
      value = (p.value.0 ∙ ap length e, p.value.1);
      out_after = p.out_after ∙ ap (sets c.args.out.now 0) e;
    }
