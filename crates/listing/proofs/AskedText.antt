-- What the numbers ask for, part by part as the code takes them, and the text that follows. Assumes nothing.
use Prim.Native.Nat.{ℕ, ◌+◌, ◌≤◌, ◌<◌}
use native.Mathlib.Omega.{arith}
use mathlib.Core.Path.{◌≡◌, refl, sym, ap, ◌∙◌, subst}
use mathlib.Core.Bool.{Bool, true, false}
use mathlib.Core.List.{List, []}
use lib.IntN.{ℤ}
use lib.ListN.{length, get_or}
use Rattle.rules.specs.declared.Settings.{Settings}
use Rattle.rules.specs.Order.{input_of}
use Rattle.rules.specs.Numbers.{rising}
use Rattle.rules.proofs.InputLaws.{steps_rising}
use Rattle.rules.proofs.Tests.{is_true}
use Rattle.groups.specs.Groups.{Grouped}
use Rattle.log_table.specs.House.{house_table}
use Rattle.list_input.specs.Form.{well_formed}
use Rattle.list_input.specs.Asked.{settings_of, bump_of, weights_of, hashes_of, begins_of, asked_input, over_size}
use Rattle.list_input.specs.AskedLaws.{m_most, buckets_most, begins_count_is}
use Rattle.list_input.specs.BeginsLaws.{begins_placed, begins_rise}
use Rattle.list_output.specs.Text.{refused_text}
use Rattle.listing.specs.Listing.{over_work, swept_text, asked_text}
use Rattle.listing.specs.Work.{WorkTest}

module _ (ns : List ℕ) (well : well_formed ns ≡ true) (small : over_size ns ≡ false) (s : Settings) (same : s ≡ settings_of ns) where
  buckets_are : s.buckets ≡ get_or ns 12 0
  unfolding settings_of
  buckets_are = ap (λ (t : Settings). t.buckets) same

  pub few_buckets : s.buckets ≤ 64
  few_buckets = omega (arith, buckets_are, buckets_most ns well small)

  pub few_slots : s.m ≤ 1024
  unfolding settings_of
  few_slots = omega (arith, ap (λ (t : Settings). t.m) same, m_most ns well small)

  pub ends_are : s.buckets + 1 ≡ length (begins_of ns)
  ends_are = omega (arith, buckets_are, begins_count_is ns well)

  module _ (begins : List ℕ) (begun : begins ≡ begins_of ns) where
    pub long_begins : s.buckets + 1 ≤ length begins
    long_begins = omega (arith, ends_are, ap length begun)

    pub groups_are : (b : ℕ) → b < s.buckets → Grouped begins b
    groups_are b h =
        let t : b < get_or ns 12 0 = omega (arith, buckets_are) in
        subst (λ (l : List ℕ). Grouped l b) (sym begun) (record { placed = begins_placed ns well b t; rises = begins_rise ns well b t })

    pub begins_climb : rising begins s.buckets ≡ true
    begins_climb = is_true (rising begins s.buckets) (steps_rising begins s.buckets (λ b h. (groups_are b h).rises))

    module _ (r : Bool) (test : WorkTest s begins r) where
      work_is : r ≡ over_work (asked_input ns house_table)
      unfolding asked_input
      work_is = test.is (asked_input ns house_table) (sym same) (sym begun)

      pub text_over : r ≡ true → asked_text ns ≡ refused_text 19 []
      unfolding asked_text
      text_over e = rw (small, sym work_is ∙ e) refl

      pub text_swept : r ≡ false → (weights : List ℤ) (bump : Bool) (hashes : List ℕ) → weights ≡ weights_of ns → bump ≡ bump_of ns → hashes ≡ hashes_of ns
          → asked_text ns ≡ swept_text bump (input_of s weights hashes begins house_table)
      unfolding asked_text asked_input
      text_swept e weights bump hashes f g h = rw (small, sym work_is ∙ e, same, f, g, h, begun) refl
