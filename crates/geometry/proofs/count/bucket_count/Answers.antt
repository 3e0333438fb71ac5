use Rattle.geometry.proofs.Sizing.{Sizes, sizes, quotient_is, quotient_small}
use Rattle.geometry.specs.Small.{Small}
use Rattle.rules.specs.Answers.{Answer, said_count, unless, count_answer}
use Rattle.rules.specs.Numbers.{first_of, count_lines, line3}
use Rattle.rules.specs.BucketCount.{quotient_float, half_up, odd_up, buckets_for}
use lib.Ieee.{binary64, div, of_int}
use Rattle.std.proofs.Common.{◌≡◌, ℕ, max, ◌∷◌, [], pos, sym, ap, ◌∙◌, subst, arith}
use Rattle.std.proofs.lemmas.Grind.{common_steps}
use Rattle.geometry.proofs.count.bucket_count.Goals as goal
use Rattle.geometry.proofs.count.bucket_count.Goals.{Else-k-gt67108864}

pub returns-then-log2_slice_len-lt3 : goal.returns-then-log2_slice_len-lt3
unfolding said_count count_answer unless first_of count_lines line3
returns-then-log2_slice_len-lt3 c = grind (arith, common_steps)

pub returns-then-not-size_fits : goal.returns-then-not-size_fits
unfolding said_count count_answer unless first_of count_lines line3
returns-then-not-size_fits c = grind (arith, common_steps)

pub returns-then-k-gt67108864 : goal.returns-then-k-gt67108864
unfolding said_count count_answer unless first_of count_lines line3
returns-then-k-gt67108864 c = grind (arith, common_steps)

size_is : (c : goal.Else-k-gt67108864) → Sizes c.size_cap.result c.args.size
size_is c = sizes c.size_cap.result c.args.size (sym c.size_fits.ensures ∙ c.if-not-size_fits.false)

quotient : (c : goal.Else-k-gt67108864) → div binary64 (of_int binary64 (pos c.args.k)) c.args.size ≡ quotient_float c.args.k c.args.size
quotient c = quotient_is c.args.k c.args.size c.if-k-gt67108864.false (size_is c).above

pub rounded-requires : goal.rounded-requires
rounded-requires c =
    let at = (goal.at.rounded-requires c).Else-k-gt67108864 in
    subst Small (sym (quotient at)) (quotient_small c.args.k c.size_cap.result c.args.size c.if-k-gt67108864.false c.size_cap.ensures.1 (size_is at))

-- past the three tests
fine : (c : goal.Else-k-gt67108864) → count_answer c.args.log2_slice_len c.args.k c.args.size ≡ Answer (buckets_for c.args.k c.args.size ∷ [])
unfolding count_answer unless first_of count_lines line3
fine c = grind (arith, common_steps)

pub returns : goal.returns
unfolding said_count buckets_for
returns c =
    let at = (goal.at.returns c).Else-k-gt67108864 in
    ap (λ (n : ℕ). Answer (n ∷ [])) (c.odd_up.ensures ∙ ap (λ (n : ℕ). odd_up (max 1 n)) (c.rounded.ensures.0 ∙ ap half_up (quotient at))) ∙ sym (fine at)
