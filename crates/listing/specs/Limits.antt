-- The W test of 19, as the code has it. Assumes nothing.
use Rattle.std.specs.Prelude.{ℕ, ◌<◌, List, ◌≡◌, refl, false, ◌≢◌, ltb}
use Rattle.std.proofs.Common.{arith, sym, ◌∙◌, eq-eqb, ne_eqb}
use Rattle.std.proofs.Math.Path.{ap}
use Rattle.rules.specs.declared.Settings.{Settings}
use Rattle.rules.specs.Lists.{below}
use Rattle.rules.specs.Geometry.{work_words}
use Rattle.rules.specs.Numbers.{first_of, lines_to7, largest_of, largest}
use Rattle.checks.specs.Largest.{Largest}
use Rattle.rules.specs.Order.{Input}
use Rattle.rules.specs.Answers.{work_needed}
use Rattle.listing.specs.Listing.{over_work}

-- settings that are refused skip the test
pub work_skipped : (i : Input) (n : ℕ) → n ≡ first_of (lines_to7 i.settings) → n ≢ 0 → false ≡ over_work i
unfolding over_work
work_skipped i n e h = rw (ne_eqb (first_of (lines_to7 i.settings)) 0 (λ (z : first_of (lines_to7 i.settings) ≡ 0). h (e ∙ z))) refl

pub work_tested : (i : Input) (n w : ℕ) → n ≡ first_of (lines_to7 i.settings) → n ≡ 0 → w ≡ work_needed i → ltb 8192 w ≡ over_work i
unfolding over_work
work_tested i n w e z f = rw (eq-eqb (first_of (lines_to7 i.settings)) 0 (sym e ∙ z), f) refl

-- over 4,096 keys in a bucket take more than that
pub work_many : (i : Input) → 4096 < largest i → 8192 < work_needed i
unfolding work_needed work_words
work_many i h = omega arith

-- an input with these settings and begins
module _ (i : Input) (s : Settings) (begins : List ℕ) (same : i.settings ≡ s) (begun : i.begins ≡ begins) where
  pub lines_same : (n : ℕ) → n ≡ first_of (lines_to7 s) → n ≡ first_of (lines_to7 i.settings)
  lines_same n e = e ∙ ap (λ (t : Settings). first_of (lines_to7 t)) (sym same)

  pub largest_same : (z : ℕ) → Largest begins s.buckets z → z ≡ largest i
  unfolding largest
  largest_same z l = l.same i begun ∙ ap (λ (t : Settings). largest_of i (below t.buckets)) (sym same)

  pub work_same : (z r : ℕ) (t : Settings) → Largest begins s.buckets z → t ≡ s → r ≡ work_words t z → r ≡ work_needed i
  unfolding work_needed
  work_same z r t l e f =
      f
      ∙ ap (λ (t : Settings). work_words t z) e
      ∙ ap (λ (t : Settings). work_words t z) (sym same)
      ∙ ap (work_words i.settings) (largest_same z l)
