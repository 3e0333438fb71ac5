-- Each refusal has a number above 0. So where a part of the lines refuses, the lines that come after change nothing. Assumes nothing.
use mathlib.Core.Path.{◌≡◌, refl, sym, ap, ◌∙◌}
use mathlib.Core.List.{List, [], ◌++◌}
use Prim.Native.Nat.{ℕ, zero, suc, ◌≤◌}
use native.Mathlib.Omega.{arith}
use Rattle.std.specs.Prelude.{Result, Ok, Err, ⊤}
use Rattle.rules.specs.declared.Refusal as R
use Rattle.rules.specs.declared.Refusal.TheVariants as Why
use Rattle.rules.specs.Answers.{Said, Answer, Refusal, number_of, refused_by, said_checked, unless}
use Rattle.rules.specs.Numbers.{Line, first_of}
use Rattle.rules.proofs.Lines.{first_append_some}

pub number_positive : (why : R.Refusal) → 1 ≤ number_of why
number_positive Why.SeedBits = omega arith
number_positive Why.Layouts = omega arith
number_positive Why.SliceLen = omega arith
number_positive Why.LayoutBits = omega arith
number_positive Why.Slots = omega arith
number_positive Why.Buckets = omega arith
number_positive Why.SlicesPerBucket = omega arith
number_positive Why.Weights = omega arith
number_positive Why.Begins = omega arith
number_positive Why.LargeBucket = omega arith
number_positive Why.StrayHash = omega arith
number_positive Why.Table = omega arith
number_positive Why.Lengths = omega arith
number_positive Why.NoSeed = omega arith
number_positive Why.HoleBuffer = omega arith
number_positive Why.BucketSize = omega arith
number_positive Why.Keys = omega arith
number_positive Why.Form = omega arith
number_positive Why.TooLarge = omega arith
number_positive Why.Chunks = omega arith
number_positive Why.TableLength = omega arith
number_positive Why.FileShort = omega arith
number_positive Why.FileVersion = omega arith
number_positive Why.FileValue = omega arith
number_positive Why.FileLeftOver = omega arith
number_positive Why.FileRoom = omega arith
number_positive Why.BadSeed = omega arith
number_positive Why.SlotTwice = omega arith
number_positive Why.Bitmap = omega arith

-- what refuses among the first lines refuses among all
pub refused_first : (xs ys : List Line) (why : R.Refusal) → number_of why ≡ first_of xs → number_of why ≡ first_of (xs ++ ys)
refused_first xs ys why e = e ∙ sym (first_append_some xs ys (λ z. let p = number_positive why in omega (arith, e, z)))

-- a number that applies is what a call says
pub refused_says : (why : R.Refusal) (n : ℕ) (answer : Said) → number_of why ≡ n → Refusal (number_of why) [] ≡ unless n answer
unfolding unless
refused_says why zero answer e = absurd (let p = number_positive why in omega (arith, e))
refused_says why (suc n) answer e = ap (λ (k : ℕ). Refusal k []) e

-- a check that refuses by a number says it
pub checked_says : (r : Result ⊤ R.Refusal) (n : ℕ) → refused_by r ≡ n → said_checked r ≡ unless n (Answer [])
unfolding said_checked unless
checked_says (Ok done) n e = rw (sym e) refl
checked_says (Err why) n e = refused_says why n (Answer []) e
