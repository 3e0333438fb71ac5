-- What a call says fixes its answer: each `said..` can be undone, so two answers that say the same are the same. Assumes nothing.
use mathlib.Core.Path.{◌≡◌, refl, sym, ap, ◌∙◌}
use mathlib.Core.List.{List, [], ◌∷◌}
use Prim.Native.Nat.{ℕ}
use lib.ListN.{get_or}
use Rattle.std.specs.Prelude.{Option, Some, None, Result, Ok, Err, ⊤}
use Rattle.rules.specs.declared.Counts.{Counts}
use Rattle.rules.specs.declared.SweepRecord.{SweepRecord}
use Rattle.rules.specs.declared.Refusal as R
use Rattle.rules.specs.declared.Refusal.TheVariants as Why
use Rattle.rules.specs.declared.Stop.{Stop}
use Rattle.rules.specs.Answers.{Said, Answer, Refusal, number_of, named_by, count_values, said_stop, said_outcome, said_sweep, said_looked, said_count, said_checked}

-- an answer that can be got back from what it says
undone : {A : Type 0} (said : A → Said) (back : Said → A) → ((x : A) → back (said x) ≡ x) → (x y : A) → said x ≡ said y → x ≡ y
undone said back h x y e = sym (h x) ∙ ap back e ∙ h y

-- ---- the refusals

-- each at its number; no refusal has 0 or 27
reasons : List R.Refusal
reasons =
    Why.SeedBits
    ∷ Why.SeedBits
    ∷ Why.Layouts
    ∷ Why.SliceLen
    ∷ Why.LayoutBits
    ∷ Why.Slots
    ∷ Why.Buckets
    ∷ Why.SlicesPerBucket
    ∷ Why.Weights
    ∷ Why.Begins
    ∷ Why.LargeBucket
    ∷ Why.StrayHash
    ∷ Why.Table
    ∷ Why.Lengths
    ∷ Why.NoSeed
    ∷ Why.HoleBuffer
    ∷ Why.BucketSize
    ∷ Why.Keys
    ∷ Why.Form
    ∷ Why.TooLarge
    ∷ Why.Chunks
    ∷ Why.TableLength
    ∷ Why.FileShort
    ∷ Why.FileVersion
    ∷ Why.FileValue
    ∷ Why.FileLeftOver
    ∷ Why.FileRoom
    ∷ Why.SeedBits
    ∷ Why.BadSeed
    ∷ Why.SlotTwice
    ∷ Why.Bitmap
    ∷ []

why_back : ℕ → R.Refusal
why_back n = get_or reasons n Why.SeedBits

why_back_lem : (why : R.Refusal) → why_back (number_of why) ≡ why
unfolding why_back reasons
why_back_lem Why.SeedBits = refl
why_back_lem Why.Layouts = refl
why_back_lem Why.SliceLen = refl
why_back_lem Why.LayoutBits = refl
why_back_lem Why.Slots = refl
why_back_lem Why.Buckets = refl
why_back_lem Why.SlicesPerBucket = refl
why_back_lem Why.Weights = refl
why_back_lem Why.Begins = refl
why_back_lem Why.LargeBucket = refl
why_back_lem Why.StrayHash = refl
why_back_lem Why.Table = refl
why_back_lem Why.Lengths = refl
why_back_lem Why.NoSeed = refl
why_back_lem Why.HoleBuffer = refl
why_back_lem Why.BucketSize = refl
why_back_lem Why.Keys = refl
why_back_lem Why.Form = refl
why_back_lem Why.TooLarge = refl
why_back_lem Why.Chunks = refl
why_back_lem Why.TableLength = refl
why_back_lem Why.FileShort = refl
why_back_lem Why.FileVersion = refl
why_back_lem Why.FileValue = refl
why_back_lem Why.FileLeftOver = refl
why_back_lem Why.FileRoom = refl
why_back_lem Why.BadSeed = refl
why_back_lem Why.SlotTwice = refl
why_back_lem Why.Bitmap = refl

-- a number fixes its refusal
pub number_of_lem : (x y : R.Refusal) → number_of x ≡ number_of y → x ≡ y
number_of_lem x y e = sym (why_back_lem x) ∙ ap why_back e ∙ why_back_lem y

-- ---- lookup, counts, checks

looked_back : Said → Result (Option ℕ) R.Refusal
looked_back (Answer []) = Ok None
looked_back (Answer (x ∷ xs)) = Ok (Some x)
looked_back (Refusal n xs) = Err (why_back n)

looked_back_lem : (x : Result (Option ℕ) R.Refusal) → looked_back (said_looked x) ≡ x
unfolding said_looked looked_back
looked_back_lem (Ok None) = refl
looked_back_lem (Ok (Some x)) = refl
looked_back_lem (Err why) = ap (λ (w : R.Refusal). Err w) (why_back_lem why)

pub said_looked_lem : (x y : Result (Option ℕ) R.Refusal) → said_looked x ≡ said_looked y → x ≡ y
said_looked_lem = undone said_looked looked_back looked_back_lem

count_back : Said → Result ℕ R.Refusal
count_back (Answer []) = Ok 0
count_back (Answer (x ∷ xs)) = Ok x
count_back (Refusal n xs) = Err (why_back n)

count_back_lem : (x : Result ℕ R.Refusal) → count_back (said_count x) ≡ x
unfolding said_count count_back
count_back_lem (Ok n) = refl
count_back_lem (Err why) = ap (λ (w : R.Refusal). Err w) (why_back_lem why)

pub said_count_lem : (x y : Result ℕ R.Refusal) → said_count x ≡ said_count y → x ≡ y
said_count_lem = undone said_count count_back count_back_lem

checked_back : Said → Result ⊤ R.Refusal
checked_back (Answer xs) = Ok tt
checked_back (Refusal n xs) = Err (why_back n)

checked_back_lem : (x : Result ⊤ R.Refusal) → checked_back (said_checked x) ≡ x
unfolding said_checked checked_back
checked_back_lem (Ok done) = refl
checked_back_lem (Err why) = ap (λ (w : R.Refusal). Err w) (why_back_lem why)

pub said_checked_lem : (x y : Result ⊤ R.Refusal) → said_checked x ≡ said_checked y → x ≡ y
said_checked_lem = undone said_checked checked_back checked_back_lem

-- ---- the record of a sweep

named_back : List ℕ → Option ℕ
named_back [] = None
named_back (b ∷ bs) = Some b

named_back_lem : (x : Option ℕ) → named_back (named_by x) ≡ x
unfolding named_back named_by
named_back_lem None = refl
named_back_lem (Some b) = refl

stop_back : Said → Stop
stop_back (Answer xs) = record { why = Why.SeedBits; bucket = None }
stop_back (Refusal n xs) = record { why = why_back n; bucket = named_back xs }

stop_back_lem : (x : Stop) → stop_back (said_stop x) ≡ x
unfolding said_stop stop_back
stop_back_lem x = rw (why_back_lem x.why, named_back_lem x.bucket) refl

pub said_stop_lem : (x y : Stop) → said_stop x ≡ said_stop y → x ≡ y
said_stop_lem = undone said_stop stop_back stop_back_lem

outcome_back : Said → Result Counts Stop
outcome_back (Answer xs) = Ok (record { placed = get_or xs 0 0; bumped = get_or xs 1 0; zero = get_or xs 2 0 })
outcome_back (Refusal n xs) = Err (stop_back (Refusal n xs))

outcome_back_lem : (x : Result Counts Stop) → outcome_back (said_outcome x) ≡ x
unfolding said_outcome outcome_back count_values
outcome_back_lem (Ok c) = refl
outcome_back_lem (Err s) = unfold said_stop in ap (λ (t : Stop). Err t) (stop_back_lem s)

pub said_outcome_lem : (x y : Result Counts Stop) → said_outcome x ≡ said_outcome y → x ≡ y
said_outcome_lem = undone said_outcome outcome_back outcome_back_lem

record_back : Said → SweepRecord
record_back s = record { outcome = outcome_back s }

record_back_lem : (x : SweepRecord) → record_back (said_sweep x) ≡ x
unfolding said_sweep record_back
record_back_lem x = ap (λ (o : Result Counts Stop). record { outcome = o }) (outcome_back_lem x.outcome)

pub said_sweep_lem : (x y : SweepRecord) → said_sweep x ≡ said_sweep y → x ≡ y
said_sweep_lem = undone said_sweep record_back record_back_lem
