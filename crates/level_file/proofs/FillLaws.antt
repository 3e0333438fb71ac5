-- A list that is read into a buffer, value by value: what the whole gives, the values so far and what is left to read. Assumes nothing.
use Rattle.std.specs.Prelude.{Ok, Err}
use Prim.Native.Nat.{ℕ, suc, ◌+◌, ◌-◌, ◌≤◌, ◌<◌}
use native.Mathlib.Omega.{arith}
use native.Mathlib.Numerals.{add-one}
use mathlib.Core.Path.{◌≡◌, refl, sym, ap, subst, ◌∙◌}
use mathlib.Core.List.{List, [], ◌∷◌, ◌++◌, append_assoc, append-nil}
use lib.ListN.{length, take, set}
use lib.Seq.{take-suc-set, take_all}
use borrow.Author.Tests.{lt-ltb, le-ltb, le-leb, lt-leb}
use Rattle.rules.specs.declared.Refusal.{Refusal}
use Rattle.rules.specs.Answers.{number_of}
use Rattle.level_file.specs.Taking.{taken_as, taken_at}
use Rattle.level_file.specs.Format.{not_below}
use Rattle.level_file.specs.Reading.{gap_bad, Read, then, refused_if, read_of, number_at, numbers_at, holes_at}
use Rattle.level_file.specs.Reading.Read.{Got, No}

-- ---- one number, of a reader whose bytes are those of the file

module _ (bytes here : List ℕ) (at next : ℕ) (same : here ≡ bytes) where
  pub number_got : (v : ℕ) → taken_as (Ok v) next ≡ taken_at here at → number_at bytes at ≡ Got v next
  unfolding number_at read_of taken_as
  number_got v e = subst (λ (b : List ℕ). number_at b at ≡ Got v next) same (sym (ap read_of e))

  pub number_no : (why : Refusal) → taken_as (Err why) next ≡ taken_at here at → number_at bytes at ≡ No (number_of why)
  unfolding number_at read_of taken_as
  number_no why e = subst (λ (b : List ℕ). number_at b at ≡ No (number_of why)) same (sym (ap read_of e))

-- ---- the values so far

-- values in front of what is read
unfoldable pub prefixed : List ℕ → Read (List ℕ) → Read (List ℕ)
prefixed xs r = then r (λ vs end. Got (xs ++ vs) end)

prefixed_none : (r : Read (List ℕ)) → prefixed [] r ≡ r
unfolding prefixed then
prefixed_none (Got vs end) = refl
prefixed_none (No n) = refl

prefixed_twice : (xs ys : List ℕ) (r : Read (List ℕ)) → prefixed xs (prefixed ys r) ≡ prefixed (xs ++ ys) r
unfolding prefixed then
prefixed_twice xs ys (Got vs end) = ap (λ (zs : List ℕ). Got zs end) (sym (append_assoc xs ys vs))
prefixed_twice xs ys (No n) = refl

-- i values are read: the whole gives what they and the rest give
pub record Filling (whole left : Read (List ℕ)) (buffer : List ℕ) (i : ℕ) : Type 0 where
  pub so_far : whole ≡ prefixed (take i buffer) left

pub filling_start : (whole left : Read (List ℕ)) (buffer : List ℕ) → whole ≡ left → Filling whole left buffer 0
filling_start whole left buffer e = record { so_far = e ∙ sym (prefixed_none left) }

module _ (whole left : Read (List ℕ)) (buffer : List ℕ) (i : ℕ) (f : Filling whole left buffer i) where
  pub filling_step : (v : ℕ) (more : Read (List ℕ)) → i < length buffer → left ≡ prefixed (v ∷ []) more → Filling whole more (set buffer i v) (i + 1)
  filling_step v more inside e =
      record {
        so_far =
            f.so_far
            ∙ ap (prefixed (take i buffer)) e
            ∙ prefixed_twice (take i buffer) (v ∷ []) more
            ∙ ap (λ (xs : List ℕ). prefixed xs more) (sym (take-suc-set buffer i v inside))
            ∙ ap (λ (k : ℕ). prefixed (take k (set buffer i v)) more) (sym (add-one i));
      }

  pub filling_refused : (n : ℕ) → left ≡ No n → No n ≡ whole
  unfolding prefixed then
  filling_refused n e = sym (rw e at f.so_far)

  pub filling_done : (place : ℕ) → length buffer ≤ i → left ≡ Got [] place → Got buffer place ≡ whole
  unfolding prefixed then
  filling_done place past e =
      sym ((rw e at f.so_far) ∙ ap (λ (xs : List ℕ). Got xs place) (append-nil (take i buffer) ∙ take_all i buffer past))

-- ---- numbers below a limit

module _ (bytes : List ℕ) (limit count i at : ℕ) (inside : i < count) where
  more_left : count - i ≡ suc (count - (i + 1))
  more_left = omega arith

  pub numbers_next : (v next : ℕ) → number_at bytes at ≡ Got v next → v < limit
      → numbers_at bytes (not_below limit) (count - i) at ≡ prefixed (v ∷ []) (numbers_at bytes (not_below limit) (count - (i + 1)) next)
  unfolding numbers_at prefixed then refused_if not_below
  numbers_next v next e l = rw (more_left, e, lt-leb limit v l) refl

  pub numbers_bad : (v next : ℕ) → number_at bytes at ≡ Got v next → limit ≤ v → numbers_at bytes (not_below limit) (count - i) at ≡ No 24
  unfolding numbers_at then refused_if not_below
  numbers_bad v next e l = rw (more_left, e, le-leb limit v l) refl

  pub numbers_no : (n : ℕ) → number_at bytes at ≡ No n → numbers_at bytes (not_below limit) (count - i) at ≡ No n
  unfolding numbers_at then
  numbers_no n e = rw (more_left, e) refl

pub numbers_start : (bytes : List ℕ) (limit count at : ℕ) → numbers_at bytes (not_below limit) count at ≡ numbers_at bytes (not_below limit) (count - 0) at
numbers_start bytes limit count at = let e : count ≡ count - 0 = omega arith in ap (λ (k : ℕ). numbers_at bytes (not_below limit) k at) e

pub numbers_none : (bytes : List ℕ) (limit count i at : ℕ) → count ≤ i → numbers_at bytes (not_below limit) (count - i) at ≡ Got [] at
unfolding numbers_at
numbers_none bytes limit count i at h = let e : count - i ≡ 0 = omega arith in rw e refl

-- ---- holes by their differences

module _ (bytes : List ℕ) (m count i before least at : ℕ) (inside : i < count) where
  hole_left : count - i ≡ suc (count - (i + 1))
  hole_left = omega arith

  pub holes_next : (gap next : ℕ) → number_at bytes at ≡ Got gap next → least ≤ gap → gap < m - before
      → holes_at bytes m (count - i) before least at ≡ prefixed ((before + gap) ∷ []) (holes_at bytes m (count - (i + 1)) (before + gap) 1 next)
  unfolding holes_at prefixed then refused_if gap_bad
  holes_next gap next e l h = let b : before + gap < m = omega arith in rw (hole_left, e, le-ltb gap least l, lt-leb m (before + gap) b) refl

  pub holes_low : (gap next : ℕ) → number_at bytes at ≡ Got gap next → gap < least → holes_at bytes m (count - i) before least at ≡ No 24
  unfolding holes_at then refused_if gap_bad
  holes_low gap next e l = rw (hole_left, e, lt-ltb gap least l) refl

  pub holes_high : (gap next : ℕ) → number_at bytes at ≡ Got gap next → least ≤ gap → m - before ≤ gap → holes_at bytes m (count - i) before least at ≡ No 24
  unfolding holes_at then refused_if gap_bad
  holes_high gap next e l h = let b : m ≤ before + gap = omega arith in rw (hole_left, e, le-ltb gap least l, le-leb m (before + gap) b) refl

  pub holes_no : (n : ℕ) → number_at bytes at ≡ No n → holes_at bytes m (count - i) before least at ≡ No n
  unfolding holes_at then
  holes_no n e = rw (hole_left, e) refl

pub holes_start : (bytes : List ℕ) (m count at : ℕ) → holes_at bytes m count 0 0 at ≡ holes_at bytes m (count - 0) 0 0 at
holes_start bytes m count at = let e : count ≡ count - 0 = omega arith in ap (λ (k : ℕ). holes_at bytes m k 0 0 at) e

pub holes_none : (bytes : List ℕ) (m count i before least at : ℕ) → count ≤ i → holes_at bytes m (count - i) before least at ≡ Got [] at
unfolding holes_at
holes_none bytes m count i before least at h = let e : count - i ≡ 0 = omega arith in rw e refl
