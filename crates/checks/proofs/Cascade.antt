-- The first number that applies, test after test; and what the tests that came before leave for the later ones. Assumes nothing.
use mathlib.Core.Path.{◌≡◌, refl, sym, ap, ◌∙◌}
use mathlib.Core.Bool.{Bool, true, false, not, cond}
use mathlib.Core.List.{List, [], ◌∷◌, ◌++◌}
use lib.IntN.{ℤ}
use Prim.Native.Nat.{ℕ, zero, suc, ◌+◌, ◌-◌, ◌<◌, ◌≤◌}
use native.Mathlib.Omega.{arith}
use native.Mathlib.Nat.{le_refl, le_trans}
use lib.Dec.{T, leb, eqb, eqb→eq}
use lib.ListN.{length, get_or}
use borrow.Author.Tests.{le-leb, lt-leb, ne_eqb}
use Rattle.words.specs.Cases.{lt_or_ge}
use mathlib.Core.Logic.{⊎_elim, ◌≢◌}
use Rattle.rules.specs.declared.Refusal as R
use Rattle.rules.specs.declared.Settings.{Settings}
use Rattle.rules.specs.declared.How.{How}
use Rattle.rules.specs.Lists.{every, below}
use Rattle.rules.specs.Geometry.{entries}
use Rattle.rules.specs.Order.{Input, input_of, size_of, keys_of}
use Rattle.rules.specs.Numbers.{Lent, first_of, moderate, rising, begins_bad, table_bad, small_bucket, is_home, all_home, largest, largest_of, lines_to7, line8, line9, line10, line11, line12, line13, line20, sweep_lines}
use Rattle.rules.specs.Answers.{number_of, sweep_number, work_needed}
use Rattle.rules.proofs.Tests.{not_or_left, not_or_right, of_not_not}
use Rattle.rules.proofs.InputLaws.{rising_steps}
use Rattle.rules.proofs.Lines.{Numbered, first_append_zero}
use Rattle.rules.proofs.RefusalLaws.{refused_first}
use Rattle.rules.proofs.CheckLaws.{numbered_7}
use Rattle.checks.specs.Homes.{Begun}
use Rattle.checks.specs.declared.Room.{Room}
use Rattle.checks.specs.Verdicts.{RoomFor, group_lines, input_lines, lent_bad}
use Rattle.checks.proofs.Every.{never}

-- ---- the tests of the lines 8 to 12
module _ (i : Input) where
  abbrev pub test8 : Bool
  test8 = not (every moderate i.weights)

  abbrev pub test10 : Bool
  test10 = not (every (small_bucket i) (below i.settings.buckets))

  abbrev pub test11 : Bool
  test11 = not (every (all_home i) (below i.settings.buckets))

  abbrev pub test12 : Bool
  test12 = table_bad i.table (entries i.settings)

  -- ---- the largest bucket tells whether all are small
  small_by : (bs : List ℕ) → largest_of i bs ≤ 4096 → every (small_bucket i) bs ≡ true
  unfolding largest_of small_bucket
  small_by [] h = refl
  small_by (b ∷ bs) h = rw (le-leb (size_of i b) 4096 (omega arith)) (small_by bs (omega arith))

  large_by : (bs : List ℕ) → 4096 < largest_of i bs → every (small_bucket i) bs ≡ false
  unfolding largest_of small_bucket
  large_by [] h = let z : ⊥ = omega arith in absurd z
  large_by (b ∷ bs) h = ⊎_elim
      (λ (l : 4096 < size_of i b). rw (lt-leb (size_of i b) 4096 l) refl)
      (λ (l : size_of i b ≤ 4096). rw (large_by bs (omega arith)) (never (leb (size_of i b) 4096)))
      (lt_or_ge 4096 (size_of i b))

  pub few_keys : largest i ≤ 4096 → test10 ≡ false
  unfolding largest
  few_keys h = ap not (small_by (below i.settings.buckets) h)

  pub many_keys : 4096 < largest i → test10 ≡ true
  unfolding largest
  many_keys h = ap not (large_by (below i.settings.buckets) h)

-- the lines 9 to 11 read neither weights nor table
pub bare : (s : Settings) (weights : List ℤ) (hashes begins table : List ℕ) → first_of (group_lines (input_of s [] hashes begins [])) ≡ first_of (group_lines (input_of s weights hashes begins table))
unfolding line9 line10 line11 small_bucket all_home is_home size_of keys_of
bare s weights hashes begins table = refl

-- ---- the lines after 8 and 20
module _ (how : How) (i : Input) (e8 : false ≡ test8 i) (e20 : how.chunks ≢ 0) where
  late : first_of (input_lines how i) ≡ first_of (group_lines i ++ line12 i ∷ [])
  unfolding first_of line8 line20
  late = rw (sym e8, ne_eqb how.chunks 0 e20) refl

  -- one of 9 to 11 applies
  pub refused_11 : (why : R.Refusal) → number_of why ≡ first_of (group_lines i) → number_of why ≡ first_of (input_lines how i)
  refused_11 why e = refused_first (group_lines i) (line12 i ∷ []) why e ∙ sym late

  numbered_11 : Numbered (group_lines i)
  unfolding line9 line10 line11
  numbered_11 = tt

  -- none of them does, so that 12 decides
  pub twelfth : 0 ≡ first_of (group_lines i) → (t : Bool) → t ≡ test12 i → cond t 12 0 ≡ first_of (input_lines how i)
  unfolding first_of line12
  twelfth e t h = ap (λ (b : Bool). cond b 12 0) h ∙ sym (late ∙ first_append_zero (group_lines i) (line12 i ∷ []) numbered_11 (sym e))

-- ---- the lines after 1 to 7
module _ (how : How) (i : Input) (lent : Lent) (fine : 0 ≡ first_of (lines_to7 i.settings)) where
  early : sweep_number how i lent ≡ first_of (input_lines how i ++ line13 i lent ∷ [])
  unfolding sweep_number sweep_lines
  early = first_append_zero (lines_to7 i.settings) (input_lines how i ++ line13 i lent ∷ []) (numbered_7 i.settings) (sym fine)

  -- one of 8, 20 and 9 to 12 applies
  pub refused_12 : (why : R.Refusal) → number_of why ≡ first_of (input_lines how i) → number_of why ≡ sweep_number how i lent
  refused_12 why e = refused_first (input_lines how i) (line13 i lent ∷ []) why e ∙ sym early

  numbered : Numbered (input_lines how i)
  unfolding line8 line9 line10 line11 line12 line20
  numbered = tt

  -- none of them does, so that 13 decides
  pub thirteenth : {room : Room} → 0 ≡ first_of (input_lines how i) → RoomFor i room → (t : Bool) → t ≡ lent_bad i.settings room.words lent.seeds lent.bitmap lent.work
      → cond t 13 0 ≡ sweep_number how i lent
  unfolding first_of line13 work_needed
  thirteenth e f t h =
      ap (λ (b : Bool). cond b 13 0) (h ∙ ap (λ (w : ℕ). lent_bad i.settings w lent.seeds lent.bitmap lent.work) f.words.0)
      ∙ sym (early ∙ first_append_zero (input_lines how i) (line13 i lent ∷ []) numbered (sym e))

-- ---- what begins that pass leave
module _ (begins : List ℕ) (n keys : ℕ) (pass : T (not (begins_bad begins n keys))) where
  long : length begins ≡ n + 1
  long = eqb→eq (length begins) (n + 1) (of_not_not (eqb (length begins) (n + 1)) (search (not_or_left, not_or_right, pass)))

  rise : T (rising begins n)
  rise = of_not_not (rising begins n) (search (not_or_left, not_or_right, pass))

  ends : get_or begins n 0 ≡ keys
  ends = eqb→eq (get_or begins n 0) keys (of_not_not (eqb (get_or begins n 0) keys) (search (not_or_left, not_or_right, pass)))

  -- from a bucket on, begins does not fall
  on : (d b : ℕ) → b + d ≡ n → get_or begins b 0 ≤ get_or begins n 0
  on zero b h = let o : b ≡ n = omega arith in rw o (le_refl (get_or begins n 0))
  on (suc d) b h = le_trans (rising_steps begins n rise b (omega arith)) (on d (b + 1) (omega arith))

  pub begins_good : Begun begins n keys
  begins_good = record {
    long = omega (arith, long);
    rises = rising_steps begins n rise;
    within = λ b l. omega (arith, on (n - b) b (omega arith), ends);
  }
