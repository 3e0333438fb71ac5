-- What is said of a result tells its number, and its value where it is done. Assumes nothing.
use mathlib.Core.Path.{◌≡◌, refl, sym, ◌∙◌}
use mathlib.Core.List.{List}
use Prim.Native.Nat.{ℕ, ◌-◌, ◌^◌}
use Rattle.std.specs.Prelude.{Option, Some, None, Result, Ok, Err, ⊤, unwrap_or, option_to_list, IfOk}
use Rattle.std.specs.Result.{result_unwrap_or}
use Rattle.rules.specs.declared.Refusal as R
use Rattle.rules.specs.Answers.{kept_unless, refused_by, said_count, said_checked, said_looked}
use Rattle.level_file.specs.Writing.{said_written}
use Rattle.rules.proofs.AnswerLaws.{kept_zero, kept_some}
use Rattle.rules.proofs.RefusalLaws.{number_positive}
use native.Mathlib.Omega.{arith}
use Rattle.exports.specs.Told.{number_told, value_told, slot_told, slot_or}

pub count_number : (r : Result ℕ R.Refusal) → refused_by r ≡ number_told (said_count r)
unfolding said_count number_told
count_number (Ok n) = refl
count_number (Err why) = refl

pub count_value : (r : Result ℕ R.Refusal) (before : ℕ) → result_unwrap_or r before ≡ value_told (said_count r) before
unfolding said_count value_told
count_value (Ok n) before = refl
count_value (Err why) before = refl

pub checked_number : (r : Result ⊤ R.Refusal) → refused_by r ≡ number_told (said_checked r)
unfolding said_checked number_told
checked_number (Ok done) = refl
checked_number (Err why) = refl

pub found_number : (o : Option ℕ) → 0 ≡ number_told (said_looked (Ok o))
unfolding said_looked number_told
found_number None = refl
found_number (Some x) = refl

pub slot_found : (o : Option ℕ) → unwrap_or o (2 ^ 64 - 1) ≡ slot_or (option_to_list o)
unfolding slot_or
slot_found None = refl
slot_found (Some x) = refl

pub found_slot : (o : Option ℕ) (before : ℕ) → unwrap_or o (2 ^ 64 - 1) ≡ slot_told (said_looked (Ok o)) before
unfolding said_looked slot_told slot_or
found_slot None before = refl
found_slot (Some x) before = refl

pub written_number : (r : Result ℕ R.Refusal) → refused_by r ≡ number_told (said_written r)
unfolding said_written number_told
written_number (Ok n) = refl
written_number (Err why) = refl

pub written_value : (r : Result ℕ R.Refusal) (before : ℕ) → result_unwrap_or r before ≡ value_told (said_written r) before
unfolding said_written value_told
written_value (Ok n) before = refl
written_value (Err why) before = refl

-- a place whose value a refusal keeps
pub kept : (r : Result (List ℕ) R.Refusal) (n : ℕ) (before after : List ℕ) → refused_by r ≡ n → IfOk r (λ x. x ≡ after)
    → result_unwrap_or r before ≡ kept_unless n before after
kept (Ok x) n before after e h = h ∙ sym (kept_zero n before after (sym e))
kept (Err why) n before after e h = sym (kept_some n before after (λ z. let p = number_positive why in omega (arith, e, z)))
