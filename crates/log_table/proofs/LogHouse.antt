-- What a lent table of 1 to 131,072 entries holds after the call: all that is asked of such a table, and from 2,048 entries on the house table at its
-- front, since a longer table begins with each shorter one. Assumes nothing.
use mathlib.Core.Path.{◌≡◌, refl, sym, ap, ◌∙◌, subst}
use mathlib.Core.List.{List, []}
use Prim.Native.Nat.{ℕ, ◌≤◌}
use native.Mathlib.Omega.{arith}
use lib.ListN.{length, take}
use borrow.Author.Tests.{le-ltb}
use Rattle.rules.specs.Numbers.{first_of}
use Rattle.rules.specs.Answers.{Answer, unless, kept_unless}
use Rattle.log_table.specs.House.{house_table}
use Rattle.log_table.specs.Logs.{log_table, LogTable, log_lines, log_answer, logs_out}
use Rattle.log_table.proofs.LogLaws.{log_table_lem, table_take}

pub begins_with_house : (n : ℕ) → 2048 ≤ n → take 2048 (log_table n) ≡ house_table
unfolding house_table
begins_with_house n h = table_take 2048 n h

module _ (xs : List ℕ) (most : length xs ≤ 131072) where
  out : 1 ≤ length xs → (Answer [] ≡ log_answer (length xs)) × (log_table (length xs) ≡ logs_out xs)
  unfolding log_answer logs_out log_lines first_of unless kept_unless
  out h = let e = le-ltb (length xs) 1 h in let f = le-ltb 131072 (length xs) most in (rw (e, f) refl, rw (e, f) refl)

  pub filled : 1 ≤ length xs → (log_answer (length xs) ≡ Answer []) × LogTable (length xs) (logs_out xs)
  filled h = (sym (out h).0, subst (λ (ys : List ℕ). LogTable (length xs) ys) (out h).1 (log_table_lem (length xs) h (omega arith)))

  pub filled_house : 2048 ≤ length xs → take 2048 (logs_out xs) ≡ house_table
  filled_house h = ap (λ (ys : List ℕ). take 2048 ys) (sym (out (omega arith)).1) ∙ begins_with_house (length xs) h
