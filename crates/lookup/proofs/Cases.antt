-- What a lookup says, by its refusal or by what it found. Assumes nothing.
use Rattle.std.proofs.Common.{◌≡◌, refl, sym, ap, ◌∙◌, ◌≢◌, List, [], ◌∷◌, ℕ, zero, suc, not, eqb, cond, ◌≤◌, arith}
use Rattle.std.specs.Prelude.{Option, Some, None, Result, Ok, Err, IfOk, option_to_list}
use Rattle.rules.specs.declared.Settings.{Settings}
use Rattle.rules.specs.Numbers.{first_of, line, lines_to6, lookup_lines}
use Rattle.rules.proofs.CheckLaws.{numbered_6}
use Rattle.rules.proofs.Lines.{first_append_some, first_append_zero}
use Rattle.rules.specs.declared.Refusal as R
use Rattle.rules.specs.Geometry.{position}
use Rattle.rules.specs.Holes.{slot_by}
use Rattle.rules.specs.Answers.{Answer, refused_by, said_looked, unless}
use Rattle.rules.proofs.RefusalLaws.{refused_says}

-- a seed other than 0 gives its position
pub slot_of : (s : Settings) (v h : ℕ) → v ≢ 0 → slot_by s v h ≡ position s v h ∷ []
unfolding slot_by
slot_of s zero h n = absurd (n refl)
slot_of s (suc v) h n = refl

found_says : (o : Option ℕ) (found : List ℕ) → option_to_list o ≡ found → said_looked (Ok o) ≡ Answer found
unfolding said_looked
found_says None found e = ap Answer e
found_says (Some x) found e = ap Answer e

pub looked_says : (r : Result (Option ℕ) R.Refusal) (n : ℕ) (found : List ℕ) → refused_by r ≡ n → IfOk r (λ o. option_to_list o ≡ found)
    → said_looked r ≡ unless n (Answer found)
unfolding unless
looked_says (Ok o) n found e h = found_says o found h ∙ rw (sym e) refl
looked_says (Err why) n found e h = unfold said_looked in refused_says why n (Answer found) e

-- the lines of a lookup are those of the settings, 1 to 6, and 13
module _ (s : Settings) (n : ℕ) where
  pub lookup_first : 1 ≤ first_of (lines_to6 s) → first_of (lookup_lines s n) ≡ first_of (lines_to6 s)
  unfolding lookup_lines
  lookup_first h = first_append_some (lines_to6 s) (line 13 (not (eqb n s.buckets)) ∷ []) (λ z. omega arith)

  pub lookup_last : first_of (lines_to6 s) ≡ 0 → first_of (lookup_lines s n) ≡ cond (not (eqb n s.buckets)) 13 0
  unfolding lookup_lines first_of
  lookup_last e = first_append_zero (lines_to6 s) (line 13 (not (eqb n s.buckets)) ∷ []) (numbered_6 s) e
