-- A call that checks some lines and then one more, and keeps what it was lent where it refuses: its number and its buffer in each of the three cases. The
-- number is that of the lines before, that of the last line, or 0, and `kept_unless` goes by it. Assumes nothing.
use mathlib.Core.Path.{◌≡◌, sym, ◌∙◌}
use mathlib.Core.Logic.{◌≢◌}
use mathlib.Core.Bool.{Bool, not}
use mathlib.Core.List.{List, [], ◌∷◌, ◌++◌}
use Prim.Native.Nat.{ℕ}
use lib.Dec.{T}
use Rattle.rules.specs.Numbers.{Line, line, first_of}
use Rattle.rules.specs.Answers.{kept_unless}
use Rattle.rules.proofs.Lines.{Numbered, first_append_some, first_append_zero, first_applies, none_zero}
use Rattle.rules.proofs.AnswerLaws.{kept_zero, kept_some}

-- the number, and the buffer
abbrev pub Closed : (lines : List Line) (before after : List ℕ) (number : ℕ) (buffer : List ℕ) → Type 0
Closed lines before after number buffer = (number ≡ first_of lines) × (buffer ≡ kept_unless (first_of lines) before after)

refused : (lines : List Line) (before after : List ℕ) (n : ℕ) → n ≡ first_of lines → n ≢ 0 → Closed lines before after n before
refused lines before after n e z = (e, sym (kept_some (first_of lines) before after (λ q. z (e ∙ q))))

module _ (lines : List Line) (k : ℕ) (test : Bool) (before after : List ℕ) where
  pub earlier : (n : ℕ) → n ≡ first_of lines → n ≢ 0 → Closed (lines ++ line k test ∷ []) before after n before
  earlier n e z =
      refused (lines ++ line k test ∷ []) before after n (e ∙ sym (first_append_some lines (line k test ∷ []) (λ q. z (e ∙ q)))) z

  module _ (numbered : Numbered lines) (passed : first_of lines ≡ 0) where
    pub last : k ≢ 0 → T test → Closed (lines ++ line k test ∷ []) before after k before
    last z t =
        refused (lines ++ line k test ∷ []) before after k
        (sym (first_append_zero lines (line k test ∷ []) numbered passed ∙ first_applies (line k test) [] t)) z

    pub done : T (not test) → Closed (lines ++ line k test ∷ []) before after 0 after
    done t =
        let e : first_of (lines ++ line k test ∷ []) ≡ 0 = first_append_zero lines (line k test ∷ []) numbered passed ∙ none_zero (line k test ∷ []) (t, tt) in
        (sym e, sym (kept_zero (first_of (lines ++ line k test ∷ [])) before after e))
