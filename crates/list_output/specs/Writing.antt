-- A text written piece by piece: what is written and what is still to write, stored after it, is at each moment the whole text stored.
-- Assumes nothing.
use Rattle.std.specs.Prelude.{ℕ, suc, ◌+◌, ◌≡◌, refl, List, [], ◌∷◌, ◌++◌, length, set}
use Rattle.std.proofs.Common.{arith, add-zero, add-suc, suc-add, add-one, sym, ap, ◌∙◌, length-append}
use Rattle.std.proofs.lemmas.List.Edits.{sets}
use Rattle.std.proofs.Math.Seq.{length-sets}

-- one run of stores after another
pub sets_append : (a b l : List ℕ) (i : ℕ) → sets (sets l i a) (i + length a) b ≡ sets l i (a ++ b)
sets_append [] b l i = ap (λ (k : ℕ). sets l k b) (add-zero i)
sets_append (x ∷ a) b l i =
    ap (λ (k : ℕ). sets (sets (set l i x) (suc i) a) k b) (add-suc i (length a) ∙ sym (suc-add i (length a)))
    ∙ sets_append a b (set l i x) (suc i)

-- all is to be stored from a place on; what is stored so far ends at another, where the rest goes
pub record Writing (out₀ : List ℕ) (at : ℕ) (all out : List ℕ) (place : ℕ) (rest : List ℕ) : Type 0 where
  pub same : length out ≡ length out₀
  pub text : sets out place rest ≡ sets out₀ at all
  pub ends : place + length rest ≡ at + length all

pub write_start : (out : List ℕ) (at : ℕ) (all : List ℕ) → Writing out at all out at all
write_start out at all = record { same = refl; text = refl; ends = refl }

module _ {out₀ : List ℕ} {at : ℕ} {all out : List ℕ} {place : ℕ} {rest : List ℕ} (w : Writing out₀ at all out place rest) where
  -- one piece more
  pub write_piece : (piece later after : List ℕ) (next : ℕ) → rest ≡ piece ++ later → after ≡ sets out place piece → next ≡ place + length piece
      → Writing out₀ at all after next later
  write_piece piece later after next e f g =
      record {
        same = ap length f ∙ length-sets out place piece ∙ w.same;
        text = ap (λ (k : ℕ). sets after k later) g ∙ ap (λ (l : List ℕ). sets l (place + length piece) later) f ∙ sets_append piece later out place ∙ ap (sets out place) (sym e) ∙ w.text;
        ends = omega (arith, w.ends, ap length e, length-append piece later);
      }

  -- nothing more
  module _ (none : rest ≡ []) where
    pub write_text : out ≡ sets out₀ at all
    write_text = sym (ap (sets out place) none) ∙ w.text

    pub write_end : place ≡ at + length all
    write_end = omega (arith, w.ends, ap length none)

-- one element stored, and a run of stores after it
pub sets_after : (out : List ℕ) (at x : ℕ) (text same last : List ℕ) → last ≡ sets (set out at x) (at + 1) text → text ≡ same → last ≡ sets out at (x ∷ same)
sets_after out at x text same last e f = e ∙ ap (λ (k : ℕ). sets (set out at x) k text) (add-one at) ∙ ap (sets (set out at x) (suc at)) f
