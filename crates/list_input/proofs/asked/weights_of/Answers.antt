-- `weights_of` reads the seven weights one by one. Assumes nothing.
use Rattle.list_input.specs.Asked.{weights_of}
use mir.ValLaws.{to_z-of_z}
use mir.Val.{SFits, to_z, of_z}
use mir.Syntax.{w64}
use lib.IntN.{ℤ}
use mathlib.Core.List.{[], ◌∷◌}
use mathlib.Core.Path.{◌≡◌, ◌∙◌}
use Rattle.list_input.proofs.asked.weights_of.Goals as goal

back : (z w : ℤ) → SFits w64 z → z ≡ w → to_z w64 (of_z w64 z) ≡ w
back z w f e = to_z-of_z w64 z f ∙ e

seven : (a b c d e f g s t u v w x y : ℤ) → a ≡ s → b ≡ t → c ≡ u → d ≡ v → e ≡ w → f ≡ x → g ≡ y
    → a ∷ b ∷ c ∷ d ∷ e ∷ f ∷ g ∷ [] ≡ s ∷ t ∷ u ∷ v ∷ w ∷ x ∷ y ∷ []
seven a b c d e f g s t u v w x y i j k l m n o = cc

pub returns : goal.returns
unfolding weights_of
returns c =
    seven _ _ _ _ _ _ _ _ _ _ _ _ _ _
    (back _ _ (record { sfits = c.weight_of.type_inv }) c.weight_of.ensures)
    (back _ _ (record { sfits = c.weight_of-2.type_inv }) c.weight_of-2.ensures)
    (back _ _ (record { sfits = c.weight_of-3.type_inv }) c.weight_of-3.ensures)
    (back _ _ (record { sfits = c.weight_of-4.type_inv }) c.weight_of-4.ensures)
    (back _ _ (record { sfits = c.weight_of-5.type_inv }) c.weight_of-5.ensures)
    (back _ _ (record { sfits = c.weight_of-6.type_inv }) c.weight_of-6.ensures)
    (back _ _ (record { sfits = c.weight_of-7.type_inv }) c.weight_of-7.ensures)
