-- Where at most one key is left to look at there are no equal neighbours. Assumes nothing.
use Rattle.std.proofs.Common.{◌≡◌, refl, false, List, [], ◌∷◌, ℕ, ◌<◌, length, arith}
use Rattle.sorting.specs.Runs.{twins}

pub no_pair : (l : List ℕ) → length l < 2 → twins l ≡ false
no_pair [] k = refl
no_pair (x ∷ []) k = refl
no_pair (x ∷ y ∷ zs) k = absurd (omega arith)
