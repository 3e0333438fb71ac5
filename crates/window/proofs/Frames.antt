-- What entering and taking leave as it was: a bucket that enters leaves the heads of the queues, and one that is taken leaves their rows. Assumes nothing.
use mathlib.Core.Path.{◌≡◌, refl, ap}
use mathlib.Core.List.{List}
use mathlib.Core.Logic.{⊎_elim}
use Prim.Native.Nat.{ℕ, zero, suc, ◌≤◌, ◌<◌}
use native.Mathlib.Omega.{arith}
use lib.IntN.{ℤ}
use Rattle.words.specs.Cases.{lt_or_ge}
use Rattle.window.specs.declared.queues.Queues.{Queues}
use Rattle.window.specs.Changes.{Entered, Popping}

abbrev rows_of : Queues → List (List ℕ)
rows_of q = q.rows

abbrev heads_of : Queues → List ℕ
heads_of q = q.heads

pub popped_rows : {table : List ℤ} {begins : List ℕ} {n o b : ℕ} {q q' : Queues} → Popping table q begins n o b q' → q'.rows ≡ q.rows
popped_rows {q = q} {q'} p =
    ⊎_elim (λ (l : p.size < 64). ap rows_of (p.queue l).1) (λ (l : 64 ≤ p.size). ap rows_of (p.large (omega (arith, p.choice.high, l))).0) (lt_or_ge p.size 64)

pub entered_heads : {table : List ℤ} {begins set set' : List ℕ} {n b size n' : ℕ} {q q' : Queues} → Entered table q set begins n b size q' set' n' → q'.heads ≡ q.heads
entered_heads {size = zero} e = ap heads_of (e.empty refl).0
entered_heads {size = suc k} e =
    ⊎_elim (λ (l : suc k < 64). ap heads_of (e.queue (omega arith) l).0) (λ (l : 64 ≤ suc k). ap heads_of (e.large l).0) (lt_or_ge (suc k) 64)
