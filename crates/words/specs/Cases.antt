-- Cases to go by: an order or an equality of two numbers, and the two digits. Each is decided, so each holds one way or the other.
-- Assumes nothing.
use Rattle.std.specs.Prelude.{◌≡◌, ◌≢◌, ◌⊎◌, ℕ, ◌%◌, ◌≤◌, ◌<◌}
use Rattle.std.proofs.Common.{inl, inr, ⊎_elim, arith}
use Rattle.std.proofs.Math.Decide.{dec_lt, ℕ_discrete}

pub lt_or_ge : (i n : ℕ) → (i < n) ⊎ (n ≤ i)
lt_or_ge i n = go (dec_lt i n)
  where
    go : Dec (i < n) → (i < n) ⊎ (n ≤ i)
    go (yes h) = inl h
    go (no h) = inr (omega arith)

pub same_or_not : (i n : ℕ) → (i ≡ n) ⊎ (i ≢ n)
same_or_not i n = go (ℕ_discrete i n)
  where
    go : Dec (i ≡ n) → (i ≡ n) ⊎ (i ≢ n)
    go (yes e) = inl e
    go (no h) = inr h

pub digit : (x : ℕ) → x < 2 → (x ≡ 0) ⊎ (x ≡ 1)
digit x h = ⊎_elim (λ l. inl (omega arith)) (λ l. inr (omega arith)) (lt_or_ge x 1)

pub parity : (w : ℕ) → (w % 2 ≡ 0) ⊎ (w % 2 ≡ 1)
parity w = digit (w % 2) (omega arith)
