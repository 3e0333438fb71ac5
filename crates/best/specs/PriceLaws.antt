-- What is known of free rotations and of costs, and what the loop of `cost` adds up. Assumes nothing.
use Rattle.std.specs.Prelude.{◌≡◌, not, List, T, length, get_or}
use Rattle.std.proofs.Math.Path.{refl}
use Prim.Native.Nat.{ℕ, zero, suc, ◌+◌, ◌-◌, ◌*◌, ◌/◌, ◌%◌, ◌^◌, ◌≤◌, ◌<◌}
use Rattle.std.proofs.Common.{arith, add-one}
use Rattle.std.proofs.Math.Nat.{mod-le}
use Rattle.std.specs.Int.Bits.{bit_and}
use Rattle.words.specs.Map.{slot}
use Rattle.rules.proofs.Tests.{eq→eqb, neq→neqb}
use Rattle.rings.specs.declared.Ring.{Ring}
use Rattle.rings.specs.Ring.{Shape}
use Rattle.rings.specs.Keys.{entry_at, cost_to, cost_at}
use Rattle.rings.specs.KeyLaws.{entry_code, entry_lt, entry_small, turn_lt}
use Rattle.best.specs.Prices.{Prices, is_free}

pub free_one : (free : List ℕ) (j : ℕ) → slot free j ≡ 1 → T (is_free free j)
unfolding is_free
free_one free j h = eq→eqb (slot free j) 1 h

pub free_zero : (free : List ℕ) (j : ℕ) → slot free j ≡ 0 → T (not (is_free free j))
unfolding is_free
free_zero free j h = neq→neqb (slot free j) 1 (λ e. omega arith)

-- ---- a cost is never that of nothing

cost_le : (g : Ring) (table keys : List ℕ) (j i : ℕ) → ((k : ℕ) → get_or table k 0 < 2 ^ 32) → cost_to g table keys j i ≤ 4294967295 * i
unfolding cost_to
cost_le g table keys j zero w = omega arith
cost_le g table keys j (suc i) w = omega (arith, cost_le g table keys j i w, w (entry_at g (get_or keys i 0) j))

pub cost_lt : (g : Ring) (table keys : List ℕ) (j : ℕ) → ((k : ℕ) → get_or table k 0 < 2 ^ 32) → length keys < 2 ^ 32 → cost_at g table keys j < 2 ^ 64 - 1
unfolding cost_at
cost_lt g table keys j w h = omega (arith, cost_le g table keys j (length keys) w)

-- ---- the loop of `cost`, whose step is j 2^t and whose mask is (n - 1) 2^t

abbrev pub code_at : (d step mask : ℕ) → ℕ
code_at d step mask = d / 2 ^ 32 + bit_and (d + step) mask

unfoldable pub sum_to : (table keys : List ℕ) (step mask i : ℕ) → ℕ
sum_to table keys step mask zero = 0
sum_to table keys step mask (suc i) = sum_to table keys step mask i + get_or table (code_at (get_or keys i 0) step mask) 0

pub sum_none : (table keys : List ℕ) (step mask : ℕ) → sum_to table keys step mask 0 ≡ 0
unfolding sum_to
sum_none table keys step mask = refl

pub sum_more : (table keys : List ℕ) (step mask i : ℕ) → sum_to table keys step mask (i + 1) ≡ sum_to table keys step mask i + get_or table (code_at (get_or keys i 0) step mask) 0
unfolding sum_to
sum_more table keys step mask i = rw add-one refl

module _ (g : Ring) (s : Shape g) (table keys : List ℕ) (j : ℕ) (h : j < 65536) where
  sum_to_lem : (i : ℕ) → sum_to table keys (j * 2 ^ g.t % 2 ^ 64) ((g.n - 1) * 2 ^ g.t % 2 ^ 64) i ≡ cost_to g table keys j i
  unfolding sum_to cost_to
  sum_to_lem zero = refl
  sum_to_lem (suc i) = rw (sum_to_lem i, entry_code g s (get_or keys i 0) j h) refl

  pub sum_cost : sum_to table keys (j * 2 ^ g.t % 2 ^ 64) ((g.n - 1) * 2 ^ g.t % 2 ^ 64) (length keys) ≡ cost_at g table keys j
  unfolding cost_at
  sum_cost = sum_to_lem (length keys)

  module _ (p : Prices g table keys) (i : ℕ) (l : i < length keys) where
    key_low : get_or keys i 0 < 2 ^ 63
    key_low = omega (arith, p.priced i l, p.few)

    pub sum_fits : get_or keys i 0 + j * 2 ^ g.t % 2 ^ 64 < 2 ^ 64
    sum_fits = omega (arith, key_low, turn_lt g s j h, mod-le (j * 2 ^ g.t) (2 ^ 64))

    pub code_fits : code_at (get_or keys i 0) (j * 2 ^ g.t % 2 ^ 64) ((g.n - 1) * 2 ^ g.t % 2 ^ 64) < 2 ^ 64
    code_fits = rw (entry_code g s (get_or keys i 0) j h) (omega (arith, entry_small g s (get_or keys i 0) j key_low))

    pub code_in : code_at (get_or keys i 0) (j * 2 ^ g.t % 2 ^ 64) ((g.n - 1) * 2 ^ g.t % 2 ^ 64) < length table
    code_in = rw (entry_code g s (get_or keys i 0) j h) (omega (arith, entry_lt g s p.entries (get_or keys i 0) j (p.priced i l), p.enough))
