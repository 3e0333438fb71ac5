-- Worked examples of the best rotation, by computation: a ring of four places, two keys, and a table that never falls.
-- At rotations 0 to 3 the keys cost 16, 19, 16 and 12. Assumes nothing.
use Rattle.std.specs.Prelude.{◌≡◌, refl, List, [], ◌∷◌, ℕ, zero, suc, ◌+◌, ◌^◌}
use Rattle.std.proofs.Common.{arith, lit<, lit≤}
use Rattle.words.specs.Bit.{bit}
use Rattle.words.specs.Map.{slot}
use Rattle.rules.specs.Numbers.{rising, step_up}
use Rattle.rules.proofs.InputLaws.{rising_steps, steps_climb}
use Rattle.rings.specs.declared.Ring.{Ring}
use Rattle.rings.specs.Ring.{ring_of}
use Rattle.rings.specs.Keys.{place_at, entry_at, cost_to, cost_at, Priced}
use Rattle.best.specs.Best.{nothing, better, best_from, best_of}
use Rattle.best.specs.Prices.{Prices, is_free, cost_in, free_in, best_free}

abbrev pub ring : Ring
ring = ring_of 0 1 4 16

abbrev pub table : List ℕ
table = 5 ∷ 7 ∷ 7 ∷ 9 ∷ 12 ∷ []

-- at places 1 and 2 of rings whose first entries are 0 and 1
abbrev pub keys : List ℕ
keys = 1 ∷ (2 ^ 32 + 2) ∷ []

-- two layouts alike
abbrev pub twice : List ℕ
twice = 1 ∷ (2 ^ 32 + 2) ∷ 1 ∷ (2 ^ 32 + 2) ∷ []

-- what is asked of keys and table can be met
priced : Priced ring 5 keys
priced zero h = lit< tt
priced (suc zero) h = lit< tt
priced (suc (suc i)) h = absurd (omega arith)

pub prices_met : Prices ring table keys
unfolding rising step_up
prices_met = record {
  entries = 5;
  enough = lit≤ tt;
  few = lit≤ tt;
  climbs = steps_climb table 5 (rising_steps table 4 tt);
  priced = priced;
  size = lit< tt;
}

-- of rotations 0, 1 and 2 two cost 16: the first one is the best
pub tie_first : best_free ring table keys 2 (7 ∷ []) 1 1 ≡ record { cost = 16; r = 0; j = 0 }
unfolding best_free best_of best_from better cost_in free_in cost_at cost_to entry_at place_at is_free slot bit
tie_first = refl

-- of rotations 1 and 3 the later one is cheaper
pub later_cheaper : best_free ring table keys 2 (10 ∷ []) 1 1 ≡ record { cost = 12; r = 0; j = 3 }
unfolding best_free best_of best_from better cost_in free_in cost_at cost_to entry_at place_at is_free slot bit
later_cheaper = refl

-- a tie between layouts goes to the first, and a cheaper rotation of the second wins
pub layouts_tie : best_free ring table twice 2 (4 ∷ 1 ∷ []) 1 2 ≡ record { cost = 16; r = 0; j = 2 }
unfolding best_free best_of best_from better cost_in free_in cost_at cost_to entry_at place_at is_free slot bit
layouts_tie = refl

pub second_layout : best_free ring table twice 2 (4 ∷ 8 ∷ []) 1 2 ≡ record { cost = 12; r = 1; j = 3 }
unfolding best_free best_of best_from better cost_in free_in cost_at cost_to entry_at place_at is_free slot bit
second_layout = refl

pub none_free : best_free ring table keys 2 (0 ∷ []) 1 1 ≡ nothing
unfolding best_free best_of best_from better cost_in free_in cost_at cost_to entry_at place_at is_free slot bit
none_free = refl
