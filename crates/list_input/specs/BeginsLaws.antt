-- Where the buckets' keys begin never falls, whatever the numbers are. Assumes nothing.
use Rattle.std.specs.Prelude.{ℕ, zero, suc, ◌+◌, ◌-◌, ◌≤◌, ◌<◌, ◌≡◌, refl, Bool, true, false, List, [], ◌∷◌, ltb, length, get_or, drop}
use Rattle.std.proofs.Common.{arith, le_refl}
use Rattle.std.proofs.Math.Numerals.{add-one}
use Rattle.list_input.specs.Form.{well_formed}
use Rattle.list_input.specs.Asked.{begins_in, begins_of}
use Rattle.list_input.specs.AskedLaws.{begins_hash, begins_count, begins_count_is}

-- a list that starts at or above a number and never falls
record Rises (before : ℕ) (xs : List ℕ) : Type 0 where
  first : before ≤ get_or xs 0 0
  rest : (k : ℕ) → suc k < length xs → get_or xs k 0 ≤ get_or xs (suc k) 0

Climbs : List ℕ → Type 0
Climbs xs = (before keys : ℕ) → Rises before (begins_in before keys xs)

climbs_none : Climbs []
unfolding Climbs begins_in
climbs_none before keys = record { first = le_refl before; rest = λ k h. absurd (omega arith) }

climbs_more : (x : ℕ) (xs : List ℕ) → Climbs xs → Climbs (x ∷ xs)
unfolding Climbs
climbs_more x xs climbs before keys = go (ltb 0 keys) refl
  where
    later : (k : ℕ) → suc k < length (before ∷ begins_in before x xs) → get_or (before ∷ begins_in before x xs) k 0 ≤ get_or (begins_in before x xs) k 0
    later zero h = (climbs before x).first
    later (suc k) h = (climbs before x).rest k (omega arith)

    go : (a : Bool) → ltb 0 keys ≡ a → Rises before (begins_in before keys (x ∷ xs))
    go true k =
        rw (begins_hash before keys x xs k)
        (record { first = omega (arith, (climbs (before + 1) (keys - 1)).first); rest = (climbs (before + 1) (keys - 1)).rest })
    go false k = rw (begins_count before keys x xs k) (record { first = le_refl before; rest = later })

climbs_all : (xs : List ℕ) → Climbs xs
climbs_all [] = climbs_none
climbs_all (x ∷ xs) = climbs_more x xs (climbs_all xs)

module _ (ns : List ℕ) (well : well_formed ns ≡ true) (b : ℕ) (h : b < get_or ns 12 0) where
  -- bucket b has its place
  pub begins_placed : b + 1 < length (begins_of ns)
  begins_placed = omega (arith, begins_count_is ns well)

  pub begins_rise : get_or (begins_of ns) b 0 ≤ get_or (begins_of ns) (b + 1) 0
  unfolding begins_of Climbs
  begins_rise = rw add-one ((climbs_all (drop 13 ns) 0 0).rest b (omega (arith, begins_placed)))
