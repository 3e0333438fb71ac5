-- The cost of a rotation of a layout's keys is rule S's cost of its seed, and its slots are those that rule S tries.
-- Why: key for key the entry of the table is the same (HashLaws); and candidate (0,0), whose seed is n·L, has the positions of seed 0.
-- Assumes nothing.
use Rattle.std.specs.Prelude.{◌≡◌, refl, List, [], ◌∷◌, map, ℕ, zero, suc, ◌+◌, ◌*◌, ◌<◌, length}
use Rattle.std.proofs.Math.Path.{sym, ap}
use Rattle.std.proofs.Common.{ap₂, ◌∙◌, arith}
use Rattle.std.proofs.Math.ListN.{get_or}
use Rattle.std.proofs.lemmas.List.{get_or-map}
use Rattle.rules.specs.Lists.{sum}
use Rattle.rules.specs.Geometry.{layouts, first, position, ring_len}
use Rattle.rules.specs.Order.{Input, keys_of}
use Rattle.rules.specs.Seed.{seed_of, slots_of, price, cost}
use Rattle.rules.specs.Good.{Sound}
use Rattle.rules.proofs.CandidateLaws.{seed_position}
use Rattle.rules.proofs.SegmentLaws.{cost_number}
use Rattle.rings.specs.declared.Ring.{Ring}
use Rattle.rings.specs.Keys.{entry_at, cost_to, cost_at}
use Rattle.rings.specs.Place.{key_slot}
use Rattle.rings.specs.Level.{level_ring}
use Rattle.ring_keys.specs.RingKey.{ring_key, ring_keys}
use Rattle.ring_keys.specs.HashLaws.{entry_is}
use Rattle.ring_keys.specs.LayoutLaws.{homes_of, key_slot_lem}

cost_front : (g : Ring) (table : List ℕ) (d : ℕ) (ks : List ℕ) (rot i : ℕ) → cost_to g table (d ∷ ks) rot (suc i) ≡ get_or table (entry_at g d rot) 0 + cost_to g table ks rot i
unfolding cost_to
cost_front g table d ks rot zero = omega arith
cost_front g table d ks rot (suc i) = omega (arith, cost_front g table d ks rot i)

-- the sum goes key by key from the front
cost_sum : (g : Ring) (table : List ℕ) (rot : ℕ) (f price : ℕ → ℕ) (hs : List ℕ)
    → ((k : ℕ) → k < length hs → get_or table (entry_at g (f (get_or hs k 0)) rot) 0 ≡ price (get_or hs k 0)) → cost_at g table (map f hs) rot ≡ sum (map price hs)
unfolding cost_at cost_to
cost_sum g table rot f price [] e = refl
cost_sum g table rot f price (h ∷ hs) e =
    cost_front g table (f h) (map f hs) rot (length (map f hs))
    ∙ ap₂ (λ (x y : ℕ). x + y) (e 0 (omega arith)) (cost_sum g table rot f price hs (λ k lt. e (suc k) (omega arith)))

prices_map : (f g : ℕ → ℕ) (hs : List ℕ) → sum (map (λ (h : ℕ). g (f h)) hs) ≡ sum (map g (map f hs))
prices_map f g [] = refl
prices_map f g (h ∷ hs) = ap (λ (x : ℕ). g (f h) + x) (prices_map f g hs)

module _ (i : Input) (sound : Sound i) (b : ℕ) (inside : b < i.settings.buckets) (r : ℕ) (lt : r < layouts i.settings) where
  -- rule S's cost of seed j·L + r
  pub cost_is : (j : ℕ) → cost_at (level_ring i.settings) i.table (ring_keys i.settings (first i.settings b) r (keys_of i b)) j ≡ cost i b (j * layouts i.settings + r)
  unfolding cost slots_of price
  cost_is j =
      cost_sum (level_ring i.settings) i.table j (ring_key i.settings (first i.settings b) r) (λ (h : ℕ). price i b (position i.settings (j * layouts i.settings + r) h)) (keys_of i b)
      (λ k h.
      ap (λ (x : ℕ). get_or i.table x 0)
      (entry_is i.settings sound.good b (first i.settings b) (get_or (keys_of i b) k 0) (homes_of i sound b inside k h) r lt j))
      ∙ prices_map (position i.settings (j * layouts i.settings + r)) (price i b) (keys_of i b)

  -- and of candidate (r,j)
  pub candidate_cost : (j : ℕ) → j < ring_len i.settings
      → cost_at (level_ring i.settings) i.table (ring_keys i.settings (first i.settings b) r (keys_of i b)) j ≡ cost i b (seed_of i (record { r = r; j = j }))
  candidate_cost j h = cost_is j ∙ sym (cost_number i sound b r j lt h)

  -- the slots of the bucket's keys under candidate (r,j)
  pub candidate_slot : (j : ℕ) → j < ring_len i.settings → (k : ℕ) → k < length (keys_of i b)
      → key_slot (level_ring i.settings) (ring_keys i.settings (first i.settings b) r (keys_of i b)) (first i.settings b) j k ≡ get_or (slots_of i b (seed_of i (record { r = r; j = j }))) k 0
  unfolding slots_of
  candidate_slot j h k kh =
      key_slot_lem i.settings sound.good b (first i.settings b) (keys_of i b) (homes_of i sound b inside) r lt j k kh
      ∙ sym (seed_position i (record { r = r; j = j }) (get_or (keys_of i b) k 0) lt h)
      ∙ sym (get_or-map (position i.settings (seed_of i (record { r = r; j = j }))) (keys_of i b) k 0 0 kh)
