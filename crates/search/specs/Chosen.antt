-- Rule S from the best rotation that was found: if a test lets every candidate through that is unbarred and fits, then the best rotation that passes it is the
-- bucket's, where it fits itself; and the seed is 0 where none passes, or where two hashes are equal. Assumes nothing.
use Rattle.std.specs.Prelude.{◌≡◌, Bool, not, List, ℕ, ◌<◌, T}
use Rattle.std.proofs.Common.{T_not}
use Rattle.std.proofs.Math.Dec.{not_T}
use Rattle.rules.specs.Lists.{distinct}
use Rattle.rules.specs.Geometry.{layouts, ring_len, position}
use Rattle.rules.specs.Order.{Input, keys_of}
use Rattle.rules.specs.Seed.{unbarred, seed_of, slots_of, fits, seed_for}
use Rattle.rules.specs.Seed as Seed
use Rattle.rules.proofs.SeedLaws.{seed_is, seed_zero, fits_distinct}
use Rattle.rules.proofs.CandidateLaws.{in_candidates, candidate_in}
use Rattle.best.specs.declared.Best.{Best}
use Rattle.best.specs.Least.{Found, found_first}
use Rattle.search.specs.Candidates.{at, seed_at}
use Rattle.search.specs.SlotLaws.{map_distinct}

module _ (i : Input) (marked : List ℕ) (b : ℕ) (test : ℕ → ℕ → Bool)
    (all : (r j : ℕ) → r < layouts i.settings → j < ring_len i.settings → T (unbarred i (at r j)) → T (fits i marked b (seed_at i r j)) → T (test r j)) where
  pub found_seed : (cost : ℕ → ℕ → ℕ) → ((r j : ℕ) → r < layouts i.settings → j < ring_len i.settings → Seed.cost i b (seed_at i r j) ≡ cost r j) → {f : Best}
      → Found cost test (ring_len i.settings) (layouts i.settings) f → T (unbarred i (at f.r f.j)) → T (fits i marked b (seed_at i f.r f.j))
      → seed_for i marked b ≡ seed_at i f.r f.j
  found_seed cost same {f} found u t =
      seed_is i marked b (at f.r f.j) (in_candidates i f.r f.j found.layout found.turn u) t (λ d m v.
      let c = candidate_in i d m in
      found_first found i b same d.r d.j c.0 c.1 (all d.r d.j c.0 c.1 c.2 v))

  pub none_seed : ((r j : ℕ) → r < layouts i.settings → j < ring_len i.settings → T (not (test r j))) → seed_for i marked b ≡ 0
  none_seed h =
      seed_zero i marked b (λ d m.
      let c = candidate_in i d m in
      not_T (fits i marked b (seed_of i d)) (λ v. T_not (test d.r d.j) (h d.r d.j c.0 c.1) (all d.r d.j c.0 c.1 c.2 v)))

-- two equal hashes have one slot under every seed
pub twins_seed : (i : Input) (marked : List ℕ) (b : ℕ) → T (not (distinct (keys_of i b))) → seed_for i marked b ≡ 0
unfolding slots_of
twins_seed i marked b h =
    seed_zero i marked b (λ d m. not_T (fits i marked b (seed_of i d)) (λ v.
    T_not (distinct (keys_of i b)) h (map_distinct (position i.settings (seed_of i d)) (keys_of i b) (fits_distinct i marked b (seed_of i d) v))))
