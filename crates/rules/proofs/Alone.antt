-- A sweep in chunks is as the Rust's: each chunk is swept as if it were alone, and each gap sees what the chunks marked and not what other gaps did. It
-- holds because chunks lie a gap apart, and gaps too. Assumes nothing.
use mathlib.Core.Path.{◌≡◌, refl, sym, ap, ap₂, ◌∙◌, subst}
use mathlib.Core.Logic.{inl, inr}
use mathlib.Core.List.{List, [], ◌∷◌, ◌++◌, map, append_assoc}
use Prim.Native.Nat.{ℕ, zero, suc, ◌+◌, ◌-◌, ◌*◌, ◌≤◌, ◌<◌}
use native.Mathlib.Omega.{arith}
use lib.Dec.{T}
use Rattle.rules.specs.declared.Settings.{Settings}
use Rattle.rules.specs.Lists.{below, count_from, elem}
use Rattle.rules.specs.Order.{Input, Tie}
use Rattle.rules.specs.Good.{Good, Grouped}
use Rattle.rules.specs.Sweep.{Given, given, marks}
use Rattle.rules.specs.Chunks.{Range, chunk_gap, chunk_count, bound, short_chunk, last_chunk, gap_chunk, ranges_of, ranges, order_in, orders_of}
use Rattle.rules.proofs.Counting.{Under}
use Rattle.rules.proofs.TurnLaws.{order_keys}
use Rattle.rules.proofs.HoleLaws.{elem_append}
use Rattle.rules.proofs.SweepLaws.{given_append}
use Rattle.rules.proofs.ChunkLaws.{Inside, orders_join, ranges_cover, count_room, count_pos, bound_mono, bound_wide}
use Rattle.rules.proofs.GapLaws.{FarOff, given_far}

-- r lies a gap below each of the ranges
abbrev pub Below : (g : ℕ) → Range → List Range → Type 0
Below g r [] = Unit {0}
Below g r (q ∷ rs) = (r.hi + g ≤ q.lo) × Below g r rs

-- ascending ranges with a gap between any two
abbrev pub Spaced : (g : ℕ) → List Range → Type 0
Spaced g [] = Unit {0}
Spaced g (r ∷ rs) = Below g r rs × Spaced g rs

module _ (tie : Tie) (i : Input) where
  -- each range swept from the same marked slots
  unfoldable pub each_alone : (marked : List ℕ) → List Range → List Given
  each_alone marked [] = []
  each_alone marked (r ∷ rs) = given i marked (order_in tie i r) ++ each_alone marked rs

  order_in_lem : (r : Range) (x : ℕ) → T (elem x (order_in tie i r)) → (r.lo ≤ x) × (x < r.hi)
  unfolding order_in
  order_in_lem r x t = let k = order_keys tie i r.lo r.hi x t in (k.0, k.1)

  orders_under : (n : ℕ) (rs : List Range) → Inside n rs → Under n (orders_of tie i rs)
  unfolding orders_of
  orders_under n [] h x t = absurd t
  orders_under n (r ∷ rs) h x t = elim (elem_append x (order_in tie i r) (orders_of tie i rs) t) [
    | inl u ↦ omega (arith, (order_in_lem r x u).1, h.1)
    | inr u ↦ orders_under n rs h.2 x u
  ]

  far_off : (g : ℕ) (r : Range) (rs : List Range) → Below g r rs → FarOff g (order_in tie i r) (orders_of tie i rs)
  unfolding orders_of
  far_off g r [] h a b s t = absurd t
  far_off g r (q ∷ rs) h a b s t = elim (elem_append b (order_in tie i q) (orders_of tie i rs) t) [
    | inl u ↦ inl (omega (arith, (order_in_lem r a s).1, (order_in_lem q b u).0, h.0))
    | inr u ↦ far_off g r rs h.1 a b s u
  ]

  module _ (good : Good i.settings) (G : Grouped i) where
    pub each_alone_lem : (rs : List Range) (marked : List ℕ) → Inside i.settings.buckets rs → Spaced (chunk_gap i.settings) rs → given i marked (orders_of tie i rs) ≡ each_alone marked rs
    unfolding orders_of each_alone given
    each_alone_lem [] marked h d = refl
    each_alone_lem (r ∷ rs) marked h d =
        given_append i (order_in tie i r) (orders_of tie i rs) marked
        ∙ ap (λ (l : List Given). given i marked (order_in tie i r) ++ l)
        (given_far i good G (order_in tie i r) (orders_of tie i rs) marked (λ x t. omega (arith, (order_in_lem r x t).1, h.1)) (orders_under i.settings.buckets rs h.2) (far_off (chunk_gap i.settings) r rs d.0)
        ∙ each_alone_lem rs marked h.2 d.1)

-- ---- the chunks, and the gaps

module _ (s : Settings) where
  -- the chunks alone, ascending
  unfoldable pub chunks_of : (n : ℕ) → List Range
  chunks_of n = map (short_chunk s n) (below (n - 1)) ++ last_chunk s n ∷ []

  unfoldable pub gaps_of : (n : ℕ) → List Range
  gaps_of n = map (gap_chunk s n) (below (n - 1))

  pub ranges_are : (n : ℕ) → ranges_of s n ≡ chunks_of n ++ gaps_of n
  unfolding ranges_of chunks_of gaps_of
  ranges_are n = sym (append_assoc (map (short_chunk s n) (below (n - 1))) (last_chunk s n ∷ []) (map (gap_chunk s n) (below (n - 1))))

  module _ (n : ℕ) (some : 1 ≤ n) (room : 1 < n → n * (64 * chunk_gap s) ≤ s.buckets) where
    wide : 1 < n → (k : ℕ) → bound s n k + 64 * chunk_gap s ≤ bound s n (k + 1)
    wide h k = bound_wide s n some (64 * chunk_gap s) (room h) k

    -- a chunk stops a gap before the next begins
    chunk_below : (a j k : ℕ) → a + 1 ≤ j → j + k ≡ n - 1 → Below (chunk_gap s) (short_chunk s n a) (map (short_chunk s n) (count_from j k) ++ last_chunk s n ∷ [])
    unfolding short_chunk last_chunk
    chunk_below a j zero h e = (omega (arith, wide (omega arith) a, bound_mono s n some (a + 1) (n - 1) (omega arith)), tt)
    chunk_below a j (suc k) h e = (omega (arith, wide (omega arith) a, bound_mono s n some (a + 1) j h), chunk_below a (suc j) k (omega arith) (omega arith))

    chunks_from : (j k : ℕ) → j + k ≡ n - 1 → Spaced (chunk_gap s) (map (short_chunk s n) (count_from j k) ++ last_chunk s n ∷ [])
    chunks_from j zero e = (tt, tt)
    chunks_from j (suc k) e = (chunk_below j (suc j) k (omega arith) (omega arith), chunks_from (suc j) k (omega arith))

    gap_below : (a j k : ℕ) → a + 1 ≤ j → j + k ≡ n - 1 → Below (chunk_gap s) (gap_chunk s n a) (map (gap_chunk s n) (count_from j k))
    unfolding gap_chunk
    gap_below a j zero h e = tt
    gap_below a j (suc k) h e = (omega (arith, wide (omega arith) (a + 1), bound_mono s n some (a + 1 + 1) (j + 1) (omega arith)), gap_below a (suc j) k (omega arith) (omega arith))

    gaps_from_lem : (j k : ℕ) → j + k ≡ n - 1 → Spaced (chunk_gap s) (map (gap_chunk s n) (count_from j k))
    gaps_from_lem j zero e = tt
    gaps_from_lem j (suc k) e = (gap_below j (suc j) k (omega arith) (omega arith), gaps_from_lem (suc j) k (omega arith))

  pub chunks_spaced : (c : ℕ) → Spaced (chunk_gap s) (chunks_of (chunk_count s c))
  unfolding chunks_of
  chunks_spaced c = chunks_from (chunk_count s c) (count_pos s c) (count_room s c) 0 (chunk_count s c - 1) (omega arith)

  pub gaps_spaced : (c : ℕ) → Spaced (chunk_gap s) (gaps_of (chunk_count s c))
  unfolding gaps_of
  gaps_spaced c = gaps_from_lem (chunk_count s c) (count_pos s c) (count_room s c) 0 (chunk_count s c - 1) (omega arith)

inside_parts : (n : ℕ) (xs ys : List Range) → Inside n (xs ++ ys) → Inside n xs × Inside n ys
inside_parts n [] ys h = (tt, h)
inside_parts n (x ∷ xs) ys h = let w = inside_parts n xs ys h.2 in ((h.0, h.1, w.0), w.1)

-- as `sweep_level` does: the chunks each from no slot marked, then the gaps each from what the chunks marked
unfoldable pub chunks_then_gaps : (tie : Tie) (c : ℕ) → Input → List Given
chunks_then_gaps tie c i =
    each_alone tie i [] (chunks_of i.settings (chunk_count i.settings c))
    ++ each_alone tie i (marks i [] (orders_of tie i (chunks_of i.settings (chunk_count i.settings c)))) (gaps_of i.settings (chunk_count i.settings c))

pub as_level : (tie : Tie) (c : ℕ) (i : Input) → Good i.settings → Grouped i → given i [] (orders_of tie i (ranges i.settings c)) ≡ chunks_then_gaps tie c i
unfolding ranges chunks_then_gaps
as_level tie c i good G =
    ap (λ (rs : List Range). given i [] (orders_of tie i rs)) (ranges_are i.settings n)
    ∙ ap (given i []) (orders_join tie i chunks gaps)
    ∙ given_append i (orders_of tie i chunks) (orders_of tie i gaps) []
    ∙ ap₂ (λ (xs ys : List Given). xs ++ ys) (each_alone_lem tie i good G chunks [] parts.0 (chunks_spaced i.settings c))
    (each_alone_lem tie i good G gaps (marks i [] (orders_of tie i chunks)) parts.1 (gaps_spaced i.settings c))
  where
    n : ℕ
    n = chunk_count i.settings c

    chunks : List Range
    chunks = chunks_of i.settings n

    gaps : List Range
    gaps = gaps_of i.settings n

    parts : Inside i.settings.buckets chunks × Inside i.settings.buckets gaps
    parts = inside_parts i.settings.buckets chunks gaps (subst (Inside i.settings.buckets) (ranges_are i.settings n) (ranges_cover i.settings c).inside)
