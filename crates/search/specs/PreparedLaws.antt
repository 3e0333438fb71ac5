-- The ends of a search over prepared work words: the best rotation placed, none found, equal hashes. Assumes nothing.
use Rattle.std.specs.Prelude.{◌≡◌, refl, ◌≢◌, ◌⊎◌, Bool, true, false, not, ◌&&◌, List, [], ℕ, zero, suc, ◌+◌, ◌-◌, ◌*◌, ◌^◌, ◌≤◌, ◌<◌, T, length, get_or}
use Rattle.std.proofs.Common.{sym, ap, ◌∙◌, inl, inr, arith, T_not, pow_mono}
use Rattle.rules.specs.Lists.{all_free, distinct}
use Rattle.rules.specs.Geometry.{layouts, ring_len, entries}
use Rattle.rules.specs.Order.{Input, keys_of}
use Rattle.rules.specs.Seed.{unbarred, slots_of, fits, seed_for}
use Rattle.rules.specs.Seed as Seed
use Rattle.rules.specs.Sweep.{takes}
use Rattle.rules.proofs.Tests.{and_left, and_right, and_both}
use Rattle.rules.proofs.GeometryLaws.{slices_le}
use Rattle.rules.proofs.GroupLaws.{keys_length}
use Rattle.rules.proofs.SeedLaws.{fits_free, fits_distinct, free_fits, seed_lt}
use Rattle.rules.proofs.CandidateLaws.{in_candidates, seed_range}
use Rattle.geometry.proofs.Places.{first_high}
use Rattle.rings.specs.Keys.{Keys, cost_at}
use Rattle.rings.specs.Place.{InMap}
use Rattle.rings.specs.PlaceLaws.{length_marked_to}
use Rattle.rings.specs.Level.{level_ring}
use Rattle.rings.specs.LevelLaws.{shape_level}
use Rattle.best.specs.declared.Best.{Best}
use Rattle.best.specs.Prices.{Prices, is_free}
use Rattle.best.specs.PriceLaws.{free_one, cost_lt}
use Rattle.best.specs.Layouts.{row_le}
use Rattle.best.specs.Least as Least
use Rattle.best.specs.Least.{best_found, best_none}
use Rattle.ring_keys.specs.LayoutLaws.{homes_of, keys_ok, keys_priced, entries_few}
use Rattle.ring_keys.specs.CostLaws.{candidate_cost}
use Rattle.search.specs.Slots.{slots_at, Unused}
use Rattle.search.specs.SlotLaws.{fresh_distinct, met_twice}
use Rattle.search.specs.Rows.{row_at, best_rows}
use Rattle.search.specs.Distinct.{is_distinct, best_distinct, KeyRow, FreeRow, AllRows}
use Rattle.search.specs.Settle.{Blank, Settled, SeedIs}
use Rattle.search.specs.Candidates.{ring_in, start_of, row_of, at, seed_at}
use Rattle.search.specs.Chosen.{found_seed, none_seed}
use Rattle.search.specs.Searching.{Held, Searched}
use Rattle.search.specs.WorkMap.{Prepared}
use Rattle.search.specs.HeldLaws.{row_length, row_reached, row_in_map, slots_are, free_unused, free_blank, marks_after, caches_after}

-- a seed that is not 0 takes its slots
takes_some : (i : Input) (b v : ℕ) → 0 < v → takes i b v ≡ slots_of i b v
unfolding takes
takes_some i b zero h = absurd (omega arith)
takes_some i b (suc v) h = refl

takes_none : (i : Input) (b : ℕ) → takes i b 0 ≡ []
unfolding takes
takes_none i b = refl

true_or_false : (b : Bool) → (b ≡ true) ⊎ (b ≡ false)
true_or_false true = inl refl
true_or_false false = inr refl

-- ---- what is small

module _ {i : Input} {marked : List ℕ} {first b : ℕ} {bitmap work : List ℕ} (h : Held i marked first b bitmap work) where
  pub size_few : length (keys_of i b) ≤ 4096
  size_few = omega (arith, keys_length i h.sound.grouped b h.inside, h.sound.grouped.sizes b h.inside)

  pub start_small : start_of i b < 2 ^ 62
  start_small = omega (arith, first_high i.settings b (omega (arith, h.inside)), slices_le i.settings, h.sound.good.m_high)

  pub seed_small : seed_for i marked b < 65536
  seed_small =
      let p : 2 ^ i.settings.sb ≤ 2 ^ 16 = pow_mono h.sound.good.sb_high in
      omega (arith, seed_lt i marked b h.sound.good.ll_low)

  -- no seed: nothing changes
  pub zero_seed : (work₀ : List ℕ) → length work ≡ length work₀ → seed_for i marked b ≡ 0 → Searched i marked first b work₀ 0 bitmap work
  zero_seed work₀ e z = record {
    is = sym z;
    small = omega arith;
    marks = rw (takes_none i b) h.marks;
    caches = h.caches;
    len = e;
  }

  -- the keys of a layout
  module _ (r : ℕ) (lr : r < layouts i.settings) where
    pub row_ok : Keys (row_of i b r) (start_of i b)
    row_ok = keys_ok i.settings h.sound.good b (start_of i b) (keys_of i b) (homes_of i h.sound b h.inside) r

    pub row_prices : Prices (ring_in i) i.table (row_of i b r)
    row_prices = record {
      entries = entries i.settings;
      enough = h.sound.priced.enough;
      few = entries_few i.settings h.sound.good;
      climbs = h.sound.priced.climbs;
      priced = keys_priced i.settings h.sound.good b (start_of i b) (keys_of i b) (homes_of i h.sound b h.inside) r;
      size = omega (arith, row_length h r lr, size_few);
    }

-- ---- prepared work words

module _ {i : Input} {marked : List ℕ} {first b : ℕ} {bitmap work : List ℕ} {at' to count : ℕ} (p : Prepared i marked first b bitmap work at' to count) where
  module _ (r : ℕ) (lr : r < layouts i.settings) where
    row_room : at' + r * length (keys_of i b) + length (keys_of i b) ≤ length work
    row_room = omega (arith, p.room.0, row_le r (layouts i.settings) (length (keys_of i b)) lr)

    pub key_row : KeyRow (ring_in i) i.table work (at' + r * length (keys_of i b)) (length (keys_of i b)) (start_of i b)
    key_row = record {
      shape = shape_level i.settings p.held.sound.good;
      above = omega (arith, p.above);
      room = row_room;
      prices = rw (p.keys r lr) (row_prices p.held r lr);
      keys = rw (p.keys r lr) (row_ok p.held r lr);
      begin = start_small p.held;
      near = rw (p.keys r lr) (row_reached p.held r lr);
    }

    pub row_in : (j : ℕ) → InMap (ring_in i) (row_at work at' (length (keys_of i b)) r) (start_of i b) j (length bitmap)
    row_in j = rw (p.keys r lr) (row_in_map p.held r lr j)

    module _ (j : ℕ) (lj : j < ring_len i.settings) where
      -- a free rotation is unbarred, and its slots are unmarked
      free_yes : T (is_free (row_at work to count r) j) → T (unbarred i (at r j) && all_free marked (slots_of i b (seed_at i r j)))
      free_yes t = rw (p.free r j lr lj) at t

      pub free_open : T (is_free (row_at work to count r) j) → T (unbarred i (at r j))
      free_open t = and_left (unbarred i (at r j)) (all_free marked (slots_of i b (seed_at i r j))) (free_yes t)

      pub free_slots : T (is_free (row_at work to count r) j) → T (all_free marked (slots_of i b (seed_at i r j)))
      free_slots t = and_right (unbarred i (at r j)) (all_free marked (slots_of i b (seed_at i r j))) (free_yes t)

      pub fits_open : T (unbarred i (at r j)) → T (fits i marked b (seed_at i r j)) → T (is_free (row_at work to count r) j)
      fits_open u t = rw (p.free r j lr lj) (and_both (unbarred i (at r j)) (all_free marked (slots_of i b (seed_at i r j))) u (fits_free i marked b (seed_at i r j) t))

      pub row_unused : T (is_free (row_at work to count r) j) → Unused (ring_in i) work (start_of i b) (row_at work at' (length (keys_of i b)) r) j
      row_unused t = rw (p.keys r lr) (free_unused p.held r lr j lj (free_slots t))

      pub row_blank : T (is_free (row_at work to count r) j) → Blank (ring_in i) bitmap (row_at work at' (length (keys_of i b)) r) (start_of i b) j
      row_blank t = rw (p.keys r lr) (free_blank p.held r lr j lj (free_slots t))

      pub row_slots : slots_at (ring_in i) (start_of i b) (row_at work at' (length (keys_of i b)) r) j ≡ slots_of i b (seed_at i r j)
      row_slots = rw (p.keys r lr) (slots_are p.held r lr j lj)

      pub row_cost : Seed.cost i b (seed_at i r j) ≡ cost_at (ring_in i) i.table (row_at work at' (length (keys_of i b)) r) j
      row_cost = rw (p.keys r lr) (sym (candidate_cost i p.held.sound b p.held.inside r lr j lj))

  pub free_row : (r : ℕ) → r < layouts i.settings → FreeRow (ring_in i) work (at' + r * length (keys_of i b)) (length (keys_of i b)) (start_of i b) (to + r * count) count
  unfolding level_ring
  free_row r lr = record {
    room = omega (arith, p.room.1, row_le r (layouts i.settings) count lr);
    ended = p.ended r lr;
    unused = λ j lj e. row_unused r lr j lj (free_one (row_at work to count r) j e);
  }

  pub all_rows : AllRows (ring_in i) i.table work at' (length (keys_of i b)) (start_of i b) to count (layouts i.settings)
  all_rows = record { keys = key_row; free = free_row; room = p.room }

  -- the best rotation that passes the test, placed
  module _ (test : ℕ → ℕ → Bool)
      (only : (r j : ℕ) → r < layouts i.settings → j < ring_len i.settings → T (test r j) → T (is_free (row_at work to count r) j))
      (all : (r j : ℕ) → r < layouts i.settings → j < ring_len i.settings → T (unbarred i (at r j)) → T (fits i marked b (seed_at i r j)) → T (test r j))
      {f : Best} (found : Least.Found (λ (r : ℕ). cost_at (ring_in i) i.table (row_at work at' (length (keys_of i b)) r)) test (ring_len i.settings) (layouts i.settings) f) where
    is_free_lem : T (is_free (row_at work to count f.r) f.j)
    is_free_lem = only f.r f.j found.layout found.turn found.passes

    -- where no two keys meet it is the bucket's
    chosen : T (distinct (slots_at (ring_in i) (start_of i b) (row_at work at' (length (keys_of i b)) f.r) f.j)) → seed_for i marked b ≡ seed_at i f.r f.j
    chosen d =
        found_seed i marked b test all (λ (r : ℕ). cost_at (ring_in i) i.table (row_at work at' (length (keys_of i b)) r)) (λ r j lr lj. row_cost r lr j lj) found
        (free_open f.r found.layout f.j found.turn is_free_lem)
        (free_fits i marked b (seed_at i f.r f.j) (free_slots f.r found.layout f.j found.turn is_free_lem) (rw (row_slots f.r found.layout f.j found.turn) at d))

    module _ {work' bitmap' : List ℕ} {ok : Bool}
        (s : Settled (ring_in i) work bitmap (row_at work at' (length (keys_of i b)) f.r) (start_of i b) f.j (length (keys_of i b)) ok work' bitmap') where
      room : (ring_in i).words ≤ length work
      room = omega (arith, p.above, p.room.0)

      row_long : length (row_at work at' (length (keys_of i b)) f.r) ≡ length (keys_of i b)
      row_long = ap length (p.keys f.r found.layout) ∙ row_length p.held f.r found.layout

      no_two : ok ≡ true → T (distinct (slots_at (ring_in i) (start_of i b) (row_at work at' (length (keys_of i b)) f.r) f.j))
      unfolding level_ring
      no_two e =
          fresh_distinct (ring_in i) (shape_level i.settings p.held.sound.good) work (start_of i b) (row_at work at' (length (keys_of i b)) f.r) f.j (length (keys_of i b)) row_long room
          found.turn (key_row f.r found.layout).near (row_unused f.r found.layout f.j found.turn is_free_lem) (s.yes e).2

      -- its seed takes its slots
      seed_takes : {v : ℕ} → v ≡ seed_at i f.r f.j → takes i b v ≡ slots_of i b (seed_at i f.r f.j)
      seed_takes {v} e =
          let in' = in_candidates i f.r f.j found.layout found.turn (free_open f.r found.layout f.j found.turn is_free_lem) in
          rw e (takes_some i b (seed_at i f.r f.j) (seed_range i p.held.sound.good.ll_low (at f.r f.j) in').0)

      pub placed : {v : ℕ} (work₀ : List ℕ) → length work ≡ length work₀ → ok ≡ true → SeedIs (ring_len i.settings) (layouts i.settings) f.r f.j v
          → Searched i marked first b work₀ v bitmap' work'
      placed {v} work₀ el e is =
          let v-is : v ≡ seed_at i f.r f.j = is i refl refl in
          let seed : v ≡ seed_for i marked b = v-is ∙ sym (chosen (no_two e)) in
          let w = rw (p.keys f.r found.layout) at (s.yes e).0 in
          let m = rw (p.keys f.r found.layout) at (s.yes e).1 in
          record {
            is = seed;
            small = rw seed (seed_small p.held);
            marks = rw (m, seed_takes v-is) (marks_after p.held f.r found.layout f.j found.turn);
            caches = rw (w, m) (caches_after p.held f.r found.layout f.j found.turn room);
            len = ap length w ∙ length_marked_to (ring_in i) work (row_of i b f.r) (start_of i b) f.j (length (keys_of i b)) ∙ el;
          }

      -- where it was not placed two keys meet
      pub meets : ok ≡ false → T (not (distinct (slots_at (ring_in i) (start_of i b) (row_at work at' (length (keys_of i b)) f.r) f.j)))
      unfolding level_ring
      meets e =
          met_twice (ring_in i) (shape_level i.settings p.held.sound.good) work (start_of i b) (row_at work at' (length (keys_of i b)) f.r) f.j (length (keys_of i b)) row_long room
          found.turn (key_row f.r found.layout).near (row_unused f.r found.layout f.j found.turn is_free_lem) (s.no e).2

  -- ---- the best free rotation

  module _ {f : Best} (is : f ≡ best_rows (ring_in i) i.table work at' (length (keys_of i b)) to count (layouts i.settings)) where
    pub rows_found : f.cost ≢ 2 ^ 64 - 1
        → Least.Found (λ (r : ℕ). cost_at (ring_in i) i.table (row_at work at' (length (keys_of i b)) r)) (λ (r : ℕ). is_free (row_at work to count r)) (ring_len i.settings) (layouts i.settings) f
    unfolding best_rows level_ring
    rows_found n =
        rw is (best_found (λ (r : ℕ). cost_at (ring_in i) i.table (row_at work at' (length (keys_of i b)) r)) (λ (r : ℕ). is_free (row_at work to count r)) (ring_len i.settings) (layouts i.settings) (rw is at n))

    pub rows_zero : ((k : ℕ) → get_or i.table k 0 < 2 ^ 32) → f.cost ≡ 2 ^ 64 - 1 → seed_for i marked b ≡ 0
    unfolding best_rows level_ring
    rows_zero w e =
        none_seed i marked b (λ (r : ℕ). is_free (row_at work to count r)) (λ r j lr lj. fits_open r lr j lj) (λ r j lr lj.
        best_none (λ (r : ℕ). cost_at (ring_in i) i.table (row_at work at' (length (keys_of i b)) r)) (λ (r : ℕ). is_free (row_at work to count r)) (ring_len i.settings) (layouts i.settings) (rw is at e) r j lr lj
        (cost_lt (ring_in i) i.table (row_at work at' (length (keys_of i b)) r) j w (key_row r lr).prices.size))

    pub rows_placed : {work' bitmap' : List ℕ} {ok : Bool} {v : ℕ} (work₀ : List ℕ) → length work ≡ length work₀ → (n : f.cost ≢ 2 ^ 64 - 1)
        → Settled (ring_in i) work bitmap (row_at work at' (length (keys_of i b)) f.r) (start_of i b) f.j (length (keys_of i b)) ok work' bitmap' → ok ≡ true
        → SeedIs (ring_len i.settings) (layouts i.settings) f.r f.j v → Searched i marked first b work₀ v bitmap' work'
    rows_placed work₀ el n s e is' =
        placed (λ (r : ℕ). is_free (row_at work to count r)) (λ r j lr lj t. t) (λ r j lr lj. fits_open r lr j lj) (rows_found n) s work₀ el e is'

  -- ---- the best at which no two keys meet

  module _ {f : Best} (is : f ≡ best_distinct (ring_in i) i.table work at' (length (keys_of i b)) (start_of i b) to count (layouts i.settings)) where
    distinct_fits : (r j : ℕ) → r < layouts i.settings → j < ring_len i.settings → T (unbarred i (at r j)) → T (fits i marked b (seed_at i r j))
        → T (is_distinct (ring_in i) (start_of i b) (row_at work at' (length (keys_of i b)) r) (row_at work to count r) j)
    unfolding is_distinct
    distinct_fits r j lr lj u t =
        and_both (is_free (row_at work to count r) j) (distinct (slots_at (ring_in i) (start_of i b) (row_at work at' (length (keys_of i b)) r) j))
        (fits_open r lr j lj u t) (rw (row_slots r lr j lj) (fits_distinct i marked b (seed_at i r j) t))

    pub distinct_free : (r j : ℕ) → T (is_distinct (ring_in i) (start_of i b) (row_at work at' (length (keys_of i b)) r) (row_at work to count r) j) → T (is_free (row_at work to count r) j)
    unfolding is_distinct
    distinct_free r j t = and_left (is_free (row_at work to count r) j) (distinct (slots_at (ring_in i) (start_of i b) (row_at work at' (length (keys_of i b)) r) j)) t

    distinct_apart : (r j : ℕ) → T (is_distinct (ring_in i) (start_of i b) (row_at work at' (length (keys_of i b)) r) (row_at work to count r) j)
        → T (distinct (slots_at (ring_in i) (start_of i b) (row_at work at' (length (keys_of i b)) r) j))
    unfolding is_distinct
    distinct_apart r j t = and_right (is_free (row_at work to count r) j) (distinct (slots_at (ring_in i) (start_of i b) (row_at work at' (length (keys_of i b)) r) j)) t

    pub distinct_found : f.cost ≢ 2 ^ 64 - 1
        → Least.Found (λ (r : ℕ). cost_at (ring_in i) i.table (row_at work at' (length (keys_of i b)) r)) (λ (r : ℕ). is_distinct (ring_in i) (start_of i b) (row_at work at' (length (keys_of i b)) r) (row_at work to count r)) (ring_len i.settings) (layouts i.settings) f
    unfolding best_distinct level_ring
    distinct_found n =
        rw is (best_found (λ (r : ℕ). cost_at (ring_in i) i.table (row_at work at' (length (keys_of i b)) r)) (λ (r : ℕ). is_distinct (ring_in i) (start_of i b) (row_at work at' (length (keys_of i b)) r) (row_at work to count r)) (ring_len i.settings) (layouts i.settings) (rw is at n))

    pub distinct_zero : ((k : ℕ) → get_or i.table k 0 < 2 ^ 32) → f.cost ≡ 2 ^ 64 - 1 → seed_for i marked b ≡ 0
    unfolding best_distinct level_ring
    distinct_zero w e =
        none_seed i marked b (λ (r : ℕ). is_distinct (ring_in i) (start_of i b) (row_at work at' (length (keys_of i b)) r) (row_at work to count r)) distinct_fits (λ r j lr lj.
        best_none (λ (r : ℕ). cost_at (ring_in i) i.table (row_at work at' (length (keys_of i b)) r)) (λ (r : ℕ). is_distinct (ring_in i) (start_of i b) (row_at work at' (length (keys_of i b)) r) (row_at work to count r)) (ring_len i.settings) (layouts i.settings) (rw is at e) r j lr lj
        (cost_lt (ring_in i) i.table (row_at work at' (length (keys_of i b)) r) j w (key_row r lr).prices.size))

    -- it is placed
    pub distinct_placed : {work' bitmap' : List ℕ} {ok : Bool} {v : ℕ} (work₀ : List ℕ) → length work ≡ length work₀ → (n : f.cost ≢ 2 ^ 64 - 1)
        → Settled (ring_in i) work bitmap (row_at work at' (length (keys_of i b)) f.r) (start_of i b) f.j (length (keys_of i b)) ok work' bitmap'
        → SeedIs (ring_len i.settings) (layouts i.settings) f.r f.j v → Searched i marked first b work₀ v bitmap' work'
    distinct_placed {ok = ok} work₀ el n s is' =
        placed (λ (r : ℕ). is_distinct (ring_in i) (start_of i b) (row_at work at' (length (keys_of i b)) r) (row_at work to count r)) (λ r j lr lj t. distinct_free r j t) distinct_fits (distinct_found n) s work₀ el (yes (true_or_false ok)) is'
      where
        yes : (ok ≡ true) ⊎ (ok ≡ false) → ok ≡ true
        yes (inl e) = e
        yes (inr e) = absurd (T_not (distinct (slots_at (ring_in i) (start_of i b) (row_at work at' (length (keys_of i b)) f.r) f.j))
            (meets (λ (r : ℕ). is_distinct (ring_in i) (start_of i b) (row_at work at' (length (keys_of i b)) r) (row_at work to count r)) (λ r j lr lj t. distinct_free r j t) distinct_fits (distinct_found n) s e)
            (distinct_apart f.r f.j (distinct_found n).passes))
