-- The ends of a search in the code's terms, and that sorting in the words between `mid` and `to` leaves the rest as it was laid out. Assumes nothing.
use Rattle.std.specs.Prelude.{◌≡◌, ◌≢◌, Bool, true, not, List, ℕ, ◌+◌, ◌-◌, ◌*◌, ◌^◌, ◌≤◌, ◌<◌, length, get_or, take, drop}
use Rattle.std.proofs.Common.{sym, ap, ◌∙◌, arith, drop-drop}
use Rattle.std.proofs.Math.Pow.{pow_mono}
use borrow.Rule.Slice.PartMut.{mid_of, put_mid, mid_len, same_len_mid, take_put, drop_put}
use Rattle.rules.specs.Lists.{distinct}
use Rattle.rules.specs.Geometry as G
use Rattle.rules.specs.Order.{Input, keys_of}
use Rattle.rules.proofs.Tests.{of_true}
use Rattle.rings.specs.declared.Ring.{Ring}
use Rattle.rings.specs.RingLaws.{n_le}
use Rattle.rings.specs.Place.{InMap}
use Rattle.rings.specs.Parts.{part, front_same, part_same}
use Rattle.rings.specs.CacheLaws.{caches_front}
use Rattle.rings.specs.Level.{level_ring}
use Rattle.rings.specs.LevelLaws.{shape_level}
use Rattle.best.specs.declared.Best.{Best}
use Rattle.best.specs.Layouts.{row_le}
use Rattle.search.specs.Rows.{row_at, best_rows}
use Rattle.search.specs.Distinct.{best_distinct, AllRows}
use Rattle.search.specs.Settle.{Settling, Blank, Settled, SeedIs}
use Rattle.search.specs.Chosen.{twins_seed}
use Rattle.search.specs.Searching.{Searched}
use Rattle.search.specs.WorkMap.{Prepared, Laid}
use Rattle.search.specs.PreparedLaws.{zero_seed, all_rows, row_in, row_blank, distinct_free, rows_found, rows_zero, rows_placed, distinct_found, distinct_zero, distinct_placed}

-- ---- the words from mid to to overwritten

pub record Aside (mid to : ℕ) (work work' : List ℕ) : Type 0 where
  pub front : take mid work' ≡ take mid work
  pub back : drop to work' ≡ drop to work
  pub len : length work' ≡ length work

-- a part `&mut work[mid..to]` of the code, given back
pub aside_put : (mid to : ℕ) (work run : List ℕ) → mid ≤ to → to ≤ length work → length run ≡ length (mid_of mid (to - mid) work) → Aside mid to work (put_mid mid (to - mid) work run)
aside_put mid to work run h l e = record {
  front = take_put mid (to - mid) work run (omega arith);
  back = drop_put mid to work run h l (e ∙ mid_len mid to work l);
  len = same_len_mid mid (to - mid) work run e;
}

behind : (l l' : List ℕ) (to k size : ℕ) → drop to l ≡ drop to l' → part l (to + k) size ≡ part l' (to + k) size
behind l l' to k size e = ap (take size) (sym (drop-drop k to l) ∙ ap (drop k) e ∙ drop-drop k to l')

module _ {i : Input} {marked : List ℕ} {first b : ℕ} {bitmap work : List ℕ} {at to count : ℕ} (p : Prepared i marked first b bitmap work at to count) where
  prepared_aside : {mid : ℕ} {work' : List ℕ} → at + G.layouts i.settings * length (keys_of i b) ≤ mid → Aside mid to work work' → Prepared i marked first b bitmap work' at to count
  prepared_aside {mid} {work'} below a = record {
    held = record {
      sound = p.held.sound;
      inside = p.held.inside;
      near = p.held.near;
      marks = p.held.marks;
      caches = caches_front (shape_level i.settings p.held.sound.good) work' (front_same work' work mid (level_ring i.settings).words (omega (arith, p.above)) a.front) p.held.caches;
    };
    keys = λ r lr.
        part_same work' work mid (at + r * length (keys_of i b)) (length (keys_of i b)) (omega (arith, row_le r (G.layouts i.settings) (length (keys_of i b)) lr)) a.len a.front ∙ p.keys r lr;
    free = λ r j lr lj. rw (behind work' work to (r * count) count a.back) (p.free r j lr lj);
    ended = λ r lr. rw (behind work' work to (r * count) count a.back) (p.ended r lr);
    above = p.above;
    room = rw a.len p.room;
  }

-- ---- the ends

module _ {i : Input} {marked : List ℕ} {first b : ℕ} {ring : Ring} {layouts : ℕ} {table keys : List ℕ} {start at mid to count : ℕ} {bitmap work : List ℕ}
    (d : Laid i marked first b ring layouts table keys start at mid to count bitmap work) where
  pub laid_aside : {work' : List ℕ} → Aside mid to work work' → Laid i marked first b ring layouts table keys start at mid to count bitmap work'
  laid_aside a = record {
    prepared = prepared_aside d.prepared (rw (d.all, d.hashes) at d.below) a;
    level = d.level;
    all = d.all;
    prices = d.prices;
    hashes = d.hashes;
    begin = d.begin;
    below = d.below;
    room = d.room;
  }

  pub laid_long : to + layouts * count ≤ length work
  laid_long = rw d.all d.prepared.room.1

  -- the words from mid to to, lent and given back
  pub laid_aside_put : (run : List ℕ) → length run ≡ length (mid_of mid (to - mid) work) → Aside mid to work (put_mid mid (to - mid) work run)
  laid_aside_put run e = aside_put mid to work run (omega (arith, d.room)) (omega (arith, laid_long)) e

  pub laid_sorted : (run : List ℕ) → length run ≡ length (mid_of mid (to - mid) work) → Laid i marked first b ring layouts table keys start at mid to count bitmap (put_mid mid (to - mid) work run)
  laid_sorted run e = laid_aside (laid_aside_put run e)

  pub laid_rows : AllRows ring table work at (length keys) start to count layouts
  laid_rows = rw (d.level, d.prices, d.hashes, d.begin, d.all) (all_rows d.prepared)

  pub laid_map : (r : ℕ) → r < layouts → (j : ℕ) → InMap ring (row_at work at (length keys) r) start j (length bitmap)
  laid_map r lr j = rw (d.level, d.hashes, d.begin) (row_in d.prepared r (rw d.all at lr) j)

  pub laid_settling : (r j : ℕ) → r < layouts → j < ring.n → Settling ring work (at + r * length keys) (length keys) start j bitmap
  laid_settling r j lr lj = let k = laid_rows.keys r lr in record {
    shape = k.shape;
    above = k.above;
    room = k.room;
    keys = k.keys;
    begin = k.begin;
    small = omega (arith, n_le ring k.shape);
    inside = laid_map r lr j;
  }

  pub laid_few : layouts ≤ 64
  unfolding G.layouts
  laid_few =
      let p : 2 ^ i.settings.ll ≤ 2 ^ 6 = pow_mono d.prepared.held.sound.good.ll_high in
      rw d.all p

  -- two hashes are equal
  pub laid_twins : {same : Bool} (work₀ : List ℕ) → length work ≡ length work₀ → same ≡ not (distinct keys) → same ≡ true → Searched i marked first b work₀ 0 bitmap work
  laid_twins work₀ el e t =
      zero_seed d.prepared.held work₀ el (twins_seed i marked b (rw d.hashes at (of_true (sym e ∙ t))))

  -- the best free rotation
  module _ {f : Best} (is : f ≡ best_rows ring table work at (length keys) to count layouts) where
    rows_are : f ≡ best_rows (level_ring i.settings) i.table work at (length (keys_of i b)) to count (G.layouts i.settings)
    rows_are = rw (d.level, d.prices, d.hashes, d.all) at is

    pub best_in : f.cost ≢ 2 ^ 64 - 1 → (f.r < layouts) × (f.j < ring.n)
    unfolding level_ring
    best_in n = let g = rows_found d.prepared rows_are n in rw (d.level, d.all) (g.layout, g.turn)

    pub best_blank : f.cost ≢ 2 ^ 64 - 1 → Blank ring bitmap (row_at work at (length keys) f.r) start f.j
    best_blank n =
        let g = rows_found d.prepared rows_are n in
        rw (d.level, d.hashes, d.begin) (row_blank d.prepared f.r g.layout f.j g.turn g.passes)

    pub best_zero : (work₀ : List ℕ) → length work ≡ length work₀ → ((k : ℕ) → get_or table k 0 < 2 ^ 32) → f.cost ≡ 2 ^ 64 - 1 → Searched i marked first b work₀ 0 bitmap work
    best_zero work₀ el w e = zero_seed d.prepared.held work₀ el (rows_zero d.prepared rows_are (rw d.prices at w) e)

    pub best_placed : {work' bitmap' : List ℕ} {ok : Bool} {v : ℕ} (work₀ : List ℕ) → length work ≡ length work₀ → f.cost ≢ 2 ^ 64 - 1
        → Settled ring work bitmap (row_at work at (length keys) f.r) start f.j (length keys) ok work' bitmap' → ok ≡ true → SeedIs ring.n layouts f.r f.j v
        → Searched i marked first b work₀ v bitmap' work'
    unfolding level_ring
    best_placed work₀ el n s e v = rows_placed d.prepared rows_are work₀ el n (rw (d.level, d.hashes, d.begin) at s) e (rw (d.level, d.all) at v)

  -- the best at which no two keys meet
  module _ {f : Best} (is : f ≡ best_distinct ring table work at (length keys) start to count layouts) where
    apart_are : f ≡ best_distinct (level_ring i.settings) i.table work at (length (keys_of i b)) (G.first i.settings b) to count (G.layouts i.settings)
    apart_are = rw (d.level, d.prices, d.hashes, d.begin, d.all) at is

    pub apart_in : f.cost ≢ 2 ^ 64 - 1 → (f.r < layouts) × (f.j < ring.n)
    unfolding level_ring
    apart_in n = let g = distinct_found d.prepared apart_are n in rw (d.level, d.all) (g.layout, g.turn)

    pub apart_blank : f.cost ≢ 2 ^ 64 - 1 → Blank ring bitmap (row_at work at (length keys) f.r) start f.j
    apart_blank n =
        let g = distinct_found d.prepared apart_are n in
        rw (d.level, d.hashes, d.begin) (row_blank d.prepared f.r g.layout f.j g.turn (distinct_free d.prepared apart_are f.r f.j g.passes))

    pub apart_zero : (work₀ : List ℕ) → length work ≡ length work₀ → ((k : ℕ) → get_or table k 0 < 2 ^ 32) → f.cost ≡ 2 ^ 64 - 1 → Searched i marked first b work₀ 0 bitmap work
    apart_zero work₀ el w e = zero_seed d.prepared.held work₀ el (distinct_zero d.prepared apart_are (rw d.prices at w) e)

    pub apart_placed : {work' bitmap' : List ℕ} {ok : Bool} {v : ℕ} (work₀ : List ℕ) → length work ≡ length work₀ → f.cost ≢ 2 ^ 64 - 1
        → Settled ring work bitmap (row_at work at (length keys) f.r) start f.j (length keys) ok work' bitmap' → SeedIs ring.n layouts f.r f.j v
        → Searched i marked first b work₀ v bitmap' work'
    unfolding level_ring
    apart_placed work₀ el n s v = distinct_placed d.prepared apart_are work₀ el n (rw (d.level, d.hashes, d.begin) at s) (rw (d.level, d.all) at v)
