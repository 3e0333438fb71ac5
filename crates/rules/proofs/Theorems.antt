-- What is promised of a sweep that no check refuses, in one place. `swept`: the order, each bucket at its turn, and where the keys are. `stopped`:
-- the same of a sweep refused by 14, up to and with the bucket named, before the clearing. Each part is a law of the file of its subject; here they are
-- put together with no hypothesis but "not refused" and that the hashes are 64-bit numbers. Assumes nothing.
use mathlib.Core.Path.{◌≡◌, sym, ap, ◌∙◌, subst}
use mathlib.Core.Logic.{◌⊎◌, inl, inr, ◌≢◌}
use mathlib.Core.Bool.{not}
use mathlib.Core.List.{List, [], ◌∷◌, ◌++◌, map, append_assoc}
use mathlib.Core.Option.{some}
use Prim.Native.Nat.{ℕ, ◌+◌, ◌-◌, ◌^◌, ◌<◌, ◌≤◌}
use native.Mathlib.Nat.{le_trans}
use native.Mathlib.Omega.{arith}
use lib.Dec.{T, not_T, eqb, eqb→eq, lit≤}
use lib.ListN.{length, get_or}
use Rattle.words.specs.Map.{Words}
use Rattle.rules.specs.declared.How.{How}
use Rattle.rules.specs.Lists.{elem, count, indicator}
use Rattle.rules.specs.Geometry.{position, first, ring_len, rotations}
use Rattle.rules.specs.Order.{Input, Tie, by_low_bits, goes_first, has_keys, nonempty, order, keys_of}
use Rattle.rules.specs.Chunks.{Range, chunk_count, ranges, orders_of}
use Rattle.rules.specs.Seed.{fits, cost, seed_for, slots_of}
use Rattle.rules.specs.Sweep.{given, final_seeds, final_marks, fails_at}
use Rattle.rules.specs.Numbers.{Lent, first_of, sweep_lines}
use Rattle.rules.specs.Answers.{sweep_turns, stops_at}
use Rattle.rules.specs.Good.{Sound}
use Rattle.rules.proofs.Tests.{split, eq→eqb}
use Rattle.rules.proofs.Counting.{ind_true, ind_false, count_elem, not_elem_count}
use Rattle.rules.proofs.Sums.{Same}
use Rattle.rules.proofs.GeometryLaws.{position_lt, ring_le, entry_lt}
use Rattle.rules.proofs.TurnLaws.{nonempty_once, nonempty_empty}
use Rattle.rules.proofs.TurnUnique.{Apart, apart_low}
use Rattle.rules.proofs.SeedLaws.{fits_distinct, seed_least, seed_none, none_seed}
use Rattle.rules.proofs.SweepLaws.{Turn, turn_of, no_turn}
use Rattle.rules.proofs.HoleLaws.{distinct_once}
use Rattle.rules.proofs.PlacedLaws.{Proper, Placement, placement, proper_before}
use Rattle.rules.proofs.ChunkLaws.{FollowsEach, count_one, one_range, orders_one, ranges_cover, orders_same, orders_proper, orders_follow, orders_only}
use Rattle.rules.proofs.Alone.{chunks_then_gaps, as_level}
use Rattle.rules.proofs.AnswerLaws.{stops_fails}
use Rattle.rules.proofs.StopLaws.{FirstZero, first_some, first_none}
use Rattle.rules.proofs.InputLaws.{passes}

-- ---- the geometry of a sweep that was not refused

pub record Shaped (i : Input) : Type 0 where
  -- every position lies below m
  pub positions : (v h : ℕ) → h < 2 ^ 64 → position i.settings v h < i.settings.m
  -- always n ≤ R
  pub ring : ring_len i.settings ≤ rotations i.settings
  -- the table has an entry for each position of a key, and the difference that names it does not fall below 0
  pub index : (b : ℕ) → b < i.settings.buckets → (h : ℕ) → T (elem h (keys_of i b)) → (v : ℕ)
      → (first i.settings b ≤ position i.settings v h) × (position i.settings v h - first i.settings b + 95 < length i.table)

pub shaped : (i : Input) → Sound i → Shaped i
shaped i S = record {
  positions = λ v h lt. position_lt i.settings v h S.good.m_low lt;
  ring = ring_le i.settings (omega (arith, S.good.ll_low));
  index = λ b hb h t v.
      let e = entry_lt i.settings (omega arith) b h (S.grouped.home b hb h t) v hb (le_trans S.good.buckets_high (lit≤ tt)) in
      (e.0, le_trans e.1 S.priced.enough);
}

-- ---- two equal hashes in one bucket give 0

count_map : (f : ℕ → ℕ) (x : ℕ) (xs : List ℕ) → count x xs ≤ count (f x) (map f xs)
count_map f x [] = omega arith
count_map f x (y ∷ ys) = go (split (eqb x y)) (count_map f x ys)
  where
    go : T (eqb x y) ⊎ T (not (eqb x y)) → count x ys ≤ count (f x) (map f ys) → indicator (eqb x y) + count x ys ≤ indicator (eqb (f x) (f y)) + count (f x) (map f ys)
    go (inl e) ih = omega (arith, ind_true (eqb x y) e, ind_true (eqb (f x) (f y)) (eq→eqb (f x) (f y) (ap f (eqb→eq x y e))))
    go (inr n) ih = omega (arith, ind_false (eqb x y) n)

pub twice_none : (i : Input) (marked : List ℕ) (b h : ℕ) → 2 ≤ count h (keys_of i b) → (v : ℕ) → T (not (fits i marked b v))
unfolding slots_of
twice_none i marked b h two v = not_T (fits i marked b v) (λ t.
    let once = distinct_once (slots_of i b v) (fits_distinct i marked b v t) (position i.settings v h) in
    let more = count_map (position i.settings v) h (keys_of i b) in
    omega arith)

pub twice_zero : (i : Input) → i.settings.ll < i.settings.sb → (marked : List ℕ) (b h : ℕ) → 2 ≤ count h (keys_of i b) → seed_for i marked b ≡ 0
twice_zero i ok marked b h two = none_seed i marked b ok (λ v ne lt. twice_none i marked b h two v)

-- ---- one bucket of a list of turns

-- at its turn, the marked slots are exactly those of the keys placed before it. It got 0 exactly where no nonzero seed below 2^sb puts its keys on
-- distinct free slots; any other seed that it got does so itself, and none of those costs less
pub record Served (i : Input) (turns : List ℕ) (b : ℕ) : Type 0 where
  pub turn : Turn i turns b
  pub so_far : Placement i turn.before
  pub fit : get_or (final_seeds i turns) b 0 ≢ 0 → (get_or (final_seeds i turns) b 0 < 2 ^ i.settings.sb) × T (fits i (final_marks i turn.before) b (get_or (final_seeds i turns) b 0))
  pub least : get_or (final_seeds i turns) b 0 ≢ 0 → (v : ℕ) → v ≢ 0 → v < 2 ^ i.settings.sb → T (fits i (final_marks i turn.before) b v)
      → cost i b (get_or (final_seeds i turns) b 0) ≤ cost i b v
  pub zero_none : get_or (final_seeds i turns) b 0 ≡ 0 → (v : ℕ) → v ≢ 0 → v < 2 ^ i.settings.sb → T (not (fits i (final_marks i turn.before) b v))
  pub none_zero : ((v : ℕ) → v ≢ 0 → v < 2 ^ i.settings.sb → T (not (fits i (final_marks i turn.before) b v))) → get_or (final_seeds i turns) b 0 ≡ 0

pub served : (i : Input) → Sound i → Words i.hashes → (turns : List ℕ) → Proper i turns → (b : ℕ) → T (elem b turns) → Served i turns b
served i S w turns P b k =
    let t = turn_of i turns b (P.inside b k) k in
    let marked = final_marks i t.before in
    let ok = S.good.ll_low in
    record {
      turn = t;
      so_far = placement i S w t.before (proper_before i t.before (b ∷ t.after) (subst (Proper i) t.ordered P));
      fit = λ ne. let c = seed_least i marked b ok (λ z. ne (t.seed ∙ z)) in rw t.seed (c.below_all, c.fit);
      least = λ ne. let c = seed_least i marked b ok (λ z. ne (t.seed ∙ z)) in rw t.seed c.least;
      zero_none = λ e. seed_none i marked b ok (sym t.seed ∙ e);
      none_zero = λ h. t.seed ∙ none_seed i marked b ok h;
    }

-- ---- a sweep that was not refused

pub record Swept (tie : Tie) (chunks : ℕ) (i : Input) : Type 0 where
  pub shape : Shaped i
  -- the order has each nonempty bucket once and no other; in each range it follows rule W, and nothing else does
  pub permutes : Same (sweep_turns tie chunks i) (nonempty i 0 i.settings.buckets)
  pub follows : FollowsEach (goes_first tie i) i (ranges i.settings chunks) (sweep_turns tie chunks i)
  pub only : (ord : List ℕ) → FollowsEach (goes_first tie i) i (ranges i.settings chunks) ord → ord ≡ sweep_turns tie chunks i
  -- its seeds are those of the chunks, each swept from no slot marked, and of the gaps, each from what the chunks marked
  pub level : given i [] (sweep_turns tie chunks i) ≡ chunks_then_gaps tie chunks i
  -- each nonempty bucket at its turn; an empty one is never taken and its seed is 0
  pub each : (b : ℕ) → b < i.settings.buckets → T (has_keys i b) → Served i (sweep_turns tie chunks i) b
  pub empty : (b : ℕ) → b < i.settings.buckets → T (not (has_keys i b)) → get_or (final_seeds i (sweep_turns tie chunks i)) b 0 ≡ 0
  pub twice : (b h : ℕ) → b < i.settings.buckets → 2 ≤ count h (keys_of i b) → get_or (final_seeds i (sweep_turns tie chunks i)) b 0 ≡ 0
  -- where the keys are
  pub placed : Placement i (sweep_turns tie chunks i)

module _ (tie : Tie) (how : How) (i : Input) where
  abbrev parts : List Range
  parts = ranges i.settings how.chunks

  abbrev taken : List ℕ
  taken = sweep_turns tie how.chunks i

  -- each nonempty bucket once and no other
  pub turns_permuted : Same taken (nonempty i 0 i.settings.buckets)
  unfolding sweep_turns
  turns_permuted = orders_same tie i i.settings.buckets parts (ranges_cover i.settings how.chunks)

  pub turns_proper : Proper i taken
  unfolding sweep_turns
  turns_proper = orders_proper tie i parts (ranges_cover i.settings how.chunks)

  module _ (lent : Lent) (fine : first_of (sweep_lines how i lent) ≡ 0) (w : Words i.hashes) where
    sound : Sound i
    sound = (passes i how lent fine).sound

    pub swept : Apart (goes_first tie i) → Swept tie how.chunks i
    unfolding sweep_turns
    swept A = record {
      shape = shaped i sound;
      permutes = turns_permuted;
      follows = orders_follow tie i parts;
      only = orders_only tie i A parts;
      level = as_level tie how.chunks i sound.good sound.grouped;
      each = λ b h k. served i sound w taken turns_proper b (count_elem b taken (omega (arith, turns_permuted b, nonempty_once i 0 i.settings.buckets b (omega arith) h k)));
      empty = λ b h k. no_turn i taken b h (turns_permuted b ∙ nonempty_empty i 0 i.settings.buckets b k);
      twice = λ b h l two. equal b h l two (split (elem b taken));
      placed = placement i sound w taken turns_proper;
    }
      where
        equal : (b h : ℕ) → b < i.settings.buckets → 2 ≤ count h (keys_of i b) → T (elem b taken) ⊎ T (not (elem b taken)) → get_or (final_seeds i taken) b 0 ≡ 0
        equal b h l two (inl t) = let s = served i sound w taken turns_proper b t in s.none_zero (λ v ne lt. twice_none i (final_marks i s.turn.before) b h two v)
        equal b h l two (inr t) = no_turn i taken b l (not_elem_count b taken t)

-- ---- a sweep that 14 refused: bumping is forbidden and bucket b, the first in turn, gets 0

pub record Stopped (tie : Tie) (chunks : ℕ) (i : Input) (b : ℕ) : Type 0 where
  pub before : List ℕ
  pub after : List ℕ
  pub ordered : sweep_turns tie chunks i ≡ before ++ b ∷ after
  -- each bucket up to and with b, at its turn
  pub each : (c : ℕ) → T (elem c (before ++ b ∷ [])) → Served i (before ++ b ∷ []) c
  -- those before b got a seed that is not 0, and b got 0
  pub passed : (pre : List ℕ) (c : ℕ) (post : List ℕ) → before ≡ pre ++ c ∷ post → seed_for i (final_marks i pre) c ≢ 0
  pub refused : seed_for i (final_marks i before) b ≡ 0
  -- where the keys were before the clearing
  pub placed : Placement i (before ++ b ∷ [])

pub stopped : (tie : Tie) (how : How) (i : Input) (lent : Lent) → first_of (sweep_lines how i lent) ≡ 0 → Words i.hashes → (b : ℕ) → stops_at tie how i ≡ some b → Stopped tie how.chunks i b
unfolding fails_at final_marks
stopped tie how i lent fine w b e = record {
  before = z.before;
  after = z.after;
  ordered = z.ordered;
  each = λ c t. served i (sound tie how i lent fine w) w (z.before ++ b ∷ []) before_it c t;
  passed = first_none i z.before [] z.none_before;
  refused = z.gets_zero;
  placed = placement i (sound tie how i lent fine w) w (z.before ++ b ∷ []) before_it;
}
  where
    z : FirstZero i [] (sweep_turns tie how.chunks i) b
    z = first_some i (sweep_turns tie how.chunks i) [] b (stops_fails tie how i b e)

    before_it : Proper i (z.before ++ b ∷ [])
    before_it = proper_before i (z.before ++ b ∷ []) z.after (subst (Proper i) (z.ordered ∙ sym (append_assoc z.before (b ∷ []) z.after)) (turns_proper tie how i))

-- ---- document 01's rule for ties

pub swept_low : (how : How) (i : Input) (lent : Lent) → first_of (sweep_lines how i lent) ≡ 0 → Words i.hashes → Swept by_low_bits how.chunks i
swept_low how i lent fine w = swept by_low_bits how i lent fine w (apart_low i)

-- ---- one chunk, asked for or all that the level is long enough for: the order of the whole range

pub one_chunk : (tie : Tie) (c : ℕ) (i : Input) → chunk_count i.settings c ≡ 1 → sweep_turns tie c i ≡ order tie i 0 i.settings.buckets
unfolding sweep_turns
one_chunk tie c i e = ap (orders_of tie i) (one_range i.settings c e) ∙ orders_one tie i 0 i.settings.buckets

pub as_before : (tie : Tie) (i : Input) → sweep_turns tie 1 i ≡ order tie i 0 i.settings.buckets
as_before tie i = one_chunk tie 1 i (count_one i.settings)
