-- The ranges one after the other: the next range has no bucket that was taken, what was taken through it are the orders of one range more, and after the last
-- they are the turns of the sweep. Assumes nothing.
use mathlib.Core.Path.{◌≡◌, refl, sym, ap, ◌∙◌, subst}
use mathlib.Core.Bool.{Bool, true, false, cond}
use mathlib.Core.Option.{none}
use mathlib.Core.List.{List, [], ◌∷◌, ◌++◌, append-nil}
use Prim.Native.Nat.{ℕ, suc, ◌+◌, ◌-◌, ◌*◌, ◌<◌, ◌≤◌}
use native.Mathlib.Nat.{le_trans, mul-le-mul_left}
use native.Mathlib.Omega.{arith}
use lib.IntN.{ℤ}
use lib.ListN.{length, get_or, take, drop, take-append-drop}
use lib.Seq.{take_all, take-suc}
use Rattle.rules.specs.declared.How.{How}
use Rattle.rules.specs.declared.Settings.{Settings}
use Rattle.rules.specs.Lists.{count}
use Rattle.rules.specs.Order.{Input, by_low_bits, order}
use Rattle.rules.specs.Chunks.{Range, range, chunk_gap, chunk_count, ranges_of, ranges, order_in, orders_of}
use Rattle.rules.specs.Sweep.{final_seeds, final_marks, final_bitmap, bitmap_of, fails_at}
use Rattle.rules.specs.Answers.{sweep_turns, stops_at}
use Rattle.rules.proofs.Counting.{count_append, elem_count}
use Rattle.rules.proofs.BitmapLaws.{bitmap_is}
use Rattle.rules.proofs.StopLaws.{fails_append}
use Rattle.rules.proofs.PlacedLaws.{Proper}
use Rattle.rules.proofs.ChunkLaws.{count_pos, count_room, inside_at, ranges_cover, orders_proper, orders_join}
use Rattle.geometry.specs.declared.shape.Geometry.{Geometry}
use Rattle.std.specs.Prelude.{Result, Ok, Err, ⊤}
use Rattle.sweep.specs.Sweeping.{Fresh, through, end_by, end_of, Ending, Resting, Next, Ran}
use Rattle.sweep.proofs.StartLaws.{end_some, rests_next}
use Rattle.sweep.proofs.RangeLaws.{ranges_long}

-- the turns of the first k of a list of ranges
abbrev pub up_to : Input → List Range → (k : ℕ) → List ℕ
up_to i rs k = orders_of by_low_bits i (take k rs)

module _ (i : Input) where
  -- one range more
  pub up_next : (rs : List Range) (k : ℕ) → k < length rs → up_to i rs (k + 1) ≡ through i (up_to i rs k) (get_or rs k (range 0 0)).lo (get_or rs k (range 0 0)).hi
  unfolding orders_of order_in
  up_next rs k h =
      let s : k + 1 ≡ suc k = omega arith in
      ap (up_to i rs) s ∙ ap (orders_of by_low_bits i) (take-suc rs k (range 0 0) h) ∙ orders_join by_low_bits i (take k rs) (get_or rs k (range 0 0) ∷ [])
      ∙ ap (λ (l : List ℕ). up_to i rs k ++ l) (append-nil (order_in by_low_bits i (get_or rs k (range 0 0))))

  -- what is not taken yet
  left : List Range → ℕ → List ℕ
  left rs k = orders_of by_low_bits i (drop k rs)

  up_left : (rs : List Range) (k : ℕ) → orders_of by_low_bits i rs ≡ up_to i rs k ++ left rs k
  unfolding left
  up_left rs k = ap (orders_of by_low_bits i) (sym (take-append-drop k rs)) ∙ orders_join by_low_bits i (take k rs) (drop k rs)

  pub up_all : (rs : List Range) (k : ℕ) → length rs ≤ k → up_to i rs k ≡ orders_of by_low_bits i rs
  up_all rs k h = ap (orders_of by_low_bits i) (take_all k rs h)

  -- no bucket of the next range was taken
  fresh_next : (rs : List Range) → Proper i (orders_of by_low_bits i rs) → (k : ℕ) → k < length rs → Fresh i (up_to i rs k) (get_or rs k (range 0 0)).lo (get_or rs k (range 0 0)).hi
  fresh_next rs P k h x t =
      let r = get_or rs k (range 0 0) in
      let all = ap (count x) (up_left rs (k + 1) ∙ ap (λ (l : List ℕ). l ++ left rs (k + 1)) (up_next rs k h)) in
      let a = count_append x (up_to i rs k ++ order by_low_bits i r.lo r.hi) (left rs (k + 1)) in
      let b = count_append x (up_to i rs k) (order by_low_bits i r.lo r.hi) in
      omega (arith, P.once x, elem_count x (order by_low_bits i r.lo r.hi) t)

-- ---- from range to range

module _ {i : Input} {g : Geometry} {bump : Bool} {hashes begins table : List ℕ} {weights : List ℤ} {z : ℕ} (c k : ℕ) {seeds bitmap work : List ℕ}
    (rest : Resting i g bump hashes begins table weights (up_to i (ranges i.settings c) k) z seeds bitmap work) where
  pub next_range : k < length (ranges i.settings c) → (lo hi : ℕ) → range lo hi ≡ get_or (ranges i.settings c) k (range 0 0)
      → Next i g bump hashes begins table weights (up_to i (ranges i.settings c) k) lo hi z seeds bitmap work
  next_range h lo hi e =
      let C = ranges_cover i.settings c in
      let at = inside_at i.settings.buckets (ranges i.settings c) C.inside k in
      let F = fresh_next i (ranges i.settings c) (orders_proper by_low_bits i (ranges i.settings c) C) k h in
      record {
        resting = rest;
        rises = subst (λ (r : Range). r.lo ≤ r.hi) (sym e) at.0;
        range = subst (λ (r : Range). r.hi ≤ i.settings.buckets) (sym e) at.1;
        fresh = subst (λ (r : Range). Fresh i (up_to i (ranges i.settings c) k) r.lo r.hi) (sym e) F;
      }

  -- the last range is done
  pub ran_all : (how : How) → how.bump ≡ bump → how.chunks ≡ c → length (ranges i.settings c) ≤ k → Ran i how (Ok tt) seeds bitmap
  unfolding stops_at sweep_turns final_bitmap
  ran_all how eb ec h =
      let e : up_to i (ranges i.settings c) k ≡ sweep_turns by_low_bits how.chunks i = up_all i (ranges i.settings c) k h ∙ ap (λ (n : ℕ). orders_of by_low_bits i (ranges i.settings n)) (sym ec) in
      record {
        answer = none_stopped how.bump eb e;
        swept = λ q. (
          rest.stored.seeds_are ∙ ap (final_seeds i) e,
          bitmap_is (final_marks i (up_to i (ranges i.settings c) k)) i.settings.m bitmap rest.stored.marks.len rest.stored.marks.words (λ x l. rest.stored.marks.bits x)
              ∙ ap (λ (l : List ℕ). bitmap_of i.settings.m (final_marks i l)) e,
        );
      }
    where
      none_stopped : (b : Bool) → b ≡ bump → {turns : List ℕ} → up_to i (ranges i.settings c) k ≡ turns → Ok tt ≡ end_by (cond b none (fails_at i turns))
      none_stopped true q e = refl
      none_stopped false q e = ap end_by (sym (ap (fails_at i) (sym e) ∙ rest.no_zero (sym q)))

-- a range that ended at a bucket ends the sweep
pub ran_at : {i : Input} {bump : Bool} (c k : ℕ) {lo hi b : ℕ} {r : Result ⊤ ℕ} {seeds bitmap seeds' bitmap' : List ℕ} → k < length (ranges i.settings c) → range lo hi ≡ get_or (ranges i.settings c) k (range 0 0)
    → Ending i bump (up_to i (ranges i.settings c) k) lo hi r seeds bitmap → r ≡ Err b → (how : How) → how.bump ≡ bump → how.chunks ≡ c → Ran i how (Err b) seeds' bitmap'
unfolding stops_at sweep_turns
ran_at {i} {bump} c k {lo} {hi} {b} {r} h e f at_b how eb ec = record { answer = go how.bump eb; swept = λ q. absurd (other q) }
  where
    other : Err b ≡ Ok (tt {0}) → ⊥
    other q = let z : ◌≡◌ {A = ℕ} 0 1 = cc in omega arith

    same : through i (up_to i (ranges i.settings c) k) lo hi ≡ up_to i (ranges i.settings c) (k + 1)
    same = ap (λ (r : Range). through i (up_to i (ranges i.settings c) k) r.lo r.hi) e ∙ sym (up_next i (ranges i.settings c) k h)

    go : (t : Bool) → t ≡ bump → Err b ≡ end_by (cond t none (fails_at i (orders_of by_low_bits i (ranges i.settings how.chunks))))
    go true q = absurd (other (sym at_b ∙ f.answer ∙ ap (λ (u : Bool). end_of u i (through i (up_to i (ranges i.settings c) k) lo hi)) (sym q)))
    go false q =
        let at : Err b ≡ end_by (fails_at i (through i (up_to i (ranges i.settings c) k) lo hi)) = sym at_b ∙ f.answer ∙ ap (λ (u : Bool). end_of u i (through i (up_to i (ranges i.settings c) k) lo hi)) (sym q) in
        let fails = ap (fails_at i) (sym same) ∙ end_some (fails_at i (through i (up_to i (ranges i.settings c) k) lo hi)) b at in
        ap end_by (sym (ap (λ (n : ℕ). fails_at i (orders_of by_low_bits i (ranges i.settings n))) ec ∙ ap (fails_at i) (up_left i (ranges i.settings c) (k + 1)) ∙ fails_append i (up_to i (ranges i.settings c) (k + 1)) (left i (ranges i.settings c) (k + 1)) b fails))

-- ---- by the code's numbers

module _ (i : Input) (g : Geometry) (same : g.settings ≡ i.settings) (n c : ℕ) (e : n ≡ chunk_count g.settings c) where
  spans_are : ranges_of g.settings n ≡ ranges i.settings c
  unfolding ranges
  spans_are = ap (ranges_of g.settings) e ∙ ap (λ (s : Settings). ranges_of s (chunk_count s c)) same

  pub span_is : (k lo hi : ℕ) → range lo hi ≡ get_or (ranges_of g.settings n) k (range 0 0) → range lo hi ≡ get_or (ranges i.settings c) k (range 0 0)
  span_is k lo hi f = f ∙ ap (λ (rs : List Range). get_or rs k (range 0 0)) spans_are

  pub span_count : length (ranges i.settings c) ≡ 2 * n - 1
  span_count = ap length (sym spans_are) ∙ ranges_long g.settings n (omega (arith, e, count_pos g.settings c))

  pub span_room : (gap : ℕ) → gap ≡ chunk_gap g.settings → 1 < n → n * gap ≤ g.settings.buckets
  span_room gap eg h =
      let room : n * (64 * chunk_gap g.settings) ≤ g.settings.buckets = subst (λ (x : ℕ). 1 < x → x * (64 * chunk_gap g.settings) ≤ g.settings.buckets) (sym e) (count_room g.settings c) h in
      le_trans (mul-le-mul_left n (omega arith)) room

-- the turns through range k are those of one range more
pub through_next : (i : Input) (c k lo hi : ℕ) → k < length (ranges i.settings c) → range lo hi ≡ get_or (ranges i.settings c) k (range 0 0)
    → through i (up_to i (ranges i.settings c) k) lo hi ≡ up_to i (ranges i.settings c) (k + 1)
through_next i c k lo hi h e = ap (λ (r : Range). through i (up_to i (ranges i.settings c) k) r.lo r.hi) e ∙ sym (up_next i (ranges i.settings c) k h)

-- before the first range
pub rests_first : {i : Input} {g : Geometry} {bump : Bool} {hashes begins table : List ℕ} {weights : List ℤ} {z : ℕ} {seeds bitmap work : List ℕ} (c : ℕ)
    → Resting i g bump hashes begins table weights [] z seeds bitmap work → Resting i g bump hashes begins table weights (up_to i (ranges i.settings c) 0) z seeds bitmap work
unfolding orders_of
rests_first c r = r

-- one range more
pub rests_more : {i : Input} {g : Geometry} {bump : Bool} {hashes begins table : List ℕ} {weights : List ℤ} {z : ℕ} (c k : ℕ) {lo hi : ℕ} {seeds bitmap work : List ℕ}
    → k < length (ranges i.settings c) → range lo hi ≡ get_or (ranges i.settings c) k (range 0 0)
    → Next i g bump hashes begins table weights (up_to i (ranges i.settings c) k) lo hi z seeds bitmap work
    → {r : Result ⊤ ℕ} {seeds' bitmap' work' : List ℕ} → Ending i bump (up_to i (ranges i.settings c) k) lo hi r seeds' bitmap' → r ≡ Ok tt → length work' ≡ length work
    → Resting i g bump hashes begins table weights (up_to i (ranges i.settings c) (k + 1)) z seeds' bitmap' work'
rests_more {i} {g} {bump} {hashes} {begins} {table} {weights} {z} c k {lo} {hi} h e n {r} {seeds'} {bitmap'} {work'} f all l =
    subst (λ (pre : List ℕ). Resting i g bump hashes begins table weights pre z seeds' bitmap' work') (through_next i c k lo hi h e) (rests_next n f all l)
