-- The ranges of a sweep in chunks cover each bucket once: between two bounds lie a short chunk and its gap, and the last chunk ends at the last bucket. So
-- the turns have each nonempty bucket once and no other, and one chunk is the whole range. Assumes nothing.
use mathlib.Core.Path.{◌≡◌, refl, sym, ap, ap₂, ◌∙◌}
use mathlib.Core.Logic.{◌⊎◌, inl, inr}
use mathlib.Core.Bool.{Bool, not}
use mathlib.Core.List.{List, [], ◌∷◌, ◌++◌, map, append-nil, append_assoc}
use Prim.Native.Nat.{ℕ, zero, suc, ◌+◌, ◌-◌, ◌*◌, ◌/◌, ◌≤◌, ◌<◌, max}
use native.Mathlib.Nat.{mul-div_cancel_left, add-zero, zero-add, zero-mul, zero-div, le-div_iff_mul-le, mul-le-mul_left, mul-le-mul_right, le_trans}
use native.Mathlib.Omega.{arith}
use lib.Dec.{T, ltb, ltb→lt, nltb→le}
use lib.ListN.{get_or}
use Rattle.integers.specs.Division.{div_bounds, div_mono}
use Rattle.rules.specs.declared.Settings.{Settings}
use Rattle.rules.specs.Lists.{below, between, count_from, count, total}
use Rattle.rules.specs.Order.{Input, Tie, goes_first, order, nonempty, has_keys}
use Rattle.rules.specs.Chunks.{Range, range, chunk_gap, chunk_count, bound, short_chunk, last_chunk, gap_chunk, ranges_of, ranges, order_in, orders_of}
use Rattle.rules.proofs.Tests.{split}
use Rattle.rules.proofs.Counting.{count_append, count_filter_in, count_filter_out, count_from_in, count_from_low, count_from_high, count_elem, elem_count}
use Rattle.rules.proofs.Sums.{Same}
use Rattle.rules.proofs.TurnLaws.{order_count}
use Rattle.rules.proofs.TurnUnique.{Follows, Apart, order_follows, order_only}
use Rattle.rules.proofs.PlacedLaws.{Proper, order_proper}

-- ---- two ranges that meet

-- how often x stands between lo and hi: once where lo ≤ x < hi, else never
between_in : (x lo hi : ℕ) → lo ≤ x → x < hi → count x (between lo hi) ≡ 1
between_in x lo hi l h = count_from_in x lo (hi - lo) l (omega arith)

between_low : (x lo hi : ℕ) → x < lo → count x (between lo hi) ≡ 0
between_low x lo hi h = count_from_low x lo (hi - lo) h

between_high : (x lo hi : ℕ) → lo ≤ x → hi ≤ x → count x (between lo hi) ≡ 0
between_high x lo hi l h = count_from_high x lo (hi - lo) (omega arith)

pub between_join : (x a b c : ℕ) → a ≤ b → b ≤ c → count x (between a b) + count x (between b c) ≡ count x (between a c)
between_join x a b c ab bc = go (split (ltb x a)) (split (ltb x b)) (split (ltb x c))
  where
    go : T (ltb x a) ⊎ T (not (ltb x a)) → T (ltb x b) ⊎ T (not (ltb x b)) → T (ltb x c) ⊎ T (not (ltb x c)) → count x (between a b) + count x (between b c) ≡ count x (between a c)
    go (inl p) q r = let h = ltb→lt x a p in omega (arith, between_low x a b h, between_low x b c (omega arith), between_low x a c h)
    go (inr p) (inl q) r =
        let k = nltb→le x a p in
        let h = ltb→lt x b q in
        omega (arith, between_in x a b k h, between_low x b c h, between_in x a c k (omega arith))
    go (inr p) (inr q) (inl r) =
        let k = nltb→le x a p in
        let j = nltb→le x b q in
        let h = ltb→lt x c r in
        omega (arith, between_high x a b k j, between_in x b c j h, between_in x a c k h)
    go (inr p) (inr q) (inr r) =
        let k = nltb→le x a p in
        let j = nltb→le x b q in
        let h = nltb→le x c r in
        omega (arith, between_high x a b k j, between_high x b c j h, between_high x a c k h)

-- ---- lists of ranges

-- how often x stands in a range
abbrev pub within : (x : ℕ) → Range → ℕ
within x r = count x (between r.lo r.hi)

total_join : (f : Range → ℕ) (xs ys : List Range) → total f (xs ++ ys) ≡ total f xs + total f ys
total_join f [] ys = omega arith
total_join f (x ∷ xs) ys = omega (arith, total_join f xs ys)

-- each range lies among the buckets below n
abbrev pub Inside : (n : ℕ) → List Range → Type 0
Inside n [] = Unit {0}
Inside n (r ∷ rs) = (r.lo ≤ r.hi) × (r.hi ≤ n) × Inside n rs

pub inside_join : (n : ℕ) (xs ys : List Range) → Inside n xs → Inside n ys → Inside n (xs ++ ys)
inside_join n [] ys h k = k
inside_join n (x ∷ xs) ys h k = (h.0, h.1, inside_join n xs ys h.2 k)

pub inside_at : (n : ℕ) (rs : List Range) → Inside n rs → (k : ℕ) → ((get_or rs k (range 0 0)).lo ≤ (get_or rs k (range 0 0)).hi) × ((get_or rs k (range 0 0)).hi ≤ n)
inside_at n [] h k = (omega arith, omega arith)
inside_at n (r ∷ rs) h zero = (h.0, h.1)
inside_at n (r ∷ rs) h (suc k) = inside_at n rs h.2 k

-- the ranges cover the buckets below n, each once
pub record Covers (n : ℕ) (rs : List Range) : Type 0 where
  pub once : (x : ℕ) → total (within x) rs ≡ count x (between 0 n)
  pub inside : Inside n rs

module _ (s : Settings) where
  -- ---- the bounds

  pub count_pos : (c : ℕ) → 1 ≤ chunk_count s c
  unfolding chunk_count
  count_pos c = omega arith

  -- more than one chunk: they are longer than the gap
  pub count_room : (c : ℕ) → 1 < chunk_count s c → chunk_count s c * (64 * chunk_gap s) ≤ s.buckets
  unfolding chunk_count
  count_room c h =
      let n : ℕ = chunk_count s c in
      let d : ℕ = max (64 * chunk_gap s) 4096 in
      let few : n ≤ s.buckets / d = omega arith in
      let all : n * d ≤ s.buckets = (le-div_iff_mul-le {k = d} {x = n} {y = s.buckets} (omega arith)).0 few in
      le_trans (mul-le-mul_left n (omega arith)) all

  module _ (n : ℕ) (some : 1 ≤ n) where
    pub bound_last : bound s n n ≡ s.buckets
    unfolding bound
    bound_last = mul-div_cancel_left s.buckets some

    pub bound_zero : bound s n 0 ≡ 0
    unfolding bound
    bound_zero = ap (λ (j : ℕ). j / n) (zero-mul s.buckets) ∙ zero-div n

    pub bound_mono : (j k : ℕ) → j ≤ k → bound s n j ≤ bound s n k
    unfolding bound
    bound_mono j k h = div_mono n some (mul-le-mul_right s.buckets h)

    pub bound_le : (k : ℕ) → k ≤ n → bound s n k ≤ s.buckets
    bound_le k h = omega (arith, bound_last, bound_mono k n h)

    -- what fits n times into B fits between two bounds
    pub bound_wide : (w : ℕ) → n * w ≤ s.buckets → (k : ℕ) → bound s n k + w ≤ bound s n (k + 1)
    unfolding bound
    bound_wide w h k =
        let low = (div_bounds (k * s.buckets) n (bound s n k) some refl).0 in
        (le-div_iff_mul-le {k = n} {x = bound s n k + w} {y = (k + 1) * s.buckets} some).1 (omega arith)

    module _ (room : n * chunk_gap s ≤ s.buckets) where
      bound_step : (k : ℕ) → bound s n k + chunk_gap s ≤ bound s n (k + 1)
      bound_step k = bound_wide (chunk_gap s) room k

      -- the chunks and gaps from a on, k of them, cover what lies between their bounds
      shorts_gaps : (x k a : ℕ) → total (within x) (map (short_chunk s n) (count_from a k)) + total (within x) (map (gap_chunk s n) (count_from a k)) ≡ count x (between (bound s n a) (bound s n (a + k)))
      unfolding short_chunk gap_chunk
      shorts_gaps x zero a =
          let e : bound s n (a + 0) - bound s n a ≡ 0 = omega (arith, ap (bound s n) (add-zero a)) in
          sym (ap (λ (j : ℕ). count x (count_from (bound s n a) j)) e)
      shorts_gaps x (suc k) a =
          let e : suc a + k ≡ a + suc k = omega arith in
          let one : suc a ≡ a + 1 = omega arith in
          let ih : total (within x) (map (short_chunk s n) (count_from (suc a) k)) + total (within x) (map (gap_chunk s n) (count_from (suc a) k)) ≡ count x (between (bound s n (a + 1)) (bound s n (a + suc k)))
          = shorts_gaps x k (suc a) ∙ ap₂ (λ (j h : ℕ). count x (between (bound s n j) (bound s n h))) one e in
          let up : bound s n (a + 1) ≤ bound s n (a + suc k) = bound_mono (a + 1) (a + suc k) (omega arith) in
          let st = bound_step a in
          omega (
            arith,
            ih,
            between_join x (bound s n a) (bound s n (a + 1) - chunk_gap s) (bound s n (a + 1)) (omega arith) (omega arith),
            between_join x (bound s n a) (bound s n (a + 1)) (bound s n (a + suc k)) (omega arith) up,
          )

      short_in : (k a : ℕ) → a + k ≤ n → Inside s.buckets (map (short_chunk s n) (count_from a k))
      unfolding short_chunk
      short_in zero a h = tt
      short_in (suc k) a h = (omega (arith, bound_step a), omega (arith, bound_le (a + 1) (omega arith)), short_in k (suc a) (omega arith))

      gap_in : (k a : ℕ) → a + k ≤ n → Inside s.buckets (map (gap_chunk s n) (count_from a k))
      unfolding gap_chunk
      gap_in zero a h = tt
      gap_in (suc k) a h = (omega (arith, bound_step a), bound_le (a + 1) (omega arith), gap_in k (suc a) (omega arith))

    -- enough room for the gaps, where there are any
    pub covers : (1 < n → n * chunk_gap s ≤ s.buckets) → Covers s.buckets (ranges_of s n)
    unfolding ranges_of last_chunk
    covers room = record {
      once = λ x. omega (
        arith,
        total_join (within x) (map (short_chunk s n) (below (n - 1))) (last_chunk s n ∷ map (gap_chunk s n) (below (n - 1))),
        front x (n - 1) refl,
        between_join x 0 (bound s n (n - 1)) s.buckets (omega arith) (bound_le (n - 1) (omega arith)),
      );
      inside = inside_join s.buckets (map (short_chunk s n) (below (n - 1))) (last_chunk s n ∷ map (gap_chunk s n) (below (n - 1))) (shorts (n - 1) refl)
          (bound_le (n - 1) (omega arith), omega arith, gaps (n - 1) refl);
    }
      where
        front : (x k : ℕ) → n - 1 ≡ k → total (within x) (map (short_chunk s n) (below k)) + total (within x) (map (gap_chunk s n) (below k)) ≡ count x (between 0 (bound s n k))
        front x zero e = sym (ap (λ (j : ℕ). count x (between 0 j)) bound_zero)
        front x (suc k) e = shorts_gaps (room (omega arith)) x (suc k) 0 ∙ ap₂ (λ (j h : ℕ). count x (between j (bound s n h))) bound_zero (zero-add (suc k))

        shorts : (k : ℕ) → n - 1 ≡ k → Inside s.buckets (map (short_chunk s n) (below k))
        shorts zero e = tt
        shorts (suc k) e = short_in (room (omega arith)) (suc k) 0 (omega arith)

        gaps : (k : ℕ) → n - 1 ≡ k → Inside s.buckets (map (gap_chunk s n) (below k))
        gaps zero e = tt
        gaps (suc k) e = gap_in (room (omega arith)) (suc k) 0 (omega arith)

  pub ranges_cover : (c : ℕ) → Covers s.buckets (ranges s c)
  unfolding ranges
  ranges_cover c = covers (chunk_count s c) (count_pos c) (λ h. le_trans (mul-le-mul_left (chunk_count s c) (omega arith)) (count_room c h))

  -- one chunk is the whole range
  pub count_one : chunk_count s 1 ≡ 1
  unfolding chunk_count
  count_one = omega arith

  pub one_range : (c : ℕ) → chunk_count s c ≡ 1 → ranges s c ≡ range 0 s.buckets ∷ []
  unfolding ranges ranges_of last_chunk
  one_range c e = rw e (ap (λ (j : ℕ). range j s.buckets ∷ []) (bound_zero 1 (omega arith)))

-- ---- the turns

-- the list takes the ranges one after the other, each by the rule
abbrev pub FollowsEach : (ℕ → ℕ → Bool) → Input → List Range → List ℕ → Type 0
FollowsEach before i [] ord = ord ≡ []
FollowsEach before i (r ∷ rs) ord =
    (part : List ℕ) × (rest : List ℕ) × (ord ≡ part ++ rest) × Follows before (nonempty i r.lo r.hi) part × FollowsEach before i rs rest

module _ (tie : Tie) (i : Input) where
  orders_count : (x : ℕ) (rs : List Range) → count x (orders_of tie i rs) ≡ total (λ (r : Range). count x (nonempty i r.lo r.hi)) rs
  unfolding orders_of order_in
  orders_count x [] = refl
  orders_count x (r ∷ rs) = omega (arith, count_append x (order tie i r.lo r.hi) (orders_of tie i rs), order_count tie i r.lo r.hi x, orders_count x rs)

  nonempty_with : (x : ℕ) → T (has_keys i x) → (lo hi : ℕ) → count x (nonempty i lo hi) ≡ count x (between lo hi)
  unfolding nonempty
  nonempty_with x t lo hi = count_filter_in (has_keys i) x t (between lo hi)

  nonempty_without : (x : ℕ) → T (not (has_keys i x)) → (lo hi : ℕ) → count x (nonempty i lo hi) ≡ 0
  unfolding nonempty
  nonempty_without x t lo hi = count_filter_out (has_keys i) x t (between lo hi)

  -- the turns of ranges that cover all buckets have each nonempty bucket once and no other
  pub orders_same : (n : ℕ) (rs : List Range) → Covers n rs → Same (orders_of tie i rs) (nonempty i 0 n)
  orders_same n rs C x = orders_count x rs ∙ go (split (has_keys i x))
    where
      with_keys : T (has_keys i x) → (ss : List Range) → total (λ (r : Range). count x (nonempty i r.lo r.hi)) ss ≡ total (within x) ss
      with_keys t [] = refl
      with_keys t (r ∷ ss) = omega (arith, nonempty_with x t r.lo r.hi, with_keys t ss)

      without : T (not (has_keys i x)) → (ss : List Range) → total (λ (r : Range). count x (nonempty i r.lo r.hi)) ss ≡ 0
      without t [] = refl
      without t (r ∷ ss) = omega (arith, nonempty_without x t r.lo r.hi, without t ss)

      go : T (has_keys i x) ⊎ T (not (has_keys i x)) → total (λ (r : Range). count x (nonempty i r.lo r.hi)) rs ≡ count x (nonempty i 0 n)
      go (inl t) = with_keys t rs ∙ C.once x ∙ sym (nonempty_with x t 0 n)
      go (inr t) = without t rs ∙ sym (nonempty_without x t 0 n)

  -- so no bucket stands in them twice
  pub orders_proper : (rs : List Range) → Covers i.settings.buckets rs → Proper i (orders_of tie i rs)
  orders_proper rs C =
      let whole = order_proper tie i 0 i.settings.buckets (omega arith) in
      record {
        once = λ x. omega (arith, alike x, whole.once x);
        inside = λ x t. whole.inside x (count_elem x (order tie i 0 i.settings.buckets) (omega (arith, alike x, elem_count x (orders_of tie i rs) t)));
      }
    where
      alike : Same (orders_of tie i rs) (order tie i 0 i.settings.buckets)
      alike x = orders_same i.settings.buckets rs C x ∙ sym (order_count tie i 0 i.settings.buckets x)

  -- in each range they follow rule W, and nothing else does
  pub orders_follow : (rs : List Range) → FollowsEach (goes_first tie i) i rs (orders_of tie i rs)
  unfolding orders_of order_in
  orders_follow [] = refl
  orders_follow (r ∷ rs) = (order tie i r.lo r.hi, orders_of tie i rs, refl, order_follows tie i r.lo r.hi, orders_follow rs)

  pub orders_only : Apart (goes_first tie i) → (rs : List Range) (ord : List ℕ) → FollowsEach (goes_first tie i) i rs ord → ord ≡ orders_of tie i rs
  unfolding orders_of order_in
  orders_only A [] ord f = f
  orders_only A (r ∷ rs) ord f = f.2 ∙ ap₂ (λ (xs ys : List ℕ). xs ++ ys) (order_only tie i r.lo r.hi A f.0 f.3) (orders_only A rs f.1 f.4)

  -- the turns of two lists of ranges, one after the other
  pub orders_join : (xs ys : List Range) → orders_of tie i (xs ++ ys) ≡ orders_of tie i xs ++ orders_of tie i ys
  unfolding orders_of
  orders_join [] ys = refl
  orders_join (x ∷ xs) ys = ap (λ (l : List ℕ). order_in tie i x ++ l) (orders_join xs ys) ∙ sym (append_assoc (order_in tie i x) (orders_of tie i xs) (orders_of tie i ys))

  -- one range alone
  pub orders_one : (lo hi : ℕ) → orders_of tie i (range lo hi ∷ []) ≡ order tie i lo hi
  unfolding orders_of order_in
  orders_one lo hi = append-nil (order tie i lo hi)
