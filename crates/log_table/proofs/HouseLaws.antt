-- `house_table` is the house table and the only one, by one test over all of it that antt computes: each entry against the power whose length it
-- is, each against the next one, and each against the one of twice its number. Assumes nothing.
use mathlib.Core.Path.{◌≡◌, sym, ap, ◌∙◌, subst}
use mathlib.Core.Bool.{Bool, ◌&&◌}
use mathlib.Core.List.{List}
use Prim.Native.Nat.{ℕ, zero, suc, ◌+◌, ◌-◌, ◌*◌, ◌^◌, ◌≤◌, ◌<◌, min}
use native.Mathlib.Nat.{one-mul, pow-zero, pow-suc, add-zero, zero-add, le_of_suc-le-suc, not-suc-le-zero, le_trans, le_of_eq, le_antisymm, lt_of_not-le, add_comm, add_assoc}
use native.Mathlib.Numerals.{add-one}
use native.Mathlib.Omega.{arith}
use lib.Dec.{T, leb, eqb, leb→le, eqb→eq, lit<}
use lib.ListN.{length, get_or, drop, length-drop}
use lib.Seq.{get_or-drop, ext_get_or}
use lib.Pow.{pow_mono}
use Rattle.integers.specs.Power.{least_from, log_up}
use Rattle.log_table.specs.House.{Nearest, House, house_table}
use Rattle.log_table.proofs.Walks.{both_left, both_right, each, pairs, evens, each_at, pairs_at, evens_at, evens_length}
use Rattle.log_table.proofs.Squares.{spare, close, decided, close_near}
use Rattle.log_table.specs.Logs.{digit, raised, squares, bits, log_entry, logs_from, log_table}

-- the test of entry d: its value; x and y are the entries d and d + 1, and x and z the entries d and 2 d
unfoldable near : ℕ → ℕ → Bool
near zero x = eqb x 0
near (suc d) x = close 25 (suc d) (suc d) 0 x

unfoldable rise : ℕ → ℕ → ℕ → Bool
rise d x y = leb (x + min d 1) y

unfoldable twice : ℕ → ℕ → ℕ → Bool
twice d x z = eqb z (x + min d 1 * 2 ^ 24)

unfoldable holds : List ℕ → Bool
holds xs = eqb (length xs) 2048 && (eqb (get_or xs 1 0) 0 && (each near 0 xs && (pairs rise 0 xs (drop 1 xs) && pairs twice 0 xs (evens xs))))

-- what the test says of a list that passes it
record Passed (xs : List ℕ) : Type 0 where
  size : length xs ≡ 2048
  first : get_or xs 1 0 ≡ 0
  nears : T (each near 0 xs)
  rising : T (pairs rise 0 xs (drop 1 xs))
  doubling : T (pairs twice 0 xs (evens xs))

passed : (xs : List ℕ) → T (holds xs) → Passed xs
unfolding holds
passed xs t =
    let a : Bool = eqb (length xs) 2048 in
    let b : Bool = eqb (get_or xs 1 0) 0 in
    let c : Bool = each near 0 xs in
    let d : Bool = pairs rise 0 xs (drop 1 xs) in
    let e : Bool = pairs twice 0 xs (evens xs) in
    let t1 : T (b && (c && (d && e))) = both_right a (b && (c && (d && e))) t in
    let t2 : T (c && (d && e)) = both_right b (c && (d && e)) t1 in
    let t3 : T (d && e) = both_right c (d && e) t2 in
    record {
      size = eqb→eq (length xs) 2048 (both_left a (b && (c && (d && e))) t);
      first = eqb→eq (get_or xs 1 0) 0 (both_left b (c && (d && e)) t1);
      nears = both_left c (d && e) t2;
      rising = both_left d e t3;
      doubling = both_right d e t3;
    }

self_power : (d : ℕ) → d ^ 1 ≡ d
self_power d = pow-suc d 0 ∙ ap (λ (x : ℕ). x * d) (pow-zero d) ∙ one-mul d

near_is : (d x : ℕ) → 1 ≤ d → T (near d x) → Nearest (2 ^ 25) d x
unfolding near
near_is zero x h t = absurd (not-suc-le-zero h)
near_is (suc d) x h t = close_near 25 1 (suc d) (suc d) (suc d) 0 x t (record { low = omega (arith, self_power (suc d)); high = omega (arith, self_power (suc d)) })

module _ (xs : List ℕ) (p : Passed xs) where
  near_at : (d : ℕ) → d < 2048 → T (near d (get_or xs d 0))
  near_at d h = subst (λ (i : ℕ). T (near i (get_or xs d 0))) (zero-add d) (each_at near 0 xs p.nears d (omega (arith, p.size)))

  rise_at : (d : ℕ) → d + 1 < 2048 → get_or xs d 0 + min d 1 ≤ get_or xs (d + 1) 0
  unfolding rise
  rise_at d h =
      let t = pairs_at rise 0 xs (drop 1 xs) p.rising d (omega (arith, p.size)) (omega (arith, p.size, length-drop 1 xs)) in
      omega (arith, leb→le (get_or xs d 0 + min (0 + d) 1) (get_or (drop 1 xs) d 0) t, get_or-drop 1 xs d 0, ap (λ (k : ℕ). get_or xs k 0) (add_comm 1 d))

  twice_at : (d : ℕ) → d < 1024 → get_or xs (2 * d) 0 ≡ get_or xs d 0 + min d 1 * 2 ^ 24
  unfolding twice
  twice_at d h =
      let t = pairs_at twice 0 xs (evens xs) p.doubling d (omega (arith, p.size)) (omega (arith, evens_length xs 1024 p.size)) in
      omega (arith, eqb→eq (get_or (evens xs) d 0) (get_or xs d 0 + min (0 + d) 1 * 2 ^ 24) t, evens_at xs d)

  holds_house : House xs
  unfolding near
  holds_house = record {
    size = p.size;
    entry0 = eqb→eq (get_or xs 0 0) 0 (near_at 0 (lit< tt));
    entry1 = p.first;
    nearest = λ d h k. near_is d (get_or xs d 0) h (near_at d k);
    rises = λ d h k. omega (arith, rise_at d k);
    doubles = λ d h k. omega (arith, twice_at d k);
  }

-- the one test
passes : T (holds house_table)
unfolding holds near rise twice close decided each pairs evens spare house_table log_table logs_from log_entry bits squares raised digit log_up least_from
passes = tt

pub house_table_lem : House house_table
house_table_lem = holds_house house_table (passed house_table passes)

pub house_is : (xs : List ℕ) → xs ≡ house_table → (xs ≡ house_table) × House xs
house_is xs e = (e, subst House (sym e) house_table_lem)

-- ---- laws of any house table

module _ {xs : List ℕ} (table : House xs) where
  next_not_less : (d : ℕ) → d + 1 < 2048 → get_or xs d 0 ≤ get_or xs (d + 1) 0
  next_not_less zero h = omega (arith, table.entry0)
  next_not_less (suc d) h = omega (arith, table.rises (suc d) (omega arith) h)

  rises_by : (n i : ℕ) → i + n < 2048 → get_or xs i 0 ≤ get_or xs (i + n) 0
  rises_by zero i h = le_of_eq (ap (λ (k : ℕ). get_or xs k 0) (sym (add-zero i)))
  rises_by (suc n) i h =
      le_trans (rises_by n i (omega arith)) (le_trans (next_not_less (i + n) (omega arith)) (le_of_eq (ap (λ (k : ℕ). get_or xs k 0) (add_assoc i n 1 ∙ ap (λ (k : ℕ). i + k) (add-one n)))))

  -- what a sweep asks of its table
  pub never_falls : (i j : ℕ) → i ≤ j → j < 2048 → get_or xs i 0 ≤ get_or xs j 0
  never_falls i j h k =
      let e : i + (j - i) ≡ j = omega arith in
      le_trans (rises_by (j - i) i (omega arith)) (le_of_eq (ap (λ (n : ℕ). get_or xs n 0) e))

-- a logarithm has one nearest whole number
not_above : (N d t u : ℕ) → Nearest N d t → Nearest N d u → t ≤ u
not_above N d t u p q =
    le_of_suc-le-suc (lt_of_not-le (λ (g : suc u ≤ t).
    let k : ℕ = 2 * u in
    let m : 2 ^ suc (suc k) ≤ 2 ^ (2 * t) = pow_mono (omega arith) in
    let f : ⊥ = omega (arith, p.below, q.above) in f))

pub nearest_unique : (N d t u : ℕ) → Nearest N d t → Nearest N d u → t ≡ u
nearest_unique N d t u p q = le_antisymm (not_above N d t u p q) (not_above N d u t q p)

-- so that there is one house table
pub house_unique : (xs ys : List ℕ) → House xs → House ys → xs ≡ ys
house_unique xs ys p q = ext_get_or 0 xs ys (p.size ∙ sym q.size) (λ i h. by i (omega (arith, p.size)))
  where
    by : (i : ℕ) → i < 2048 → get_or xs i 0 ≡ get_or ys i 0
    by zero h = p.entry0 ∙ sym q.entry0
    by (suc i) h = nearest_unique (2 ^ 25) (suc i) (get_or xs (suc i) 0) (get_or ys (suc i) 0) (p.nearest (suc i) (omega arith) h) (q.nearest (suc i) (omega arith) h)
