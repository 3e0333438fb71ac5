-- The groups of a well formed input, counted and taken apart in one pass. Assumes nothing.
use Rattle.std.specs.Prelude.{ℕ, ◌+◌, ◌-◌, ◌/◌, ◌%◌, ◌^◌, ◌≤◌, ◌<◌, ◌≡◌, Bool, true, false, cond, ◌&&◌, ◌||◌, List, [], ◌∷◌, eqb, leb, ltb, drop, ℤ, pos, negsuc, ◌-ℤ◌}
use Rattle.std.proofs.Common.{arith, sym, ap, ◌∙◌, SFits, to_z, of_z}
use Rattle.std.proofs.Math.Decide.{dec_lt}
use Rattle.std.proofs.Math.Path.{refl}
use Rattle.std.proofs.Math.Bool.{or-true}
use Rattle.std.proofs.Math.Logic.{by_cases}
use Rattle.std.proofs.Math.ListN.{length, get_or, length-drop}
use Rattle.std.specs.Int.{w64}
use Rattle.std.proofs.lemmas.Int.{to_z_pos, to_z-of_z}
use Rattle.integers.specs.Ints.{sub_is, eq_by}
use borrow.Author.Tests.{eq-eqb, ne_eqb, eqb-true, leb-true, ltb-true, ltb-false, lt-ltb, le-ltb}
use Rattle.list_input.specs.Form.{grouped, well_formed}
use Rattle.list_input.specs.Asked.{weight_of, hashes_in, begins_in, settings_of, hashes_of, begins_of, over_size}

-- ---- tests

differ : true ≡ false → ⊥
differ e = let y : ◌≡◌ {A = ℕ} 0 1 = cc in omega arith

and_left : (a b : Bool) → (a && b) ≡ true → a ≡ true
and_left true b e = refl
and_left false b e = e

and_right : (a b : Bool) → (a && b) ≡ true → b ≡ true
and_right true b e = e
and_right false b e = absurd (differ (sym e))

or_right : (a b : Bool) → b ≡ true → (a || b) ≡ true
or_right a b e = ap (λ (x : Bool). a || x) e ∙ or-true a

-- ---- a number of the groups: a hash, or a key count

module _ (keys x : ℕ) (xs : List ℕ) (k : ltb 0 keys ≡ true) where
  pub hashes_hash : hashes_in keys (x ∷ xs) ≡ x ∷ hashes_in (keys - 1) xs
  unfolding hashes_in
  hashes_hash = rw k refl

module _ (before keys x : ℕ) (xs : List ℕ) (k : ltb 0 keys ≡ true) where
  pub begins_hash : begins_in before keys (x ∷ xs) ≡ begins_in (before + 1) (keys - 1) xs
  unfolding begins_in
  begins_hash = rw k refl

module _ (keys x : ℕ) (xs : List ℕ) (k : ltb 0 keys ≡ false) where
  pub hashes_count : hashes_in keys (x ∷ xs) ≡ hashes_in x xs
  unfolding hashes_in
  hashes_count = rw k refl

module _ (before keys x : ℕ) (xs : List ℕ) (k : ltb 0 keys ≡ false) where
  pub begins_count : begins_in before keys (x ∷ xs) ≡ before ∷ begins_in before x xs
  unfolding begins_in
  begins_count = rw k refl

-- ---- how many there are

-- the key counts and the hashes are all the numbers of the groups; each bucket has its beginning, and the last its end
pub record Sized (keys buckets : ℕ) (xs : List ℕ) : Type 0 where
  pub hashes : length xs ≡ buckets + length (hashes_in keys xs)
  pub begins : (before : ℕ) → length (begins_in before keys xs) ≡ buckets + 1

Sizes : List ℕ → Type 0
Sizes xs = (keys buckets : ℕ) → grouped keys buckets xs ≡ true → Sized keys buckets xs

sizes_none : Sizes []
unfolding Sizes grouped hashes_in begins_in
sizes_none keys buckets e =
    let none : buckets ≡ 0 = eqb-true buckets 0 (and_right (eqb keys 0) (eqb buckets 0) e) in
    record { hashes = omega arith; begins = λ before. omega arith }

sizes_more : (x : ℕ) (xs : List ℕ) → Sizes xs → Sizes (x ∷ xs)
unfolding Sizes grouped
sizes_more x xs sizes keys buckets e = go (ltb 0 keys) (ltb 0 buckets) refl refl e
  where
    go : (a b : Bool) → ltb 0 keys ≡ a → ltb 0 buckets ≡ b → cond a (grouped (keys - 1) buckets xs) (cond b (grouped x (buckets - 1) xs) false) ≡ true
        → Sized keys buckets (x ∷ xs)
    go true b k l e =
        let s = sizes (keys - 1) buckets e in
        record {
          hashes = rw (ap length (hashes_hash keys x xs k)) (omega (arith, s.hashes));
          begins = λ before. rw (begins_hash before keys x xs k) (s.begins (before + 1));
        }
    go false true k l e =
        let s = sizes x (buckets - 1) e in
        let some : 0 < buckets = ltb-true 0 buckets l in
        record {
          hashes = rw (hashes_count keys x xs k) (omega (arith, s.hashes));
          begins = λ before. rw (ap length (begins_count before keys x xs k)) (omega (arith, s.begins before));
        }
    go false false k l e = absurd (differ (sym e))

sizes_all : (xs : List ℕ) → Sizes xs
sizes_all [] = sizes_none
sizes_all (x ∷ xs) = sizes_more x xs (sizes_all xs)

-- ---- a well formed input

module _ (ns : List ℕ) (well : well_formed ns ≡ true) where
  pub long_enough : 13 ≤ length ns
  unfolding well_formed
  long_enough = leb-true 13 (length ns) (and_left (leb 13 (length ns)) (leb (get_or ns 4 0) 1 && grouped 0 (get_or ns 12 0) (drop 13 ns)) well)

  pub flag_fits_lem : get_or ns 4 0 ≤ 1
  unfolding well_formed
  flag_fits_lem =
      leb-true (get_or ns 4 0) 1
      (and_left (leb (get_or ns 4 0) 1) (grouped 0 (get_or ns 12 0) (drop 13 ns))
      (and_right (leb 13 (length ns)) (leb (get_or ns 4 0) 1 && grouped 0 (get_or ns 12 0) (drop 13 ns)) well))

  sized : Sized 0 (get_or ns 12 0) (drop 13 ns)
  unfolding well_formed Sizes
  sized =
      sizes_all (drop 13 ns) 0 (get_or ns 12 0)
      (and_right (leb (get_or ns 4 0) 1) (grouped 0 (get_or ns 12 0) (drop 13 ns))
      (and_right (leb 13 (length ns)) (leb (get_or ns 4 0) 1 && grouped 0 (get_or ns 12 0) (drop 13 ns)) well))

  -- thirteen numbers at the head, a key count for each bucket, and the hashes
  pub numbers_count : length ns ≡ 13 + get_or ns 12 0 + length (hashes_of ns)
  unfolding hashes_of
  numbers_count = omega (arith, long_enough, sized.hashes, length-drop 13 ns)

  pub begins_count_is : length (begins_of ns) ≡ get_or ns 12 0 + 1
  unfolding begins_of
  begins_count_is = sized.begins 0

  -- over 205 numbers are too many buckets or too many keys
  pub over_many : 205 < length ns → over_size ns ≡ true
  unfolding over_size settings_of
  over_many h =
      by_cases (dec_lt 64 (get_or ns 12 0))
      (λ (b : 64 < get_or ns 12 0). or_right (ltb 1024 (get_or ns 0 0)) _ (rw (lt-ltb 64 (get_or ns 12 0) b) refl))
      (λ (b : 64 < get_or ns 12 0 → ⊥).
      let keys : 128 < length (hashes_of ns) = omega (arith, numbers_count) in
      or_right (ltb 1024 (get_or ns 0 0)) _ (or_right (ltb 64 (get_or ns 12 0)) _ (lt-ltb 128 (length (hashes_of ns)) keys)))

  -- 19 test by test, as the code has it
  pub over_m : 1024 < get_or ns 0 0 → true ≡ over_size ns
  unfolding over_size settings_of
  over_m h = rw (lt-ltb 1024 (get_or ns 0 0) h) refl

  pub over_buckets : get_or ns 0 0 ≤ 1024 → 64 < get_or ns 12 0 → true ≡ over_size ns
  unfolding over_size settings_of
  over_buckets l h = rw (le-ltb 1024 (get_or ns 0 0) l, lt-ltb 64 (get_or ns 12 0) h) refl

  pub over_keys : get_or ns 0 0 ≤ 1024 → get_or ns 12 0 ≤ 64 → ltb 128 (length ns - 13 - get_or ns 12 0) ≡ over_size ns
  unfolding over_size settings_of
  over_keys l h =
      let keys : length ns - 13 - get_or ns 12 0 ≡ length (hashes_of ns) = omega (arith, numbers_count) in
      rw (le-ltb 1024 (get_or ns 0 0) l, le-ltb 64 (get_or ns 12 0) h, keys) refl

  -- an input that is not over size
  module _ (small : over_size ns ≡ false) where
    pub m_most : get_or ns 0 0 ≤ 1024
    m_most = by_cases (dec_lt 1024 (get_or ns 0 0)) (λ (h : 1024 < get_or ns 0 0). absurd (differ (over_m h ∙ small))) (λ (h : 1024 < get_or ns 0 0 → ⊥). omega arith)

    pub buckets_most : get_or ns 12 0 ≤ 64
    buckets_most = by_cases (dec_lt 64 (get_or ns 12 0)) (λ (h : 64 < get_or ns 12 0). absurd (differ (over_buckets m_most h ∙ small))) (λ (h : 64 < get_or ns 12 0 → ⊥). omega arith)

    pub keys_most : length (hashes_of ns) ≤ 128
    keys_most = omega (arith, numbers_count, ltb-false 128 (length ns - 13 - get_or ns 12 0) (over_keys m_most buckets_most ∙ small))

    pub begins_most : length (begins_of ns) ≤ 65
    begins_most = omega (arith, begins_count_is, buckets_most)

-- ---- a weight

-- -1 - k
pub minus : (k : ℕ) → negsuc 0 -ℤ pos k ≡ negsuc k
minus k = eq_by (negsuc 0 -ℤ pos k) (negsuc k) (omega (arith, sub_is (negsuc 0) (pos k)))

pub half_fits : (n : ℕ) → n < 2 ^ 64 → SFits w64 (negsuc (n / 2))
half_fits n h = record { sfits = omega arith }

pub weight_even : (n : ℕ) → n < 2 ^ 64 → n % 2 ≡ 0 → to_z w64 (n / 2) ≡ weight_of n
unfolding weight_of
weight_even n h e = to_z_pos w64 (n / 2) (omega arith) ∙ (rw (eq-eqb (n % 2) 0 e) refl)

weight_minus : (n : ℕ) → n < 2 ^ 64 → negsuc 0 -ℤ to_z w64 (n / 2) ≡ negsuc (n / 2)
weight_minus n h = ap (λ (z : ℤ). negsuc 0 -ℤ z) (to_z_pos w64 (n / 2) (omega arith)) ∙ minus (n / 2)

pub odd_fits : (n : ℕ) → n < 2 ^ 64 → SFits w64 (negsuc 0 -ℤ to_z w64 (n / 2))
odd_fits n h = rw (weight_minus n h) (half_fits n h)

pub weight_odd : (n : ℕ) → n < 2 ^ 64 → (n % 2 ≡ 0 → ⊥) → to_z w64 (of_z w64 (negsuc 0 -ℤ to_z w64 (n / 2))) ≡ weight_of n
unfolding weight_of
weight_odd n h e = to_z-of_z w64 _ (odd_fits n h) ∙ weight_minus n h ∙ (rw (ne_eqb (n % 2) 0 e) refl)
