-- Neither theorem is empty, and 255 cannot be less. Three slots and 257 buckets, a key in bucket 0 and one in bucket 1: two keys more in bucket 256 leave
-- bucket 0 its seed and take bucket 1's slot away. The listing of document 01 with bucket 0's keys exchanged. Assumes nothing.
use mathlib.Core.Path.{◌≡◌, refl, sym, ap, ◌∙◌}
use mathlib.Core.Logic.{inl, inr, ◌≢◌}
use mathlib.Core.Bool.{true, false, ◌||◌}
use mathlib.Core.List.{List, [], ◌∷◌, ◌++◌}
use Prim.Native.Nat.{ℕ, zero, suc, ◌+◌, ◌*◌, ◌/◌, ◌^◌, ◌<◌}
use native.Mathlib.Omega.{arith}
use lib.Dec.{T, eqb, eqb→eq}
use lib.IntN as Int
use lib.ListN.{length, get_or, replicate}
use Rattle.rules.specs.Lists.{below, every, count}
use Rattle.rules.specs.Order.{Input, by_low_bits, keys_of}
use Rattle.rules.specs.Chunks.{in_one}
use Rattle.rules.specs.Numbers.{Lent}
use Rattle.rules.specs.Answers.{Answer, Refusal, sweep_number, sweep_answer, sweep_seeds}
use Rattle.rules.proofs.Tests.{or_cases, and_left, and_right}
use Rattle.rules.proofs.Ranges.{every_below}
use Rattle.rules.proofs.Sheets.{table, small, listing, lent_for, runs, same}
use Rattle.steady.specs.Alike.{DifferIn, Reordered}
use Rattle.steady.proofs.EarlyPages.{early_pages}
use Rattle.steady.proofs.Reordering.{Unmoved, reordered}

same_eq : (xs ys : List ℕ) → T (same xs ys) → xs ≡ ys
unfolding same
same_eq [] [] t = refl
same_eq [] (y ∷ ys) t = absurd t
same_eq (x ∷ xs) [] t = absurd t
same_eq (x ∷ xs) (y ∷ ys) t =
    ap (λ (k : ℕ). k ∷ xs) (eqb→eq x y (and_left (eqb x y) (same xs ys) t)) ∙ ap (λ (l : List ℕ). y ∷ l) (same_eq xs ys (and_right (eqb x y) (same xs ys) t))

-- ---- early pages

-- the least hash of bucket b of 257, and so many more
unfoldable pub hash_in : (b more : ℕ) → ℕ
hash_in b more = b * 2 ^ 64 / 257 + 1 + more

-- 257 buckets over three slots: a key in bucket 0, one in bucket 1, and `late` in bucket 256
unfoldable pub pages : (late : List ℕ) → Input
pages late = record {
  settings = record { m = 3; log2_slice_len = 3; ll = 0; sb = 4; buckets = 257 };
  weights = Int.pos 0 ∷ Int.pos (2 ^ 20) ∷ replicate 5 (Int.pos 0);
  hashes = 0 ∷ hash_in 1 0 ∷ late;
  begins = 0 ∷ 1 ∷ replicate 255 2 ++ (2 + length late) ∷ [];
  table = table;
}

-- bucket 256 empty, and with two keys
unfoldable pub blank : Input
blank = pages []

unfoldable pub scanned : Input
scanned = pages (hash_in 256 0 ∷ hash_in 256 1 ∷ [])

-- the same keys in each bucket but b, by one test
differ_by : (b : ℕ) → (one other : Input) → T (every (λ (c : ℕ). same (keys_of one c) (keys_of other c) || eqb c b) (below one.settings.buckets)) → (c : ℕ) → c < one.settings.buckets → c ≢ b
    → keys_of one c ≡ keys_of other c
differ_by b one other t c h ne = elim (or_cases (same (keys_of one c) (keys_of other c)) (eqb c b) (every_below (λ (d : ℕ). same (keys_of one d) (keys_of other d) || eqb d b) one.settings.buckets t c h))
    [ inl s ↦ same_eq (keys_of one c) (keys_of other c) s | inr e ↦ absurd (ne (eqb→eq c b e)) ]

pages_differ : DifferIn 256 blank scanned
unfolding blank scanned pages hash_in table runs
pages_differ = record { settings_same = refl; weights_same = refl; table_same = refl; keys_same = differ_by 256 blank scanned tt }

pages_pass : (sweep_number (in_one true) blank (lent_for blank) ≡ 0) × (sweep_number (in_one true) scanned (lent_for scanned) ≡ 0)
unfolding blank scanned pages hash_in table runs
pages_pass = (refl, refl)

-- the seed of bucket 0 is the same in both, as the theorem says
pub early_here : (seeds seeds' : List ℕ)
    → get_or (sweep_seeds by_low_bits (in_one true) blank (lent_for blank) seeds) 0 0 ≡ get_or (sweep_seeds by_low_bits (in_one true) scanned (lent_for scanned) seeds') 0 0
early_here seeds seeds' =
    early_pages by_low_bits blank scanned (lent_for blank) (lent_for scanned) 256 pages_differ pages_pass.0 pages_pass.1 seeds seeds' 0 (omega arith)

-- it is no bumped bucket's: bucket 0 has the seed 2
early_two : get_or (sweep_seeds by_low_bits (in_one true) scanned (lent_for scanned) []) 0 0 ≡ 2
unfolding scanned pages hash_in table runs
early_two = refl

-- bucket 1, which is b - 255, has another: the two keys took its slot
next_moves : (get_or (sweep_seeds by_low_bits (in_one true) blank (lent_for blank) []) 1 0 ≡ 1) × (get_or (sweep_seeds by_low_bits (in_one true) scanned (lent_for scanned) []) 1 0 ≡ 0)
unfolding blank scanned pages hash_in table runs
next_moves = (refl, refl)

-- so the bound is exact: with one bucket less the theorem is false
pub early_exact : ((i j : Input) (lent lent' : Lent) (b : ℕ) → DifferIn b i j → sweep_number (in_one true) i lent ≡ 0 → sweep_number (in_one true) j lent' ≡ 0
    → (x : ℕ) → x + 254 < b → get_or (sweep_seeds by_low_bits (in_one true) i lent []) x 0 ≡ get_or (sweep_seeds by_low_bits (in_one true) j lent' []) x 0) → ⊥
early_exact h =
    let e = h blank scanned (lent_for blank) (lent_for scanned) 256 pages_differ pages_pass.0 pages_pass.1 1 (omega arith) in
    let z : ◌≡◌ {A = ℕ} 1 0 = sym next_moves.0 ∙ e ∙ next_moves.1 in
    omega arith

-- ---- reordering

-- the listing's input with the keys of bucket 0 exchanged
unfoldable pub exchanged : Input
exchanged = record {
  settings = (listing 2048).settings;
  weights = (listing 2048).weights;
  hashes = (2 ^ 62 + 3) ∷ 2 ^ 62 ∷ 2 ^ 63 ∷ [];
  begins = (listing 2048).begins;
  table = (listing 2048).table;
}

exchanged_keys : (b : ℕ) → b < 3 → (x : ℕ) → count x (keys_of (listing 2048) b) ≡ count x (keys_of exchanged b)
unfolding exchanged listing runs
exchanged_keys zero h x = omega arith
exchanged_keys (suc zero) h x = refl
exchanged_keys (suc (suc zero)) h x = refl
exchanged_keys (suc (suc (suc b))) h x = absurd (let z : ⊥ = omega arith in z)

exchanged_reordered : Reordered (listing 2048) exchanged
unfolding exchanged listing
exchanged_reordered = record { settings_same = refl; weights_same = refl; table_same = refl; begins_same = refl; as_many = refl; keys_same = exchanged_keys }

pub exchanged_unmoved : Unmoved by_low_bits (in_one true) (listing 2048) exchanged (lent_for (listing 2048))
unfolding exchanged listing
exchanged_unmoved = reordered by_low_bits (in_one true) (listing 2048) exchanged (lent_for (listing 2048)) exchanged_reordered

exchanged_answer : sweep_answer by_low_bits (in_one true) exchanged (lent_for (listing 2048)) ≡ Answer (3 ∷ 0 ∷ 1 ∷ [])
unfolding exchanged listing table runs
exchanged_answer = refl

-- two equal hashes and another, bumping forbidden: 14 and bucket 0 in either order
unfoldable pub twice_apart : (keys : List ℕ) → Input
twice_apart keys = small 7 4 keys

twice_keys : (b : ℕ) → b < 1 → (x : ℕ) → count x (keys_of (twice_apart (0 ∷ 0 ∷ 2 ^ 62 ∷ [])) b) ≡ count x (keys_of (twice_apart (0 ∷ 2 ^ 62 ∷ 0 ∷ [])) b)
unfolding twice_apart small runs
twice_keys zero h x = omega arith
twice_keys (suc b) h x = absurd (let z : ⊥ = omega arith in z)

twice_reordered : Reordered (twice_apart (0 ∷ 0 ∷ 2 ^ 62 ∷ [])) (twice_apart (0 ∷ 2 ^ 62 ∷ 0 ∷ []))
unfolding twice_apart small
twice_reordered = record { settings_same = refl; weights_same = refl; table_same = refl; begins_same = refl; as_many = refl; keys_same = twice_keys }

pub twice_unmoved : Unmoved by_low_bits (in_one false) (twice_apart (0 ∷ 0 ∷ 2 ^ 62 ∷ [])) (twice_apart (0 ∷ 2 ^ 62 ∷ 0 ∷ [])) (lent_for (twice_apart (0 ∷ 0 ∷ 2 ^ 62 ∷ [])))
unfolding twice_apart small
twice_unmoved = reordered by_low_bits (in_one false) (twice_apart (0 ∷ 0 ∷ 2 ^ 62 ∷ [])) (twice_apart (0 ∷ 2 ^ 62 ∷ 0 ∷ [])) (lent_for (twice_apart (0 ∷ 0 ∷ 2 ^ 62 ∷ []))) twice_reordered

twice_answer : sweep_answer by_low_bits (in_one false) (twice_apart (0 ∷ 2 ^ 62 ∷ 0 ∷ [])) (lent_for (twice_apart (0 ∷ 0 ∷ 2 ^ 62 ∷ []))) ≡ Refusal 14 (0 ∷ [])
unfolding twice_apart small table runs
twice_answer = refl
