-- The sheets P1 to P12 of document 01, as one table with one proof by computation. Assumes nothing.
use mathlib.Core.Bool.{Bool, true, false, ◌&&◌}
use mathlib.Core.List.{List, [], ◌∷◌, ◌++◌}
use Prim.Native.Nat.{ℕ, ◌+◌, ◌-◌, ◌*◌, ◌^◌}
use lib.Dec.{T, eqb, ltb}
use lib.IntN as Int
use lib.IntN.{ℤ}
use lib.ListN.{length, replicate}
use Rattle.integers.specs.Ints.{up, dn, held}
use Rattle.integers.specs.Power.{least_from, log_up, least_power}
use Rattle.words.specs.Bit.{bit}
use Rattle.words.specs.Map.{slot}
use Rattle.rules.specs.declared.Settings.{Settings}
use Rattle.rules.specs.Lists.{indicator, every}
use Rattle.rules.specs.Geometry.{slice_len, log_len, slices, scale, layouts, bucket_of, slice_of, offset_of, quotient, first, layout_offset, position, stride, ring_len, rotations, per_bucket, ring_slots, entries, work_words}
use Rattle.rules.specs.Order.{Input, by_low_bits, size_of, keys_of, weight_entry, weight, priority, goes_first, nonempty, turn, turns, order}
use Rattle.rules.specs.Chunks.{chunk_gap, chunk_count, bound, short_chunk, last_chunk, gap_chunk, ranges_of, ranges, order_in, orders_of, in_one}
use Rattle.rules.specs.Seed.{is_first, barred, unbarred, candidates, seed_of, slots_of, fits, price, cost, cheaper, candidate_fits, fitting, seed_of_least, seed_for}
use Rattle.rules.specs.Sweep.{takes, given, marks, seed_in, first_zero, word_of, bitmap_of, final_seeds, final_marks, final_bitmap, fails_at}
use Rattle.rules.specs.Holes.{unmarked, holes_of, slot_by, looked_up, found_slots}
use Rattle.rules.specs.Numbers.{Lent, first_of, line1, line2, line3, line4, line5, line6, line7, lines_to6, lines_to7, moderate, step_up, rising, largest_of, largest, line8, line9, line10, line11, line12, line13, line20, small_bucket, is_home, all_home, sweep_lines}
use Rattle.rules.specs.Answers.{Said, Answer, Refusal, count_values, unless, kept_unless, placed_keys, bumped_keys, zero_bucket, counts_of, ran_answer, ran_buffer, sweep_turns, stops_at, sweep_number, sweep_answer, sweep_seeds, sweep_bitmap, work_needed}

-- the first entries of the house table
unfoldable pub table : List ℕ
table = 0 ∷ 0 ∷ 16777216 ∷ 26591258 ∷ 33554432 ∷ 38955489 ∷ 43368474 ∷ 47099600 ∷ 50331648 ∷ 53182516 ∷ 55732705 ∷ 58039632 ∷ 60145690 ∷ 62083076 ∷ 63876816 ∷ 65546747 ∷ 67108864 ∷ 68576247 ∷ 69959732 ∷ 71268397 ∷ 72509921 ∷ 73690858 ∷ 74816848 ∷ 75892776 ∷ 76922906 ∷ 77910978 ∷ 78860292 ∷ 79773775 ∷ 80654032 ∷ 81503396 ∷ 82323963 ∷ 83117622 ∷ 83886080 ∷ 84630890 ∷ 85353463 ∷ 86055089 ∷ 86736948 ∷ 87400124 ∷ 88045613 ∷ 88674335 ∷ 89287137 ∷ 89884807 ∷ 90468074 ∷ 91037616 ∷ 91594064 ∷ 92138006 ∷ 92669992 ∷ 93190537 ∷ 93700122 ∷ 94199200 ∷ 94688194 ∷ 95167505 ∷ 95637508 ∷ 96098559 ∷ 96550991 ∷ 96995121 ∷ 97431248 ∷ 97859656 ∷ 98280612 ∷ 98694373 ∷ 99101179 ∷ 99501261 ∷ 99894838 ∷ 100282116 ∷ 100663296 ∷ 101038566 ∷ 101408106 ∷ 101772089 ∷ 102130679 ∷ 102484034 ∷ 102832305 ∷ 103175636 ∷ 103514164 ∷ 103848024 ∷ 104177340 ∷ 104502237 ∷ 104822829 ∷ 105139231 ∷ 105451551 ∷ 105759891 ∷ 106064353 ∷ 106365033 ∷ 106662023 ∷ 106955414 ∷ 107245290 ∷ 107531736 ∷ 107814832 ∷ 108094655 ∷ 108371280 ∷ 108644779 ∷ 108915222 ∷ 109182676 ∷ 109447208 ∷ 109708880 ∷ 109967753 ∷ 110223887 ∷ 110477338 ∷ 110728163 ∷ 110976416 ∷ 111222148 ∷ 111465410 ∷ 111706252 ∷ 111944721 ∷ 112180864 ∷ 112414724 ∷ 112646347 ∷ 112875775 ∷ 113103048 ∷ 113328207 ∷ 113551290 ∷ 113772337 ∷ 113991383 ∷ []

-- ---- the kinds of sheets, each with what is wanted

pub data Sheet : Type 0 where
  -- settings and z: l, ns, scale, t, n, R, slots, table entries, W
  Shape : Settings → (z : ℕ) → (wanted : List ℕ) → Sheet
  -- a sweep, with bumping allowed or not: what it says, the seeds, the slots of the placed keys, the holes
  Run : (bump : Bool) → Input → Said → (seeds found holes : List ℕ) → Sheet
  -- two seeds of bucket 0, with no slot marked: whether the first costs less, and whether each fits
  Rivals : Input → (v u : ℕ) → (wanted : List ℕ) → Sheet
  -- w6 and w7, and a size: its weight, as what it is above 0 and below
  Weighs : (w6 w7 : ℤ) → (size : ℕ) → (wanted : List ℕ) → Sheet
  -- a bucket of weight 0 at b and one of weight 1024 at b + 1: the order of the two
  Pair : (b : ℕ) → (wanted : List ℕ) → Sheet

unfoldable pub same : List ℕ → List ℕ → Bool
same [] [] = true
same [] (y ∷ ys) = false
same (x ∷ xs) [] = false
same (x ∷ xs) (y ∷ ys) = eqb x y && same xs ys

unfoldable pub same_said : Said → Said → Bool
unfolding same
same_said (Answer xs) (Answer ys) = same xs ys
same_said (Answer xs) (Refusal n ys) = false
same_said (Refusal n xs) (Answer ys) = false
same_said (Refusal n xs) (Refusal k ys) = eqb n k && same xs ys

shape_of : Settings → ℕ → List ℕ
unfolding slice_len log_len slices scale layouts stride ring_len rotations per_bucket ring_slots entries work_words least_from log_up least_power
shape_of s z = slice_len s ∷ slices s ∷ scale s ∷ stride s ∷ ring_len s ∷ rotations s ∷ ring_slots s ∷ entries s ∷ work_words s z ∷ []

-- what is lent: as long as it must be, and not empty
unfoldable pub lent_for : Input → Lent
unfolding slice_len log_len slices scale layouts stride ring_len per_bucket ring_slots work_words least_from log_up least_power size_of largest_of largest work_needed
lent_for i = record { seeds = i.settings.buckets; bitmap = 1; work = work_needed i }

-- to unfold `runs` is to unfold all that its line names
unfoldable pub runs : Bool → Input → Said → List ℕ → List ℕ → List ℕ → Bool
unfolding same_said same lent_for slice_len log_len slices scale layouts bucket_of slice_of offset_of quotient first layout_offset position stride ring_len rotations per_bucket ring_slots entries work_words least_from log_up least_power size_of keys_of weight_entry weight held priority goes_first nonempty turn turns order is_first barred unbarred candidates seed_of slots_of fits price cost cheaper candidate_fits fitting seed_of_least seed_for takes given marks seed_in first_zero word_of bitmap_of final_seeds final_marks final_bitmap fails_at bit slot unmarked holes_of slot_by looked_up found_slots first_of line1 line2 line3 line4 line5 line6 line7 lines_to6 lines_to7 moderate step_up rising largest_of largest line8 line9 line10 line11 line12 line13 line20 small_bucket is_home all_home sweep_lines count_values unless kept_unless placed_keys bumped_keys zero_bucket counts_of ran_answer ran_buffer chunk_gap chunk_count bound short_chunk last_chunk gap_chunk ranges_of ranges order_in orders_of sweep_turns stops_at sweep_number sweep_answer sweep_seeds sweep_bitmap work_needed
runs bump i said seeds found holes =
    let after = sweep_seeds by_low_bits (in_one bump) i (lent_for i) (replicate i.settings.buckets 7) in
    let bitmap = sweep_bitmap by_low_bits (in_one bump) i (lent_for i) (12345 ∷ []) in
    same_said (sweep_answer by_low_bits (in_one bump) i (lent_for i)) said && same after seeds && same (found_slots i.settings after i.hashes) found && same (holes_of i.settings.m bitmap) holes

rivals_of : Input → ℕ → ℕ → List ℕ
unfolding size_of keys_of slots_of fits price cost position layout_offset offset_of slice_of first quotient layouts scale slices slice_len log_len least_from log_up least_power
rivals_of i v u = indicator (ltb (cost i 0 v) (cost i 0 u)) ∷ indicator (fits i [] 0 v) ∷ indicator (fits i [] 0 u) ∷ []

weighs : ℤ → ℤ → ℕ → List ℕ
unfolding weight weight_entry held
weighs w6 w7 size = let w = weight (replicate 5 (Int.pos 0) ++ w6 ∷ w7 ∷ []) size in up w ∷ dn w ∷ []

pair_of : ℕ → List ℕ
unfolding order nonempty turns turn goes_first priority weight weight_entry held size_of
pair_of b =
    let i : Input = record {
      settings = record { m = 7; log2_slice_len = 3; ll = 0; sb = 4; buckets = b + 2 };
      weights = Int.pos 0 ∷ Int.pos 1024 ∷ replicate 5 (Int.pos 0);
      hashes = replicate 3 0;
      begins = replicate b 0 ++ 0 ∷ 1 ∷ 3 ∷ [];
      table = [];
    } in
    order by_low_bits i b (b + 2)

pub right : Sheet → Bool
unfolding same shape_of runs rivals_of weighs pair_of
right (Shape s z wanted) = same (shape_of s z) wanted
right (Run bump i said seeds found holes) = runs bump i said seeds found holes
right (Rivals i v u wanted) = same (rivals_of i v u) wanted
right (Weighs w6 w7 size wanted) = same (weighs w6 w7 size) wanted
right (Pair b wanted) = same (pair_of b) wanted

-- ---- the table

-- slice 3, ll 0, and one bucket, with zero weights
unfoldable pub small : (m sb : ℕ) → List ℕ → Input
small m sb keys = record {
  settings = record { m = m; log2_slice_len = 3; ll = 0; sb = sb; buckets = 1 };
  weights = replicate 7 (Int.pos 0);
  hashes = keys;
  begins = 0 ∷ length keys ∷ [];
  table = table;
}

-- the listing's input, with its first weight
unfoldable pub listing : (w1 : ℕ) → Input
listing w1 = record {
  settings = record { m = 7; log2_slice_len = 3; ll = 0; sb = 4; buckets = 3 };
  weights = Int.pos w1 ∷ replicate 6 (Int.pos 0);
  hashes = 2 ^ 62 ∷ (2 ^ 62 + 3) ∷ 2 ^ 63 ∷ [];
  begins = 0 ∷ 2 ∷ 3 ∷ 3 ∷ [];
  table = table;
}

pub sheets : List Sheet
unfolding small listing
sheets =
    -- P1 and P2, with z = 5
    Shape (record { m = 7; log2_slice_len = 3; ll = 0; sb = 4; buckets = 1 }) 5 (4 ∷ 4 ∷ 0 ∷ 0 ∷ 4 ∷ 16 ∷ 4096 ∷ 104 ∷ (2880 + 3 * 5) ∷ [])
    ∷ Shape (record { m = 2048; log2_slice_len = 10; ll = 2; sb = 8; buckets = 683 }) 5 (1024 ∷ 1025 ∷ 2 ∷ 4 ∷ 64 ∷ 64 ∷ 8192 ∷ 1122 ∷ (256 + 5 * 6 + 768 + 2560) ∷ [])
    -- P3
    ∷ Run true (small 7 4 (0 ∷ [])) (Answer (1 ∷ 0 ∷ 0 ∷ [])) (4 ∷ []) (0 ∷ []) (1 ∷ 2 ∷ 3 ∷ 4 ∷ 5 ∷ 6 ∷ [])
    -- P4: rotation 1 is cheapest but collides
    ∷ Rivals (small 7 4 (0 ∷ (2 ^ 62 + 3) ∷ [])) 1 4 (1 ∷ 0 ∷ 1 ∷ [])
    ∷ Run true (small 7 4 (0 ∷ (2 ^ 62 + 3) ∷ [])) (Answer (2 ∷ 0 ∷ 0 ∷ [])) (4 ∷ []) (0 ∷ 4 ∷ []) (1 ∷ 2 ∷ 3 ∷ 5 ∷ 6 ∷ [])
    -- P5: allowed, and forbidden
    ∷ Run true (small 7 4 (0 ∷ 0 ∷ [])) (Answer (0 ∷ 2 ∷ 1 ∷ [])) (0 ∷ []) [] (0 ∷ 1 ∷ 2 ∷ 3 ∷ 4 ∷ 5 ∷ 6 ∷ [])
    ∷ Run false (small 7 4 (0 ∷ 0 ∷ [])) (Refusal 14 (0 ∷ [])) (0 ∷ []) [] (0 ∷ 1 ∷ 2 ∷ 3 ∷ 4 ∷ 5 ∷ 6 ∷ [])
    -- P6 and P7
    ∷ Run true (small 7 2 (0 ∷ [])) (Answer (1 ∷ 0 ∷ 0 ∷ [])) (1 ∷ []) (1 ∷ []) (0 ∷ 2 ∷ 3 ∷ 4 ∷ 5 ∷ 6 ∷ [])
    ∷ Run true (small 1 4 (0 ∷ [])) (Answer (1 ∷ 0 ∷ 0 ∷ [])) (1 ∷ []) (0 ∷ []) []
    -- P8 and P9
    ∷ Run true (listing 0) (Answer (3 ∷ 0 ∷ 1 ∷ [])) (4 ∷ 1 ∷ 0 ∷ []) (1 ∷ 2 ∷ 3 ∷ []) (0 ∷ 4 ∷ 5 ∷ 6 ∷ [])
    ∷ Run true (listing 2048) (Answer (3 ∷ 0 ∷ 1 ∷ [])) (3 ∷ 4 ∷ 0 ∷ []) (4 ∷ 1 ∷ 2 ∷ []) (0 ∷ 3 ∷ 5 ∷ 6 ∷ [])
    -- P10 and P11
    ∷ Weighs (Int.pos 10) (Int.pos 30) 7 (30 ∷ 0 ∷ [])
    ∷ Weighs (Int.pos 10) (Int.pos 30) 9 (70 ∷ 0 ∷ [])
    ∷ Weighs (Int.negsuc (2 ^ 32 - 1)) (Int.pos (2 ^ 32)) 134 ((2 ^ 40 - 2 ^ 32) ∷ 0 ∷ [])
    ∷ Weighs (Int.negsuc (2 ^ 32 - 1)) (Int.pos (2 ^ 32)) 135 (2 ^ 40 ∷ 0 ∷ [])
    -- P12
    ∷ Pair 1023 (1024 ∷ 1023 ∷ [])
    ∷ Pair 5 (5 ∷ 6 ∷ [])
    ∷ []

pub sheets_right : T (every right sheets)
unfolding sheets right table small listing
sheets_right = tt
