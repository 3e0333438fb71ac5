-- The listing P9 checked, by computation: accepted as it is, and refused with each of the numbers once it is spoilt. What is defined here computes, and is no
-- sentence that nothing meets. Assumes nothing.
use mathlib.Core.Path.{◌≡◌, refl}
use mathlib.Core.List.{List, [], ◌∷◌}
use Prim.Native.Nat.{ℕ, ◌+◌, ◌^◌}
use Rattle.integers.specs.Power.{least_from, log_up, least_power}
use Rattle.rules.specs.Geometry.{slice_len, log_len, slices, scale, layouts, bucket_of, slice_of, offset_of, layout_offset, position, per_bucket}
use Rattle.rules.specs.Order.{size_of, keys_of}
use Rattle.rules.specs.Seed.{slots_of}
use Rattle.rules.specs.Sweep.{takes, word_of, bitmap_of}
use Rattle.rules.specs.Numbers.{first_of, line1, line2, line3, line4, line5, line6, line7, line9, line10, line11, lines_to6, lines_to7, step_up, rising, small_bucket, is_home, all_home}
use Rattle.rules.specs.Answers.{Said, Answer, Refusal, unless}
use Rattle.level_check.specs.Check.{level_of, seed_fits, again, after, good_seed, slots_at, placed_slots, lowest, check_lines, level_answer, check_answer}

unfoldable pub checked_by : (seeds : List ℕ) → (word : ℕ) → (scratch : List ℕ) → Said
unfolding least_from log_up least_power slice_len log_len slices scale layouts bucket_of slice_of offset_of layout_offset position per_bucket size_of keys_of slots_of takes word_of bitmap_of first_of line1 line2 line3 line4 line5 line6 line7 line9 line10 line11 lines_to6 lines_to7 step_up rising small_bucket is_home all_home unless seed_fits again after good_seed slots_at placed_slots lowest check_lines level_answer check_answer
checked_by seeds word scratch =
    check_answer (level_of (record { m = 7; log2_slice_len = 3; ll = 0; sb = 4; buckets = 3 }) (2 ^ 62 ∷ (2 ^ 62 + 3) ∷ 2 ^ 63 ∷ []) (0 ∷ 2 ∷ 3 ∷ 3 ∷ [])) seeds (word ∷ []) scratch

-- slots 1, 2 and 4
pub listing : checked_by (3 ∷ 4 ∷ 0 ∷ []) 22 (9 ∷ []) ≡ Answer []
unfolding checked_by
listing = refl

-- a seed of 2^sb; a nonzero one for the empty bucket; a slot that bucket 1 meets again; a hole marked; a spare bit set; no scratch
pub spoilt : (checked_by (16 ∷ 4 ∷ 0 ∷ []) 22 (9 ∷ []) ≡ Refusal 28 [])
    × (checked_by (3 ∷ 4 ∷ 1 ∷ []) 22 (9 ∷ []) ≡ Refusal 28 [])
    × (checked_by (3 ∷ 2 ∷ 0 ∷ []) 22 (9 ∷ []) ≡ Refusal 29 (1 ∷ []))
    × (checked_by (3 ∷ 4 ∷ 0 ∷ []) 23 (9 ∷ []) ≡ Refusal 30 [])
    × (checked_by (3 ∷ 4 ∷ 0 ∷ []) (22 + 2 ^ 63) (9 ∷ []) ≡ Refusal 30 [])
    × (checked_by (3 ∷ 4 ∷ 0 ∷ []) 22 [] ≡ Refusal 13 [])
unfolding checked_by
spoilt = (refl, refl, refl, refl, refl, refl)
