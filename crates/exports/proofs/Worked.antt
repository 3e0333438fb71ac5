-- The sizes of sheet P1 and the slots of the listing P9, by computation, with a refusal of each: what is new here computes, and gives what the document says.
-- Assumes nothing.
use mathlib.Core.Path.{◌≡◌, refl}
use mathlib.Core.List.{List, [], ◌∷◌}
use Prim.Native.Nat.{ℕ, ◌+◌, ◌-◌, ◌*◌, ◌^◌}
use Rattle.integers.specs.Power.{least_from, log_up, least_power}
use Rattle.rules.specs.Geometry.{slice_len, log_len, slices, scale, layouts, bucket_of, slice_of, offset_of, layout_offset, position, stride, ring_len, per_bucket, ring_slots, entries, work_words}
use Rattle.rules.specs.Holes.{slot_by, looked_up}
use Rattle.rules.specs.Numbers.{first_of, line1, line2, line3, line4, line5, line6, line7, lines_to6, lines_to7}
use Rattle.rules.specs.Answers.{kept_unless}
use Rattle.exports.specs.Level.{settings_of}
use Rattle.exports.specs.Told.{slot_or}
use Rattle.exports.specs.Positions.{slot_of, positions_lines, positions_number, positions_slots}
use Rattle.exports.specs.Sizes.{sizes_lines, sizes_number, sizes_after}

-- the numbers, and what a place that held 9 has afterwards
unfoldable pub sizes_by : (z : ℕ) → List ℕ
unfolding least_from log_up least_power slice_len log_len slices scale layouts stride ring_len per_bucket ring_slots entries work_words first_of line1 line2 line3 line4 line5 line6 line7 lines_to6 lines_to7 kept_unless sizes_lines sizes_number sizes_after
sizes_by z = sizes_number (settings_of 7 3 0 4 1) z ∷ sizes_after (settings_of 7 3 0 4 1) z (9 ∷ 9 ∷ 9 ∷ [])

unfoldable pub slots_by : (before : List ℕ) → List ℕ
unfolding least_from log_up least_power slice_len log_len slices scale layouts bucket_of slice_of offset_of layout_offset position slot_by looked_up first_of line1 line2 line3 line4 line5 line6 lines_to6 kept_unless slot_or slot_of positions_lines positions_number positions_slots
slots_by before =
    let s = settings_of 7 3 0 4 3 in
    let seeds : List ℕ = 3 ∷ 4 ∷ 0 ∷ [] in
    let hashes : List ℕ = 2 ^ 62 ∷ (2 ^ 62 + 3) ∷ 2 ^ 63 ∷ (2 ^ 64 - 1) ∷ [] in
    positions_number s seeds hashes before ∷ positions_slots s seeds hashes before

-- P1: W = 2,880 + 3z, 104 table entries, one word; 10
pub sizes_p1 : (sizes_by 5 ≡ 0 ∷ (2880 + 3 * 5) ∷ 104 ∷ 1 ∷ []) × (sizes_by 4097 ≡ 10 ∷ 9 ∷ 9 ∷ 9 ∷ [])
unfolding sizes_by
sizes_p1 = (refl, refl)

-- P9: its three keys, and a hash of the bucket whose seed is 0; 13
pub slots_p9 : (slots_by (9 ∷ 9 ∷ 9 ∷ 9 ∷ []) ≡ 0 ∷ 4 ∷ 1 ∷ 2 ∷ (2 ^ 64 - 1) ∷ []) × (slots_by (9 ∷ []) ≡ 13 ∷ 9 ∷ [])
unfolding slots_by
slots_p9 = (refl, refl)
