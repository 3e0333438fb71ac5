-- How long a file can be: 16 bytes, 3 for each seed and 4 for each hole. A number below 128^k has at most k groups, and all numbers of a level that can be written are
-- small. Assumes nothing.
use Prim.Native.Nat.{ℕ, ◌+◌, ◌-◌, ◌*◌, ◌/◌, ◌^◌, ◌≤◌, ◌<◌}
use native.Mathlib.Omega.{arith}
use native.Mathlib.Decide.{dec_lt}
use mathlib.Core.Logic.{by_cases}
use mathlib.Core.Bool.{not}
use mathlib.Core.List.{List, [], ◌∷◌}
use lib.Dec.{T}
use lib.ListN.{length}
use lib.Pow.{pow_mono}
use borrow.Author.Tests.{leb-false}
use Rattle.rules.specs.declared.Settings.{Settings}
use Rattle.rules.specs.Good.{Good}
use Rattle.rules.proofs.Tests.{is_false, and_left, and_right}
use Rattle.house_numbers.specs.Encode.{encoded}
use Rattle.house_numbers.specs.EncodeLaws.{length_small, length_large}
use Rattle.level_file.specs.Format.{Level, gaps_from, file_of, bytes_of, not_below, seed_bad, all_but, seeds_fine, holes_fine, Writable}
use Rattle.level_file.proofs.Accepts.{hole_facts, holes_few}
use Rattle.level_file.proofs.MeasureLaws.{bytes_cons, bytes_nil, head_length}
use Rattle.level_file.proofs.WriteLaws.{file_length}

-- one group more where all but the lowest have so many
more : (k v : ℕ) → v < 2 ^ 64 → length (encoded (v / 128)) ≤ k → length (encoded v) ≤ k + 1
more k v small h =
    by_cases (dec_lt v 128) (λ (s : v < 128). omega (arith, length_small v s)) (λ (s : v < 128 → ⊥). omega (arith, length_large v small (omega arith), h))

two : (v : ℕ) → v < 16384 → length (encoded v) ≤ 2
two v h = let below : v / 128 < 128 = omega arith in more 1 v (omega arith) (omega (arith, length_small (v / 128) below))

three : (v : ℕ) → v < 2097152 → length (encoded v) ≤ 3
three v h = more 2 v (omega arith) (two (v / 128) (omega arith))

four : (v : ℕ) → v < 268435456 → length (encoded v) ≤ 4
four v h = more 3 v (omega arith) (three (v / 128) (omega arith))

seeds_room : (s : Settings) → Good s → (seeds : List ℕ) → T (seeds_fine s seeds) → length (bytes_of seeds) ≤ 3 * length seeds
unfolding seeds_fine not_below
seeds_room s g [] fine = omega (arith, bytes_nil)
seeds_room s g (v ∷ vs) fine =
    let below : v < 2 ^ s.sb = leb-false (2 ^ s.sb) v (is_false (seed_bad s v) (and_left (not (seed_bad s v)) (all_but (seed_bad s) vs) fine)) in
    let most : 2 ^ s.sb ≤ 2 ^ 16 = pow_mono g.sb_high in
    omega (arith, bytes_cons v vs, three v (omega arith), seeds_room s g vs (and_right (not (seed_bad s v)) (all_but (seed_bad s) vs) fine))

gaps_room : (m : ℕ) → m ≤ 134217728 → (before least : ℕ) (hs : List ℕ) → T (holes_fine m before least hs) → length (bytes_of (gaps_from before hs)) ≤ 4 * length hs
unfolding gaps_from
gaps_room m small before least [] fine = omega (arith, bytes_nil)
gaps_room m small before least (h ∷ hs) fine =
    let f = hole_facts m before least h hs fine in
    omega (arith, bytes_cons (h - before) (gaps_from h hs), four (h - before) (omega (arith, f.1)), gaps_room m small h 1 hs f.2)

-- The bytes that are always room enough.
pub file_room : (l : Level) → Writable l → length (file_of l) ≤ 16 + 3 * l.settings.buckets + 4 * length l.holes
file_room l w =
    let s : Settings = l.settings in
    let g : Good s = w.good in
    let count : length l.holes ≤ s.m = omega (arith, holes_few s.m 0 0 l.holes w.fine_holes) in
    omega (
      arith,
      file_length l,
      head_length s,
      w.many,
      seeds_room s g l.seeds w.fine_seeds,
      gaps_room s.m g.m_high 0 0 l.holes w.fine_holes,
      four (length l.holes) (omega (arith, g.m_high)),
      length_small 1 (omega arith),
      four s.m (omega (arith, g.m_high)),
      length_small s.log2_slice_len (omega (arith, g.slice_high)),
      length_small s.ll (omega (arith, g.ll_high)),
      length_small s.sb (omega (arith, g.sb_high)),
      four s.buckets (omega (arith, g.buckets_high)),
    )
