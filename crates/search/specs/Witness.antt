-- Nothing is promised of an empty set: what `search` asks for is met by sheet P4 of document 01, whose cheapest free rotation has two keys on one slot, with no
-- slot marked yet; rule S's seed is then 4. Assumes nothing.
use Rattle.std.specs.Prelude.{◌≡◌, refl, List, [], ◌∷◌, true, ℕ, zero, suc, ◌+◌, ◌^◌, ◌≤◌, ◌<◌, length, replicate, get_or}
use Rattle.std.proofs.Common.{arith, lit<, lit≤}
use Rattle.std.proofs.lemmas.List.{length-replicate}
use Rattle.rules.specs.Geometry as G
use Rattle.rules.specs.Order.{Input, keys_of}
use Rattle.rules.specs.Chunks.{in_one}
use Rattle.rules.specs.Seed.{seed_for}
use Rattle.rules.specs.Numbers.{first_of, sweep_lines, bitmap_words}
use Rattle.rules.specs.Good.{Sound}
use Rattle.rules.proofs.InputLaws.{passes}
use Rattle.rules.proofs.CheckLaws.{good_usable}
use Rattle.rules.proofs.Sheets.{table, small, lent_for, runs}
use Rattle.geometry.proofs.Existing.{geometry_by}
use Rattle.rings.specs.Level.{level_ring}
use Rattle.rings.specs.LevelLaws.{shape_level}
use Rattle.rings.specs.CacheLaws.{caches_start}
use Rattle.search.specs.Searching.{Near, Searching}
use Rattle.search.specs.MarksLaws.{marks_none}

-- P4: keys 0 and 2^62 + 3
unfoldable pub two : Input
two = small 7 4 (0 ∷ (2 ^ 62 + 3) ∷ [])

two_passes : first_of (sweep_lines (in_one true) two (lent_for two)) ≡ 0
unfolding two small table runs
two_passes = refl

pub two_sound : Sound two
two_sound = (passes two (in_one true) (lent_for two) two_passes).sound

zeros : (n k : ℕ) → ◌≡◌ {A = ℕ} (get_or (replicate n 0) k 0) 0
zeros zero k = refl
zeros (suc n) zero = refl
zeros (suc n) (suc k) = zeros n k

abbrev work : List ℕ
work = replicate (G.work_words two.settings 2) 0

abbrev bitmap : List ℕ
bitmap = replicate (bitmap_words two.settings.m) 0

two_inside : 0 < two.settings.buckets
unfolding two small
two_inside = lit< tt

two_near : Near two.settings 0 0
unfolding two small runs
two_near = record { o = 0; from = lit≤ tt; to = lit< tt; oldest = lit≤ tt; close = lit< tt }

two_few : length (keys_of two 0) ≤ 2
unfolding two small runs
two_few = lit≤ tt

pub two_searching : Searching (geometry_by two.settings (good_usable two.settings two_sound.good)) (level_ring two.settings) two.table (keys_of two 0) 0 2 bitmap work
two_searching = record {
  i = two;
  marked = [];
  first = 0;
  ready = record {
    held = record {
      sound = two_sound;
      inside = two_inside;
      near = two_near;
      marks = marks_none two.settings.m;
      caches = caches_start (level_ring two.settings) (shape_level two.settings two_sound.good) work bitmap (λ k h. zeros (G.work_words two.settings 2) k) (marks_none two.settings.m).bits;
    };
    settings = refl;
    level = refl;
    prices = refl;
    hashes = refl;
    few = two_few;
    most = lit≤ tt;
    room = omega (arith, length-replicate {A = ℕ} (G.work_words two.settings 2) 0);
  };
}

pub two_seed : seed_for two [] 0 ≡ 4
unfolding two small table runs
two_seed = refl
