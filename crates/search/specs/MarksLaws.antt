-- A bitmap that has exactly the marked slots is rule H's bitmap of them, and the other way round; with nothing marked it is all 0. Assumes nothing.
use Rattle.std.specs.Prelude.{◌≡◌, List, [], ℕ, ◌<◌, T, replicate}
use Rattle.rules.specs.Lists.{elem}
use Rattle.rules.specs.Sweep.{bitmap_of}
use Rattle.rules.specs.Numbers.{bitmap_words}
use Rattle.rules.proofs.BitmapLaws.{bitmap_length, bitmap_words_lem, bitmap_all, bitmap_is, bitmap_none}
use Rattle.search.specs.Searching.{Marks}

pub marks_bitmap : {m : ℕ} {bitmap marked : List ℕ} → Marks m bitmap marked → bitmap ≡ bitmap_of m marked
marks_bitmap {m} {bitmap} {marked} k = bitmap_is marked m bitmap k.len k.words (λ x h. k.bits x)

pub bitmap_marks : (m : ℕ) (marked : List ℕ) → ((x : ℕ) → T (elem x marked) → x < m) → Marks m (bitmap_of m marked) marked
bitmap_marks m marked under = record { len = bitmap_length marked m; words = bitmap_words_lem marked m; bits = bitmap_all marked m under }

pub marks_none : (m : ℕ) → Marks m (replicate (bitmap_words m) 0) []
marks_none m = rw (bitmap_none m) at (bitmap_marks m [] (λ x t. absurd t))
