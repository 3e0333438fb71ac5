-- The numbers 1 to 13, 15 to 17 and 20 that a call can come back with, and the order in which each call checks. Assumes nothing.
use Rattle.std.specs.Prelude.{ℕ, ◌+◌, ◌-◌, ◌*◌, ◌/◌, ◌%◌, ◌^◌, max, Bool, cond, not, ◌&&◌, ◌||◌, List, [], ◌∷◌, ◌++◌, leb, ltb, eqb, Float, ℤ, get_or, length}
use Rattle.std.proofs.Math.IntN as Int
use Rattle.std.specs.Int.Signed.{lt_z}
use Rattle.rules.specs.declared.Settings.{Settings}
use Rattle.rules.specs.declared.How.{How}
use Rattle.rules.specs.Lists.{below, every}
use Rattle.rules.specs.Geometry.{per_bucket, entries, work_words, bucket_of}
use Rattle.rules.specs.BucketCount.{size_cap, size_fits}
use Rattle.rules.specs.Order.{Input, keys_of, size_of}
use Rattle.rules.specs.Holes.{holes_of}

-- a line of the table: its number, and whether it applies
pub record Line : Type 0 where
  pub number : ℕ
  pub applies : Bool

abbrev pub line : ℕ → Bool → Line
line n test = record { number = n; applies = test }

-- the number of the first line that applies; 0 where none does
unfoldable pub first_of : List Line → ℕ
first_of [] = 0
first_of (l ∷ ls) = cond l.applies l.number (first_of ls)

-- x outside lo..hi
abbrev pub outside : (lo hi x : ℕ) → Bool
outside lo hi x = ltb x lo || ltb hi x

-- 3: log2_slice_len outside 3..16
unfoldable pub line3 : (log2SliceLen : ℕ) → Line
line3 log2SliceLen = line 3 (outside 3 16 log2SliceLen)

-- 5: m outside 1..134,217,728
unfoldable pub line5 : (m : ℕ) → Line
line5 m = line 5 (outside 1 134217728 m)

module _ (s : Settings) where
  -- 1: sb outside 2..16
  unfoldable pub line1 : Line
  line1 = line 1 (outside 2 16 s.sb)

  -- 2: ll ≥ sb
  unfoldable pub line2 : Line
  line2 = line 2 (leb s.sb s.ll)

  -- 4: ll > 6, or log2_slice_len·2^ll > 64
  unfoldable pub line4 : Line
  line4 = line 4 (ltb 6 s.ll || ltb 64 (s.log2_slice_len * 2 ^ s.ll))

  -- 6: B even or above 67,108,865 (0 is even)
  unfoldable pub line6 : Line
  line6 = line 6 (eqb (s.buckets % 2) 0 || ltb 67108865 s.buckets)

  -- 7: p > 4,096
  unfoldable pub line7 : Line
  line7 = line 7 (ltb 4096 (per_bucket s))

  -- what a lookup checks of the settings, 1 to 6, and a sweep, 1 to 7
  unfoldable pub lines_to6 : List Line
  lines_to6 = line1 ∷ line2 ∷ line3 s.log2_slice_len ∷ line4 ∷ line5 s.m ∷ line6 ∷ []

  unfoldable pub lines_to7 : List Line
  lines_to7 = lines_to6 ++ line7 ∷ []

-- within ±2^32
unfoldable pub moderate : ℤ → Bool
moderate w = not (lt_z (Int.pos (2 ^ 32)) w) && not (lt_z w (Int.neg_ℤ (Int.pos (2 ^ 32))))

-- the entry at b is not above the next
unfoldable pub step_up : List ℕ → (b : ℕ) → Bool
step_up xs b = leb (get_or xs b 0) (get_or xs (b + 1) 0)

-- none of the first n entries is above the next
unfoldable pub rising : List ℕ → (n : ℕ) → Bool
rising xs n = every (step_up xs) (below n)

-- begins not B+1 long, not starting at 0, falling, or not ending at the hash count; or more than 67,108,864 hashes
abbrev pub begins_bad : (begins : List ℕ) → (buckets keys : ℕ) → Bool
begins_bad begins buckets keys =
    not (eqb (length begins) (buckets + 1))
    || not (eqb (get_or begins 0 0) 0)
    || not (rising begins buckets)
    || not (eqb (get_or begins buckets 0) keys)
    || ltb 67108864 keys

-- table too short, or falling within the entries needed
abbrev pub table_bad : (table : List ℕ) → (needed : ℕ) → Bool
table_bad table needed = ltb (length table) needed || not (rising table (needed - 1))

-- the largest of the sizes of a list of buckets
unfoldable pub largest_of : Input → List ℕ → ℕ
largest_of i [] = 0
largest_of i (b ∷ bs) = max (size_of i b) (largest_of i bs)

-- the lengths of what is lent for writing
pub record Lent : Type 0 where
  pub seeds : ℕ
  pub bitmap : ℕ
  pub work : ℕ

-- the same, from what a call is lent
abbrev pub lent_of : (seeds bitmap work : List ℕ) → Lent
lent_of seeds bitmap work = record { seeds = length seeds; bitmap = length bitmap; work = length work }

-- ceil(m/64)
abbrev pub bitmap_words : (m : ℕ) → ℕ
bitmap_words m = (m + 63) / 64

module _ (i : Input) where
  -- z, the largest bucket size
  unfoldable pub largest : ℕ
  largest = largest_of i (below i.settings.buckets)

  -- 8: a weight beyond ±2^32
  unfoldable pub line8 : Line
  line8 = line 8 (not (every moderate i.weights))

  -- 9: begins bad for B buckets and the hash count
  unfoldable pub line9 : Line
  line9 = line 9 (begins_bad i.begins i.settings.buckets (length i.hashes))

  -- a bucket of at most 4,096 keys
  unfoldable pub small_bucket : (b : ℕ) → Bool
  small_bucket b = leb (size_of i b) 4096

  -- 10: a bucket of more than 4,096 keys
  unfoldable pub line10 : Line
  line10 = line 10 (not (every small_bucket (below i.settings.buckets)))

  unfoldable pub is_home : (b h : ℕ) → Bool
  is_home b h = eqb (bucket_of i.settings h) b

  -- each hash of bucket b is inside it
  unfoldable pub all_home : (b : ℕ) → Bool
  all_home b = every (is_home b) (keys_of i b)

  -- 11: a hash outside its bucket
  unfoldable pub line11 : Line
  line11 = line 11 (not (every all_home (below i.settings.buckets)))

  -- 12: table bad for the entries needed
  unfoldable pub line12 : Line
  line12 = line 12 (table_bad i.table (entries i.settings))

  -- 13: seeds not B long, bitmap not ceil(m/64) long, or work under W
  unfoldable pub line13 : Lent → Line
  line13 lent =
      line 13
      (not (eqb lent.seeds i.settings.buckets)
      || not (eqb lent.bitmap (bitmap_words i.settings.m))
      || ltb lent.work (work_words i.settings largest))

-- 20: chunk count 0
unfoldable pub line20 : How → Line
line20 how = line 20 (eqb how.chunks 0)

-- what a sweep checks before it starts
unfoldable pub sweep_lines : How → Input → Lent → List Line
sweep_lines how i lent = lines_to7 i.settings ++ line8 i ∷ line20 how ∷ line9 i ∷ line10 i ∷ line11 i ∷ line12 i ∷ line13 i lent ∷ []

-- lookup checks 1 to 6, 13 (seeds only)
unfoldable pub lookup_lines : Settings → (seeds : ℕ) → List Line
lookup_lines s seeds = lines_to6 s ++ line 13 (not (eqb seeds s.buckets)) ∷ []

-- holes check 5, 13 (bitmap only), 15: hole list longer than its buffer
unfoldable pub holes_lines : (m : ℕ) → (bitmap : List ℕ) → (room : ℕ) → List Line
holes_lines m bitmap room =
    line5 m
    ∷ line 13 (not (eqb (length bitmap) (bitmap_words m)))
    ∷ line 15 (ltb room (length (holes_of m bitmap)))
    ∷ []

-- bucket count checks 3, 16: bucket size not in 1 to min(2^log2_slice_len/8, 64), NaN included; 17: k above 67,108,864
unfoldable pub count_lines : (log2SliceLen k : ℕ) → Float → List Line
count_lines log2SliceLen k size =
    line3 log2SliceLen
    ∷ line 16 (not (size_fits (size_cap log2SliceLen) size))
    ∷ line 17 (ltb 67108864 k)
    ∷ []
