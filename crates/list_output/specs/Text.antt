-- The program's lines as bytes: a word and numbers in decimal, each after a space, and a newline. Assumes nothing.
use Rattle.std.specs.Prelude.{ℕ, zero, suc, ◌+◌, ◌/◌, ◌%◌, cond, List, [], ◌∷◌, ◌++◌, ltb, length, get_or}
use Rattle.rules.specs.Lists.{below, concat_map}
use Rattle.rules.specs.declared.Counts.{Counts}
use Rattle.groups.specs.Groups.{size_in}

-- the decimal digits of n, the most significant first: as many as it takes, and at most one more than the first number says
unfoldable pub digits_in : ℕ → (n : ℕ) → List ℕ
digits_in zero n = (48 + n) ∷ []
digits_in (suc f) n = cond (ltb n 10) ((48 + n) ∷ []) (digits_in f (n / 10) ++ (48 + n % 10) ∷ [])

-- a number below 2^64 has at most twenty
unfoldable pub decimal : (n : ℕ) → List ℕ
decimal n = digits_in 19 n

-- each number after a space
unfoldable pub fields : List ℕ → List ℕ
fields [] = []
fields (n ∷ ns) = 32 ∷ decimal n ++ fields ns

unfoldable pub line : (word ns : List ℕ) → List ℕ
line word ns = word ++ fields ns ++ 10 ∷ []

-- the words: refused, sweep, bucket, hole
abbrev pub refused_word : List ℕ
refused_word = 114 ∷ 101 ∷ 102 ∷ 117 ∷ 115 ∷ 101 ∷ 100 ∷ []

abbrev pub sweep_word : List ℕ
sweep_word = 115 ∷ 119 ∷ 101 ∷ 101 ∷ 112 ∷ []

abbrev pub bucket_word : List ℕ
bucket_word = 98 ∷ 117 ∷ 99 ∷ 107 ∷ 101 ∷ 116 ∷ []

abbrev pub hole_word : List ℕ
hole_word = 104 ∷ 111 ∷ 108 ∷ 101 ∷ []

-- `refused N`, and the bucket for 14
unfoldable pub refused_text : (number : ℕ) → (named : List ℕ) → List ℕ
refused_text number named = line refused_word (number ∷ named)

-- per bucket `bucket` with number, keys, seed
unfoldable pub bucket_line : (begins seeds : List ℕ) → (b : ℕ) → List ℕ
bucket_line begins seeds b = line bucket_word (b ∷ size_in begins b ∷ get_or seeds b 0 ∷ [])

-- per hole `hole` and its slot
unfoldable pub hole_line : (slot : ℕ) → List ℕ
hole_line slot = line hole_word (slot ∷ [])

-- one line `sweep` with m, B, keys, placed, bumped, zero, holes
unfoldable pub sweep_line : (m buckets keys : ℕ) → Counts → (holes : ℕ) → List ℕ
sweep_line m buckets keys c holes = line sweep_word (m ∷ buckets ∷ keys ∷ c.placed ∷ c.bumped ∷ c.zero ∷ holes ∷ [])

unfoldable pub done_text : (m keys : ℕ) → Counts → (begins seeds holes : List ℕ) → List ℕ
done_text m keys c begins seeds holes =
    sweep_line m (length seeds) keys c (length holes)
    ++ concat_map (bucket_line begins seeds) (below (length seeds))
    ++ concat_map hole_line holes
