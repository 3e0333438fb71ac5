-- A table of logarithms of any length: entry d is 2 ^ 24 · log2 d rounded, by squarings of one word. What is asked of such a table, and what filling
-- a lent one answers and leaves. Assumes nothing.
use Rattle.std.specs.Prelude.{◌≡◌, cond, List, [], ◌∷◌, ℕ, zero, suc, ◌+◌, ◌-◌, ◌*◌, ◌/◌, ◌^◌, ◌≤◌, ◌<◌, ltb, length, get_or}
use Rattle.integers.specs.Power.{log_up}
use Rattle.rules.specs.Numbers.{Line, line, first_of, outside}
use Rattle.rules.specs.Answers.{Said, Answer, unless, kept_unless}

-- the upper word h of a square is from 2 ^ 62 on: the bit that tells whether it is from 2 ^ 63 on, and h shifted up to there
unfoldable pub digit : ℕ → ℕ
digit h = cond (ltb h (2 ^ 63)) 0 1

unfoldable pub raised : ℕ → ℕ
raised h = cond (ltb h (2 ^ 63)) (2 * h) h

-- the exponent of x / 2 ^ 63 · 2 ^ e squared n times, where x is from 2 ^ 63 to 2 ^ 64, and stays there
unfoldable pub squares : ℕ → ℕ → ℕ → ℕ
squares zero x e = e
squares (suc n) x e = let h = x * x / 2 ^ 64 in squares n (raised h) (2 * e + digit h)

-- how many bits d has
unfoldable pub bits : ℕ → ℕ
bits d = log_up (d + 1)

-- half the exponent of d squared 25 times, rounded
unfoldable pub log_entry : ℕ → ℕ
log_entry d = (squares 25 (d * 2 ^ (64 - bits d)) (bits d - 1) + 1) / 2

-- the entries of n numbers from d on
unfoldable pub logs_from : ℕ → ℕ → List ℕ
logs_from zero d = []
logs_from (suc n) d = log_entry d ∷ logs_from n (suc d)

unfoldable pub log_table : ℕ → List ℕ
log_table n = logs_from n 0

-- ---- what is asked of it

-- t is N · log2 d, or at most one away from it
pub record Close (N d t : ℕ) : Type 0 where
  pub below : 2 ^ t ≤ 2 * d ^ N
  pub above : d ^ N ≤ 2 * 2 ^ t

-- a table of n entries
pub record LogTable (n : ℕ) (table : List ℕ) : Type 0 where
  pub size : length table ≡ n
  pub entry0 : get_or table 0 0 ≡ 0
  pub near : (d : ℕ) → 1 ≤ d → d < n → Close (2 ^ 24) d (get_or table d 0)
  pub powers : (k : ℕ) → 2 ^ k < n → get_or table (2 ^ k) 0 ≡ k * 2 ^ 24
  pub never_falls : (c d : ℕ) → c ≤ d → d < n → get_or table c 0 ≤ get_or table d 0
  pub doubling : (d : ℕ) → 1 ≤ d → 2 * d < n → get_or table (2 * d) 0 ≡ get_or table d 0 + 2 ^ 24

-- ---- to fill a lent table

-- 21: length 0 or above 131,072
unfoldable pub log_lines : (entries : ℕ) → List Line
log_lines entries = line 21 (outside 1 131072 entries) ∷ []

unfoldable pub log_answer : (entries : ℕ) → Said
log_answer entries = unless (first_of (log_lines entries)) (Answer [])

-- every entry, or all kept
unfoldable pub logs_out : (before : List ℕ) → List ℕ
logs_out before = kept_unless (first_of (log_lines (length before))) before (log_table (length before))
