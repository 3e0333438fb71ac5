-- Two orders that begin alike. Assumes nothing.
use Rattle.std.specs.Prelude.{◌≡◌, Bool, List, ◌++◌, ℕ, ◌+◌, ◌<◌, T, ltb}
use Rattle.rules.specs.Lists.{elem, count}

-- x is below b
abbrev pub under : (b x : ℕ) → Bool
under b x = ltb x b

-- both begin with the same buckets, all below b, after which neither has a bucket below b - 255
pub record Begun (b : ℕ) (one other : List ℕ) : Type 0 where
  pub both : List ℕ
  pub rest : List ℕ
  pub rest' : List ℕ
  pub one_is : one ≡ both ++ rest
  pub other_is : other ≡ both ++ rest'
  pub low : (x : ℕ) → T (elem x both) → x < b
  pub taken : (x : ℕ) → x + 255 < b → count x rest ≡ 0
  pub taken' : (x : ℕ) → x + 255 < b → count x rest' ≡ 0
