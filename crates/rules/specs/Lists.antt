-- Lists of numbers, and "the first under an order": what the rules are written with. Assumes nothing.
use Rattle.std.specs.Prelude.{ℕ, zero, suc, ◌+◌, ◌-◌, ◌*◌, Bool, true, false, not, cond, ◌&&◌, ◌||◌, List, [], ◌∷◌, ◌++◌, ltb, eqb, ℤ}
use Rattle.std.specs.Int.Signed.{lt_z}

-- i, i + 1, .., n numbers in all
abbrev pub count_from : ℕ → ℕ → List ℕ
count_from i zero = []
count_from i (suc n) = i ∷ count_from (suc i) n

-- the numbers below n, ascending
abbrev pub below : ℕ → List ℕ
below n = count_from 0 n

-- the numbers from lo up to hi, hi left out, ascending
abbrev pub between : ℕ → ℕ → List ℕ
between lo hi = count_from lo (hi - lo)

abbrev pub elem : ℕ → List ℕ → Bool
elem x [] = false
elem x (y ∷ ys) = eqb x y || elem x ys

abbrev pub indicator : Bool → ℕ
indicator true = 1
indicator false = 0

-- the number of a row of bits, the low bit first
abbrev pub number : List Bool → ℕ
number [] = 0
number (b ∷ bs) = indicator b + 2 * number bs

-- how often x stands in the list
abbrev pub count : ℕ → List ℕ → ℕ
count x [] = 0
count x (y ∷ ys) = indicator (eqb x y) + count x ys

-- the list without the first x
abbrev pub remove : ℕ → List ℕ → List ℕ
remove x [] = []
remove x (y ∷ ys) = cond (eqb x y) ys (y ∷ remove x ys)

abbrev pub sum : List ℕ → ℕ
sum [] = 0
sum (x ∷ xs) = x + sum xs

-- none of xs is in marked
abbrev pub all_free : List ℕ → List ℕ → Bool
all_free marked [] = true
all_free marked (x ∷ xs) = not (elem x marked) && all_free marked xs

-- no two of xs are alike
abbrev pub distinct : List ℕ → Bool
distinct [] = true
distinct (x ∷ xs) = not (elem x xs) && distinct xs

module _ {A : Type 0} where
  abbrev pub concat_map : (A → List ℕ) → List A → List ℕ
  concat_map f [] = []
  concat_map f (x ∷ xs) = f x ++ concat_map f xs

  -- the sum of f over the list
  abbrev pub total : (A → ℕ) → List A → ℕ
  total f [] = 0
  total f (x ∷ xs) = f x + total f xs

  -- the test passes at each element
  abbrev pub every : (A → Bool) → List A → Bool
  every p [] = true
  every p (x ∷ xs) = p x && every p xs

  abbrev pub keep : Bool → A → List A → List A
  keep true x xs = x ∷ xs
  keep false x xs = xs

  -- the elements at which the test passes
  abbrev pub filter : (A → Bool) → List A → List A
  filter p [] = []
  filter p (x ∷ xs) = keep (p x) x (filter p xs)

  -- orders, as tests "x goes before y": by the smaller number, by the greater integer
  abbrev pub smaller : (A → ℕ) → A → A → Bool
  smaller key x y = ltb (key x) (key y)

  abbrev pub greater : (A → ℤ) → A → A → Bool
  greater key x y = lt_z (key y) (key x)

  -- by the first order, and where it does not tell by the second
  abbrev pub then_by : (A → A → Bool) → (A → A → Bool) → A → A → Bool
  then_by f g x y = f x y || (not (f y x) && g x y)

  -- of a and the elements of xs the one that goes before the others
  abbrev pub best : (A → A → Bool) → A → List A → A
  best before a [] = a
  best before a (b ∷ bs) = let c = best before b bs in cond (before c a) c a
