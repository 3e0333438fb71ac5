-- What the numbers of an input without errors of form ask for. Assumes nothing.
use Rattle.std.specs.Prelude.{ℕ, ◌+◌, ◌-◌, ◌/◌, ◌%◌, Bool, cond, ◌||◌, List, [], ◌∷◌, map, eqb, ltb, ℤ, pos, negsuc, length, get_or, drop}
use Rattle.rules.specs.declared.Settings.{Settings}
use Rattle.rules.specs.Lists.{count_from}
use Rattle.rules.specs.Order.{Input}

-- w ≥ 0 as 2w, else -2w-1: `negsuc k` is -k-1
unfoldable pub weight_of : (n : ℕ) → ℤ
weight_of n = cond (eqb (n % 2) 0) (pos (n / 2)) (negsuc (n / 2))

-- the hashes of the groups, with so many of the present bucket still to come
unfoldable pub hashes_in : (keys : ℕ) → List ℕ → List ℕ
hashes_in keys [] = []
hashes_in keys (x ∷ xs) = cond (ltb 0 keys) (x ∷ hashes_in (keys - 1) xs) (hashes_in x xs)

-- where each bucket's keys begin, and at last where they end: there are so many hashes before, and so many of the present bucket still to come
unfoldable pub begins_in : (before keys : ℕ) → List ℕ → List ℕ
begins_in before keys [] = before ∷ []
begins_in before keys (x ∷ xs) = cond (ltb 0 keys) (begins_in (before + 1) (keys - 1) xs) (before ∷ begins_in before x xs)

module _ (ns : List ℕ) where
  -- m, log2_slice_len, ll, sb, and after the weights B
  unfoldable pub settings_of : Settings
  settings_of = record { m = get_or ns 0 0; log2_slice_len = get_or ns 1 0; ll = get_or ns 2 0; sb = get_or ns 3 0; buckets = get_or ns 12 0 }

  -- bump flag (1 allows)
  unfoldable pub bump_of : Bool
  bump_of = eqb (get_or ns 4 0) 1

  -- seven weights
  unfoldable pub weights_of : List ℤ
  weights_of = map (λ (k : ℕ). weight_of (get_or ns k 0)) (count_from 5 7)

  unfoldable pub hashes_of : List ℕ
  hashes_of = hashes_in 0 (drop 13 ns)

  unfoldable pub begins_of : List ℕ
  begins_of = begins_in 0 0 (drop 13 ns)

  -- what a sweep with a table is given
  unfoldable pub asked_input : (table : List ℕ) → Input
  asked_input table = record { settings = settings_of; weights = weights_of; hashes = hashes_of; begins = begins_of; table = table }

  -- 19: m > 1,024, B > 64, over 128 keys
  unfoldable pub over_size : Bool
  over_size = ltb 1024 settings_of.m || (ltb 64 settings_of.buckets || ltb 128 (length hashes_of))
