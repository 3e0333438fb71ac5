-- The level file: the numbers of a level and their bytes, which levels can be written, and which files describe a level. Assumes nothing.
use Rattle.std.specs.Prelude.{ℕ, ◌+◌, ◌-◌, ◌^◌, Bool, true, not, ◌&&◌, List, [], ◌∷◌, ◌++◌, ◌≡◌, T, ltb, leb, length, drop}
use Rattle.rules.specs.declared.Settings.{Settings}
use Rattle.rules.specs.Good.{Good}
use Rattle.rules.specs.Lists.{concat_map, every}
use Rattle.house_numbers.specs.Decode.{found, decoded_at}
use Rattle.house_numbers.specs.Encode.{encoded}

pub record Level : Type 0 where
  pub settings : Settings
  pub seeds : List ℕ
  pub holes : List ℕ

abbrev pub level_of : Settings → (seeds holes : List ℕ) → Level
level_of s seeds holes = record { settings = s; seeds = seeds; holes = holes }

-- ---- its numbers

-- each hole's difference from the one before
unfoldable pub gaps_from : (before : ℕ) → (holes : List ℕ) → List ℕ
gaps_from before [] = []
gaps_from before (h ∷ hs) = (h - before) ∷ gaps_from h hs

-- m, log2_slice_len, ll, sb, B
unfoldable pub settings_numbers : Settings → List ℕ
settings_numbers s = s.m ∷ s.log2_slice_len ∷ s.ll ∷ s.sb ∷ s.buckets ∷ []

-- version 1, the settings, the seeds, the hole count, the first hole and the differences
unfoldable pub numbers_of : Level → List ℕ
numbers_of l = 1 ∷ settings_numbers l.settings ++ (l.seeds ++ length l.holes ∷ gaps_from 0 l.holes)

-- ---- its bytes

unfoldable pub bytes_of : List ℕ → List ℕ
bytes_of = concat_map encoded

unfoldable pub file_of : Level → List ℕ
file_of l = bytes_of (numbers_of l)

-- ---- what may be written: settings that pass 1 to 7, B seeds below 2^sb, holes that rise and lie below m (and so are at most m)

unfoldable pub not_below : (limit v : ℕ) → Bool
not_below limit v = leb limit v

-- a seed of 2^sb or more
abbrev pub seed_bad : Settings → (seed : ℕ) → Bool
seed_bad s = not_below (2 ^ s.sb)

abbrev pub all_but : (bad : ℕ → Bool) → List ℕ → Bool
all_but bad vs = every (λ v. not (bad v)) vs

unfoldable pub seeds_fine : Settings → (seeds : List ℕ) → Bool
seeds_fine s seeds = all_but (seed_bad s) seeds

-- the holes after `before` rise by `least` and then by 1 at least, and lie below m
unfoldable pub holes_fine : (m before least : ℕ) → (holes : List ℕ) → Bool
holes_fine m before least [] = true
holes_fine m before least (h ∷ hs) = (leb (before + least) h && ltb h m) && holes_fine m h 1 hs

pub record Writable (l : Level) : Type 0 where
  pub good : Good l.settings
  pub many : length l.seeds ≡ l.settings.buckets
  pub fine_seeds : T (seeds_fine l.settings l.seeds)
  pub fine_holes : T (holes_fine l.settings.m 0 0 l.holes)

-- ---- which files describe a level

-- one house number from a place on, and what is said of the place after it
pub record Front (bytes : List ℕ) (at v : ℕ) (Rest : (next : ℕ) → Type 0) : Type 0 where
  pub next : ℕ
  pub number : decoded_at bytes at ≡ found v next
  pub rest : Rest next

-- the bytes from one place to another are these house numbers, one after the other
unfoldable pub Decodes : (bytes : List ℕ) → (numbers : List ℕ) → (at end : ℕ) → Type 0
Decodes bytes [] at end = at ≡ end
Decodes bytes (v ∷ vs) at end = Front bytes at v (λ next. Decodes bytes vs next end)

-- all bytes of a file are the numbers of the level
unfoldable pub Describes : (bytes : List ℕ) → Level → Type 0
Describes bytes l = Decodes bytes (numbers_of l) 0 (length bytes)

-- ---- a buffer with values in front, and what lay beyond

unfoldable pub filled : (values before : List ℕ) → List ℕ
filled vs before = vs ++ drop (length vs) before
