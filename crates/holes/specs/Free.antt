-- The holes of one word of the bitmap. Assumes nothing.
use Rattle.std.specs.Prelude.{List, ℕ, ◌-◌, ◌*◌, ◌%◌, ◌^◌, min, get_or}

-- the complement of a word that is the w-th, cut to the slots below m
unfoldable pub free_bits : (m w word : ℕ) → ℕ
free_bits m w word = ((2 ^ 64 - 1) - word) % 2 ^ min 64 (m - w * 64)

-- of word w of the bitmap
abbrev pub free_word : (m : ℕ) → (bitmap : List ℕ) → (w : ℕ) → ℕ
free_word m bitmap w = free_bits m w (get_or bitmap w 0)
