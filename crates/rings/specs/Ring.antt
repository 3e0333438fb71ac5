-- Where the used ring has its slots: slot q = (64 c + i) 2^t + τ is bit i of word (c 2^t + τ) mod words. Assumes nothing.
use Rattle.std.specs.Prelude.{◌≡◌, List, ℕ, ◌+◌, ◌*◌, ◌/◌, ◌%◌, ◌^◌, ◌≤◌, ◌<◌, get_or}
use Rattle.words.specs.Bit.{bit}
use Rattle.rings.specs.declared.Ring.{Ring}

unfoldable pub word_of : (t words q : ℕ) → ℕ
word_of t words q = (q / 2 ^ t / 64 * 2 ^ t + q % 2 ^ t) % words

unfoldable pub bit_of : (t q : ℕ) → ℕ
bit_of t q = q / 2 ^ t % 64

-- whether the ring has slot q as used: 0 or 1
unfoldable pub ring_bit : (t words : ℕ) → List ℕ → ℕ → ℕ
ring_bit t words used q = bit (get_or used (word_of t words q) 0) (bit_of t q)

-- what the functions of the ring ask of its numbers: the words and n are powers of two, and 2^t divides the words
pub record Shape (g : Ring) : Type 0 where
  pub e : ℕ
  pub size : g.words ≡ 2 ^ (e + g.t)
  pub stride : g.t ≤ 16
  pub few : g.words ≤ 2 ^ 32
  pub k : ℕ
  pub ring : g.n ≡ 2 ^ k
  pub span : g.n * 2 ^ g.t ≤ 65536

-- r is the word w, which is one of the ring's
pub record Word (words w r : ℕ) : Type 0 where
  pub is : r ≡ w
  pub lt : r < words

-- a ring by its numbers
abbrev pub ring_of : (t words n rotations : ℕ) → Ring
ring_of t words n rotations = record { t = t; words = words; n = n; rotations = rotations }
