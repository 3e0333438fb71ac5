-- What is known of an input that the checks did not refuse: records of plain facts that a function or a law may ask for. CheckLaws and InputLaws show that
-- each is exactly "none of its lines applies". Assumes nothing.
use Rattle.std.specs.Prelude.{◌≡◌, ℕ, ◌+◌, ◌*◌, ◌%◌, ◌^◌, ◌≤◌, ◌<◌, List, T, nat_abs, get_or, length}
use Rattle.std.proofs.Math.IntN as Int
use Rattle.rules.specs.declared.Settings.{Settings}
use Rattle.rules.specs.declared.How.{How}
use Rattle.rules.specs.Lists.{elem}
use Rattle.rules.specs.Geometry.{per_bucket, entries, work_words, bucket_of}
use Rattle.rules.specs.Order.{Input, size_of, keys_of}
use Rattle.rules.specs.Numbers.{Lent, bitmap_words, largest}

-- settings that none of 1 to 6 refuses
pub record Usable (s : Settings) : Type 0 where
  pub sb_low : 2 ≤ s.sb
  pub sb_high : s.sb ≤ 16
  pub ll_low : s.ll < s.sb
  pub slice_low : 3 ≤ s.log2_slice_len
  pub slice_high : s.log2_slice_len ≤ 16
  pub ll_high : s.ll ≤ 6
  pub layout_bits : s.log2_slice_len * 2 ^ s.ll ≤ 64
  pub m_low : 1 ≤ s.m
  pub m_high : s.m ≤ 134217728
  pub odd : s.buckets % 2 ≡ 1
  pub buckets_high : s.buckets ≤ 67108865

-- settings that none of 1 to 7 refuses
pub record Good (s : Settings) : Type 0 where
  pub sb_low : 2 ≤ s.sb
  pub sb_high : s.sb ≤ 16
  pub ll_low : s.ll < s.sb
  pub slice_low : 3 ≤ s.log2_slice_len
  pub slice_high : s.log2_slice_len ≤ 16
  pub ll_high : s.ll ≤ 6
  pub layout_bits : s.log2_slice_len * 2 ^ s.ll ≤ 64
  pub m_low : 1 ≤ s.m
  pub m_high : s.m ≤ 134217728
  pub odd : s.buckets % 2 ≡ 1
  pub buckets_high : s.buckets ≤ 67108865
  pub share : per_bucket s ≤ 4096

-- none of the first `size` entries is above a later one of them
unfoldable pub Rising : List ℕ → (size : ℕ) → Type 0
Rising xs size = (a c : ℕ) → a ≤ c → c < size → get_or xs a 0 ≤ get_or xs c 0

-- the hashes are grouped by bucket: what 9, 10 and 11 leave
pub record Grouped (i : Input) : Type 0 where
  pub long : length i.begins ≡ i.settings.buckets + 1
  pub starts : get_or i.begins 0 0 ≡ 0
  pub rises : (b : ℕ) → b < i.settings.buckets → get_or i.begins b 0 ≤ get_or i.begins (b + 1) 0
  pub ends : get_or i.begins i.settings.buckets 0 ≡ length i.hashes
  pub few : length i.hashes ≤ 67108864
  pub sizes : (b : ℕ) → b < i.settings.buckets → size_of i b ≤ 4096
  pub home : (b : ℕ) → b < i.settings.buckets → (h : ℕ) → T (elem h (keys_of i b)) → bucket_of i.settings h ≡ b

-- what 8 leaves
unfoldable pub Moderate : Input → Type 0
Moderate i = (k : ℕ) → nat_abs (get_or i.weights k (Int.pos 0)) ≤ 2 ^ 32

-- what 12 leaves of the table
pub record Priced (i : Input) : Type 0 where
  pub enough : entries i.settings ≤ length i.table
  pub climbs : Rising i.table (entries i.settings)

-- an input that none of 1 to 12 refuses
pub record Sound (i : Input) : Type 0 where
  pub good : Good i.settings
  pub moderate : Moderate i
  pub grouped : Grouped i
  pub priced : Priced i

-- with a way to sweep that 20 does not refuse, and lent buffers that 13 does not
pub record Passed (how : How) (i : Input) (lent : Lent) : Type 0 where
  pub sound : Sound i
  pub some_chunk : 1 ≤ how.chunks
  pub seeds : lent.seeds ≡ i.settings.buckets
  pub bitmap : lent.bitmap ≡ bitmap_words i.settings.m
  pub work : work_words i.settings (largest i) ≤ lent.work
