-- Short names for the ring, the keys and the seeds of an input's buckets. Assumes nothing.
use Rattle.std.specs.Prelude.{List, ℕ}
use Rattle.rules.specs.Geometry as G
use Rattle.rules.specs.Order.{Input, keys_of}
use Rattle.rules.specs.Seed.{Candidate, seed_of}
use Rattle.rings.specs.declared.Ring.{Ring}
use Rattle.rings.specs.Level.{level_ring}
use Rattle.ring_keys.specs.RingKey.{ring_keys}

abbrev pub ring_in : Input → Ring
ring_in i = level_ring i.settings

-- bucket b's first slot
abbrev pub start_of : Input → (b : ℕ) → ℕ
start_of i b = G.first i.settings b

-- its keys in layout r
abbrev pub row_of : Input → (b r : ℕ) → List ℕ
row_of i b r = ring_keys i.settings (G.first i.settings b) r (keys_of i b)

abbrev pub at : (r j : ℕ) → Candidate
at r j = record { r = r; j = j }

abbrev pub seed_at : Input → (r j : ℕ) → ℕ
seed_at i r j = seed_of i (record { r = r; j = j })
