-- The slots of a layout's keys at a rotation. Assumes nothing.
use Rattle.std.specs.Prelude.{◌≡◌, List, map, ℕ, ◌<◌, length}
use Rattle.rings.specs.declared.Ring.{Ring}
use Rattle.rings.specs.Ring.{ring_bit}
use Rattle.rings.specs.Keys.{slot_at}
use Rattle.rings.specs.Place.{key_slot, Within}

unfoldable pub slots_at : (g : Ring) (start : ℕ) (keys : List ℕ) (j : ℕ) → List ℕ
slots_at g start keys j = map (λ (d : ℕ). slot_at g start d j) keys

-- none of the keys' slots at rotation j is used
abbrev pub Unused : (g : Ring) (used : List ℕ) (start : ℕ) (keys : List ℕ) (j : ℕ) → Type 0
Unused g used start keys j = (m : ℕ) → m < length keys → ring_bit g.t g.words used (key_slot g keys start j m) ≡ 0

-- the keys' slots lie in one stretch of the ring at each of its n rotations
pub record Reached (g : Ring) (start : ℕ) (keys : List ℕ) : Type 0 where
  pub base : ℕ
  pub near : (j m : ℕ) → j < g.n → m < length keys → Within g base (key_slot g keys start j m)
