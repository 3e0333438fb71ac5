-- The ring keys of one layout: what is asked of a layout's keys, and that the slots of a rotation are the positions of the hashes under its seed.
-- Why: each holds for one hash (HashLaws), and the keys stand in the order of the hashes.
-- Assumes nothing.
use Rattle.std.specs.Prelude.{◌≡◌, refl, List, ℕ, ◌+◌, ◌-◌, ◌*◌, ◌/◌, ◌^◌, ◌≤◌, ◌<◌, length, get_or}
use Rattle.std.proofs.Common.{sym, ap, ◌∙◌, subst, arith}
use Rattle.std.proofs.lemmas.List.{get_or-map, length-map}
use Rattle.rules.specs.declared.Settings.{Settings}
use Rattle.rules.specs.Geometry.{layouts, first, position, stride, entries}
use Rattle.rules.specs.Order.{Input, keys_of}
use Rattle.rules.specs.Numbers.{bitmap_words}
use Rattle.rules.specs.Good.{Good, Sound}
use Rattle.rules.proofs.Counting.{get_d_elem}
use Rattle.rules.proofs.GeometryLaws.{len_high}
use Rattle.rings.specs.Keys.{slot_at, Key, Keys, Priced}
use Rattle.rings.specs.Place.{key_slot, Within, InMap}
use Rattle.rings.specs.Level.{level_ring}
use Rattle.ring_keys.specs.RingKey.{ring_key, ring_keys, Homes}
use Rattle.ring_keys.specs.HashLaws.{key_ok, slot_is, slot_lt, slot_within, priced_is}

-- the keys of a bucket are at home
pub homes_of : (i : Input) → Sound i → (b : ℕ) → b < i.settings.buckets → Homes i.settings b (first i.settings b) (keys_of i b)
homes_of i sound b lt k h = record {
  inside = lt;
  begins = refl;
  home = sound.grouped.home b lt (get_or (keys_of i b) k 0) (get_d_elem (keys_of i b) k h);
}

-- whatever holds of each hash's ring key holds of the layout's keys
pub each : (s : Settings) (start : ℕ) (hashes : List ℕ) (P : ℕ → Type 0) (r : ℕ) → ((i : ℕ) → i < length hashes → P (ring_key s start r (get_or hashes i 0)))
    → (i : ℕ) → i < length (ring_keys s start r hashes) → P (get_or (ring_keys s start r hashes) i 0)
each s start hashes P r h i lt =
    let l : i < length hashes = rw (length-map hashes (ring_key s start r)) at lt in
    subst P (sym (get_or-map (ring_key s start r) hashes i 0 0 l)) (h i l)

-- the table entries needed are few
pub entries_few : (s : Settings) → Good s → entries s ≤ 2 ^ 31
unfolding entries
entries_few s good = omega (arith, good.share, len_high s good.slice_high)

module _ (s : Settings) (good : Good s) (b start : ℕ) (hashes : List ℕ) (at : Homes s b start hashes) where
  pub keys_ok : (r : ℕ) → Keys (ring_keys s start r hashes) start
  keys_ok r = each s start hashes (Key start) r (λ i lt. key_ok s good b start (get_or hashes i 0) (at i lt) r)

  pub keys_priced : (r : ℕ) → Priced (level_ring s) (entries s) (ring_keys s start r hashes)
  keys_priced r = each s start hashes (λ (d : ℕ). d / 2 ^ 32 + ((level_ring s).n - 1) * 2 ^ (level_ring s).t < entries s) r (λ i lt. priced_is s good b start (get_or hashes i 0) (at i lt) r)

  module _ (r : ℕ) (lt : r < layouts s) where
    -- the slot of key i at rotation j is that of hash i under seed j·L + r
    pub key_slot_lem : (j i : ℕ) → i < length hashes → key_slot (level_ring s) (ring_keys s start r hashes) start j i ≡ position s (j * layouts s + r) (get_or hashes i 0)
    key_slot_lem j i h =
        ap (λ (d : ℕ). slot_at (level_ring s) start d j) (get_or-map (ring_key s start r) hashes i 0 0 h)
        ∙ slot_is s good b start (get_or hashes i 0) (at i h) r lt j

    pub keys_within : (base o j : ℕ) → base ≤ first s o → first s o < base + 64 * 2 ^ stride s → o ≤ b → b < o + 256
        → (i : ℕ) → i < length (ring_keys s start r hashes) → Within (level_ring s) base (key_slot (level_ring s) (ring_keys s start r hashes) start j i)
    keys_within base o j lo hi le near =
        each s start hashes (λ (d : ℕ). Within (level_ring s) base (slot_at (level_ring s) start d j)) r
        (λ i h. slot_within s good b start (get_or hashes i 0) (at i h) r lt base o j lo hi le near)

    -- the bitmap of the m slots has them all
    pub keys_in_map : (j : ℕ) → InMap (level_ring s) (ring_keys s start r hashes) start j (bitmap_words s.m)
    keys_in_map j =
        each s start hashes (λ (d : ℕ). slot_at (level_ring s) start d j < 64 * bitmap_words s.m) r
        (λ i h. omega (arith, slot_lt s good b start (get_or hashes i 0) (at i h) r lt j))
