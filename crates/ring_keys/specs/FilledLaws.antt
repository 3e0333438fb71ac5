-- The ring keys in the work words: the part of layout r is the list of its ring keys, and what is asked of each key holds of all the words.
-- Why: word r·size + i is the ring key of hash i in layout r, with r and i its quotient and remainder by size.
-- Assumes nothing.
use Rattle.std.specs.Prelude.{◌≡◌, List, ℕ, zero, suc, ◌+◌, ◌-◌, ◌*◌, ◌/◌, ◌%◌, ◌^◌, ◌≤◌, ◌<◌, length, get_or, drop}
use Rattle.std.proofs.Common.{sym, ap, ◌∙◌, subst, ⊎_elim, arith, mod-lt, div-lt_iff_lt-mul, div-add-mod', mul-le-mul_right, length-take, length-drop, ext_get_or}
use Rattle.std.proofs.lemmas.List.{get_or-map, length-map}
use Rattle.words.specs.Cases.{lt_or_ge}
use Rattle.rules.specs.declared.Settings.{Settings}
use Rattle.rules.specs.Geometry.{layouts, entries}
use Rattle.rules.specs.Good.{Good}
use Rattle.rings.specs.Keys.{Key, Keys, Priced}
use Rattle.rings.specs.Parts.{part, part_at, length_part, elem_same}
use Rattle.rings.specs.Level.{level_ring}
use Rattle.ring_keys.specs.RingKey.{ring_key, ring_keys, Homes, KeysFilled}
use Rattle.ring_keys.specs.HashLaws.{key_ok, priced_is}

-- a part of a part
pub part_part : (l : List ℕ) (at count from size : ℕ) → from + size ≤ count → part (part l at count) from size ≡ part l (at + from) size
part_part l at count from size h =
    ext_get_or 0 (part (part l at count) from size) (part l (at + from) size)
    (simp (length-take, length-drop) (omega arith))
    (λ i hi.
    let lt : i < size = omega (arith, length-take size (drop from (part l at count))) in
    let e : at + (from + i) ≡ at + from + i = omega arith in
    part_at (part l at count) from size i lt ∙ part_at l at count (from + i) (omega arith) ∙ ap (λ (k : ℕ). get_or l k 0) e ∙ sym (part_at l (at + from) size i lt))

positive : (a c k : ℕ) → k < a * c → 0 < c
positive a zero k l = absurd (let z : ⊥ = omega arith in z)
positive a (suc c) k l = omega arith

module _ {s : Settings} {hashes : List ℕ} {start at : ℕ} {old now : List ℕ} (room : at + layouts s * length hashes ≤ length old) (f : KeysFilled s hashes start at old now) where
  row_end : (r : ℕ) → r < layouts s → r * length hashes + length hashes ≤ layouts s * length hashes
  row_end r lt = omega (arith, mul-le-mul_right (length hashes) lt)

  -- layout r's part
  pub filled_part : (r : ℕ) → r < layouts s → part now (at + r * length hashes) (length hashes) ≡ ring_keys s start r hashes
  filled_part r lt =
      let n : length (part now (at + r * length hashes) (length hashes)) ≡ length hashes = length_part now (at + r * length hashes) (length hashes) (omega (arith, f.len, row_end r lt)) in
      ext_get_or 0 (part now (at + r * length hashes) (length hashes)) (ring_keys s start r hashes)
      (n ∙ sym (length-map hashes (ring_key s start r)))
      (λ i hi.
      let h : i < length hashes = omega (arith, n) in
      part_at now (at + r * length hashes) (length hashes) i h ∙ f.key r i lt h ∙ sym (get_or-map (ring_key s start r) hashes i 0 0 h))

  -- the same part, of the part that has all layouts' keys
  pub filled_layout : (r : ℕ) → r < layouts s → part (part now at (layouts s * length hashes)) (r * length hashes) (length hashes) ≡ ring_keys s start r hashes
  filled_layout r lt = part_part now at (layouts s * length hashes) (r * length hashes) (length hashes) (row_end r lt) ∙ filled_part r lt

  -- every word by its quotient and remainder
  pub filled_word : (k : ℕ) → k < layouts s * length hashes → (k / length hashes < layouts s) × (k % length hashes < length hashes) × (get_or now (at + k) 0 ≡ ring_key s start (k / length hashes) (get_or hashes (k % length hashes) 0))
  filled_word k lt =
      let some : 0 < length hashes = positive (layouts s) (length hashes) k lt in
      let q : k / length hashes < layouts s = (div-lt_iff_lt-mul {k = length hashes} {x = k} {y = layouts s} some).1 lt in
      let m : k % length hashes < length hashes = mod-lt k some in
      let e : at + k ≡ at + k / length hashes * length hashes + k % length hashes = omega (arith, div-add-mod' k (length hashes)) in
      (q, m, ap (λ (x : ℕ). get_or now x 0) e ∙ f.key (k / length hashes) (k % length hashes) q m)

  -- whatever holds of each hash's ring key in each layout holds of all the words
  pub filled_each : (P : ℕ → Type 0) → ((r i : ℕ) → r < layouts s → i < length hashes → P (ring_key s start r (get_or hashes i 0)))
      → (k : ℕ) → k < length (part now at (layouts s * length hashes)) → P (get_or (part now at (layouts s * length hashes)) k 0)
  filled_each P h k hk =
      let n : length (part now at (layouts s * length hashes)) ≡ layouts s * length hashes = length_part now at (layouts s * length hashes) (omega (arith, f.len)) in
      let lt : k < layouts s * length hashes = omega (arith, n) in
      let w = filled_word k lt in
      subst P (sym (part_at now at (layouts s * length hashes) k lt ∙ w.2)) (h (k / length hashes) (k % length hashes) w.0 w.1)

  module _ (good : Good s) (b : ℕ) (homes : Homes s b start hashes) where
    pub filled_ok : Keys (part now at (layouts s * length hashes)) start
    filled_ok = filled_each (Key start) (λ r i lt h. key_ok s good b start (get_or hashes i 0) (homes i h) r)

    pub filled_priced : Priced (level_ring s) (entries s) (part now at (layouts s * length hashes))
    filled_priced =
        filled_each (λ (d : ℕ). d / 2 ^ 32 + ((level_ring s).n - 1) * 2 ^ (level_ring s).t < entries s)
        (λ r i lt h. priced_is s good b start (get_or hashes i 0) (homes i h) r)

-- no other words are filled
pub filled_unique : {s : Settings} {hashes : List ℕ} {start at : ℕ} {old now now' : List ℕ} → at + layouts s * length hashes ≤ length old
    → KeysFilled s hashes start at old now → KeysFilled s hashes start at old now' → now ≡ now'
filled_unique {s} {hashes} {start} {at} {old} {now} {now'} room f f' =
    ext_get_or 0 now now' (f.len ∙ sym f'.len) (λ k h. ⊎_elim (before k) (λ (ge : at ≤ k). ⊎_elim (within k ge) (beyond k) (lt_or_ge k (at + layouts s * length hashes))) (lt_or_ge k at))
  where
    before : (k : ℕ) → k < at → get_or now k 0 ≡ get_or now' k 0
    before k l = elem_same now now' at k l (f.front ∙ sym f'.front)

    within : (k : ℕ) → at ≤ k → k < at + layouts s * length hashes → get_or now k 0 ≡ get_or now' k 0
    within k ge l =
        let lt : k - at < layouts s * length hashes = omega arith in
        let e : at + (k - at) ≡ k = omega arith in
        rw e at ((filled_word room f (k - at) lt).2 ∙ sym (filled_word room f' (k - at) lt).2)

    beyond : (k : ℕ) → at + layouts s * length hashes ≤ k → get_or now k 0 ≡ get_or now' k 0
    beyond k l = f.after k l ∙ sym (f'.after k l)
