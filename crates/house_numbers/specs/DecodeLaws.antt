-- One more byte, case by case, and the number at a place, byte by byte. Assumes nothing.
use Rattle.std.specs.Prelude.{Option, Some, None, ℕ, zero, suc, ◌+◌, ◌-◌, ◌*◌, ◌/◌, ◌%◌, ◌^◌, ◌≤◌, ◌<◌, ◌≡◌, List, length, drop, get_or}
use Rattle.std.proofs.Common.{arith, add-one, pow-suc, le-div_iff_mul-le, lt_of_not-le, mod-eq_of_lt, sym, ◌∙◌, drop_of_length-le, pow-add, pow_pos, drop-cons}
use Rattle.std.proofs.Math.Path.{refl, ap}
use borrow.Author.Tests.{lt-ltb, le-ltb, le-leb, lt-leb}
use Rattle.house_numbers.specs.declared.Part.{Part}
use Rattle.house_numbers.specs.declared.Decoded.{Decoded}
use Rattle.house_numbers.specs.declared.Grown.{Grown}
use Rattle.house_numbers.specs.declared.Grown.TheVariants as Grow
use Rattle.house_numbers.specs.Decode.{read_number, found, grown_value, grown_to, grown_by, settled, decoded_from}

-- the number and the place of what was found
module _ (v w m n : ℕ) (e : found v m ≡ found w n) where
  same : read_number v m ≡ read_number w n
  same = cc

  pub found_value : v ≡ w
  found_value = ap (λ (d : Decoded). d.value) same

  pub found_next : m ≡ n
  found_next = ap (λ (d : Decoded). d.next) same

-- 128 is seven bits
pub pow_groups : (g : ℕ) → 128 ^ g ≡ 2 ^ (7 * g)
pow_groups zero = refl
pow_groups (suc g) =
    pow-suc 128 g
    ∙ ap (λ (x : ℕ). x * 128) (pow_groups g)
    ∙ sym (pow-add 2 (7 * g) 7)
    ∙ ap (λ (x : ℕ). 2 ^ x) (omega arith)

-- the test for room: g · 2^s fits above v exactly where g is at most what is left, shifted down
module _ (v g s : ℕ) (fits : v < 2 ^ 64) where
  pub no_room : (2 ^ 64 - 1 - v) / 2 ^ s < g → 2 ^ 64 ≤ v + g * 2 ^ s
  no_room h =
      let more : 2 ^ 64 - 1 - v < g * 2 ^ s = lt_of_not-le (λ (l : g * 2 ^ s ≤ 2 ^ 64 - 1 - v). let r : g ≤ (2 ^ 64 - 1 - v) / 2 ^ s = (le-div_iff_mul-le (pow_pos s)).1 l in omega arith) in
      omega arith

  pub room : g ≤ (2 ^ 64 - 1 - v) / 2 ^ s → v + g * 2 ^ s < 2 ^ 64
  room h =
      let most : g * 2 ^ s ≤ 2 ^ 64 - 1 - v = (le-div_iff_mul-le (pow_pos s)).0 h in
      omega arith

  -- then no bit is lost by the shift
  pub shifted : g ≤ (2 ^ 64 - 1 - v) / 2 ^ s → (g * 2 ^ s) % 2 ^ 64 ≡ g * 2 ^ s
  shifted h = mod-eq_of_lt (omega (arith, room h))

module _ (p : Part) (b : ℕ) where
  pub grown_long : 9 < p.groups → None ≡ grown_by p b
  unfolding grown_by
  grown_long h = rw (lt-ltb 9 p.groups h) refl

  pub grown_wide : p.groups ≤ 9 → 2 ^ 64 ≤ grown_value p b → None ≡ grown_by p b
  unfolding grown_by
  grown_wide g h = rw (le-ltb 9 p.groups g, le-leb (2 ^ 64) (grown_value p b) h) refl

  pub grown_whole : p.groups ≤ 9 → grown_value p b < 2 ^ 64 → b < 128 → Some (Grow.Whole (grown_value p b)) ≡ grown_by p b
  unfolding grown_by grown_to
  grown_whole g h l = rw (le-ltb 9 p.groups g, lt-leb (2 ^ 64) (grown_value p b) h, lt-ltb b 128 l) refl

  pub grown_more : p.groups ≤ 9 → grown_value p b < 2 ^ 64 → 128 ≤ b → Some (Grow.More (record { value = grown_value p b; groups = p.groups + 1 })) ≡ grown_by p b
  unfolding grown_by grown_to
  grown_more g h l = rw (le-ltb 9 p.groups g, lt-leb (2 ^ 64) (grown_value p b) h, le-ltb b 128 l) refl

-- the number at a place, from the byte there
module _ (bytes : List ℕ) (at : ℕ) (p : Part) where
  pub from_end : length bytes ≤ at → decoded_from at (drop at bytes) p ≡ None
  unfolding decoded_from
  from_end h = rw (drop_of_length-le bytes h) refl

  pub from_byte : at < length bytes → decoded_from at (drop at bytes) p ≡ settled (grown_by p (get_or bytes at 0)) (at + 1) (decoded_from (at + 1) (drop (at + 1) bytes))
  unfolding decoded_from
  from_byte h = rw (drop-cons bytes at 0 h) (rw (add-one) refl)

  module _ (inside : at < length bytes) (g : Option Grown) (e : g ≡ grown_by p (get_or bytes at 0)) where
    from_grown : settled g (at + 1) (decoded_from (at + 1) (drop (at + 1) bytes)) ≡ decoded_from at (drop at bytes) p
    from_grown = ap (λ (x : Option Grown). settled x (at + 1) (decoded_from (at + 1) (drop (at + 1) bytes))) e ∙ sym (from_byte inside)

    pub from_more : (q : Part) → g ≡ Some (Grow.More q) → decoded_from (at + 1) (drop (at + 1) bytes) q ≡ decoded_from at (drop at bytes) p
    unfolding settled
    from_more q i = rw i at from_grown

    pub from_whole : (v : ℕ) → g ≡ Some (Grow.Whole v) → found v (at + 1) ≡ decoded_from at (drop at bytes) p
    unfolding settled
    from_whole v i = rw i at from_grown

    pub from_refused : g ≡ None → None ≡ decoded_from at (drop at bytes) p
    unfolding settled
    from_refused i = rw i at from_grown

-- `grow` as the code has it: the group shifted up by seven bits for each group before it
module _ (p : Part) (b : ℕ) (fits : p.value < 2 ^ 64) where
  value_shifted : grown_value p b ≡ p.value + b % 128 * 2 ^ (7 * p.groups)
  unfolding grown_value
  value_shifted = ap (λ (x : ℕ). p.value + b % 128 * x) (pow_groups p.groups)

  pub value_wide : (2 ^ 64 - 1 - p.value) / 2 ^ (7 * p.groups) < b % 128 → 2 ^ 64 ≤ grown_value p b
  value_wide h = rw value_shifted (no_room p.value (b % 128) (7 * p.groups) fits h)

  module _ (h : b % 128 ≤ (2 ^ 64 - 1 - p.value) / 2 ^ (7 * p.groups)) where
    pub value_fits : grown_value p b < 2 ^ 64
    value_fits = rw value_shifted (room p.value (b % 128) (7 * p.groups) fits h)

    pub value_is : p.value + (b % 128 * 2 ^ (7 * p.groups)) % 2 ^ 64 ≡ grown_value p b
    value_is = ap (λ (x : ℕ). p.value + x) (shifted p.value (b % 128) (7 * p.groups) fits h) ∙ sym value_shifted
