-- Ring keys: the code of `place_of` and `entry_of`, and what is known of places, entries and costs.
-- Why: n 2^t divides 2^32, so the high half of a key does not show in a place, and the mask (n - 1) 2^t keeps the digits of the place.
-- Assumes nothing.
use Rattle.std.specs.Prelude.{◌≡◌, refl, List, ℕ, ◌+◌, ◌-◌, ◌*◌, ◌/◌, ◌%◌, ◌^◌, ◌≤◌, ◌<◌, min, length, get_or}
use Rattle.std.proofs.Common.{sym, ap, ◌∙◌, ⊎_elim, arith, mod-lt, mod-eq_of_lt, mul-le-mul_right, add-one, pow_pos, pow-add}
use Rattle.std.proofs.Math.Nat.{mod-add-mod, add-mul-div_right}
use Rattle.std.specs.Int.Bits.{bit_and, bit_or}
use Rattle.std.proofs.lemmas.Nat.{and_mask}
use Rattle.words.specs.Bit.{bit}
use Rattle.words.specs.BitLaws.{bit_lt, bit_and_lem, bit_same}
use Rattle.words.specs.ShiftLaws.{bit_shr, bit_mod, bit_mod_high, bit_mask, bit_mask_high, bit_mul_low, bit_mul_high}
use Rattle.words.specs.Cases.{lt_or_ge}
use Rattle.integers.specs.Division.{mod_mod_le, mod_div_le, ring_turn}
use Rattle.integers.specs.Shifts.{pow_le_cancel}
use Rattle.rings.specs.declared.Ring.{Ring}
use Rattle.rings.specs.Ring.{Shape, Word, ring_bit, ring_of}
use Rattle.rings.specs.Rows.{Row, Ring64}
use Rattle.rings.specs.Keys.{place_at, entry_at, slot_at, Key, KeyRow, cost_to, cost_at}
use Rattle.rings.specs.RingLaws.{n_pos, step_lt}
use Rattle.rings.specs.RowLaws.{turned, ring_short}

-- ---- places

pub place_lt : (g : Ring) → Shape g → (d j : ℕ) → place_at g d j < g.n
unfolding place_at
place_lt g s d j = mod-lt (d % 2 ^ 32 / 2 ^ g.t + j) (n_pos g s)

pub place_code : (g : Ring) → Shape g → (d j : ℕ) → Word g.n (place_at g d j) (bit_and (d % 2 ^ 32 / 2 ^ g.t + j) (g.n - 1))
unfolding place_at
place_code g s d j =
    let e : bit_and (d % 2 ^ 32 / 2 ^ g.t + j) (g.n - 1) ≡ (d % 2 ^ 32 / 2 ^ g.t + j) % g.n = rw s.ring (and_mask (d % 2 ^ 32 / 2 ^ g.t + j) s.k) in
    record { is = e; lt = rw e (mod-lt (d % 2 ^ 32 / 2 ^ g.t + j) (n_pos g s)) }

-- the place of a key by its place at rotation 0
pub place_turn : (g : Ring) (d j : ℕ) → place_at g d j ≡ (place_at g d 0 + j) % g.n
unfolding place_at
place_turn g d j =
    let e : d % 2 ^ 32 / 2 ^ g.t + 0 ≡ d % 2 ^ 32 / 2 ^ g.t = omega arith in
    rw (e, mod-add-mod) refl

-- ---- entries

-- `y & ((2^k - 1) << t)`
mask_high : (y t k : ℕ) → bit_and y ((2 ^ k - 1) * 2 ^ t) ≡ y / 2 ^ t % 2 ^ k * 2 ^ t
mask_high y t k = bit_same (bit_and y ((2 ^ k - 1) * 2 ^ t)) (y / 2 ^ t % 2 ^ k * 2 ^ t) (λ i. bit_and_lem y ((2 ^ k - 1) * 2 ^ t) i ∙ at i)
  where
    at : (i : ℕ) → min (bit y i) (bit ((2 ^ k - 1) * 2 ^ t) i) ≡ bit (y / 2 ^ t % 2 ^ k * 2 ^ t) i
    at i = ⊎_elim
        (λ (h : i < t). rw (bit_mul_low t (2 ^ k - 1) i h, bit_mul_low t (y / 2 ^ t % 2 ^ k) i h) (omega arith))
        (λ (h : t ≤ i). rw (bit_mul_high t (2 ^ k - 1) i h, bit_mul_high t (y / 2 ^ t % 2 ^ k) i h) (⊎_elim
        (λ (l : i - t < k).
        let e : t + (i - t) ≡ i = omega arith in
        let b : bit (y / 2 ^ t % 2 ^ k) (i - t) ≡ bit y i = bit_mod k (y / 2 ^ t) (i - t) l ∙ bit_shr y t (i - t) ∙ ap (bit y) e in
        rw (bit_mask k (i - t) l, b) (omega (arith, bit_lt y i)))
        (λ (l : k ≤ i - t). rw (bit_mask_high k (i - t) l, bit_mod_high k (y / 2 ^ t) (i - t) l) (omega arith))
        (lt_or_ge (i - t) k)))
        (lt_or_ge i t)

-- n 2^t is at most 2^16
span_pow : (g : Ring) (s : Shape g) → s.k + g.t ≤ 16
span_pow g s = pow_le_cancel (rw (pow-add 2 s.k g.t, ← s.ring) s.span)

-- the high half does not show in a place
place_whole : (g : Ring) (s : Shape g) (d j : ℕ) → (d + j * 2 ^ g.t) / 2 ^ g.t % 2 ^ s.k ≡ place_at g d j
unfolding place_at
place_whole g s d j =
    let low : d % 2 ^ 32 / 2 ^ g.t ≡ d / 2 ^ g.t % 2 ^ (32 - g.t) = mod_div_le d 32 g.t (omega (arith, s.stride)) in
    let cut : d / 2 ^ g.t % 2 ^ (32 - g.t) % 2 ^ s.k ≡ d / 2 ^ g.t % 2 ^ s.k = mod_mod_le (d / 2 ^ g.t) (32 - g.t) s.k (omega (arith, span_pow g s)) in
    rw (add-mul-div_right d j (pow_pos g.t), s.ring, low) (
    sym (mod-add-mod (d / 2 ^ g.t) (2 ^ s.k) j)
    ∙ ap (λ (x : ℕ). (x + j) % 2 ^ s.k) (sym cut)
    ∙ mod-add-mod (d / 2 ^ g.t % 2 ^ (32 - g.t)) (2 ^ s.k) j)

pub mask_lt : (g : Ring) → Shape g → (g.n - 1) * 2 ^ g.t < 65536
mask_lt g s = step_lt g s (g.n - 1) (omega (arith, n_pos g s))

-- j 2^t of a rotation
pub turn_lt : (g : Ring) → Shape g → (j : ℕ) → j < 65536 → j * 2 ^ g.t < 2 ^ 32
turn_lt g s j h = omega (arith, mul-le-mul_right (2 ^ g.t) below, pow_le_16)
  where
    below : j ≤ 65535
    below = omega arith

    pow_le_16 : 2 ^ g.t ≤ 65536
    pow_le_16 = omega (arith, s.span, mul-le-mul_right (2 ^ g.t) (n_pos g s))

pub entry_code : (g : Ring) → Shape g → (d j : ℕ) → j < 65536
    → d / 2 ^ 32 + bit_and (d + j * 2 ^ g.t % 2 ^ 64) ((g.n - 1) * 2 ^ g.t % 2 ^ 64) ≡ entry_at g d j
unfolding entry_at
entry_code g s d j h =
    let a : j * 2 ^ g.t % 2 ^ 64 ≡ j * 2 ^ g.t = mod-eq_of_lt (omega (arith, turn_lt g s j h)) in
    let b : (g.n - 1) * 2 ^ g.t % 2 ^ 64 ≡ (g.n - 1) * 2 ^ g.t = mod-eq_of_lt (omega (arith, mask_lt g s)) in
    let n : g.n - 1 ≡ 2 ^ s.k - 1 = ap (λ (x : ℕ). x - 1) s.ring in
    rw (a, b, n, mask_high (d + j * 2 ^ g.t) g.t s.k, place_whole g s d j) refl

pub entry_ge : (g : Ring) (d j : ℕ) → d / 2 ^ 32 ≤ entry_at g d j
unfolding entry_at
entry_ge g d j = omega arith

pub entry_lt : (g : Ring) → Shape g → (entries d j : ℕ) → d / 2 ^ 32 + (g.n - 1) * 2 ^ g.t < entries → entry_at g d j < entries
unfolding entry_at
entry_lt g s entries d j h = omega (arith, mul-le-mul_right (2 ^ g.t) le)
  where
    le : place_at g d j ≤ g.n - 1
    le = omega (arith, place_lt g s d j)

pub entry_small : (g : Ring) → Shape g → (d j : ℕ) → d < 2 ^ 63 → entry_at g d j < 2 ^ 32
entry_small g s d j h = entry_lt g s (2 ^ 32) d j (omega (arith, mask_lt g s))

-- where the low half is a multiple of 2^t, as it is in each key that is made
pub entry_packed : (g : Ring) → Shape g → (d j : ℕ) → d % 2 ^ 32 % 2 ^ g.t ≡ 0 → entry_at g d j ≡ d / 2 ^ 32 + (d % 2 ^ 32 + j * 2 ^ g.t) % (g.n * 2 ^ g.t)
unfolding entry_at place_at
entry_packed g s d j h = rw (ring_turn (d % 2 ^ 32) j g.n (2 ^ g.t) (n_pos g s) (pow_pos g.t), h) (omega arith)

-- ---- a key's row

pub key_row : {g : Ring} {used : List ℕ} {d start w x r : ℕ} → Key start d → Word g.n (place_at g d (64 * w)) x
    → Ring64 g.t g.words g.n used (d / 2 ^ 32 + start - 95) x r → KeyRow g used d start w r
unfolding slot_at entry_at place_at
key_row {g} {used} {d} {start} {w} {x} {r} h hx a = record {
  at = λ j h64 hj. a.at j h64 hj ∙ ap (ring_bit g.t g.words used) (slot j);
}
  where
    place : (j : ℕ) → (x + j) % g.n ≡ (d % 2 ^ 32 / 2 ^ g.t + (64 * w + j)) % g.n
    place j =
        let e : d % 2 ^ 32 / 2 ^ g.t + 64 * w + j ≡ d % 2 ^ 32 / 2 ^ g.t + (64 * w + j) = omega arith in
        rw (hx.is, mod-add-mod, e) refl

    slot : (j : ℕ) → d / 2 ^ 32 + start - 95 + (x + j) % g.n * 2 ^ g.t ≡ d / 2 ^ 32 + (d % 2 ^ 32 / 2 ^ g.t + (64 * w + j)) % g.n * 2 ^ g.t + start - 95
    slot j = rw (place j) (omega (arith, h.ahead))

-- where n is 64 it is the row of the ring's slots, turned
pub key_row_64 : {g : Ring} {used : List ℕ} {d start row : ℕ} → Key start d → g.n ≡ 64 → row < 2 ^ 64 → Row g.t g.words used (d / 2 ^ 32 + start - 95) row
    → KeyRow g used d start 0 (bit_or (row / 2 ^ (d % 2 ^ 32 / 2 ^ g.t % 64)) (row * 2 ^ ((64 - d % 2 ^ 32 / 2 ^ g.t % 64) % 64) % 2 ^ 64))
unfolding place_at
key_row_64 {g} {used} {d} {start} {row} h hn small a =
    key_row {g = g} {w = 0} h (record { is = here; lt = rw hn place })
    (rw hn (ring_short (omega arith) place a (turned 64 row (d % 2 ^ 32 / 2 ^ g.t % 64) row (omega arith) place (sym (mod-eq_of_lt small)))))
  where
    place : d % 2 ^ 32 / 2 ^ g.t % 64 < 64
    place = mod-lt (d % 2 ^ 32 / 2 ^ g.t) (omega arith)

    here : d % 2 ^ 32 / 2 ^ g.t % 64 ≡ (d % 2 ^ 32 / 2 ^ g.t + 64 * 0) % g.n
    here = let e : d % 2 ^ 32 / 2 ^ g.t + 64 * 0 ≡ d % 2 ^ 32 / 2 ^ g.t = omega arith in rw (hn, e) refl

-- ---- costs

pub cost_none : (g : Ring) (table keys : List ℕ) (rot : ℕ) → cost_to g table keys rot 0 ≡ 0
unfolding cost_to
cost_none g table keys rot = refl

pub cost_more : (g : Ring) (table keys : List ℕ) (rot i : ℕ) → cost_to g table keys rot (i + 1) ≡ cost_to g table keys rot i + get_or table (entry_at g (get_or keys i 0) rot) 0
unfolding cost_to
cost_more g table keys rot i = rw add-one refl

pub cost_all : (g : Ring) (table keys : List ℕ) (rot : ℕ) → cost_to g table keys rot (length keys) ≡ cost_at g table keys rot
unfolding cost_at
cost_all g table keys rot = refl

-- ---- slots

pub slot_ge : (g : Ring) (start d j : ℕ) → d / 2 ^ 32 + start - 95 ≤ slot_at g start d j
unfolding slot_at
slot_ge g start d j = omega (arith, entry_ge g d j)

-- `Shape` can be met: slices of 1,024 slots, four layouts, 8 seed bits (t = 4, n = R = 64), with a ring of 8,192 slots
pub shape_default : Shape (ring_of 4 128 64 64)
shape_default = record { e = 3; size = refl; stride = omega arith; few = omega arith; k = 6; ring = refl; span = omega arith }
