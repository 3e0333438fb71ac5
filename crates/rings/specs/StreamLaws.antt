-- The words of a key's ring, read one after the other and joined by two, are its slots at all rotations.
-- Why: slots 64 2^t apart stand in neighbouring columns at one bit, so a ring's words begin at one bit of words that stand 2^t apart; and n is a multiple of
-- 64, so the ring goes round where a word ends, and 64 places from any place on are the end of one word and the beginning of the next.
-- Assumes nothing.
use Rattle.std.specs.Prelude.{◌≡◌, refl, List, ℕ, suc, ◌+◌, ◌-◌, ◌*◌, ◌/◌, ◌%◌, ◌^◌, ◌≤◌, ◌<◌, max, length, get_or, set, take}
use Rattle.std.proofs.Common.{sym, ap, ◌∙◌, inl, ⊎_elim, arith, mod-lt, mod-eq_of_lt, mul-le-mul_right, get_or-set_same, get_or-set_other}
use Rattle.std.proofs.Math.Nat.{mod-add-mod}
use Rattle.std.proofs.Math.Arith.{mod-mul}
use Rattle.std.specs.Int.Bits.{bit_and, bit_or}
use Rattle.words.specs.Bit.{bit}
use Rattle.words.specs.BitLaws.{bit_or_lem}
use Rattle.words.specs.Cases.{lt_or_ge}
use Rattle.words.specs.RowLaws.{pair_low, pair_high}
use Rattle.integers.specs.Division.{pow_div}
use Rattle.integers.specs.Shifts.{mask_is, pow_le_cancel}
use Rattle.rings.specs.declared.Ring.{Ring}
use Rattle.rings.specs.Ring.{Shape, Word, word_of, bit_of, ring_bit}
use Rattle.rings.specs.Rows.{Row, Ring64}
use Rattle.rings.specs.Keys.{place_at, entry_at, slot_at, Key, Keys}
use Rattle.rings.specs.Parts.{part, part_at, length_part, front_same, elem_same, part_same}
use Rattle.rings.specs.Free.{FilledTo}
use Rattle.rings.specs.Blocked.{Within, BegunFree, FinishedFree, Added, BlockedAll}
use Rattle.rings.specs.Stream.{RingWord, RingAdded, KeyAdded, LayoutKeys, LayoutsAdded}
use Rattle.rings.specs.RingLaws.{shape_pos, n_le, step_code}
use Rattle.rings.specs.RowLaws.{row_joined, row_div, row_mod}
use Rattle.rings.specs.KeyLaws.{place_turn}
use Rattle.rings.specs.BlockedLaws.{within_none, within_then, within_wider, within_set, within_other, begun_blocked, ring_same, blocked_added, filled_all, word_in}
use Rattle.rings.specs.FilledLaws.{whole_words}

-- ---- a word of a ring

word_on : (t words q k : ℕ) → word_of t words (q + 64 * k * 2 ^ t) ≡ (word_of t words q + k * 2 ^ t) % words
unfolding word_of
word_on t words q k =
    let a : (q / 2 ^ t + 64 * k) / 64 ≡ q / 2 ^ t / 64 + k = omega arith in
    let d : (q / 2 ^ t / 64 + k) * 2 ^ t + q % 2 ^ t ≡ q / 2 ^ t / 64 * 2 ^ t + q % 2 ^ t + k * 2 ^ t = omega arith in
    rw (row_div t q (64 * k), row_mod t q (64 * k), a, d, mod-add-mod) refl

bit_on : (t q k : ℕ) → bit_of t (q + 64 * k * 2 ^ t) ≡ bit_of t q
unfolding bit_of
bit_on t q k = rw (row_div t q (64 * k)) (omega arith)

-- `(base + (k << t)) & (words - 1)`
pub on_code : (g : Ring) → Shape g → (base k : ℕ) → 64 * k < g.n → Word g.words ((base + k * 2 ^ g.t) % g.words) (bit_and (base + k * 2 ^ g.t % 2 ^ 64) (g.words - 1))
on_code g s base k h =
    let e : bit_and (base + k * 2 ^ g.t % 2 ^ 64) (g.words - 1) ≡ (base + k * 2 ^ g.t) % g.words =
    rw (step_code g s k (omega arith)) (mask_is (base + k * 2 ^ g.t) g.words (s.e + g.t) s.size) in
    record { is = e; lt = rw e (mod-lt (base + k * 2 ^ g.t) (shape_pos g s)) }

pub ring_word : {g : Ring} {used : List ℕ} {base s k w x r : ℕ} → get_or used w 0 < 2 ^ 64 → Word g.words ((base + k * 2 ^ g.t) % g.words) w
    → Word g.words ((w + 2 ^ g.t) % g.words) x → r ≡ (get_or used x 0 * 2 ^ 64 + get_or used w 0) / 2 ^ s % 2 ^ 64 → RingWord g used base s k r
ring_word {g} {used} {base} {s} {k} {w} {x} {r} small hw hx e = record {
  row = λ first hb hs. row_joined {s = s} small
      (record { is = hw.is ∙ ap (λ (y : ℕ). (y + k * 2 ^ g.t) % g.words) hb ∙ sym (word_on g.t g.words first k); lt = hw.lt })
      hx (hs ∙ sym (bit_on g.t first k)) e;
}

-- ---- places: n is a multiple of 64

module _ (g : Ring) (s : Shape g) (h : 64 ≤ g.n) where
  place_split : (y : ℕ) → y % g.n ≡ y / 64 % (g.n / 64) * 64 + y % 64
  place_split y = ap (λ (z : ℕ). y % z) e ∙ mod-mul y {m = g.n / 64} {c = 64} (omega arith) (omega arith)
    where
      e : g.n ≡ g.n / 64 * 64
      e = omega (arith, whole_words g s h)

  place_low : (x i j : ℕ) → x % 64 + j < 64 → (x + 64 * i + j) % g.n ≡ (x / 64 + i) % (g.n / 64) * 64 + (x % 64 + j)
  place_low x i j l =
      let a : (x + 64 * i + j) / 64 ≡ x / 64 + i = omega arith in
      let b : (x + 64 * i + j) % 64 ≡ x % 64 + j = omega arith in
      rw (place_split (x + 64 * i + j), a, b) refl

  place_high : (x i j : ℕ) → j < 64 → 64 ≤ x % 64 + j → (x + 64 * i + j) % g.n ≡ (x / 64 + (i + 1)) % (g.n / 64) * 64 + (x % 64 + j - 64)
  place_high x i j hj l =
      let a : (x + 64 * i + j) / 64 ≡ x / 64 + (i + 1) = omega arith in
      let b : (x + 64 * i + j) % 64 ≡ x % 64 + j - 64 = omega arith in
      rw (place_split (x + 64 * i + j), a, b) refl

  -- `(k + 1) & (n / 64 - 1)`
  next_place : (k : ℕ) → bit_and (k + 1) (g.n / 64 - 1) ≡ (k + 1) % (g.n / 64)
  next_place k = mask_is (k + 1) (g.n / 64) (s.k - 6) (rw s.ring (pow_div s.k 6 six))
    where
      six : 6 ≤ s.k
      six = pow_le_cancel (rw s.ring at h)

  pub next_lt : (k : ℕ) → 64 * bit_and (k + 1) (g.n / 64 - 1) < g.n
  next_lt k =
      let lt : (k + 1) % (g.n / 64) < g.n / 64 = mod-lt (k + 1) (omega arith) in
      rw (next_place k) (omega arith)

-- ---- word after word of the ring

-- i words are added, and low is word k of the ring, with which the next begins
pub record Streaming (g : Ring) (l : List ℕ) (first x to i k low : ℕ) (now : List ℕ) : Type 0 where
  pub at : Word (g.n / 64) ((x / 64 + i) % (g.n / 64)) k
  pub small : low < 2 ^ 64
  pub row : Row g.t g.words l (first + 64 * k * 2 ^ g.t) low
  pub added : RingAdded g l first x to i now

pub stream_none : {g : Ring} {l : List ℕ} {first x low base s : ℕ} (to : ℕ) → Shape g → 64 ≤ g.n → x < g.n → low < 2 ^ 64
    → base ≡ word_of g.t g.words first → s ≡ bit_of g.t first → RingWord g l base s (x / 64) low → Streaming g l first x to 0 (x / 64) low l
stream_none {g} {l} {first} {x} {low} to sh hn hx small hb hs a = record {
  at = record { is = sym (ap (λ (y : ℕ). y % (g.n / 64)) z ∙ mod-eq_of_lt lt); lt = lt };
  small = small;
  row = a.row first hb hs;
  added = record { within = within_none l to 0; bits = λ i j h. absurd (omega arith) };
}
  where
    z : x / 64 + 0 ≡ x / 64
    z = omega arith

    lt : x / 64 < g.n / 64
    lt = omega (arith, whole_words g sh hn)

-- two words of the ring, joined
module _ {g : Ring} {l : List ℕ} (first x i : ℕ) {k k' low high r : ℕ} (sh : Shape g) (hn : 64 ≤ g.n) (hk : k ≡ (x / 64 + i) % (g.n / 64)) (hk' : k' ≡ (x / 64 + (i + 1)) % (g.n / 64))
    (small : low < 2 ^ 64) (a : Row g.t g.words l (first + 64 * k * 2 ^ g.t) low) (b : Row g.t g.words l (first + 64 * k' * 2 ^ g.t) high)
    (e : r ≡ (high * 2 ^ 64 + low) / 2 ^ (x % 64) % 2 ^ 64) where
  slot : (y c : ℕ) → first + 64 * y * 2 ^ g.t + c * 2 ^ g.t ≡ first + (y * 64 + c) * 2 ^ g.t
  slot y c = omega arith

  joined_low : (j : ℕ) → x % 64 + j < 64 → bit r j ≡ ring_bit g.t g.words l (first + (x + 64 * i + j) % g.n * 2 ^ g.t)
  joined_low j h =
      rw e (pair_low low high (x % 64) j small h) ∙ a.at (x % 64 + j) h ∙ ap (ring_bit g.t g.words l) (slot k (x % 64 + j) ∙ rw (hk, place_low g sh hn x i j h) refl)

  joined_high : (j : ℕ) → j < 64 → 64 ≤ x % 64 + j → bit r j ≡ ring_bit g.t g.words l (first + (x + 64 * i + j) % g.n * 2 ^ g.t)
  joined_high j hj h =
      rw e (pair_high low high (x % 64) j small hj h)
      ∙ b.at (x % 64 + j - 64) (omega arith)
      ∙ ap (ring_bit g.t g.words l) (slot k' (x % 64 + j - 64) ∙ rw (hk', place_high g sh hn x i j hj h) refl)

  joined : Ring64 g.t g.words g.n l first (x + 64 * i) r
  joined = record { at = λ j hj hn. ⊎_elim (λ (h : x % 64 + j < 64). joined_low j h) (λ (h : 64 ≤ x % 64 + j). joined_high j hj h) (lt_or_ge (x % 64 + j) 64) }

ring_added : {g : Ring} {l l' : List ℕ} {first x to i r : ℕ} → 64 ≤ g.n → to + i < length l → RingAdded g l first x to i l' → Ring64 g.t g.words g.n l first (x + 64 * i) r
    → RingAdded g l first x to (i + 1) (set l' (to + i) (bit_or (get_or l' (to + i) 0) r))
ring_added {g} {l} {l'} {first} {x} {to} {i} {r} hn lt a b = record {
  within = within_set (to + i) (bit_or (get_or l' (to + i) 0) r) (omega arith) (omega arith) (within_wider to (i + 1) (omega arith) (omega arith) a.within);
  bits = λ q j h hj. ⊎_elim
      (λ (p : q < i). rw (get_or-set_other l' (to + i) (to + q) (bit_or (get_or l' (to + i) 0) r) 0 (omega arith)) (a.bits q j p hj))
      (λ (p : i ≤ q).
      let y : q ≡ i = omega arith in
      rw (y, get_or-set_same l' (to + i) (bit_or (get_or l' (to + i) 0) r) 0 (omega (arith, a.within.len)), bit_or_lem, a.within.after (to + i) (omega arith), b.at j hj (omega arith)) refl)
      (lt_or_ge q i);
}

pub stream_more : {g : Ring} {l l' : List ℕ} {first x to i k low high base s r : ℕ} → Shape g → 64 ≤ g.n → g.words ≤ to → to + i < length l → Streaming g l first x to i k low l'
    → base ≡ word_of g.t g.words first → s ≡ bit_of g.t first → high < 2 ^ 64 → RingWord g l' base s (bit_and (k + 1) (g.n / 64 - 1)) high
    → r ≡ (high * 2 ^ 64 + low) / 2 ^ (x % 64) % 2 ^ 64
    → Streaming g l first x to (i + 1) (bit_and (k + 1) (g.n / 64 - 1)) high (set l' (to + i) (bit_or (get_or l' (to + i) 0) r))
stream_more {g} {l} {l'} {first} {x} {to} {i} {k} {low} {high} {base} {s} {r} sh hn ring lt a hb hs small b e = record {
  at = record { is = next; lt = rw next (mod-lt (x / 64 + (i + 1)) (omega arith)) };
  small = small;
  row = row;
  added = ring_added hn lt a.added (joined first x i sh hn a.at.is next a.small a.row row e);
}
  where
    next : bit_and (k + 1) (g.n / 64 - 1) ≡ (x / 64 + (i + 1)) % (g.n / 64)
    next =
        let m : x / 64 + i + 1 ≡ x / 64 + (i + 1) = omega arith in
        next_place g sh hn k ∙ rw (a.at.is, mod-add-mod, m) refl

    same : take g.words l' ≡ take g.words l
    same = front_same l' l to g.words ring a.added.within.front

    row : Row g.t g.words l (first + 64 * bit_and (k + 1) (g.n / 64 - 1) * 2 ^ g.t) high
    row = record {
      at = λ j h. (b.row first hb hs).at j h ∙ ring_same g sh l' l same (first + 64 * bit_and (k + 1) (g.n / 64 - 1) * 2 ^ g.t + j * 2 ^ g.t);
    }

-- ---- a key's slots are its ring from the key's place on

slot_place : (g : Ring) (start d x : ℕ) → Key start d → Word g.n (place_at g d 0) x → (m : ℕ) → slot_at g start d m ≡ d / 2 ^ 32 + start - 95 + (x + m) % g.n * 2 ^ g.t
unfolding slot_at entry_at
slot_place g start d x key hx m = rw (place_turn g d m, ← hx.is) (omega (arith, key.ahead))

pub key_added : {g : Ring} {l now : List ℕ} {d start x to count : ℕ} → Key start d → Word g.n (place_at g d 0) x → RingAdded g l (d / 2 ^ 32 + start - 95) x to count now
    → KeyAdded g l d start to count now
key_added {g} {l} {now} {d} {start} {x} {to} {count} key hx a = record {
  within = a.within;
  words = λ k h. record {
    at = λ j hj hn. a.bits k j h hj ∙ ap (λ (y : ℕ). max (bit (get_or l (to + k) 0) j) (ring_bit g.t g.words l y)) (slot k j);
  };
}
  where
    slot : (k j : ℕ) → d / 2 ^ 32 + start - 95 + (x + 64 * k + j) % g.n * 2 ^ g.t ≡ slot_at g start d (64 * k + j)
    slot k j =
        let e : x + 64 * k + j ≡ x + (64 * k + j) = omega arith in
        rw e (sym (slot_place g start d x key hx (64 * k + j)))

-- ---- one key of each layout

pub layouts_none : (g : Ring) (l : List ℕ) (at size start to count : ℕ) → LayoutsAdded g l at size start to count 0 l
layouts_none g l at size start to count = record { within = within_none l to (0 * count); words = λ q k h. absurd (omega arith) }

pub layouts_more : {g : Ring} → Shape g → {l l' now : List ℕ} {at size start to count r : ℕ} → g.words ≤ to → at + r * size < to → LayoutsAdded g l at size start to count r l'
    → KeyAdded g l' (get_or l' (at + r * size) 0) start (to + r * count) count now → LayoutsAdded g l at size start to count (r + 1) now
layouts_more {g} s {l} {l'} {now} {at} {size} {start} {to} {count} {r} ring below a b = record {
  within = within_then (within_wider to ((r + 1) * count) (omega arith) (omega (arith, next)) a.within) (within_wider to ((r + 1) * count) (omega arith) (omega (arith, next)) b.within);
  words = λ q k h hk. ⊎_elim
      (λ (x : q < r). rw (within_other b.within (to + q * count + k) (inl (omega (arith, word_in r count q k x hk)))) (a.words q k x hk))
      (λ (x : r ≤ q). let e : q ≡ r = omega arith in rw e (word k hk))
      (lt_or_ge q r);
}
  where
    next : (r + 1) * count ≡ r * count + count
    next = omega arith

    key : get_or l' (at + r * size) 0 ≡ get_or l (at + r * size) 0
    key = elem_same l' l to (at + r * size) below a.within.front

    word : (k : ℕ) → k < count → Added g l (get_or l (at + r * size) 0) start k (get_or l (to + r * count + k) 0) (get_or now (to + r * count + k) 0)
    word k hk = rw (← key, ← a.within.after (to + r * count + k) (omega arith)) (record {
      at = λ j h hj. (b.words k hk).at j h hj
          ∙ ap (λ (y : ℕ). max (bit (get_or l' (to + r * count + k) 0) j) y) (ring_same g s l' l (front_same l' l to g.words ring a.within.front) (slot_at g start (get_or l' (at + r * size) 0) (64 * k + j)));
    })

-- the next layout's words, and its key
pub layout_end : (layouts count r : ℕ) → r < layouts → r * count + count ≤ layouts * count
layout_end layouts count r lt = omega (arith, mul-le-mul_right count lt, more)
  where
    more : suc r * count ≡ r * count + count
    more = omega arith

pub layouts_key : {g : Ring} {l l' : List ℕ} {at size layouts start to count r : ℕ} → LayoutKeys l at size layouts start to → LayoutsAdded g l at size start to count r l' → r < layouts
    → Key start (get_or l' (at + r * size) 0)
layouts_key {g} {l} {l'} {at} {size} {layouts} {start} {to} {count} {r} keys a lt = rw (elem_same l' l to (at + r * size) (keys.below r lt) a.within.front) (keys.key r lt)

-- ---- key after key: l is the list with the words begun, whose ring and keys stay as they are

-- the first i keys of each layout are in
pub record Keyed (g : Ring) (l : List ℕ) (at size layouts start to count i : ℕ) (now : List ℕ) : Type 0 where
  pub le : i ≤ size
  pub within : Within l to (layouts * count) now
  pub blocked : BlockedAll g l (λ q. part l (at + q * size) size) start to count layouts i now

pub keyed_none : {g : Ring} {l₀ l : List ℕ} {layouts to count : ℕ} (at size start : ℕ) → BegunFree g l₀ to layouts count l → Keyed g l at size layouts start to count 0 l
keyed_none {g} {l₀} {l} {layouts} {to} {count} at size start a = record {
  le = omega arith;
  within = within_none l to (layouts * count);
  blocked = begun_blocked l (λ q. part l (at + q * size) size) start a;
}

pub keyed_more : {g : Ring} → Shape g → {l l' now : List ℕ} {at size layouts start to count i : ℕ} → g.words ≤ to → i < size → at + layouts * size ≤ to
    → Keyed g l at size layouts start to count i l' → LayoutsAdded g l' (at + i) size start to count layouts now → Keyed g l at size layouts start to count (i + 1) now
keyed_more {g} s {l} {l'} {now} {at} {size} {layouts} {start} {to} {count} {i} ring lt keys a b = record {
  le = omega arith;
  within = within_then a.within b.within;
  blocked = record { at = λ q k hq hk. blocked_added (a.blocked.at q k hq hk) (word q k hq hk) };
}
  where
    key : (q : ℕ) → q < layouts → get_or l' (at + i + q * size) 0 ≡ get_or (part l (at + q * size) size) i 0
    key q hq =
        let e : at + i + q * size ≡ at + q * size + i = omega arith in
        rw e (elem_same l' l to (at + q * size + i) (omega (arith, word_in layouts size q i hq lt)) a.within.front) ∙ sym (part_at l (at + q * size) size i lt)

    word : (q k : ℕ) → q < layouts → k < count → Added g l (get_or (part l (at + q * size) size) i 0) start k (get_or l' (to + q * count + k) 0) (get_or now (to + q * count + k) 0)
    word q k hq hk = rw (← key q hq) (record {
      at = λ j h hj. (b.words q k hq hk).at j h hj
          ∙ ap (λ (y : ℕ). max (bit (get_or l' (to + q * count + k) 0) j) y) (ring_same g s l' l (front_same l' l to g.words ring a.within.front) (slot_at g start (get_or l' (at + i + q * size) 0) (64 * k + j)));
    })

pub keyed_all : {g : Ring} → Shape g → {l₀ l l' now : List ℕ} {at size layouts start to count total : ℕ} → g.words ≤ to → at + layouts * size ≤ to → to ≤ length l₀
    → BegunFree g l₀ to layouts count l → Keyed g l at size layouts start to count size l' → FinishedFree g l' to (layouts * count) total now
    → FilledTo g l₀ at size start to count layouts total now
keyed_all {g} s {l₀} {l} {l'} {now} {at} {size} {layouts} {start} {to} {count} {total} ring keys fits b a f =
    filled_all s l₀ at a.blocked f (front_same l l₀ to g.words ring b.within.front) (within_then b.within a.within) (omega arith)
    (λ q hq. part_same l l₀ to (at + q * size) size (omega (arith, layout_end layouts size q hq)) b.within.len b.within.front)

-- the words of all layouts are few
pub few_words : (g : Ring) → Shape g → (layouts count : ℕ) → layouts ≤ 65536 → 64 * count < g.n + 64 → layouts * count ≤ 2 ^ 32
few_words g s layouts count h few = omega (arith, mul-le-mul_right count h, n_le g s)

-- what `fill_free` asks of the keys gives what a key of each layout asks
pub layout_keys : (at size layouts i : ℕ) {l l' : List ℕ} {start to words : ℕ} → i < size → at + layouts * size ≤ to → to ≤ length l → Within l to words l' → Keys (part l at (layouts * size)) start
    → LayoutKeys l' (at + i) size layouts start to
layout_keys at size layouts i {l} {l'} {start} {to} {words} lt le fits w keys = record {
  below = λ q hq. omega (arith, word_in layouts size q i hq lt);
  key = λ q hq.
      let e : at + i + q * size ≡ at + (q * size + i) = omega arith in
      let h : q * size + i < layouts * size = word_in layouts size q i hq lt in
      rw (e, elem_same l' l to (at + (q * size + i)) (omega arith) w.front, ← part_at l at (layouts * size) (q * size + i) h)
      (keys (q * size + i) (omega (arith, length_part l at (layouts * size) (omega arith))));
}
