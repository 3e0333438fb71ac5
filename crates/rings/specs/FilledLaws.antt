-- What the free words say: a rotation is free exactly if it is not barred and the slots that it gives the keys are not used; a layout's words have its free
-- rotations as slots, with none from n on; and a total of 0 is that no rotation is free.
-- Assumes nothing.
use Rattle.std.specs.Prelude.{◌≡◌, refl, List, ℕ, zero, suc, ◌+◌, ◌-◌, ◌*◌, ◌/◌, ◌%◌, ◌^◌, ◌≤◌, ◌<◌, length, get_or, drop}
use Rattle.std.proofs.Math.Path.{ap}
use Rattle.std.proofs.Common.{◌∙◌, ⊎_elim, get_or-drop}
use native.Mathlib.Omega.{arith}
use Rattle.words.specs.Bit.{bit}
use Rattle.words.specs.Cases.{lt_or_ge}
use Rattle.words.specs.Map.{slot}
use Rattle.integers.specs.Division.{pow_split}
use Rattle.integers.specs.Shifts.{pow_le_cancel}
use Rattle.rings.specs.declared.Ring.{Ring}
use Rattle.rings.specs.Ring.{Shape, ring_bit}
use Rattle.rings.specs.Keys.{slot_at, bar_bit, used_of, free_at}
use Rattle.rings.specs.Parts.{part}
use Rattle.rings.specs.Free.{FilledTo}
use Rattle.rings.specs.FreeLaws.{used_none}

-- ---- free rotations

used_free : (g : Ring) (used keys : List ℕ) (start rot i : ℕ) → ((m : ℕ) → m < i → ring_bit g.t g.words used (slot_at g start (get_or keys m 0) rot) ≡ 0) → used_of g used keys start rot i ≡ 0
unfolding used_of
used_free g used keys start rot zero h = refl
used_free g used keys start rot (suc i) h = omega (arith, used_free g used keys start rot i (λ m l. h m (omega arith)), h i (omega arith))

module _ (g : Ring) (used keys : List ℕ) (start r rot : ℕ) where
  pub free_lt : free_at g used keys start r rot < 2
  unfolding free_at
  free_lt = omega arith

  pub free_unbarred : free_at g used keys start r rot ≡ 1 → bar_bit g r rot ≡ 0
  unfolding free_at
  free_unbarred e = omega arith

  pub free_slots : free_at g used keys start r rot ≡ 1 → (m : ℕ) → m < length keys → ring_bit g.t g.words used (slot_at g start (get_or keys m 0) rot) ≡ 0
  unfolding free_at
  free_slots e m h = used_none g used keys start rot (length keys) m h (omega arith)

  pub slots_free : bar_bit g r rot ≡ 0 → ((m : ℕ) → m < length keys → ring_bit g.t g.words used (slot_at g start (get_or keys m 0) rot) ≡ 0)
      → free_at g used keys start r rot ≡ 1
  unfolding free_at
  slots_free b h = omega (arith, used_free g used keys start rot (length keys) h)

-- ---- the words of a layout

-- rings longer than a word are whole words
pub whole_words : (g : Ring) → Shape g → 64 ≤ g.n → g.n % 64 ≡ 0
whole_words g s h =
    let six : 6 ≤ s.k = pow_le_cancel (rw s.ring at h) in
    let e : g.n ≡ 2 ^ (s.k - 6) * 64 = s.ring ∙ pow_split s.k 6 six in
    omega (arith, e)

module _ {g : Ring} {l : List ℕ} {at size start to count layouts total : ℕ} {now : List ℕ} (s : Shape g) (f : FilledTo g l at size start to count layouts total now)
    (q : ℕ) (lt : q < layouts) where
  slot_word : (j : ℕ) → slot (drop (to + q * count) now) j ≡ bit (get_or now (to + q * count + j / 64) 0) (j % 64)
  unfolding slot
  slot_word j = ap (λ (x : ℕ). bit x (j % 64)) (get_or-drop (to + q * count) now (j / 64) 0)

  pub filled_slot : (j : ℕ) → j < g.n → j < 64 * count → slot (drop (to + q * count) now) j ≡ free_at g l (part l (at + q * size) size) start q j
  filled_slot j hn hc =
      let e : 64 * (j / 64) + j % 64 ≡ j = omega arith in
      slot_word j ∙ (f.words q (j / 64) lt (omega arith)).at (j % 64) (omega arith) (omega arith) ∙ ap (free_at g l (part l (at + q * size) size) start q) e

  pub filled_past : (j : ℕ) → g.n ≤ j → j < 64 * count → 64 * count < g.n + 64 → slot (drop (to + q * count) now) j ≡ 0
  filled_past j hn hc few =
      ⊎_elim
      (λ (h : g.n < 64). slot_word j ∙ (f.words q (j / 64) lt (omega arith)).past (j % 64) (omega arith) (omega arith))
      (λ (h : 64 ≤ g.n). absurd (omega (arith, whole_words g s h)))
      (lt_or_ge g.n 64)
