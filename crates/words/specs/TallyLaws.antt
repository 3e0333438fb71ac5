-- The number of marked slots: by slots, by words' ones, after one more mark.
-- Why: both counts go by the last slot or word, and a word's ones are its set bits (`ones_count`).
-- Assumes nothing.
use Rattle.std.specs.Prelude.{◌≡◌, refl, List, ℕ, zero, suc, ◌+◌, ◌*◌, ◌≤◌, ◌<◌, length, get_or, set}
use Rattle.std.proofs.Common.{ap, ap₂, ◌∙◌, ⊎_elim, arith, add-one, get_or-set_same, get_or-set_other}
use Rattle.std.specs.Int.Count.{ones}
use Rattle.std.proofs.lemmas.Nat.{ones-le}
use Rattle.words.specs.Bit.{set_below}
use Rattle.words.specs.Map.{Words, slot, marked, cleared, tally, ones_to}
use Rattle.words.specs.Cases.{lt_or_ge}
use Rattle.words.specs.CountLaws.{ones_count}
use Rattle.words.specs.MapLaws.{slot_lt, slot_at, marked_same, marked_other, cleared_same, cleared_other}

-- ---- by slots

pub tally_zero : (ws : List ℕ) → tally ws 0 ≡ 0
unfolding tally
tally_zero ws = refl

pub tally_suc : (ws : List ℕ) (n : ℕ) → tally ws (suc n) ≡ tally ws n + slot ws n
unfolding tally
tally_suc ws n = refl

pub tally_le : (ws : List ℕ) (n : ℕ) → tally ws n ≤ n
unfolding tally
tally_le ws zero = omega arith
tally_le ws (suc n) = omega (arith, tally_le ws n, slot_lt ws n)

pub tally_same : (ws vs : List ℕ) (n : ℕ) → ((p : ℕ) → p < n → slot ws p ≡ slot vs p) → tally ws n ≡ tally vs n
unfolding tally
tally_same ws vs zero h = refl
tally_same ws vs (suc n) h = ap₂ (λ (x y : ℕ). x + y) (tally_same ws vs n (λ p l. h p (omega arith))) (h n (omega arith))

pub tally_none : (ws : List ℕ) (n : ℕ) → ((p : ℕ) → p < n → slot ws p ≡ 0) → tally ws n ≡ 0
unfolding tally
tally_none ws zero h = refl
tally_none ws (suc n) h = omega (arith, tally_none ws n (λ p l. h p (omega arith)), h n (omega arith))

-- a count of 0 says that none is marked
pub tally_free : (ws : List ℕ) (n p : ℕ) → tally ws n ≡ 0 → p < n → slot ws p ≡ 0
unfolding tally
tally_free ws zero p z h = absurd (omega arith)
tally_free ws (suc n) p z h =
    ⊎_elim (λ (l : p < n). tally_free ws n p (omega arith) l) (λ (g : n ≤ p). let e : p ≡ n = omega arith in rw e (omega arith)) (lt_or_ge p n)

-- one slot more, which was free, and one less, which was marked
pub tally_marked : (ws : List ℕ) (p n : ℕ) → p < 64 * length ws → slot ws p ≡ 0 → p < n → tally (marked ws p) n ≡ suc (tally ws n)
unfolding tally
tally_marked ws p zero f z h = absurd (omega arith)
tally_marked ws p (suc n) f z h =
    ⊎_elim
    (λ (l : p < n). omega (arith, tally_marked ws p n f z l, marked_other ws p n (omega arith)))
    (λ (g : n ≤ p).
    let e : n ≡ p = omega arith in
    let s : tally (marked ws p) n ≡ tally ws n = tally_same (marked ws p) ws n (λ q k. marked_other ws p q (omega arith)) in
    let o : slot (marked ws p) n ≡ 1 = ap (slot (marked ws p)) e ∙ marked_same ws p f in
    omega (arith, s, o, ap (slot ws) e))
    (lt_or_ge p n)

pub tally_cleared : (ws : List ℕ) (p n : ℕ) → slot ws p ≡ 1 → p < n → tally ws n ≡ suc (tally (cleared ws p) n)
unfolding tally
tally_cleared ws p zero o h = absurd (omega arith)
tally_cleared ws p (suc n) o h =
    ⊎_elim
    (λ (l : p < n). omega (arith, tally_cleared ws p n o l, cleared_other ws p n (omega arith)))
    (λ (g : n ≤ p).
    let e : n ≡ p = omega arith in
    let s : tally (cleared ws p) n ≡ tally ws n = tally_same (cleared ws p) ws n (λ q k. cleared_other ws p q (omega arith)) in
    let z : slot (cleared ws p) n ≡ 0 = ap (slot (cleared ws p)) e ∙ cleared_same ws p in
    omega (arith, s, z, ap (slot ws) e))
    (lt_or_ge p n)

-- ---- by words

pub ones_to_zero : (ws : List ℕ) → ones_to ws 0 ≡ 0
unfolding ones_to
ones_to_zero ws = refl

pub ones_to_more : (ws : List ℕ) (k : ℕ) → ones_to ws (k + 1) ≡ ones_to ws k + ones (get_or ws k 0)
unfolding ones_to
ones_to_more ws k = rw (add-one k) refl

pub ones_to_le : (ws : List ℕ) (k : ℕ) → Words ws → ones_to ws k ≤ 64 * k
unfolding ones_to
ones_to_le ws zero f = omega arith
ones_to_le ws (suc k) f = omega (arith, ones_to_le ws k f, ones-le 64 (get_or ws k 0) (f k))

pub ones_to_same : (ws vs : List ℕ) (k : ℕ) → ((w : ℕ) → w < k → get_or ws w 0 ≡ get_or vs w 0) → ones_to ws k ≡ ones_to vs k
unfolding ones_to
ones_to_same ws vs zero h = refl
ones_to_same ws vs (suc k) h = ap₂ (λ (x y : ℕ). x + ones y) (ones_to_same ws vs k (λ w l. h w (omega arith))) (h k (omega arith))

-- a store of the next word
pub ones_to_set : (ws : List ℕ) (k v : ℕ) → k < length ws → ones_to (set ws k v) (k + 1) ≡ ones_to ws k + ones v
ones_to_set ws k v h =
    ones_to_more (set ws k v) k
    ∙ ap₂ (λ (x y : ℕ). x + ones y)
    (ones_to_same (set ws k v) ws k (λ w l. get_or-set_other ws k w v 0 (omega arith)))
    (get_or-set_same ws k v 0 h)

-- ---- the same number

-- the first j slots of word k
pub tally_in : (ws : List ℕ) (k j : ℕ) → j ≤ 64 → tally ws (k * 64 + j) ≡ tally ws (k * 64) + set_below j (get_or ws k 0)
unfolding tally set_below
tally_in ws k zero h = let e : k * 64 + 0 ≡ k * 64 = omega arith in rw e (omega arith)
tally_in ws k (suc j) h =
    let e : k * 64 + suc j ≡ suc (k * 64 + j) = omega arith in
    rw e (omega (arith, tally_in ws k j (omega arith), slot_at ws k j (omega arith)))

pub tally_ones : (ws : List ℕ) (k : ℕ) → Words ws → tally ws (k * 64) ≡ ones_to ws k
unfolding ones_to
tally_ones ws zero f = tally_zero ws
tally_ones ws (suc k) f =
    let e : suc k * 64 ≡ k * 64 + 64 = omega arith in
    rw e (omega (arith, tally_in ws k 64 (omega arith), tally_ones ws k f, ones_count 64 (get_or ws k 0) (f k)))
