-- Laws of `log_entry`: it is close to 2 ^ 24 · log2 d, exact for powers of two, never falls, and grows by 2 ^ 24 where d doubles; and of a table of
-- them. Assumes nothing.
use mathlib.Core.Path.{◌≡◌, refl, sym, ap, ap₂, ◌∙◌, subst, subst₂}
use mathlib.Core.List.{List, ◌∷◌}
use Prim.Native.Nat.{ℕ, zero, suc, ◌+◌, ◌-◌, ◌*◌, ◌/◌, ◌^◌, ◌≤◌, ◌<◌}
use native.Mathlib.Nat.{le_refl, lt_of_lt_of_le, mul-le-mul, mul-le-mul_right, le_of_suc-le-suc, lt_of_not-le, mul-lt-mul_of_pos_right, mul_comm, one-mul, add-zero, pow-zero, pow-suc, pow-succ', not-suc-le-zero}
use native.Mathlib.Decide.{dec_le}
use native.Mathlib.Omega.{arith}
use lib.ListN.{length, get_or, take}
use lib.Pow.{pow_pos, pow_mono, pow-add}
use Rattle.integers.specs.Power.{least_from, log_up}
use Rattle.integers.specs.PowerLaws.{Log, log_up_log, log_up_is}
use Rattle.integers.specs.Shifts.{pow_lt_cancel}
use Rattle.integers.specs.Division.{pow_split}
use Rattle.log_table.specs.Logs.{digit, raised, squares, bits, log_entry, logs_from, log_table, Close, LogTable}
use Rattle.log_table.proofs.Leading.{twice, shifted, exact, before_less, before_same, climbs, Held, Full, Sized, square_pow, drift, powers, drift_25}

-- ---- the length of d in bits, and what the entry is by it

pub record Long (d k : ℕ) : Type 0 where
  pub least : 2 ^ k ≤ d
  pub below : d < 2 * 2 ^ k

bits_is : (d k : ℕ) → Long d k → bits d ≡ suc k
unfolding bits
bits_is d k l = sym (log_up_is (d + 1) (suc k) (record { above = omega (arith, l.below); tight = omega (arith, l.least) }))

long_by : (d n : ℕ) → 1 ≤ d → Log (d + 1) n → Long d (n - 1)
long_by d zero h l = absurd (omega (arith, l.above))
long_by d (suc k) h l = let same : k ≡ suc k - 1 = omega arith in subst (λ (n : ℕ). Long d n) same (record { least = omega (arith, l.tight); below = omega (arith, l.above) })

-- every d from 1 on has a length
pub long_of : (d : ℕ) → 1 ≤ d → Long d (bits d - 1)
unfolding bits
long_of d h = long_by d (log_up (d + 1)) h (log_up_log (d + 1))

pub entry_of : (d k : ℕ) → Long d k → log_entry d ≡ (squares 25 (d * 2 ^ (63 - k)) k + 1) / 2
unfolding log_entry
entry_of d k l = ap (λ (n : ℕ). (squares 25 (d * 2 ^ (64 - n)) (n - 1) + 1) / 2) (bits_is d k l) ∙ ap₂ (λ (i j : ℕ). (squares 25 (d * 2 ^ i) j + 1) / 2) (omega arith) (omega arith)

pub long_small : (d k w : ℕ) → Long d k → d < 2 ^ w → k < w
long_small d k w l h = pow_lt_cancel (omega (arith, l.least))

-- ---- close to the logarithm

full_start : (S A K d : ℕ) → A * K ≡ S → 0 < A → K ≤ d → d < 2 * K → Full S (d * A)
full_start S A K d e pos lo hi = record { from = omega (arith, mul-le-mul_right A lo); below = omega (arith, mul-lt-mul_of_pos_right hi pos) }

held_start : (S A K d P : ℕ) → A * K ≡ S → P ≡ d → Held S (d * A) 0 K P
held_start S A K d P e p = record { low = omega (arith, ap (λ (s : ℕ). d * s) e, ap (λ (q : ℕ). q * S) p); high = omega (arith, ap (λ (s : ℕ). d * s) e, ap (λ (q : ℕ). q * S) p) }

power_one : (d : ℕ) → d ^ 1 ≡ d
power_one d = pow-suc d 0 ∙ ap (λ (x : ℕ). x * d) (pow-zero d) ∙ one-mul d

sized : (n d k : ℕ) → Long d k → k < 64 → drift n 0 ≤ 2 ^ 63 → Sized (2 ^ squares n (d * 2 ^ (63 - k)) k) (d ^ (1 * 2 ^ n))
sized n d k l h small =
    let whole : 2 ^ (63 - k) * 2 ^ k ≡ 2 ^ 63 = sym (pow_split 63 k (omega arith)) in
    powers n 1 d (d * 2 ^ (63 - k)) k 0 (full_start (2 ^ 63) (2 ^ (63 - k)) (2 ^ k) d whole (pow_pos (63 - k)) l.least l.below) small (held_start (2 ^ 63) (2 ^ (63 - k)) (2 ^ k) d (d ^ 1) whole (power_one d))

root_le : (a b : ℕ) → a * a ≤ b * b → a ≤ b
root_le a b h = le_of_suc-le-suc (lt_of_not-le (λ (g : suc b ≤ a). let f : ⊥ = omega (arith, mul-le-mul g g) in f))

-- U is 2 ^ t, and t is half the exponent, rounded
half_close : (W P Q U : ℕ) → Q * Q ≡ P → U * U ≤ 2 * W → W ≤ U * U → Sized W P → (U ≤ 2 * Q) × (Q ≤ 2 * U)
half_close W P Q U e hi lo s = (root_le U (2 * Q) (omega (arith, s.least)), root_le Q (2 * U) (omega (arith, s.most)))

halved : (n d r t : ℕ) → t ≡ (r + 1) / 2 → Sized (2 ^ r) (d ^ (1 * 2 ^ suc n)) → Close (2 ^ n) d t
halved n d r t e s =
    let both = half_close (2 ^ r) (d ^ (1 * 2 ^ suc n)) (d ^ 2 ^ n) (2 ^ t) square high low s in
    record { below = both.0; above = both.1 }
  where
    square : d ^ 2 ^ n * d ^ 2 ^ n ≡ d ^ (1 * 2 ^ suc n)
    square = sym (pow-add d (2 ^ n) (2 ^ n)) ∙ ap (λ (k : ℕ). d ^ k) (omega arith)

    high : 2 ^ t * 2 ^ t ≤ 2 * 2 ^ r
    high = subst₂ (λ (a b : ℕ). a ≤ b) (square_pow t) (pow-succ' 2 r) (pow_mono {i = 2 * t} {j = suc r} (omega arith))

    low : 2 ^ r ≤ 2 ^ t * 2 ^ t
    low = subst (λ (b : ℕ). 2 ^ r ≤ b) (square_pow t) (pow_mono {i = r} {j = 2 * t} (omega arith))

pub log_close : (d : ℕ) → 1 ≤ d → d < 2 ^ 64 → Close (2 ^ 24) d (log_entry d)
log_close d h lt =
    let k : ℕ = bits d - 1 in
    let l : Long d k = long_of d h in
    halved 24 d (squares 25 (d * 2 ^ (63 - k)) k) (log_entry d) (entry_of d k l) (sized 25 d k l (long_small d k 64 l lt) drift_25)

-- ---- exact for powers of two, 0 for 0, never falling, and 2 ^ 24 more for twice as much

pub log_exact : (k : ℕ) → k < 64 → log_entry (2 ^ k) ≡ k * 2 ^ 24
log_exact k h =
    let r : squares 25 (2 ^ k * 2 ^ (63 - k)) k ≡ k * 2 ^ 25 = ap (λ (x : ℕ). squares 25 x k) (mul_comm (2 ^ k) (2 ^ (63 - k)) ∙ sym (pow_split 63 k (omega arith))) ∙ exact 25 k in
    entry_of (2 ^ k) k (record { least = le_refl (2 ^ k); below = omega (arith, pow_pos k) }) ∙ omega arith

pub log_zero : log_entry 0 ≡ 0
unfolding log_entry bits squares digit raised log_up least_from
log_zero = refl

long_mono : (c d i j : ℕ) → c ≤ d → Long c i → Long d j → i ≤ j
long_mono c d i j h a b = le_of_suc-le-suc (pow_lt_cancel {a = i} {b = suc j} (omega (arith, a.least, b.below)))

pub log_never_falls : (c d : ℕ) → c ≤ d → log_entry c ≤ log_entry d
log_never_falls zero d h = omega (arith, log_zero)
log_never_falls (suc c) d h = by (dec_le j i)
  where
    i : ℕ
    i = bits (suc c) - 1

    j : ℕ
    j = bits d - 1

    a : Long (suc c) i
    a = long_of (suc c) (omega arith)

    b : Long d j
    b = long_of d (omega arith)

    le : i ≤ j
    le = long_mono (suc c) d i j h a b

    rises : squares 25 (suc c * 2 ^ (63 - i)) i ≤ squares 25 (d * 2 ^ (63 - j)) j → log_entry (suc c) ≤ log_entry d
    rises r = omega (arith, entry_of (suc c) i a, entry_of d j b)

    by : Dec (j ≤ i) → log_entry (suc c) ≤ log_entry d
    by (no n) = rises (climbs 25 i (suc c * 2 ^ (63 - i)) j (d * 2 ^ (63 - j)) (before_less i (suc c * 2 ^ (63 - i)) j (d * 2 ^ (63 - j)) (omega arith)))
    by (yes g) = rises (climbs 25 i (suc c * 2 ^ (63 - i)) j (d * 2 ^ (63 - j)) (before_same i (suc c) j d (omega (arith, le)) h))

pub log_doubles : (d : ℕ) → 1 ≤ d → d < 2 ^ 63 → log_entry (2 * d) ≡ log_entry d + 2 ^ 24
log_doubles d h lt =
    let k : ℕ = bits d - 1 in
    let l : Long d k = long_of d h in
    let m : Long (2 * d) (suc k) = record { least = omega (arith, l.least); below = omega (arith, l.below) } in
    let small : k < 63 = long_small d k 63 l lt in
    let r : squares 25 (2 * d * 2 ^ (63 - suc k)) (suc k) ≡ squares 25 (d * 2 ^ (63 - k)) k + 1 * 2 ^ 25 =
    ap₂ (λ (x e : ℕ). squares 25 x e) (twice d (63 - suc k) ∙ ap (λ (n : ℕ). d * 2 ^ n) (omega arith)) (omega arith) ∙ shifted 25 (d * 2 ^ (63 - k)) k 1 in
    entry_of (2 * d) (suc k) m ∙ omega (arith, entry_of d k l)

-- ---- the table

from_length : (n d : ℕ) → length (logs_from n d) ≡ n
unfolding logs_from
from_length zero d = refl
from_length (suc n) d = ap suc (from_length n (suc d))

from_at : (n d i : ℕ) → i < n → get_or (logs_from n d) i 0 ≡ log_entry (d + i)
unfolding logs_from
from_at zero d i h = absurd (not-suc-le-zero h)
from_at (suc n) d zero h = ap log_entry (sym (add-zero d))
from_at (suc n) d (suc i) h = let same : suc d + i ≡ d + suc i = omega arith in from_at n (suc d) i (le_of_suc-le-suc h) ∙ ap log_entry same

pub table_length : (n : ℕ) → length (log_table n) ≡ n
unfolding log_table
table_length n = from_length n 0

pub table_at : (n d : ℕ) → d < n → get_or (log_table n) d 0 ≡ log_entry d
unfolding log_table
table_at n d h = let same : 0 + d ≡ d = omega arith in from_at n 0 d h ∙ ap log_entry same

-- a longer table begins with a shorter one
from_take : (k n d : ℕ) → k ≤ n → take k (logs_from n d) ≡ logs_from k d
unfolding logs_from
from_take zero n d h = refl
from_take (suc k) zero d h = absurd (not-suc-le-zero h)
from_take (suc k) (suc n) d h = ap (λ (xs : List ℕ). log_entry d ∷ xs) (from_take k n (suc d) (le_of_suc-le-suc h))

pub table_take : (k n : ℕ) → k ≤ n → take k (log_table n) ≡ log_table k
unfolding log_table
table_take k n h = from_take k n 0 h

-- all that is asked of a table
pub log_table_lem : (n : ℕ) → 1 ≤ n → n ≤ 2 ^ 64 → LogTable n (log_table n)
log_table_lem n h k = record {
  size = table_length n;
  entry0 = table_at n 0 h ∙ log_zero;
  near = λ d p q. subst (λ (t : ℕ). Close (2 ^ 24) d t) (sym (table_at n d q)) (log_close d p (omega arith));
  powers = λ j q. table_at n (2 ^ j) q ∙ log_exact j (pow_lt_cancel {a = j} {b = 64} (lt_of_lt_of_le q k));
  never_falls = λ c d p q. subst₂ (λ (s t : ℕ). s ≤ t) (sym (table_at n c (omega arith))) (sym (table_at n d q)) (log_never_falls c d p);
  doubling = λ d p q. table_at n (2 * d) q ∙ log_doubles d p (omega arith) ∙ ap (λ (t : ℕ). t + 2 ^ 24) (sym (table_at n d (omega arith)));
}
