-- What the functions of `making` come by, as laws of the definition: the loop over 25 of them, where the loop begins, and a table that is
-- filled up to an entry. Assumes nothing.
use mathlib.Core.Path.{◌≡◌, refl, sym, ap, ap₂, ◌∙◌, subst}
use mathlib.Core.List.{List}
use Prim.Native.Nat.{ℕ, zero, suc, ◌+◌, ◌-◌, ◌*◌, ◌/◌, ◌%◌, ◌^◌, ◌≤◌, ◌<◌}
use native.Mathlib.Nat.{mul-le-mul, mul-le-mul_right}
use native.Mathlib.Decide.{dec_le}
use native.Mathlib.Omega.{arith}
use lib.Count.{count_leading_zeros, leading_top}
use lib.ListN.{length, get_or, set}
use lib.Seq.{get_or-set_same, get_or-set_other, ext_get_or}
use lib.Pow.{pow_pos, pow_mono, shl_exact}
use Rattle.log_table.specs.Logs.{digit, raised, squares, bits, log_entry, log_table}
use Rattle.log_table.proofs.Leading.{grown}
use Rattle.log_table.proofs.LogLaws.{Long, long_of, long_small, entry_of, log_zero, log_doubles, table_length, table_at}

-- ---- the loop: n squarings are left, and lead to the same exponent r

pub record Left (n x e r : ℕ) : Type 0 where
  pub same : squares n x e ≡ r
  pub small : r < 2 ^ 31

pub left_start : (n x e : ℕ) → n ≤ 25 → e ≤ 63 → Left n x e (squares n x e)
left_start n x e h k =
    let most : 2 ^ n ≤ 2 ^ 25 = pow_mono h in
    record { same = refl; small = omega (arith, (grown n x e).below, mul-le-mul most k) }

pub left_small : (n x e r : ℕ) → Left n x e r → e < 2 ^ 31
left_small n x e r l = omega (arith, l.same, l.small, (grown n x e).least, mul-le-mul_right e (pow_pos n))

pub left_step : (m n x e y f r : ℕ) → m ≡ suc n → y ≡ raised (x * x / 2 ^ 64) → f ≡ 2 * e + digit (x * x / 2 ^ 64) → Left m x e r → Left n y f r
unfolding squares
left_step m n x e y f r h p q l = record { same = ap₂ (λ (i j : ℕ). squares n i j) p q ∙ sym (ap (λ (k : ℕ). squares k x e) h) ∙ l.same; small = l.small }

pub left_end : (n x e r : ℕ) → n ≤ 0 → Left n x e r → e ≡ r
unfolding squares
left_end zero x e r h l = l.same
left_end (suc n) x e r h l = absurd (omega arith)

-- ---- where the loop begins: d shifted up by its leading zeros z

pub record Begun (d z : ℕ) : Type 0 where
  pub short : z < 64
  pub entry : (squares 25 (d * 2 ^ z % 2 ^ 64) (63 - z) + 1) / 2 ≡ log_entry d

begun_by : (d z k : ℕ) → z + suc k ≡ 64 → Long d k → Begun d z
begun_by d z k e l =
    let zeros : 63 - k ≡ z = omega arith in
    let length : k ≡ 63 - z = omega arith in
    let whole : d * 2 ^ z % 2 ^ 64 ≡ d * 2 ^ (63 - k) = shl_exact (suc k) z 64 (omega (arith, l.below)) (omega arith) ∙ ap (λ (n : ℕ). d * 2 ^ n) (sym zeros) in
    record {
      short = omega arith;
      entry = ap₂ (λ (x n : ℕ). (squares 25 x n + 1) / 2) whole (sym length) ∙ sym (entry_of d k l);
    }

pub begun : (d : ℕ) → 1 ≤ d → d < 2 ^ 64 → Begun d (count_leading_zeros 64 d)
begun d h lt =
    let t = leading_top 64 d h lt in
    begun_by d (count_leading_zeros 64 d) t.0 t.1 (record { least = t.2; below = omega (arith, t.3) })

-- ---- an even entry from its half

pub even_is : (d t : ℕ) → 1 ≤ d → d < 2 ^ 64 → d % 2 ≡ 0 → t ≡ log_entry (d / 2) → t + 2 ^ 24 ≡ log_entry d
even_is d t h lt e s =
    let whole : 2 * (d / 2) ≡ d = omega arith in
    omega (arith, log_doubles (d / 2) (omega arith) (omega arith), ap log_entry whole)

-- every entry of a word's number fits in 31 bits
pub entry_small : (d : ℕ) → d < 2 ^ 64 → log_entry d < 2 ^ 31
entry_small zero h = omega (arith, log_zero)
entry_small (suc c) h =
    let d : ℕ = suc c in
    let k : ℕ = bits d - 1 in
    let l : Long d k = long_of d (omega arith) in
    let short : k < 64 = long_small d k 64 l h in
    omega (arith, entry_of d k l, (grown 25 (d * 2 ^ (63 - k)) k).below)

-- ---- a table that is filled up to d

pub record Filled (d : ℕ) (table : List ℕ) : Type 0 where
  pub done : (i : ℕ) → i < d → get_or table i 0 ≡ log_entry i

pub filled_start : (table : List ℕ) (t : ℕ) → 1 ≤ length table → t ≡ 0 → Filled 1 (set table 0 t)
filled_start table t h e = record { done = by }
  where
    by : (i : ℕ) → i < 1 → get_or (set table 0 t) i 0 ≡ log_entry i
    by zero lt = get_or-set_same table 0 t 0 h ∙ e ∙ sym log_zero
    by (suc i) lt = absurd (omega arith)

pub filled_put : (d t : ℕ) (table : List ℕ) → d < length table → t ≡ log_entry d → Filled d table → Filled (d + 1) (set table d t)
filled_put d t table h e f = record { done = λ i lt. by i lt (dec_le d i) }
  where
    by : (i : ℕ) → i < d + 1 → Dec (d ≤ i) → get_or (set table d t) i 0 ≡ log_entry i
    by i lt (yes le) =
        let same : d ≡ i = omega arith in
        subst (λ (j : ℕ). get_or (set table d t) j 0 ≡ log_entry j) same (get_or-set_same table d t 0 h ∙ e)
    by i lt (no n) = get_or-set_other table d i t 0 (λ s. n (omega arith)) ∙ f.done i (omega arith)

pub filled_end : (n : ℕ) (table : List ℕ) → length table ≡ n → Filled n table → table ≡ log_table n
filled_end n table e f = ext_get_or 0 table (log_table n) (e ∙ sym (table_length n)) (λ i h. f.done i (omega arith) ∙ sym (table_at n i (omega arith)))
