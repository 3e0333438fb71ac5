-- What the checks leave, and that the records of specs/Good are exactly that: each field is the other way round of a part of a line. Assumes nothing.
use mathlib.Core.Path.{◌≡◌, ◌∙◌}
use mathlib.Core.Logic.{◌≢◌}
use mathlib.Core.Bool.{not}
use mathlib.Core.List.{[], ◌∷◌}
use Prim.Native.Nat.{ℕ, ◌*◌, ◌%◌, ◌^◌, ◌≤◌}
use native.Mathlib.Omega.{arith}
use lib.Dec.{T, ltb, eqb, eqb→eq, nleb→lt, nltb→le}
use lib.Arith.{le→nltb, lt→nleb}
use Rattle.rules.specs.declared.Settings.{Settings}
use Rattle.rules.specs.Geometry.{per_bucket}
use Rattle.rules.specs.Numbers.{first_of, line, lookup_lines, outside, line1, line2, line3, line4, line5, line6, line7, lines_to6, lines_to7}
use Rattle.rules.specs.Good.{Usable, Good}
use Rattle.rules.proofs.Tests.{not_or, not_or_left, not_or_right, of_not_not, not_not, neq, neq→neqb, eq→eqb}
use Rattle.rules.proofs.Lines.{Numbered, none_zero, first_none, first_append_none, first_append_zero}

-- ---- settings

within : (lo hi x : ℕ) → T (not (outside lo hi x)) → (lo ≤ x) × (x ≤ hi)
within lo hi x t = (nltb→le x lo (not_or_left (ltb x lo) (ltb hi x) t), nltb→le hi x (not_or_right (ltb x lo) (ltb hi x) t))

inside : (lo hi x : ℕ) → lo ≤ x → x ≤ hi → T (not (outside lo hi x))
inside lo hi x l h = not_or (ltb x lo) (ltb hi x) (le→nltb x lo l) (le→nltb hi x h)

is_odd : (n : ℕ) → n % 2 ≢ 0 → n % 2 ≡ 1
is_odd n h = omega arith

pub passes_6 : (s : Settings) → first_of (lines_to6 s) ≡ 0 → Usable s
unfolding lines_to6 line1 line2 line3 line4 line5 line6
passes_6 s e =
    let n1 = first_none (lines_to6 s) tt e in
    let n2 = n1.1 in
    let n3 = n2.1 in
    let n4 = n3.1 in
    let n5 = n4.1 in
    let n6 = n5.1 in
    record {
      sb_low = (within 2 16 s.sb n1.0).0;
      sb_high = (within 2 16 s.sb n1.0).1;
      ll_low = nleb→lt s.sb s.ll n2.0;
      slice_low = (within 3 16 s.log2_slice_len n3.0).0;
      slice_high = (within 3 16 s.log2_slice_len n3.0).1;
      ll_high = nltb→le 6 s.ll (not_or_left (ltb 6 s.ll) (ltb 64 (s.log2_slice_len * 2 ^ s.ll)) n4.0);
      layout_bits = nltb→le 64 (s.log2_slice_len * 2 ^ s.ll) (not_or_right (ltb 6 s.ll) (ltb 64 (s.log2_slice_len * 2 ^ s.ll)) n4.0);
      m_low = (within 1 134217728 s.m n5.0).0;
      m_high = (within 1 134217728 s.m n5.0).1;
      odd = is_odd s.buckets (neq (s.buckets % 2) 0 (not_or_left (eqb (s.buckets % 2) 0) (ltb 67108865 s.buckets) n6.0));
      buckets_high = nltb→le 67108865 s.buckets (not_or_right (eqb (s.buckets % 2) 0) (ltb 67108865 s.buckets) n6.0);
    }

pub usable_6 : (s : Settings) → Usable s → first_of (lines_to6 s) ≡ 0
unfolding lines_to6 line1 line2 line3 line4 line5 line6
usable_6 s u = none_zero (lines_to6 s) (
  inside 2 16 s.sb u.sb_low u.sb_high,
  (
    lt→nleb s.sb s.ll u.ll_low,
    (
      inside 3 16 s.log2_slice_len u.slice_low u.slice_high,
      (
        not_or (ltb 6 s.ll) (ltb 64 (s.log2_slice_len * 2 ^ s.ll)) (le→nltb 6 s.ll u.ll_high) (le→nltb 64 (s.log2_slice_len * 2 ^ s.ll) u.layout_bits),
        (
          inside 1 134217728 s.m u.m_low u.m_high,
          (
            not_or (eqb (s.buckets % 2) 0) (ltb 67108865 s.buckets) (neq→neqb (s.buckets % 2) 0 (λ z. let o = u.odd in omega arith)) (le→nltb 67108865 s.buckets u.buckets_high),
            tt,
          ),
        ),
      ),
    ),
  ),
)

-- lines 1 to 7 are lines 1 to 6 and line 7
pub good_usable : (s : Settings) → Good s → Usable s
good_usable s g = record {
  sb_low = g.sb_low;
  sb_high = g.sb_high;
  ll_low = g.ll_low;
  slice_low = g.slice_low;
  slice_high = g.slice_high;
  ll_high = g.ll_high;
  layout_bits = g.layout_bits;
  m_low = g.m_low;
  m_high = g.m_high;
  odd = g.odd;
  buckets_high = g.buckets_high;
}

pub usable_good : (s : Settings) → Usable s → per_bucket s ≤ 4096 → Good s
usable_good s u h = record {
  sb_low = u.sb_low;
  sb_high = u.sb_high;
  ll_low = u.ll_low;
  slice_low = u.slice_low;
  slice_high = u.slice_high;
  ll_high = u.ll_high;
  layout_bits = u.layout_bits;
  m_low = u.m_low;
  m_high = u.m_high;
  odd = u.odd;
  buckets_high = u.buckets_high;
  share = h;
}

pub numbered_6 : (s : Settings) → Numbered (lines_to6 s)
unfolding lines_to6 line1 line2 line3 line4 line5 line6
numbered_6 s = tt

pub numbered_7 : (s : Settings) → Numbered (lines_to7 s)
unfolding lines_to7 lines_to6 line1 line2 line3 line4 line5 line6 line7
numbered_7 s = tt

pub passes_7 : (s : Settings) → first_of (lines_to7 s) ≡ 0 → Good s
unfolding lines_to7 line7
passes_7 s e =
    let n = first_append_none (lines_to6 s) (line7 s ∷ []) (numbered_6 s) e in
    let n7 = first_none (line7 s ∷ []) tt n.1 in
    usable_good s (passes_6 s n.0) (nltb→le 4096 (per_bucket s) n7.0)

pub good_7 : (s : Settings) → Good s → first_of (lines_to7 s) ≡ 0
unfolding lines_to7 line7
good_7 s g = first_append_zero (lines_to6 s) (line7 s ∷ []) (numbered_6 s) (usable_6 s (good_usable s g)) ∙ none_zero (line7 s ∷ []) (le→nltb 4096 (per_bucket s) g.share, tt)

-- a lookup's settings, and its seeds
pub passes_lookup : (s : Settings) (n : ℕ) → first_of (lookup_lines s n) ≡ 0 → Usable s × (n ≡ s.buckets)
unfolding lookup_lines
passes_lookup s n e =
    let w = first_append_none (lines_to6 s) (line 13 (not (eqb n s.buckets)) ∷ []) (numbered_6 s) e in
    let k = first_none (line 13 (not (eqb n s.buckets)) ∷ []) tt w.1 in
    (passes_6 s w.0, eqb→eq n s.buckets (of_not_not (eqb n s.buckets) k.0))

pub lookup_passes : (s : Settings) (n : ℕ) → Usable s → n ≡ s.buckets → first_of (lookup_lines s n) ≡ 0
unfolding lookup_lines
lookup_passes s n u e =
    first_append_zero (lines_to6 s) (line 13 (not (eqb n s.buckets)) ∷ []) (numbered_6 s) (usable_6 s u)
    ∙ none_zero (line 13 (not (eqb n s.buckets)) ∷ []) (not_not (eqb n s.buckets) (eq→eqb n s.buckets e), tt)
