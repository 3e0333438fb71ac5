-- The bucket that 29 names is the lowest at which a slot is met twice. Going through the buckets upward, what has been met counts no slot twice until the
-- first bucket at which one is met again, and there that slot counts twice. Assumes nothing.
use mathlib.Core.Path.{◌≡◌, ◌∙◌, subst}
use mathlib.Core.Logic.{◌⊎◌, inl, inr}
use mathlib.Core.Bool.{Bool, true, false, not, cond}
use mathlib.Core.List.{List, [], ◌∷◌}
use Prim.Native.Nat.{ℕ, zero, suc, ◌+◌, ◌<◌, ◌≤◌}
use native.Mathlib.Omega.{arith}
use lib.Dec.{T, eqb, ltb, eqb_refl, ltb→lt}
use Rattle.rules.specs.Lists.{below, count_from, elem, count, every, concat_map}
use Rattle.rules.specs.Order.{Input}
use Rattle.rules.specs.Sweep.{bitmap_of}
use Rattle.rules.specs.Answers.{Answer, Refusal}
use Rattle.rules.proofs.Tests.{split, is_true, is_false}
use Rattle.rules.proofs.Counting.{Once, ind_true, elem_count, count_append}
use Rattle.level_check.specs.Check.{good_seed, again, after, slots_at, placed_slots, lowest, same_words, level_answer}
use Rattle.level_check.specs.Fits.{Lowest}
use Rattle.level_check.proofs.Meeting.{count_after_lem}
use Rattle.level_check.proofs.Exactly.{again_once}

-- a slot that counts twice
pub record Twice (met slots : List ℕ) : Type 0 where
  pub slot : ℕ
  pub twice : 2 ≤ count slot met + count slot slots

pub again_twice : (met xs : List ℕ) → T (again met xs) → Twice met xs
unfolding again
again_twice met [] t = absurd t
again_twice met (y ∷ ys) t = go (split (elem y met)) (again_twice (y ∷ met) ys)
  where
    go : T (elem y met) ⊎ T (not (elem y met)) → (T (again (y ∷ met) ys) → Twice (y ∷ met) ys) → Twice met (y ∷ ys)
    go (inl e) ih = record { slot = y; twice = omega (arith, elem_count y met e, ind_true (eqb y y) (eqb_refl y)) }
    go (inr n) ih = let z = ih (rw (is_false (elem y met) n) at t) in record { slot = z.slot; twice = omega (arith, z.twice) }

module _ (i : Input) (seeds : List ℕ) where
  -- k buckets after b, with met before b
  record Named (met : List ℕ) (b r : ℕ) : Type 0 where
    k : ℕ
    is : r ≡ b + k
    before : Once met → (x : ℕ) → count x met + count x (concat_map (slots_at i seeds) (count_from b k)) ≤ 1
    slot : ℕ
    twice : 2 ≤ count slot met + count slot (concat_map (slots_at i seeds) (count_from b (suc k)))

  named : (n b : ℕ) (met : List ℕ) → lowest i seeds met b n < b + n → Named met b (lowest i seeds met b n)
  unfolding lowest
  named zero b met h = absurd (let z : ⊥ = omega arith in z)
  named (suc n) b met h = go (split (again met (slots_at i seeds b))) (named n (suc b) (after met (slots_at i seeds b)))
    where
      go : T (again met (slots_at i seeds b)) ⊎ T (not (again met (slots_at i seeds b)))
          → (lowest i seeds (after met (slots_at i seeds b)) (suc b) n < suc b + n → Named (after met (slots_at i seeds b)) (suc b) (lowest i seeds (after met (slots_at i seeds b)) (suc b) n))
          → Named met b (cond (again met (slots_at i seeds b)) b (lowest i seeds (after met (slots_at i seeds b)) (suc b) n))
      go (inl t) ih = rw (is_true (again met (slots_at i seeds b)) t) (
          let z = again_twice met (slots_at i seeds b) t in
          record {
            k = 0;
            is = omega arith;
            before = λ o x. omega (arith, o x);
            slot = z.slot;
            twice = omega (arith, z.twice, count_append z.slot (slots_at i seeds b) []);
          })
      go (inr t) ih =
          let l : lowest i seeds (after met (slots_at i seeds b)) (suc b) n < b + suc n = (rw (is_false (again met (slots_at i seeds b)) t) at h) in
          let z = ih (omega arith) in
          rw (is_false (again met (slots_at i seeds b)) t) (record {
            k = suc z.k;
            is = z.is ∙ omega arith;
            before = λ o x.
                let f = z.before (λ y. omega (arith, count_after_lem y met (slots_at i seeds b), again_once met (slots_at i seeds b) t o y)) x in
                omega (arith, f, count_after_lem x met (slots_at i seeds b), count_append x (slots_at i seeds b) (concat_map (slots_at i seeds) (count_from (suc b) z.k)));
            slot = z.slot;
            twice = omega (
              arith,
              z.twice,
              count_after_lem z.slot met (slots_at i seeds b),
              count_append z.slot (slots_at i seeds b) (concat_map (slots_at i seeds) (count_from (suc b) (suc z.k))),
            );
          })

  pub lowest_named : lowest i seeds [] 0 i.settings.buckets < i.settings.buckets → Lowest i seeds (lowest i seeds [] 0 i.settings.buckets)
  lowest_named h =
      let z = named i.settings.buckets 0 [] (omega arith) in
      let e : z.k ≡ lowest i seeds [] 0 i.settings.buckets = omega (arith, z.is) in
      record {
        inside = h;
        before = λ x. subst (λ (n : ℕ). count x (concat_map (slots_at i seeds) (below n)) ≤ 1) e (omega (arith, z.before (λ y. omega arith) x));
        slot = z.slot;
        twice = subst (λ (n : ℕ). 2 ≤ count z.slot (concat_map (slots_at i seeds) (below (suc n)))) e (omega (arith, z.twice));
      }

-- ---- the answer
by_29 : (p q r : Bool) (l b : ℕ) → cond p (Refusal 28 []) (cond q (Refusal 29 (l ∷ [])) (cond r (Refusal 30 []) (Answer []))) ≡ Refusal 29 (b ∷ []) → T q × (l ≡ b)
by_29 true q r l b e = let z : ◌≡◌ {A = ℕ} 28 29 = cc in absurd (omega arith)
by_29 false true r l b e = (tt, cc)
by_29 false false true l b e = let z : ◌≡◌ {A = ℕ} 30 29 = cc in absurd (omega arith)
by_29 false false false l b e = let z : ◌≡◌ {A = ℕ} 0 1 = cc in absurd (omega arith)

pub names_lowest : (i : Input) (seeds bitmap : List ℕ) (b : ℕ) → level_answer i seeds bitmap ≡ Refusal 29 (b ∷ []) → Lowest i seeds b
unfolding level_answer
names_lowest i seeds bitmap b e =
    let l = lowest i seeds [] 0 i.settings.buckets in
    let z = by_29 (not (every (good_seed i seeds) (below i.settings.buckets))) (ltb l i.settings.buckets) (not (same_words bitmap (bitmap_of i.settings.m (placed_slots i seeds)))) l b e in
    subst (Lowest i seeds) z.1 (lowest_named i seeds (ltb→lt l i.settings.buckets z.0))
