-- Which bucket of 64 keys and more goes first: one enters, one leaves, and a look finds the next. The large buckets of the set are those of the
-- window, since no two buckets of a window share a slot. Assumes nothing.
use mathlib.Core.Path.{◌≡◌, refl, sym, ap, ◌∙◌, subst}
use mathlib.Core.Bool.{Bool, true, false, cond}
use mathlib.Core.List.{List, [], ◌∷◌, ◌++◌}
use mathlib.Core.Logic.{◌⊎◌, inl, inr, ⊎_elim}
use Prim.Native.Nat.{ℕ, ◌+◌, ◌-◌, ◌<◌, ◌≤◌}
use native.Mathlib.Omega.{arith}
use borrow.Author.Tests.{eqb-true, eqb-false}
use lib.Dec.{T, eqb}
use lib.IntN.{ℤ}
use lib.Signed.{lt_z}
use Rattle.words.specs.Cases.{same_or_not}
use Rattle.rules.specs.Lists.{elem, remove}
use Rattle.rules.specs.Order.{Input, size_of}
use Rattle.window.specs.Key.{bucket_key}
use Rattle.std.proofs.Common.{Option, Some, None}
use Rattle.window.specs.declared.large.Best.{Best}
use Rattle.window.specs.Large.{tell_best, key_in, first_of, Told, LargeIn, Largest, Left}
use Rattle.window.specs.Window.{Ranged, Asc, Marks, Foremost}
use Rattle.window.proofs.Members.{elem_here, elem_cases, append_cases, append_left, append_right, removed_in, kept_in}
use Rattle.window.proofs.KeyLaws.{key_level, key_chain, key_after}
use Rattle.window.proofs.AscLaws.{asc_in}
use Rattle.window.proofs.CyclicLaws.{apart}
use Rattle.window.proofs.Sizes.{size_is, large_key_lem}

-- bucket b goes first
foremost_is : (i : Input) (W : List ℕ) (b n : ℕ) → n ≡ b + 1 → T (elem b W) → 64 ≤ size_of i b
    → ((x : ℕ) → T (elem x W) → 64 ≤ size_of i x → lt_z (bucket_key i b) (bucket_key i x) ≡ false) → Foremost i W n
foremost_is i W b n e t l f =
    let back : b ≡ n - 1 = omega arith in
    record {
      there = λ p. (subst (λ (y : ℕ). T (elem y W)) back t, subst (λ (y : ℕ). 64 ≤ size_of i y) back l);
      first = λ x u s. (omega arith, subst (λ (y : ℕ). lt_z (bucket_key i y) (bucket_key i x) ≡ false) back (f x u s));
    }

-- there is none
foremost_none : (i : Input) (W : List ℕ) (n : ℕ) → n ≡ 0 → ((x : ℕ) → T (elem x W) → 64 ≤ size_of i x → ⊥) → Foremost i W n
foremost_none i W n z f = record { there = λ p. absurd (omega arith); first = λ x t s. absurd (f x t s) }

module _ (i : Input) (W : List ℕ) (n b : ℕ) (h : Foremost i W n) where
  -- a bucket of fewer keys comes in behind the others
  pub pass_foremost : size_of i b < 64 → Foremost i (W ++ (b ∷ [])) n
  pass_foremost l =
      record {
        there = λ p. (append_left (n - 1) W (b ∷ []) (h.there p).0, (h.there p).1);
        first =
            λ x t s.
            ⊎_elim (λ (u : T (elem x W)). h.first x u s)
            (λ (u : T (elem x (b ∷ []))). absurd (⊎_elim (λ (e : x ≡ b). omega (arith, ap (size_of i) e)) (λ (v : T (elem x [])). absurd v) (elem_cases x b [] u)))
            (append_cases x W (b ∷ []) t);
      }

  -- another bucket leaves
  pub leave_foremost : (n ≡ b + 1 → ⊥) → Foremost i (remove b W) n
  leave_foremost d =
      record {
        there = λ p. (kept_in (n - 1) b W (λ (e : n - 1 ≡ b). d (omega arith)) (h.there p).0, (h.there p).1);
        first = λ x t s. h.first x (removed_in x b W t) s;
      }

module _ (i : Input) (begins : List ℕ) (table : List ℤ) (hi : ℕ) (g : Ranged i begins table hi) where
  big_is : (x : ℕ) → 64 ≤ size_of i x → key_in begins table x ≡ bucket_key i x
  big_is x l = large_key_lem i begins table hi g x (omega (arith, size_is i begins table hi g x))

  pub told : (W : List ℕ) (o e n : ℕ) → Foremost i W n → Asc o e W → Told begins e n
  told W o e n h a =
      record {
        high = ⊎_elim (λ (z : n ≡ 0). omega arith) (λ d. let r = asc_in o e (n - 1) W a (h.there (some d)).0 in omega (arith, some d)) (same_or_not n 0);
        big = λ p. omega (arith, (h.there p).1, size_is i begins table hi g (n - 1));
      }
    where
      some : (n ≡ 0 → ⊥) → 0 < n
      some d = omega arith

  -- a bucket of 64 keys and more comes in behind the others
  pub put_foremost : (W : List ℕ) (n b : ℕ) → Foremost i W n → 64 ≤ size_of i b → Foremost i (W ++ (b ∷ [])) (first_of begins table n b)
  unfolding first_of
  put_foremost W n b h l = by (eqb n 0) (lt_z (key_in begins table (n - 1)) (key_in begins table b)) refl refl
    where
      here : T (elem b (W ++ (b ∷ [])))
      here = append_right b W (b ∷ []) (elem_here b [])

      -- b or one of W
      either : (x : ℕ) → T (elem x (W ++ (b ∷ []))) → T (elem x W) ⊎ (x ≡ b)
      either x t =
          ⊎_elim (λ (u : T (elem x W)). inl u) (λ (u : T (elem x (b ∷ []))). inr (⊎_elim (λ (e : x ≡ b). e) (λ (v : T (elem x [])). absurd v) (elem_cases x b [] u)))
          (append_cases x W (b ∷ []) t)

      level : (x : ℕ) → x ≡ b → lt_z (bucket_key i b) (bucket_key i x) ≡ false
      level x e = key_level (bucket_key i b) (bucket_key i x) (ap (bucket_key i) (sym e))

      by : (t u : Bool) → eqb n 0 ≡ t → lt_z (key_in begins table (n - 1)) (key_in begins table b) ≡ u → Foremost i (W ++ (b ∷ [])) (cond t (b + 1) (cond u (b + 1) n))
      by true u p q =
          foremost_is i (W ++ (b ∷ [])) b (b + 1) refl here l
          (λ x t s. ⊎_elim (λ (v : T (elem x W)). absurd (omega (arith, (h.first x v s).0, eqb-true n 0 p))) (level x) (either x t))
      by false true p q =
          let some : 0 < n = omega (arith, eqb-false n 0 p) in
          let greater : lt_z (bucket_key i b) (bucket_key i (n - 1)) ≡ false =
          subst (λ (z : ℤ). lt_z z (bucket_key i (n - 1)) ≡ false) (big_is b l)
          (subst (λ (z : ℤ). lt_z (key_in begins table b) z ≡ false) (big_is (n - 1) (h.there some).1) (key_after (key_in begins table (n - 1)) (key_in begins table b) q)) in
          foremost_is i (W ++ (b ∷ [])) b (b + 1) refl here l
          (λ x t s. ⊎_elim (λ (v : T (elem x W)). key_chain (bucket_key i b) (bucket_key i (n - 1)) (bucket_key i x) greater (h.first x v s).1) (level x) (either x t))
      by false false p q =
          let some : 0 < n = omega (arith, eqb-false n 0 p) in
          let not-less : lt_z (bucket_key i (n - 1)) (bucket_key i b) ≡ false =
          subst (λ (z : ℤ). lt_z (bucket_key i (n - 1)) z ≡ false) (big_is b l)
          (subst (λ (z : ℤ). lt_z z (key_in begins table b) ≡ false) (big_is (n - 1) (h.there some).1) q) in
          record {
            there = λ m. (append_left (n - 1) W (b ∷ []) (h.there m).0, (h.there m).1);
            first = λ x t s. (some, ⊎_elim (λ (v : T (elem x W)). (h.first x v s).1) (λ (e : x ≡ b). subst (λ (y : ℕ). lt_z (bucket_key i (n - 1)) (bucket_key i y) ≡ false) (sym e) not-less) (either x t));
          }

  module _ (set : List ℕ) (o e : ℕ) (W : List ℕ) (asc : Asc o e W) (narrow : e ≤ o + 256) (marks : Marks set W) where
    -- the large buckets of the set are those of the window
    large_in : (x : ℕ) → T (elem x W) → 64 ≤ size_of i x → LargeIn set begins o e x
    large_in x t l =
        let r = asc_in o e x W asc t in
        record { from = r.0; to = r.1; untaken = marks.all x t; large = omega (arith, size_is i begins table hi g x) }

    in_large : (x : ℕ) → LargeIn set begins o e x → T (elem x W)
    in_large x h =
        let m = marks.only x h.untaken in
        let r = asc_in o e m.0 W asc m.1.0 in
        subst (λ (y : ℕ). T (elem y W)) (apart o m.0 x r.0 (omega (arith, r.1)) h.from (omega (arith, h.to)) m.1.1) m.1.0

    -- what a look finds goes first
    pub look_foremost : (best : Option Best) (n : ℕ) → Largest set begins table o e best → n ≡ tell_best best → Foremost i W n
    look_foremost None n h q = foremost_none i W n q (λ x t s. let f = h.first x (large_in x t s) in let z = f.1.0 in cc)
    look_foremost (Some y) n h q =
        let f = h.found y refl in
        let big : 64 ≤ size_of i y.bucket = omega (arith, f.0.large, size_is i begins table hi g y.bucket) in
        foremost_is i W y.bucket n q (in_large y.bucket f.0) big
        (λ x t s.
        let r = h.first x (large_in x t s) in
        let same : r.0 ≡ y = let z = r.1.0 in cc in
        subst (λ (z : ℤ). lt_z z (bucket_key i x) ≡ false) (ap (λ (v : Best). v.key) same ∙ f.1 ∙ big_is y.bucket big)
        (subst (λ (z : ℤ). lt_z r.0.key z ≡ false) (big_is x s) r.1.1))

  -- bucket b leaves: another goes first where it did, and else what went first still does
  pub left_foremost : (set : List ℕ) (o' e : ℕ) (W : List ℕ) (n b n' : ℕ) → Foremost i W n → Left set begins table n b o' e n'
      → Asc o' e (remove b W) → e ≤ o' + 256 → Marks set (remove b W) → Foremost i (remove b W) n'
  left_foremost set o' e W n b n' h t a narrow m =
      ⊎_elim (λ (z : n ≡ b + 1). look_foremost set o' e (remove b W) a narrow m t.best n' (t.largest z) (t.told z))
      (λ d. subst (λ (y : ℕ). Foremost i (remove b W) y) (sym (t.other d)) (leave_foremost i W n b h d))
      (same_or_not n (b + 1))
