-- The look through the untaken buckets for the largest: the best of those passed, and one step. Assumes nothing.
use mathlib.Core.Path.{◌≡◌, refl, sym, ap, subst}
use mathlib.Core.Bool.{Bool, true, false, cond}
use mathlib.Core.List.{List}
use mathlib.Core.Logic.{⊎_elim}
use Prim.Native.Nat.{ℕ, ◌+◌, ◌<◌, ◌≤◌, ◌%◌}
use native.Mathlib.Omega.{arith}
use borrow.Author.Tests.{ltb-true, ltb-false, eqb-true, eqb-false}
use lib.Dec.{eqb, ltb}
use lib.IntN.{ℤ, pos}
use lib.Signed.{lt_z}
use lib.ListN.{get_or}
use Rattle.words.specs.Map.{slot}
use Rattle.words.specs.Cases.{same_or_not}
use Rattle.groups.specs.Groups.{size_in}
use Rattle.window.specs.declared.large.Best.{Best}
use Rattle.std.proofs.Common.{Option, Some, None}
use Rattle.window.specs.Large.{key_in, better_best, better_of, LargeIn, Largest}
use Rattle.window.proofs.KeyLaws.{key_level, key_chain, key_after}

module _ (set begins : List ℕ) (table : List ℤ) (o e : ℕ) where
  -- the buckets below b are passed, and `best` is the best of them
  pub record Scanned (b : ℕ) (best : Option Best) : Type 0 where
    pub from : o ≤ b
    pub to : b ≤ e
    pub found : (x : Best) → best ≡ Some x → LargeIn set begins o e x.bucket × (x.key ≡ key_in begins table x.bucket)
    pub first : (x : ℕ) → LargeIn set begins o e x → x < b → (y : Best) × ((best ≡ Some y) × (lt_z y.key (key_in begins table x) ≡ false))

  pub start : o ≤ e → Scanned o None
  start l =
      record {
        from = omega arith;
        to = l;
        found = λ x q. cc;
        first = λ x h m. absurd (omega (arith, h.from));
      }

  module _ (b : ℕ) (best : Option Best) (h : Scanned b best) (l : b < e) where
    below : (x : ℕ) → x < b + 1 → (x ≡ b → ⊥) → x < b
    below x m d = omega arith

    -- best stays, where b is not large, is taken or has no greater key
    stays : (LargeIn set begins o e b → (y : Best) × ((best ≡ Some y) × (lt_z y.key (key_in begins table b) ≡ false))) → Scanned (b + 1) best
    stays n =
        record {
          from = omega (arith, h.from);
          to = omega arith;
          found = h.found;
          first =
              λ x g m.
              ⊎_elim
              (λ (z : x ≡ b).
              let P : ℕ → Type 0 = λ v. (y : Best) × ((best ≡ Some y) × (lt_z y.key (key_in begins table v) ≡ false)) in
              subst P (sym z) (n (subst (λ (y : ℕ). LargeIn set begins o e y) z g)))
              (λ d. h.first x g (below x m d))
              (same_or_not x b);
        }

    -- bucket b, with its key
    this : Best
    this = record { bucket = b; key = key_in begins table b }

    -- b is better
    wins : LargeIn set begins o e b → ((y : Best) → best ≡ Some y → lt_z y.key (key_in begins table b) ≡ true) → Scanned (b + 1) (Some this)
    unfolding this
    wins k u =
        record {
          from = omega (arith, h.from);
          to = omega arith;
          found = λ x q. let same : this ≡ x = cc in subst (λ (y : Best). LargeIn set begins o e y.bucket × (y.key ≡ key_in begins table y.bucket)) same (k, refl);
          first =
              λ x g m. (
                this,
                (
                  refl,
                  ⊎_elim (λ (z : x ≡ b). key_level (key_in begins table b) (key_in begins table x) (ap (key_in begins table) (sym z)))
                      (λ d.
                      let f = h.first x g (below x m d) in
                      key_chain (key_in begins table b) f.0.key (key_in begins table x) (key_after f.0.key (key_in begins table b) (u f.0 f.1.0)) f.1.1)
                      (same_or_not x b),
                ),
              );
        }

    compared : LargeIn set begins o e b → (x : Best) → best ≡ Some x → (v : Bool) → lt_z x.key (key_in begins table b) ≡ v → Scanned (b + 1) (Some (cond v this x))
    compared k x q true w = wins k (λ y r. let same : x ≡ y = cc in subst (λ (z : Best). lt_z z.key (key_in begins table b) ≡ true) same w)
    compared k x q false w = subst (λ (z : Option Best). Scanned (b + 1) z) q (stays (λ g. (x, (q, w))))

    pub step : (best' : Option Best) → best' ≡ better_of set (get_or table 6 (pos 0)) (get_or table 7 (pos 0)) best (size_in begins b) b → Scanned (b + 1) best'
    unfolding better_of this
    step best' q = subst (λ (y : Option Best). Scanned (b + 1) y) (sym q) (by (ltb (size_in begins b) 64) (eqb (slot set (b % 1024)) 1) best refl refl refl)
      where
        by : (t u : Bool) (was : Option Best) → ltb (size_in begins b) 64 ≡ t → eqb (slot set (b % 1024)) 1 ≡ u → best ≡ was
            → Scanned (b + 1) (cond t best (cond u (Some (better_best was (record { bucket = b; key = key_in begins table b }))) best))
        by true u was p q r = stays (λ k. absurd (omega (arith, ltb-true (size_in begins b) 64 p, k.large)))
        by false false was p q r = stays (λ k. absurd (eqb-false (slot set (b % 1024)) 1 q k.untaken))
        by false true None p q r =
            wins (record { from = h.from; to = l; untaken = eqb-true (slot set (b % 1024)) 1 q; large = omega (arith, ltb-false (size_in begins b) 64 p) }) (λ y z. cc)
        by false true (Some x) p q r =
            compared (record { from = h.from; to = l; untaken = eqb-true (slot set (b % 1024)) 1 q; large = omega (arith, ltb-false (size_in begins b) 64 p) }) x r _ refl

  pub ended : (b : ℕ) (best : Option Best) → Scanned b best → e ≤ b → Largest set begins table o e best
  ended b best h l = record { found = h.found; first = λ x g. h.first x g (omega (arith, g.to)) }
