-- The version and the settings, number by number: what is read where each is refused, and where all are read. Assumes nothing.
use Prim.Native.Nat.{ℕ, zero, suc, ◌≤◌}
use native.Mathlib.Omega.{arith}
use mathlib.Core.Path.{◌≡◌, refl, sym, ◌∙◌}
use mathlib.Core.List.{List}
use borrow.Author.Tests.{eq-eqb, ne_eqb}
use Rattle.rules.specs.declared.Settings.{Settings}
use Rattle.rules.specs.declared.Refusal.{Refusal}
use Rattle.rules.specs.Numbers.{first_of, lines_to7}
use Rattle.rules.specs.Answers.{number_of}
use Rattle.rules.proofs.RefusalLaws.{number_positive}
use Rattle.level_file.specs.Reading.{Read, then, refused_if, refused_by, number_at, settings_at, checked_at, head_at}
use Rattle.level_file.specs.Reading.Read.{Got, No}

-- ---- the five settings, and 1 to 7

by_number : {A : Type 0} (n : ℕ) (r : Read A) → 1 ≤ n → No n ≡ refused_by n r
unfolding refused_by
by_number zero r h = absurd (omega arith)
by_number (suc n) r h = refl

module _ (bytes : List ℕ) (at : ℕ) where
  pub settings_no₁ : (n : ℕ) → number_at bytes at ≡ No n → No n ≡ checked_at bytes at
  unfolding checked_at settings_at then
  settings_no₁ n i = rw i refl

  module _ (m at₁ : ℕ) (e₁ : number_at bytes at ≡ Got m at₁) where
    pub settings_no₂ : (n : ℕ) → number_at bytes at₁ ≡ No n → No n ≡ checked_at bytes at
    unfolding checked_at settings_at then
    settings_no₂ n i = rw (e₁, i) refl

    module _ (len at₂ : ℕ) (e₂ : number_at bytes at₁ ≡ Got len at₂) where
      pub settings_no₃ : (n : ℕ) → number_at bytes at₂ ≡ No n → No n ≡ checked_at bytes at
      unfolding checked_at settings_at then
      settings_no₃ n i = rw (e₁, e₂, i) refl

      module _ (ll at₃ : ℕ) (e₃ : number_at bytes at₂ ≡ Got ll at₃) where
        pub settings_no₄ : (n : ℕ) → number_at bytes at₃ ≡ No n → No n ≡ checked_at bytes at
        unfolding checked_at settings_at then
        settings_no₄ n i = rw (e₁, e₂, e₃, i) refl

        module _ (sb at₄ : ℕ) (e₄ : number_at bytes at₃ ≡ Got sb at₄) where
          pub settings_no₅ : (n : ℕ) → number_at bytes at₄ ≡ No n → No n ≡ checked_at bytes at
          unfolding checked_at settings_at then
          settings_no₅ n i = rw (e₁, e₂, e₃, e₄, i) refl

          module _ (buckets next : ℕ) (e₅ : number_at bytes at₄ ≡ Got buckets next) where
            settings : Settings
            settings = record { m = m; log2_slice_len = len; ll = ll; sb = sb; buckets = buckets }

            settings_all : checked_at bytes at ≡ refused_by (first_of (lines_to7 settings)) (Got settings next)
            unfolding checked_at settings_at then settings
            settings_all = rw (e₁, e₂, e₃, e₄, e₅) refl

            pub settings_refused : (why : Refusal) → number_of why ≡ first_of (lines_to7 (record { m = m; log2_slice_len = len; ll = ll; sb = sb; buckets = buckets })) → No (number_of why) ≡ checked_at bytes at
            unfolding settings
            settings_refused why i = by_number (number_of why) (Got settings next) (number_positive why) ∙ (rw i (sym settings_all))

            pub settings_fine : 0 ≡ first_of (lines_to7 (record { m = m; log2_slice_len = len; ll = ll; sb = sb; buckets = buckets })) → Got (record { m = m; log2_slice_len = len; ll = ll; sb = sb; buckets = buckets }) next ≡ checked_at bytes at
            unfolding settings refused_by
            settings_fine i = sym (rw (sym i) at settings_all)

-- ---- the version

module _ (bytes : List ℕ) (start : ℕ) (z : start ≡ 0) where
  pub version_no : (n : ℕ) → number_at bytes start ≡ No n → No n ≡ head_at bytes
  unfolding head_at then
  version_no n i = let e : number_at bytes 0 ≡ No n = rw z at i in rw e refl

  module _ (version at : ℕ) (i : number_at bytes start ≡ Got version at) where
    version_got : number_at bytes 0 ≡ Got version at
    version_got = rw z at i

    pub version_other : (version ≡ 1 → ⊥) → No 23 ≡ head_at bytes
    unfolding head_at then refused_if
    version_other h = rw (version_got, ne_eqb version 1 h) refl

    pub version_one : version ≡ 1 → head_at bytes ≡ checked_at bytes at
    unfolding head_at then refused_if
    version_one o = rw (version_got, eq-eqb version 1 o) refl
