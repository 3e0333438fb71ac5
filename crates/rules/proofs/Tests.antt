-- Tests (Bool) as facts, and the membership in a filtered list. Assumes nothing.
use mathlib.Core.Path.{◌≡◌, refl, sym, subst}
use mathlib.Core.Logic.{◌⊎◌, inl, inr, ◌≢◌}
use mathlib.Core.Bool.{Bool, true, false, not, ◌&&◌, ◌||◌}
use mathlib.Core.List.Memᴰ
use mathlib.Core.List.{List, [], ◌∷◌, Memᴰ}
use Prim.Native.Nat.{ℕ}
use lib.Dec.{T, eqb, eqb→eq, eqb_refl, T_not}
use Rattle.rules.specs.Lists.{elem, keep, filter}

pub split : (b : Bool) → T b ⊎ T (not b)
split true = inl tt
split false = inr tt

pub is_true : (b : Bool) → T b → b ≡ true
is_true true t = refl
is_true false t = absurd t

pub is_false : (b : Bool) → T (not b) → b ≡ false
is_false true t = absurd t
is_false false t = refl

pub of_true : {b : Bool} → b ≡ true → T b
of_true e = subst T (sym e) tt

pub of_false : {b : Bool} → b ≡ false → T (not b)
of_false e = subst (λ (c : Bool). T (not c)) (sym e) tt

pub and_left : (a b : Bool) → T (a && b) → T a
and_left true b t = tt
and_left false b t = t

pub and_right : (a b : Bool) → T (a && b) → T b
and_right true b t = t
and_right false b t = absurd t

pub and_both : (a b : Bool) → T a → T b → T (a && b)
and_both true b s t = t
and_both false b s t = s

pub or_cases : (a b : Bool) → T (a || b) → T a ⊎ T b
or_cases true b t = inl tt
or_cases false b t = inr t

pub or_left : (a b : Bool) → T a → T (a || b)
or_left true b t = tt
or_left false b t = absurd t

pub or_right : (a b : Bool) → T b → T (a || b)
or_right true b t = tt
or_right false b t = t

pub not_or : (a b : Bool) → T (not a) → T (not b) → T (not (a || b))
not_or true b s t = s
not_or false b s t = t

pub not_or_left : (a b : Bool) → T (not (a || b)) → T (not a)
not_or_left true b t = t
not_or_left false b t = tt

pub not_or_right : (a b : Bool) → T (not (a || b)) → T (not b)
not_or_right true b t = absurd t
not_or_right false b t = t

pub not_and_left : (a b : Bool) → T (not a) → T (not (a && b))
not_and_left true b t = absurd t
not_and_left false b t = tt

pub not_and_right : (a b : Bool) → T (not b) → T (not (a && b))
not_and_right true b t = t
not_and_right false b t = tt

pub not_and_cases : (a b : Bool) → T (not (a && b)) → T (not a) ⊎ T (not b)
not_and_cases true b t = inr t
not_and_cases false b t = inl tt

pub not_not : (a : Bool) → T a → T (not (not a))
not_not true t = tt
not_not false t = t

pub of_not_not : (a : Bool) → T (not (not a)) → T a
of_not_not true t = tt
of_not_not false t = t

pub neq : (m n : ℕ) → T (not (eqb m n)) → m ≢ n
neq m n t e = T_not (eqb m n) t (subst (λ (k : ℕ). T (eqb m k)) e (eqb_refl m))

pub eq→eqb : (m n : ℕ) → m ≡ n → T (eqb m n)
eq→eqb m n e = subst (λ (k : ℕ). T (eqb m k)) e (eqb_refl m)

pub neq→neqb : (m n : ℕ) → m ≢ n → T (not (eqb m n))
neq→neqb m n h = elim (split (eqb m n)) [ inl t ↦ absurd (h (eqb→eq m n t)) | inr t ↦ t ]

-- ---- membership

pub elem_mem : (x : ℕ) (ys : List ℕ) → T (elem x ys) → Memᴰ x ys
elem_mem x [] t = absurd t
elem_mem x (y ∷ ys) t = go (elem_mem x ys) (or_cases (eqb x y) (elem x ys) t)
  where
    go : (T (elem x ys) → Memᴰ x ys) → T (eqb x y) ⊎ T (elem x ys) → Memᴰ x (y ∷ ys)
    go ih (inl e) = Memᴰ.head (eqb→eq x y e)
    go ih (inr s) = Memᴰ.tail (ih s)

pub mem_elem : {x : ℕ} {ys : List ℕ} → Memᴰ x ys → T (elem x ys)
mem_elem {x} (Memᴰ.head {x = y} {xs = ys} e) = or_left (eqb x y) (elem x ys) (eq→eqb x y e)
mem_elem {x} (Memᴰ.tail {x = y} {xs = ys} h) = or_right (eqb x y) (elem x ys) (mem_elem h)

module _ {A : Type 0} (p : A → Bool) where
  pub mem_filter : (xs : List A) {a : A} → Memᴰ a (filter p xs) → Memᴰ a xs × T (p a)
  mem_filter [] h = absurd (Memᴰ.not-nil h)
  mem_filter (x ∷ xs) {a} h = go (p x) refl (mem_filter xs) h
    where
      go : (c : Bool) → p x ≡ c → (Memᴰ a (filter p xs) → Memᴰ a xs × T (p a)) → Memᴰ a (keep c x (filter p xs)) → Memᴰ a (x ∷ xs) × T (p a)
      go true e ih m = elim (Memᴰ.cases_cons m) [ inl q ↦ (Memᴰ.head q, subst (λ (y : A). T (p y)) (sym q) (of_true e)) | inr k ↦ (Memᴰ.tail (ih k).0, (ih k).1) ]
      go false e ih m = (Memᴰ.tail (ih m).0, (ih m).1)

  pub filter_mem : (xs : List A) {a : A} → Memᴰ a xs → T (p a) → Memᴰ a (filter p xs)
  filter_mem [] h t = absurd (Memᴰ.not-nil h)
  filter_mem (x ∷ xs) {a} h t = go (p x) refl (filter_mem xs) (Memᴰ.cases_cons h)
    where
      go : (c : Bool) → p x ≡ c → (Memᴰ a xs → T (p a) → Memᴰ a (filter p xs)) → (a ≡ x) ⊎ Memᴰ a xs → Memᴰ a (keep c x (filter p xs))
      go true e ih (inl q) = Memᴰ.head q
      go true e ih (inr m) = Memᴰ.tail (ih m t)
      go false e ih (inl q) = absurd (subst T e (subst (λ (y : A). T (p y)) q t))
      go false e ih (inr m) = ih m t
