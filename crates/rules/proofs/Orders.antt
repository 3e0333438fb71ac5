-- Orders as tests, and that `best` finds the first. Assumes nothing.
use mathlib.Core.Path.{◌≡◌, refl, subst}
use mathlib.Core.Logic.{◌⊎◌, inl, inr}
use mathlib.Core.Bool.{Bool, true, false, not, cond, ◌&&◌}
use mathlib.Core.List.Memᴰ
use mathlib.Core.List.{List, [], ◌∷◌, Memᴰ}
use Prim.Native.Nat.{ℕ}
use native.Mathlib.Omega.{arith}
use lib.Dec.{T, T_not, ltb, ltb→lt, nltb→le}
use lib.Arith.{le→nltb}
use lib.IntN.{ℤ, pos, negsuc}
use lib.Signed.{lt_z}
use Rattle.rules.specs.Lists.{smaller, greater, then_by, best}
use Rattle.rules.proofs.Tests.{split, is_true, is_false, or_cases, not_or, not_or_left, not_or_right, and_left, and_right, not_and_left, not_and_right, not_and_cases, not_not, of_not_not}

-- a strict order in which being level is transitive
pub record Strict {A : Type 0} (f : A → A → Bool) : Type 0 where
  pub asym : (x y : A) → T (f x y) → T (not (f y x))
  pub level : (x y z : A) → T (not (f x y)) → T (not (f y z)) → T (not (f x z))

ltb_asym : (a b : ℕ) → T (ltb a b) → T (not (ltb b a))
ltb_asym a b t = le→nltb b a (omega (arith, ltb→lt a b t))

ltb_level : (a b c : ℕ) → T (not (ltb a b)) → T (not (ltb b c)) → T (not (ltb a c))
ltb_level a b c s t = le→nltb a c (omega (arith, nltb→le a b s, nltb→le b c t))

lt_z_asym : (a b : ℤ) → T (lt_z a b) → T (not (lt_z b a))
lt_z_asym (pos a) (pos b) t = ltb_asym a b t
lt_z_asym (pos a) (negsuc b) t = absurd t
lt_z_asym (negsuc a) (pos b) t = tt
lt_z_asym (negsuc a) (negsuc b) t = ltb_asym b a t

lt_z_level : (a b c : ℤ) → T (not (lt_z a b)) → T (not (lt_z b c)) → T (not (lt_z a c))
lt_z_level (pos a) (pos b) (pos c) s t = ltb_level a b c s t
lt_z_level (pos a) (pos b) (negsuc c) s t = tt
lt_z_level (pos a) (negsuc b) (pos c) s t = absurd t
lt_z_level (pos a) (negsuc b) (negsuc c) s t = tt
lt_z_level (negsuc a) (pos b) c s t = absurd s
lt_z_level (negsuc a) (negsuc b) (pos c) s t = t
lt_z_level (negsuc a) (negsuc b) (negsuc c) s t = ltb_level c b a t s

module _ {A : Type 0} where
  pub strict_smaller : (key : A → ℕ) → Strict (smaller key)
  strict_smaller key = record {
    asym = λ x y t. ltb_asym (key x) (key y) t;
    level = λ x y z s t. ltb_level (key x) (key y) (key z) s t;
  }

  pub strict_greater : (key : A → ℤ) → Strict (greater key)
  strict_greater key = record {
    asym = λ x y t. lt_z_asym (key y) (key x) t;
    level = λ x y z s t. lt_z_level (key z) (key y) (key x) t s;
  }

module _ {A : Type 0} {f : A → A → Bool} (F : Strict f) where
  pub irrefl : (x : A) → T (not (f x x))
  irrefl x = elim (split (f x x)) [ inl t ↦ F.asym x x t | inr t ↦ t ]

  pub best_top : (a : A) (xs : List A) (x : A) → Memᴰ x (a ∷ xs) → T (not (f x (best f a xs)))
  best_top a [] x m = only (Memᴰ.cases_cons m)
    where
      only : (x ≡ a) ⊎ Memᴰ x [] → T (not (f x a))
      only (inl e) = subst (λ (y : A). T (not (f x y))) e (irrefl x)
      only (inr k) = absurd (Memᴰ.not-nil k)
  best_top a (b ∷ bs) x m = go (split (f c a)) (best_top b bs) (Memᴰ.cases_cons m)
    where
      c : A
      c = best f b bs

      go : T (f c a) ⊎ T (not (f c a)) → ((y : A) → Memᴰ y (b ∷ bs) → T (not (f y c))) → (x ≡ a) ⊎ Memᴰ x (b ∷ bs) → T (not (f x (cond (f c a) c a)))
      go (inl t) ih (inl e) = rw (is_true (f c a) t) (rw e (F.asym c a t))
      go (inl t) ih (inr k) = rw (is_true (f c a) t) (ih x k)
      go (inr t) ih (inl e) = rw (is_false (f c a) t) (rw e (irrefl a))
      go (inr t) ih (inr k) = rw (is_false (f c a) t) (F.level x c a (ih x k) t)

module _ {A : Type 0} (f : A → A → Bool) where
  pub best_mem : (a : A) (xs : List A) → Memᴰ (best f a xs) (a ∷ xs)
  best_mem a [] = Memᴰ.head refl
  best_mem a (b ∷ bs) = go (f (best f b bs) a) (best_mem b bs)
    where
      go : (c : Bool) → Memᴰ (best f b bs) (b ∷ bs) → Memᴰ (cond c (best f b bs) a) (a ∷ b ∷ bs)
      go true m = Memᴰ.tail m
      go false m = Memᴰ.head refl

module _ {A : Type 0} {f g : A → A → Bool} (F : Strict f) (G : Strict g) where
  -- where f tells y and x apart, it tells z and x apart, z not being after y; and so the other way round
  before_left : (x y z : A) → T (f y x) → T (not (f y z)) → T (f z x)
  before_left x y z t s = elim (split (f z x)) [ inl u ↦ u | inr u ↦ absurd (T_not (f y x) (F.level y z x s u) t) ]

  before_right : (x y z : A) → T (f z y) → T (not (f x y)) → T (f z x)
  before_right x y z t s = elim (split (f z x)) [ inl u ↦ u | inr u ↦ absurd (T_not (f z y) (F.level z x y u s) t) ]

  later : (x y : A) → T (not (f x y)) → T (f y x) ⊎ T (not (g x y)) → T (not (then_by f g x y))
  later x y s (inl t) = not_or (f x y) (not (f y x) && g x y) s (not_and_left (not (f y x)) (g x y) (not_not (f y x) t))
  later x y s (inr t) = not_or (f x y) (not (f y x) && g x y) s (not_and_right (not (f y x)) (g x y) t)

  of_later : (x y : A) → T (not (then_by f g x y)) → T (f y x) ⊎ T (not (g x y))
  of_later x y t = back (not_and_cases (not (f y x)) (g x y) (not_or_right (f x y) (not (f y x) && g x y) t))
    where
      back : T (not (not (f y x))) ⊎ T (not (g x y)) → T (f y x) ⊎ T (not (g x y))
      back (inl u) = inl (of_not_not (f y x) u)
      back (inr u) = inr u

  pub strict_then : Strict (then_by f g)
  strict_then = record { asym = asym'; level = level' }
    where
      asym' : (x y : A) → T (then_by f g x y) → T (not (then_by f g y x))
      asym' x y t = go (or_cases (f x y) (not (f y x) && g x y) t)
        where
          go : T (f x y) ⊎ T (not (f y x) && g x y) → T (not (then_by f g y x))
          go (inl u) = later y x (F.asym x y u) (inl u)
          go (inr u) = later y x (and_left (not (f y x)) (g x y) u) (inr (G.asym x y (and_right (not (f y x)) (g x y) u)))

      level' : (x y z : A) → T (not (then_by f g x y)) → T (not (then_by f g y z)) → T (not (then_by f g x z))
      level' x y z s t = later x z (F.level x y z fs ft) (go (of_later x y s) (of_later y z t))
        where
          fs : T (not (f x y))
          fs = not_or_left (f x y) (not (f y x) && g x y) s

          ft : T (not (f y z))
          ft = not_or_left (f y z) (not (f z y) && g y z) t

          go : T (f y x) ⊎ T (not (g x y)) → T (f z y) ⊎ T (not (g y z)) → T (f z x) ⊎ T (not (g x z))
          go (inl u) v = inl (before_left x y z u ft)
          go (inr u) (inl v) = inl (before_right x y z v fs)
          go (inr u) (inr v) = inr (G.level x y z u v)

  -- level by both orders is level by each
  pub then_level : (x y : A) → T (not (then_by f g x y)) → T (not (then_by f g y x)) → T (not (g x y)) × T (not (g y x))
  then_level x y s t = (pick x y (not_or_left (f y x) (not (f x y) && g y x) t) (of_later x y s), pick y x (not_or_left (f x y) (not (f y x) && g x y) s) (of_later y x t))
    where
      pick : (u v : A) → T (not (f v u)) → T (f v u) ⊎ T (not (g u v)) → T (not (g u v))
      pick u v n (inl k) = absurd (T_not (f v u) n k)
      pick u v n (inr k) = k

pub smaller_level : {A : Type 0} (key : A → ℕ) (x y : A) → T (not (smaller key x y)) → T (not (smaller key y x)) → key x ≡ key y
smaller_level key x y s t = omega (arith, nltb→le (key x) (key y) s, nltb→le (key y) (key x) t)

-- one that no other goes before is the best, where no two are level
pub best_is : {A : Type 0} {f : A → A → Bool} → Strict f → (a : A) (xs : List A) (x : A) → Memᴰ x (a ∷ xs)
    → ((y : A) → Memᴰ y (a ∷ xs) → T (not (f y x))) → ((y : A) → Memᴰ y (a ∷ xs) → T (not (f x y)) → T (not (f y x)) → x ≡ y) → x ≡ best f a xs
best_is {f = f} F a xs x m top same = same (best f a xs) (best_mem f a xs) (best_top F a xs x m) (top (best f a xs) (best_mem f a xs))
