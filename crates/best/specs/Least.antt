-- `best_of` finds the least by (cost, r, j) among the rotations that pass the test, or nothing where none passes; and in the terms of rule S, none that
-- passes is cheaper. Why: what is found so far costs no more than any rotation that passed, and less than each that passed before it. Assumes nothing.
use Rattle.std.specs.Prelude.{◌≡◌, refl, ◌⊎◌, ◌≢◌, not, ◌&&◌, ◌||◌, ℕ, zero, suc, ◌+◌, ◌-◌, ◌^◌, ◌≤◌, ◌<◌, T}
use Rattle.std.proofs.Common.{ap, inl, inr, ⊎_elim, arith, T_not, lt→ltb}
use Rattle.std.proofs.Math.Bool.{Bool}
use Rattle.std.proofs.Math.Dec.{not_T, ltb}
use Rattle.std.proofs.Math.Arith.{le→nltb}
use Rattle.words.specs.Cases.{lt_or_ge}
use Rattle.rules.specs.Order.{Input}
use Rattle.rules.specs.Seed.{seed_of, cheaper}
use Rattle.rules.specs.Seed as Seed
use Rattle.rules.proofs.Tests.{split, not_or, not_and_left, not_and_right, not_not}
use Rattle.best.specs.declared.Best.{Best}
use Rattle.best.specs.Best.{nothing, best_from, best_of}
use Rattle.best.specs.BestLaws.{better_less, better_not, from_none, from_pass, from_fail, of_none, of_more}

-- (r, j) stands before (q, k)
abbrev Before : (r j q k : ℕ) → Type 0
Before r j q k = (r < q) ⊎ ((r ≡ q) × (j < k))

module _ (cost : ℕ → ℕ → ℕ) (test : ℕ → ℕ → Bool) (n : ℕ) where
  -- b is a rotation before (q, k) that passes, and each one before it that passes costs more
  record Winner (q k : ℕ) (b : Best) : Type 0 where
    turn : b.j < n
    reached : Before b.r b.j q k
    passes : T (test b.r b.j)
    price : b.cost ≡ cost b.r b.j
    first : (r j : ℕ) → j < n → Before r j b.r b.j → T (test r j) → b.cost < cost r j

  -- b is what is found before (q, k)
  record Sofar (q k : ℕ) (b : Best) : Type 0 where
    all : (r j : ℕ) → j < n → Before r j q k → T (test r j) → b.cost ≤ cost r j
    which : (b ≡ nothing) ⊎ Winner q k b

  -- one step on
  split_step : (r j q k : ℕ) → Before r j q (suc k) → Before r j q k ⊎ ((r ≡ q) × (j ≡ k))
  split_step r j q k (inl h) = inl (inl h)
  split_step r j q k (inr (e, l)) = ⊎_elim (λ (x : j < k). inl (inr (e, x))) (λ (x : k ≤ j). inr (e, omega arith)) (lt_or_ge j k)

  wider : (r j q k : ℕ) → Before r j q k → Before r j q (suc k)
  wider r j q k (inl h) = inl h
  wider r j q k (inr (e, l)) = inr (e, omega arith)

  winner_wider : {q k : ℕ} {b : Best} → Winner q k b → Winner q (suc k) b
  winner_wider {q} {k} {b} w = record { turn = w.turn; reached = wider b.r b.j q k w.reached; passes = w.passes; price = w.price; first = w.first }

  -- nothing better at (q, k)
  stay : {q k : ℕ} {b : Best} → Sofar q k b → (T (test q k) → b.cost ≤ cost q k) → Sofar q (suc k) b
  stay {q} {k} {b} a h = record {
    all = λ r j l o t. ⊎_elim
        (λ (x : Before r j q k). a.all r j l x t)
        (λ (x : (r ≡ q) × (j ≡ k)). rw (x.0, x.1) (h (rw (x.0, x.1) at t)))
        (split_step r j q k o);
    which = ⊎_elim (λ e. inl e) (λ w. inr (winner_wider w)) a.which;
  }

  -- (q, k) wins
  win : {q k : ℕ} {b : Best} → Sofar q k b → k < n → T (test q k) → cost q k < b.cost → Sofar q (suc k) (record { cost = cost q k; r = q; j = k })
  win {q} {k} {b} a lt t h = record {
    all = λ r j l o u. ⊎_elim
        (λ (x : Before r j q k). omega (arith, a.all r j l x u))
        (λ (x : (r ≡ q) × (j ≡ k)). rw (x.0, x.1) (omega arith))
        (split_step r j q k o);
    which = inr (record { turn = lt; reached = inr (refl, omega arith); passes = t; price = refl; first = λ r j l o u. omega (arith, a.all r j l o u) });
  }

  -- the rotations of one layout
  sofar_from : (q : ℕ) {b : Best} → Sofar q 0 b → (k : ℕ) → k ≤ n → Sofar q k (best_from (cost q) (test q) q b 0 k)
  sofar_from q {b} a zero h = rw (from_none (cost q) (test q) q b 0) a
  sofar_from q {b} a (suc k) h = go (sofar_from q a k (omega arith)) (split (test q (0 + k)))
    where
      z : 0 + k ≡ k
      z = omega arith

      go : Sofar q k (best_from (cost q) (test q) q b 0 k) → T (test q (0 + k)) ⊎ T (not (test q (0 + k))) → Sofar q (suc k) (best_from (cost q) (test q) q b 0 (suc k))
      go s (inr f) =
          rw (from_fail (cost q) (test q) q b 0 k f) (stay s (λ t. absurd (T_not (test q k) (rw z at f) t)))
      go s (inl t) = rw (from_pass (cost q) (test q) q b 0 k t, z) (⊎_elim
          (λ (l : cost q k < (best_from (cost q) (test q) q b 0 k).cost).
          rw (better_less (cost q k) q k (best_from (cost q) (test q) q b 0 k) l) (win s h (rw z at t) l))
          (λ (l : (best_from (cost q) (test q) q b 0 k).cost ≤ cost q k).
          rw (better_not (cost q k) q k (best_from (cost q) (test q) q b 0 k) l) (stay s (λ u. l)))
          (lt_or_ge (cost q k) (best_from (cost q) (test q) q b 0 k).cost))

  -- on to the next layout
  onward : {q : ℕ} {b : Best} → Sofar q n b → Sofar (suc q) 0 b
  onward {q} {b} a = record {
    all = λ r j l o t. a.all r j l (back r j l o) t;
    which = ⊎_elim (λ e. inl e) (λ w. inr (record { turn = w.turn; reached = inl (below w.reached); passes = w.passes; price = w.price; first = w.first })) a.which;
  }
    where
      back : (r j : ℕ) → j < n → Before r j (suc q) 0 → Before r j q n
      back r j l (inl h) = ⊎_elim (λ (x : r < q). inl x) (λ (x : q ≤ r). inr (omega arith, l)) (lt_or_ge r q)
      back r j l (inr (e, x)) = absurd (omega arith)

      below : Before b.r b.j q n → b.r < suc q
      below (inl h) = omega arith
      below (inr (e, x)) = omega arith

  sofar_of : (layouts : ℕ) → Sofar layouts 0 (best_of cost test n layouts)
  sofar_of zero = rw (of_none cost test n) (record { all = λ r j l o t. absurd (none r j o); which = inl refl })
    where
      none : (r j : ℕ) → Before r j 0 0 → ⊥
      none r j (inl h) = omega arith
      none r j (inr (e, h)) = omega arith
  sofar_of (suc q) = rw (of_more cost test n q) (onward (sofar_from q (sofar_of q) n (omega arith)))

  -- b is the least by (cost, r, j) of the rotations that pass
  pub record Found (layouts : ℕ) (b : Best) : Type 0 where
    pub layout : b.r < layouts
    pub turn : b.j < n
    pub passes : T (test b.r b.j)
    pub price : b.cost ≡ cost b.r b.j
    pub least : (r j : ℕ) → r < layouts → j < n → T (test r j) → b.cost ≤ cost r j
    pub first : (r j : ℕ) → j < n → (r < b.r) ⊎ ((r ≡ b.r) × (j < b.j)) → T (test r j) → b.cost < cost r j

  pub best_found : (layouts : ℕ) → (best_of cost test n layouts).cost ≢ 2 ^ 64 - 1 → Found layouts (best_of cost test n layouts)
  best_found layouts h = go (sofar_of layouts).which
    where
      go : (best_of cost test n layouts ≡ nothing) ⊎ Winner layouts 0 (best_of cost test n layouts) → Found layouts (best_of cost test n layouts)
      go (inl e) = absurd (h (ap (λ (b : Best). b.cost) e))
      go (inr w) = record {
        layout = below w.reached;
        turn = w.turn;
        passes = w.passes;
        price = w.price;
        least = λ r j lr lj t. (sofar_of layouts).all r j lj (inl lr) t;
        first = w.first;
      }
        where
          below : Before (best_of cost test n layouts).r (best_of cost test n layouts).j layouts 0 → (best_of cost test n layouts).r < layouts
          below (inl x) = x
          below (inr (e, x)) = absurd (omega arith)

  -- nothing found: none passes
  pub best_none : (layouts : ℕ) → (best_of cost test n layouts).cost ≡ 2 ^ 64 - 1 → (r j : ℕ) → r < layouts → j < n → cost r j < 2 ^ 64 - 1 → T (not (test r j))
  best_none layouts h r j lr lj lc = not_T (test r j) (λ t. omega (arith, (sofar_of layouts).all r j lj (inl lr) t))

-- in the terms of rule S: no rotation that passes goes before the one found
module _ {cost : ℕ → ℕ → ℕ} {test : ℕ → ℕ → Bool} {n layouts : ℕ} {b : Best} (f : Found cost test n layouts b) (i : Input) (bucket : ℕ)
    (same : (r j : ℕ) → r < layouts → j < n → Seed.cost i bucket (seed_of i (record { r = r; j = j })) ≡ cost r j) where
  pub found_first : (r j : ℕ) → r < layouts → j < n → T (test r j) → T (not (cheaper i bucket (record { r = r; j = j }) (record { r = b.r; j = b.j })))
  unfolding cheaper
  found_first r j lr lj t =
      rw (same r j lr lj, same b.r b.j f.layout f.turn, ← f.price)
      (not_or (ltb (cost r j) b.cost) (not (ltb b.cost (cost r j)) && later) (le→nltb (cost r j) b.cost (f.least r j lr lj t)) (⊎_elim
      (λ (h : b.cost < cost r j). not_and_left (not (ltb b.cost (cost r j))) later (not_not (ltb b.cost (cost r j)) (lt→ltb b.cost (cost r j) h)))
      (λ (h : cost r j ≤ b.cost). not_and_right (not (ltb b.cost (cost r j))) later (not_or (ltb r b.r) (not (ltb b.r r) && ltb j b.j)
      (le→nltb r b.r (no_layout h))
      (⊎_elim
      (λ (x : b.r < r). not_and_left (not (ltb b.r r)) (ltb j b.j) (not_not (ltb b.r r) (lt→ltb b.r r x)))
      (λ (x : r ≤ b.r). not_and_right (not (ltb b.r r)) (ltb j b.j) (le→nltb j b.j (no_turn h x)))
      (lt_or_ge b.r r))))
      (lt_or_ge b.cost (cost r j))))
    where
      later : Bool
      later = ltb r b.r || (not (ltb b.r r) && ltb j b.j)

      no_layout : cost r j ≤ b.cost → b.r ≤ r
      no_layout h = ⊎_elim (λ (x : r < b.r). absurd (omega (arith, f.first r j lj (inl x) t))) (λ (x : b.r ≤ r). x) (lt_or_ge r b.r)

      no_turn : cost r j ≤ b.cost → r ≤ b.r → b.j ≤ j
      no_turn h x = ⊎_elim
          (λ (y : j < b.j).
          let e : r ≡ b.r = omega (arith, no_layout h) in
          absurd (omega (arith, f.first r j lj (inr (e, y)) t)))
          (λ (y : b.j ≤ j). y)
          (lt_or_ge j b.j)
