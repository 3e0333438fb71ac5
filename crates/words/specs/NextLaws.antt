-- What `next_set` answers, how its answer is known, and what keeps it.
-- Why: `first_set` looks at one slot after another, so each law goes by induction on the number of slots.
-- Assumes nothing.
use Rattle.std.specs.Prelude.{◌≡◌, List, ℕ, zero, suc, ◌+◌, ◌-◌, ◌≤◌, ◌<◌}
use Rattle.std.proofs.Common.{◌∙◌, ⊎_elim, arith, eq-or-lt_of_le, eq-eqb, ne_eqb}
use Rattle.words.specs.Map.{slot}
use Rattle.words.specs.Next.{first_set, next_set}
use Rattle.words.specs.Cases.{lt_or_ge}
use Rattle.words.specs.MapLaws.{slot_cases}

-- ---- the first slot of a stretch

-- what the answer is
pub record First (ws : List ℕ) (b e r : ℕ) : Type 0 where
  pub from : b ≤ r
  pub to : r ≤ e
  -- no slot before it is marked
  pub below : (k : ℕ) → b ≤ k → k < r → slot ws k ≡ 0
  -- and it is, unless it is the end
  pub at : r < e → slot ws r ≡ 1

first_is : (ws : List ℕ) (n s : ℕ) → First ws s (s + n) (first_set ws n s)
unfolding first_set
first_is ws zero s = record { from = omega arith; to = omega arith; below = λ k h l. absurd (omega arith); at = λ l. absurd (omega arith) }
first_is ws (suc n) s =
    ⊎_elim
    (λ (z : slot ws s ≡ 0).
    let r = first_is ws n (suc s) in
    rw (ne_eqb (slot ws s) 1 (omega arith)) (record {
      from = omega (arith, r.from);
      to = omega (arith, r.to);
      below = λ k h l. ⊎_elim (λ q. rw (← q) z) (λ (q : s < k). r.below k q l) (eq-or-lt_of_le h);
      at = λ l. r.at (omega arith);
    }))
    (λ (o : slot ws s ≡ 1).
    rw (eq-eqb (slot ws s) 1 o) (record { from = omega arith; to = omega arith; below = λ k h l. absurd (omega arith); at = λ l. o }))
    (slot_cases ws s)

-- there is one such number
pub first_unique : {ws : List ℕ} {b e r t : ℕ} → First ws b e r → First ws b e t → r ≡ t
first_unique {ws} {b} {e} {r} {t} f g =
    ⊎_elim
    (λ (l : r < t). absurd (omega (arith, f.at (omega (arith, g.to)), g.below r f.from l)))
    (λ (h : t ≤ r).
    ⊎_elim
    (λ (l : t < r). absurd (omega (arith, g.at (omega (arith, f.to)), f.below t g.from l)))
    (λ (k : r ≤ t). omega arith)
    (lt_or_ge t r))
    (lt_or_ge r t)

-- ---- the answer

pub next_is : (ws : List ℕ) (b e : ℕ) → b ≤ e → First ws b e (next_set ws b e)
unfolding next_set
next_is ws b e h = let q : b + (e - b) ≡ e = omega arith in rw q at (first_is ws (e - b) b)

module _ (ws : List ℕ) (b e : ℕ) (h : b ≤ e) where
  pub next_from : b ≤ next_set ws b e
  next_from = (next_is ws b e h).from

  pub next_to : next_set ws b e ≤ e
  next_to = (next_is ws b e h).to

  pub next_below : (k : ℕ) → b ≤ k → k < next_set ws b e → slot ws k ≡ 0
  next_below = (next_is ws b e h).below

  pub next_at : next_set ws b e < e → slot ws (next_set ws b e) ≡ 1
  next_at = (next_is ws b e h).at

  -- ---- how it is known

  pub next_unique : {r : ℕ} → First ws b e r → next_set ws b e ≡ r
  next_unique f = first_unique (next_is ws b e h) f

  -- every slot of the range is free
  pub next_none : ((k : ℕ) → b ≤ k → k < e → slot ws k ≡ 0) → next_set ws b e ≡ e
  next_none z = next_unique (record { from = h; to = omega arith; below = z; at = λ l. absurd (omega arith) })

-- slot j is marked, and none before it
pub next_found : (ws : List ℕ) (b e j : ℕ) → b ≤ j → j < e → slot ws j ≡ 1 → ((k : ℕ) → b ≤ k → k < j → slot ws k ≡ 0) → next_set ws b e ≡ j
next_found ws b e j h l o z = next_unique ws b e (omega arith) (record { from = h; to = omega arith; below = z; at = λ _. o })

pub next_empty : (ws : List ℕ) (b : ℕ) → next_set ws b b ≡ b
next_empty ws b = next_none ws b b (omega arith) (λ k h l. absurd (omega arith))

pub next_here : (ws : List ℕ) (b e : ℕ) → b < e → slot ws b ≡ 1 → next_set ws b e ≡ b
next_here ws b e h o = next_found ws b e b (omega arith) h o (λ k g l. absurd (omega arith))

-- free slots at the front do not count
pub next_skip : (ws : List ℕ) (b m e : ℕ) → b ≤ m → m ≤ e → ((k : ℕ) → b ≤ k → k < m → slot ws k ≡ 0) → next_set ws b e ≡ next_set ws m e
next_skip ws b m e h l z =
    let f = next_is ws m e l in
    next_unique ws b e (omega arith) (record {
      from = omega (arith, f.from);
      to = f.to;
      below = λ k g t. ⊎_elim (λ (c : k < m). z k g c) (λ (c : m ≤ k). f.below k c t) (lt_or_ge k m);
      at = f.at;
    })

-- nor does what comes after the answer
pub next_cut : (ws : List ℕ) (b m e : ℕ) → b ≤ m → m ≤ e → next_set ws b m < m → next_set ws b e ≡ next_set ws b m
next_cut ws b m e h l t =
    let f = next_is ws b m h in
    next_found ws b e (next_set ws b m) f.from (omega arith) (f.at t) f.below

-- a range in two parts
pub next_over : (ws : List ℕ) (b m e : ℕ) → b ≤ m → m ≤ e → next_set ws b m ≡ m → next_set ws b e ≡ next_set ws m e
next_over ws b m e h l t = next_skip ws b m e h l (λ k g c. next_below ws b m h k g (omega arith))

-- it is told by the slots of the range
pub next_same : (ws vs : List ℕ) (b e : ℕ) → b ≤ e → ((k : ℕ) → b ≤ k → k < e → slot ws k ≡ slot vs k) → next_set ws b e ≡ next_set vs b e
next_same ws vs b e h s =
    let f = next_is vs b e h in
    next_unique ws b e h (record {
      from = f.from;
      to = f.to;
      below = λ k g l. s k g (omega (arith, f.to)) ∙ f.below k g l;
      at = λ l. s (next_set vs b e) f.from l ∙ f.at l;
    })
