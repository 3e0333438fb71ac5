-- By the tests: few keys, taken, the first one, or compared.
use borrow.Author.Tests.{lt-ltb, le-ltb}
use mathlib.Core.Path.{◌≡◌, sym, ap, ◌∙◌}
use mathlib.Core.Bool.{Bool, true, false, cond}
use mathlib.Core.List.{List}
use Prim.Native.Nat.{ℕ, ◌<◌, ◌≤◌, ◌%◌}
use native.Mathlib.Omega.{arith}
use lib.Dec.{eqb}
use lib.IntN.{ℤ}
use lib.Signed.{lt_z}
use mir.Syntax.{w64}
use mir.Val.{to_z, of_z}
use mir.Facts.{to_z-of_z}
use Rattle.std.proofs.Common.{Option, Some, None}
use Rattle.integers.specs.Ints.{small_fits}
use Rattle.words.specs.Map.{slot}
use Rattle.window.specs.Key.{key_of, beyond_of}
use Rattle.window.specs.declared.large.Best.{Best}
use Rattle.window.specs.Large.{large_key, better_best, better_of}
use Rattle.window.proofs.large.better.Goals as goal
use Rattle.window.proofs.large.better.Goals.{After-key-key, then-size-lt64-via-then-size-lt64, then-size-lt64-via-else-size-lt64+then-not-is_occupied}

-- the key, once it is made
key_back : (c : After-key-key) → to_z w64 (of_z w64 c.key-key.result) ≡ large_key c.args.w6 c.args.w7 c.args.size c.args.b
unfolding large_key
key_back c =
    let back : to_z w64 (of_z w64 c.key-key.result) ≡ c.key-key.result = to_z-of_z {w = w64} (record { sfits = c.key-key.type_inv }) in
    let made : c.key-key.result ≡ key_of c.beyond.result c.args.b =
    simp (to_z-of_z (small_fits c.beyond.result (omega (arith, c.beyond.ensures.result_bound)))) at c.key-key.ensures in
    let weighs : c.beyond.result ≡ beyond_of c.args.w6 c.args.w7 c.args.size = simp (to_z-of_z c.ranges.w6, to_z-of_z c.ranges.w7) at c.beyond.ensures.value in
    back ∙ made ∙ ap (λ (v : ℤ). key_of v c.args.b) weighs

module _ (set : List ℕ) (w6 w7 : ℤ) (best : Option Best) (size b : ℕ) where
  few : size < 64 → best ≡ better_of set w6 w7 best size b
  unfolding better_of
  few l = simp (lt-ltb size 64 l)

  gone : 64 ≤ size → eqb (slot set (b % 1024)) 1 ≡ false → best ≡ better_of set w6 w7 best size b
  unfolding better_of
  gone l e = simp (le-ltb size 64 l, e)

  made : (k : ℤ) → 64 ≤ size → eqb (slot set (b % 1024)) 1 ≡ true → k ≡ large_key w6 w7 size b → Some (better_best best (record { bucket = b; key = k })) ≡ better_of set w6 w7 best size b
  unfolding better_of
  made k l u e = ap (λ (z : ℤ). Some (better_best best (record { bucket = b; key = z }))) e ∙ simp (le-ltb size 64 l, u)

  first_one : (k : ℤ) → best ≡ None → Some (record { bucket = b; key = k }) ≡ Some (better_best best (record { bucket = b; key = k }))
  first_one k n = sym (ap (λ (o : Option Best). Some (better_best o (record { bucket = b; key = k }))) n)

  compared : (top : Best) (k : ℤ) (t : Bool) → best ≡ Some top → lt_z top.key k ≡ t
      → Some (cond t (record { bucket = b; key = k }) top) ≡ Some (better_best best (record { bucket = b; key = k }))
  compared top k t n f =
      sym (ap (λ (o : Option Best). Some (better_best o (record { bucket = b; key = k }))) n ∙ ap (λ (v : Bool). Some (cond v (record { bucket = b; key = k }) top)) f)

pub returns-then-size-lt64 : goal.returns-then-size-lt64
returns-then-size-lt64 c = elim c.then-size-lt64.branch [
  | then-size-lt64-via-then-size-lt64 w ↦ few c.args.set.now c.args.w6 c.args.w7 c.args.best c.args.size c.args.b w.if-size-lt64.true
  | then-size-lt64-via-else-size-lt64+then-not-is_occupied w ↦
      gone c.args.set.now c.args.w6 c.args.w7 c.args.best c.args.size c.args.b (omega (arith, w.if-size-lt64.false)) (sym w.is_occupied.ensures ∙ w.if-not-is_occupied.true)
]

pub returns-in_default : goal.returns-in_default
returns-in_default c =
    let k = to_z w64 (of_z w64 c.key-key.result) in
    first_one c.args.set.now c.args.w6 c.args.w7 c.args.best c.args.size c.args.b k c.in_default.is
    ∙ made c.args.set.now c.args.w6 c.args.w7 c.args.best c.args.size c.args.b k (omega (arith, c.if-size-lt64.false)) (sym c.is_occupied.ensures ∙ c.if-not-is_occupied.false) (key_back (goal.at.returns-in_default c).After-key-key)

pub returns-then-top-key : goal.returns-then-top-key
returns-then-top-key c =
    let k = to_z w64 (of_z w64 c.key-key.result) in
    let back : to_z w64 (of_z w64 c.in-Some.top.key) ≡ c.in-Some.top.key = to_z-of_z {w = w64} (record { sfits = omega arith }) in
    compared c.args.set.now c.args.w6 c.args.w7 c.args.best c.args.size c.args.b c.in-Some.top k true c.in-Some.is (ap (λ (z : ℤ). lt_z z k) (sym back) ∙ c.if-top-key.true)
    ∙ made c.args.set.now c.args.w6 c.args.w7 c.args.best c.args.size c.args.b k (omega (arith, c.if-size-lt64.false)) (sym c.is_occupied.ensures ∙ c.if-not-is_occupied.false) (key_back (goal.at.returns-then-top-key c).After-key-key)

pub returns-else-top-key : goal.returns-else-top-key
returns-else-top-key c =
    let k = to_z w64 (of_z w64 c.key-key.result) in
    let back : to_z w64 (of_z w64 c.in-Some.top.key) ≡ c.in-Some.top.key = to_z-of_z {w = w64} (record { sfits = omega arith }) in
    compared c.args.set.now c.args.w6 c.args.w7 c.args.best c.args.size c.args.b c.in-Some.top k false c.in-Some.is (ap (λ (z : ℤ). lt_z z k) (sym back) ∙ c.if-top-key.false)
    ∙ made c.args.set.now c.args.w6 c.args.w7 c.args.best c.args.size c.args.b k (omega (arith, c.if-size-lt64.false)) (sym c.is_occupied.ensures ∙ c.if-not-is_occupied.false) (key_back (goal.at.returns-else-top-key c).After-key-key)
