-- A list that is written to the front of a buffer, one element a turn.
-- Why: what is written and what is left make the whole list, and past what is written the buffer is as it came.
-- Assumes nothing.
use mathlib.Core.Path.{◌≡◌, refl, sym, ap, ap₂, ◌∙◌}
use mathlib.Core.Logic.{◌≢◌}
use mathlib.Core.List.{List, [], ◌∷◌, ◌++◌, append_assoc, append-nil}
use Prim.Native.Nat.{ℕ, suc, ◌+◌, ◌-◌, ◌^◌, ◌≤◌, ◌<◌}
use native.Mathlib.Omega.{arith}
use native.Mathlib.Numerals.{add-one}
use lib.ListN.{length, take, drop, set, length-set, length-append, take-append-drop}
use lib.Seq.{take-suc-set, drop-set-lt, drop-drop, length-take-le}
use lib.Bits.{bit_and}
use lib.Count.{count_trailing_zeros}
use Rattle.holes.proofs.SetBits.{set_slots, slots_next, slots_zero}

-- `all` is to be written; n elements of it are, `rest` is left, and the buffer, which was out₀, is out
pub record Filling (all out₀ out : List ℕ) (n : ℕ) (rest : List ℕ) : Type 0 where
  pub room : length all ≤ length out₀
  pub same : length out ≡ length out₀
  pub within : n ≤ length out
  pub done : take n out ++ rest ≡ all
  pub kept : drop n out ≡ drop n out₀

pub fill_start : (all out : List ℕ) → length all ≤ length out → Filling all out out 0 all
fill_start all out h = record { room = h; same = refl; within = omega arith; done = refl; kept = refl }

module _ {all out₀ out rest : List ℕ} {n : ℕ} where
  -- n and what is left make the whole
  pub fill_count : Filling all out₀ out n rest → n + length rest ≡ length all
  fill_count f = sym (sym (ap length f.done) ∙ length-append (take n out) rest ∙ ap (λ (x : ℕ). x + length rest) (length-take-le n out f.within))

  -- the same, told from the buffer as it is now
  pub fill_restart : Filling all out₀ out n rest → Filling all out out n rest
  fill_restart f = record { room = omega (arith, f.room, f.same); same = refl; within = f.within; done = f.done; kept = refl }

  -- where nothing is left, all is written
  pub fill_all : Filling all out₀ out n rest → rest ≡ [] → n ≡ length all
  fill_all f z = omega (arith, fill_count f, ap length z)

  pub fill_end : Filling all out₀ out n rest → rest ≡ [] → out ≡ all ++ drop (length all) out₀
  fill_end f z =
      let e : n ≡ length all = fill_all f z in
      let d : take n out ≡ all = sym (append-nil (take n out)) ∙ ap (λ (l : List ℕ). take n out ++ l) (sym z) ∙ f.done in
      sym (take-append-drop n out) ∙ ap₂ (λ (a b : List ℕ). a ++ b) d f.kept ∙ ap (λ (k : ℕ). all ++ drop k out₀) e

module _ {all out₀ out rest : List ℕ} {n x : ℕ} where
  pub fill_room : Filling all out₀ out n (x ∷ rest) → n < length out
  fill_room f = omega (arith, fill_count f, f.room, f.same)

  -- one element more
  pub fill_put : Filling all out₀ out n (x ∷ rest) → Filling all out₀ (set out n x) (n + 1) rest
  fill_put f = record {
    room = f.room;
    same = length-set out n x ∙ f.same;
    within = omega (arith, fill_room f, length-set out n x);
    done =
        ap (λ (k : ℕ). take k (set out n x) ++ rest) (add-one n) ∙ ap (λ (l : List ℕ). l ++ rest) (take-suc-set out n x (fill_room f))
        ∙ append_assoc (take n out) (x ∷ []) rest ∙ f.done;
    kept =
        ap (λ (k : ℕ). drop k (set out n x)) (add-one n) ∙ drop-set-lt (suc n) out n x (omega arith)
        ∙ ap (λ (k : ℕ). drop k out) (sym (add-one n)) ∙ sym (drop-drop 1 n out) ∙ ap (drop 1) f.kept ∙ drop-drop 1 n out₀;
  }

-- two stretches of the writing, one after the other
pub fill_chain : {all a b c r r' : List ℕ} {n n' : ℕ} → Filling all a b n r → Filling all b c n' r' → n ≤ n' → Filling all a c n' r'
fill_chain {all} {a} {b} {c} {r} {r'} {n} {n'} f g h = record {
  room = f.room;
  same = g.same ∙ f.same;
  within = g.within;
  done = g.done;
  kept = g.kept ∙ later;
}
  where
    e : n' ≡ n + (n' - n)
    e = omega arith

    later : drop n' b ≡ drop n' a
    later = rw e (sym (drop-drop (n' - n) n b) ∙ ap (drop (n' - n)) f.kept ∙ drop-drop (n' - n) n a)

-- the set bits of a word are next: the lowest one is the next element
pub fill_slots : {all out₀ out : List ℕ} {n : ℕ} (s free : ℕ) (r : List ℕ) → free < 2 ^ 64 → free ≢ 0 → Filling all out₀ out n (set_slots s 64 free ++ r)
    → Filling all out₀ out n ((s + count_trailing_zeros 64 free) ∷ (set_slots s 64 (bit_and free (free - 1)) ++ r))
fill_slots s free r h z f = rw (slots_next s 64 free h z) at f

-- a word with no set bit is done
pub fill_word : {all out₀ out : List ℕ} {n : ℕ} (s free : ℕ) (r : List ℕ) → free ≡ 0 → Filling all out₀ out n (set_slots s 64 free ++ r) → Filling all out₀ out n r
fill_word s free r z f = rw (z, slots_zero) at f
