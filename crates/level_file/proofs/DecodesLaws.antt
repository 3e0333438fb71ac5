-- Numbers that stand one after the other: put together and taken apart, and that the bytes of numbers are these numbers. Assumes nothing.
use Rattle.std.specs.Prelude.{Option, Some, None}
use Prim.Native.Nat.{ℕ, ◌+◌, ◌^◌, ◌≤◌, ◌<◌}
use native.Mathlib.Omega.{arith}
use mathlib.Core.Path.{◌≡◌, refl, sym, ap, subst, ◌∙◌}
use mathlib.Core.Bool.{not}
use mathlib.Core.List.{List, [], ◌∷◌, ◌++◌, append_assoc}
use lib.Dec.{T}
use lib.ListN.{length, length-append}
use borrow.Author.Tests.{leb-false}
use Rattle.rules.proofs.Tests.{is_false, and_left, and_right}
use Rattle.house_numbers.specs.declared.Decoded.{Decoded}
use Rattle.house_numbers.specs.Encode.{encoded}
use Rattle.house_numbers.specs.Decode.{found, decoded_at}
use Rattle.house_numbers.specs.RoundTrip.{decode_encoded}
use Rattle.house_numbers.proofs.Inside.{number_inside}
use Rattle.level_file.specs.Taking.{taken_of, taken_at}
use Rattle.level_file.specs.Format.{bytes_of, not_below, all_but, Front, Decodes}
use Rattle.level_file.specs.Reading.{read_of, number_at}
use Rattle.level_file.specs.Reading.Read.{Got}

-- ---- one number, as decoded and as read

of_read : (d : Option Decoded) (v next : ℕ) → read_of (taken_of d) ≡ Got v next → d ≡ found v next
unfolding read_of taken_of
of_read (Some d) v next e = same d.value v d.next next e
  where
    same : (a v b next : ℕ) → Got a b ≡ Got v next → found a b ≡ found v next
    same a v b next e = let i : a ≡ v = cc in let j : b ≡ next = cc in cc
of_read None v next e = absurd (let z : ◌≡◌ {A = ℕ} 0 1 = cc in omega arith)

module _ (bytes : List ℕ) (at v next : ℕ) where
  pub decoded_read : decoded_at bytes at ≡ found v next → number_at bytes at ≡ Got v next
  unfolding number_at read_of taken_at taken_of
  decoded_read e = rw e refl

  pub read_decoded : number_at bytes at ≡ Got v next → decoded_at bytes at ≡ found v next
  unfolding number_at taken_at
  read_decoded e = of_read (decoded_at bytes at) v next e

module _ (bytes : List ℕ) where
  pub decodes_none : (at : ℕ) → Decodes bytes [] at at
  unfolding Decodes
  decodes_none at = refl

  pub decodes_more : (at next end v : ℕ) (vs : List ℕ) → number_at bytes at ≡ Got v next → Decodes bytes vs next end → Decodes bytes (v ∷ vs) at end
  unfolding Decodes
  decodes_more at next end v vs e d = record { next = next; number = read_decoded bytes at v next e; rest = d }

  -- the first number, and the rest
  pub decodes_first : (v : ℕ) (vs : List ℕ) (at end : ℕ) → Decodes bytes (v ∷ vs) at end → Front bytes at v (λ next. Decodes bytes vs next end)
  unfolding Decodes
  decodes_first v vs at end d = d

  pub decodes_end : (at end : ℕ) → Decodes bytes [] at end → at ≡ end
  unfolding Decodes
  decodes_end at end d = d

  pub decodes_both : (vs ws : List ℕ) (at mid end : ℕ) → Decodes bytes vs at mid → Decodes bytes ws mid end → Decodes bytes (vs ++ ws) at end
  unfolding Decodes
  decodes_both [] ws at mid end d e = subst (λ (k : ℕ). Decodes bytes ws k end) (sym d) e
  decodes_both (v ∷ vs) ws at mid end d e = record { next = d.next; number = d.number; rest = decodes_both vs ws d.next mid end d.rest e }

  -- where the first of two lists ends
  pub record Parted (vs ws : List ℕ) (at end : ℕ) : Type 0 where
    pub mid : ℕ
    pub front : Decodes bytes vs at mid
    pub back : Decodes bytes ws mid end

  pub decodes_part : (vs ws : List ℕ) (at end : ℕ) → Decodes bytes (vs ++ ws) at end → Parted vs ws at end
  unfolding Decodes
  decodes_part [] ws at end d = record { mid = at; front = refl; back = d }
  decodes_part (v ∷ vs) ws at end d =
      let p : Parted vs ws d.next end = decodes_part vs ws d.next end d.rest in
      record { mid = p.mid; front = record { next = d.next; number = d.number; rest = p.front }; back = p.back }

  pub decodes_inside : (vs : List ℕ) (at end : ℕ) → at ≤ length bytes → Decodes bytes vs at end → end ≤ length bytes
  unfolding Decodes
  decodes_inside [] at end h d = omega arith
  decodes_inside (v ∷ vs) at end h d = decodes_inside vs d.next end (number_inside bytes at v d.next d.number) d.rest

-- ---- the bytes of numbers

pub bytes_append : (vs ws : List ℕ) → bytes_of (vs ++ ws) ≡ bytes_of vs ++ bytes_of ws
unfolding bytes_of
bytes_append [] ws = refl
bytes_append (v ∷ vs) ws = ap (λ (xs : List ℕ). encoded v ++ xs) (bytes_append vs ws) ∙ sym (append_assoc (encoded v) (bytes_of vs) (bytes_of ws))

-- each fits in 64 bits
unfoldable pub Small : List ℕ → Type 0
Small vs = T (all_but (not_below (2 ^ 64)) vs)

pub small_first : (v : ℕ) (vs : List ℕ) → Small (v ∷ vs) → v < 2 ^ 64
unfolding not_below Small
small_first v vs s = leb-false (2 ^ 64) v (is_false (not_below (2 ^ 64) v) (and_left (not (not_below (2 ^ 64) v)) (all_but (not_below (2 ^ 64)) vs) s))

pub small_rest : (v : ℕ) (vs : List ℕ) → Small (v ∷ vs) → Small vs
unfolding Small
small_rest v vs s = and_right (not (not_below (2 ^ 64) v)) (all_but (not_below (2 ^ 64)) vs) s

-- numbers that were written are read, wherever they stand
pub bytes_decode : (vs : List ℕ) → Small vs → (before rest : List ℕ) → Decodes (before ++ bytes_of vs ++ rest) vs (length before) (length before + length (bytes_of vs))
unfolding Decodes bytes_of
bytes_decode [] s before rest = omega arith
bytes_decode (v ∷ vs) s before rest =
    let all : List ℕ = before ++ (encoded v ++ bytes_of vs) ++ rest in
    let split : before ++ encoded v ++ (bytes_of vs ++ rest) ≡ all =
    append_assoc before (encoded v) (bytes_of vs ++ rest)
    ∙ ap (λ (xs : List ℕ). before ++ xs) (sym (append_assoc (encoded v) (bytes_of vs) rest))
    ∙ sym (append_assoc before (encoded v ++ bytes_of vs) rest) in
    let shifted : (before ++ encoded v) ++ bytes_of vs ++ rest ≡ all =
    append_assoc (before ++ encoded v) (bytes_of vs) rest ∙ split in
    let mid : length (before ++ encoded v) ≡ length before + length (encoded v) = length-append before (encoded v) in
    let end : length (before ++ encoded v) + length (bytes_of vs) ≡ length before + length (encoded v ++ bytes_of vs) = omega (arith, mid, length-append (encoded v) (bytes_of vs)) in
    record {
      next = length before + length (encoded v);
      number = subst (λ (xs : List ℕ). decoded_at xs (length before) ≡ found v (length before + length (encoded v))) split (decode_encoded v (small_first v vs s) before (bytes_of vs ++ rest));
      rest =
          subst (λ (k : ℕ). Decodes all vs k (length before + length (encoded v ++ bytes_of vs))) mid
          (subst (λ (k : ℕ). Decodes all vs (length (before ++ encoded v)) k) end
          (subst (λ (xs : List ℕ). Decodes xs vs (length (before ++ encoded v)) (length (before ++ encoded v) + length (bytes_of vs))) shifted (bytes_decode vs (small_rest v vs s) (before ++ encoded v) rest)));
    }
