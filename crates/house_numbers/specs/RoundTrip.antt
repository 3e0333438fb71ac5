-- The two round trips. What is encoded decodes to itself, at any place and whatever follows; what decodes is, unless it is padded, the
-- bytes of its number. Both go group by group: a part with value u and g groups, followed by the groups of w, is u + w · 128^g.
-- Assumes nothing.
use Rattle.std.specs.Prelude.{Option, Some, None, ℕ, zero, suc, ◌+◌, ◌-◌, ◌*◌, ◌/◌, ◌%◌, ◌^◌, ◌≤◌, ◌<◌, ◌≡◌, List, [], ◌∷◌, ◌++◌, length, take, drop, get_or}
use Rattle.std.proofs.Common.{arith, add-one, mod-eq_of_lt, mul-le-mul_left, lit<, sym, ◌∙◌, append_assoc, length-drop, drop_at, get_or-drop, length-take-le}
use Rattle.std.proofs.Math.Decide.{dec_lt}
use Rattle.std.proofs.Math.Nat.{pow-suc, one-le-pow}
use Rattle.std.proofs.Math.Path.{refl, ap}
use Rattle.std.proofs.Math.Logic.{by_cases}
use Rattle.std.proofs.lemmas.List.Edits.{sets, sets-eq}
use Rattle.house_numbers.specs.declared.Part.{Part}
use Rattle.house_numbers.specs.declared.Grown.TheVariants as Grow
use Rattle.house_numbers.specs.declared.Decoded.{Decoded}
use Rattle.house_numbers.specs.Encode.{encoded}
use Rattle.house_numbers.specs.EncodeLaws.{encoded_small, encoded_large, length_small, length_large, length_pos, length_ten}
use Rattle.house_numbers.specs.Decode.{found, no_groups, grown_value, grown_by, settled, decoded_from, decoded_at}
use Rattle.house_numbers.specs.DecodeLaws.{found_value, found_next, grown_long, grown_wide, grown_whole, grown_more}

-- the part after one more group
abbrev grown_part : Part → ℕ → Part
grown_part p b = record { value = grown_value p b; groups = p.groups + 1 }

-- ---- a byte at the front

module _ (at b : ℕ) (bs : List ℕ) (p : Part) where
  front_more : Some (Grow.More (grown_part p b)) ≡ grown_by p b → decoded_from at (b ∷ bs) p ≡ decoded_from (at + 1) bs (grown_part p b)
  unfolding decoded_from settled
  front_more e = rw (← e) refl

  front_whole : Some (Grow.Whole (grown_value p b)) ≡ grown_by p b → decoded_from at (b ∷ bs) p ≡ found (grown_value p b) (at + 1)
  unfolding decoded_from settled
  front_whole e = rw (← e) refl

  front_refused : None ≡ grown_by p b → decoded_from at (b ∷ bs) p ≡ None
  unfolding decoded_from settled
  front_refused e = rw (← e) refl

-- ---- values: a group and what follows it

module _ (p : Part) where
  value_one : (v : ℕ) → v < 128 → grown_value p v ≡ p.value + v * 128 ^ p.groups
  unfolding grown_value
  value_one v h = ap (λ (x : ℕ). p.value + x * 128 ^ p.groups) (mod-eq_of_lt h)

  -- the low group first, then the rest
  value_next : (b r : ℕ) → grown_value p b + r * 128 ^ (p.groups + 1) ≡ p.value + (b % 128 + r * 128) * 128 ^ p.groups
  unfolding grown_value
  value_next b r = rw (add-one p.groups, pow-suc 128 p.groups) (omega arith)

-- ---- what is encoded decodes to itself

number_at : (v w m n : ℕ) → v ≡ w → m ≡ n → found v m ≡ found w n
number_at v w m n e f = cc

decode_last : (v at : ℕ) (rest : List ℕ) (p : Part) → v < 128 → p.value + v * 128 ^ p.groups < 2 ^ 64 → p.groups + length (encoded v) ≤ 10
    → decoded_from at (encoded v ++ rest) p ≡ found (p.value + v * 128 ^ p.groups) (at + length (encoded v))
decode_last v at rest p s h l =
    ap (λ (xs : List ℕ). decoded_from at (xs ++ rest) p) (encoded_small v s)
    ∙ front_whole at v rest p (grown_whole p v (omega (arith, length_small v s)) (rw (value_one p v s) h) s)
    ∙ number_at _ _ _ _ (value_one p v s) (omega (arith, length_small v s))

decode_groups : (f v : ℕ) → v ≤ f → v < 2 ^ 64 → (at : ℕ) (rest : List ℕ) (p : Part) → p.value + v * 128 ^ p.groups < 2 ^ 64 → p.groups + length (encoded v) ≤ 10
    → decoded_from at (encoded v ++ rest) p ≡ found (p.value + v * 128 ^ p.groups) (at + length (encoded v))
decode_groups zero v hf small at rest p h l = decode_last v at rest p (omega arith) h l
decode_groups (suc f) v hf small at rest p h l =
    by_cases (dec_lt v 128) (λ (s : v < 128). decode_last v at rest p s h l)
    (λ (s : v < 128 → ⊥).
    let b : ℕ = 128 + v % 128 in
    let q : Part = grown_part p b in
    let long : length (encoded v) ≡ suc (length (encoded (v / 128))) = length_large v small (omega arith) in
    let same : b % 128 + v / 128 * 128 ≡ v = omega arith in
    let value : grown_value p b + v / 128 * 128 ^ (p.groups + 1) ≡ p.value + v * 128 ^ p.groups = value_next p b (v / 128) ∙ ap (λ (x : ℕ). p.value + x * 128 ^ p.groups) same in
    ap (λ (xs : List ℕ). decoded_from at (xs ++ rest) p) (encoded_large v small (omega arith))
    ∙ front_more at b (encoded (v / 128) ++ rest) p (grown_more p b (omega (arith, length_pos (v / 128))) (omega arith) (omega arith))
    ∙ decode_groups f (v / 128) (omega arith) (omega arith) (at + 1) rest q (rw value h) (omega arith)
    ∙ number_at _ _ _ _ value (omega arith))

pub decode_encoded : (v : ℕ) → v < 2 ^ 64 → (before rest : List ℕ)
    → decoded_at (before ++ encoded v ++ rest) (length before) ≡ found v (length before + length (encoded v))
unfolding decoded_at
decode_encoded v h before rest =
    ap (λ (xs : List ℕ). decoded_from (length before) xs no_groups) (ap (drop (length before)) (append_assoc before (encoded v) rest) ∙ drop_at before (encoded v ++ rest) (length before) refl)
    ∙ decode_groups v v (omega arith) h (length before) rest no_groups (omega arith) (omega (arith, length_ten v))
    ∙ number_at _ _ _ _ (omega arith) refl

-- what `encode` wrote, `decode` reads
pub decode_written : (v : ℕ) → v < 2 ^ 64 → (out : List ℕ) (at : ℕ) → at + length (encoded v) ≤ length out
    → decoded_at (sets out at (encoded v)) at ≡ found v (at + length (encoded v))
decode_written v h out at room =
    let front : length (take at out) ≡ at = length-take-le at out (omega arith) in
    ap (λ (xs : List ℕ). decoded_at xs at) (sets-eq (encoded v) out at room)
    ∙ (rw front at (decode_encoded v h (take at out) (drop (at + length (encoded v)) out)))

-- ---- what decodes is the bytes of its number

-- each is below 256
pub AllBytes : List ℕ → Type 0
AllBytes bs = (i : ℕ) → i < length bs → get_or bs i 0 < 256

-- from a part and the bytes at a place came the number v: w is what its further groups are worth, and k how many they are
pub record Reading (p : Part) (at : ℕ) (bs : List ℕ) (v next : ℕ) : Type 0 where
  pub w : ℕ
  pub k : ℕ
  pub value : v ≡ p.value + w * 128 ^ p.groups
  pub fits : v < 2 ^ 64
  pub next_is : next ≡ at + k
  pub some : 1 ≤ k
  pub inside : k ≤ length bs
  pub ten : p.groups + k ≤ 10
  pub small : w < 2 ^ 64
  pub least : length (encoded w) ≤ k
  pub positive : 0 < get_or bs (k - 1) 0 → 0 < w
  pub bytes : (1 < k → 0 < get_or bs (k - 1) 0) → take k bs ≡ encoded w

never : (x : Option Decoded) (v next : ℕ) → x ≡ None → x ≡ found v next → ⊥
never x v next e f = let z : ◌≡◌ {A = ℕ} 0 1 = cc in omega arith

value_same : (x : Option Decoded) (v w m n : ℕ) → x ≡ found v m → x ≡ found w n → v ≡ w
value_same x v w m n e f = found_value v w m n (sym e ∙ f)

next_same : (x : Option Decoded) (v w m n : ℕ) → x ≡ found v m → x ≡ found w n → m ≡ n
next_same x v w m n e f = found_next v w m n (sym e ∙ f)

-- the byte before the last place, in a list with one byte in front
last_after : (b : ℕ) (bs : List ℕ) (k : ℕ) → 1 ≤ k → get_or (b ∷ bs) (suc k - 1) 0 ≡ get_or bs (k - 1) 0
last_after b bs k h =
    let e : suc k - 1 ≡ suc (k - 1) = omega arith in
    ap (λ (i : ℕ). get_or (b ∷ bs) i 0) e

reading_last : (at b : ℕ) (bs : List ℕ) (p : Part) (v next : ℕ) → p.groups ≤ 9 → grown_value p b < 2 ^ 64 → b < 128
    → decoded_from at (b ∷ bs) p ≡ found v next → Reading p at (b ∷ bs) v next
reading_last at b bs p v next g h s e =
    let own = front_whole at b bs p (grown_whole p b g h s) in
    let same : v ≡ grown_value p b = value_same _ v (grown_value p b) next (at + 1) e own in
    record {
      w = b;
      k = 1;
      value = same ∙ value_one p b s;
      fits = omega arith;
      next_is = next_same _ v (grown_value p b) next (at + 1) e own;
      some = omega arith;
      inside = omega arith;
      ten = omega arith;
      small = omega arith;
      least = omega (arith, length_small b s);
      positive = λ l. l;
      bytes = λ _. sym (encoded_small b s);
    }

below_part : (u w g : ℕ) → u + w * 128 ^ g < 2 ^ 64 → w < 2 ^ 64
below_part u w g h = omega (arith, mul-le-mul_left w (one-le-pow g 128 (lit< tt)))

reading_more : (at b : ℕ) (bs : List ℕ) (p : Part) (v next : ℕ) → p.groups ≤ 9 → b < 256 → 128 ≤ b
    → Reading (grown_part p b) (at + 1) bs v next → Reading p at (b ∷ bs) v next
reading_more at b bs p v next g byte s r =
    let w : ℕ = b % 128 + r.w * 128 in
    let rest : w / 128 ≡ r.w = omega arith in
    let low : 128 + w % 128 ≡ b = omega arith in
    let whole : v ≡ p.value + w * 128 ^ p.groups = r.value ∙ value_next p b r.w in
    let small : w < 2 ^ 64 = below_part p.value w p.groups (rw whole at r.fits) in
    let tail : get_or (b ∷ bs) (suc r.k - 1) 0 ≡ get_or bs (r.k - 1) 0 = last_after b bs r.k r.some in
    record {
      w = w;
      k = suc r.k;
      value = whole;
      fits = r.fits;
      next_is = omega (arith, r.next_is);
      some = omega arith;
      inside = omega (arith, r.inside);
      ten = omega (arith, r.ten);
      small = small;
      least =
          by_cases (dec_lt w 128)
          (λ (l : w < 128). omega (arith, length_small w l))
          (λ (l : w < 128 → ⊥). omega (arith, length_large w small (omega arith), ap (λ (x : ℕ). length (encoded x)) rest, r.least));
      positive = λ l. omega (arith, r.positive (rw tail at l));
      bytes = λ unpadded.
          let l : 0 < get_or bs (r.k - 1) 0 = rw tail at (unpadded (omega (arith, r.some))) in
          let more : 128 ≤ w = omega (arith, r.positive l) in
          ap (λ (xs : List ℕ). b ∷ xs) (r.bytes (λ _. l))
          ∙ ap (λ (x : ℕ). b ∷ encoded x) (sym rest)
          ∙ ap (λ (x : ℕ). x ∷ encoded (w / 128)) (sym low)
          ∙ sym (encoded_large w small more);
    }

pub reading : (bs : List ℕ) (at : ℕ) (p : Part) (v next : ℕ) → AllBytes bs → decoded_from at bs p ≡ found v next → Reading p at bs v next
unfolding decoded_from AllBytes
reading [] at p v next all e = absurd (never None v next refl e)
reading (b ∷ bs) at p v next all e =
    by_cases (dec_lt 9 p.groups)
    (λ (h : 9 < p.groups). absurd (never _ v next (front_refused at b bs p (grown_long p b h)) e))
    (λ (g : 9 < p.groups → ⊥).
    by_cases (dec_lt (grown_value p b) (2 ^ 64))
    (λ (h : grown_value p b < 2 ^ 64).
    by_cases (dec_lt b 128)
    (λ (s : b < 128). reading_last at b bs p v next (omega arith) h s e)
    (λ (s : b < 128 → ⊥).
    reading_more at b bs p v next (omega arith) (all 0 (omega arith)) (omega arith)
    (reading bs (at + 1) (grown_part p b) v next (λ i l. all (suc i) (omega arith)) (sym (front_more at b bs p (grown_more p b (omega arith) h (omega arith))) ∙ e))))
    (λ (h : grown_value p b < 2 ^ 64 → ⊥). absurd (never _ v next (front_refused at b bs p (grown_wide p b (omega arith) (omega arith))) e)))

-- a number that was read: its bytes lie inside, are one to ten, and no fewer than encoding takes; unless padded they are what encoding gives
module _ (bytes : List ℕ) (at v next : ℕ) (all : AllBytes bytes) (e : decoded_at bytes at ≡ found v next) where
  reading_at : Reading no_groups at (drop at bytes) v next
  unfolding decoded_at AllBytes
  reading_at =
      reading (drop at bytes) at no_groups v next
      (λ i h. rw (get_or-drop at bytes i 0) (all (at + i) (omega (arith, rw (length-drop at bytes) at h))))
      e

  value_at : v ≡ reading_at.w
  value_at = omega (arith, reading_at.value)

  pub number_fits : v < 2 ^ 64
  number_fits = reading_at.fits

  pub next_beyond : at < next
  next_beyond = omega (arith, reading_at.next_is, reading_at.some)

  pub next_inside : next ≤ length bytes
  next_inside = omega (arith, reading_at.next_is, reading_at.some, rw (length-drop at bytes) at reading_at.inside)

  pub next_ten : next ≤ at + 10
  next_ten = omega (arith, reading_at.next_is, reading_at.ten)

  pub encoded_least : length (encoded v) ≤ next - at
  encoded_least = rw value_at (omega (arith, reading_at.next_is, reading_at.least))

  pub encode_decoded : (1 < next - at → 0 < get_or bytes (next - 1) 0) → take (next - at) (drop at bytes) ≡ encoded v
  encode_decoded unpadded =
      let r = reading_at in
      let used : next - at ≡ r.k = omega (arith, r.next_is) in
      let last : get_or (drop at bytes) (r.k - 1) 0 ≡ get_or bytes (next - 1) 0 = get_or-drop at bytes (r.k - 1) 0 ∙ ap (λ (i : ℕ). get_or bytes i 0) (omega (arith, r.next_is, r.some)) in
      ap (λ (n : ℕ). take n (drop at bytes)) used
      ∙ r.bytes (λ more. rw last (unpadded (omega arith)))
      ∙ ap encoded (sym value_at)
