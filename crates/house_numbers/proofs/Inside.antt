-- A number that was read takes at least one byte, and its bytes lie inside: each byte that `decoded_from` takes is one of those that are left.
-- Unlike the laws of RoundTrip this asks nothing of the bytes. Assumes nothing.
use Rattle.std.specs.Prelude.{Option, Some, None}
use Prim.Native.Nat.{ℕ, suc, ◌+◌, ◌≤◌, ◌<◌}
use native.Mathlib.Omega.{arith}
use mathlib.Core.Path.{◌≡◌, refl, sym, ◌∙◌}
use Rattle.house_numbers.specs.DecodeLaws.{found_next}
use mathlib.Core.List.{List, [], ◌∷◌}
use lib.ListN.{length, drop, length-drop}
use Rattle.house_numbers.specs.declared.Part.{Part}
use Rattle.house_numbers.specs.declared.Grown.{Grown}
use Rattle.house_numbers.specs.declared.Grown.TheVariants as Grow
use Rattle.house_numbers.specs.declared.Decoded.{Decoded}
use Rattle.house_numbers.specs.Decode.{found, no_groups, grown_by, settled, decoded_from, decoded_at}

next_of : (x : Option Decoded) (v w m n : ℕ) → x ≡ found v m → x ≡ found w n → m ≡ n
next_of x v w m n e f = found_next v w m n (sym e ∙ f)

none : (v next : ℕ) → None ≡ found v next → ⊥
none v next e = let z : ◌≡◌ {A = ℕ} 0 1 = cc in omega arith

-- the place after a number that begins at `at`, where so many bytes are left
Inside : (at left next : ℕ) → Type 0
Inside at left next = (at < next) × (next ≤ at + left)

settled_inside : (g : Option Grown) (at left v next : ℕ) (more : Part → Option Decoded)
    → ((p : Part) → more p ≡ found v next → Inside (at + 1) left next)
    → settled g (at + 1) more ≡ found v next → Inside at (suc left) next
unfolding settled Inside
settled_inside (Some (Grow.More p)) at left v next more h e = let i = h p e in omega (arith, i)
settled_inside (Some (Grow.Whole w)) at left v next more h e = let i : at + 1 ≡ next = next_of _ w v (at + 1) next refl e in omega (arith, i)
settled_inside None at left v next more h e = absurd (none v next e)

from_inside : (bs : List ℕ) (at : ℕ) (p : Part) (v next : ℕ) → decoded_from at bs p ≡ found v next → Inside at (length bs) next
unfolding decoded_from
from_inside [] at p v next e = absurd (none v next e)
from_inside (b ∷ bs) at p v next e = settled_inside (grown_by p b) at (length bs) v next (decoded_from (at + 1) bs) (λ q f. from_inside bs (at + 1) q v next f) e

module _ (bytes : List ℕ) (at v next : ℕ) (e : decoded_at bytes at ≡ found v next) where
  pub number_beyond : at < next
  unfolding decoded_at Inside
  number_beyond = (from_inside (drop at bytes) at no_groups v next e).0

  pub number_inside : next ≤ length bytes
  unfolding decoded_at Inside
  number_inside = omega (arith, (from_inside (drop at bytes) at no_groups v next e).1, number_beyond, length-drop at bytes)
