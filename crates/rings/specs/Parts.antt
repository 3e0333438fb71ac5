-- Parts of a list of words, and what a store into one part leaves of another. Assumes nothing.
use Rattle.std.specs.Prelude.{◌≡◌, List, ℕ, ◌+◌, ◌-◌, ◌≤◌, ◌<◌, length, get_or, set, take, drop}
use Rattle.std.proofs.Common.{sym, ap, ◌∙◌, arith, length-take, length-drop, get_or-take, get_or-drop, take-take, ext_get_or}
use Rattle.std.proofs.lemmas.List.{take-set-le}

-- a part of a list
abbrev pub part : List ℕ → ℕ → ℕ → List ℕ
part l at size = take size (drop at l)

pub part_at : (l : List ℕ) (at size i : ℕ) → i < size → get_or (part l at size) i 0 ≡ get_or l (at + i) 0
part_at l at size i h = rw (get_or-take, get_or-drop)

pub length_part : (l : List ℕ) (at size : ℕ) → at + size ≤ length l → length (part l at size) ≡ size
length_part l at size h = simp (length-take, length-drop) (omega arith)

-- a part `&l[at..at + size]` of the code
pub part_range : (l : List ℕ) (at size : ℕ) → take (at + size - at) (drop at l) ≡ part l at size
part_range l at size = let e : at + size - at ≡ size = omega arith in ap (λ (n : ℕ). take n (drop at l)) e

-- lists with one front of m elements have the same shorter fronts, and the same parts below m
pub front_same : (l l' : List ℕ) (m n : ℕ) → n ≤ m → take m l ≡ take m l' → take n l ≡ take n l'
front_same l l' m n h e = sym (take-take n m l h) ∙ ap (take n) e ∙ take-take n m l' h

pub elem_same : (l l' : List ℕ) (m k : ℕ) → k < m → take m l ≡ take m l' → get_or l k 0 ≡ get_or l' k 0
elem_same l l' m k h e = sym (get_or-take m l k 0 h) ∙ ap (λ (x : List ℕ). get_or x k 0) e ∙ get_or-take m l' k 0 h

pub part_same : (l l' : List ℕ) (m at size : ℕ) → at + size ≤ m → length l ≡ length l' → take m l ≡ take m l' → part l at size ≡ part l' at size
part_same l l' m at size h n e =
    ext_get_or 0 (part l at size) (part l' at size)
    (simp (length-take, length-drop) (omega arith))
    (λ i hi.
    let lt : i < size = omega (arith, length-take size (drop at l)) in
    part_at l at size i lt ∙ elem_same l l' m (at + i) (omega arith) e ∙ sym (part_at l' at size i lt))

-- a store at or above m leaves the front
pub front_set : (m : ℕ) (l : List ℕ) (i v : ℕ) → m ≤ i → take m (set l i v) ≡ take m l
front_set m l i v h = take-set-le m l i v h
