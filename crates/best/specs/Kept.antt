-- A list of words of which everything below `up` stays: what the functions that write above it leave of the parts below it. Assumes nothing.
use Rattle.std.specs.Prelude.{◌≡◌, refl, List, ℕ, ◌+◌, ◌-◌, ◌≤◌, length, set, take, drop}
use Rattle.std.proofs.Common.{◌∙◌, length-set}
use Rattle.std.proofs.lemmas.List.{take-set-le}
use Rattle.rings.specs.Parts.{part, part_range, part_same}

-- what is below `up` is as it was
pub record Kept (up : ℕ) (l after : List ℕ) : Type 0 where
  pub front : take up after ≡ take up l
  pub len : length after ≡ length l

pub kept_self : (up : ℕ) (l : List ℕ) → Kept up l l
kept_self up l = record { front = refl; len = refl }

pub kept_set : (up : ℕ) (l : List ℕ) (i v : ℕ) → up ≤ i → Kept up l (set l i v)
kept_set up l i v h = record { front = take-set-le up l i v h; len = length-set l i v }

pub kept_on : {up : ℕ} {l l' l'' : List ℕ} → Kept up l l' → Kept up l' l'' → Kept up l l''
kept_on a b = record { front = b.front ∙ a.front; len = b.len ∙ a.len }

-- a part below `up`
pub kept_part : {up : ℕ} {l l' : List ℕ} (at size : ℕ) → Kept up l l' → at + size ≤ up → part l' at size ≡ part l at size
kept_part {up} {l} {l'} at size k h = part_same l' l up at size h k.len k.front

-- a part `&after[at..at + size]` of the code
pub kept_range : {up : ℕ} {l after : List ℕ} (at size : ℕ) → Kept up l after → at + size ≤ up → take (at + size - at) (drop at after) ≡ part l at size
kept_range {up} {l} {after} at size k h = part_range after at size ∙ kept_part at size k h
