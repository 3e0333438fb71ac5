-- Layout after layout: what holds of all keys and free words holds of a layout's part, and the loop of `best_many`. Assumes nothing.
use Rattle.std.specs.Prelude.{◌≡◌, ◌≢◌, not, List, ℕ, suc, ◌+◌, ◌-◌, ◌*◌, ◌^◌, ◌≤◌, ◌<◌, T, length, get_or, drop}
use Rattle.std.proofs.Math.Path.{refl}
use Rattle.std.proofs.Common.{sym, ap, ◌∙◌, arith, mul-le-mul_right, add-one, length-take, length-drop, ext_get_or}
use Rattle.std.proofs.Math.Arith.{digits_lt}
use Rattle.rings.specs.declared.Ring.{Ring}
use Rattle.rings.specs.Keys.{cost_at}
use Rattle.rings.specs.Parts.{part, part_at, length_part}
use Rattle.best.specs.declared.Best.{Best}
use Rattle.best.specs.Best.{nothing, best_from, best_of}
use Rattle.best.specs.Prices.{Prices, is_free, cost_in, free_in, best_free, Ended, EndedAll}
use Rattle.best.specs.PriceLaws.{cost_lt}
use Rattle.best.specs.Least.{Found, best_found, best_none}
use Rattle.best.specs.Kept.{Kept, kept_part}

-- ---- parts

pub row_le : (r layouts k : ℕ) → r < layouts → r * k + k ≤ layouts * k
row_le r layouts k h = omega (arith, mul-le-mul_right k h, more)
  where
    more : suc r * k ≡ r * k + k
    more = omega arith

pub part_part : (l : List ℕ) (at m i k : ℕ) → i + k ≤ m → part (part l at m) i k ≡ part l (at + i) k
part_part l at m i k h =
    ext_get_or 0 (part (part l at m) i k) (part l (at + i) k)
    (simp (length-take, length-drop) (omega arith))
    (λ n x.
    let lt : n < k = omega (arith, length-take k (drop i (part l at m))) in
    let e : at + (i + n) ≡ at + i + n = omega arith in
    part_at (part l at m) i k n lt ∙ part_at l at m (i + n) (omega arith) ∙ ap (λ (y : ℕ). get_or l y 0) e ∙ sym (part_at l (at + i) k n lt))

-- a layout's part of the code, in a list that was kept since
pub layout_part : {up : ℕ} {l now : List ℕ} (at size layouts r a : ℕ) → Kept up l now → at + layouts * size ≤ up → r < layouts → a ≡ at + r * size
    → part now a size ≡ part (part l at (layouts * size)) (r * size) size
layout_part {up} {l} {now} at size layouts r a k h lt e =
    ap (λ (x : ℕ). part now x size) e
    ∙ kept_part (at + r * size) size k (omega (arith, row_le r layouts size lt))
    ∙ sym (part_part l at (layouts * size) (r * size) size (row_le r layouts size lt))

-- a layout's keys have prices, its free words end
pub prices_layout : {g : Ring} {table keys : List ℕ} (size layouts r : ℕ) → Prices g table keys → length keys ≡ layouts * size → r < layouts → Prices g table (part keys (r * size) size)
prices_layout {g} {table} {keys} size layouts r p e lt = record {
  entries = p.entries;
  enough = p.enough;
  few = p.few;
  climbs = p.climbs;
  priced = λ i h.
      let li : i < size = omega (arith, long) in
      rw (part_at keys (r * size) size i li) (p.priced (r * size + i) (rw e (digits_lt lt li)));
  size = omega (arith, long, p.size, row_le r layouts size lt);
}
  where
    long : length (part keys (r * size) size) ≡ size
    long = length_part keys (r * size) size (rw e (row_le r layouts size lt))

pub ended_layout : {n : ℕ} {free : List ℕ} {count layouts : ℕ} (r : ℕ) → EndedAll n free count layouts → length free ≡ layouts * count → r < layouts → Ended n (part free (r * count) count)
ended_layout {n} {free} {count} {layouts} r a e lt = record {
  whole = rw long a.whole;
  short = rw long a.short;
  none = λ j h. a.none r j lt h;
}
  where
    long : length (part free (r * count) count) ≡ count
    long = length_part free (r * count) count (rw e (row_le r layouts count lt))

-- ---- what is found

module _ (g : Ring) (table keys : List ℕ) (size : ℕ) (free : List ℕ) (count layouts : ℕ) where
  pub free_found : (best_free g table keys size free count layouts).cost ≢ 2 ^ 64 - 1
      → Found (cost_in g table keys size) (free_in free count) g.n layouts (best_free g table keys size free count layouts)
  unfolding best_free
  free_found h = best_found (cost_in g table keys size) (free_in free count) g.n layouts h

  -- the table's entries being of 32 bits
  pub free_none : (best_free g table keys size free count layouts).cost ≡ 2 ^ 64 - 1 → ((k : ℕ) → get_or table k 0 < 2 ^ 32) → Prices g table keys → length keys ≡ layouts * size
      → (r j : ℕ) → r < layouts → j < g.n → T (not (free_in free count r j))
  unfolding best_free cost_in
  free_none h w p e r j lr lj =
      best_none (cost_in g table keys size) (free_in free count) g.n layouts h r j lr lj (cost_lt g table (part keys (r * size) size) j w (prices_layout size layouts r p e lr).size)

-- ---- the loop

pub record Trying (g : Ring) (table keys : List ℕ) (size : ℕ) (free : List ℕ) (count layouts r : ℕ) (b : Best) : Type 0 where
  pub le : r ≤ layouts
  pub is : b ≡ best_free g table keys size free count r

pub trying_none : (g : Ring) (table keys : List ℕ) (size : ℕ) (free : List ℕ) (count layouts : ℕ) → Trying g table keys size free count layouts 0 nothing
unfolding best_free best_of
trying_none g table keys size free count layouts = record { le = omega arith; is = refl }

module _ {g : Ring} {table keys : List ℕ} {size : ℕ} {free : List ℕ} {count layouts r : ℕ} {b : Best} (t : Trying g table keys size free count layouts r b) where
  pub trying_more : {keys' free' : List ℕ} {b' : Best} → r < layouts → keys' ≡ part keys (r * size) size → free' ≡ part free (r * count) count
      → b' ≡ best_from (cost_at g table keys') (is_free free') r b 0 g.n → Trying g table keys size free count layouts (r + 1) b'
  unfolding best_free best_of cost_in free_in
  trying_more {keys'} {free'} {b'} lt ek ef e = record { le = omega arith; is = e ∙ rw (add-one, ek, ef, t.is) refl }

  pub trying_end : layouts ≤ r → b ≡ best_free g table keys size free count layouts
  trying_end h = let e : r ≡ layouts = omega (arith, t.le) in rw e at t.is
