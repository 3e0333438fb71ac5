-- An input passes 1 to 12 exactly where it is `Sound`, and with the way to sweep and what is lent passes all checks exactly where it is `Passed`. Assumes nothing.
use mathlib.Core.Path.{◌≡◌, ◌∙◌}
use mathlib.Core.Logic.{◌⊎◌, inl, inr}
use mathlib.Core.Bool.{Bool, true, not, ◌||◌}
use mathlib.Core.List.{List, [], ◌∷◌}
use Prim.Native.Nat.{ℕ, zero, suc, ◌+◌, ◌-◌, ◌^◌, ◌<◌, ◌≤◌}
use native.Mathlib.Nat.{le_refl, le_trans, eq-or-lt_of_le}
use native.Mathlib.Numerals.{add-one}
use native.Mathlib.Omega.{arith}
use lib.Dec.{T, ltb, eqb, eqb→eq, leb→le, le→leb, nltb→le}
use lib.Arith.{le→nltb}
use lib.IntN as Int
use lib.IntN.{ℤ, nat_abs}
use lib.ListN.{length, get_or}
use Rattle.rules.specs.declared.How.{How}
use Rattle.rules.specs.Lists.{below, every}
use Rattle.rules.specs.Geometry.{bucket_of, entries, work_words}
use Rattle.rules.specs.Order.{Input, keys_of, size_of}
use Rattle.rules.specs.Numbers.{Lent, first_of, moderate, step_up, rising, bitmap_words, largest, small_bucket, is_home, all_home, line8, line9, line10, line11, line12, line13, line20, lines_to7, sweep_lines}
use Rattle.rules.specs.Good.{Rising, Grouped, Moderate, Priced, Sound, Passed}
use Rattle.rules.proofs.Tests.{and_left, and_both, not_or, not_or_left, not_or_right, of_not_not, not_not, neq, neq→neqb, eq→eqb, elem_mem, mem_elem}
use Rattle.rules.proofs.Lines.{Numbered, none_zero, first_none, first_append_none, first_append_zero}
use Rattle.rules.proofs.Ranges.{every_at, at_every, every_below, below_every, every_get_d, get_d_every}
use Rattle.rules.proofs.CheckLaws.{numbered_7, passes_7, good_7}

-- ---- weights

pub moderate_abs : (w : ℤ) → T (moderate w) → nat_abs w ≤ 2 ^ 32
unfolding moderate
moderate_abs (Int.pos n) t = nltb→le (2 ^ 32) n (and_left (not (ltb (2 ^ 32) n)) true t)
moderate_abs (Int.negsuc n) t = let k = nltb→le 4294967295 n t in omega arith

pub abs_moderate : (w : ℤ) → nat_abs w ≤ 2 ^ 32 → T (moderate w)
unfolding moderate
abs_moderate (Int.pos n) h = and_both (not (ltb (2 ^ 32) n)) true (le→nltb (2 ^ 32) n h) tt
abs_moderate (Int.negsuc n) h = le→nltb 4294967295 n (omega arith)

-- ---- lists that never fall

pub rising_steps : (xs : List ℕ) (n : ℕ) → T (rising xs n) → (b : ℕ) → b < n → get_or xs b 0 ≤ get_or xs (b + 1) 0
unfolding rising step_up
rising_steps xs n t b h = leb→le (get_or xs b 0) (get_or xs (b + 1) 0) (every_below (step_up xs) n t b h)

pub steps_rising : (xs : List ℕ) (n : ℕ) → ((b : ℕ) → b < n → get_or xs b 0 ≤ get_or xs (b + 1) 0) → T (rising xs n)
unfolding rising step_up
steps_rising xs n h = below_every (step_up xs) n (λ b k. le→leb (get_or xs b 0) (get_or xs (b + 1) 0) (h b k))

pub steps_climb : (xs : List ℕ) (size : ℕ) → ((b : ℕ) → b < size - 1 → get_or xs b 0 ≤ get_or xs (b + 1) 0) → Rising xs size
unfolding Rising
steps_climb xs size step a zero h k = let z : a ≡ 0 = omega arith in rw z (le_refl (get_or xs 0 0))
steps_climb xs size step a (suc c) h k = go (eq-or-lt_of_le h) (steps_climb xs size step a c)
  where
    up : get_or xs c 0 ≤ get_or xs (suc c) 0
    up = rw add-one at (step c (omega arith))

    go : (a ≡ suc c) ⊎ (a < suc c) → (a ≤ c → c < size → get_or xs a 0 ≤ get_or xs c 0) → get_or xs a 0 ≤ get_or xs (suc c) 0
    go (inl q) ih = rw q (le_refl (get_or xs (suc c) 0))
    go (inr l) ih = le_trans (ih (omega arith) (omega arith)) up

pub climb_steps : (xs : List ℕ) (size : ℕ) → Rising xs size → (b : ℕ) → b < size - 1 → get_or xs b 0 ≤ get_or xs (b + 1) 0
unfolding Rising
climb_steps xs size R b h = R b (b + 1) (omega arith) (omega arith)

-- ---- line 20

pub passes_20 : (how : How) → T (not (line20 how).applies) → 1 ≤ how.chunks
unfolding line20
passes_20 how t = let n = neq how.chunks 0 t in omega arith

pub chunked_20 : (how : How) → 1 ≤ how.chunks → T (not (line20 how).applies)
unfolding line20
chunked_20 how h = neq→neqb how.chunks 0 (λ e. omega arith)

-- ---- lines 8 to 13

module _ (i : Input) where
  passes_8 : T (not (line8 i).applies) → Moderate i
  unfolding line8 Moderate
  passes_8 t k =
      moderate_abs (get_or i.weights k (Int.pos 0))
      (every_get_d moderate (Int.pos 0) i.weights (of_not_not (every moderate i.weights) t) (abs_moderate (Int.pos 0) (omega arith)) k)

  moderate_8 : Moderate i → T (not (line8 i).applies)
  unfolding line8 Moderate
  moderate_8 h = not_not (every moderate i.weights) (get_d_every moderate (Int.pos 0) i.weights (λ k. abs_moderate (get_or i.weights k (Int.pos 0)) (h k)))

  passes_12 : T (not (line12 i).applies) → Priced i
  unfolding line12
  passes_12 t = record {
    enough = nltb→le (length i.table) need (not_or_left short falls t);
    climbs = steps_climb i.table need (rising_steps i.table (need - 1) (of_not_not (rising i.table (need - 1)) (not_or_right short falls t)));
  }
    where
      need : ℕ
      need = entries i.settings

      short : Bool
      short = ltb (length i.table) need

      falls : Bool
      falls = not (rising i.table (need - 1))

  priced_12 : Priced i → T (not (line12 i).applies)
  unfolding line12
  priced_12 p =
      not_or (ltb (length i.table) need) (not (rising i.table (need - 1))) (le→nltb (length i.table) need p.enough)
      (not_not (rising i.table (need - 1)) (steps_rising i.table (need - 1) (climb_steps i.table need p.climbs)))
    where
      need : ℕ
      need = entries i.settings

  abbrev B : ℕ
  B = i.settings.buckets

  passes_9_11 : T (not (line9 i).applies) → T (not (line10 i).applies) → T (not (line11 i).applies) → Grouped i
  unfolding line9 line10 line11 small_bucket is_home all_home
  passes_9_11 t9 t10 t11 = record {
    long = eqb→eq (length i.begins) (B + 1) (of_not_not (eqb (length i.begins) (B + 1)) (search (not_or_left, not_or_right, t9)));
    starts = eqb→eq (get_or i.begins 0 0) 0 (of_not_not (eqb (get_or i.begins 0 0) 0) (search (not_or_left, not_or_right, t9)));
    rises = rising_steps i.begins B (of_not_not (rising i.begins B) (search (not_or_left, not_or_right, t9)));
    ends = eqb→eq (get_or i.begins B 0) (length i.hashes) (of_not_not (eqb (get_or i.begins B 0) (length i.hashes)) (search (not_or_left, not_or_right, t9)));
    few = nltb→le 67108864 (length i.hashes) (search (not_or_left, not_or_right, t9));
    sizes = λ b h. leb→le (size_of i b) 4096 (every_below (small_bucket i) B (of_not_not (every (small_bucket i) (below B)) t10) b h);
    home = λ b h k t.
        eqb→eq (bucket_of i.settings k) b
        (every_at (is_home i b) (keys_of i b) (every_below (all_home i) B (of_not_not (every (all_home i) (below B)) t11) b h) k (elem_mem k (keys_of i b) t));
  }

  grouped_9 : Grouped i → T (not (line9 i).applies)
  unfolding line9
  grouped_9 g =
      not_or (not t1 || not t2 || not t3 || not t4) t5
      (not_or (not t1 || not t2 || not t3) (not t4)
      (not_or (not t1 || not t2) (not t3)
      (not_or (not t1) (not t2) (not_not t1 (eq→eqb (length i.begins) (B + 1) g.long)) (not_not t2 (eq→eqb (get_or i.begins 0 0) 0 g.starts)))
      (not_not t3 (steps_rising i.begins B g.rises)))
      (not_not t4 (eq→eqb (get_or i.begins B 0) (length i.hashes) g.ends)))
      (le→nltb 67108864 (length i.hashes) g.few)
    where
      t1 : Bool
      t1 = eqb (length i.begins) (B + 1)

      t2 : Bool
      t2 = eqb (get_or i.begins 0 0) 0

      t3 : Bool
      t3 = rising i.begins B

      t4 : Bool
      t4 = eqb (get_or i.begins B 0) (length i.hashes)

      t5 : Bool
      t5 = ltb 67108864 (length i.hashes)

  grouped_10 : Grouped i → T (not (line10 i).applies)
  unfolding line10 small_bucket
  grouped_10 g = not_not (every (small_bucket i) (below B)) (below_every (small_bucket i) B (λ b h. le→leb (size_of i b) 4096 (g.sizes b h)))

  grouped_11 : Grouped i → T (not (line11 i).applies)
  unfolding line11 all_home is_home
  grouped_11 g =
      not_not (every (all_home i) (below B))
      (below_every (all_home i) B (λ b h. at_every (is_home i b) (keys_of i b) (λ k m. eq→eqb (bucket_of i.settings k) b (g.home b h k (mem_elem m)))))

  module _ (how : How) (lent : Lent) where
    passes_13 : T (not (line13 i lent).applies) → Sound i → 1 ≤ how.chunks → Passed how i lent
    unfolding line13
    passes_13 t s c = record {
      sound = s;
      some_chunk = c;
      seeds = eqb→eq lent.seeds B (of_not_not (eqb lent.seeds B) (search (not_or_left, not_or_right, t)));
      bitmap = eqb→eq lent.bitmap (bitmap_words i.settings.m) (of_not_not (eqb lent.bitmap (bitmap_words i.settings.m)) (search (not_or_left, not_or_right, t)));
      work = nltb→le lent.work (work_words i.settings (largest i)) (search (not_or_left, not_or_right, t));
    }

    passed_13 : Passed how i lent → T (not (line13 i lent).applies)
    unfolding line13
    passed_13 p =
        not_or (not t1 || not t2) t3
        (not_or (not t1) (not t2) (not_not t1 (eq→eqb lent.seeds B p.seeds)) (not_not t2 (eq→eqb lent.bitmap (bitmap_words i.settings.m) p.bitmap)))
        (le→nltb lent.work (work_words i.settings (largest i)) p.work)
      where
        t1 : Bool
        t1 = eqb lent.seeds B

        t2 : Bool
        t2 = eqb lent.bitmap (bitmap_words i.settings.m)

        t3 : Bool
        t3 = ltb lent.work (work_words i.settings (largest i))

    numbered_13 : Numbered (line8 i ∷ line20 how ∷ line9 i ∷ line10 i ∷ line11 i ∷ line12 i ∷ line13 i lent ∷ [])
    unfolding line8 line9 line10 line11 line12 line13 line20
    numbered_13 = tt

    -- the call was not refused by a check: exactly this
    pub passes : first_of (sweep_lines how i lent) ≡ 0 → Passed how i lent
    unfolding sweep_lines
    passes e =
        let n = first_append_none (lines_to7 i.settings) (line8 i ∷ line20 how ∷ line9 i ∷ line10 i ∷ line11 i ∷ line12 i ∷ line13 i lent ∷ []) (numbered_7 i.settings) e in
        let n8 = first_none (line8 i ∷ line20 how ∷ line9 i ∷ line10 i ∷ line11 i ∷ line12 i ∷ line13 i lent ∷ []) numbered_13 n.1 in
        let n20 = n8.1 in
        let n9 = n20.1 in
        let n10 = n9.1 in
        let n11 = n10.1 in
        let n12 = n11.1 in
        let n13 = n12.1 in
        passes_13 n13.0 (record {
          good = passes_7 i.settings n.0;
          moderate = passes_8 n8.0;
          grouped = passes_9_11 n9.0 n10.0 n11.0;
          priced = passes_12 n12.0;
        }) (passes_20 how n20.0)

    pub passed : Passed how i lent → first_of (sweep_lines how i lent) ≡ 0
    unfolding sweep_lines
    passed p =
        first_append_zero (lines_to7 i.settings) (line8 i ∷ line20 how ∷ line9 i ∷ line10 i ∷ line11 i ∷ line12 i ∷ line13 i lent ∷ []) (numbered_7 i.settings) (good_7 i.settings p.sound.good)
        ∙ none_zero (line8 i ∷ line20 how ∷ line9 i ∷ line10 i ∷ line11 i ∷ line12 i ∷ line13 i lent ∷ [])
        (moderate_8 p.sound.moderate, (chunked_20 how p.some_chunk, (grouped_9 p.sound.grouped, (grouped_10 p.sound.grouped, (grouped_11 p.sound.grouped, (priced_12 p.sound.priced, (passed_13 p, tt)))))))
