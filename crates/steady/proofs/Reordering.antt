-- Reordering keys inside buckets, said of the answers of the public call: it changes no seed, no bit, no hole, no count and not the bucket of 14. For
-- every rule for ties and chunk count, bumping allowed or forbidden. Assumes nothing.
use mathlib.Core.Path.{◌≡◌, refl, sym, ap, ◌∙◌, subst}
use mathlib.Core.Bool.{Bool, not, cond}
use mathlib.Core.List.{List, [], ◌∷◌}
use mathlib.Core.Option.{Option, none, some}
use Prim.Native.Nat.{ℕ, ◌<◌, max}
use lib.Dec.{T}
use lib.ListN.{length}
use Rattle.rules.specs.declared.How.{How}
use Rattle.rules.specs.Lists.{below, elem, every}
use Rattle.rules.specs.Order.{Input, Tie, size_of, keys_of, priority, goes_first, nonempty, order}
use Rattle.rules.specs.Chunks.{order_in, orders_of}
use Rattle.rules.specs.Sweep.{final_seeds, final_bitmap, fails_at}
use Rattle.rules.specs.Holes.{holes_of}
use Rattle.rules.specs.Numbers.{Lent, lent_of, line, largest_of, largest, line8, line9, line10, line11, line12, line13, small_bucket, is_home, all_home, sweep_lines}
use Rattle.rules.specs.Answers.{unless, kept_unless, placed_keys, bumped_keys, zero_bucket, counts_of, ran_buffer, sweep_turns, stops_at, sweep_number, sweep_answer, sweep_seeds, sweep_bitmap, work_needed, sweep_work}
use Rattle.rules.proofs.Tests.{mem_elem, elem_mem}
use Rattle.rules.proofs.Ranges.{every_at, at_every, below_mem}
use Rattle.rules.proofs.Sums.{Same}
use Rattle.rules.proofs.InputLaws.{passes}
use Rattle.rules.proofs.Theorems.{turns_proper}
use Rattle.steady.specs.Alike.{Reordered, regrouped}
use Rattle.steady.proofs.ReorderLaws.{same_test, elem_reordered, seeds_reordered, bitmap_reordered, fails_reordered}

every_reordered : (p : ℕ → Bool) (xs ys : List ℕ) → Same xs ys → every p xs ≡ every p ys
every_reordered p xs ys h =
    same_test (every p xs) (every p ys) (over xs ys (λ x t. subst T (sym (elem_reordered xs ys h x)) t)) (over ys xs (λ x t. subst T (elem_reordered xs ys h x) t))
  where
    over : (us vs : List ℕ) → ((x : ℕ) → T (elem x vs) → T (elem x us)) → T (every p us) → T (every p vs)
    over us vs k t = at_every p vs (λ x m. every_at p us t x (elem_mem x us (k x (mem_elem m))))

every_alike : (p q : ℕ → Bool) (n : ℕ) → ((b : ℕ) → b < n → p b ≡ q b) → every p (below n) ≡ every q (below n)
every_alike p q n h = same_test (every p (below n)) (every q (below n))
    (λ t. at_every q (below n) (λ b m. subst T (h b (below_mem b n m)) (every_at p (below n) t b m)))
    (λ t. at_every p (below n) (λ b m. subst T (sym (h b (below_mem b n m))) (every_at q (below n) t b m)))

-- two inputs of which a sweep says and leaves the same, for the same lent words: the outcome with the counts or the bucket of 14, each seed, each
-- bit, each hole, each word of work
pub record Unmoved (tie : Tie) (how : How) (i j : Input) (lent : Lent) : Type 0 where
  pub said_same : sweep_answer tie how i lent ≡ sweep_answer tie how j lent
  pub seeds_same : (seeds : List ℕ) → sweep_seeds tie how i lent seeds ≡ sweep_seeds tie how j lent seeds
  pub bitmap_same : (bitmap : List ℕ) → sweep_bitmap tie how i lent bitmap ≡ sweep_bitmap tie how j lent bitmap
  pub holes_same : (bitmap : List ℕ) → holes_of i.settings.m (sweep_bitmap tie how i lent bitmap) ≡ holes_of j.settings.m (sweep_bitmap tie how j lent bitmap)
  pub work_same : (work : List ℕ) → sweep_work how i lent work ≡ sweep_work how j lent work

-- the same, each call with buffers of its own
pub record Agreed (tie : Tie) (how : How) (i j : Input) (seeds bitmap work seeds' bitmap' work' : List ℕ) : Type 0 where
  pub said_same : sweep_answer tie how i (lent_of seeds bitmap work) ≡ sweep_answer tie how j (lent_of seeds' bitmap' work')
  pub seeds_same : sweep_seeds tie how i (lent_of seeds bitmap work) seeds ≡ sweep_seeds tie how j (lent_of seeds' bitmap' work') seeds'
  pub bitmap_same : sweep_bitmap tie how i (lent_of seeds bitmap work) bitmap ≡ sweep_bitmap tie how j (lent_of seeds' bitmap' work') bitmap'
  pub holes_same : holes_of i.settings.m (sweep_bitmap tie how i (lent_of seeds bitmap work) bitmap) ≡ holes_of j.settings.m (sweep_bitmap tie how j (lent_of seeds' bitmap' work') bitmap')

buffer_same : (o : Option ℕ) (before before' after : List ℕ) → length before ≡ length before' → ran_buffer o before after ≡ ran_buffer o before' after
unfolding ran_buffer
buffer_same none before before' after e = refl
buffer_same (some b) before before' after e = rw e refl

-- the same begins, and in each bucket the same keys, in any order
module _ (i : Input) (hashes : List ℕ) (keys : (b : ℕ) → b < i.settings.buckets → Same (keys_of i b) (keys_of (regrouped i hashes i.begins) b)) where
  abbrev j : Input
  j = regrouped i hashes i.begins

  largest_of_lem : (bs : List ℕ) → largest_of i bs ≡ largest_of j bs
  unfolding largest_of size_of
  largest_of_lem [] = refl
  largest_of_lem (b ∷ bs) = ap (max (size_of i b)) (largest_of_lem bs)

  largest_is : largest i ≡ largest j
  unfolding largest
  largest_is = largest_of_lem (below i.settings.buckets)

  home_is : line11 i ≡ line11 j
  unfolding line11 all_home is_home
  home_is = ap (λ (c : Bool). line 11 (not c)) (every_alike (all_home i) (all_home j) i.settings.buckets
      (λ b h. every_reordered (is_home i b) (keys_of i b) (keys_of j b) (keys b h)))

  number_is : length i.hashes ≡ length hashes → (how : How) (lent : Lent) → sweep_number how i lent ≡ sweep_number how j lent
  unfolding sweep_number sweep_lines line8 line9 line10 line12 line13 small_bucket size_of
  number_is e how lent = rw (e, home_is, largest_is) refl

  turns_is : (tie : Tie) (c : ℕ) → sweep_turns tie c i ≡ sweep_turns tie c j
  unfolding sweep_turns orders_of order_in order goes_first priority nonempty size_of
  turns_is tie c = refl

  alike : (tie : Tie) (how : How) (b : ℕ) → T (elem b (sweep_turns tie how.chunks i)) → Same (keys_of i b) (keys_of j b)
  alike tie how b t = keys b ((turns_proper tie how i).inside b t)

  seeds_is : (tie : Tie) (how : How) → final_seeds i (sweep_turns tie how.chunks i) ≡ final_seeds j (sweep_turns tie how.chunks j)
  seeds_is tie how = seeds_reordered i hashes i.begins (sweep_turns tie how.chunks i) (alike tie how) ∙ ap (final_seeds j) (turns_is tie how.chunks)

  bitmap_is : (tie : Tie) (how : How) → final_bitmap i (sweep_turns tie how.chunks i) ≡ final_bitmap j (sweep_turns tie how.chunks j)
  bitmap_is tie how = bitmap_reordered i hashes i.begins (sweep_turns tie how.chunks i) (alike tie how) ∙ ap (final_bitmap j) (turns_is tie how.chunks)

  stops_is : (tie : Tie) (how : How) → stops_at tie how i ≡ stops_at tie how j
  unfolding stops_at
  stops_is tie how = ap (λ (o : Option ℕ). cond how.bump none o)
      (fails_reordered i hashes i.begins (sweep_turns tie how.chunks i) (alike tie how) ∙ ap (fails_at j) (turns_is tie how.chunks))

  counts_is : (seeds : List ℕ) → counts_of i seeds ≡ counts_of j seeds
  unfolding counts_of placed_keys bumped_keys zero_bucket size_of
  counts_is seeds = refl

  -- whether refused or not, for the same lent words
  reordered_by : length i.hashes ≡ length hashes → (tie : Tie) (how : How) (lent : Lent) → Unmoved tie how i j lent
  unfolding sweep_answer sweep_seeds sweep_bitmap sweep_work work_needed
  reordered_by e tie how lent = record {
    said_same = rw (number_is e how lent, stops_is tie how, seeds_is tie how, counts_is (final_seeds j (sweep_turns tie how.chunks j))) refl;
    seeds_same = λ seeds. rw (number_is e how lent, stops_is tie how, seeds_is tie how) refl;
    bitmap_same = λ bitmap. rw (number_is e how lent, stops_is tie how, bitmap_is tie how) refl;
    holes_same = λ bitmap. rw (number_is e how lent, stops_is tie how, bitmap_is tie how) refl;
    work_same = λ work. rw (number_is e how lent, largest_is) refl;
  }

  -- where both are accepted, each with its own
  agreed_by : (tie : Tie) (how : How) (seeds bitmap work seeds' bitmap' work' : List ℕ)
      → sweep_number how i (lent_of seeds bitmap work) ≡ 0 → sweep_number how j (lent_of seeds' bitmap' work') ≡ 0 → Agreed tie how i j seeds bitmap work seeds' bitmap' work'
  unfolding sweep_number sweep_answer sweep_seeds sweep_bitmap unless kept_unless
  agreed_by tie how seeds bitmap work seeds' bitmap' work' fine fine' =
      let lent = passes i how (lent_of seeds bitmap work) fine in
      let lent' = passes j how (lent_of seeds' bitmap' work') fine' in
      let marked : sweep_bitmap tie how i (lent_of seeds bitmap work) bitmap ≡ sweep_bitmap tie how j (lent_of seeds' bitmap' work') bitmap' =
      rw (fine, fine', stops_is tie how, bitmap_is tie how) (buffer_same (stops_at tie how j) bitmap bitmap' (final_bitmap j (sweep_turns tie how.chunks j)) (lent.bitmap ∙ sym lent'.bitmap)) in
      record {
        said_same = rw (fine, fine', stops_is tie how, seeds_is tie how, counts_is (final_seeds j (sweep_turns tie how.chunks j))) refl;
        seeds_same = rw (fine, fine', stops_is tie how, seeds_is tie how) (buffer_same (stops_at tie how j) seeds seeds' (final_seeds j (sweep_turns tie how.chunks j)) (lent.seeds ∙ sym lent'.seeds));
        bitmap_same = marked;
        holes_same = ap (holes_of i.settings.m) marked;
      }

reorder_is : (i j : Input) → Reordered i j → regrouped i j.hashes i.begins ≡ j
reorder_is i j R = rw (R.settings_same, R.weights_same, R.table_same, R.begins_same) refl

-- reordering keys inside buckets changes no seed, bit or hole, nor what the call says, 14's bucket among it: accepted or refused, for any lent words
pub reordered : (tie : Tie) (how : How) (i j : Input) (lent : Lent) → Reordered i j → Unmoved tie how i j lent
reordered tie how i j lent R =
    subst (λ (k : Input). ((b : ℕ) → b < i.settings.buckets → Same (keys_of i b) (keys_of k b)) → Unmoved tie how i k lent) (reorder_is i j R)
    (λ keys. reordered_by i j.hashes keys R.as_many tie how lent) R.keys_same

-- where both are accepted, also if each call has buffers of its own
pub reordered_accepted : (tie : Tie) (how : How) (i j : Input) (seeds bitmap work seeds' bitmap' work' : List ℕ) → Reordered i j
    → sweep_number how i (lent_of seeds bitmap work) ≡ 0 → sweep_number how j (lent_of seeds' bitmap' work') ≡ 0 → Agreed tie how i j seeds bitmap work seeds' bitmap' work'
reordered_accepted tie how i j seeds bitmap work seeds' bitmap' work' R fine fine' =
    subst (λ (k : Input). ((b : ℕ) → b < i.settings.buckets → Same (keys_of i b) (keys_of k b)) → sweep_number how k (lent_of seeds' bitmap' work') ≡ 0
    → Agreed tie how i k seeds bitmap work seeds' bitmap' work') (reorder_is i j R)
    (λ keys ok. agreed_by i j.hashes keys tie how seeds bitmap work seeds' bitmap' work' fine ok) R.keys_same fine'
