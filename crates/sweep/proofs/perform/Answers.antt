-- The buffers are blank when the turns start; afterwards the work is, and where a bucket stopped them the rest is too.
use Rattle.std.specs.Prelude.{Result, Ok, Err, ⊤}
use Rattle.rules.specs.Order.{input_of}
use Rattle.sweep.proofs.PerformLaws.{many_buckets, words_room, regular, blank, blank_again, left_done, left_stopped}
use Rattle.sweep.proofs.CountLaws.{counted_all}
use lib.Seq.{length-take-le}
use lib.ListN.{length, drop, replicate, length-append}
use Prim.Native.Nat.{ℕ, ◌≤◌}
use mathlib.Core.List.{◌++◌}
use mathlib.Core.Path.{◌≡◌, refl, sym, ap, ◌∙◌}
use native.Mathlib.Omega.{arith}
use Rattle.sweep.proofs.perform.Goals as goal
use Rattle.sweep.proofs.perform.Goals.{After-run-ended, After-fill-3}

-- what is no bucket is the end of all turns
all_taken : (r : Result ⊤ ℕ) → ((b : ℕ) → r ≡ Err b → ⊥) → r ≡ Ok (tt {0})
all_taken (Ok done) n = refl
all_taken (Err b) n = absurd (n b refl)

module _ (c : After-run-ended) where
  -- the lengths after the turns
  part_long : length c.run-ended.new.work ≡ c.args.words
  part_long = c.run-ended.auto.work ∙ length-take-le c.args.words c.args.work.now (words_room c.requires)

  seeds_long : length c.run-ended.new.seeds ≡ length c.args.seeds.now
  seeds_long = c.run-ended.auto.seeds ∙ c.fill.ensures.len

  map_long : length c.run-ended.new.bitmap ≡ length c.args.bitmap.now
  map_long = c.run-ended.auto.bitmap ∙ c.fill-2.ensures.len

  work_room : c.args.words ≤ length (c.run-ended.new.work ++ drop c.args.words c.args.work.now)
  work_room = omega (arith, part_long, length-append c.run-ended.new.work (drop c.args.words c.args.work.now))

pub slice_bounds-run-end : goal.slice_bounds-run-end
slice_bounds-run-end c = words_room c.requires

pub slice_bounds-run-end-2 : goal.slice_bounds-run-end-2
slice_bounds-run-end-2 c = sym (length-take-le c.args.words c.args.work.now (words_room c.requires))

pub run-ended-requires : goal.run-ended-requires
run-ended-requires c = blank c.requires (c.fill.ensures.after (λ y e. e)) (c.fill-2.ensures.after (λ y e. e))

pub slice_bounds-fill-end : goal.slice_bounds-fill-end
slice_bounds-fill-end c = omega (arith, work_room (goal.at.slice_bounds-fill-end c).After-run-ended)

pub slice_bounds-fill-end-2 : goal.slice_bounds-fill-end-2
slice_bounds-fill-end-2 c = sym (length-take-le _ _ (omega (arith, work_room (goal.at.slice_bounds-fill-end-2 c).After-run-ended)))

-- the work in the end
cleared : (c : After-fill-3) → length c.run-ended.new.work ≡ c.args.words
    → c.fill-3.new.self ++ drop c.args.words (c.run-ended.new.work ++ drop c.args.words c.args.work.now) ≡ replicate c.args.words 0 ++ drop c.args.words c.args.work.now
cleared c l = blank_again c.requires c.run-ended.new.work c.fill-3.new.self l (c.fill-3.ensures.after (λ y e. e))

pub returns-in-Err : goal.returns-in-Err
returns-in-Err c =
    let p = (goal.at.returns-in-Err c).After-run-ended in
    left_stopped c.requires c.run-ended.ensures (cleared (goal.at.returns-in-Err c).After-fill-3 (part_long p)) c.in-Err.is
    (c.fill-in-Err.ensures.after (λ y e. e) ∙ ap (λ (k : ℕ). replicate k 0) (seeds_long p))
    (c.fill-in-Err-2.ensures.after (λ y e. e) ∙ ap (λ (k : ℕ). replicate k 0) (map_long p))

pub counted-requires : goal.counted-requires
counted-requires c = regular c.requires c.run-ended.new.seeds (seeds_long (goal.at.counted-requires c).After-run-ended)

pub returns : goal.returns
returns c =
    let i = input_of c.args.g.settings c.args.weights c.args.hashes.now c.args.begins.now c.args.table.now in
    let p = (goal.at.returns c).After-run-ended in
    left_done c.requires c.run-ended.ensures (cleared (goal.at.returns c).After-fill-3 (part_long p)) (all_taken _ c.in_default.not-Err)
    (counted_all c.counted.ensures i refl (many_buckets c.requires ∙ sym (seeds_long p)))
