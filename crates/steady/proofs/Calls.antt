-- Both theorems, from what a sweep promises of its record and of every lent word (`Left`): a record without a number says that the checks passed and
-- that no bucket stopped the sweep, one that names a bucket that the checks passed. Assumes nothing.
use mathlib.Core.Path.{◌≡◌, refl, sym, ap, ◌∙◌, subst}
use mathlib.Core.List.{List}
use mathlib.Core.Option.{Option, none, some}
use Prim.Native.Nat.{ℕ, zero, suc}
use lib.Dec.{T}
use lib.ListN.{get_or}
use Rattle.rules.specs.declared.How.{How}
use Rattle.rules.specs.declared.Counts.{Counts}
use Rattle.rules.specs.declared.SweepRecord.{SweepRecord}
use Rattle.rules.specs.Order.{Input, by_low_bits}
use Rattle.rules.specs.Holes.{holes_of}
use Rattle.rules.specs.Numbers.{lent_of}
use Rattle.rules.specs.Answers.{unless, ran_answer, said_sweep, stops_at, sweep_number, sweep_answer, sweep_seeds, sweep_bitmap, sweep_work}
use Rattle.rules.proofs.SaidLaws.{said_sweep_lem}
use Rattle.sweep.specs.Performing.{Left}
use Rattle.steady.specs.Steady.{is_answer, is_run, accepted, ran, EarlyStay, OrderFree, RefusedAlike}
use Rattle.steady.proofs.EarlyPages.{differ_below, early_done}
use Rattle.steady.proofs.Reordering.{reordered, reordered_accepted}

answer_passed : (n : ℕ) (o : Option ℕ) (c : Counts) → T (is_answer (unless n (ran_answer o c))) → (n ≡ 0) × (o ≡ none)
unfolding is_answer unless ran_answer
answer_passed zero none c t = (refl, refl)
answer_passed zero (some b) c t = absurd t
answer_passed (suc n) o c t = absurd t

run_passed : (n : ℕ) (o : Option ℕ) (c : Counts) → T (is_run (unless n (ran_answer o c))) → n ≡ 0
unfolding is_run unless ran_answer
run_passed zero o c t = refl
run_passed (suc n) o c t = absurd t

module _ {i : Input} {how : How} {seeds bitmap work seeds' bitmap' work' : List ℕ} {r : SweepRecord} (l : Left i how seeds bitmap work r seeds' bitmap' work') where
  accepted_passed : T (accepted r) → (sweep_number how i (lent_of seeds bitmap work) ≡ 0) × (stops_at by_low_bits how i ≡ none)
  unfolding accepted sweep_answer
  accepted_passed t = answer_passed _ _ _ (subst (λ s. T (is_answer s)) l.answer t)

  ran_passed : T (ran r) → sweep_number how i (lent_of seeds bitmap work) ≡ 0
  unfolding ran sweep_answer
  ran_passed t = run_passed _ _ _ (subst (λ s. T (is_run s)) l.answer t)

-- two calls, each with buffers of its own
module _ {i j : Input} {how : How} {seeds bitmap work seeds' bitmap' work' : List ℕ} {r : SweepRecord} (l : Left i how seeds bitmap work r seeds' bitmap' work')
    {seeds2 bitmap2 work2 seeds2' bitmap2' work2' : List ℕ} {r2 : SweepRecord} (k : Left j how seeds2 bitmap2 work2 r2 seeds2' bitmap2' work2') where
  pub early_stay : EarlyStay how i j r r2 seeds' seeds2'
  early_stay one b D t t2 x h =
      let p = accepted_passed l t in
      let q = accepted_passed k t2 in
      ap (λ (s : List ℕ). get_or s x 0) l.given
      ∙ early_done by_low_bits how i j one (lent_of seeds bitmap work) (lent_of seeds2 bitmap2 work2) b (differ_below b i j D) p.0 q.0 p.1 q.1 seeds seeds2 x h
      ∙ sym (ap (λ (s : List ℕ). get_or s x 0) k.given)

  pub order_free : OrderFree i j r r2 seeds' seeds2' bitmap' bitmap2'
  order_free R t t2 =
      let a = reordered_accepted by_low_bits how i j seeds bitmap work seeds2 bitmap2 work2 R (ran_passed l t) (ran_passed k t2) in
      let marked = l.marked ∙ a.bitmap_same ∙ sym k.marked in
      record {
        record_same = said_sweep_lem r r2 (l.answer ∙ a.said_same ∙ sym k.answer);
        seeds_same = l.given ∙ a.seeds_same ∙ sym k.given;
        bitmap_same = marked;
        holes_same = ap (holes_of i.settings.m) marked;
      }

  pub refused_alike : RefusedAlike i j r r2 (lent_of seeds bitmap work) (lent_of seeds2 bitmap2 work2)
  refused_alike R e = said_sweep_lem r r2
      (l.answer ∙ (reordered by_low_bits how i j (lent_of seeds bitmap work) R).said_same ∙ ap (sweep_answer by_low_bits how j) e ∙ sym k.answer)

-- what a call of sweep promises, one after another
abbrev Promised : (i : Input) (how : How) (seeds bitmap work : List ℕ) (r : SweepRecord) (seeds' bitmap' work' : List ℕ) → Type 0
Promised i how seeds bitmap work r seeds' bitmap' work' =
    (said_sweep r ≡ sweep_answer by_low_bits how i (lent_of seeds bitmap work))
    × ((seeds' ≡ sweep_seeds by_low_bits how i (lent_of seeds bitmap work) seeds)
    × ((bitmap' ≡ sweep_bitmap by_low_bits how i (lent_of seeds bitmap work) bitmap)
    × (work' ≡ sweep_work how i (lent_of seeds bitmap work) work)))

-- so two calls leave this, with both theorems
pub both_leave : {i j : Input} {how : How} {seeds bitmap work seeds' bitmap' work' seeds2 bitmap2 work2 seeds2' bitmap2' work2' : List ℕ} {r r2 : SweepRecord}
    → Promised i how seeds bitmap work r seeds' bitmap' work' → Promised j how seeds2 bitmap2 work2 r2 seeds2' bitmap2' work2'
    → Left i how seeds bitmap work r seeds' bitmap' work'
    × (Left j how seeds2 bitmap2 work2 r2 seeds2' bitmap2' work2'
    × (EarlyStay how i j r r2 seeds' seeds2'
    × (OrderFree i j r r2 seeds' seeds2' bitmap' bitmap2'
    × RefusedAlike i j r r2 (lent_of seeds bitmap work) (lent_of seeds2 bitmap2 work2))))
both_leave {i} {j} {how} {seeds} {bitmap} {work} {seeds'} {bitmap'} {work'} {seeds2} {bitmap2} {work2} {seeds2'} {bitmap2'} {work2'} {r} {r2} e f =
    let l : Left i how seeds bitmap work r seeds' bitmap' work' = record { answer = e.0; given = e.1.0; marked = e.1.1.0; worked = e.1.1.1 } in
    let k : Left j how seeds2 bitmap2 work2 r2 seeds2' bitmap2' work2' = record { answer = f.0; given = f.1.0; marked = f.1.1.0; worked = f.1.1.1 } in
    (l, (k, (early_stay l k, (order_free l k, refused_alike l k))))
