-- What a hole list, a sweep and the parts of the numbers say of the text that is printed: each answer undone by its `said..`.
-- Assumes nothing.
use Prim.Native.Nat.{ℕ, zero, suc, ◌+◌, ◌≤◌}
use native.Mathlib.Omega.{arith}
use mathlib.Core.Path.{◌≡◌, refl, sym, ap, ◌∙◌}
use mathlib.Core.Bool.{Bool}
use mathlib.Core.List.{List, [], ◌∷◌, ◌++◌}
use mathlib.Core.Option.{Option, none, some}
use lib.ListN.{length, get_or, take, drop}
use lib.Seq.{sets, sets-eq, take_at, length-sets}
use Rattle.rules.specs.declared.Counts.{Counts}
use Rattle.rules.specs.declared.Refusal as R
use Rattle.rules.specs.declared.Stop.{Stop}
use Rattle.rules.specs.declared.SweepRecord.{SweepRecord}
use Rattle.std.specs.Prelude.{Result, Ok, Err}
use Rattle.rules.specs.Order.{Input, by_low_bits}
use Rattle.rules.specs.Chunks.{in_one}
use Rattle.rules.specs.Holes.{holes_of}
use Rattle.rules.specs.Numbers.{Lent, lent_of, first_of, holes_lines, bitmap_words}
use Rattle.rules.specs.Sweep.{final_seeds, final_bitmap}
use Rattle.rules.specs.Answers.{Said, Answer, Refusal, number_of, named_by, count_values, counts_of, said_outcome, said_stop, said_sweep, said_count, holes_answer, holes_out, sweep_turns, stops_at, sweep_number, sweep_answer, sweep_seeds, sweep_bitmap}
use Rattle.rules.proofs.AnswerLaws.{unless_zero, kept_zero, sweep_refused, sweep_done, sweep_stopped}
use Rattle.rules.proofs.SaidLaws.{said_count_lem}
use Rattle.rules.proofs.InputLaws.{passes}
use Rattle.holes.proofs.Walk.{holes_length}
use Rattle.holes.proofs.Cases.{all_fine}
use Rattle.list_output.specs.Text.{refused_text, done_text}
use Rattle.listing.specs.Listing.{lent_by, done_of, printed, swept_text}

-- ---- what is said, by its parts

answered : Said → ℕ
answered (Answer xs) = 1
answered (Refusal n xs) = 0

apart : {n : ℕ} {xs ys : List ℕ} → Answer xs ≡ Refusal n ys → ⊥
unfolding answered
apart e = let z : ◌≡◌ {A = ℕ} 1 0 = ap answered e in omega arith

-- ---- the hole list

pub holes_fit : (m : ℕ) (ws : List ℕ) → m ≤ 1024 → length (holes_of m ws) ≤ 1024
holes_fit m ws h = omega (arith, holes_length m ws)

module _ (m : ℕ) (ws out : List ℕ) (low : 1 ≤ m) (high : m ≤ 1024) (words : length ws ≡ bitmap_words m) (room : length out ≡ 1024) where
  fine : first_of (holes_lines m ws (length out)) ≡ 0
  fine = all_fine m ws (length out) low (omega arith) words (omega (arith, holes_length m ws))

  answer_is : holes_answer m ws out ≡ Answer (length (holes_of m ws) ∷ [])
  unfolding holes_answer
  answer_is = unless_zero (first_of (holes_lines m ws (length out))) (Answer (length (holes_of m ws) ∷ [])) fine

  pub holes_said : (r : Result ℕ R.Refusal) → said_count r ≡ holes_answer m ws out → r ≡ Ok (length (holes_of m ws))
  unfolding said_count
  holes_said r said = said_count_lem r (Ok (length (holes_of m ws))) (said ∙ answer_is)

  pub holes_front : (after : List ℕ) (n : ℕ) → after ≡ holes_out m ws out → n ≡ length (holes_of m ws) → take n after ≡ holes_of m ws
  unfolding holes_out
  holes_front after n e c =
      ap (take n) (e ∙ kept_zero (first_of (holes_lines m ws (length out))) out (holes_of m ws ++ drop (length (holes_of m ws)) out) fine)
      ∙ take_at (holes_of m ws) (drop (length (holes_of m ws)) out) n (sym c)

-- ---- the sweep

counts_back : Said → Counts
counts_back (Answer xs) = record { placed = get_or xs 0 0; bumped = get_or xs 1 0; zero = get_or xs 2 0 }
counts_back (Refusal n xs) = record { placed = 0; bumped = 0; zero = 0 }

counts_back_lem : (c : Counts) → counts_back (Answer (count_values c)) ≡ c
unfolding counts_back count_values
counts_back_lem c = refl

-- a sweep that was done, and what it left
pub record Swept (bump : Bool) (i : Input) (counts : Counts) (seeds bitmap : List ℕ) : Type 0 where
  pub m_low : 1 ≤ i.settings.m
  pub counts_are : counts ≡ counts_of i (final_seeds i (sweep_turns by_low_bits 1 i))
  pub seeds_are : seeds ≡ final_seeds i (sweep_turns by_low_bits 1 i)
  pub bitmap_is : bitmap ≡ final_bitmap i (sweep_turns by_low_bits 1 i)
  pub text : swept_text bump i ≡ done_of i

module _ (bump : Bool) (i : Input) (lent : Lent) (same : lent ≡ lent_by i) (r : SweepRecord) (said : said_sweep r ≡ sweep_answer by_low_bits (in_one bump) i lent) where
  said_own : said_sweep r ≡ sweep_answer by_low_bits (in_one bump) i (lent_by i)
  said_own = said ∙ ap (sweep_answer by_low_bits (in_one bump) i) same

  pub swept_refused : (stop : Stop) → r.outcome ≡ Err stop → swept_text bump i ≡ refused_text (number_of stop.why) (named_by stop.bucket)
  unfolding swept_text printed said_sweep said_outcome said_stop
  swept_refused stop e = ap (λ (s : Said). printed s (done_of i)) (sym said_own ∙ ap said_outcome e)

  pub swept_done : (counts : Counts) (before before' seeds bitmap : List ℕ) → r.outcome ≡ Ok counts → seeds ≡ sweep_seeds by_low_bits (in_one bump) i lent before → bitmap ≡ sweep_bitmap by_low_bits (in_one bump) i lent before'
      → Swept bump i counts seeds bitmap
  unfolding said_sweep said_outcome sweep_number swept_text printed
  swept_done counts before before' seeds bitmap e f g = go (sweep_number (in_one bump) i lent) refl (stops_at by_low_bits (in_one bump) i) refl
    where
      is : said_sweep r ≡ Answer (count_values counts)
      is = ap said_outcome e

      go : (n : ℕ) → sweep_number (in_one bump) i lent ≡ n → (o : Option ℕ) → stops_at by_low_bits (in_one bump) i ≡ o → Swept bump i counts seeds bitmap
      go (suc n) k o l = absurd (apart (sym is ∙ said ∙ (sweep_refused by_low_bits (in_one bump) i lent before before' [] (λ (z : sweep_number (in_one bump) i lent ≡ 0). absurd (let y : suc n ≡ 0 = sym k ∙ z in omega arith))).said_is))
      go zero k (some b) l = absurd (apart (sym is ∙ said ∙ (sweep_stopped by_low_bits (in_one bump) i lent before before' [] b k l).said_is))
      go zero k none l =
          let left = sweep_done by_low_bits (in_one bump) i lent before before' [] k l in
          record {
            m_low = (passes i (in_one bump) lent k).sound.good.m_low;
            counts_are = sym (counts_back_lem counts) ∙ ap counts_back (sym is ∙ said ∙ left.said_is) ∙ counts_back_lem (counts_of i (final_seeds i (sweep_turns by_low_bits 1 i)));
            seeds_are = f ∙ left.seeds_are;
            bitmap_is = g ∙ left.bitmap_is;
            text = ap (λ (s : Said). printed s (done_of i)) (sym said_own ∙ is);
          }

-- the listing from what was left
pub swept_text_lem : (bump : Bool) (i : Input) (counts : Counts) (seeds bitmap : List ℕ) → Swept bump i counts seeds bitmap
    → swept_text bump i ≡ done_text i.settings.m (length i.hashes) counts i.begins seeds (holes_of i.settings.m bitmap)
unfolding done_of
swept_text_lem bump i counts seeds bitmap s = s.text ∙ (rw (s.counts_are, s.seeds_are, s.bitmap_is) refl)

-- ---- a part at the front of a buffer

pub front_is : (text buffer after : List ℕ) (n : ℕ) → after ≡ sets buffer 0 text → length text ≤ length buffer → n ≡ length text → take n after ≡ text
front_is text buffer after n e h c =
    ap (take n) (e ∙ sets-eq text buffer 0 (omega arith)) ∙ take_at text (drop (0 + length text) buffer) n (sym c)

-- what the program lends
pub lent_same : (i : Input) (seeds bitmap work : List ℕ) → length seeds ≡ i.settings.buckets → length bitmap ≡ bitmap_words i.settings.m → length work ≡ 8192
    → lent_of seeds bitmap work ≡ lent_by i
unfolding lent_by
lent_same i seeds bitmap work e f g = rw (e, f, g) refl

-- a buffer that a text was stored in has its length
pub sets_long : (after buffer text : List ℕ) (n : ℕ) → after ≡ sets buffer 0 text → length buffer ≡ n → length after ≡ n
sets_long after buffer text n e f = ap length e ∙ length-sets buffer 0 text ∙ f
