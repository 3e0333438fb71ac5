-- What the sweep list program prints for each input. Errors of form (18) come first, then 19, then 1 to 14; settings that one of 1 to 7
-- refuses skip the W test of 19. Assumes nothing.
use Rattle.std.specs.Prelude.{ℕ, Bool, cond, ◌&&◌, ◌||◌, List, [], eqb, ltb, length}
use Rattle.std.proofs.Math.Option.{Option, none, some}
use Rattle.rules.specs.Numbers.{Lent, first_of, lines_to7, bitmap_words}
use Rattle.rules.specs.Order.{Input, by_low_bits}
use Rattle.rules.specs.Chunks.{in_one}
use Rattle.rules.specs.Sweep.{final_seeds, final_bitmap}
use Rattle.rules.specs.Holes.{holes_of}
use Rattle.rules.specs.Answers.{Said, Answer, Refusal, counts_of, sweep_turns, sweep_answer, work_needed}
use Rattle.log_table.specs.House.{house_table}
use Rattle.list_input.specs.Form.{form_of}
use Rattle.list_input.specs.Asked.{bump_of, asked_input, over_size}
use Rattle.list_output.specs.Text.{refused_text, done_text}

-- 19: W > 8,192, which settings that one of 1 to 7 refuses skip
unfoldable pub over_work : Input → Bool
over_work i = eqb (first_of (lines_to7 i.settings)) 0 && ltb 8192 (work_needed i)

-- what the program lends: seeds and bitmap as long as they must be, and 8,192 words of work
unfoldable pub lent_by : Input → Lent
lent_by i = record { seeds = i.settings.buckets; bitmap = bitmap_words i.settings.m; work = 8192 }

-- the listing of a sweep that was done
unfoldable pub done_of : Input → List ℕ
done_of i =
    let seeds = final_seeds i (sweep_turns by_low_bits 1 i) in
    done_text i.settings.m (length i.hashes) (counts_of i seeds) i.begins seeds (holes_of i.settings.m (final_bitmap i (sweep_turns by_low_bits 1 i)))

-- a refusal as it is said, or the listing
unfoldable pub printed : Said → (done : List ℕ) → List ℕ
printed (Answer values) done = done
printed (Refusal number named) done = refused_text number named

-- the sweep that the numbers ask for, with the house table, in one chunk; the program keeps to the rule for ties by low bits
unfoldable pub swept_text : (bump : Bool) → Input → List ℕ
swept_text bump i = printed (sweep_answer by_low_bits (in_one bump) i (lent_by i)) (done_of i)

unfoldable pub asked_text : (ns : List ℕ) → List ℕ
asked_text ns =
    let i = asked_input ns house_table in
    cond (over_size ns || over_work i) (refused_text 19 []) (swept_text (bump_of ns) i)

unfoldable pub formed_text : Option (List ℕ) → List ℕ
formed_text none = refused_text 18 []
formed_text (some ns) = asked_text ns

-- the bytes printed for the bytes read
unfoldable pub listing_of : (bytes : List ℕ) → List ℕ
listing_of bytes = formed_text (form_of bytes)
