-- The writer's number, check by check; that it is 0 exactly where the level can be written and has room; and the parts put together. Assumes nothing.
use Rattle.std.specs.Prelude.{Option, Some, None, Ok, Err}
use Prim.Native.Nat.{ℕ, suc, ◌+◌, ◌^◌, ◌≤◌, ◌<◌}
use native.Mathlib.Omega.{arith}
use mathlib.Core.Path.{◌≡◌, refl, sym, ap, ◌∙◌}
use mathlib.Core.Logic.{◌≢◌}
use mathlib.Core.Bool.{Bool, true, false, not, ◌&&◌}
use mathlib.Core.List.{List, [], ◌∷◌, ◌++◌}
use lib.Dec.{T, ltb, eqb}
use lib.ListN.{length, replicate, length-append}
use lib.Seq.{sets}
use borrow.Author.Tests.{lt-ltb, le-ltb, eq-eqb, ne_eqb, ltb-false, eqb-true, not-false}
use Rattle.rules.specs.declared.Settings.{Settings}
use Rattle.rules.specs.Numbers.{Line, line, first_of, lines_to7}
use Rattle.rules.specs.declared.Refusal as R
use Rattle.rules.specs.Answers.{Answer, Refusal, number_of}
use Rattle.rules.proofs.RefusalLaws.{number_positive, refused_first}
use Rattle.rules.proofs.Lines.{first_append_zero, first_append_none, first_applies, first_skips, first_none, none_zero}
use Rattle.rules.proofs.Tests.{is_true, is_false, of_true, of_false, and_left, and_right}
use Rattle.rules.proofs.CheckLaws.{numbered_7, passes_7, good_7}
use Rattle.rules.proofs.AnswerLaws.{unless_zero, unless_some, kept_zero, kept_some}
use Rattle.house_numbers.specs.Encode.{encoded}
use Rattle.level_file.specs.Format.{Level, level_of, not_below, all_but, gaps_from, settings_numbers, numbers_of, bytes_of, file_of, seeds_fine, holes_fine, Writable, filled}
use Rattle.level_file.specs.Writing.{measured, seeds_missing, values_bad, write_lines, write_number, said_written, write_answer, bytes_after, Climbs}
use Rattle.level_file.proofs.DecodesLaws.{bytes_append}
use Rattle.level_file.proofs.Accepts.{hole_facts, holes_few}
use Rattle.level_file.proofs.PutLaws.{sets_append, front_filled}
use Rattle.level_file.proofs.MeasureLaws.{bytes_ten, fine_size, fine_bad}

-- ---- the number

module _ (l : Level) (room : ℕ) where
  tests : List Line
  tests = line 13 (seeds_missing l) ∷ line 24 (values_bad l) ∷ line 26 (ltb room (length (file_of l))) ∷ []

  pub number_7 : (why : R.Refusal) → number_of why ≡ first_of (lines_to7 l.settings) → number_of why ≡ write_number l room
  unfolding write_number write_lines
  number_7 why e = refused_first (lines_to7 l.settings) _ why e

  module _ (passed : first_of (lines_to7 l.settings) ≡ 0) where
    after_7 : write_number l room ≡ first_of tests
    unfolding write_number write_lines tests
    after_7 = first_append_zero (lines_to7 l.settings) tests (numbered_7 l.settings) passed

    pub number_13 : length l.seeds ≢ l.settings.buckets → 13 ≡ write_number l room
    unfolding tests seeds_missing
    number_13 h = sym (after_7 ∙ first_applies (line 13 (seeds_missing l)) _ (of_false (ne_eqb (length l.seeds) l.settings.buckets h)))

    module _ (many : length l.seeds ≡ l.settings.buckets) where
      after_13 : write_number l room ≡ first_of (line 24 (values_bad l) ∷ line 26 (ltb room (length (file_of l))) ∷ [])
      unfolding tests seeds_missing
      after_13 = after_7 ∙ first_skips (line 13 (seeds_missing l)) _ (of_false (ap not (eq-eqb (length l.seeds) l.settings.buckets many)))

      pub number_24 : values_bad l ≡ true → 24 ≡ write_number l room
      number_24 h = sym (after_13 ∙ first_applies (line 24 (values_bad l)) _ (of_true h))

      module _ (fine : values_bad l ≡ false) where
        after_24 : write_number l room ≡ first_of (line 26 (ltb room (length (file_of l))) ∷ [])
        after_24 = after_13 ∙ first_skips (line 24 (values_bad l)) _ (of_false fine)

        pub number_26 : room < length (file_of l) → 26 ≡ write_number l room
        number_26 h = sym (after_24 ∙ first_applies (line 26 (ltb room (length (file_of l)))) [] (of_true (lt-ltb room (length (file_of l)) h)))

        pub number_0 : length (file_of l) ≤ room → 0 ≡ write_number l room
        number_0 h = sym (after_24 ∙ none_zero (line 26 (ltb room (length (file_of l))) ∷ []) (of_false (le-ltb room (length (file_of l)) h), tt))

  pub seeds_bad : seeds_fine l.settings l.seeds ≡ false → values_bad l ≡ true
  unfolding values_bad
  seeds_bad e = rw e refl

  pub holes_bad : seeds_fine l.settings l.seeds ≡ true → holes_fine l.settings.m 0 0 l.holes ≡ false → values_bad l ≡ true
  unfolding values_bad
  holes_bad d e = rw (d, e) refl

  pub both_fine : seeds_fine l.settings l.seeds ≡ true → holes_fine l.settings.m 0 0 l.holes ≡ true → values_bad l ≡ false
  unfolding values_bad
  both_fine d e = rw (d, e) refl

  -- The number is 0 where the level can be written and has room,
  pub writes : Writable l → length (file_of l) ≤ room → write_number l room ≡ 0
  writes w fits = sym (number_0 (good_7 l.settings w.good) w.many (both_fine (is_true _ w.fine_seeds) (is_true _ w.fine_holes)) fits)

  -- and nowhere else.
  pub wrote : write_number l room ≡ 0 → Writable l × (length (file_of l) ≤ room)
  unfolding write_number write_lines seeds_missing values_bad
  wrote e =
      let both = first_append_none (lines_to7 l.settings) _ (numbered_7 l.settings) e in
      let a : Bool = seeds_fine l.settings l.seeds in
      let b : Bool = holes_fine l.settings.m 0 0 l.holes in
      let none = first_none (line 13 (seeds_missing l) ∷ line 24 (values_bad l) ∷ line 26 (ltb room (length (file_of l))) ∷ []) tt both.1 in
      let fine : T (a && b) = of_true (not-false (a && b) (is_false (not (a && b)) none.1.0)) in (
        record {
          good = passes_7 l.settings both.0;
          many = eqb-true (length l.seeds) l.settings.buckets (not-false _ (is_false (not (eqb (length l.seeds) l.settings.buckets)) none.0));
          fine_seeds = and_left a b fine;
          fine_holes = and_right a b fine;
        },
        ltb-false room (length (file_of l)) (is_false (ltb room (length (file_of l))) none.1.1.0),
      )

-- ---- the parts

climbs : (m before least : ℕ) (hs : List ℕ) → T (holes_fine m before least hs) → Climbs before hs
unfolding Climbs
climbs m before least [] fine = tt
climbs m before least (h ∷ hs) fine = let f = hole_facts m before least h hs fine in (omega (arith, f.0), climbs m h 1 hs f.2)

pub writable_climbs : (l : Level) → Writable l → Climbs 0 l.holes
writable_climbs l w = climbs l.settings.m 0 0 l.holes w.fine_holes

module _ (l : Level) where
  head : List ℕ
  head = bytes_of (1 ∷ settings_numbers l.settings)

  -- head, seeds, hole count, differences
  file_parts : file_of l ≡ head ++ (bytes_of l.seeds ++ (encoded (length l.holes) ++ bytes_of (gaps_from 0 l.holes)))
  unfolding file_of numbers_of bytes_of head
  file_parts =
      bytes_append (1 ∷ settings_numbers l.settings) (l.seeds ++ length l.holes ∷ gaps_from 0 l.holes)
      ∙ ap (λ (xs : List ℕ). bytes_of (1 ∷ settings_numbers l.settings) ++ xs) (bytes_append l.seeds (length l.holes ∷ gaps_from 0 l.holes))

  pub file_length : length (file_of l) ≡ length (bytes_of (1 ∷ settings_numbers l.settings)) + length (bytes_of l.seeds) + length (encoded (length l.holes)) + length (bytes_of (gaps_from 0 l.holes))
  unfolding head
  file_length =
      let c : List ℕ = encoded (length l.holes) in
      let g : List ℕ = bytes_of (gaps_from 0 l.holes) in
      omega (arith, ap length file_parts, length-append head (bytes_of l.seeds ++ (c ++ g)), length-append (bytes_of l.seeds) (c ++ g), length-append c g)

  -- four parts, each stored behind the one before, are the file
  pub file_put : (out b₁ b₂ b₃ b₄ : List ℕ) (a₁ a₂ a₃ : ℕ)
      → b₁ ≡ sets out 0 (bytes_of (1 ∷ settings_numbers l.settings)) → a₁ ≡ length (bytes_of (1 ∷ settings_numbers l.settings))
      → b₂ ≡ sets b₁ a₁ (bytes_of l.seeds) → a₂ ≡ a₁ + length (bytes_of l.seeds)
      → b₃ ≡ sets b₂ a₂ (encoded (length l.holes)) → a₃ ≡ a₂ + length (encoded (length l.holes))
      → b₄ ≡ sets b₃ a₃ (bytes_of (gaps_from 0 l.holes)) → length (file_of l) ≤ length out → b₄ ≡ filled (file_of l) out
  unfolding head
  file_put out b₁ b₂ b₃ b₄ a₁ a₂ a₃ p₁ q₁ p₂ q₂ p₃ q₃ p₄ fits =
      let s : List ℕ = bytes_of l.seeds in
      let c : List ℕ = encoded (length l.holes) in
      let g : List ℕ = bytes_of (gaps_from 0 l.holes) in
      let start : 0 + length head ≡ a₁ = omega (arith, q₁) in
      let third : sets b₂ a₂ (c ++ g) ≡ b₄ = sets_append c g b₂ a₂ ∙ ap (λ (k : ℕ). sets (sets b₂ a₂ c) k g) (sym q₃) ∙ ap (λ (xs : List ℕ). sets xs a₃ g) (sym p₃) ∙ sym p₄ in
      let second : sets b₁ a₁ (s ++ (c ++ g)) ≡ b₄ = sets_append s (c ++ g) b₁ a₁ ∙ ap (λ (k : ℕ). sets (sets b₁ a₁ s) k (c ++ g)) (sym q₂) ∙ ap (λ (xs : List ℕ). sets xs a₂ (c ++ g)) (sym p₂) ∙ third in
      let first : sets out 0 (head ++ (s ++ (c ++ g))) ≡ b₄ =
      sets_append head (s ++ (c ++ g)) out 0 ∙ ap (λ (k : ℕ). sets (sets out 0 head) k (s ++ (c ++ g))) start ∙ ap (λ (xs : List ℕ). sets xs a₁ (s ++ (c ++ g))) (sym p₁) ∙ second in
      sym first ∙ ap (sets out 0) (sym file_parts) ∙ front_filled out (file_of l) fits

-- ---- what is said and left

module _ (l : Level) (before : List ℕ) where
  module _ (why : R.Refusal) (e : number_of why ≡ write_number l (length before)) where
    applies : write_number l (length before) ≢ 0
    applies z = let p = number_positive why in omega (arith, e, z)

    pub write_refused : said_written (Err why) ≡ write_answer l (length before)
    unfolding said_written write_answer
    write_refused = ap (λ (k : ℕ). Refusal k []) e ∙ sym (unless_some (write_number l (length before)) _ applies)

    pub write_zero : (after : List ℕ) → after ≡ replicate (length before) 0 → after ≡ bytes_after l before
    unfolding bytes_after
    write_zero after i = i ∙ sym (kept_some (write_number l (length before)) _ _ applies)

  module _ (z : 0 ≡ write_number l (length before)) where
    pub may_write : Writable l × (length (file_of l) ≤ length before)
    may_write = wrote l (length before) (sym z)

    pub write_done : (k : ℕ) → k ≡ length (file_of l) → said_written (Ok k) ≡ write_answer l (length before)
    unfolding said_written write_answer
    write_done k i = ap (λ (x : ℕ). Answer (x ∷ [])) i ∙ sym (unless_zero (write_number l (length before)) _ (sym z))

    pub write_file : (after : List ℕ) → after ≡ filled (file_of l) before → after ≡ bytes_after l before
    unfolding bytes_after
    write_file after i = i ∙ sym (kept_zero (write_number l (length before)) _ _ (sym z))

-- ---- the number from what was measured

gaps_many : (before : ℕ) (hs : List ℕ) → length (gaps_from before hs) ≡ length hs
unfolding gaps_from
gaps_many before [] = refl
gaps_many before (h ∷ hs) = ap suc (gaps_many h hs)

module _ (s : Settings) (seeds holes : List ℕ) (room limit : ℕ) (passed : first_of (lines_to7 s) ≡ 0) (many : length seeds ≡ s.buckets) (is-limit : limit ≡ 2 ^ s.sb)
    (a : Option ℕ) (i : a ≡ measured (all_but (not_below limit) seeds) seeds) where
  level : Level
  level = level_of s seeds holes

  seeds_by : (b : Bool) → all_but (not_below limit) seeds ≡ b → seeds_fine s seeds ≡ b
  unfolding seeds_fine
  seeds_by b e = ap (λ (k : ℕ). all_but (not_below k) seeds) (sym is-limit) ∙ e

  pub bad_seeds : a ≡ None → 24 ≡ write_number (level_of s seeds holes) room
  unfolding level
  bad_seeds e = number_24 level room passed many (seeds_bad level room (seeds_by false (fine_bad _ seeds a i e)))

  module _ (x : ℕ) (p : a ≡ Some x) (b : Option ℕ) (j : b ≡ measured (holes_fine s.m 0 0 holes) (gaps_from 0 holes)) where
    fine_seeds : seeds_fine s seeds ≡ true
    fine_seeds = seeds_by true (fine_size _ seeds a i x p).0

    pub bad_holes : b ≡ None → 24 ≡ write_number (level_of s seeds holes) room
    unfolding level
    bad_holes e = number_24 level room passed many (holes_bad level room fine_seeds (fine_bad _ (gaps_from 0 holes) b j e))

    module _ (y : ℕ) (q : b ≡ Some y) where
      fine_holes : holes_fine s.m 0 0 holes ≡ true
      fine_holes = (fine_size _ (gaps_from 0 holes) b j y q).0

      pub few_seeds : x ≤ 671088650
      few_seeds = omega (arith, (fine_size _ seeds a i x p).1, bytes_ten seeds, (passes_7 s passed).buckets_high, many)

      pub few_holes : y ≤ 1342177280
      few_holes = omega (arith, (fine_size _ (gaps_from 0 holes) b j y q).1, bytes_ten (gaps_from 0 holes), gaps_many 0 holes, holes_few s.m 0 0 holes (of_true fine_holes), (passes_7 s passed).m_high)

      module _ (h : ℕ) (k : h ≡ length (bytes_of (1 ∷ settings_numbers s)) + length (encoded (length holes))) where
        whole : length (file_of level) ≡ h + x + y
        unfolding level
        whole = omega (arith, file_length level, k, (fine_size _ seeds a i x p).1, (fine_size _ (gaps_from 0 holes) b j y q).1)

        pub no_room : room < h + x + y → 26 ≡ write_number (level_of s seeds holes) room
        unfolding level
        no_room o = number_26 level room passed many (both_fine level room fine_seeds fine_holes) (omega (arith, whole))

        pub has_room_lem : h + x + y ≤ room → 0 ≡ write_number (level_of s seeds holes) room
        unfolding level
        has_room_lem o = number_0 level room passed many (both_fine level room fine_seeds fine_holes) (omega (arith, whole))
