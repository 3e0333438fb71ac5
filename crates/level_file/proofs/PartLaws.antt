-- The parts of a file put together: what is read and left where a part is refused, and where all are read. Assumes nothing.
use Prim.Native.Nat.{ℕ, ◌^◌, ◌≤◌, ◌<◌}
use native.Mathlib.Omega.{arith}
use mathlib.Core.Path.{◌≡◌, refl, sym, ap, subst, ◌∙◌}
use mathlib.Core.Bool.{Bool, true, false, not}
use mathlib.Core.List.{List, ◌++◌}
use lib.Dec.{eqb, ltb}
use lib.ListN.{length, drop, replicate}
use borrow.Author.Tests.{lt-ltb, le-ltb}
use Rattle.std.specs.Prelude.{Result, Ok, Err, is_err}
use Rattle.rules.specs.declared.Settings.{Settings}
use Rattle.rules.specs.declared.Refusal as R
use Rattle.rules.specs.Numbers.{first_of, lines_to7}
use Rattle.rules.specs.Answers.{Answer, number_of}
use Rattle.rules.specs.Good.{Good}
use Rattle.rules.proofs.CheckLaws.{passes_7}
use Rattle.level_file.specs.declared.reading.Level as Told
use Rattle.level_file.specs.Format.{Level, level_of, not_below, seed_bad, filled}
use Rattle.level_file.specs.Reading.{Read, then, refused_if, number_at, numbers_at, holes_at, count_at, hole_part, settings_at, checked_at, head_at, body_at, read_file, sized, Leaves}
use Rattle.level_file.specs.Reading.Read.{Got, No}
use Rattle.level_file.specs.Answer.{counted, LeavesSeeds, LeavesHoles, read_values, said_read, read_answer, seeds_after, holes_after}
use Rattle.level_file.proofs.Accepted.{never, got_value, if_back, by_back, then_back}

-- ---- a list that is refused, and one that was read into the front of a buffer

module _ (r : Read (List ℕ)) (n : ℕ) (e : r ≡ No n) where
  pub list_refused : No n ≡ sized r
  unfolding sized
  list_refused = rw e refl

  pub list_void : (before after : List ℕ) → Leaves r before after
  unfolding Leaves
  list_void before after vs end g = absurd (never n vs end (sym e ∙ g))

module _ (r : Read (List ℕ)) (vs : List ℕ) (end k : ℕ) (e : r ≡ Got vs end) (many : length vs ≡ k) where
  pub list_sized : Got k end ≡ sized r
  unfolding sized
  list_sized = rw (e, many) refl

  pub list_leaves : (before : List ℕ) → Leaves r before (vs ++ drop k before)
  unfolding Leaves filled
  list_leaves before ws place g =
      ap (λ (j : ℕ). vs ++ drop j before) (sym many) ∙ ap (λ (xs : List ℕ). filled xs before) (got_value vs ws end place (sym e ∙ g))

-- ---- the hole part

module _ (bytes : List ℕ) (m room at : ℕ) where
  pub part_no : (n : ℕ) → number_at bytes at ≡ No n → hole_part bytes m room at ≡ No n
  unfolding hole_part count_at then
  part_no n e = rw e refl

  module _ (count next : ℕ) (e : number_at bytes at ≡ Got count next) where
    pub part_many : m < count → hole_part bytes m room at ≡ No 24
    unfolding hole_part count_at then refused_if
    part_many h = rw (e, lt-ltb m count h) refl

    pub part_room : count ≤ m → room < count → hole_part bytes m room at ≡ No 26
    unfolding hole_part count_at then refused_if
    part_room few h = rw (e, le-ltb m count few, lt-ltb room count h) refl

    -- the holes, as a reader of the same bytes has them
    module _ (few : count ≤ m) (fit : count ≤ room) (here : List ℕ) (same : here ≡ bytes) (size : ℕ) (is : size ≡ count) where
      holes_here : (r : Read (List ℕ)) → r ≡ holes_at here m size 0 0 next → holes_at bytes m count 0 0 next ≡ r
      holes_here r i = sym (rw (same, is) at i)

      pub part_refused : (n : ℕ) → No n ≡ holes_at here m size 0 0 next → hole_part bytes m room at ≡ No n
      unfolding hole_part count_at then refused_if
      part_refused n i = rw (e, le-ltb m count few, le-ltb room count fit, holes_here (No n) i) refl

      module _ (vs : List ℕ) (end : ℕ) (i : Got vs end ≡ holes_at here m size 0 0 next) where
        pub part_over : end < length bytes → hole_part bytes m room at ≡ No 25
        unfolding hole_part count_at then refused_if
        part_over h = rw (e, le-ltb m count few, le-ltb room count fit, holes_here (Got vs end) i, lt-ltb end (length bytes) h) refl

        pub part_got : length bytes ≤ end → hole_part bytes m room at ≡ Got vs end
        unfolding hole_part count_at then refused_if
        part_got h = rw (e, le-ltb m count few, le-ltb room count fit, holes_here (Got vs end) i, le-ltb end (length bytes) h) refl

-- ---- a whole level

module _ (r : Read Level) (n : ℕ) (e : r ≡ No n) where
  pub level_refused : No n ≡ counted r
  unfolding counted
  level_refused = rw e refl

  pub seeds_void : (before after : List ℕ) → LeavesSeeds r before after
  unfolding LeavesSeeds
  seeds_void before after l end g = absurd (never n l end (sym e ∙ g))

  pub holes_void : (before after : List ℕ) → LeavesHoles r before after
  unfolding LeavesHoles
  holes_void before after l end g = absurd (never n l end (sym e ∙ g))

-- seeds that were read, and the holes behind them
module _ (s : Settings) (vs : List ℕ) where
  unfoldable with_holes : Read (List ℕ) → Read Level
  with_holes r = then r (λ holes end. Got (level_of s vs holes) end)

  with_counted : (r : Read (List ℕ)) → sized r ≡ counted (with_holes r)
  unfolding with_holes then sized counted
  with_counted (Got hs end) = refl
  with_counted (No n) = refl

  with_seeds : (r : Read (List ℕ)) (k : ℕ) → length vs ≡ k → (before : List ℕ) → LeavesSeeds (with_holes r) before (vs ++ drop k before)
  unfolding with_holes then LeavesSeeds filled
  with_seeds (Got hs place) k many before l end g =
      ap (λ (j : ℕ). vs ++ drop j before) (sym many) ∙ ap (λ (x : Level). filled x.seeds before) (got_value (level_of s vs hs) l place end g)
  with_seeds (No n) k many before l end g = absurd (never n l end g)

  with_leaves : (r : Read (List ℕ)) (before after : List ℕ) → Leaves r before after → LeavesHoles (with_holes r) before after
  unfolding with_holes then Leaves LeavesHoles
  with_leaves (Got hs place) before after leaves l end g = leaves hs place refl ∙ ap (λ (x : Level). filled x.holes before) (got_value (level_of s vs hs) l place end g)
  with_leaves (No n) before after leaves l end g = absurd (never n l end g)

module _ (bytes : List ℕ) (seedRoom holeRoom : ℕ) (s : Settings) (at : ℕ) where
  pub body_room : seedRoom < s.buckets → body_at bytes seedRoom holeRoom s at ≡ No 26
  unfolding body_at refused_if
  body_room h = rw (lt-ltb seedRoom s.buckets h) refl

  -- the seeds, as the reader has them: as many as its part of the buffer, below a number that is 2^sb
  module _ (fit : s.buckets ≤ seedRoom) (limit size : ℕ) (is : limit ≡ 2 ^ s.sb) (many : size ≡ s.buckets) where
    seeds_here : (r : Read (List ℕ)) → r ≡ numbers_at bytes (not_below limit) size at → numbers_at bytes (seed_bad s) s.buckets at ≡ r
    seeds_here r i = sym (rw (is, many) at i)

    pub body_no : (n : ℕ) → No n ≡ numbers_at bytes (not_below limit) size at → body_at bytes seedRoom holeRoom s at ≡ No n
    unfolding body_at refused_if then
    body_no n i = rw (le-ltb seedRoom s.buckets fit, seeds_here (No n) i) refl

    module _ (vs : List ℕ) (next : ℕ) (i : Got vs next ≡ numbers_at bytes (not_below limit) size at) (here : List ℕ) (same : here ≡ bytes) where
      body_is : with_holes s vs (hole_part here s.m holeRoom next) ≡ body_at bytes seedRoom holeRoom s at
      unfolding body_at refused_if then with_holes
      body_is = rw (le-ltb seedRoom s.buckets fit, seeds_here (Got vs next) i, same) refl

      pub body_counted : sized (hole_part here s.m holeRoom next) ≡ counted (body_at bytes seedRoom holeRoom s at)
      body_counted = with_counted s vs (hole_part here s.m holeRoom next) ∙ ap counted body_is

      pub body_seeds : length vs ≡ size → (before : List ℕ) → LeavesSeeds (body_at bytes seedRoom holeRoom s at) before (vs ++ drop s.buckets before)
      body_seeds long before = subst (λ (r : Read Level). LeavesSeeds r before (vs ++ drop s.buckets before)) body_is (with_seeds s vs (hole_part here s.m holeRoom next) s.buckets (long ∙ many) before)

      pub body_holes : (before after : List ℕ) → Leaves (hole_part here s.m holeRoom next) before after → LeavesHoles (body_at bytes seedRoom holeRoom s at) before after
      body_holes before after leaves = subst (λ (r : Read Level). LeavesHoles r before after) body_is (with_leaves s vs (hole_part here s.m holeRoom next) before after leaves)

-- ---- what is said of a level that was read

counted_no : (r : Read Level) (n : ℕ) → No n ≡ counted r → r ≡ No n
unfolding counted
counted_no (Got l end) n e = absurd (never n (length l.holes) end e)
counted_no (No m) n e = let i : n ≡ m = cc in cc

-- where it was counted, the answer is of these settings
Says : Settings → Read Level → Type 0
Says s r = (count end : ℕ) → Got count end ≡ counted r → Answer (read_values s count) ≡ read_answer r

says_no : (s : Settings) (n : ℕ) → Says s (No n)
unfolding Says counted
says_no s n count end e = absurd (never n count end (sym e))

says_with : (s : Settings) (vs : List ℕ) (r : Read (List ℕ)) → Says s (with_holes s vs r)
unfolding Says counted with_holes then read_answer
says_with s vs (Got hs place) count end e = ap (λ (k : ℕ). Answer (read_values s k)) (got_value count (length hs) end place e)
says_with s vs (No n) count end e = absurd (never n count end (sym e))

says_then : (s : Settings) (r : Read (List ℕ)) (holes : ℕ → Read (List ℕ)) → Says s (then r (λ vs next. with_holes s vs (holes next)))
unfolding then
says_then s (Got vs next) holes = says_with s vs (holes next)
says_then s (No n) holes = says_no s n

says_if : (s : Settings) (test : Bool) (n : ℕ) (r : Read Level) → Says s r → Says s (refused_if test n r)
unfolding refused_if
says_if s true n r h = says_no s n
says_if s false n r h = h

body_says : (bytes : List ℕ) (seedRoom holeRoom : ℕ) (s : Settings) (at : ℕ) → Says s (body_at bytes seedRoom holeRoom s at)
unfolding body_at with_holes
body_says bytes seedRoom holeRoom s at =
    says_if s (ltb seedRoom s.buckets) 26 _ (says_then s (numbers_at bytes (seed_bad s) s.buckets at) (hole_part bytes s.m holeRoom))

-- ---- head and body

read_good : (bytes : List ℕ) (s : Settings) (end : ℕ) → head_at bytes ≡ Got s end → Good s
unfolding head_at checked_at
read_good bytes s end e =
    let c = then_back (number_at bytes 0) _ s end e in
    let i = if_back (not (eqb c.value 1)) 23 _ s end c.rest in
    let d = then_back (settings_at bytes c.at) _ s end i.1 in
    let b = by_back (first_of (lines_to7 d.value)) (Got d.value d.at) s end d.rest in
    subst Good (got_value d.value s d.at end b.1) (passes_7 d.value b.0)

module _ (bytes : List ℕ) (seedRoom holeRoom : ℕ) where
  pub file_no : (n : ℕ) → No n ≡ head_at bytes → read_file bytes seedRoom holeRoom ≡ No n
  unfolding read_file then
  file_no n e = rw (sym e) refl

  module _ (s : Settings) (next : ℕ) (e : Got s next ≡ head_at bytes) where
    pub file_good : Good s
    file_good = read_good bytes s next (sym e)

    module _ (here : List ℕ) (same : here ≡ bytes) where
      file_body : body_at here seedRoom holeRoom s next ≡ read_file bytes seedRoom holeRoom
      unfolding read_file then
      file_body = rw (sym e, same) refl

      pub file_refused : (n : ℕ) → No n ≡ counted (body_at here seedRoom holeRoom s next) → read_file bytes seedRoom holeRoom ≡ No n
      file_refused n i = sym file_body ∙ counted_no (body_at here seedRoom holeRoom s next) n i

      pub file_said : (count end : ℕ) → Got count end ≡ counted (body_at here seedRoom holeRoom s next)
          → said_read (Ok (record { settings = s; hole_count = count })) ≡ read_answer (read_file bytes seedRoom holeRoom)
      unfolding said_read Says
      file_said count end i = body_says here seedRoom holeRoom s next count end i ∙ ap read_answer file_body

      pub file_seeds : (before after : List ℕ) → LeavesSeeds (body_at here seedRoom holeRoom s next) before after → LeavesSeeds (read_file bytes seedRoom holeRoom) before after
      file_seeds before after l = subst (λ (r : Read Level). LeavesSeeds r before after) file_body l

      pub file_holes : (before after : List ℕ) → LeavesHoles (body_at here seedRoom holeRoom s next) before after → LeavesHoles (read_file bytes seedRoom holeRoom) before after
      file_holes before after l = subst (λ (r : Read Level). LeavesHoles r before after) file_body l

-- ---- afterwards

pub refused_said : (r : Read Level) (why : R.Refusal) → r ≡ No (number_of why) → said_read (Err why) ≡ read_answer r
unfolding said_read read_answer
refused_said r why e = rw e refl

-- an answer that was refused, and one that was not
module _ (r : Read Level) (f : Result Told.Level R.Refusal) (i : said_read f ≡ read_answer r) (before after : List ℕ) where
  refused : (q : Read Level) (g : Result Told.Level R.Refusal) → said_read g ≡ read_answer q → is_err g ≡ true → (n : ℕ) × (q ≡ No n)
  unfolding said_read read_answer
  refused (Got l end) (Ok x) j e = absurd (let z : ◌≡◌ {A = ℕ} 0 1 = cc in omega arith)
  refused (Got l end) (Err why) j e = absurd (let z : ◌≡◌ {A = ℕ} 0 1 = cc in omega arith)
  refused (No n) g j e = (n, refl)

  pub zero_seeds : is_err f ≡ true → after ≡ replicate (length before) 0 → after ≡ seeds_after r before
  unfolding seeds_after
  zero_seeds e z = let n = refused r f i e in rw n.1 z

  pub zero_holes : is_err f ≡ true → after ≡ replicate (length before) 0 → after ≡ holes_after r before
  unfolding holes_after
  zero_holes e z = let n = refused r f i e in rw n.1 z

pub full_seeds : (r : Read Level) (f : Result Told.Level R.Refusal) → said_read f ≡ read_answer r → is_err f ≡ false → (before after : List ℕ) → LeavesSeeds r before after → after ≡ seeds_after r before
unfolding said_read read_answer seeds_after LeavesSeeds
full_seeds (Got l end) f i e before after leaves = leaves l end refl
full_seeds (No n) (Ok x) i e before after leaves = absurd (let z : ◌≡◌ {A = ℕ} 0 1 = cc in omega arith)
full_seeds (No n) (Err why) i e before after leaves = absurd (let z : ◌≡◌ {A = ℕ} 0 1 = cc in omega arith)

pub full_holes : (r : Read Level) (f : Result Told.Level R.Refusal) → said_read f ≡ read_answer r → is_err f ≡ false → (before after : List ℕ) → LeavesHoles r before after → after ≡ holes_after r before
unfolding said_read read_answer holes_after LeavesHoles
full_holes (Got l end) f i e before after leaves = leaves l end refl
full_holes (No n) (Ok x) i e before after leaves = absurd (let z : ◌≡◌ {A = ℕ} 0 1 = cc in omega arith)
full_holes (No n) (Err why) i e before after leaves = absurd (let z : ◌≡◌ {A = ℕ} 0 1 = cc in omega arith)
