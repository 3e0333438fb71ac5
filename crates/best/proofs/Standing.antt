-- The pass over the listed words, one set bit a step. All numbers below q are done; where numbers are left, the cursor stands at the word that has the next one,
-- and what is left of that word are its bits from there on. Why a step needs no look at what comes: a word that is done leaves the place to the next listed one,
-- and the count of free numbers tells when none is left. Assumes nothing.
use mathlib.Core.Path.{◌≡◌, sym, ap, ◌∙◌, subst}
use mathlib.Core.Logic.{◌≢◌, ⊎_elim}
use mathlib.Core.List.{List}
use Prim.Native.Nat.{ℕ, zero, suc, ◌+◌, ◌-◌, ◌*◌, ◌/◌, ◌^◌, ◌≤◌, ◌<◌}
use native.Mathlib.Omega.{arith}
use lib.Bits.{bit_and}
use lib.Count.{count_trailing_zeros, trailing_le}
use lib.ListN.{length, get_or, set}
use lib.Seq.{get_or-set_same, get_or-set_other}
use Rattle.words.specs.Bit.{bit}
use Rattle.words.specs.BitLaws.{bit_of_zero}
use Rattle.words.specs.Cases.{lt_or_ge, same_or_not}
use Rattle.words.specs.CountLaws.{tz_below, tz_bit, tz_lt, clear_other, clear_lt}
use Rattle.words.specs.Map.{Words, slot, tally}
use Rattle.words.specs.TallyLaws.{tally_zero, tally_suc}
use Rattle.best.specs.declared.Best.{Best}
use Rattle.best.specs.Best.{nothing, better, best_from}
use Rattle.best.specs.BestLaws.{from_none, from_pass, from_skip}
use Rattle.best.specs.Prices.{is_free}
use Rattle.best.specs.PriceLaws.{free_one, free_zero}
use Rattle.best.specs.Walk.{slot_of, lowest_up}
use Rattle.best.specs.Listed.{none, some_to, place, Entry, Listed}
use Rattle.best.proofs.ListLaws.{some_one, none_one, none_zero, none_before, some_more, some_few, place_later, place_same, entry_kept, First, first_some}

-- ---- the count over a stretch

tally_over : (ws : List ℕ) (q e : ℕ) → q ≤ e → ((p : ℕ) → q ≤ p → p < e → slot ws p ≡ 0) → tally ws e ≡ tally ws q
tally_over ws q zero le z = let x : 0 ≡ q = omega arith in ap (tally ws) x
tally_over ws q (suc e) le z =
    ⊎_elim
    (λ (l : e < q). let x : suc e ≡ q = omega arith in ap (tally ws) x)
    (λ (l : q ≤ e). omega (arith, tally_suc ws e, z e l (omega arith), tally_over ws q e l (λ p a b. z p a (omega arith))))
    (lt_or_ge e q)

tally_up : (ws : List ℕ) (q e : ℕ) → q ≤ e → tally ws q ≤ tally ws e
tally_up ws q zero le = let x : q ≡ 0 = omega arith in rw x (omega arith)
tally_up ws q (suc e) le =
    ⊎_elim
    (λ (l : e < q). let x : q ≡ suc e = omega arith in rw x (omega arith))
    (λ (l : q ≤ e). omega (arith, tally_suc ws e, tally_up ws q e l))
    (lt_or_ge e q)

-- a count that stays says that none is marked
tally_stays : (ws : List ℕ) (q e : ℕ) → tally ws e ≡ tally ws q → (p : ℕ) → q ≤ p → p < e → slot ws p ≡ 0
tally_stays ws q zero same p a l = absurd (omega arith)
tally_stays ws q (suc e) same p a l =
    ⊎_elim
    (λ (b : p < e). tally_stays ws q e (omega (arith, tally_suc ws e, tally_up ws q e (omega arith))) p a b)
    (λ (b : e ≤ p). let x : p ≡ e = omega arith in rw x (omega (arith, tally_suc ws e, tally_up ws q e (omega arith))))
    (lt_or_ge p e)

-- the slots of a word that is 0
word_clear : (free : List ℕ) (x p : ℕ) → get_or free x 0 ≡ 0 → 64 * x ≤ p → p < 64 * x + 64 → slot free p ≡ 0
word_clear free x p z a l =
    let e : 64 * x + (p - 64 * x) ≡ p = omega arith in
    ap (slot free) (sym e) ∙ slot_of free x (p - 64 * x) (omega arith) ∙ ap (λ (w : ℕ). bit w (p - 64 * x)) z ∙ bit_of_zero (p - 64 * x)

-- ---- where the pass stands

-- the next free number from q on is a bit of word i, which stands at work[k]
pub record Cursor (free : List ℕ) (list : ℕ) (work : List ℕ) (k q : ℕ) : Type 0 where
  pub i : ℕ
  pub lt : i < length free
  pub at : k ≡ place free list i
  pub number : get_or work (k + 1) 0 ≡ i
  pub is : get_or work k 0 ≢ 0
  pub fits : get_or work k 0 < 2 ^ 64
  pub same : (b : ℕ) → b < 64 → count_trailing_zeros 64 (get_or work k 0) ≤ b → bit (get_or work k 0) b ≡ slot free (64 * i + b)
  pub from : q ≤ 64 * i + count_trailing_zeros 64 (get_or work k 0)
  pub clear : (p : ℕ) → q ≤ p → p < 64 * i + count_trailing_zeros 64 (get_or work k 0) → slot free p ≡ 0
  pub behind : (x : ℕ) → i < x → x < length free → get_or free x 0 ≢ 0 → Entry free list x work

-- the numbers below q are done, and `left` of those from q on are free
pub record Standing (cost : ℕ → ℕ) (free : List ℕ) (list : ℕ) (work : List ℕ) (k left : ℕ) (best : Best) : Type 0 where
  pub q : ℕ
  pub le : q ≤ 64 * length free
  pub is : best ≡ best_from cost (is_free free) 0 nothing 0 q
  pub rest : left + tally free q ≡ tally free (64 * length free)
  pub next : left ≢ 0 → Cursor free list work k q

-- ---- the first listed word from word `from` on

module _ {free : List ℕ} {list : ℕ} {work : List ℕ} {k q from : ℕ} (words : Words free) (at : k ≡ place free list from) (before : q ≤ 64 * from)
    (clear : (p : ℕ) → q ≤ p → p < 64 * from → slot free p ≡ 0) (entries : (x : ℕ) → from ≤ x → x < length free → get_or free x 0 ≢ 0 → Entry free list x work) where
  enter_first : First free from (length free) → Cursor free list work k q
  enter_first f = record {
    i = f.x;
    lt = f.lt;
    at = here;
    number = ap (λ (x : ℕ). get_or work (x + 1) 0) here ∙ entry.number;
    is = λ z. f.is (sym word ∙ z);
    fits = rw word (words f.x);
    same = λ b h l. ap (λ (w : ℕ). bit w b) word ∙ sym (slot_of free f.x b h);
    from = omega (arith, before, f.ge);
    clear = λ p a l. zeros p a (rw word at l);
    behind = λ x a l h. entries x (omega (arith, f.ge)) l h;
  }
    where
      here : k ≡ place free list f.x
      here =
          let e : from + (f.x - from) ≡ f.x = omega (arith, f.ge) in
          let s : some_to free f.x ≡ some_to free from =
          ap (some_to free) (sym e) ∙ place_same free from (f.x - from) (λ i a l. f.before i a (omega arith)) in
          omega (arith, at, s)

      entry : Entry free list f.x work
      entry = entries f.x f.ge f.lt f.is

      word : get_or work k 0 ≡ get_or free f.x 0
      word = ap (λ (x : ℕ). get_or work x 0) here ∙ entry.word

      zeros : (p : ℕ) → q ≤ p → p < 64 * f.x + count_trailing_zeros 64 (get_or free f.x 0) → slot free p ≡ 0
      zeros p a l =
          ⊎_elim
          (λ (b : p < 64 * from). clear p a b)
          (λ (b : 64 * from ≤ p).
          ⊎_elim
          (λ (c : p < 64 * f.x). word_clear free (p / 64) p (f.before (p / 64) (omega arith) (omega arith)) (omega arith) (omega arith))
          (λ (c : 64 * f.x ≤ p).
          let e : 64 * f.x + (p - 64 * f.x) ≡ p = omega arith in
          ap (slot free) (sym e)
          ∙ slot_of free f.x (p - 64 * f.x) (omega (arith, trailing_le 64 (get_or free f.x 0)))
          ∙ tz_below 64 (get_or free f.x 0) (p - 64 * f.x) (omega arith))
          (lt_or_ge p (64 * f.x)))
          (lt_or_ge p (64 * from))

  enter : {left : ℕ} → from ≤ length free → left + tally free q ≡ tally free (64 * length free) → left ≢ 0 → Cursor free list work k q
  enter {left} le rest n = ⊎_elim (λ f. enter_first (rw e at f)) (λ z. absurd (n (omega (arith, rest, none_left z)))) (first_some free from (length free - from))
    where
      e : from + (length free - from) ≡ length free
      e = omega arith

      none_left : ((i : ℕ) → from ≤ i → i < from + (length free - from) → get_or free i 0 ≡ 0) → tally free (64 * length free) ≡ tally free q
      none_left z =
          tally_over free q (64 * length free) (omega arith) (λ p a l.
          ⊎_elim
          (λ (b : p < 64 * from). clear p a b)
          (λ (b : 64 * from ≤ p). word_clear free (p / 64) p (z (p / 64) (omega arith) (omega arith)) (omega arith) (omega arith))
          (lt_or_ge p (64 * from)))

-- ---- one bit more

module _ {free : List ℕ} {list : ℕ} {work : List ℕ} {k q : ℕ} (c : Cursor free list work k q) where
  abbrev Word : ℕ
  Word = get_or work k 0

  -- the next number
  abbrev Here : ℕ
  Here = 64 * c.i + count_trailing_zeros 64 Word

  abbrev Rest : ℕ
  Rest = bit_and Word (Word - 1)

  low : count_trailing_zeros 64 Word < 64
  low = tz_lt 64 Word c.fits c.is

  here_free : slot free Here ≡ 1
  here_free = sym (c.same (count_trailing_zeros 64 Word) low (omega arith)) ∙ tz_bit 64 Word low

  word_some : get_or free c.i 0 ≢ 0
  word_some z = absurd (omega (arith, here_free, word_clear free c.i Here z (omega arith) (omega (arith, low))))

  tally_here : tally free (suc Here) ≡ suc (tally free q)
  tally_here = omega (arith, tally_suc free Here, here_free, tally_over free q Here c.from c.clear)

  -- bits above the lowest one
  above : (b : ℕ) → b < 64 → count_trailing_zeros 64 Word < b → bit Rest b ≡ slot free (64 * c.i + b)
  above b h l = clear_other 64 Word b c.fits c.is (omega arith) ∙ c.same b h (omega arith)

  -- the words behind stay
  behind_kept : (x : ℕ) → c.i < x → x < length free → get_or free x 0 ≢ 0 → Entry free list x (set work k Rest)
  behind_kept x a l h =
      let e : suc (some_to free c.i) ≤ some_to free x = place_later free c.i x a word_some in
      entry_kept k Rest (omega (arith, c.at)) (omega (arith, c.at)) (c.behind x a l h)

  -- a word that has bits left
  stay : k < length work → Rest ≢ 0 → Cursor free list (set work k Rest) k (suc Here)
  stay room some_left = record {
    i = c.i;
    lt = c.lt;
    at = c.at;
    number = get_or-set_other work k (k + 1) Rest 0 (omega arith) ∙ c.number;
    is = λ z. some_left (sym stored ∙ z);
    fits = rw stored (clear_lt 64 Word c.fits);
    same = λ b h l. ap (λ (w : ℕ). bit w b) stored ∙ above b h (omega (arith, lowest_up Word c.fits c.is, ap (count_trailing_zeros 64) stored));
    from = omega (arith, lowest_up Word c.fits c.is, ap (count_trailing_zeros 64) stored);
    clear = λ p a l. between p a (rw stored at l);
    behind = behind_kept;
  }
    where
      stored : get_or (set work k Rest) k 0 ≡ Rest
      stored = get_or-set_same work k Rest 0 room

      between : (p : ℕ) → suc Here ≤ p → p < 64 * c.i + count_trailing_zeros 64 Rest → slot free p ≡ 0
      between p a l =
          let e : 64 * c.i + (p - 64 * c.i) ≡ p = omega arith in
          ap (slot free) (sym e)
          ∙ sym (above (p - 64 * c.i) (omega (arith, trailing_le 64 Rest)) (omega arith))
          ∙ tz_below 64 Rest (p - 64 * c.i) (omega arith)

  -- a word that is done
  leave : {left : ℕ} → Words free → Rest ≡ 0 → left + tally free (suc Here) ≡ tally free (64 * length free) → left ≢ 0 → Cursor free list (set work k Rest) (k + 2) (suc Here)
  leave words done rest n =
      enter {from = c.i + 1} words (omega (arith, c.at, some_more free c.i, some_one (get_or free c.i 0) word_some)) (omega (arith, low)) ended
      (λ x a l h. behind_kept x (omega arith) l h) (omega (arith, c.lt)) rest n
    where
      ended : (p : ℕ) → suc Here ≤ p → p < 64 * (c.i + 1) → slot free p ≡ 0
      ended p a l =
          let e : 64 * c.i + (p - 64 * c.i) ≡ p = omega arith in
          ap (slot free) (sym e)
          ∙ sym (above (p - 64 * c.i) (omega arith) (omega arith))
          ∙ ap (λ (w : ℕ). bit w (p - 64 * c.i)) done
          ∙ bit_of_zero (p - 64 * c.i)

  -- whichever it is, the code takes one step
  go_on : {left : ℕ} → Words free → k < length work → left + tally free (suc Here) ≡ tally free (64 * length free) → left ≢ 0 → Cursor free list (set work k Rest) (k + 2 * none Rest) (suc Here)
  go_on words room rest n =
      ⊎_elim
      (λ (done : Rest ≡ 0). let e : k + 2 ≡ k + 2 * none Rest = omega (arith, none_one Rest done) in rw e at (leave words done rest n))
      (λ (some_left : Rest ≢ 0). let e : k ≡ k + 2 * none Rest = omega (arith, none_zero Rest some_left) in carry e (stay room some_left))
      (same_or_not Rest 0)
    where
      carry : {k' : ℕ} → k ≡ k' → Cursor free list (set work k Rest) k (suc Here) → Cursor free list (set work k Rest) k' (suc Here)
      carry e x = subst (λ (y : ℕ). Cursor free list (set work k Rest) y (suc Here)) e x

-- ---- the loop

pub stand_start : (cost : ℕ → ℕ) (free : List ℕ) (list : ℕ) (work : List ℕ) {total : ℕ} → Words free → Listed free list (length free) work → total ≡ tally free (64 * length free)
    → Standing cost free list work list total nothing
stand_start cost free list work {total} words listed sum = record {
  q = 0;
  le = omega arith;
  is = sym (from_none cost (is_free free) 0 nothing 0);
  rest = rest;
  next = λ n. enter {from = 0} words (omega (arith, none_before free)) (omega arith) (λ p a l. absurd (omega arith)) (λ x a l h. listed x l h) (omega arith) rest n;
}
  where
    rest : total + tally free 0 ≡ tally free (64 * length free)
    rest = omega (arith, sum, tally_zero free)

module _ {cost : ℕ → ℕ} {free : List ℕ} {list : ℕ} {work : List ℕ} {k left : ℕ} {best : Best} (s : Standing cost free list work k left best) where
  pub stand_end : left ≡ 0 → best ≡ best_from cost (is_free free) 0 nothing 0 (64 * length free)
  stand_end z =
      s.is
      ∙ sym (from_skip cost (is_free free) 0 nothing 0 s.q (64 * length free) s.le (λ i a l.
      free_zero free (0 + i) (tally_stays free s.q (64 * length free) (omega (arith, s.rest)) (0 + i) (omega arith) (omega arith))))

  module _ (n : left ≢ 0) where
    pub here_some : get_or work k 0 ≢ 0
    here_some = (s.next n).is

    pub here_in : {size : ℕ} → list + 2 * length free ≤ size → (list ≤ k) × (k + 1 < size)
    here_in h = let c = s.next n in (omega (arith, c.at), omega (arith, c.at, c.lt, some_few free c.i))

    pub here_low : count_trailing_zeros 64 (get_or work k 0) < 64
    here_low = low (s.next n)

    pub here_lt : 64 * get_or work (k + 1) 0 + count_trailing_zeros 64 (get_or work k 0) < 64 * length free
    here_lt = omega (arith, (s.next n).number, (s.next n).lt, here_low)

    -- the next number priced
    here_best : {best' : Best} → best' ≡ better (cost (Here (s.next n))) 0 (Here (s.next n)) best → best' ≡ best_from cost (is_free free) 0 nothing 0 (suc (Here (s.next n)))
    here_best {best'} e =
        let c = s.next n in
        let z : 0 + Here c ≡ Here c = omega arith in
        e
        ∙ ap (better (cost (Here c)) 0 (Here c)) (s.is ∙ sym (from_skip cost (is_free free) 0 nothing 0 s.q (Here c) c.from (λ i a l. free_zero free (0 + i) (c.clear (0 + i) (omega arith) (omega arith)))))
        ∙ ap (λ (x : ℕ). better (cost x) 0 x (best_from cost (is_free free) 0 nothing 0 (Here c))) (sym z)
        ∙ sym (from_pass cost (is_free free) 0 nothing 0 (Here c) (free_one free (0 + Here c) (ap (slot free) z ∙ here_free c)))

    pub stand_on : {best' : Best} → Words free → k < length work
        → best' ≡ better (cost (64 * get_or work (k + 1) 0 + count_trailing_zeros 64 (get_or work k 0))) 0 (64 * get_or work (k + 1) 0 + count_trailing_zeros 64 (get_or work k 0)) best
        → Standing cost free list (set work k (bit_and (get_or work k 0) (get_or work k 0 - 1))) (k + 2 * none (bit_and (get_or work k 0) (get_or work k 0 - 1))) (left - 1) best'
    stand_on {best'} words room e = record {
      q = suc (Here (s.next n));
      le = omega (arith, (s.next n).lt, here_low);
      is = here_best (rw (s.next n).number at e);
      rest = rest;
      next = λ m. go_on (s.next n) words room rest m;
    }
      where
        rest : left - 1 + tally free (suc (Here (s.next n))) ≡ tally free (64 * length free)
        rest = omega (arith, s.rest, tally_here (s.next n))
