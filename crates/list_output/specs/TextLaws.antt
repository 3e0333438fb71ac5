-- Fields and lines taken off the front of a text, one by one. Assumes nothing.
use Rattle.std.specs.Prelude.{Option, Some, None, ℕ, suc, ◌+◌, ◌-◌, ◌≤◌, ◌<◌, ◌≡◌, refl, List, [], ◌∷◌, ◌++◌, length, get_or, drop, set}
use Rattle.std.proofs.Common.{arith, add-one, sym, ◌∙◌, append_assoc, append-nil, drop_of_length-le, drop-cons}
use Rattle.std.proofs.Math.Path.{ap}
use Rattle.std.proofs.lemmas.List.Edits.{sets}
use Rattle.rules.specs.Lists.{count_from, concat_map}
use Rattle.list_output.specs.Text.{decimal, fields, line, refused_word, bucket_word, refused_text, bucket_line}
use Rattle.rules.specs.Answers.{named_by}
use Rattle.groups.specs.Groups.{size_in}
use Rattle.list_output.specs.Writing.{Writing, write_start, write_piece}

-- the fields from number i on
module _ (ns : List ℕ) (i : ℕ) where
  pub fields_number : i < length ns → fields (drop i ns) ≡ (32 ∷ decimal (get_or ns i 0)) ++ fields (drop (i + 1) ns)
  unfolding fields
  fields_number h = ap fields (drop-cons ns i 0 h) ∙ ap (λ (k : ℕ). 32 ∷ decimal (get_or ns i 0) ++ fields (drop k ns)) (sym (add-one i))

  pub fields_end : length ns ≤ i → fields (drop i ns) ≡ []
  unfolding fields
  fields_end h = ap fields (drop_of_length-le ns h)

-- the lines of a list from element i on
module _ (f : ℕ → List ℕ) (xs : List ℕ) (i : ℕ) where
  pub lines_element : i < length xs → concat_map f (drop i xs) ≡ f (get_or xs i 0) ++ concat_map f (drop (i + 1) xs)
  lines_element h = ap (concat_map f) (drop-cons xs i 0 h) ∙ ap (λ (k : ℕ). f (get_or xs i 0) ++ concat_map f (drop k xs)) (sym (add-one i))

  pub lines_end : length xs ≤ i → concat_map f (drop i xs) ≡ []
  lines_end h = ap (concat_map f) (drop_of_length-le xs h)

-- the lines of the numbers from b up to n
module _ (f : ℕ → List ℕ) (n b : ℕ) where
  pub lines_number : b < n → concat_map f (count_from b (n - b)) ≡ f b ++ concat_map f (count_from (b + 1) (n - (b + 1)))
  lines_number h =
      let e : n - b ≡ suc (n - (b + 1)) = omega arith in
      ap (λ (k : ℕ). concat_map f (count_from b k)) e ∙ ap (λ (k : ℕ). f b ++ concat_map f (count_from k (n - (b + 1)))) (sym (add-one b))

  pub lines_none : n ≤ b → concat_map f (count_from b (n - b)) ≡ []
  lines_none h =
      let e : n - b ≡ 0 = omega arith in
      ap (λ (k : ℕ). concat_map f (count_from b k)) e

-- a line written: the word, then the fields, then the newline
pub line_written : (out : List ℕ) (at : ℕ) (word ns a b : List ℕ) (p q : ℕ) → p ≡ at + length word → a ≡ sets out at word → q ≡ p + length (fields ns) → b ≡ sets a p (fields ns)
    → Writing out at (line word ns) (set b q 10) (q + 1) []
unfolding line
line_written out at word ns a b p q e f g h =
    let first = write_piece (write_start out at (word ++ fields ns ++ 10 ∷ [])) word (fields ns ++ 10 ∷ []) a p (append_assoc word (fields ns) (10 ∷ [])) f e in
    let second = write_piece first (fields ns) (10 ∷ []) b q refl h g in
    write_piece second (10 ∷ []) [] (set b q 10) (q + 1) refl refl refl

-- the line of a bucket from its keys and its seed
pub bucket_line_is : (begins seeds : List ℕ) (b keys seed : ℕ) → keys ≡ size_in begins b → seed ≡ get_or seeds b 0 → line bucket_word (b ∷ keys ∷ seed ∷ []) ≡ bucket_line begins seeds b
unfolding bucket_line
bucket_line_is begins seeds b keys seed e f = ap (λ (k : ℕ). line bucket_word (b ∷ k ∷ seed ∷ [])) e ∙ ap (λ (v : ℕ). line bucket_word (b ∷ size_in begins b ∷ v ∷ [])) f

-- three texts written one after the other, from the start
pub three_written : (out s b h a d e : List ℕ) (p q r : ℕ) → p ≡ length s → a ≡ sets out 0 s → q ≡ p + length b → d ≡ sets a p b → r ≡ q + length h → e ≡ sets d q h
    → Writing out 0 (s ++ b ++ h) e r []
three_written out s b h a d e p q r ep ea eq ed er ee =
    let first = write_piece (write_start out 0 (s ++ b ++ h)) s (b ++ h) a p (append_assoc s b h) ea (omega arith) in
    let second = write_piece first b h d q refl ed eq in
    write_piece second h [] e r (sym (append-nil h)) ee er

-- a refusal that names a bucket, and one that names none
module _ (number n : ℕ) (same : number ≡ n) where
  pub refused_bucket : (b : ℕ) (named : Option ℕ) → named ≡ Some b → line refused_word (number ∷ b ∷ []) ≡ refused_text n (named_by named)
  unfolding refused_text named_by
  refused_bucket b named e = rw (e, same) refl

  pub refused_plain : (named : Option ℕ) → named ≡ None → line refused_word (number ∷ []) ≡ refused_text n (named_by named)
  unfolding refused_text named_by
  refused_plain named e = rw (e, same) refl
