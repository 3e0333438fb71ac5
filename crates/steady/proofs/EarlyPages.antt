-- Early pages stay put, said of the answers of the public call: what stands in bucket b has no say about the seeds of the buckets below b - 255. For
-- every rule for ties, in one chunk, bucket b empty or not in either input. Assumes nothing.
use mathlib.Core.Path.{◌≡◌, refl, sym, ap, ◌∙◌, subst}
use mathlib.Core.Logic.{◌⊎◌, inl, inr}
use mathlib.Core.Bool.{true, not}
use mathlib.Core.List.{List, []}
use mathlib.Core.Option.{none}
use Prim.Native.Nat.{ℕ, ◌+◌, ◌-◌, ◌<◌, ◌≤◌, min}
use native.Mathlib.Omega.{arith}
use lib.Dec.{T, ltb, ltb→lt, nltb→le}
use lib.ListN.{length, get_or, take, length-take, get_or-eq_default}
use lib.Seq.{ext_get_or, get_or-take}
use Rattle.rules.specs.declared.Settings.{Settings}
use Rattle.rules.specs.declared.How.{How}
use Rattle.rules.specs.Lists.{count}
use Rattle.rules.specs.Geometry.{bucket_of}
use Rattle.rules.specs.Order.{Input, Tie, size_of, keys_of, order}
use Rattle.rules.specs.Chunks.{chunk_count, in_one}
use Rattle.rules.specs.Sweep.{final_seeds}
use Rattle.rules.specs.Holes.{looked_up}
use Rattle.rules.specs.Numbers.{Lent}
use Rattle.rules.specs.Answers.{lookup_answer, sweep_turns, stops_at, sweep_number, sweep_seeds}
use Rattle.rules.specs.Good.{Grouped}
use Rattle.rules.proofs.Tests.{split}
use Rattle.rules.proofs.Sums.{Same, same_length}
use Rattle.rules.proofs.GroupLaws.{keys_length}
use Rattle.rules.proofs.InputLaws.{passes}
use Rattle.rules.proofs.SweepLaws.{seeds_at, seeds_length}
use Rattle.rules.proofs.ChunkLaws.{count_one}
use Rattle.rules.proofs.Theorems.{one_chunk}
use Rattle.rules.proofs.AnswerLaws.{sweep_done, stops_allowed}
use Rattle.steady.specs.Alike.{DifferIn, AlikeBelow, regrouped}
use Rattle.steady.proofs.EarlyLaws.{order_begun, seeds_begun}

-- equal settings, weights and table: the one input is the other with its groups exchanged
regroup_is : (i j : Input) → i.settings ≡ j.settings → i.weights ≡ j.weights → i.table ≡ j.table → regrouped i j.hashes j.begins ≡ j
regroup_is i j s w t = rw (s, w, t) refl

-- past the last bucket there are no keys
size_past : (i : Input) → Grouped i → (c : ℕ) → i.settings.buckets ≤ c → size_of i c ≡ 0
unfolding size_of
size_past i G c h = let k : length i.begins ≤ c + 1 = omega (arith, G.long) in rw (get_or-eq_default i.begins 0 k) (omega arith)

keys_past : (i : Input) → Grouped i → (c : ℕ) → i.settings.buckets ≤ c → keys_of i c ≡ []
unfolding keys_of
keys_past i G c h = rw (size_past i G c h) refl

module _ (i : Input) (hashes begins : List ℕ) (G : Grouped i) (G' : Grouped (regrouped i hashes begins)) (b : ℕ)
    (keys : (c : ℕ) → c < i.settings.buckets → c < b → Same (keys_of i c) (keys_of (regrouped i hashes begins) c)) where
  abbrev j : Input
  j = regrouped i hashes begins

  keys_below : (c : ℕ) → c < b → Same (keys_of i c) (keys_of j c)
  keys_below c l = go (split (ltb c i.settings.buckets))
    where
      go : T (ltb c i.settings.buckets) ⊎ T (not (ltb c i.settings.buckets)) → Same (keys_of i c) (keys_of j c)
      go (inl t) = keys c (ltb→lt c i.settings.buckets t) l
      go (inr n) = let k = nltb→le c i.settings.buckets n in rw (keys_past i G c k, keys_past j G' c k) (λ x. refl)

  sizes_below : (c : ℕ) → c < b → size_of i c ≡ size_of j c
  sizes_below c l = go (split (ltb c i.settings.buckets))
    where
      go : T (ltb c i.settings.buckets) ⊎ T (not (ltb c i.settings.buckets)) → size_of i c ≡ size_of j c
      go (inl t) =
          let k = ltb→lt c i.settings.buckets t in
          sym (keys_length i G c k) ∙ same_length (keys_of i c) (keys_of j c) (keys c k l) ∙ keys_length j G' c k
      go (inr n) = let k = nltb→le c i.settings.buckets n in size_past i G c k ∙ sym (size_past j G' c k)

  early_final : (tie : Tie) (c : ℕ) → chunk_count i.settings c ≡ 1 → (x : ℕ) → x + 255 < b → get_or (final_seeds i (sweep_turns tie c i)) x 0 ≡ get_or (final_seeds j (sweep_turns tie c j)) x 0
  early_final tie c e x l =
      ap (λ (ord : List ℕ). get_or (final_seeds i ord) x 0) (one_chunk tie c i e) ∙ go (split (ltb x B))
      ∙ sym (ap (λ (ord : List ℕ). get_or (final_seeds j ord) x 0) (one_chunk tie c j e))
    where
      B : ℕ
      B = i.settings.buckets

      one : List ℕ
      one = order tie i 0 B

      other : List ℕ
      other = order tie j 0 B

      go : T (ltb x B) ⊎ T (not (ltb x B)) → get_or (final_seeds i one) x 0 ≡ get_or (final_seeds j other) x 0
      go (inl t) =
          seeds_at i one x (ltb→lt x B t)
          ∙ seeds_begun i hashes begins b keys_below one other (order_begun tie i hashes begins b sizes_below 0 B) x l
          ∙ sym (seeds_at j other x (ltb→lt x B t))
      go (inr n) =
          let k = nltb→le x B n in
          let u : length (final_seeds i one) ≤ x = omega (arith, seeds_length i one) in
          let v : length (final_seeds j other) ≤ x = omega (arith, seeds_length j other) in
          get_or-eq_default (final_seeds i one) 0 u ∙ sym (get_or-eq_default (final_seeds j other) 0 v)

pub differ_below : (b : ℕ) (i j : Input) → DifferIn b i j → AlikeBelow b i j
differ_below b i j D = record {
  settings_same = D.settings_same;
  weights_same = D.weights_same;
  table_same = D.table_same;
  keys_same = λ c h l x. ap (count x) (D.keys_same c h (omega arith));
}

-- two sweeps that were not refused and did not stop
pub early_done : (tie : Tie) (how : How) (i j : Input) → chunk_count i.settings how.chunks ≡ 1 → (lent lent' : Lent) (b : ℕ) → AlikeBelow b i j → sweep_number how i lent ≡ 0 → sweep_number how j lent' ≡ 0
    → stops_at tie how i ≡ none → stops_at tie how j ≡ none
    → (seeds seeds' : List ℕ) (x : ℕ) → x + 255 < b → get_or (sweep_seeds tie how i lent seeds) x 0 ≡ get_or (sweep_seeds tie how j lent' seeds') x 0
unfolding sweep_number
early_done tie how i j one lent lent' b A fine fine' done done' seeds seeds' x l =
    ap (λ (s : List ℕ). get_or s x 0) (sweep_done tie how i lent seeds [] [] fine done).seeds_are
    ∙ subst (λ (k : Input). Grouped k → ((c : ℕ) → c < i.settings.buckets → c < b → Same (keys_of i c) (keys_of k c)) → get_or (final_seeds i (sweep_turns tie how.chunks i)) x 0 ≡ get_or (final_seeds k (sweep_turns tie how.chunks k)) x 0)
    (regroup_is i j A.settings_same A.weights_same A.table_same)
    (λ G' keys. early_final i j.hashes j.begins (passes i how lent fine).sound.grouped G' b keys tie how.chunks one x l)
    (passes j how lent' fine').sound.grouped A.keys_same
    ∙ sym (ap (λ (s : List ℕ). get_or s x 0) (sweep_done tie how j lent' seeds' [] [] fine' done').seeds_are)

-- two bumping one_chunk sweeps, both accepted, whose groups differ only in bucket b: all buckets numbered below b - 255 get the same seeds
pub early_pages : (tie : Tie) (i j : Input) (lent lent' : Lent) (b : ℕ) → DifferIn b i j → sweep_number (in_one true) i lent ≡ 0 → sweep_number (in_one true) j lent' ≡ 0
    → (seeds seeds' : List ℕ) (x : ℕ) → x + 255 < b → get_or (sweep_seeds tie (in_one true) i lent seeds) x 0 ≡ get_or (sweep_seeds tie (in_one true) j lent' seeds') x 0
early_pages tie i j lent lent' b D fine fine' =
    early_done tie (in_one true) i j (count_one i.settings) lent lent' b (differ_below b i j D) fine fine' (stops_allowed tie (in_one true) i refl) (stops_allowed tie (in_one true) j refl)

-- a lookup reads the seed of the hash's bucket and no other
pub lookup_same : (s : Settings) (xs ys : List ℕ) (h : ℕ) → length xs ≡ length ys → get_or xs (bucket_of s h) 0 ≡ get_or ys (bucket_of s h) 0 → lookup_answer s xs h ≡ lookup_answer s ys h
unfolding lookup_answer looked_up
lookup_same s xs ys h e v = rw (e, v) refl

pub seeds_long : (tie : Tie) (i : Input) (lent : Lent) (seeds : List ℕ) → sweep_number (in_one true) i lent ≡ 0 → length (sweep_seeds tie (in_one true) i lent seeds) ≡ i.settings.buckets
seeds_long tie i lent seeds fine = ap length (sweep_done tie (in_one true) i lent seeds [] [] fine (stops_allowed tie (in_one true) i refl)).seeds_are ∙ seeds_length i (sweep_turns tie 1 i)

module _ (tie : Tie) (i j : Input) (lent lent' : Lent) (b : ℕ) (D : DifferIn b i j) (fine : sweep_number (in_one true) i lent ≡ 0) (fine' : sweep_number (in_one true) j lent' ≡ 0) (seeds seeds' : List ℕ) where
  as_long : length (sweep_seeds tie (in_one true) i lent seeds) ≡ length (sweep_seeds tie (in_one true) j lent' seeds')
  as_long = seeds_long tie i lent seeds fine ∙ ap (λ (s : Settings). s.buckets) D.settings_same ∙ sym (seeds_long tie j lent' seeds' fine')

  -- as one equation: the first b - 255 seeds
  pub early_part : take (b - 255) (sweep_seeds tie (in_one true) i lent seeds) ≡ take (b - 255) (sweep_seeds tie (in_one true) j lent' seeds')
  early_part = ext_get_or 0 (take n one) (take n other) (length-take n one ∙ ap (min n) as_long ∙ sym (length-take n other)) (λ x l. at x (omega (arith, length-take n one)))
    where
      n : ℕ
      n = b - 255

      one : List ℕ
      one = sweep_seeds tie (in_one true) i lent seeds

      other : List ℕ
      other = sweep_seeds tie (in_one true) j lent' seeds'

      at : (x : ℕ) → x < n → get_or (take n one) x 0 ≡ get_or (take n other) x 0
      at x l = get_or-take n one x 0 l ∙ early_pages tie i j lent lent' b D fine fine' seeds seeds' x (omega arith) ∙ sym (get_or-take n other x 0 l)

  -- so every hash of those buckets is found where it was
  pub early_lookup : (h : ℕ) → bucket_of i.settings h + 255 < b → lookup_answer i.settings (sweep_seeds tie (in_one true) i lent seeds) h ≡ lookup_answer j.settings (sweep_seeds tie (in_one true) j lent' seeds') h
  early_lookup h l =
      lookup_same i.settings (sweep_seeds tie (in_one true) i lent seeds) (sweep_seeds tie (in_one true) j lent' seeds') h as_long (early_pages tie i j lent lent' b D fine fine' seeds seeds' (bucket_of i.settings h) l)
      ∙ ap (λ (s : Settings). lookup_answer s (sweep_seeds tie (in_one true) j lent' seeds') h) D.settings_same
