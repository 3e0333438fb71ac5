-- The one pass that takes the groups apart. At each number, what is stored so far and what the numbers from there on would add is all
-- that there is to store. Assumes nothing.
use Rattle.std.specs.Prelude.{ℕ, suc, ◌+◌, ◌-◌, ◌≤◌, ◌<◌, ◌≡◌, true, false, List, [], ◌∷◌, length, get_or, drop, set}
use Rattle.std.proofs.Common.{arith, add-one, sym, ap, ◌∙◌, drop_of_length-le, drop-cons, lt-ltb, le-ltb}
use Rattle.std.proofs.Math.Path.{refl}
use Rattle.std.proofs.lemmas.List.Edits.{sets}
use Rattle.list_input.specs.Form.{well_formed}
use Rattle.list_input.specs.Asked.{hashes_in, begins_in, hashes_of, begins_of, over_size}
use Rattle.list_input.specs.AskedLaws.{keys_most, begins_most, hashes_hash, begins_hash, hashes_count, begins_count}

-- before the number at i: h hashes and b beginnings are stored, and so many hashes of the present bucket are still to come
pub record Splitting (ns hashes₀ begins₀ hashes begins : List ℕ) (h b keys i : ℕ) : Type 0 where
  pub hashed : sets hashes h (hashes_in keys (drop i ns)) ≡ sets hashes₀ 0 (hashes_of ns)
  pub begun : sets begins b (begins_in h keys (drop i ns)) ≡ sets begins₀ 0 (begins_of ns)
  pub few : h + length (hashes_in keys (drop i ns)) ≡ length (hashes_of ns)
  pub short : b + length (begins_in h keys (drop i ns)) ≡ length (begins_of ns)
  pub most : length (hashes_of ns) ≤ 128
  pub room : length (begins_of ns) ≤ 65

pub split_start : (ns hashes begins : List ℕ) → well_formed ns ≡ true → over_size ns ≡ false → Splitting ns hashes begins hashes begins 0 0 0 13
unfolding hashes_of begins_of
split_start ns hashes begins w o =
    record { hashed = refl; begun = refl; few = omega arith; short = omega arith; most = keys_most ns w o; room = begins_most ns w o }

module _ {ns hashes₀ begins₀ hashes begins : List ℕ} {h b keys i : ℕ} (s : Splitting ns hashes₀ begins₀ hashes begins h b keys i) where
  pub hashes_most : h ≤ 128
  hashes_most = omega (arith, s.few, s.most)

  -- a hash
  module _ (inside : i < length ns) (some : 0 < keys) where
    hashes_here : hashes_in keys (drop i ns) ≡ get_or ns i 0 ∷ hashes_in (keys - 1) (drop (i + 1) ns)
    hashes_here = rw (drop-cons ns i 0 inside) (rw add-one (hashes_hash keys (get_or ns i 0) (drop (suc i) ns) (lt-ltb 0 keys some)))

    begins_here : begins_in h keys (drop i ns) ≡ begins_in (h + 1) (keys - 1) (drop (i + 1) ns)
    begins_here =
        ap (begins_in h keys) (drop-cons ns i 0 inside)
        ∙ begins_hash h keys (get_or ns i 0) (drop (suc i) ns) (lt-ltb 0 keys some)
        ∙ ap (λ (k : ℕ). begins_in (h + 1) (keys - 1) (drop k ns)) (sym (add-one i))

    pub hash_room : h < 128
    hash_room = omega (arith, s.few, s.most, ap length hashes_here)

    pub split_hash : Splitting ns hashes₀ begins₀ (set hashes h (get_or ns i 0)) begins (h + 1) b (keys - 1) (i + 1)
    split_hash =
        record {
          hashed = ap (λ (k : ℕ). sets (set hashes h (get_or ns i 0)) k (hashes_in (keys - 1) (drop (i + 1) ns))) (add-one h) ∙ sym (ap (sets hashes h) hashes_here) ∙ s.hashed;
          begun = sym (ap (sets begins b) begins_here) ∙ s.begun;
          few = omega (arith, s.few, ap length hashes_here);
          short = omega (arith, s.short, ap length begins_here);
          most = s.most;
          room = s.room;
        }

  -- a key count
  module _ (inside : i < length ns) (none : keys ≤ 0) where
    hashes_next : hashes_in keys (drop i ns) ≡ hashes_in (get_or ns i 0) (drop (i + 1) ns)
    hashes_next =
        ap (hashes_in keys) (drop-cons ns i 0 inside)
        ∙ hashes_count keys (get_or ns i 0) (drop (suc i) ns) (le-ltb 0 keys none)
        ∙ ap (λ (k : ℕ). hashes_in (get_or ns i 0) (drop k ns)) (sym (add-one i))

    begins_next : begins_in h keys (drop i ns) ≡ h ∷ begins_in h (get_or ns i 0) (drop (i + 1) ns)
    begins_next =
        ap (begins_in h keys) (drop-cons ns i 0 inside)
        ∙ begins_count h keys (get_or ns i 0) (drop (suc i) ns) (le-ltb 0 keys none)
        ∙ ap (λ (k : ℕ). h ∷ begins_in h (get_or ns i 0) (drop k ns)) (sym (add-one i))

    pub begin_room : b < 65
    begin_room = omega (arith, s.short, s.room, ap length begins_next)

    pub split_count : Splitting ns hashes₀ begins₀ hashes (set begins b h) h (b + 1) (get_or ns i 0) (i + 1)
    split_count =
        record {
          hashed = sym (ap (sets hashes h) hashes_next) ∙ s.hashed;
          begun = ap (λ (k : ℕ). sets (set begins b h) k (begins_in h (get_or ns i 0) (drop (i + 1) ns))) (add-one b) ∙ sym (ap (sets begins b) begins_next) ∙ s.begun;
          few = omega (arith, s.few, ap length hashes_next);
          short = omega (arith, s.short, ap length begins_next);
          most = s.most;
          room = s.room;
        }

  -- the end
  module _ (past : length ns ≤ i) where
    hashes_last : hashes_in keys (drop i ns) ≡ []
    unfolding hashes_in
    hashes_last = rw (drop_of_length-le ns past) refl

    begins_last : begins_in h keys (drop i ns) ≡ h ∷ []
    unfolding begins_in
    begins_last = rw (drop_of_length-le ns past) refl

    pub last_room : b < 65
    last_room = omega (arith, s.short, s.room, ap length begins_last)

    pub split_hashes : hashes ≡ sets hashes₀ 0 (hashes_of ns)
    split_hashes = sym (ap (sets hashes h) hashes_last) ∙ s.hashed

    pub split_begins : set begins b h ≡ sets begins₀ 0 (begins_of ns)
    split_begins = sym (ap (sets begins b) begins_last) ∙ s.begun

    pub split_keys : h ≡ length (hashes_of ns)
    split_keys = omega (arith, s.few, ap length hashes_last)
