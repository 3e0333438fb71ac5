-- The form that is followed number by number ends well exactly where the numbers are well formed: the thirteen numbers of the head are followed
-- one by one, and after them a step of the form is a step of `grouped`. Assumes nothing.
use Rattle.std.specs.Prelude.{Some, None, ℕ, suc, ◌-◌, ◌≡◌, Bool, true, false, cond, ◌&&◌, List, [], ◌∷◌, leb, ltb, length, get_or, drop}
use Rattle.std.proofs.Common.{arith, sym, ◌∙◌, le-leb}
use Rattle.std.proofs.Math.Path.{refl}
use Rattle.std.proofs.Math.Bool.{and-false}
use Rattle.list_input.specs.declared.Form.TheVariants.{Head, Groups}
use Rattle.list_input.specs.Form.{grouped, well_formed}
use Rattle.list_input.specs.Scan.{form_start, flag_fits, head_step, body_step, form_step, form_then, form_ends, form_after}

-- an error stays
pub after_error : (ns : List ℕ) → form_after None ns ≡ None
unfolding form_after form_then
after_error [] = refl
after_error (v ∷ ns) = after_error ns

error_ends : (ns : List ℕ) → form_ends (form_after None ns) ≡ false
unfolding form_ends
error_ends ns = rw (after_error ns) refl

-- after the head the form ends well after these numbers just where they are the groups still to come
groups_end : (ns : List ℕ) (keys buckets : ℕ) → form_ends (form_after (Some (Groups keys buckets)) ns) ≡ grouped keys buckets ns
unfolding form_after form_then form_step body_step form_ends grouped
groups_end [] keys buckets = refl
groups_end (v ∷ ns) keys buckets = go (ltb 0 keys) (ltb 0 buckets) (groups_end ns (keys - 1) buckets) (groups_end ns v (buckets - 1))
  where
    go : (a b : Bool)
        → form_ends (form_after (Some (Groups (keys - 1) buckets)) ns) ≡ grouped (keys - 1) buckets ns
        → form_ends (form_after (Some (Groups v (buckets - 1))) ns) ≡ grouped v (buckets - 1) ns
        → form_ends (form_after (cond a (Some (Groups (keys - 1) buckets)) (cond b (Some (Groups v (buckets - 1))) None)) ns)
        ≡ cond a (grouped (keys - 1) buckets ns) (cond b (grouped v (buckets - 1) ns) false)
    go true b e f = e
    go false true e f = f
    go false false e f = error_ends ns

long : (n : ℕ) → leb 13 (suc (suc (suc (suc (suc (suc (suc (suc (suc (suc (suc (suc (suc n))))))))))))) ≡ true
long n = le-leb 13 (suc (suc (suc (suc (suc (suc (suc (suc (suc (suc (suc (suc (suc n))))))))))))) (omega arith)

-- after the bump flag: the head computes, whether it is short or not
flag_ends : (t : Bool) (ns : List ℕ)
    → form_ends (form_after (cond t (Some (Head 5)) None) ns)
    ≡ (leb 13 (suc (suc (suc (suc (suc (length ns)))))) && (t && grouped 0 (get_or ns 7 0) (drop 8 ns)))
unfolding form_after form_then form_step head_step flag_fits form_ends
flag_ends false ns = error_ends ns ∙ sym (and-false (leb 13 (suc (suc (suc (suc (suc (length ns))))))))
flag_ends true [] = refl
flag_ends true (f ∷ []) = refl
flag_ends true (f ∷ g ∷ []) = refl
flag_ends true (f ∷ g ∷ h ∷ []) = refl
flag_ends true (f ∷ g ∷ h ∷ i ∷ []) = refl
flag_ends true (f ∷ g ∷ h ∷ i ∷ j ∷ []) = refl
flag_ends true (f ∷ g ∷ h ∷ i ∷ j ∷ k ∷ []) = refl
flag_ends true (f ∷ g ∷ h ∷ i ∷ j ∷ k ∷ l ∷ []) = refl
flag_ends true (f ∷ g ∷ h ∷ i ∷ j ∷ k ∷ l ∷ m ∷ ns) = groups_end ns 0 m ∙ (rw (long (length ns)) refl)

-- the whole
pub form_ends_lem : (ns : List ℕ) → form_ends (form_after form_start ns) ≡ well_formed ns
unfolding form_after form_then form_step head_step flag_fits form_ends well_formed
form_ends_lem [] = refl
form_ends_lem (a ∷ []) = refl
form_ends_lem (a ∷ b ∷ []) = refl
form_ends_lem (a ∷ b ∷ c ∷ []) = refl
form_ends_lem (a ∷ b ∷ c ∷ d ∷ []) = refl
form_ends_lem (a ∷ b ∷ c ∷ d ∷ e ∷ ns) = flag_ends (leb e 1) ns
