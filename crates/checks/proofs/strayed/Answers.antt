use Rattle.std.proofs.Common.{◌≡◌, ◌∙◌, ℕ, List, true, false, not, sym, ap, arith}
use Rattle.rules.specs.declared.Settings.{Settings}
use Rattle.checks.specs.Homes.{all_in}
use Rattle.checks.proofs.Every.{every_each, every_fails, fails}
use Rattle.checks.proofs.Stray.{home_at, strayed_by}
use Rattle.checks.proofs.strayed.Goals as goal

home : (s : Settings) (b : ℕ) (keys part : List ℕ) → keys ≡ part → all_in s part b ≡ all_in s keys b
home s b keys part e = ap (λ ks. all_in s ks b) (sym e)

pub returns-then-strays : goal.returns-then-strays
returns-then-strays c =
    let a = c.args in
    strayed_by a.g.settings a.hashes.now a.begins.now a.buckets true
    (ap not (sym (every_fails (home_at a.g.settings a.hashes.now a.begins.now) a.buckets c.loop-b.b (omega arith) (home _ _ _ _ c.keys_of.ensures ∙ fails _ c.if-strays.ensures))))

pub returns : goal.returns
returns c =
    let a = c.args in
    strayed_by a.g.settings a.hashes.now a.begins.now a.buckets false
    (ap not (sym (every_each (home_at a.g.settings a.hashes.now a.begins.now) a.buckets (λ b l. c.loop-b.invariant b (omega arith)))))
