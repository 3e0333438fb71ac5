-- The two ends of `seed_of`. Assumes nothing.
use Rattle.std.specs.Prelude.{◌≡◌, ◌≢◌, ℕ, ◌+◌, ◌*◌}
use Rattle.std.proofs.Common.{sym, arith}
use Rattle.std.proofs.Math.Dec.{not_T}
use Rattle.rules.specs.Seed.{is_first}
use Rattle.rules.proofs.CandidateLaws.{is_first_lem, first_is, seed_first, seed_other}
use Rattle.search.specs.Settle.{SeedIs}

pub seed_whole : (n layouts r j : ℕ) → r + j ≡ 0 → SeedIs n layouts r j (n * layouts)
seed_whole n layouts r j e i en el = rw (← en, ← el) (sym (seed_first i (record { r = r; j = j }) (first_is (record { r = r; j = j }) (omega arith) (omega arith))))

pub seed_part : (n layouts r j : ℕ) → r + j ≢ 0 → SeedIs n layouts r j (j * layouts + r)
seed_part n layouts r j e i en el =
    rw (← el) (sym (seed_other i (record { r = r; j = j }) (not_T (is_first (record { r = r; j = j })) (λ t.
    let f = is_first_lem (record { r = r; j = j }) t in
    e (omega (arith, f.0, f.1))))))
