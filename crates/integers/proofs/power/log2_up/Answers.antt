-- 64 less the leading zeros of x - 1 is the length of x - 1 in bits, which is the least k with x ≤ 2 ^ k.
use Rattle.std.proofs.Common.{ℕ, ◌≡◌, ◌-◌, subst, sym, arith}
use Rattle.std.specs.Int.Count.{count_leading_zeros}
use Rattle.integers.specs.PowerLaws.{log_up_is, log_of_zeros}
use Rattle.integers.specs.Power.{log_up}
use Rattle.integers.proofs.power.log2_up.Goals as goal

pub returns : goal.returns
returns c =
    let x : ℕ = c.args.x in
    let is : 64 - count_leading_zeros 64 (x - 1) ≡ log_up x = log_up_is x (64 - count_leading_zeros 64 (x - 1)) (log_of_zeros x (omega arith)) in
    let at : ℕ → Type 0 = λ d. 64 - count_leading_zeros 64 d ≡ log_up x in
    let e : at c.saturating_sub.result = subst at (sym c.saturating_sub.ensures) is in
    (omega (arith, e), omega arith)
