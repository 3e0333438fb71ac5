-- A power of two that is at least x, and whose half is below x, is the least one.
use Rattle.std.proofs.Common.{ℕ, ◌≡◌, ◌≤◌, ◌<◌, ◌/◌, ◌^◌, max, ap, ◌∙◌, arith, pow_pos}
use Rattle.integers.specs.PowerLaws.{log_up_is}
use Rattle.integers.specs.Power.{least_power}
use Rattle.integers.proofs.power.next_power_of_two.Goals as goal

least_is : (x p k : ℕ) → p ≡ 2 ^ k → x ≤ p → p / 2 < max 1 x → p ≡ least_power x
unfolding least_power
least_is x p k e lo hi = e ∙ ap (λ n. 2 ^ n) (log_up_is x k (record { above = omega arith; tight = omega arith }))

pub returns : goal.returns
returns c =
    let e = c.next_power_of_two.ensures in
    (least_is c.args.x c.next_power_of_two.result e.power.0 e.power.1 e.lower_bound e.upper_bound, omega (arith, pow_pos e.power.0), omega arith, omega arith)
