use Rattle.rules.proofs.GeometryLaws.{len_pow, len_le_m}
use Rattle.std.proofs.Common.{ℕ, ◌^◌, sym, ap, ◌∙◌, arith}
use Rattle.geometry.proofs.settings.slice_len.Goals as goal

pub returns : goal.returns
returns c =
    let e = c.power_of_two.ensures.0 ∙ ap (λ (k : ℕ). 2 ^ k) c.log2_len.ensures.0 ∙ sym (len_pow c.args.s) in
    (e, c.power_of_two.ensures.1, omega (arith, e, len_le_m c.args.s c.requires.m_low), c.power_of_two.ensures.2)
