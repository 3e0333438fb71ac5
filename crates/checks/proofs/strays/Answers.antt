use Rattle.std.proofs.Common.{eqb, not, sym, ap, arith}
use Rattle.rules.specs.Geometry.{bucket_of}
use Rattle.checks.proofs.Every.{every_list}
use Rattle.checks.proofs.strays.Goals as goal

pub returns : goal.returns
returns c = ap not (sym (every_list (λ h. eqb (bucket_of c.args.g.settings h) c.args.b) 0 c.args.keys.now (λ k l. c.loop-h.invariant k (omega arith))))
