use Rattle.sb_term.proofs.Divisors.{gcd_positive, quotient_positive, IsGcd-gcd}
use Rattle.sb_term.proofs.divisor.cancelled.Goals as goal

pub nonzero_div-result : goal.nonzero_div-result
nonzero_div-result c = rw c.common_divisor-divisor.ensures (gcd_positive c.args.a c.args.b c.requires)

pub nonzero_div-result-2 : goal.nonzero_div-result-2
nonzero_div-result-2 c = rw c.common_divisor-divisor.ensures (gcd_positive c.args.a c.args.b c.requires)

pub returns-clause-some : goal.returns-clause-some
returns-clause-some c = rw c.common_divisor-divisor.ensures (quotient_positive _ c.args.b c.requires (IsGcd-gcd c.args.a c.args.b).1)
