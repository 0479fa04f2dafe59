use Rattle.sb_term.proofs.Divisors.{gcd_positive}
use Rattle.sb_picture.proofs.tidying.cancelled_by.Goals as goal

pub quotient-times_above-requires-clause-positive : goal.quotient-times_above-requires-clause-positive
quotient-times_above-requires-clause-positive c = rw c.common_divisor-divisor.ensures (gcd_positive c.args.a c.args.b c.requires.positive)

pub quotient-times_below-requires-clause-positive : goal.quotient-times_below-requires-clause-positive
quotient-times_below-requires-clause-positive c = rw c.common_divisor-divisor.ensures (gcd_positive c.args.a c.args.b c.requires.positive)
