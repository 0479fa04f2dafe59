use Rattle.std.proofs.Common.{sym, ◌∙◌, arith}
use Rattle.sb_term.proofs.Divisors.{gcd-step}
use Rattle.sb_term.proofs.divisor.+common_divisor.Goals as goal

pub returns-else-b-eq0 : goal.returns-else-b-eq0
returns-else-b-eq0 t c = c.common_divisor.ensures ∙ sym (gcd-step c.args.a c.args.b (omega arith))
