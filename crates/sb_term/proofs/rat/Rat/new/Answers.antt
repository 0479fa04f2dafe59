use Rattle.std.proofs.Common.{◌<◌, arith}
use Rattle.sb_term.proofs.Divisors.{gcd-reduced}
use Rattle.sb_term.proofs.rat.Rat.new.Goals as goal

pub limited-requires-clause-lowest : goal.limited-requires-clause-lowest
limited-requires-clause-lowest c =
    let some : 0 < c.unsigned_abs-2.result = omega (arith, c.cancelled-top.ensures.some, c.cancelled-top.ensures.right_fits) in
    rw (c.cancelled-top.ensures.left, c.cancelled-top.ensures.right) (gcd-reduced c.unsigned_abs.result c.unsigned_abs-2.result some)
