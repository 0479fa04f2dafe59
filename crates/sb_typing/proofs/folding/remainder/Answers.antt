-- What passes through the bits of the machine stays as it is.
use Rattle.std.proofs.Common.{ap, Some}
use Rattle.sb_typing.proofs.Bits.{remainder_passes, not_zero}
use Rattle.sb_typing.proofs.folding.remainder.Goals as goal

pub returns-else-b-eq0-clause-gives : goal.returns-else-b-eq0-clause-gives
returns-else-b-eq0-clause-gives c =
    rw (not_zero c.args.b c.if-b-eq0.false)
    (ap Some (remainder_passes c.args.t c.args.a c.args.b c.wrapped.result c.requires.left c.ranges.b (record { sfits = c.wrapped.type_inv }) c.wrapped.ensures.gives))
