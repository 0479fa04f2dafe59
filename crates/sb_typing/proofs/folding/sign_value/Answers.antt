-- What passes through the bits of the machine stays as it is.
use Rattle.sb_typing.proofs.Bits.{negative_passes}
use Rattle.sb_typing.proofs.folding.sign_value.Goals as goal

pub returns-in-Minus-clause-gives : goal.returns-in-Minus-clause-gives
returns-in-Minus-clause-gives c =
    rw c.in-Minus.is (negative_passes c.args.t c.args.a c.wrapped.result c.requires.operand (record { sfits = c.wrapped.type_inv }) c.wrapped.ensures.gives)
