-- What passes through the bits of the machine stays as it is.
use Rattle.std.proofs.Common.{ap, Some, ◌+ℤ◌, ◌-ℤ◌}
use Rattle.sb_typing.proofs.Bits.{passes, product_passes, sum_fits, difference_fits}
use Rattle.sb_typing.proofs.folding.binary_value.Goals as goal

pub returns-in-Add-clause-gives : goal.returns-in-Add-clause-gives
returns-in-Add-clause-gives c =
    rw c.in-Add.is
    (ap Some (passes (λ a b. a +ℤ b) c.args.t c.args.a c.args.b c.wrapped.result c.ranges.a c.ranges.b
    (sum_fits c.args.a c.args.b c.requires.left c.requires.right) (record { sfits = c.wrapped.type_inv }) c.wrapped.ensures.gives))

pub returns-in-Sub-clause-gives : goal.returns-in-Sub-clause-gives
returns-in-Sub-clause-gives c =
    rw c.in-Sub.is
    (ap Some (passes (λ a b. a -ℤ b) c.args.t c.args.a c.args.b c.wrapped-in-Sub.result c.ranges.a c.ranges.b
    (difference_fits c.args.a c.args.b c.requires.left c.requires.right) (record { sfits = c.wrapped-in-Sub.type_inv }) c.wrapped-in-Sub.ensures.gives))

pub returns-in-Mul-clause-gives : goal.returns-in-Mul-clause-gives
returns-in-Mul-clause-gives c =
    rw c.in-Mul.is
    (ap Some (product_passes c.args.t c.args.a c.args.b c.wrapped-in-Mul.result c.ranges.a c.ranges.b (record { sfits = c.wrapped-in-Mul.type_inv }) c.wrapped-in-Mul.ensures.gives))
