use Rattle.std.proofs.Common.{arith}
use Rattle.sb_layout.proofs.Knowing.{whole_part}
use Rattle.sb_layout.proofs.order.known_bases.Goals as goal

pub returns-clause-gives : goal.returns-clause-gives
returns-clause-gives c = whole_part c.args.types.now c.loop-root.known.items c.loop-root.invariant.0 (λ t within. c.loop-root.invariant.1 t (omega arith))
