use Rattle.std.proofs.Common.{arith, length, ◌≤◌}
use Rattle.std.proofs.lemmas.List.{take_all}
use Rattle.sb_layout.proofs.Knowing.{part_of_none}
use Rattle.sb_layout.proofs.order.nothing_known.Goals as goal

pub returns-clause-part : goal.returns-clause-part
returns-clause-part c =
    let done : length c.args.types.now ≤ c.loop-kind._kind-index = omega arith in
    rw (c.loop-kind.invariant, take_all c.loop-kind._kind-index c.args.types.now done) (part_of_none c.args.types.now)
