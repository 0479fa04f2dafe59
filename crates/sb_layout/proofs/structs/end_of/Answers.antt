use Rattle.std.proofs.Common.{arith}
use Rattle.sb_layout.proofs.Rounding.{member_ends}
use Rattle.sb_layout.proofs.structs.end_of.Goals as goal

pub returns-then-end-ge-LIMIT : goal.returns-then-end-ge-LIMIT
returns-then-end-ge-LIMIT c =
    let past = member_ends c.loop-b.end c.args.bases.now c.loop-b.b-index (record { size = 0; align = 0 }) c.requires.small (omega arith) in
    omega (arith, past, c.loop-b.invariant.0, c.rounded.ensures.gives)
