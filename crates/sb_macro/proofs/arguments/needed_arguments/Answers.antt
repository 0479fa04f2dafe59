use Rattle.std.proofs.Common.{◌≡◌, [], append-nil, arith}
use Rattle.sb_macro.proofs.Splitting.{needed_none}
use Rattle.sb_macro.proofs.arguments.needed_arguments.Goals as goal

pub returns-in_default : goal.returns-in_default
returns-in_default c =
    let none : c.loop-param.args.items ≡ [] = grind arith in
    rw (none, needed_none, append-nil) at c.loop-param.invariant
