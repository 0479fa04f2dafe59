use Rattle.std.proofs.Common.{arith}
use Rattle.std.proofs.lemmas.Int.{to_z-of_z}
use mir.Syntax.{w128}
use Rattle.sb_term.proofs.Merging.{front_at}
use Rattle.sb_term.proofs.merge.front_of.Goals as goal

pub returns-else-y-x-clause-some : goal.returns-else-y-x-clause-some
returns-else-y-x-clause-some c =
    front_at c.args.a c.args.b _ _ c.args.xs.now c.args.ys.now _ _ _ _ _
    (to_z-of_z w128 c.args.a c.ranges.a) (to_z-of_z w128 c.args.b c.ranges.b) (grind arith) (grind arith) c.front_of_both.ensures.front
