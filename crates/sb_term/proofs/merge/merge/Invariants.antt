use Rattle.std.proofs.Common.{◌+◌, length}
use Rattle.sb_term.specs.Fronts.{IsMerging}
use Rattle.sb_term.proofs.merge.merge.Given as goal

abbrev pub invariant-loop-front : goal.invariant-loop-front
invariant-loop-front l = IsMerging l.fn.a l.fn.b l.fn.xs l.fn.ys l.left l.right l.out.items

abbrev pub decreases-loop-front : goal.decreases-loop-front
decreases-loop-front l = length l.left + length l.right
