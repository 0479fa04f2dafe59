use Rattle.std.proofs.Common.{◌+◌, length}
use Rattle.sb_sum.specs.Lines.{sign_of}
use Rattle.sb_sum.specs.Fronts.{IsMerging}
use Rattle.sb_sum.proofs.merge.merged.Given as goal

abbrev pub invariant-loop-front : goal.invariant-loop-front
invariant-loop-front l = IsMerging (sign_of l.fn.minus) l.fn.xs l.fn.ys l.left l.right l.parts.items

abbrev pub decreases-loop-front : goal.decreases-loop-front
decreases-loop-front l = length l.left + length l.right
