use Rattle.std.proofs.Common.{length}
use Rattle.sb_sum.specs.Fronts.{IsScaling}
use Rattle.sb_sum.proofs.lines.times.Given as goal

abbrev pub invariant-loop-part : goal.invariant-loop-part
invariant-loop-part l = IsScaling l.fn.c l.fn.xs l.left l.parts.items

abbrev pub decreases-loop-part : goal.decreases-loop-part
decreases-loop-part l = length l.left
