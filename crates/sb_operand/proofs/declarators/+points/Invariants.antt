use Rattle.std.proofs.Common.{length}
use Rattle.sb_operand.proofs.declarators.+points.Given as goal

abbrev pub decreases-points : goal.decreases-points
decreases-points l = length l.list.now
