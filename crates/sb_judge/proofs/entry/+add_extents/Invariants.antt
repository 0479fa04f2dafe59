use Rattle.std.proofs.Common.{length}
use Rattle.sb_judge.proofs.entry.+add_extents.Given as goal

abbrev pub decreases-add_extents : goal.decreases-add_extents
decreases-add_extents l = length l.params.now
