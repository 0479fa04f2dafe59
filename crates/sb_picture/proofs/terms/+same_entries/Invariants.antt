use Rattle.std.proofs.Common.{length}
use Rattle.sb_picture.proofs.terms.+same_entries.Given as goal

abbrev pub decreases-same_entries : goal.decreases-same_entries
decreases-same_entries l = length l.first.now
