use Rattle.std.proofs.Common.{◌-◌}
use Rattle.sb_scope.proofs.typedefs.Part.+put.Given as goal

abbrev pub decreases-put : goal.decreases-put
decreases-put l = l.to - l.from
