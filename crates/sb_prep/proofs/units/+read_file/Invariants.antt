use Rattle.std.proofs.Common.{◌-◌, length}
use Rattle.sb_prep.specs.Unit.{deepest}
use Rattle.sb_prep.proofs.units.+read_file.Given as goal
use Rattle.sb_prep.proofs.Passages.{IsPassage}

abbrev pub decreases-read_file : goal.decreases-read_file
decreases-read_file g l = deepest - l.here.depth

abbrev pub invariant-parts : goal.invariant-parts
invariant-parts g l = IsPassage (g.L.Library.held l.initial.lib) (g.L.Library.faults l.initial.lib) l.fn.here.depth l.fn.here.file l.fn.pieces l.initial.state l.branches l.state l.rest (g.L.Library.held l.lib) (g.L.Library.faults l.lib)

abbrev pub decreases-parts : goal.decreases-parts
decreases-parts g l = length l.rest
