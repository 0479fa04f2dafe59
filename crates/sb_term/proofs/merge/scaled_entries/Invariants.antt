use Rattle.std.proofs.Common.{[], pos, drop}
use Rattle.sb_term.specs.Fronts.{IsMerging}
use Rattle.sb_term.proofs.merge.scaled_entries.Given as goal

abbrev pub invariant-loop-entry : goal.invariant-loop-entry
invariant-loop-entry l = IsMerging (pos 0) l.fn.by [] l.xs [] (drop l.entry-index l.xs) l.out.items
