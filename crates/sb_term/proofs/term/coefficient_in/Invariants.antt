use Rattle.std.proofs.Common.{◌≡◌, drop}
use Rattle.sb_term.specs.Linear.{coefficient_of}
use Rattle.sb_term.proofs.term.coefficient_in.Given as goal

abbrev pub invariant-loop-entry : goal.invariant-loop-entry
invariant-loop-entry l = coefficient_of l.symbol (drop l.entry-index l.entries) ≡ coefficient_of l.symbol l.entries
