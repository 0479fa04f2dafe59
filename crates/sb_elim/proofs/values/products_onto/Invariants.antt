use Rattle.std.proofs.Common.{◌≡◌, drop}
use Rattle.sb_term.specs.Refutes.{products_onto as products_added}
use Rattle.sb_elim.proofs.values.products_onto.Given as goal

abbrev pub invariant-loop-entry : goal.invariant-loop-entry
invariant-loop-entry l = products_added l.known l.sum (drop l.entry-index l.entries) ≡ products_added l.known l.fn.first l.entries
