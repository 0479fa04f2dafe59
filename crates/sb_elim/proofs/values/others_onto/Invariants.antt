use Rattle.std.proofs.Common.{◌≡◌, drop}
use Rattle.std.specs.Prelude.{filter, not, ◌==◌}
use Rattle.sb_term.specs.Refutes.{products_onto as products_added}
use Rattle.sb_elim.proofs.values.others_onto.Given as goal

abbrev pub invariant-loop-entry : goal.invariant-loop-entry
invariant-loop-entry l =
    products_added l.known l.sum (filter (λ e. not (e.symbol == l.symbol)) (drop l.entry-index l.entries))
    ≡ products_added l.known l.fn.first (filter (λ e. not (e.symbol == l.symbol)) l.entries)
