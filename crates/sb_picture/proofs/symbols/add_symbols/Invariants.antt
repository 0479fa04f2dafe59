use Rattle.std.proofs.Common.{◌≡◌, drop}
use Rattle.sb_term.specs.Refutes.{with_symbols}
use Rattle.sb_picture.proofs.symbols.add_symbols.Given as goal

abbrev pub invariant-loop-entry : goal.invariant-loop-entry
invariant-loop-entry l = with_symbols (drop l.entry-index l.entries) l.symbols.items ≡ with_symbols l.fn.entries l.fn.symbols.items
