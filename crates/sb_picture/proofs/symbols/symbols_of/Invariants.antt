use Rattle.std.proofs.Common.{◌≡◌, [], drop}
use Rattle.sb_term.specs.Refutes.{with_rows}
use Rattle.sb_picture.proofs.symbols.symbols_of.Given as goal

abbrev pub invariant-loop-row : goal.invariant-loop-row
invariant-loop-row l = with_rows (drop l.row-index l.rows) l.symbols.items ≡ with_rows l.fn.rows []
