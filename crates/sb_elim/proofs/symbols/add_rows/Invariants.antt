use Rattle.std.proofs.Common.{◌≡◌, take, drop}
use Rattle.std.specs.List.{All}
use Rattle.sb_term.specs.Linear.{IsTerm}
use Rattle.sb_term.specs.Refutes.{with_rows}
use Rattle.sb_elim.proofs.symbols.add_rows.Given as goal

abbrev pub invariant-loop-row : goal.invariant-loop-row
invariant-loop-row l = record {
  items : with_rows (drop l.row-index l.rows) l.symbols.items ≡ with_rows l.rows l.fn.symbols.items;
  terms : All (λ r. IsTerm r.term) (take l.row-index l.rows);
}
