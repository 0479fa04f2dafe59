use Rattle.std.proofs.Common.{◌≡◌, drop}
use Rattle.sb_term.specs.Bounds.{least_bound as all_bounds}
use Rattle.sb_elim.proofs.values.least_bound.Given as goal

abbrev pub invariant-loop-row : goal.invariant-loop-row
invariant-loop-row l = all_bounds l.symbol l.known (drop l.row-index l.rows) l.best ≡ all_bounds l.symbol l.known l.rows l.fn.first
