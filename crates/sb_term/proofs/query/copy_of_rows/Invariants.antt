use Rattle.std.proofs.Common.{◌≡◌, take}
use Rattle.sb_term.proofs.query.copy_of_rows.Given as goal

abbrev pub invariant-loop-row : goal.invariant-loop-row
invariant-loop-row l = l.copied ≡ take l.row-index l.rows
