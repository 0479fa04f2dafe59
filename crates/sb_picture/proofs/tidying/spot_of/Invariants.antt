use Rattle.std.proofs.Common.{◌≡◌, ◌++◌, drop, take}
use Rattle.sb_picture.specs.Tidying.{placed_row}
use Rattle.sb_picture.proofs.tidying.spot_of.Given as goal

abbrev pub invariant-loop-at : goal.invariant-loop-at
invariant-loop-at l = take l.at l.rows ++ placed_row (drop l.at l.rows) l.term ≡ placed_row l.fn.rows l.fn.term
