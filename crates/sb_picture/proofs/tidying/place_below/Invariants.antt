use Rattle.std.proofs.Common.{◌≡◌, drop}
use Rattle.std.specs.List.{filter}
use Rattle.sb_picture.specs.Tidying.{is_below, placed_below}
use Rattle.sb_picture.proofs.tidying.place_below.Given as goal

abbrev pub invariant-loop-below : goal.invariant-loop-below
invariant-loop-below l = placed_below l.symbol l.above (filter (is_below l.symbol) (drop l.below-index l.facts)) l.rows ≡ placed_below l.fn.symbol l.fn.above (filter (is_below l.fn.symbol) l.fn.facts) l.fn.rows
