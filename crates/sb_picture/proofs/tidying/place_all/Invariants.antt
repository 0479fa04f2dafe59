use Rattle.std.proofs.Common.{◌≡◌, drop}
use Rattle.std.specs.List.{filter}
use Rattle.sb_picture.specs.Tidying.{is_above, is_below, placed_all}
use Rattle.sb_picture.proofs.tidying.place_all.Given as goal

abbrev pub invariant-loop-above : goal.invariant-loop-above
invariant-loop-above l = placed_all l.symbol (filter (is_above l.symbol) (drop l.above-index l.facts)) (filter (is_below l.symbol) l.facts) l.rows ≡ placed_all l.fn.symbol (filter (is_above l.fn.symbol) l.fn.facts) (filter (is_below l.fn.symbol) l.fn.facts) l.fn.rows
