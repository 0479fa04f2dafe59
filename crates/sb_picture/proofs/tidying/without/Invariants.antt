use Rattle.std.proofs.Common.{◌≡◌, ◌++◌, drop}
use Rattle.std.specs.List.{filter}
use Rattle.sb_picture.specs.Tidying.{is_without}
use Rattle.sb_picture.proofs.tidying.without.Given as goal

abbrev pub invariant-loop-fact : goal.invariant-loop-fact
invariant-loop-fact l = l.rows ++ filter (is_without l.symbol) (drop l.fact-index l.facts) ≡ filter (is_without l.fn.symbol) l.fn.facts
