use Rattle.std.proofs.Common.{◌≡◌, ◌++◌, drop}
use Rattle.std.specs.List.{filter}
use Rattle.sb_picture.specs.Tidying.{names_none}
use Rattle.sb_picture.proofs.tidying.free_of.Given as goal

abbrev pub invariant-loop-fact : goal.invariant-loop-fact
invariant-loop-fact l = l.rows ++ filter (names_none l.symbols) (drop l.fact-index l.facts) ≡ filter (names_none l.fn.symbols) l.fn.facts
