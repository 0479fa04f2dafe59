use Rattle.std.proofs.Common.{◌≡◌, drop}
use Rattle.sb_term.specs.Elimination.{cheapest as cheapest_of}
use Rattle.sb_elim.proofs.choose.cheapest.Given as goal

abbrev pub invariant-loop-symbol : goal.invariant-loop-symbol
invariant-loop-symbol l = cheapest_of l.rows l.best (drop l.symbol-index l.others) ≡ cheapest_of l.rows l.first l.others
