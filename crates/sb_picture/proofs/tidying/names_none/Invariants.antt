use Rattle.std.proofs.Common.{◌≡◌, drop}
use Rattle.sb_picture.specs.Tidying.{names_none}
use Rattle.sb_picture.proofs.tidying.names_none.Given as goal

abbrev pub invariant-loop-symbol : goal.invariant-loop-symbol
invariant-loop-symbol l = names_none (drop l.symbol-index l.symbols) l.fact ≡ names_none l.fn.symbols l.fn.fact
