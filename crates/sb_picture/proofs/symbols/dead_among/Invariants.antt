use Rattle.std.proofs.Common.{◌≡◌, ◌++◌, drop}
use Rattle.std.specs.List.{filter}
use Rattle.sb_picture.specs.Tidying.{is_dead}
use Rattle.sb_picture.proofs.symbols.dead_among.Given as goal

abbrev pub invariant-loop-symbol : goal.invariant-loop-symbol
invariant-loop-symbol l = l.dead.items ++ filter (is_dead l.picture) (drop l.symbol-index l.symbols) ≡ filter (is_dead l.fn.picture) l.fn.symbols
