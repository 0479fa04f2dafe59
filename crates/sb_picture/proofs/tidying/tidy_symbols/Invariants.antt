use Rattle.std.proofs.Common.{◌≡◌, drop}
use Rattle.sb_picture.specs.Tidying.{tidied_all}
use Rattle.sb_picture.proofs.tidying.tidy_symbols.Given as goal

abbrev pub invariant-loop-symbol : goal.invariant-loop-symbol
invariant-loop-symbol l = tidied_all (drop l.symbol-index l.symbols) l.tidied ≡ tidied_all l.fn.symbols l.fn.tidied
