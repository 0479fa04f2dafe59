use Rattle.std.proofs.Common.{◌≡◌, ◌++◌, drop, take}
use Rattle.sb_term.specs.Refutes.{with_symbol}
use Rattle.sb_picture.proofs.symbols.place_of.Given as goal

abbrev pub invariant-loop-at : goal.invariant-loop-at
invariant-loop-at l = take l.at l.symbols ++ with_symbol l.symbol (drop l.at l.symbols) ≡ with_symbol l.fn.symbol l.fn.symbols
