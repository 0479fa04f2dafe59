use Rattle.std.proofs.Common.{◌≡◌, ◌-◌, length}
use Rattle.sb_picture.specs.Asking.{closed}
use Rattle.sb_picture.proofs.asking.close.Given as goal

abbrev pub invariant-loop-turn : goal.invariant-loop-turn
invariant-loop-turn l = closed (length l.facts - l._turn) l.facts l.symbols ≡ closed (length l.fn.facts) l.fn.facts l.fn.symbols
