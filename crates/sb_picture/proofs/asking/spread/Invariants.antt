use Rattle.std.proofs.Common.{◌≡◌, drop}
use Rattle.sb_picture.specs.Asking.{spread}
use Rattle.sb_picture.proofs.asking.spread.Given as goal

abbrev pub invariant-loop-fact : goal.invariant-loop-fact
invariant-loop-fact l = spread l.symbols (drop l.fact-index l.facts) ≡ spread l.fn.symbols l.fn.facts
