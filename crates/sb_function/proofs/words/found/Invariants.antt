use Rattle.std.proofs.Common.{◌≡◌, drop}
use Rattle.sb_function.specs.Statements.{found}
use Rattle.sb_function.proofs.Steps.Found.{shifted}
use Rattle.sb_function.proofs.words.found.Given as goal

abbrev pub invariant-loop-position : goal.invariant-loop-position
invariant-loop-position l = found l.fn.name l.fn.params ≡ shifted l.position (found l.fn.name (drop l.position l.fn.params))
