use Rattle.std.proofs.Common.{◌≡◌, drop}
use Rattle.sb_function.specs.Params.{has_number}
use Rattle.sb_function.proofs.params.has_number.Given as goal

abbrev pub invariant-loop-other : goal.invariant-loop-other
invariant-loop-other l = has_number l.fn.name l.fn.written ≡ has_number l.fn.name (drop l.other-index l.fn.written)
