use Rattle.std.proofs.Common.{◌≡◌, drop}
use Rattle.sb_function.specs.Grammar.{is_among}
use Rattle.sb_function.proofs.params.is_among.Given as goal

abbrev pub invariant-loop-other : goal.invariant-loop-other
invariant-loop-other l = is_among l.fn.name l.fn.names ≡ is_among l.fn.name (drop l.other-index l.fn.names)
