use Rattle.std.proofs.Common.{◌≡◌, take}
use Rattle.sb_function.specs.Params.{written_names}
use Rattle.sb_function.proofs.settling.names_of.Given as goal

abbrev pub invariant-loop-other : goal.invariant-loop-other
invariant-loop-other l = l.names.items ≡ written_names (take l.other-index l.fn.written)
