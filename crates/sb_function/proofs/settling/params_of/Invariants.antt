use Rattle.std.proofs.Common.{◌≡◌, map, take}
use Rattle.sb_function.specs.Params.{placed, written_names}
use Rattle.sb_function.proofs.settling.params_of.Given as goal

abbrev pub invariant-loop-other : goal.invariant-loop-other
invariant-loop-other l = l.params.items ≡ map (placed (written_names l.fn.written)) (take l.other-index l.fn.written)
