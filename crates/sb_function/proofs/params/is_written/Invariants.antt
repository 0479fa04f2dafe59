use Rattle.std.proofs.Common.{◌≡◌, drop}
use Rattle.sb_function.specs.Grammar.{is_among}
use Rattle.sb_function.specs.Params.{written_names}
use Rattle.sb_function.proofs.params.is_written.Given as goal

abbrev pub invariant-loop-other : goal.invariant-loop-other
invariant-loop-other l = is_among l.fn.name (written_names l.fn.written) ≡ is_among l.fn.name (written_names (drop l.other-index l.fn.written))
