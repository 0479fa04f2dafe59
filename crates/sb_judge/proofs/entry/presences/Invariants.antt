use Rattle.std.proofs.Common.{◌≡◌, ◌++◌, drop}
use Rattle.sb_judge.specs.Entry.{presences}
use Rattle.sb_judge.proofs.entry.presences.Given as goal

abbrev pub invariant-loop-value : goal.invariant-loop-value
invariant-loop-value l = l.conditions ++ presences l.regions (drop l.value-index l.values) ≡ presences l.fn.regions l.fn.values
