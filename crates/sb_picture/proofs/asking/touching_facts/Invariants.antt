use Rattle.std.proofs.Common.{◌≡◌, ◌++◌, drop}
use Rattle.std.specs.List.{filter}
use Rattle.sb_picture.specs.Asking.{touches}
use Rattle.sb_picture.proofs.asking.touching_facts.Given as goal

abbrev pub invariant-loop-fact : goal.invariant-loop-fact
invariant-loop-fact l = l.rows ++ filter (touches l.symbols) (drop l.fact-index l.facts) ≡ filter (touches l.fn.symbols) l.fn.facts
