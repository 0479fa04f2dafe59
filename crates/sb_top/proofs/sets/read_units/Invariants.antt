use Rattle.std.proofs.Common.{drop}
use Rattle.sb_top.specs.Sets.{tokens_of}
use Rattle.sb_function.specs.Trees.{trees}
use Rattle.sb_top.proofs.UnitSteps.{ReadsOn}
use Rattle.sb_top.proofs.sets.read_units.Given as goal

abbrev pub invariant-loop-tokens : goal.invariant-loop-tokens
invariant-loop-tokens l = ReadsOn l.names.texts (tokens_of l.units) (trees l.functions.items) (tokens_of (drop l.tokens-index l.units))
