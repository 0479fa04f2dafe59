use Rattle.std.proofs.Common.{length}
use Rattle.sb_derivation.proofs.declarator.+makes_function.Given as goal

abbrev pub decreases-makes_function : goal.decreases-makes_function
decreases-makes_function l = length l.list.now
