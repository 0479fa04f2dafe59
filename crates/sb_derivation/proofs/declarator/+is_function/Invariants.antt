use Rattle.std.proofs.Common.{length}
use Rattle.sb_derivation.proofs.declarator.+is_function.Given as goal

abbrev pub decreases-is_function : goal.decreases-is_function
decreases-is_function l = length l.list.now
