use Rattle.std.proofs.Common.{◌≡◌, ◌++◌, length}
use Rattle.sb_macro.proofs.replacing.put_before.Given as goal

abbrev pub invariant-loop-marked : goal.invariant-loop-marked
invariant-loop-marked l = l.tokens.items ++ l.pending.items ≡ l.fn.tokens.items ++ l.fn.pending.items

abbrev pub decreases-loop-marked : goal.decreases-loop-marked
decreases-loop-marked l = length l.tokens.items
