use Rattle.std.proofs.Common.{◌≡◌, [], length, reverse}
use Rattle.sb_term.specs.Bounds.{values as all_values}
use Rattle.sb_elim.proofs.values.values.Given as goal

abbrev pub invariant-loop-aside : goal.invariant-loop-aside
invariant-loop-aside l = all_values (reverse l.left.items) l.known.items ≡ all_values (reverse l.fn.asides.items) []

abbrev pub decreases-loop-aside : goal.decreases-loop-aside
decreases-loop-aside l = length l.left.items
