use Rattle.std.proofs.Common.{◌≡◌, drop}
use Rattle.sb_term.specs.Elimination.{combine_each as each_combined}
use Rattle.sb_elim.proofs.state.State.combine_each.Given as goal

abbrev pub invariant-loop-y : goal.invariant-loop-y
invariant-loop-y l = each_combined l.symbol l.x (drop l.y-index l.ys) l.self ≡ each_combined l.symbol l.x l.ys l.fn.self
