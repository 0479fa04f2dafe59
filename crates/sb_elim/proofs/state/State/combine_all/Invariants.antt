use Rattle.std.proofs.Common.{◌≡◌, drop}
use Rattle.sb_term.specs.Elimination.{combine_all as all_combined}
use Rattle.sb_elim.proofs.state.State.combine_all.Given as goal

abbrev pub invariant-loop-x : goal.invariant-loop-x
invariant-loop-x l = all_combined l.symbol (drop l.x-index l.xs) l.ys l.self ≡ all_combined l.symbol l.xs l.ys l.fn.self
