use Rattle.std.proofs.Common.{◌≡◌, drop, None}
use Rattle.sb_term.specs.Asks.{run}
use Rattle.sb_picture.specs.Asking.{assume}
use Rattle.sb_picture.proofs.asking.assume_each.Given as goal

abbrev pub invariant-loop-condition : goal.invariant-loop-condition
invariant-loop-condition g l = (g.V.Decide.stop l.judge ≡ None) × (run g.V.Decide.stop g.V.Decide.gives g.V.Decide.after (assume (drop l.condition-index l.conditions) l.picture) l.judge ≡ run g.V.Decide.stop g.V.Decide.gives g.V.Decide.after (assume l.fn.conditions l.fn.picture) l.fn.judge)
