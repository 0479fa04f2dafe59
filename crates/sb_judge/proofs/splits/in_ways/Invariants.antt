use Rattle.std.proofs.Common.{◌≡◌, drop, None}
use Rattle.sb_term.specs.Asks.{run, each_onto}
use Rattle.sb_picture.specs.Asking.{assume}
use Rattle.sb_judge.specs.Splits.{in_ways}
use Rattle.sb_judge.proofs.splits.in_ways.Given as goal

abbrev pub invariant-loop-way : goal.invariant-loop-way
invariant-loop-way g l = (g.V.Decide.stop l.judge ≡ None) × (run g.V.Decide.stop g.V.Decide.gives g.V.Decide.after (each_onto l.pictures (drop l.way-index l.ways) (λ c. assume c l.fn.picture)) l.judge ≡ run g.V.Decide.stop g.V.Decide.gives g.V.Decide.after (in_ways l.fn.ways l.fn.picture) l.fn.judge)
