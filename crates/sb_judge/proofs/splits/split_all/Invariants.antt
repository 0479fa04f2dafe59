use Rattle.std.proofs.Common.{◌≡◌, [], drop, None}
use Rattle.sb_term.specs.Asks.{run}
use Rattle.sb_judge.specs.Splits.{split_all, sides}
use Rattle.sb_judge.proofs.splits.split_all.Given as goal

abbrev pub invariant-loop-picture : goal.invariant-loop-picture
invariant-loop-picture g l = (g.V.Decide.stop l.judge ≡ None) × (run g.V.Decide.stop g.V.Decide.gives g.V.Decide.after (split_all l.fn.left l.fn.op l.fn.right (drop l.picture-index l.pictures) (sides l.trues l.falses)) l.judge ≡ run g.V.Decide.stop g.V.Decide.gives g.V.Decide.after (split_all l.fn.left l.fn.op l.fn.right l.fn.pictures (sides [] [])) l.fn.judge)
