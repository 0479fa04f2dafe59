use Rattle.std.proofs.Common.{◌≡◌, drop, None}
use Rattle.sb_term.specs.Asks.{run}
use Rattle.sb_judge.specs.Walks.{walk}
use Rattle.sb_function.specs.Statements.{in_order}
use Rattle.sb_function.specs.Trees.{plains}
use Rattle.sb_judge.proofs.walks.+walk.Given as goal

abbrev pub invariant-walk_list-loop-statement : goal.invariant-walk_list-loop-statement
invariant-walk_list-loop-statement g l = (g.V.Decide.stop l.judge ≡ None) × (run g.V.Decide.stop g.V.Decide.gives g.V.Decide.after (walk (in_order (plains (drop l.statement-index l.statements))) l.current l.report) l.judge ≡ run g.V.Decide.stop g.V.Decide.gives g.V.Decide.after (walk (in_order (plains l.fn.statements)) l.fn.pictures l.fn.report) l.fn.judge)
