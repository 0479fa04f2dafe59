use Rattle.std.proofs.Common.{◌≡◌, [], drop, None}
use Rattle.sb_term.specs.Asks.{run}
use Rattle.sb_judge.specs.Walks.{walked, store_all}
use Rattle.sb_judge.proofs.walks.store_all.Given as goal

abbrev pub invariant-loop-picture : goal.invariant-loop-picture
invariant-loop-picture g l = (g.V.Decide.stop l.judge ≡ None) × (run g.V.Decide.stop g.V.Decide.gives g.V.Decide.after (store_all l.fn.array l.fn.index l.fn.value l.fn.place (drop l.picture-index l.pictures) (walked l.report l.after)) l.judge ≡ run g.V.Decide.stop g.V.Decide.gives g.V.Decide.after (store_all l.fn.array l.fn.index l.fn.value l.fn.place l.fn.pictures (walked l.fn.report [])) l.fn.judge)
