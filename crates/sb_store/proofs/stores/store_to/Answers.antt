use Rattle.std.proofs.Common.{Some, None}
use Rattle.sb_store.proofs.Steps.Targets.{store_to-known}
use Rattle.sb_store.proofs.stores.store_to.Goals as goal

pub returns-in-Some-clause-rule : goal.returns-in-Some-clause-rule
returns-in-Some-clause-rule g c =
    store_to-known g.V.Decide.stop g.V.Decide.gives g.V.Decide.after _ c.args.place c.args.picture.now c.args.target (Some c.in-Some.target) c.args.value.now c.args.report.now
    c.args.judge.now c.store_at.new.judge c.store_at.result c.in-Some.is c.store_at.ensures.rule

pub returns-in-None-clause-rule : goal.returns-in-None-clause-rule
returns-in-None-clause-rule g c =
    store_to-known g.V.Decide.stop g.V.Decide.gives g.V.Decide.after _ c.args.place c.args.picture.now c.args.target None c.args.value.now c.args.report.now
    c.args.judge.now c.store_unknown.new.judge c.store_unknown.result c.in-None.is c.store_unknown.ensures.rule
