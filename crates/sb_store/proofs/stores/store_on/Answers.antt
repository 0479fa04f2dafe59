use Rattle.std.proofs.Common.{slice_get}
use Rattle.sb_picture.specs.Pictures.{number_at}
use Rattle.sb_store.proofs.Steps.Targets.{store_by-known}
use Rattle.sb_store.proofs.stores.store_on.Goals as goal

pub returns-clause-rule : goal.returns-clause-rule
returns-clause-rule g c =
    store_by-known g.V.Decide.stop g.V.Decide.gives g.V.Decide.after _ c.args.place c.args.picture.now (slice_get c.args.picture.now.values c.args.array)
    (number_at c.args.picture.now.values c.args.index) c.in_ok-parts.parts.1 (number_at c.args.picture.now.values c.args.value) c.args.report.now c.in_ok-parts.parts.0 c.args.judge.now
    c.store_to.new.judge c.store_to.result c.in_ok-parts.ensures.target c.in_ok-parts.ensures.value c.store_to.ensures.rule
