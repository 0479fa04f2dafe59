use Rattle.std.proofs.lemmas.Result.{err_from_is_err_and}
use Rattle.sb_store.specs.Stores.{reached}
use Rattle.sb_store.proofs.Steps.Reaching.{store_at-ends, store_at-stops}
use Rattle.sb_store.proofs.stores.store_at.Goals as goal

pub returns-clause-rule : goal.returns-clause-rule
returns-clause-rule g c =
    store_at-ends g.V.Decide.stop g.V.Decide.gives g.V.Decide.after c.args.place c.args.picture.now c.args.target.at c.args.target.region c.args.target.offset c.args.value.now
    c.args.report.now c.reaching_with.new.report c.args.judge.now c.reaching_with.new.judge c.in_ok-parts.parts.0 c.in_ok-parts.parts.1.end c.in_ok-parts.parts.1.cells c.after_store.new.picture
    c.in_ok-parts.ensures.rule c.in_ok-parts.ensures.end c.in_ok-parts.ensures.cells c.in_ok-after_store.ensures

pub returns-in_err-parts-clause-rule : goal.returns-in_err-parts-clause-rule
returns-in_err-parts-clause-rule g c =
    let p = err_from_is_err_and c.from_residual.result c.from_residual.ensures.1 in
    store_at-stops g.V.Decide.stop g.V.Decide.gives g.V.Decide.after (λ x. reached c.reaching_with.new.report x.0) _ c.args.place c.args.picture.now c.args.target.at
    c.args.target.region c.args.target.offset c.args.value.now c.args.report.now c.args.judge.now c.reaching_with.new.judge c.in_err-parts.field-0.0 p.0 c.from_residual.result
    c.in_err-parts.ensures.rule p.1 p.2
