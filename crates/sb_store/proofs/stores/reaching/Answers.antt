use Rattle.std.proofs.lemmas.Result.{err_from_is_err_and}
use Rattle.sb_store.specs.Stores.{reached}
use Rattle.sb_store.proofs.Steps.Reaching.{reaching-ends, reaching-stops_first, reaching-stops_second}
use Rattle.sb_store.proofs.stores.reaching.Goals as goal

pub returns-clause-rule : goal.returns-clause-rule
returns-clause-rule g c =
    reaching-ends g.V.Decide.stop g.V.Decide.gives g.V.Decide.after c.args.place c.args.picture.now c.as_slice.result.now c.args.target.now.region c.args.target.now.offset
    c.args.report.now c.bounds.new.report c.args.judge.now c.bounds.new.judge c.ask.new.judge c.in_ok-reaches.reaches (c.in_ok-asked.asked.query, c.in_ok-asked.asked.answer)
    c.is_proved.result c.in_ok-bounds.ensures.rule c.in_ok-reaches.ensures c.as_slice.ensures c.in_ok-asked.ensures.rule c.is_proved.ensures

pub returns-in_err-bounds-clause-rule : goal.returns-in_err-bounds-clause-rule
returns-in_err-bounds-clause-rule g c =
    let p = err_from_is_err_and c.from_residual.result c.from_residual.ensures.1 in
    reaching-stops_first g.V.Decide.stop g.V.Decide.gives g.V.Decide.after (λ _. c.bounds.new.report) (reached c.bounds.new.report) c.args.place c.args.picture.now
    c.args.target.now.region c.args.target.now.offset c.args.report.now c.args.judge.now c.bounds.new.judge c.in_err-bounds.field-0.0 p.0 c.from_residual.result
    c.in_err-bounds.ensures.rule p.1 p.2

pub returns-in_err-asked-clause-rule : goal.returns-in_err-asked-clause-rule
returns-in_err-asked-clause-rule g c =
    let p = err_from_is_err_and c.from_residual-in_err-asked.result c.from_residual-in_err-asked.ensures.1 in
    reaching-stops_second g.V.Decide.stop g.V.Decide.gives g.V.Decide.after (λ x. (x.query, x.answer)) (reached c.bounds.new.report) c.args.place c.args.picture.now c.as_slice.result.now
    c.args.target.now.region c.args.target.now.offset c.args.report.now c.bounds.new.report c.args.judge.now c.bounds.new.judge c.ask.new.judge c.in_ok-reaches.reaches
    c.in_err-asked.field-0.0 p.0 c.from_residual-in_err-asked.result c.in_ok-bounds.ensures.rule c.in_ok-reaches.ensures c.as_slice.ensures c.in_err-asked.ensures.rule p.1 p.2
