use Rattle.std.proofs.lemmas.Result.{err_from_is_err_and}
use Rattle.sb_store.proofs.Steps.Reaching.{bounds-goes, bounds-stops_first, bounds-stops_second}
use Rattle.sb_store.proofs.needs.bounds.Goals as goal

pub returns-clause-rule : goal.returns-clause-rule
returns-clause-rule g c =
    bounds-goes g.V.Decide.stop g.V.Decide.gives g.V.Decide.after (λ _. c.ask_before_end.new.report) c.args.place c.args.picture.now c.args.region.now c.args.offset.now
    c.args.report.now c.ask_present.new.report c.ask_from_start.new.report c.args.judge.now c.ask_present.new.judge c.ask_from_start.new.judge c.ask_before_end.new.judge
    c.ask_before_end.result c.in_ok-ask_present.ensures.rule c.in_ok-ask_from_start.ensures.rule c.ask_before_end.ensures.rule

pub returns-in_err-ask_present-clause-rule : goal.returns-in_err-ask_present-clause-rule
returns-in_err-ask_present-clause-rule g c =
    let p = err_from_is_err_and c.from_residual.result c.from_residual.ensures.1 in
    bounds-stops_first g.V.Decide.stop g.V.Decide.gives g.V.Decide.after (λ _. c.ask_present.new.report) (λ _. c.ask_present.new.report) c.args.place c.args.picture.now c.args.region.now
    c.args.offset.now c.args.report.now c.args.judge.now c.ask_present.new.judge c.in_err-ask_present.field-0.0 p.0 c.from_residual.result c.in_err-ask_present.ensures.rule p.1 p.2

pub returns-in_err-ask_from_start-clause-rule : goal.returns-in_err-ask_from_start-clause-rule
returns-in_err-ask_from_start-clause-rule g c =
    let p = err_from_is_err_and c.from_residual-in_err-ask_from_start.result c.from_residual-in_err-ask_from_start.ensures.1 in
    bounds-stops_second g.V.Decide.stop g.V.Decide.gives g.V.Decide.after (λ _. c.ask_from_start.new.report) (λ _. c.ask_from_start.new.report) c.args.place c.args.picture.now
    c.args.region.now c.args.offset.now c.args.report.now c.ask_present.new.report c.args.judge.now c.ask_present.new.judge c.ask_from_start.new.judge
    c.in_err-ask_from_start.field-0.0 p.0 c.from_residual-in_err-ask_from_start.result c.in_ok-ask_present.ensures.rule c.in_err-ask_from_start.ensures.rule p.1 p.2
