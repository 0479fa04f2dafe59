use Rattle.std.proofs.Common.{ap, ◌∙◌, ◌++◌, map}
use Rattle.std.proofs.lemmas.Result.{err_from_is_err_and}
use Rattle.sb_picture.specs.Tidying.{tidied}
use Rattle.sb_function.specs.Trees.{plain}
use Rattle.sb_judge.specs.Splits.{sides}
use Rattle.sb_judge.specs.Walks.{walked}
use Rattle.sb_judge.proofs.Steps.Walking.{walk-turn, walk-stops, choose-ends, choose-stops_split, choose-stops_body}
use Rattle.sb_judge.proofs.walks.+walk.Goals as goal

pub walk_list-loop-statement-preserved : goal.walk_list-loop-statement-preserved
walk_list-loop-statement-preserved g t c =
    let turn = walk-turn g.V.Decide.stop g.V.Decide.gives g.V.Decide.after c.args.statements.now c.loop-statement.statement-index c.statement-item.result
    c.loop-statement.current c.in_ok-after.after c.in_ok-current.current c.loop-statement.report c.walk.new.report c.loop-statement.judge c.walk.new.judge
    c.loop-statement-test.true c.statement-item.is c.in_ok-after.ensures.rule (c.in_ok-current.ensures ∙ ap (λ qs. map tidied qs) c.as_slice.ensures) in
    (c.in_ok-after.ensures.stop, turn ∙ c.loop-statement.invariant.1)

pub walk_list-returns-in_err-after-clause-rule : goal.walk_list-returns-in_err-after-clause-rule
walk_list-returns-in_err-after-clause-rule g t c =
    let p = err_from_is_err_and c.from_residual.result c.from_residual.ensures.1 in
    walk-stops g.V.Decide.stop g.V.Decide.gives g.V.Decide.after (walked c.walk.new.report) (walked c.walk.new.report) c.args.statements.now c.loop-statement.statement-index c.statement-item.result
    c.loop-statement.current c.loop-statement.report c.loop-statement.judge c.walk.new.judge c.in_err-after.field-0.0 p.0 c.from_residual.result _
    c.loop-statement-test.true c.statement-item.is c.in_err-after.ensures.rule c.loop-statement.invariant.1 p.1 p.2

pub walk_if-returns-clause-rule : goal.walk_if-returns-clause-rule
walk_if-returns-clause-rule g t c =
    choose-ends g.V.Decide.stop g.V.Decide.gives g.V.Decide.after c.args.left c.args.op c.args.right (plain c.args.then.now) c.args.pictures.now
    c.in_ok-sides.sides.trues c.in_ok-sides.sides.falses c.in_ok-inner.inner c.in_ok-after.after c.args.report.now c.walk.new.report
    c.args.judge.now c.split_all.new.judge c.walk.new.judge c.in_ok-sides.ensures.rule c.in_ok-inner.ensures.rule
    (c.in_ok-after.ensures ∙ ap (λ qs. map tidied qs ++ c.in_ok-sides.sides.falses) c.as_slice.ensures)

pub walk_if-returns-in_err-sides-clause-rule : goal.walk_if-returns-in_err-sides-clause-rule
walk_if-returns-in_err-sides-clause-rule g t c =
    let p = err_from_is_err_and c.from_residual.result c.from_residual.ensures.1 in
    choose-stops_split g.V.Decide.stop g.V.Decide.gives g.V.Decide.after (λ s. sides s.trues s.falses) (walked c.args.report.now) c.args.left c.args.op c.args.right (plain c.args.then.now)
    c.args.pictures.now c.args.report.now c.args.judge.now c.split_all.new.judge c.in_err-sides.field-0.0 p.0 c.from_residual.result c.in_err-sides.ensures.rule p.1 p.2

pub walk_if-returns-in_err-inner-clause-rule : goal.walk_if-returns-in_err-inner-clause-rule
walk_if-returns-in_err-inner-clause-rule g t c =
    let p = err_from_is_err_and c.from_residual-in_err-inner.result c.from_residual-in_err-inner.ensures.1 in
    choose-stops_body g.V.Decide.stop g.V.Decide.gives g.V.Decide.after (walked c.walk.new.report) (walked c.walk.new.report) c.args.left c.args.op c.args.right (plain c.args.then.now)
    c.args.pictures.now c.in_ok-sides.sides.trues c.in_ok-sides.sides.falses c.args.report.now c.args.judge.now c.split_all.new.judge c.walk.new.judge
    c.in_err-inner.field-0.0 p.0 c.from_residual-in_err-inner.result c.in_ok-sides.ensures.rule c.in_err-inner.ensures.rule p.1 p.2
