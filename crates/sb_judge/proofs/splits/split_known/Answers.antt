use Rattle.std.proofs.lemmas.Result.{err_from_is_err_and}
use Rattle.sb_judge.specs.Splits.{sides}
use Rattle.sb_judge.proofs.Steps.Splitting.{split-ends, split-stops_first, split-stops_second}
use Rattle.sb_judge.proofs.splits.split_known.Goals as goal

pub returns-clause-rule : goal.returns-clause-rule
returns-clause-rule g c =
    split-ends g.V.Decide.stop g.V.Decide.gives g.V.Decide.after c.args.op c.opposite.result c.args.left.now c.args.right.now c.args.picture.now c.in_ok-trues.trues c.in_ok-falses.falses
    c.args.judge.now c.where_true.new.judge c.where_true-2.new.judge c.opposite.ensures c.in_ok-trues.ensures.rule c.in_ok-falses.ensures.rule

pub returns-in_err-trues-clause-rule : goal.returns-in_err-trues-clause-rule
returns-in_err-trues-clause-rule g c =
    let p = err_from_is_err_and c.from_residual.result c.from_residual.ensures.1 in
    split-stops_first g.V.Decide.stop g.V.Decide.gives g.V.Decide.after (λ s. sides s.trues s.falses) c.args.op c.args.left.now c.args.right.now c.args.picture.now c.args.judge.now c.where_true.new.judge
    c.in_err-trues.field-0.0 p.0 c.from_residual.result c.in_err-trues.ensures.rule p.1 p.2

pub returns-in_err-falses-clause-rule : goal.returns-in_err-falses-clause-rule
returns-in_err-falses-clause-rule g c =
    let p = err_from_is_err_and c.from_residual-in_err-falses.result c.from_residual-in_err-falses.ensures.1 in
    split-stops_second g.V.Decide.stop g.V.Decide.gives g.V.Decide.after (λ s. sides s.trues s.falses) c.args.op c.opposite.result c.args.left.now c.args.right.now c.args.picture.now c.in_ok-trues.trues
    c.args.judge.now c.where_true.new.judge c.where_true-2.new.judge c.in_err-falses.field-0.0 p.0 c.from_residual-in_err-falses.result c.opposite.ensures c.in_ok-trues.ensures.rule c.in_err-falses.ensures.rule p.1 p.2
