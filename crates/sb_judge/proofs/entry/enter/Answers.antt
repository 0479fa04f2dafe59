use Rattle.std.proofs.Common.{◌∙◌}
use Rattle.sb_judge.proofs.Steps.Entering.{enters}
use Rattle.sb_judge.proofs.entry.enter.Goals as goal

pub returns-clause-rule : goal.returns-clause-rule
returns-clause-rule g c =
    enters g.V.Decide.stop g.V.Decide.gives g.V.Decide.after c.args.params.now c.as_slice.result.now c.in_ok-picture.picture c.args.judge.now c.assume.new.judge c.assume.result
    (c.as_slice.ensures ∙ c.in_ok-conditions.ensures) c.in_ok-picture.ensures c.assume.ensures.rule
