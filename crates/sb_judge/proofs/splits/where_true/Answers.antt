use Rattle.std.proofs.Common.{List, Option, subst, ◌∙◌}
use Rattle.sb_term.specs.Linear.{Linear}
use Rattle.sb_term.specs.Asks.{run, EndsAs}
use Rattle.sb_judge.specs.Splits.{in_ways}
use Rattle.sb_judge.proofs.splits.where_true.Goals as goal

pub returns-clause-rule : goal.returns-clause-rule
returns-clause-rule g c =
    let P : List (List (Option Linear)) → Type 0 = λ w. EndsAs c.in_ways.result c.in_ways.new.judge (run g.V.Decide.stop g.V.Decide.gives g.V.Decide.after (in_ways w c.args.picture.now) c.args.judge.now) in
    subst P (c.as_slice.ensures ∙ c.in_ok-ways.ensures) c.in_ways.ensures.rule
