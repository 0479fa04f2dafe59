use Rattle.sb_term.specs.AnswerOf.{answer_of}
use Rattle.sb_function.specs.Trees.{tree_of}
use Rattle.sb_judge.specs.Walks.{function_rule}
use Rattle.sb_judge.proofs.Steps.Judged.{plain_value}
use Rattle.sb_judge.proofs.judging.warnings_of.Goals as goal

pub returns-in-Ok : goal.returns-in-Ok
returns-in-Ok c =
    plain_value answer_of (function_rule c.args.function.now.params.items (tree_of c.args.function.now).body) _ _ c.in-Ok.warnings c.in-Ok.ensures.rule
