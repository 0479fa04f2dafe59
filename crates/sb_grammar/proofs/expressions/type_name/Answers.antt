use Rattle.sb_lexicon.specs.Outcomes.{lexicon}
use Rattle.sb_expr.proofs.telling.Reasons.{type_has_reason}
use Rattle.sb_grammar.proofs.expressions.type_name.Goals as goal

pub returns-clause-reason : goal.returns-clause-reason
returns-clause-reason c =
    type_has_reason (lexicon c.args.names.now.texts c.args.scope.now.types) c.args.at.now.tokens.now c.args.at.now.next c.args.at.now.left c.type_at.new.at.next c.type_at.result c.type_at.ensures.read
