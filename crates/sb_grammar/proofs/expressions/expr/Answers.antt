use Rattle.sb_lexicon.specs.Outcomes.{lexicon}
use Rattle.sb_expr.proofs.telling.Reasons.{expr_has_reason}
use Rattle.sb_grammar.proofs.expressions.expr.Goals as goal

pub returns-clause-reason : goal.returns-clause-reason
returns-clause-reason c =
    expr_has_reason (lexicon c.args.names.now.texts c.args.scope.now.types) c.args.at.now.tokens.now c.args.at.now.next c.args.at.now.left c.expr_at.new.at.next c.expr_at.result c.expr_at.ensures.read
