use Rattle.std.proofs.Common.{◌∙◌, sym, ap, arith}
use Rattle.sb_parse.specs.Parser.{done}
use Rattle.sb_tree.specs.Plain.{plain_expr}
use Rattle.sb_expr.specs.Expression.{Sequence}
use Rattle.sb_lexicon.specs.Meaning.{meant}
use Rattle.sb_expr.specs.Readers.{expr_reader}
use Rattle.sb_expr.proofs.Leaving.{expr_leaves}
use Rattle.sb_expr.proofs.Entering.{left_over}
use Rattle.sb_grammar.proofs.expressions.expr_at.Goals as goal

pub overflow_sub-at : goal.overflow_sub-at
overflow_sub-at c = (left_over (expr_reader (meant c.args.lexicon.now) c.args.at.now.left Sequence) (expr_leaves (meant c.args.lexicon.now) c.args.at.now.left Sequence) c.args.at.now.tokens.now c.args.at.now.next (plain_expr c.in-Ok.found.tree.value) c.in-Ok.found.rest.now c.requires.next (ap (expr_reader (meant c.args.lexicon.now) c.args.at.now.left Sequence) (sym c.tokens_from.ensures) ∙ c.in-Ok.ensures.read.0)).few

pub returns-in-Ok-clause-within : goal.returns-in-Ok-clause-within
returns-in-Ok-clause-within c = ((left_over (expr_reader (meant c.args.lexicon.now) c.args.at.now.left Sequence) (expr_leaves (meant c.args.lexicon.now) c.args.at.now.left Sequence) c.args.at.now.tokens.now c.args.at.now.next (plain_expr c.in-Ok.found.tree.value) c.in-Ok.found.rest.now c.requires.next (ap (expr_reader (meant c.args.lexicon.now) c.args.at.now.left Sequence) (sym c.tokens_from.ensures) ∙ c.in-Ok.ensures.read.0)).later, omega arith)

pub returns-in-Ok-clause-read : goal.returns-in-Ok-clause-read
returns-in-Ok-clause-read c =
    (plain_expr c.in-Ok.found.tree.value, (ap (expr_reader (meant c.args.lexicon.now) c.args.at.now.left Sequence) (sym c.tokens_from.ensures) ∙ c.in-Ok.ensures.read.0) ∙ ap (λ r. done (plain_expr c.in-Ok.found.tree.value) r) (sym (left_over (expr_reader (meant c.args.lexicon.now) c.args.at.now.left Sequence) (expr_leaves (meant c.args.lexicon.now) c.args.at.now.left Sequence) c.args.at.now.tokens.now c.args.at.now.next (plain_expr c.in-Ok.found.tree.value) c.in-Ok.found.rest.now c.requires.next (ap (expr_reader (meant c.args.lexicon.now) c.args.at.now.left Sequence) (sym c.tokens_from.ensures) ∙ c.in-Ok.ensures.read.0)).same), ap plain_expr (sym c.into_inner.ensures))
