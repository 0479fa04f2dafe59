use Rattle.std.proofs.Common.{◌-◌, ◌∙◌, length, drop, sym, ap, refl, arith}
use Rattle.sb_parse.specs.Parser.{done}
use Rattle.sb_expr.specs.Meaning.{plain_named}
use Rattle.sb_lexicon.specs.Meaning.{meant}
use Rattle.sb_expr.specs.Readers.{type_reader}
use Rattle.sb_expr.proofs.Entering.{left_over, type_read, on_ok}
use Rattle.sb_expr.proofs.Leaving.{type_leaves}
use Rattle.sb_grammar.proofs.expressions.type_at.Goals as goal

pub overflow_sub-at : goal.overflow_sub-at
overflow_sub-at c = (left_over (type_reader (meant c.args.lexicon.now) c.args.at.now.left) (type_leaves (meant c.args.lexicon.now) c.args.at.now.left) c.args.at.now.tokens.now c.args.at.now.next (plain_named c.in-Ok.named) c.in-Ok.named.rest.now c.requires.next (ap (type_reader (meant c.args.lexicon.now) c.args.at.now.left) (sym c.tokens_from.ensures) ∙ c.in-Ok.ensures.read.0)).few

pub returns-in-Ok-clause-within : goal.returns-in-Ok-clause-within
returns-in-Ok-clause-within c = on_ok c.completed.result ((left_over (type_reader (meant c.args.lexicon.now) c.args.at.now.left) (type_leaves (meant c.args.lexicon.now) c.args.at.now.left) c.args.at.now.tokens.now c.args.at.now.next (plain_named c.in-Ok.named) c.in-Ok.named.rest.now c.requires.next (ap (type_reader (meant c.args.lexicon.now) c.args.at.now.left) (sym c.tokens_from.ensures) ∙ c.in-Ok.ensures.read.0)).later, omega arith)

pub returns-in-Ok-clause-read : goal.returns-in-Ok-clause-read
returns-in-Ok-clause-read c =
    type_read (type_reader (meant c.args.lexicon.now) c.args.at.now.left (drop c.args.at.now.next c.args.at.now.tokens.now)) c.args.at.now.tokens.now (length c.args.at.now.tokens.now - length c.in-Ok.named.rest.now) (plain_named c.in-Ok.named) c.in-Ok.named.base c.in-Ok.named.pieces c.completed.result
    ((ap (type_reader (meant c.args.lexicon.now) c.args.at.now.left) (sym c.tokens_from.ensures) ∙ c.in-Ok.ensures.read.0) ∙ ap (λ r. done (plain_named c.in-Ok.named) r) (sym (left_over (type_reader (meant c.args.lexicon.now) c.args.at.now.left) (type_leaves (meant c.args.lexicon.now) c.args.at.now.left) c.args.at.now.tokens.now c.args.at.now.next (plain_named c.in-Ok.named) c.in-Ok.named.rest.now c.requires.next (ap (type_reader (meant c.args.lexicon.now) c.args.at.now.left) (sym c.tokens_from.ensures) ∙ c.in-Ok.ensures.read.0)).same)) refl c.completed.ensures
