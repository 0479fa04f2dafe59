use Rattle.std.proofs.Common.{◌∙◌, sym, ap, refl, arith}
use Rattle.sb_parse.specs.Parser.{done}
use Rattle.sb_tree.specs.Plain.{plain_notes}
use Rattle.sb_lexicon.specs.Meaning.{meant}
use Rattle.sb_expr.proofs.Entering.{left_over}
use Rattle.sb_sal.specs.declared.bearer.Bearer.TheVariants as bearer
use Rattle.sb_sal.specs.Readers.{notes_reader}
use Rattle.sb_sal.specs.Spellings.{may_stand}
use Rattle.sb_sal.proofs.Leaving.{notes_leave}
use Rattle.sb_grammar.proofs.annotations.notes_at.Goals as goal

pub overflow_sub-at : goal.overflow_sub-at
overflow_sub-at c = (left_over (notes_reader (meant c.args.lexicon.now) c.args.at.now.left (may_stand (meant c.args.lexicon.now) bearer.Any)) (notes_leave (meant c.args.lexicon.now) c.args.at.now.left bearer.Any) c.args.at.now.tokens.now c.args.at.now.next (plain_notes c.in-Ok.found.list.items) c.in-Ok.found.rest.now c.requires.next (ap (notes_reader (meant c.args.lexicon.now) c.args.at.now.left (may_stand (meant c.args.lexicon.now) bearer.Any)) (sym c.tokens_from.ensures) ∙ c.in-Ok.ensures.read.0)).few

pub returns-in-Ok-clause-within : goal.returns-in-Ok-clause-within
returns-in-Ok-clause-within c = ((left_over (notes_reader (meant c.args.lexicon.now) c.args.at.now.left (may_stand (meant c.args.lexicon.now) bearer.Any)) (notes_leave (meant c.args.lexicon.now) c.args.at.now.left bearer.Any) c.args.at.now.tokens.now c.args.at.now.next (plain_notes c.in-Ok.found.list.items) c.in-Ok.found.rest.now c.requires.next (ap (notes_reader (meant c.args.lexicon.now) c.args.at.now.left (may_stand (meant c.args.lexicon.now) bearer.Any)) (sym c.tokens_from.ensures) ∙ c.in-Ok.ensures.read.0)).later, omega arith)

pub returns-in-Ok-clause-read : goal.returns-in-Ok-clause-read
returns-in-Ok-clause-read c =
    (plain_notes c.in-Ok.found.list.items, (ap (notes_reader (meant c.args.lexicon.now) c.args.at.now.left (may_stand (meant c.args.lexicon.now) bearer.Any)) (sym c.tokens_from.ensures) ∙ c.in-Ok.ensures.read.0) ∙ ap (λ r. done (plain_notes c.in-Ok.found.list.items) r) (sym (left_over (notes_reader (meant c.args.lexicon.now) c.args.at.now.left (may_stand (meant c.args.lexicon.now) bearer.Any)) (notes_leave (meant c.args.lexicon.now) c.args.at.now.left bearer.Any) c.args.at.now.tokens.now c.args.at.now.next (plain_notes c.in-Ok.found.list.items) c.in-Ok.found.rest.now c.requires.next (ap (notes_reader (meant c.args.lexicon.now) c.args.at.now.left (may_stand (meant c.args.lexicon.now) bearer.Any)) (sym c.tokens_from.ensures) ∙ c.in-Ok.ensures.read.0)).same), refl)
