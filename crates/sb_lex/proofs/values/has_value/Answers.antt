use Rattle.std.proofs.Common.{subst}
use Rattle.sb_base.specs.declared.tokens.PpKind.TheVariants as kind
use Rattle.sb_lex.specs.Values.{HasValue}
use Rattle.sb_lex.proofs.values.has_value.Goals as goal

pub returns-in-Char-clause-none : goal.returns-in-Char-clause-none
returns-in-Char-clause-none c = λ none has. let found : HasValue kind.Char c.args.text.now = subst (λ k. HasValue k c.args.text.now) c.in-Char.is has in c.is_character.ensures.none none found.0 found.1
