use Rattle.std.proofs.Common.{sym, ◌||◌}
use Rattle.sb_parse.specs.Parser.{refuse}
use Rattle.sb_lexicon.specs.Meaning.{meant}
use Rattle.sb_specifier.specs.declared.seat.Seat.TheVariants as seat
use Rattle.sb_specifier.specs.Readers.{Declarations, is_semicolon}
use Rattle.sb_statement.proofs.steps.Barred.{barred_else}
use Rattle.sb_lexicon.specs.Tokens.{too_deep, begins_expr}
use Rattle.sb_statement.proofs.first.no_first.Goals as goal

pub returns : goal.returns
returns c = barred_else Declarations (meant c.args.lexicon.now) seat.Scope (λ t. is_semicolon (meant c.args.lexicon.now) t || begins_expr (meant c.args.lexicon.now) t) (refuse too_deep) c.args.tokens.now _ (sym c.if-is_first_next.ensures) c.barred.ensures
