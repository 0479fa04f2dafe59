use Rattle.std.proofs.Common.{sym}
use Rattle.sb_parse.specs.Parser.{refuse}
use Rattle.sb_lexicon.specs.Meaning.{meant}
use Rattle.sb_specifier.specs.declared.seat.Seat.TheVariants as seat
use Rattle.sb_specifier.specs.Readers.{Declarations}
use Rattle.sb_statement.proofs.steps.Barred.{barred_else}
use Rattle.sb_lexicon.specs.Tokens.{bad_arguments, is_open}
use Rattle.sb_statement.proofs.declarations.behind_bare.Goals as goal

pub returns : goal.returns
returns c = barred_else Declarations (meant c.args.lexicon.now) seat.Scope (is_open (meant c.args.lexicon.now)) (refuse bad_arguments) c.args.tokens.now _ (sym c.if-is_mark_next.ensures) c.barred.ensures
