use Rattle.std.proofs.Common.{sym}
use Rattle.sb_parse.specs.Parser.{refuse}
use Rattle.sb_lexicon.specs.Meaning.{meant}
use Rattle.sb_specifier.specs.declared.seat.Seat.TheVariants as seat
use Rattle.sb_specifier.specs.Readers.{Declarations}
use Rattle.sb_statement.proofs.steps.Barred.{barred_else}
use Rattle.sb_lexicon.specs.Tokens.{too_deep}
use Rattle.sb_statement.specs.Readers.{begins_statement}
use Rattle.sb_statement.proofs.room.no_item.Goals as goal

pub returns : goal.returns
returns c = barred_else Declarations (meant c.args.lexicon.now) seat.Scope (begins_statement (meant c.args.lexicon.now) c.args.cases) (refuse too_deep) c.args.tokens.now _ (sym c.if-is_statement_next.ensures) c.barred.ensures
