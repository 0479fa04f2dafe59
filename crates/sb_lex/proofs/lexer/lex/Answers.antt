use Rattle.sb_lex.proofs.OneReading.{one_reading}
use Rattle.sb_lex.proofs.lexer.lex.Goals as goal

pub returns-clause-only : goal.returns-clause-only
returns-clause-only c = λ distinct ps qs later more end other first second. one_reading _ _ distinct first second

pub returns-clause-limit : goal.returns-clause-limit
returns-clause-limit c = c.pieces.ensures.table.limit

pub returns-clause-numbers : goal.returns-clause-numbers
returns-clause-numbers c = c.pieces.ensures.table.numbers

pub returns-clause-distinct : goal.returns-clause-distinct
returns-clause-distinct c = c.pieces.ensures.table.distinct

pub returns-clause-within : goal.returns-clause-within
returns-clause-within c = c.pieces.ensures.table.within
