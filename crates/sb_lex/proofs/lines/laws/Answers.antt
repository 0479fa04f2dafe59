use Rattle.sb_lex.proofs.Splices.{place_free, joins_lines}
use Rattle.sb_lex.proofs.lines.laws.Goals as goal

pub returns-clause-places : goal.returns-clause-places
returns-clause-places c = place_free

pub returns-clause-splices : goal.returns-clause-splices
returns-clause-splices c = joins_lines
