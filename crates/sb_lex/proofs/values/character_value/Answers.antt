use Rattle.sb_lex.proofs.Literals.{one_value}
use Rattle.sb_lex.proofs.values.character_value.Goals as goal

pub returns-then-is_empty-clause-only : goal.returns-then-is_empty-clause-only
returns-then-is_empty-clause-only c = one_value c.args.text.now

pub returns-else-is_empty-clause-only : goal.returns-else-is_empty-clause-only
returns-else-is_empty-clause-only c = one_value c.args.text.now

pub returns-in_err-body-clause-only : goal.returns-in_err-body-clause-only
returns-in_err-body-clause-only c = one_value c.args.text.now

pub returns-in_err-byte-clause-only : goal.returns-in_err-byte-clause-only
returns-in_err-byte-clause-only c = one_value c.args.text.now
