use Rattle.sb_lex.proofs.Literals.{one_text}
use Rattle.sb_lex.proofs.values.literal_bytes.Goals as goal

pub returns-in-Some-clause-only : goal.returns-in-Some-clause-only
returns-in-Some-clause-only c = one_text c.args.text.now
