use Rattle.std.proofs.Common.{sym}
use Rattle.sb_lex.proofs.Settling.{byte_at_end}
use Rattle.sb_lex.proofs.cursor.Cursor.byte.Goals as goal

pub returns-in-None : goal.returns-in-None
returns-in-None c = sym (byte_at_end c.args.self.now c.in-None.ensures)
