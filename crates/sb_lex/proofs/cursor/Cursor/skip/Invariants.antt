use Rattle.std.proofs.Common.{◌≡◌, drop}
use Rattle.sb_lex.proofs.cursor.Cursor.skip.Given as goal

abbrev pub invariant-skipped : goal.invariant-skipped
invariant-skipped l = l.self ≡ drop l.counter l.initial.self
