use Rattle.std.proofs.Common.{sym, ap, drop, ◌∙◌}
use Rattle.sb_lex.proofs.Settling.{drop_more}
use Rattle.sb_lex.proofs.cursor.Cursor.skip.Goals as goal

pub skipped-preserved : goal.skipped-preserved
skipped-preserved c = c.bump.ensures ∙ ap (drop 1) c.skipped.invariant ∙ sym (drop_more c.args.self.now c.skipped.counter)
