use Rattle.std.proofs.Common.{ap, drop, ◌∙◌}
use Rattle.sb_lex.proofs.Settling.{behind}
use Rattle.sb_lex.proofs.cursor.Cursor.bump.Goals as goal

pub returns-else-byte-eq10 : goal.returns-else-byte-eq10
returns-else-byte-eq10 c =
    c.self-else-byte-eq10.view_is ∙ c.cursor_at-else-byte-eq10.ensures
    ∙ behind c.self.inside.line c.self.inside.col _ c.self.inside.rest.now _ c.self.invariant.no_return c.self.invariant.no_splice c.in-Some.ensures.cases.0 c.if-byte-eq10.false
    ∙ ap (drop 1) c.self.view_is
