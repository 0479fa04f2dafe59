use Rattle.std.proofs.Common.{◌∙◌}
use Rattle.sb_lex.proofs.Standing.{no_backslash}
use Rattle.sb_lex.proofs.item.ordinary_item.Goals as goal

pub returns-clause-item : goal.returns-clause-item
returns-clause-item c =
    c.plain_item.ensures.item
    ∙ no_backslash c.args.text.now _ _ _ _ _ _ _ c.ahead-second.ensures c.ahead-third.ensures c.ahead-fourth.ensures c.byte-first.ensures c.if-first-eq92.false c.byte.ensures c.byte-2.ensures c.byte-3.ensures
