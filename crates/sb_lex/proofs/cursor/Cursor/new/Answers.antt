use Rattle.std.proofs.Common.{arith, sym, ◌∙◌, ap, length, take, drop, ◌-◌}
use Rattle.std.proofs.lemmas.List.{length-drop, length-take}
use Rattle.sb_lex.proofs.Settling.{behind_mark, spliced_short}
use Rattle.sb_lex.proofs.cursor.Cursor.new.Goals as goal

pub returns-then-starts_with-clause-short : goal.returns-then-starts_with-clause-short
returns-then-starts_with-clause-short c =
    let bytes = c.args.bytes.now in
    let left = length bytes - 3 in
    omega (arith, ap length c.cursor_at.ensures, spliced_short 1 4 (take left (drop 3 bytes)), length-take left (drop 3 bytes), length-drop 3 bytes)

pub returns-else-starts_with-clause-short : goal.returns-else-starts_with-clause-short
returns-else-starts_with-clause-short c = omega (arith, ap length c.cursor_at-else-starts_with.ensures, spliced_short 1 1 c.args.bytes.now)

pub returns-then-starts_with-clause-text : goal.returns-then-starts_with-clause-text
returns-then-starts_with-clause-text c = c.cursor_at.ensures ∙ behind_mark c.args.bytes.now (sym c.starts_with.ensures.value ∙ c.if-starts_with.true)
