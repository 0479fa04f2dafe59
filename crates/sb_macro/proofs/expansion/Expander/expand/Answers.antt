use Rattle.std.proofs.Common.{sym}
use Rattle.sb_macro.proofs.EndingLaws.{text_expands, text_halts}
use Rattle.sb_macro.proofs.expansion.Expander.expand.Goals as goal

pub returns-in-None : goal.returns-in-None
returns-in-None c = text_expands _ c.args.list.now c.in_ok-given.given.pieces.items c.in_ok-given.given.end _ c.in_ok-given.ensures (sym c.in-None.ensures)

pub returns-in-Some : goal.returns-in-Some
returns-in-Some c = text_halts _ c.args.list.now c.in_ok-given.given.pieces.items c.in_ok-given.given.end _ c.in-Some.halt c.place_of_last.ensures c.in_ok-given.ensures (sym c.in-Some.ensures)
