use Rattle.std.proofs.Common.{sym, ◌∙◌}
use Rattle.sb_lex.proofs.Fitting.{next_here}
use Rattle.sb_lex.proofs.fronts.next_at.Goals as goal

pub returns : goal.returns
returns c = c.next.ensures ∙ next_here c.args.scan c.args.text.now c.in_ok-spot.spot (sym c.in_ok-spot.was ∙ c.peek.ensures)
