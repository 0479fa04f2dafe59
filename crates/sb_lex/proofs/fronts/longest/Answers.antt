use Rattle.std.proofs.Common.{sym, ◌∙◌}
use Rattle.sb_lex.proofs.Fitting.{longest_at_end}
use Rattle.sb_lex.proofs.fronts.longest.Goals as goal

pub returns-in_default : goal.returns-in_default
returns-in_default c =
    longest_at_end c.args.start c.bytes.scan c.args.text.now c.bytes.ahead c.bytes.longest _ c.bytes.count c.bytes.invariant.goes c.longest_so_far-longest.ensures (sym c.next_at.ensures ∙ c.in_default.is)
