use Rattle.std.proofs.Common.{true≢false, sym, ◌∙◌}
use Rattle.sb_function.proofs.Steps.Marks.{mark_lacking}
use Rattle.sb_function.proofs.reading.take_mark.Goals as goal

pub returns-else-is_same : goal.returns-else-is_same
returns-else-is_same c = record { read = mark_lacking c.args.mark c.args.pieces.now c.in-Some.piece.now c.in-Some.rest.now c.requires.bare c.in-Some.ensures.cases.0 (λ e. true≢false (sym (c.is_same.ensures.same.1 e) ∙ c.if-is_same.false)) }
