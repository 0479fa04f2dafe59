use Rattle.sb_function.proofs.Steps.Headers.{named_given}
use Rattle.sb_function.proofs.param_list.take_number.Goals as goal

pub returns : goal.returns
returns c = record { read = rw (named_given _ c.args.pieces.now, ← c.peek.ensures.lexeme, ← c.number_at.ensures.name) c.advance.ensures.read }
