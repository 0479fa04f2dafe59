use Rattle.sb_function.proofs.Steps.Words.{value_given}
use Rattle.sb_function.proofs.words.take_value.Goals as goal

pub returns : goal.returns
returns c = record { read = rw (value_given c.args.params.now c.args.pieces.now, ← c.peek.ensures.lexeme, ← c.value_at.ensures.value) c.advance.ensures.read }
