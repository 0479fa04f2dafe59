use Rattle.sb_function.proofs.Steps.Words.{array_given}
use Rattle.sb_function.proofs.words.take_array.Goals as goal

pub returns : goal.returns
returns c = record { read = rw (array_given c.args.params.now c.args.pieces.now, ← c.peek.ensures.lexeme, ← c.array_at.ensures.array) c.advance.ensures.read }
