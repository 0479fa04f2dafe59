use Rattle.sb_function.proofs.Steps.Words.{simple_given}
use Rattle.sb_function.proofs.words.take_simple.Goals as goal

pub returns : goal.returns
returns c = record { read = rw (simple_given c.args.params.now c.args.pieces.now, ← c.peek.ensures.lexeme, ← c.simple_at.ensures.simple) c.advance.ensures.read }
