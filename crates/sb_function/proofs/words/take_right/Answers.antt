use Rattle.sb_function.proofs.Steps.Words.{right_given}
use Rattle.sb_function.proofs.words.take_right.Goals as goal

pub returns : goal.returns
returns c = record { read = rw (right_given c.args.params.now c.args.left c.args.pieces.now, ← c.peek.ensures.lexeme, ← c.right_at.ensures.right) c.advance.ensures.read }
