use Rattle.sb_directive.proofs.Angles.{Gathered}
use Rattle.sb_directive.proofs.headers.up_to_angle.Given as goal

abbrev pub invariant-loop-piece : goal.invariant-loop-piece
invariant-loop-piece l = Gathered l.names.texts l.pieces l.text.items l.piece-index
