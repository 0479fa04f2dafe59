use Rattle.std.proofs.Common.{◌≡◌, length}
use Rattle.sb_tree.specs.Plain.{plain_type}
use Rattle.sb_operand.specs.Meaning.{plain_pieces}
use Rattle.sb_operand.specs.Pieces as spec
use Rattle.sb_operand.proofs.pieces.typed.Given as goal

abbrev pub decreases-loop-piece : goal.decreases-loop-piece
decreases-loop-piece l = length l.left.items

abbrev pub invariant-loop-piece : goal.invariant-loop-piece
invariant-loop-piece l = spec.typed (plain_type l.fn.base.value) (plain_pieces l.fn.pieces.items) ≡ spec.typed (plain_type l.tree.value) (plain_pieces l.left.items)
