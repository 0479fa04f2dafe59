-- How a call answers a type.
use Rattle.std.specs.Prelude.{◌≡◌, Result, Ok, Err}
use Rattle.std.specs.declared.alloc.Global.{Global}
use Rattle.std.specs.declared.boxed.Box.{Box}
use Rattle.std.specs.declared.vec.Vec.{Vec}
use Rattle.sb_base.specs.declared.refusals.Stop.{Stop}
use Rattle.sb_base.specs.declared.refusals.Stop.TheVariants as stop
use Rattle.sb_tree.specs.declared.syntax.TypeName.{TypeName}
use Rattle.sb_tree.specs.Plain.{plain_type}
use Rattle.sb_operand.specs.declared.pieces.Piece.{Piece}
use Rattle.sb_operand.specs.Meaning.{plain_pieces}
use Rattle.sb_operand.specs.Pieces.{typed}

-- memory may be wanting
abbrev pub MakesType : Box TypeName Global → Vec Piece Global → Result TypeName Stop → Type 0
MakesType base pieces (Ok t) = plain_type t ≡ typed (plain_type base.value) (plain_pieces pieces.items)
MakesType base pieces (Err e) = e ≡ stop.Memory
