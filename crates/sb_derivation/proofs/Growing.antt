-- How deep a member or a parameter is.
use Rattle.std.proofs.Common.{◌≡◌, ℕ, suc, ◌+◌, List, length, max, Option, sym, arith}
use Rattle.sb_base.specs.declared.interning.Name.{Name}
use Rattle.sb_base.specs.declared.refusals.Place.{Place}
use Rattle.sb_tree.specs.Plain.{note_list}
use Rattle.sb_tree.specs.Trees.{NoteTree, TypeTree, depth_of_decl, depth_of_notes, depth_of_type}
use Rattle.sb_operand.specs.declared.pieces.Piece.{Piece}
use Rattle.sb_operand.specs.Meaning.{plain_pieces}
use Rattle.sb_operand.specs.Pieces.{depth_over}
use Rattle.sb_operand.proofs.PieceDepths.{depth_of_typed}
use Rattle.sb_derivation.specs.Parts.{simple_decl}

-- a member or a parameter
pub depth_of_simple : (notes : List NoteTree) (base : TypeTree) (ps : List Piece) (name : Option (Name × Place)) (inner : List Name) (place : Place) (n b p : ℕ)
    → n ≡ depth_of_notes (note_list notes) → b ≡ depth_of_type base → p ≡ depth_over 0 (plain_pieces ps)
    → depth_of_decl (simple_decl notes base (record { pieces = plain_pieces ps; name = name; inner = inner }) place) ≡ suc (max n (max p (b + length ps)))
depth_of_simple notes base ps name inner place n b p noted is deep = rw (depth_of_typed base ps b p is deep, sym noted) (omega arith)
