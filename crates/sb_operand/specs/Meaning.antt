-- What operands, the types of specifiers and the pieces of declarators stand for in the definitions.
use Rattle.std.specs.Prelude.{◌≡◌, ◌≤◌, ◌+◌, ℕ, List, length, map, reverse, Option, Some, None, Result, Ok, Err}
use Rattle.std.specs.declared.alloc.Global.{Global}
use Rattle.std.specs.declared.boxed.Box.{Box}
use Rattle.sb_base.specs.declared.tokens.Token.{Token}
use Rattle.sb_parse.specs.Parser.{Outcome, done}
use Rattle.sb_tree.specs.declared.syntax.Expr.{Expr}
use Rattle.sb_tree.specs.Plain.{plain_expr, plain_type, plain_decls, expr_list, decl_list}
use Rattle.sb_tree.specs.Trees as tree
use Rattle.sb_tree.specs.Trees.{ExprTree, OptionalExpr, TypeTree, depth_of_expr, depth_of_exprs, depth_of_optional_expr, depth_of_decls, depth_of_type}
use Rattle.sb_operand.specs.declared.declarators.Pieces.{Pieces}
use Rattle.sb_operand.specs.declared.pieces.Piece as declared_piece
use Rattle.sb_operand.specs.declared.pieces.Piece.TheVariants as piece
use Rattle.sb_operand.specs.declared.found.Found.{Found}
use Rattle.sb_lexicon.specs.declared.reading.ReadFault.{ReadFault}
use Rattle.sb_operand.specs.declared.base_types.Based.{Based}
use Rattle.sb_lexicon.specs.Meaning.{IsFault}
use Rattle.sb_operand.specs.Pieces.{Piece, Constant, Pointed, Arrayed, Called, Grouped, depth_over}

abbrev pub IsKnown : Found → Type 0
IsKnown f = f.depth ≡ depth_of_expr (plain_expr f.tree.value)

abbrev pub Reads : Outcome Token ExprTree → Result Found ReadFault → Type 0
Reads o (Ok f) = (o ≡ done (plain_expr f.tree.value) f.rest.now) × IsKnown f
Reads o (Err e) = IsFault o e

-- ---- specifiers

abbrev pub ReadsBase : Outcome Token TypeTree → Result Based ReadFault → Type 0
ReadsBase o (Ok b) = (o ≡ done (plain_type b.tree.value) b.rest.now) × (b.depth ≡ depth_of_type (plain_type b.tree.value))
ReadsBase o (Err e) = IsFault o e

-- ---- declarators

abbrev pub boxed_expr : Option (Box Expr Global) → OptionalExpr
boxed_expr None = tree.NoExpr
boxed_expr (Some e) = tree.AnExpr (plain_expr e.value)

abbrev pub plain_piece : declared_piece.Piece → Piece
plain_piece piece.Constant = Constant
plain_piece (piece.Pointed place) = Pointed place
plain_piece (piece.Arrayed size place) = Arrayed (boxed_expr size) place
plain_piece (piece.Called params place) = Called (decl_list (plain_decls params.items)) place
plain_piece (piece.Grouped place) = Grouped place

-- pieces are held in the order of being read, the last one first on the type
abbrev pub plain_pieces : List declared_piece.Piece → List Piece
plain_pieces ps = map plain_piece (reverse ps)

abbrev pub depth_of_piece : Piece → ℕ
depth_of_piece (Arrayed size place) = depth_of_optional_expr size
depth_of_piece (Called params place) = depth_of_decls params
depth_of_piece _ = 0

-- how deep the pieces make a type of no depth
abbrev pub IsDeep : Pieces → Type 0
IsDeep p = p.depth ≡ depth_over 0 (plain_pieces p.list.items)

-- at most so many pieces, and no deeper than types of this depth with one more node
abbrev pub IsSized : (below room : ℕ) → Pieces → Type 0
IsSized below room p = (length p.list.items ≤ room) × (p.depth ≤ below + 1)

abbrev pub ReadsPieces : Outcome Token (List Piece) → Result Pieces ReadFault → Type 0
ReadsPieces o (Ok p) = (o ≡ done (plain_pieces p.list.items) p.rest.now) × IsDeep p
ReadsPieces o (Err e) = IsFault o e

-- ---- expressions

abbrev pub plain_found : Found → ExprTree
plain_found f = plain_expr f.tree.value

abbrev pub depth_of_list : List ExprTree → ℕ
depth_of_list es = depth_of_exprs (expr_list es)
