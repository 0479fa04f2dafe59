-- Lists of trees and of pieces with one more at the end.
use Rattle.std.proofs.Common.{◌≡◌, suc, List, [], ◌∷◌, ◌++◌, length, map, reverse, max, refl, ap, ◌∙◌, arith}
use Rattle.std.proofs.lemmas.List.{reverse-append, length-reverse}
use Rattle.sb_tree.specs.declared.syntax.Expr.{Expr}
use Rattle.sb_tree.specs.Plain.{plain_expr, plain_exprs}
use Rattle.sb_tree.specs.Trees.{ExprTree, depth_of_expr}
use Rattle.sb_operand.specs.declared.pieces.Piece.{Piece}
use Rattle.sb_operand.specs.Meaning.{plain_piece, plain_pieces, depth_of_list}

pub more_exprs : (es : List Expr) (e : Expr) → plain_exprs (es ++ (e ∷ [])) ≡ plain_exprs es ++ (plain_expr e ∷ [])
more_exprs [] e = refl
more_exprs (x ∷ es) e = ap (λ l. plain_expr x ∷ l) (more_exprs es e)

pub depth_of_more : (es : List ExprTree) (e : ExprTree) → depth_of_list (es ++ (e ∷ [])) ≡ max (depth_of_list es) (depth_of_expr e)
depth_of_more [] e = omega arith
depth_of_more (x ∷ es) e = ap (λ n. max (depth_of_expr x) n) (depth_of_more es e) ∙ (omega arith)

pub one_more_piece : (ps : List Piece) (p : Piece) → plain_pieces (ps ++ (p ∷ [])) ≡ plain_piece p ∷ plain_pieces ps
one_more_piece ps p = ap (map plain_piece) (reverse-append ps (p ∷ []))

count_mapped : (ps : List Piece) → length (map plain_piece ps) ≡ length ps
count_mapped [] = refl
count_mapped (p ∷ ps) = ap suc (count_mapped ps)

pub count_of_pieces : (ps : List Piece) → length (plain_pieces ps) ≡ length ps
count_of_pieces ps = count_mapped (reverse ps) ∙ length-reverse ps
