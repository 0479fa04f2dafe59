-- What the calls for expressions and type names say of texts of any depth.
use Rattle.std.specs.Prelude.{◌≡◌, ℕ, Bool, true, false, ◌&&◌, ◌||◌, List, [], ◌∷◌, Result, if◌then◌else◌}
use Rattle.sb_base.specs.declared.refusals.Stop.{Stop}
use Rattle.sb_base.specs.declared.tokens.Token.{Token}
use Rattle.sb_parse.specs.Parser.{never}
use Rattle.sb_sign.specs.declared.sign.Keyword.TheVariants as keyword
use Rattle.sb_tree.specs.declared.operator.UnaryOp.{UnaryOp}
use Rattle.sb_tree.specs.declared.operator.UnaryOp.TheVariants as unary
use Rattle.sb_tree.specs.declared.syntax.Expr.{Expr}
use Rattle.sb_tree.specs.declared.syntax.TypeName.{TypeName}
use Rattle.sb_tree.specs.Plain.{plain_expr, plain_type}
use Rattle.sb_tree.specs.Trees as tree
use Rattle.sb_tree.specs.Trees.{ExprTree}
use Rattle.sb_lexicon.specs.Lexicon.{Lexicon, is_keyword, is_type_word}
use Rattle.sb_lexicon.specs.Reasons.{HasReason}
use Rattle.sb_lexicon.specs.Tokens.{is_open_brace}
use Rattle.sb_operand.specs.Pieces.{Piece, Constant, Pointed, Declared, type_of}
use Rattle.sb_operand.specs.Readers.{calls}
use Rattle.sb_expr.specs.Expression.{Sequence, IsExpr, IsType}
use Rattle.sb_expr.specs.Readers.{expr_reader, type_reader}
use Rattle.sb_expr.specs.Reads.{FitsExpr, FitsType}

-- ---- expressions

abbrev pub is_behind : UnaryOp → Bool
is_behind unary.PostInc = true
is_behind unary.PostDec = true
is_behind _ = false

-- the text of the tree ends with the closing parenthesis of `sizeof (type)`
abbrev pub ends_in_type : ExprTree → Bool
ends_in_type (tree.Unary op e place) = if is_behind op then false else ends_in_type e
ends_in_type (tree.Binary op e f place) = ends_in_type f
ends_in_type (tree.Assign op e f place) = ends_in_type f
ends_in_type (tree.Cond e f g place) = ends_in_type g
ends_in_type (tree.Cast t e place) = ends_in_type e
ends_in_type (tree.SizeOfType t place) = true
ends_in_type (tree.SizeOfExpr e place) = ends_in_type e
ends_in_type _ = false

-- the brace of a compound literal, behind the parenthesis of `sizeof (type)` (C99 6.5.2.5)
abbrev pub shows_literal : Lexicon → ExprTree → Token → Bool
shows_literal w e t = ends_in_type e && is_open_brace w t

-- a 31 stands behind no expression
abbrev pub HasExprReason : Lexicon → List Token → (next left now : ℕ) → Result Expr Stop → Type 0
HasExprReason w tokens next left now result =
    HasReason w (expr_reader w left Sequence) (FitsExpr w left Sequence) (IsExpr w Sequence) never (shows_literal w) (λ a e. a ≡ plain_expr e) tokens next now result

-- ---- type names

-- the pieces of a declarator behind its pointers
abbrev pub behind_pointers : List Piece → List Piece
behind_pointers [] = []
behind_pointers (Constant ∷ ps) = behind_pointers ps
behind_pointers (Pointed place ∷ ps) = behind_pointers ps
behind_pointers ps = ps

abbrev pub is_empty : List Piece → Bool
is_empty [] = true
is_empty (p ∷ ps) = false

-- a word of a type that the type before it does not have; `volatile` behind a `*`; the parenthesis behind `(*)`, where only a function goes on
abbrev pub shows_other_type : Lexicon → Declared → Token → Bool
shows_other_type w d t = (is_empty d.pieces && is_type_word w t) || ((is_empty (behind_pointers d.pieces) && is_keyword w keyword.Volatile t) || calls w (behind_pointers d.pieces) t)

-- A 31 stands behind no type name but before a word of a type: `int` is a type name, and of `int int` the second word is refused, since the words together are no type (6.7.2).
abbrev pub HasTypeReason : Lexicon → List Token → (next left now : ℕ) → Result TypeName Stop → Type 0
HasTypeReason w tokens next left now result =
    HasReason w (type_reader w left) (FitsType w left) (IsType w) (is_type_word w) (shows_other_type w) (λ d t. type_of d ≡ plain_type t) tokens next now result
