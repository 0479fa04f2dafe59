-- Which tokens go on from an expression or a type name, by its tree; and the laws of the readers of one depth.
use Rattle.std.specs.Prelude.{ℕ, zero, suc, Bool, false, ◌&&◌, ◌||◌, not, List, is_some, if◌then◌else◌}
use Rattle.sb_base.specs.declared.tokens.Token.{Token}
use Rattle.sb_parse.specs.Lawful.{Lawful}
use Rattle.sb_tree.specs.declared.operator.BinaryOp.TheVariants as binary
use Rattle.sb_tree.specs.Trees as tree
use Rattle.sb_tree.specs.Trees.{ExprTree}
use Rattle.sb_expr.specs.Expression.{Level, Primary, Postfix, Prefix, Infix, Conditional, Assignment, Sequence}
use Rattle.sb_lexicon.specs.Lexicon.{Lexicon, is_type_word, assignment_of}
use Rattle.sb_operand.specs.Pieces.{Piece, Declared}
use Rattle.sb_operand.specs.Readers.{begins_abstract, calls}
use Rattle.sb_expr.specs.Readers.{Parts, is_unary}
use Rattle.sb_lexicon.specs.Tokens.{is_suffix, is_operator, is_question, is_comma, is_open_brace, is_open_bracket, is_qualifier}
use Rattle.sb_expr.specs.Reads.{FitsExpr, FitsType}
pub use Rattle.sb_expr.specs.Reasons.{is_behind, ends_in_type, behind_pointers, is_empty}

-- a brace there would make a compound literal
abbrev pub more_operand : Lexicon → ExprTree → Token → Bool
more_operand w e t = if ends_in_type e then is_open_brace w t else is_suffix w t

abbrev pub more_infix : Lexicon → ℕ → ExprTree → Token → Bool
more_infix w zero e t = more_operand w e t
more_infix w (suc k) e t = is_operator w (suc k) t || more_infix w k e t

abbrev pub more_conditional : Lexicon → ExprTree → Token → Bool
more_conditional w e t = is_question w t || more_infix w 10 e t

-- the last operand of assignments and commas is a unary expression
abbrev pub ends_unary : ExprTree → Bool
ends_unary (tree.Assign op e f place) = ends_unary f
ends_unary (tree.Binary op e f place) = false
ends_unary e = is_unary e

abbrev pub more_assignment : Lexicon → ExprTree → Token → Bool
more_assignment w e t = (ends_unary e && is_some (assignment_of w t)) || more_conditional w e t

-- what stands behind the last comma
abbrev pub last_of : ExprTree → ExprTree
last_of (tree.Binary binary.Comma e f place) = f
last_of e = e

abbrev pub more : Lexicon → Level → ExprTree → Token → Bool
more w Primary e t = false
more w Postfix e t = is_suffix w t
more w Prefix e t = more_operand w e t
more w (Infix k) e t = more_infix w k e t
more w Conditional e t = more_conditional w e t
more w Assignment e t = more_assignment w e t
more w Sequence e t = is_comma w t || more_assignment w (last_of e) t

abbrev pub more_direct : Lexicon → List Piece → Token → Bool
more_direct w ps t = is_open_bracket w t || calls w ps t

abbrev pub more_abstract : Lexicon → List Piece → Token → Bool
more_abstract w ps t = if is_empty (behind_pointers ps) then begins_abstract w t || (not (is_empty ps) && is_qualifier w t) else more_direct w (behind_pointers ps) t

abbrev pub more_type : Lexicon → Declared → Token → Bool
more_type w d t = (is_empty d.pieces && is_type_word w t) || more_abstract w d.pieces t

-- the readers of one depth read the texts that fit it
pub record LawfulParts (w : Lexicon) (left : ℕ) (p : Parts) : Type 0 where
  pub expr : (level : Level) → Lawful (FitsExpr w left level) (more w level) (p.expr level)
  pub type_name : Lawful (FitsType w left) (more_type w) p.type_name
