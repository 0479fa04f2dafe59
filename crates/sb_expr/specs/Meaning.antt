-- What the values of the readers of expressions and type names stand for in the definitions.
use Rattle.std.specs.Prelude.{◌≡◌, ℕ, List, Result, Ok, Err}
use Rattle.sb_base.specs.declared.tokens.Token.{Token}
use Rattle.sb_parse.specs.Parser.{Outcome, done}
use Rattle.sb_tree.specs.Plain.{plain_exprs, plain_type}
use Rattle.sb_tree.specs.Trees.{ExprTree, OptionalExpr, depth_of_optional_expr, depth_of_type}
use Rattle.sb_expr.specs.declared.declarators.Size.{Size}
use Rattle.sb_expr.specs.declared.expressions.Level as declared_level
use Rattle.sb_expr.specs.declared.expressions.Level.TheVariants as level
use Rattle.sb_expr.specs.declared.postfix.ArgumentList.{ArgumentList}
use Rattle.sb_lexicon.specs.declared.reading.ReadFault.{ReadFault}
use Rattle.sb_expr.specs.declared.type_names.NamedType.{NamedType}
use Rattle.sb_expr.specs.Expression.{Level, Prefix, Infix, Conditional, Assignment, Sequence}
use Rattle.sb_lexicon.specs.Lexicon.{Lexicon}
use Rattle.sb_lexicon.specs.Meaning.{IsFault}
use Rattle.sb_operand.specs.Meaning.{boxed_expr, plain_pieces, depth_of_list}
use Rattle.sb_operand.specs.Pieces.{Declared, type_of}
use Rattle.sb_operand.specs.Readers.{PieceReader}
use Rattle.sb_expr.specs.Readers.{ExprReader, Parts, parts, declarators, size_at}

-- ---- declarators

abbrev pub ReadsSize : Outcome Token OptionalExpr → Result Size ReadFault → Type 0
ReadsSize o (Ok s) = (o ≡ done (boxed_expr s.length) s.rest.now) × (s.depth ≡ depth_of_optional_expr (boxed_expr s.length))
ReadsSize o (Err e) = IsFault o e

abbrev pub plain_named : NamedType → Declared
plain_named t = record { base = plain_type t.base.value; pieces = plain_pieces t.pieces.items }

abbrev pub ReadsType : Outcome Token Declared → Result NamedType ReadFault → Type 0
ReadsType o (Ok t) = (o ≡ done (plain_named t) t.rest.now) × (t.depth ≡ depth_of_type (type_of (plain_named t)))
ReadsType o (Err e) = IsFault o e

-- ---- expressions

abbrev pub IsListKnown : ArgumentList → Type 0
IsListKnown a = a.depth ≡ depth_of_list (plain_exprs a.list.items)

abbrev pub ReadsList : Outcome Token (List ExprTree) → Result ArgumentList ReadFault → Type 0
ReadsList o (Ok a) = (o ≡ done (plain_exprs a.list.items) a.rest.now) × IsListKnown a
ReadsList o (Err e) = IsFault o e

abbrev pub plain_level : declared_level.Level → Level
plain_level level.Prefix = Prefix
plain_level (level.Infix k) = Infix k
plain_level level.Conditional = Conditional
plain_level level.Assignment = Assignment
plain_level level.Sequence = Sequence

abbrev pub rank_of : declared_level.Level → ℕ
rank_of (level.Infix k) = k
rank_of _ = 0

-- ---- readers of one depth

-- a reader whose parts may be so deep
abbrev pub nested : {X : Type 0} → (Lexicon → ℕ → (ℕ → Parts) → X) → Lexicon → ℕ → X
nested f w below = f w below (parts w below)

-- the declarators with room for `room - k` pieces
abbrev pub declared : Lexicon → (below room k : ℕ) → PieceReader
declared w below = declarators w (nested size_at w below)

-- a reader of a part of a declarator, over which so many pieces may stand
abbrev pub piecewise : {X : Type 0} → (Lexicon → (ℕ → ExprReader) → ℕ → (ℕ → PieceReader) → X) → Lexicon → (below room : ℕ) → X
piecewise f w below room = f w (nested size_at w below) room (declared w below room)
