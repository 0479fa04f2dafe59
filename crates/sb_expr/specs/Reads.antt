-- What reading an expression or a type name comes to, in the subject's words.
use Rattle.std.specs.Prelude.{◌≡◌, ℕ, ◌≤◌, List, drop, Result}
use Rattle.sb_base.specs.declared.refusals.Stop.{Stop}
use Rattle.sb_base.specs.declared.tokens.Token.{Token}
use Rattle.sb_tree.specs.declared.syntax.Expr.{Expr}
use Rattle.sb_tree.specs.declared.syntax.TypeName.{TypeName}
use Rattle.sb_tree.specs.Plain.{plain_expr, plain_type}
use Rattle.sb_tree.specs.Trees.{ExprTree, depth_of_expr, depth_of_type}
use Rattle.sb_expr.specs.Expression.{Level, Sequence, IsExpr, IsType}
use Rattle.sb_lexicon.specs.Lexicon.{Lexicon}
use Rattle.sb_lexicon.specs.Outcomes.{IsOutcome}
use Rattle.sb_operand.specs.Pieces.{Declared, type_of}
use Rattle.sb_expr.specs.Readers.{expr_reader, type_reader}

-- an expression whose tree is at most so deep
abbrev pub FitsExpr : Lexicon → ℕ → Level → List Token → ExprTree → Type 0
FitsExpr w left level ts e = IsExpr w level ts e × (depth_of_expr e ≤ left)

-- a type name whose tree is at most so deep
abbrev pub FitsType : Lexicon → ℕ → List Token → Declared → Type 0
FitsType w left ts d = IsType w ts d × (depth_of_type (type_of d) ≤ left)

-- the expression that the tokens from a place on begin with, or their refusal
abbrev pub IsExprRead : Lexicon → List Token → (next left now : ℕ) → Result Expr Stop → Type 0
IsExprRead w tokens next left now result = IsOutcome (λ a e. a ≡ plain_expr e) (expr_reader w left Sequence (drop next tokens)) tokens now result

abbrev pub IsTypeRead : Lexicon → List Token → (next left now : ℕ) → Result TypeName Stop → Type 0
IsTypeRead w tokens next left now result = IsOutcome (λ a t. type_of a ≡ plain_type t) (type_reader w left (drop next tokens)) tokens now result
