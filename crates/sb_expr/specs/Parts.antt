-- The parts of the longer readers that are functions of their own in code.
use Rattle.std.specs.Prelude.{ℕ, Bool, []}
use Rattle.sb_base.specs.declared.refusals.Place.{Place}
use Rattle.sb_base.specs.declared.tokens.Token.{Token}
use Rattle.sb_parse.specs.Parser.{Parser, ◌>>=◌, pure, refuse, token, taken, choose, guard}
use Rattle.sb_tree.specs.Trees as tree
use Rattle.sb_tree.specs.Trees.{ExprTree, OptionalExpr}
use Rattle.sb_lexicon.specs.Lexicon.{Lexicon}
use Rattle.sb_operand.specs.Readers.{PieceReader}
use Rattle.sb_expr.specs.Readers.{ExprReader, in_parentheses}
use Rattle.sb_lexicon.specs.Tokens.{unexpected, too_deep, is_open, is_close_bracket, is_zero, member_of, begins_expr}

-- ---- declarators

abbrev pub sized : Lexicon → ExprReader → Parser Token OptionalExpr
sized w size = choose (is_close_bracket w) (pure tree.NoExpr) (size >>= (λ e. pure (tree.AnExpr e)))

abbrev pub enclosed : Lexicon → (ℕ → Parser Token ExprTree) → ℕ → (ℕ → PieceReader) → PieceReader
enclosed w size below rest = choose (is_open w) (guard (is_zero below) too_deep (in_parentheses w size below rest)) (pure [])

-- ---- expressions

abbrev pub member : Lexicon → ExprTree → Bool → Place → ExprReader
member w e arrow at = taken unexpected (member_of w) >>= (λ n. pure (tree.Member e arrow n.0 n.1 at))

abbrev pub no_room_inside : Lexicon → ExprReader
no_room_inside w = token unexpected (is_open w) >>= (λ o. choose (begins_expr w) (refuse too_deep) (refuse unexpected))

-- ---- without room for a tree

abbrev pub no_expr : Lexicon → ExprReader
no_expr w = choose (begins_expr w) (refuse too_deep) (refuse unexpected)
