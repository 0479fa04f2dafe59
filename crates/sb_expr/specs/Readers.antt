-- The readers of expressions and type names, as functions on the tokens that are left.
use Rattle.std.specs.Prelude.{ℕ, zero, suc, ◌-◌, ◌+◌, Bool, true, false, ◌&&◌, ◌||◌, List, [], ◌∷◌, ◌++◌, length, nat_lt, is_some, if◌then◌else◌}
use Rattle.sb_base.specs.declared.refusals.Place.{Place}
use Rattle.sb_base.specs.declared.tokens.Token.{Token}
use Rattle.sb_parse.specs.Parser.{Parser, ◌>>=◌, pure, refuse, token, taken, choose, guard, looped}
use Rattle.sb_tree.specs.declared.operator.BinaryOp.TheVariants as binary
use Rattle.sb_sign.specs.declared.sign.Keyword.TheVariants as keyword
use Rattle.sb_tree.specs.Plain.{expr_list}
use Rattle.sb_tree.specs.Trees as tree
use Rattle.sb_tree.specs.Trees.{ExprTree, OptionalExpr, depth_of_expr, depth_of_type}
use Rattle.sb_lexicon.specs.declared.operators.Suffix.{Suffix}
use Rattle.sb_lexicon.specs.declared.operators.Suffix.TheVariants as suffix
use Rattle.sb_parse.specs.Descent.{descent, choose_second}
use Rattle.sb_expr.specs.Expression.{Level, Primary, Postfix, Prefix, Infix, Conditional, Assignment, Sequence}
use Rattle.sb_lexicon.specs.Lexicon.{Lexicon, is_keyword, begins_type, operand_of, operator_of, prefix_of, step_of, assignment_of, suffix_of}
use Rattle.sb_operand.specs.Pieces.{Piece, Pointed, Arrayed, Grouped, constant_if, Declared, type_of}
use Rattle.sb_operand.specs.Readers.{PieceReader, begins_abstract, begins_parameters, calls, one_if, no_declarator}
use Rattle.sb_lexicon.specs.Words.{Nothing}
use Rattle.sb_lexicon.specs.SpecifierReaders.{is_floating, is_complex, is_union, base_type}
use Rattle.sb_lexicon.specs.Tokens.{unexpected, too_deep, floating, union, function_pointer, volatile, complex, compound_literal, is_zero, is_open, is_close, is_open_bracket, is_close_bracket, is_comma, is_question, is_colon, is_star, is_open_brace, is_size_of, is_prefix, is_step, is_suffix, is_operator, begins_expr, member_of, is_qualifier}

-- a tree of a unary expression (6.5.3): what may stand on the left of an assignment
abbrev pub is_unary : ExprTree → Bool
is_unary (tree.Binary op e f place) = false
is_unary (tree.Assign op e f place) = false
is_unary (tree.Cond e f g place) = false
is_unary (tree.Cast t e place) = false
is_unary _ = true

-- `=` and the like, behind what may stand on its left
abbrev pub assigns : Lexicon → ExprTree → Token → Bool
assigns w e t = is_unary e && is_some (assignment_of w t)

-- ---- declarators without a name

-- `size n`: the reader of the size of an array below n pieces; `below`: how many pieces may stand above one; `rest k`: the reader of a declarator with room for `below - k` pieces
module _ (w : Lexicon) (size : ℕ → Parser Token ExprTree) (below : ℕ) (rest : ℕ → PieceReader) where
  unfoldable pub qualifier : Bool → Parser Token Bool
  qualifier c =
      choose (is_keyword w keyword.Const) (guard (is_zero below) too_deep (token unexpected (is_keyword w keyword.Const) >>= (λ t. pure true)))
      (choose (is_keyword w keyword.Restrict) (token unexpected (is_keyword w keyword.Restrict) >>= (λ t. pure c))
      (refuse volatile))

  unfoldable pub pointed : PieceReader
  pointed = token unexpected (is_star w) >>= (λ t. looped (is_qualifier w) qualifier false >>= (λ c. rest (one_if c) >>= (λ ps. pure (Pointed t.place ∷ constant_if c ps))))

  unfoldable pub inside : Token → PieceReader
  inside o = rest 0 >>= (λ ps. token unexpected (is_close w) >>= (λ c. pure (Grouped o.place ∷ ps)))

  unfoldable pub in_parentheses : PieceReader
  in_parentheses = token unexpected (is_open w) >>= (λ o.
      choose (begins_abstract w) (inside o)
      (choose (begins_parameters w) (refuse function_pointer)
      (refuse unexpected)))

  unfoldable pub sized : ℕ → Parser Token OptionalExpr
  sized n = choose (is_close_bracket w) (pure tree.NoExpr) (size n >>= (λ e. pure (tree.AnExpr e)))

  -- one more array
  unfoldable pub arrayed : List Piece → PieceReader
  arrayed ps = guard (nat_lt below (length ps)) too_deep
      (token unexpected (is_open_bracket w) >>= (λ o. sized (length ps) >>= (λ e. token unexpected (is_close_bracket w) >>= (λ c. pure (Arrayed e o.place ∷ ps)))))

  unfoldable pub direct : PieceReader
  direct = choose (is_open w) (guard (is_zero below) too_deep in_parentheses) (pure []) >>= looped (is_open_bracket w) arrayed >>= (λ ps.
      choose (calls w ps) (refuse function_pointer) (pure ps))

  unfoldable pub abstract_declarator : PieceReader
  abstract_declarator = choose (is_star w) pointed direct

-- declarators with room for `room - k` pieces
abbrev pub declarators : Lexicon → (ℕ → Parser Token ExprTree) → (room k : ℕ) → PieceReader
declarators w size = descent (no_declarator w) (abstract_declarator w size)

-- ---- expressions and type names

abbrev pub ExprReader : Type 0
ExprReader = Parser Token ExprTree

-- the readers of texts of one depth
pub record Parts : Type 0 where
  pub expr : Level → ExprReader
  pub type_name : Parser Token Declared

-- `below`: how deep the parts of a tree may be; `part k`: the readers of depth `below - k`
module _ (w : Lexicon) (below : ℕ) (part : ℕ → Parts) where
  abbrev pub within : Level → ExprReader
  within = (part 0).expr

  unfoldable pub grouped : ExprReader
  grouped = token unexpected (is_open w) >>= (λ o. within Sequence >>= (λ e. token unexpected (is_close w) >>= (λ c. pure (tree.Paren e o.place))))

  unfoldable pub primary : ExprReader
  primary = choose (is_open w) (guard (is_zero below) too_deep grouped) (taken unexpected (operand_of w))

  unfoldable pub next_argument : List ExprTree → Parser Token (List ExprTree)
  next_argument es = token unexpected (is_comma w) >>= (λ t. within Assignment >>= (λ e. pure (es ++ (e ∷ []))))

  unfoldable pub some_arguments : Parser Token (List ExprTree)
  some_arguments = within Assignment >>= (λ e. looped (is_comma w) next_argument (e ∷ []))

  unfoldable pub arguments : Parser Token (List ExprTree)
  arguments = choose (is_close w) (pure []) some_arguments

  unfoldable pub indexed : ExprTree → Place → ExprReader
  indexed e at = within Sequence >>= (λ f. token unexpected (is_close_bracket w) >>= (λ c. pure (tree.Index e f at)))

  unfoldable pub called : ExprTree → Place → ExprReader
  called e at = arguments >>= (λ es. token unexpected (is_close w) >>= (λ c. pure (tree.Call e (expr_list es) at)))

  unfoldable pub member : ExprTree → Bool → Place → ExprReader
  member e arrow at = taken unexpected (member_of w) >>= (λ n. pure (tree.Member e arrow n.0 n.1 at))

  abbrev pub suffixed_by : ExprTree → Suffix → ExprReader
  suffixed_by e (suffix.Index at) = indexed e at
  suffixed_by e (suffix.Call at) = called e at
  suffixed_by e (suffix.Member arrow at) = member e arrow at
  suffixed_by e (suffix.Step op at) = pure (tree.Unary op e at)

  unfoldable pub suffixed : ExprTree → ExprReader
  suffixed e = guard (nat_lt below (depth_of_expr e)) too_deep (taken unexpected (suffix_of w) >>= suffixed_by e)

  unfoldable pub postfix : ExprReader
  postfix = primary >>= looped (is_suffix w) suffixed

  unfoldable pub prefixed : ExprReader
  prefixed = taken unexpected (prefix_of w) >>= (λ op. within (Infix 0) >>= (λ e. pure (tree.Unary op.0 e op.1)))

  unfoldable pub stepping : ExprReader
  stepping = taken unexpected (step_of w) >>= (λ op. within Prefix >>= (λ e. pure (tree.Unary op.0 e op.1)))

  -- the type between parentheses behind `sizeof`
  unfoldable pub size_of_type : Place → ExprReader
  size_of_type at = token unexpected (is_open w) >>= (λ o. (part 0).type_name >>= (λ t. token unexpected (is_close w) >>= (λ c.
      choose (is_open_brace w) (refuse compound_literal) (pure (tree.SizeOfType (type_of t) at)))))

  -- no expression in parentheses has room there
  unfoldable pub no_room_inside : ExprReader
  no_room_inside = token unexpected (is_open w) >>= (λ o. choose (begins_expr w) (refuse too_deep) (refuse unexpected))

  unfoldable pub size_of_expr : Place → ExprReader
  size_of_expr at = within Prefix >>= (λ e. pure (tree.SizeOfExpr e at))

  unfoldable pub size_of_either : Place → ExprReader
  size_of_either at = choose_second (begins_type w) (size_of_type at) (if nat_lt below 2 then no_room_inside else size_of_expr at)

  unfoldable pub size_of : ExprReader
  size_of = token unexpected (is_size_of w) >>= (λ s. choose (is_open w) (size_of_either s.place) (size_of_expr s.place))

  unfoldable pub prefix_expr : ExprReader
  prefix_expr =
      choose (is_prefix w) (guard (is_zero below) too_deep prefixed)
      (choose (is_step w) (guard (is_zero below) too_deep stepping)
      (choose (is_size_of w) (guard (is_zero below) too_deep size_of)
      postfix))

  unfoldable pub cast : ExprReader
  cast = token unexpected (is_open w) >>= (λ o. (part 0).type_name >>= (λ t. token unexpected (is_close w) >>= (λ c.
      choose (is_open_brace w) (refuse compound_literal) (within (Infix 0) >>= (λ e. pure (tree.Cast (type_of t) e o.place))))))

  unfoldable pub cast_expr : ExprReader
  cast_expr = choose (is_open w) (guard (is_zero below) too_deep (choose_second (begins_type w) cast prefix_expr)) prefix_expr

  -- an operator and its right operand
  unfoldable pub operated : ℕ → ExprTree → ExprReader
  operated k e = guard (nat_lt below (depth_of_expr e)) too_deep
      (taken unexpected (operator_of w (suc k)) >>= (λ op. within (Infix k) >>= (λ f. pure (tree.Binary op.0 e f op.1))))

  unfoldable pub infix_at : ℕ → ExprReader
  infix_at zero = cast_expr
  infix_at (suc k) = infix_at k >>= looped (is_operator w (suc k)) (operated k)

  unfoldable pub branches : ExprTree → ExprReader
  branches e = token unexpected (is_question w) >>= (λ q. within Sequence >>= (λ f. token unexpected (is_colon w) >>= (λ c. within Conditional >>= (λ g. pure (tree.Cond e f g q.place)))))

  unfoldable pub conditional : ExprReader
  conditional = infix_at 10 >>= (λ e. choose (is_question w) (guard (nat_lt below (depth_of_expr e)) too_deep (branches e)) (pure e))

  unfoldable pub assigned : ExprTree → ExprReader
  assigned e = taken unexpected (assignment_of w) >>= (λ op. within Assignment >>= (λ f. pure (tree.Assign op.0 e f op.1)))

  unfoldable pub assignment : ExprReader
  assignment = conditional >>= (λ e. choose (assigns w e) (guard (nat_lt below (depth_of_expr e)) too_deep (assigned e)) (pure e))

  -- a comma and what follows it
  unfoldable pub followed : ExprTree → ExprReader
  followed e = guard (nat_lt below (depth_of_expr e)) too_deep
      (token unexpected (is_comma w) >>= (λ t. within Assignment >>= (λ f. pure (tree.Binary binary.Comma e f t.place))))

  unfoldable pub sequence : ExprReader
  sequence = assignment >>= looped (is_comma w) followed

  abbrev pub at_level : Level → ExprReader
  at_level Primary = primary
  at_level Postfix = postfix
  at_level Prefix = prefix_expr
  at_level (Infix k) = infix_at k
  at_level Conditional = conditional
  at_level Assignment = assignment
  at_level Sequence = sequence

  abbrev pub size_at : ℕ → ExprReader
  size_at n = (part n).expr Assignment

  -- a type and its declarator, which has the room that the type leaves
  unfoldable pub type_named : Parser Token Declared
  type_named = base_type w (is_zero below) >>= (λ t. declarators w size_at (suc below - depth_of_type t) 0 >>= (λ ps. pure (record { base = t; pieces = ps })))

  abbrev pub whole_parts : Parts
  whole_parts = record { expr = at_level; type_name = type_named }

-- a token with which a text of this level begins
abbrev pub begins_at : Lexicon → Level → Token → Bool
begins_at w Primary t = is_some (operand_of w t) || is_open w t
begins_at w Postfix t = is_some (operand_of w t) || is_open w t
begins_at w _ t = begins_expr w t

-- without room for a type
abbrev pub no_type : Lexicon → Parser Token Declared
no_type w =
    choose (is_floating w Nothing) (refuse floating)
    (choose (is_union w Nothing) (refuse union)
    (choose (is_keyword w keyword.Volatile) (refuse volatile)
    (choose (is_complex w Nothing) (refuse complex)
    (choose (begins_type w) (refuse too_deep)
    (refuse unexpected)))))

-- without room for a tree
abbrev pub no_parts : Lexicon → Parts
no_parts w = record { expr = λ level. choose (begins_at w level) (refuse too_deep) (refuse unexpected); type_name = no_type w }

-- the readers of depth `left - k`
abbrev pub parts : Lexicon → (left k : ℕ) → Parts
parts w = descent (no_parts w) (whole_parts w)

abbrev pub expr_reader : Lexicon → ℕ → Level → ExprReader
expr_reader w left level = (parts w left 0).expr level

abbrev pub type_reader : Lexicon → ℕ → Parser Token Declared
type_reader w left = (parts w left 0).type_name
