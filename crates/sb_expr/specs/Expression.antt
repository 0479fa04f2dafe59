-- Which lists of tokens are an expression or a type name, and the tree of each (C99 6.5, 6.7.6).
use Rattle.std.specs.Prelude.{◌≡◌, ℕ, suc, Bool, true, false, List, [], ◌∷◌, ◌++◌, Option, Some}
use Rattle.sb_base.specs.declared.interning.Name.{Name}
use Rattle.sb_base.specs.declared.refusals.Place.{Place}
use Rattle.sb_base.specs.declared.tokens.Token.{Token}
use Rattle.sb_tree.specs.declared.operator.BinaryOp.{BinaryOp}
use Rattle.sb_tree.specs.declared.operator.BinaryOp.TheVariants as binary
use Rattle.sb_tree.specs.declared.operator.UnaryOp.{UnaryOp}
use Rattle.sb_sign.specs.declared.sign.Keyword.TheVariants as keyword
use Rattle.sb_sign.specs.declared.sign.Mark.TheVariants as mark
use Rattle.sb_tree.specs.Plain.{expr_list}
use Rattle.sb_tree.specs.Trees as tree
use Rattle.sb_tree.specs.Trees.{ExprTree, OptionalExpr, TypeTree}
use Rattle.sb_lexicon.specs.declared.operators.Suffix.TheVariants as suffix
use Rattle.sb_lexicon.specs.Lexicon.{Lexicon, is_mark, is_keyword, name_of, operand_of, operator_of, prefix_of, step_of, assignment_of, suffix_of}
use Rattle.sb_lexicon.specs.Specifiers.{AreSpecifiers}
use Rattle.sb_lexicon.specs.Words.{Specifiers, unspecified, type_specified}
use Rattle.sb_operand.specs.Pieces.{Piece, Pointed, Arrayed, Grouped, constant_if, Declared, type_of}

pub data Level : Type 0 where
  Primary : Level
  Postfix : Level
  Prefix : Level
  -- operators of this rank and of tighter ones; at 0 a cast
  Infix : ℕ → Level
  Conditional : Level
  Assignment : Level
  Sequence : Level

-- the qualifiers behind a `*`, and whether `const` is among them
pub data AreQualifiers (w : Lexicon) : Bool → List Token → Bool → Type 0 where
  -- 6.7.5.1
  no_qualifiers : (c : Bool) → AreQualifiers w c [] c
  -- 6.7.3
  constant : (c d : Bool) (t : Token) (ts : List Token) → is_keyword w keyword.Const t ≡ true → AreQualifiers w true ts d → AreQualifiers w c (t ∷ ts) d
  -- 6.7.3.1
  restricted : (c d : Bool) (t : Token) (ts : List Token) → is_keyword w keyword.Restrict t ≡ true → AreQualifiers w c ts d → AreQualifiers w c (t ∷ ts) d

-- ---- expressions and type names

mutual
  pub data IsExpr (w : Lexicon) : Level → List Token → ExprTree → Type 0 where
    -- an identifier, a constant or string literals (6.5.1)
    is_operand : (t : Token) (e : ExprTree) → operand_of w t ≡ Some e → IsExpr w Primary (t ∷ []) e
    -- 6.5.1 paragraph 5
    is_grouped : (o c : Token) (xs : List Token) (e : ExprTree) → is_mark w mark.OpenParenthesis o ≡ true → is_mark w mark.CloseParenthesis c ≡ true
        → IsExpr w Sequence xs e → IsExpr w Primary (o ∷ (xs ++ (c ∷ []))) (tree.Paren e o.place)
    -- 6.5.2
    is_primary : (xs : List Token) (e : ExprTree) → IsExpr w Primary xs e → IsExpr w Postfix xs e
    -- 6.5.2.1
    is_indexed : (o c : Token) (at : Place) (xs ys : List Token) (e f : ExprTree) → suffix_of w o ≡ Some (suffix.Index at) → is_mark w mark.CloseBracket c ≡ true
        → IsExpr w Postfix xs e → IsExpr w Sequence ys f → IsExpr w Postfix (xs ++ (o ∷ (ys ++ (c ∷ [])))) (tree.Index e f at)
    -- 6.5.2.2
    is_called : (o c : Token) (at : Place) (xs ys : List Token) (e : ExprTree) (args : List ExprTree) → suffix_of w o ≡ Some (suffix.Call at) → is_mark w mark.CloseParenthesis c ≡ true
        → IsExpr w Postfix xs e → AreArguments w ys args → IsExpr w Postfix (xs ++ (o ∷ (ys ++ (c ∷ [])))) (tree.Call e (expr_list args) at)
    -- 6.5.2.3
    is_member : (o n : Token) (arrow : Bool) (at : Place) (name : Name) (xs : List Token) (e : ExprTree) → suffix_of w o ≡ Some (suffix.Member arrow at) → name_of w n ≡ Some name
        → IsExpr w Postfix xs e → IsExpr w Postfix (xs ++ (o ∷ (n ∷ []))) (tree.Member e arrow name n.place at)
    -- 6.5.2.4
    is_stepped : (t : Token) (op : UnaryOp) (at : Place) (xs : List Token) (e : ExprTree) → suffix_of w t ≡ Some (suffix.Step op at)
        → IsExpr w Postfix xs e → IsExpr w Postfix (xs ++ (t ∷ [])) (tree.Unary op e at)
    -- 6.5.3
    is_postfix : (xs : List Token) (e : ExprTree) → IsExpr w Postfix xs e → IsExpr w Prefix xs e
    -- address, indirection and unary arithmetic (6.5.3.2, 6.5.3.3)
    is_prefixed : (t : Token) (op : UnaryOp) (at : Place) (xs : List Token) (e : ExprTree) → prefix_of w t ≡ Some (op, at)
        → IsExpr w (Infix 0) xs e → IsExpr w Prefix (t ∷ xs) (tree.Unary op e at)
    -- 6.5.3.1
    is_stepping : (t : Token) (op : UnaryOp) (at : Place) (xs : List Token) (e : ExprTree) → step_of w t ≡ Some (op, at)
        → IsExpr w Prefix xs e → IsExpr w Prefix (t ∷ xs) (tree.Unary op e at)
    -- 6.5.3.4
    is_size_of_expr : (t : Token) (xs : List Token) (e : ExprTree) → is_keyword w keyword.SizeOf t ≡ true
        → IsExpr w Prefix xs e → IsExpr w Prefix (t ∷ xs) (tree.SizeOfExpr e t.place)
    -- 6.5.3.4
    is_size_of_type : (t o c : Token) (xs : List Token) (a : Declared) → is_keyword w keyword.SizeOf t ≡ true → is_mark w mark.OpenParenthesis o ≡ true → is_mark w mark.CloseParenthesis c ≡ true
        → IsType w xs a → IsExpr w Prefix (t ∷ (o ∷ (xs ++ (c ∷ [])))) (tree.SizeOfType (type_of a) t.place)
    -- 6.5.4
    is_uncast : (xs : List Token) (e : ExprTree) → IsExpr w Prefix xs e → IsExpr w (Infix 0) xs e
    -- 6.5.4
    is_cast : (o c : Token) (xs ys : List Token) (a : Declared) (e : ExprTree) → is_mark w mark.OpenParenthesis o ≡ true → is_mark w mark.CloseParenthesis c ≡ true
        → IsType w xs a → IsExpr w (Infix 0) ys e → IsExpr w (Infix 0) (o ∷ (xs ++ (c ∷ ys))) (tree.Cast (type_of a) e o.place)
    -- 6.5.5 to 6.5.14, each rank over the one before
    is_tighter : (k : ℕ) (xs : List Token) (e : ExprTree) → IsExpr w (Infix k) xs e → IsExpr w (Infix (suc k)) xs e
    -- 6.5.5 to 6.5.14, from the left
    is_binary : (k : ℕ) (t : Token) (op : BinaryOp) (at : Place) (xs ys : List Token) (e f : ExprTree) → operator_of w (suc k) t ≡ Some (op, at)
        → IsExpr w (Infix (suc k)) xs e → IsExpr w (Infix k) ys f → IsExpr w (Infix (suc k)) (xs ++ (t ∷ ys)) (tree.Binary op e f at)
    -- 6.5.15
    is_infix : (xs : List Token) (e : ExprTree) → IsExpr w (Infix 10) xs e → IsExpr w Conditional xs e
    -- 6.5.15
    is_conditional : (q c : Token) (xs ys zs : List Token) (e f g : ExprTree) → is_mark w mark.Question q ≡ true → is_mark w mark.Colon c ≡ true
        → IsExpr w (Infix 10) xs e → IsExpr w Sequence ys f → IsExpr w Conditional zs g → IsExpr w Conditional (xs ++ (q ∷ (ys ++ (c ∷ zs)))) (tree.Cond e f g q.place)
    -- 6.5.16
    is_chosen : (xs : List Token) (e : ExprTree) → IsExpr w Conditional xs e → IsExpr w Assignment xs e
    -- 6.5.16, from the right
    is_assignment : (t : Token) (op : Option BinaryOp) (at : Place) (xs ys : List Token) (e f : ExprTree) → assignment_of w t ≡ Some (op, at)
        → IsExpr w Prefix xs e → IsExpr w Assignment ys f → IsExpr w Assignment (xs ++ (t ∷ ys)) (tree.Assign op e f at)
    -- 6.5.17
    is_assigned : (xs : List Token) (e : ExprTree) → IsExpr w Assignment xs e → IsExpr w Sequence xs e
    -- 6.5.17
    is_sequence : (t : Token) (xs ys : List Token) (e f : ExprTree) → is_mark w mark.Comma t ≡ true
        → IsExpr w Sequence xs e → IsExpr w Assignment ys f → IsExpr w Sequence (xs ++ (t ∷ ys)) (tree.Binary binary.Comma e f t.place)

  -- the arguments of a call
  pub data AreArguments (w : Lexicon) : List Token → List ExprTree → Type 0 where
    -- 6.5.2.2
    no_arguments : AreArguments w [] []
    -- 6.5.2.2
    arguments : (xs : List Token) (es : List ExprTree) → AreSome w xs es → AreArguments w xs es

  -- at least one expression, with commas between them
  pub data AreSome (w : Lexicon) : List Token → List ExprTree → Type 0 where
    -- 6.5.2.2
    one_argument : (xs : List Token) (e : ExprTree) → IsExpr w Assignment xs e → AreSome w xs (e ∷ [])
    -- 6.5.2.2
    more_arguments : (t : Token) (xs ys : List Token) (es : List ExprTree) (e : ExprTree) → is_mark w mark.Comma t ≡ true
        → AreSome w xs es → IsExpr w Assignment ys e → AreSome w (xs ++ (t ∷ ys)) (es ++ (e ∷ []))

  pub data IsType (w : Lexicon) : List Token → Declared → Type 0 where
    -- 6.7.6
    is_type : (xs ys : List Token) (s : Specifiers) (base : TypeTree) (ps : List Piece) → AreSpecifiers w unspecified xs s → type_specified s ≡ Some base
        → IsAbstract w ys ps → IsType w (xs ++ ys) (record { base = base; pieces = ps })

  -- a declarator without a name, which may be empty
  pub data IsAbstract (w : Lexicon) : List Token → List Piece → Type 0 where
    -- 6.7.6
    is_direct : (xs : List Token) (ps : List Piece) → IsDirect w xs ps → IsAbstract w xs ps
    -- 6.7.5.1
    is_pointer : (t : Token) (c : Bool) (xs ys : List Token) (ps : List Piece) → is_mark w mark.Star t ≡ true → AreQualifiers w false xs c
        → IsAbstract w ys ps → IsAbstract w (t ∷ (xs ++ ys)) (Pointed t.place ∷ constant_if c ps)

  pub data IsDirect (w : Lexicon) : List Token → List Piece → Type 0 where
    -- 6.7.6
    is_nothing_more : IsDirect w [] []
    -- 6.7.6
    is_in_parentheses : (o c : Token) (xs : List Token) (p : Piece) (ps : List Piece) → is_mark w mark.OpenParenthesis o ≡ true → is_mark w mark.CloseParenthesis c ≡ true
        → IsAbstract w xs (p ∷ ps) → IsDirect w (o ∷ (xs ++ (c ∷ []))) (Grouped o.place ∷ (p ∷ ps))
    -- 6.7.5.2
    is_array : (o c : Token) (xs ys : List Token) (ps : List Piece) (size : OptionalExpr) → is_mark w mark.OpenBracket o ≡ true → is_mark w mark.CloseBracket c ≡ true
        → IsDirect w xs ps → IsSize w ys size → IsDirect w (xs ++ (o ∷ (ys ++ (c ∷ [])))) (Arrayed size o.place ∷ ps)

  -- what stands between the brackets of an array
  pub data IsSize (w : Lexicon) : List Token → OptionalExpr → Type 0 where
    -- 6.7.5.2 paragraph 4
    no_size : IsSize w [] tree.NoExpr
    -- 6.7.5.2 paragraph 1
    a_size : (xs : List Token) (e : ExprTree) → IsExpr w Assignment xs e → IsSize w xs (tree.AnExpr e)
