-- The conditions of `#if` (C99 6.10.1, 6.6, 6.5): which lists of tokens are an expression, and what each comes to.
use Rattle.std.specs.Prelude.{◌≡◌, ℕ, suc, Bool, true, false, List, [], ◌∷◌, ◌++◌, Option, Some, None, Ok, if◌then◌else◌, nat_eq}
use Rattle.sb_cond.specs.declared.arithmetic.Operand.{Operand}
use Rattle.sb_cond.specs.declared.arithmetic.Operator.{Operator}
use Rattle.sb_cond.specs.declared.arithmetic.Operator.TheVariants.{Or, And, BitOr, BitXor, BitAnd, Equal, NotEqual, Less, Greater, AtMost, AtLeast, ShiftLeft, ShiftRight, Add, Subtract, Multiply, Divide, Remainder}
use Rattle.sb_cond.specs.declared.arithmetic.Prefix.{Prefix}
use Rattle.sb_cond.specs.declared.arithmetic.Prefix.TheVariants as prefix
use Rattle.sb_cond.specs.declared.sign.ConditionToken.{ConditionToken}
use Rattle.sb_cond.specs.declared.sign.Mark.{Mark}
use Rattle.sb_cond.specs.declared.sign.Mark.TheVariants as mark
use Rattle.sb_cond.specs.declared.sign.Sign.{Sign}
use Rattle.sb_cond.specs.declared.sign.Sign.TheVariants as sign
use Rattle.sb_cond.specs.Arithmetic.{binary, unary, selected, in_sequence}

-- ---- tokens

abbrev pub number_at : Sign → Option Operand
number_at (sign.Number bits unsigned) = Some (record { unsigned = unsigned; value = Ok bits })
number_at _ = None

abbrev pub operand_of : ConditionToken → Option Operand
operand_of t = number_at t.sign

abbrev pub prefix_at : Sign → Option Prefix
prefix_at (sign.Binary Add) = Some prefix.Plus
prefix_at (sign.Binary Subtract) = Some prefix.Minus
prefix_at sign.Complement = Some prefix.Complement
prefix_at sign.Not = Some prefix.Not
prefix_at _ = None

abbrev pub prefix_of : ConditionToken → Option Prefix
prefix_of t = prefix_at t.sign

-- how loosely an operator binds (C99 6.5.5 to 6.5.14)
abbrev pub rank : Operator → ℕ
rank Multiply = 1
rank Divide = 1
rank Remainder = 1
rank Add = 2
rank Subtract = 2
rank ShiftLeft = 3
rank ShiftRight = 3
rank Less = 4
rank Greater = 4
rank AtMost = 4
rank AtLeast = 4
rank Equal = 5
rank NotEqual = 5
rank BitAnd = 6
rank BitXor = 7
rank BitOr = 8
rank And = 9
rank Or = 10

abbrev pub operator_at : ℕ → ℕ → Sign → Option (Operator × ℕ)
operator_at k at (sign.Binary op) = if nat_eq (rank op) k then Some (op, at) else None
operator_at k at _ = None

-- an operator of a rank, and its position
abbrev pub operator_of : ℕ → ConditionToken → Option (Operator × ℕ)
operator_of k t = operator_at k t.at t.sign

abbrev pub is_mark : Mark → Sign → Bool
is_mark mark.Open sign.Open = true
is_mark mark.Close sign.Close = true
is_mark mark.Question sign.Question = true
is_mark mark.Colon sign.Colon = true
is_mark _ _ = false

abbrev pub is_marked : Mark → ConditionToken → Bool
is_marked m t = is_mark m t.sign

abbrev pub is_open : ConditionToken → Bool
is_open = is_marked mark.Open

abbrev pub is_close : ConditionToken → Bool
is_close = is_marked mark.Close

abbrev pub is_question : ConditionToken → Bool
is_question = is_marked mark.Question

abbrev pub is_colon : ConditionToken → Bool
is_colon = is_marked mark.Colon

abbrev pub comma_at : ℕ → Sign → Option ℕ
comma_at at sign.Comma = Some at
comma_at at _ = None

-- the position of a comma
abbrev pub comma_of : ConditionToken → Option ℕ
comma_of t = comma_at t.at t.sign

-- ---- expressions

pub data Level : Type 0 where
  -- a number, or an expression in parentheses
  Primary : Level
  -- operators of this rank and of tighter ones; at 0 operators before an operand
  Infix : ℕ → Level
  Conditional : Level
  Sequence : Level

-- An expression in which parentheses, operators before an operand and `?:` are nested at most so deep.
pub data IsExpression : ℕ → Level → List ConditionToken → Operand → Type 0 where
  is_operand : (left : ℕ) (t : ConditionToken) (a : Operand) → operand_of t ≡ Some a → IsExpression left Primary (t ∷ []) a
  is_grouped : (left : ℕ) (o c : ConditionToken) (xs : List ConditionToken) (a : Operand) → is_open o ≡ true → is_close c ≡ true → IsExpression left Sequence xs a → IsExpression (suc left) Primary (o ∷ (xs ++ (c ∷ []))) a
  is_primary : (left : ℕ) (xs : List ConditionToken) (a : Operand) → IsExpression left Primary xs a → IsExpression left (Infix 0) xs a
  is_prefixed : (left : ℕ) (t : ConditionToken) (op : Prefix) (xs : List ConditionToken) (a : Operand) → prefix_of t ≡ Some op → IsExpression left (Infix 0) xs a → IsExpression (suc left) (Infix 0) (t ∷ xs) (unary op a)
  is_tighter : (left k : ℕ) (xs : List ConditionToken) (a : Operand) → IsExpression left (Infix k) xs a → IsExpression left (Infix (suc k)) xs a
  is_binary : (left k at : ℕ) (t : ConditionToken) (op : Operator) (xs ys : List ConditionToken) (a b : Operand) → operator_of (suc k) t ≡ Some (op, at)
      → IsExpression left (Infix (suc k)) xs a → IsExpression left (Infix k) ys b → IsExpression left (Infix (suc k)) (xs ++ (t ∷ ys)) (binary at op a b)
  is_infix : (left : ℕ) (xs : List ConditionToken) (a : Operand) → IsExpression left (Infix 10) xs a → IsExpression left Conditional xs a
  is_selected : (left : ℕ) (q c : ConditionToken) (xs ys zs : List ConditionToken) (a b d : Operand) → is_question q ≡ true → is_colon c ≡ true → IsExpression (suc left) (Infix 10) xs a
      → IsExpression left Sequence ys b → IsExpression left Conditional zs d → IsExpression (suc left) Conditional (xs ++ (q ∷ (ys ++ (c ∷ zs)))) (selected a b d)
  is_conditional : (left : ℕ) (xs : List ConditionToken) (a : Operand) → IsExpression left Conditional xs a → IsExpression left Sequence xs a
  is_sequence : (left at : ℕ) (t : ConditionToken) (xs ys : List ConditionToken) (a b : Operand) → comma_of t ≡ Some at → IsExpression left Sequence xs a → IsExpression left Conditional ys b
      → IsExpression left Sequence (xs ++ (t ∷ ys)) (in_sequence at a b)
