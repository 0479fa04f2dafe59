-- What is left of an expression that is cut off: the first operator in it that is evaluated and has no value.
use Rattle.std.specs.Prelude.{◌≡◌, ℕ, suc, true, List, [], ◌∷◌, ◌++◌, Option, Some, None}
use Rattle.sb_cond.specs.declared.arithmetic.Operand.{Operand}
use Rattle.sb_cond.specs.declared.arithmetic.Operator.{Operator}
use Rattle.sb_cond.specs.declared.arithmetic.Prefix.{Prefix}
use Rattle.sb_cond.specs.declared.sign.ConditionToken.{ConditionToken}
use Rattle.sb_cond.specs.Arithmetic.{fault_of, fault_behind, fault_selected, none_at}
use Rattle.sb_cond.specs.Expression.{prefix_of, operator_of, is_open, is_question, is_colon, comma_of, Level, Primary, Infix, Conditional, Sequence, IsExpression}

-- The tokens begin an expression, which is cut off behind them. Operands that are whole are evaluated, and so are the operators between them;
-- what is not evaluated has no fault.
pub data IsCut : ℕ → Level → List ConditionToken → Option ℕ → Type 0 where
  -- where an operand has to come
  nothing : (left : ℕ) → IsCut left Primary [] None
  -- where a closing parenthesis has to come, or before
  in_group : (left : ℕ) (o : ConditionToken) (xs : List ConditionToken) (f : Option ℕ) → is_open o ≡ true → IsCut left Sequence xs f → IsCut (suc left) Primary (o ∷ xs) f
  behind_group : (left : ℕ) (o : ConditionToken) (xs : List ConditionToken) (a : Operand) → is_open o ≡ true → IsExpression left Sequence xs a → IsCut (suc left) Primary (o ∷ xs) (fault_of a.value)
  in_primary : (left : ℕ) (xs : List ConditionToken) (f : Option ℕ) → IsCut left Primary xs f → IsCut left (Infix 0) xs f
  in_prefixed : (left : ℕ) (t : ConditionToken) (op : Prefix) (xs : List ConditionToken) (f : Option ℕ) → prefix_of t ≡ Some op → IsCut left (Infix 0) xs f → IsCut (suc left) (Infix 0) (t ∷ xs) f
  in_tighter : (left k : ℕ) (xs : List ConditionToken) (f : Option ℕ) → IsCut left (Infix k) xs f → IsCut left (Infix (suc k)) xs f
  -- in a right operand
  in_binary : (left k at : ℕ) (t : ConditionToken) (op : Operator) (xs ys : List ConditionToken) (a : Operand) (f : Option ℕ) → operator_of (suc k) t ≡ Some (op, at)
      → IsExpression left (Infix (suc k)) xs a → IsCut left (Infix k) ys f → IsCut left (Infix (suc k)) (xs ++ (t ∷ ys)) (fault_behind op a.value f)
  in_infix : (left : ℕ) (xs : List ConditionToken) (f : Option ℕ) → IsCut left (Infix 10) xs f → IsCut left Conditional xs f
  -- before a question mark for which no level is left
  too_deep : (xs : List ConditionToken) (a : Operand) → IsExpression 0 (Infix 10) xs a → IsCut 0 Conditional xs (fault_of a.value)
  in_first : (left : ℕ) (q : ConditionToken) (xs ys : List ConditionToken) (a : Operand) (f : Option ℕ) → is_question q ≡ true → IsExpression (suc left) (Infix 10) xs a → IsCut left Sequence ys f
      → IsCut (suc left) Conditional (xs ++ (q ∷ ys)) (fault_selected a.value f None)
  -- where a colon has to come
  behind_first : (left : ℕ) (q : ConditionToken) (xs ys : List ConditionToken) (a b : Operand) → is_question q ≡ true → IsExpression (suc left) (Infix 10) xs a → IsExpression left Sequence ys b
      → IsCut (suc left) Conditional (xs ++ (q ∷ ys)) (fault_selected a.value (fault_of b.value) None)
  in_second : (left : ℕ) (q c : ConditionToken) (xs ys zs : List ConditionToken) (a b : Operand) (f : Option ℕ) → is_question q ≡ true → is_colon c ≡ true → IsExpression (suc left) (Infix 10) xs a
      → IsExpression left Sequence ys b → IsCut left Conditional zs f → IsCut (suc left) Conditional (xs ++ (q ∷ (ys ++ (c ∷ zs)))) (fault_selected a.value (fault_of b.value) f)
  in_conditional : (left : ℕ) (xs : List ConditionToken) (f : Option ℕ) → IsCut left Conditional xs f → IsCut left Sequence xs f
  -- behind a comma, which has no value itself
  in_sequence : (left at : ℕ) (t : ConditionToken) (xs ys : List ConditionToken) (a : Operand) (f : Option ℕ) → comma_of t ≡ Some at → IsExpression left Sequence xs a → IsCut left Conditional ys f
      → IsCut left Sequence (xs ++ (t ∷ ys)) (fault_of (none_at at a.value))
