-- The readers of conditions, as functions on the tokens that are left. The number of a stop tells which operator before it is evaluated and has no value:
-- 0 where there is none, and else one more than its position.
use Rattle.std.specs.Prelude.{ℕ, zero, suc, Bool, true, false, Option, Some, None, is_some}
use Rattle.sb_parse.specs.Parser.{Outcome, Parser, done, stop, ◌>>=◌, pure, refuse, token, taken, expect, choose, guard, looped}
use Rattle.sb_cond.specs.declared.arithmetic.Operand.{Operand}
use Rattle.sb_cond.specs.declared.arithmetic.Operator.{Operator}
use Rattle.sb_cond.specs.declared.sign.ConditionToken.{ConditionToken}
use Rattle.sb_cond.specs.declared.expression.Entry.{Entry}
use Rattle.sb_cond.specs.declared.expression.Entry.TheVariants as entry
use Rattle.sb_cond.specs.Arithmetic.{binary, unary, selected, in_sequence, none_at, fault_of, fault_behind, fault_selected}
use Rattle.sb_cond.specs.Expression.{operand_of, prefix_of, operator_of, is_open, is_close, is_question, is_colon, comma_of}

abbrev pub Reader : Type 0
Reader = Parser ConditionToken Operand

abbrev pub number_of : Option ℕ → ℕ
number_of None = 0
number_of (Some at) = suc at

abbrev pub fault_in : ℕ → Option ℕ
fault_in zero = None
fault_in (suc at) = Some at

-- the number of a stop behind an operand
abbrev pub number_after : Operand → ℕ
number_after a = number_of (fault_of a.value)

abbrev pub renumbered : (ℕ → ℕ) → Outcome ConditionToken Operand → Outcome ConditionToken Operand
renumbered f (done a rest) = done a rest
renumbered f (stop n left) = stop (f n) left

-- a reader with other numbers for its stops
abbrev pub telling : (ℕ → ℕ) → Reader → Reader
telling f p = λ ts. renumbered f (p ts)

abbrev pub is_prefix : ConditionToken → Bool
is_prefix t = is_some (prefix_of t)

abbrev pub is_operator : ℕ → ConditionToken → Bool
is_operator k t = is_some (operator_of k t)

abbrev pub is_comma : ConditionToken → Bool
is_comma t = is_some (comma_of t)

abbrev pub is_zero : ℕ → Bool
is_zero zero = true
is_zero (suc n) = false

abbrev pub number_behind : Operator → Operand → ℕ → ℕ
number_behind op a n = number_of (fault_behind op a.value (fault_in n))

abbrev pub number_first : Operand → ℕ → ℕ
number_first a n = number_of (fault_selected a.value (fault_in n) None)

abbrev pub number_second : Operand → Operand → ℕ → ℕ
number_second a b n = number_of (fault_selected a.value (fault_of b.value) (fault_in n))

abbrev pub number_in_sequence : ℕ → Operand → ℕ → ℕ
number_in_sequence at a n = number_of (fault_of (none_at at a.value))

-- `bar`: no deeper level is left; `part`: the readers one level deeper
module _ (bar : Bool) (part : Entry → Reader) where
  unfoldable pub group : Reader
  group = expect 0 is_open (λ o. part entry.Whole >>= (λ a. token (number_after a) is_close >>= (λ c. pure a)))

  unfoldable pub primary : Reader
  primary = choose is_open (guard bar 0 group) (taken 0 operand_of)

  unfoldable pub prefix_expression : Reader
  prefix_expression = taken 0 prefix_of >>= (λ op. part entry.Operand >>= (λ a. pure (unary op a)))

  unfoldable pub operand : Reader
  operand = choose is_prefix (guard bar 0 prefix_expression) primary

  -- an operator and its right operand
  unfoldable pub operation_on : ℕ → Reader → Operand → Reader
  operation_on k right a = taken 0 (operator_of (suc k)) >>= (λ op. telling (number_behind op.0 a) right >>= (λ b. pure (binary op.1 op.0 a b)))

  unfoldable pub infix_at : ℕ → Reader
  infix_at zero = operand
  infix_at (suc k) = infix_at k >>= looped (is_operator (suc k)) (operation_on k (infix_at k))

  -- the colon and the second branch
  unfoldable pub second_branch : Operand → Operand → Reader
  second_branch a b = expect (number_of (fault_selected a.value (fault_of b.value) None)) is_colon (λ c. telling (number_second a b) (part entry.Branch) >>= (λ d. pure (selected a b d)))

  unfoldable pub branches : Operand → Reader
  branches a = expect 0 is_question (λ q. telling (number_first a) (part entry.Whole) >>= second_branch a)

  unfoldable pub conditional : Reader
  conditional = infix_at 10 >>= (λ a. choose is_question (guard bar (number_after a) (branches a)) (pure a))

  -- a comma and what follows it
  unfoldable pub comma_on : Operand → Reader
  comma_on a = taken 0 comma_of >>= (λ at. telling (number_in_sequence at a) conditional >>= (λ b. pure (in_sequence at a b)))

  unfoldable pub sequence : Reader
  sequence = conditional >>= looped is_comma comma_on

  abbrev pub at_entry : Entry → Reader
  at_entry entry.Operand = operand
  at_entry entry.Branch = conditional
  at_entry entry.Whole = sequence

-- expressions nested less deep than this
unfoldable pub below : ℕ → Entry → Reader
below zero e = refuse 0
below (suc left) e = at_entry (is_zero left) (below left) e
