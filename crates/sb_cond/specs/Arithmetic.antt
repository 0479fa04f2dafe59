-- The values of the operators in a condition (C99 6.5.3 to 6.5.17), in 64 bits of two's complement.
use Rattle.std.specs.Prelude.{ℕ, ◌+◌, ◌-◌, ◌*◌, ◌/◌, ◌%◌, ◌^◌, Bool, true, false, ◌&&◌, ◌||◌, not, Option, Some, None, Result, Ok, Err, if◌then◌else◌, nat_eq, nat_lt, bit_and, bit_or, bit_xor, int_div, int_rem}
use Rattle.std.specs.Int.{w64, cast_signed, cast_unsigned, bit_not, int_shr}
use Rattle.std.specs.Int.RustNames.{int_lt}
use Rattle.sb_cond.specs.declared.arithmetic.Operand.{Operand}
use Rattle.sb_cond.specs.declared.arithmetic.Operator.{Operator}
use Rattle.sb_cond.specs.declared.arithmetic.Operator.TheVariants as operator
use Rattle.sb_cond.specs.declared.arithmetic.Prefix.{Prefix}
use Rattle.sb_cond.specs.declared.arithmetic.Prefix.TheVariants as prefix

abbrev pub truth : Bool → ℕ
truth holds = if holds then 1 else 0

abbrev pub is_true : ℕ → Bool
is_true x = not (nat_eq x 0)

-- ---- two values of one type

abbrev pub is_below : Bool → ℕ → ℕ → Bool
is_below true x y = nat_lt x y
is_below false x y = int_lt (cast_signed w64 x) (cast_signed w64 y)

abbrev pub quotient : Bool → ℕ → ℕ → ℕ
quotient true x y = x / y
quotient false x y = cast_unsigned w64 (int_div (cast_signed w64 x) (cast_signed w64 y))

abbrev pub remainder : Bool → ℕ → ℕ → ℕ
remainder true x y = x % y
remainder false x y = cast_unsigned w64 (int_rem (cast_signed w64 x) (cast_signed w64 y))

abbrev pub shift_right : Bool → ℕ → ℕ → ℕ
shift_right true x y = x / 2 ^ y
shift_right false x y = cast_unsigned w64 (int_shr (cast_signed w64 x) y)

abbrev pub given_if : Bool → ℕ → Option ℕ
given_if there n = if there then Some n else None

-- The value of an operator. A divisor of 0 gives none, nor does a count that is negative or 64 or more, which is 64 or more without its sign.
abbrev pub binary_value : Bool → Operator → ℕ → ℕ → Option ℕ
binary_value unsigned operator.Or x y = Some (truth (is_true x || is_true y))
binary_value unsigned operator.And x y = Some (truth (is_true x && is_true y))
binary_value unsigned operator.BitOr x y = Some (bit_or x y)
binary_value unsigned operator.BitXor x y = Some (bit_xor x y)
binary_value unsigned operator.BitAnd x y = Some (bit_and x y)
binary_value unsigned operator.Equal x y = Some (truth (nat_eq x y))
binary_value unsigned operator.NotEqual x y = Some (truth (not (nat_eq x y)))
binary_value unsigned operator.Less x y = Some (truth (is_below unsigned x y))
binary_value unsigned operator.Greater x y = Some (truth (is_below unsigned y x))
binary_value unsigned operator.AtMost x y = Some (truth (not (is_below unsigned y x)))
binary_value unsigned operator.AtLeast x y = Some (truth (not (is_below unsigned x y)))
binary_value unsigned operator.ShiftLeft x y = given_if (nat_lt y 64) ((x * 2 ^ y) % 2 ^ 64)
binary_value unsigned operator.ShiftRight x y = given_if (nat_lt y 64) (shift_right unsigned x y)
binary_value unsigned operator.Add x y = Some ((x + y) % 2 ^ 64)
binary_value unsigned operator.Subtract x y = Some ((x + (2 ^ 64 - y)) % 2 ^ 64)
binary_value unsigned operator.Multiply x y = Some ((x * y) % 2 ^ 64)
binary_value unsigned operator.Divide x y = given_if (not (nat_eq y 0)) (quotient unsigned x y)
binary_value unsigned operator.Remainder x y = given_if (not (nat_eq y 0)) (remainder unsigned x y)

-- ---- operands, with what has no value

-- the operators that give a signed 0 or 1
abbrev pub is_test : Operator → Bool
is_test operator.Or = true
is_test operator.And = true
is_test operator.Equal = true
is_test operator.NotEqual = true
is_test operator.Less = true
is_test operator.Greater = true
is_test operator.AtMost = true
is_test operator.AtLeast = true
is_test _ = false

abbrev pub is_shift : Operator → Bool
is_shift operator.ShiftLeft = true
is_shift operator.ShiftRight = true
is_shift _ = false

-- the type in which an operator computes: unsigned if an operand is; a shift takes that of its left operand
abbrev pub common_type : Operator → Operand → Operand → Bool
common_type op a b = if is_shift op then a.unsigned else a.unsigned || b.unsigned

-- whether the left operand decides alone, so that the right one is not evaluated
abbrev pub decides : Operator → ℕ → Bool
decides operator.Or x = is_true x
decides operator.And x = nat_eq x 0
decides _ x = false

-- the value, or that the operator at a position has none
abbrev pub or_none : ℕ → Option ℕ → Result ℕ ℕ
or_none at None = Err at
or_none at (Some n) = Ok n

abbrev pub with_right : ℕ → Bool → Operator → ℕ → Result ℕ ℕ → Result ℕ ℕ
with_right at unsigned op x (Err other) = Err other
with_right at unsigned op x (Ok y) = or_none at (binary_value unsigned op x y)

abbrev pub with_left : ℕ → Bool → Operator → Result ℕ ℕ → Result ℕ ℕ → Result ℕ ℕ
with_left at unsigned op (Err other) y = Err other
with_left at unsigned op (Ok x) y = if decides op x then Ok (truth (is_true x)) else with_right at unsigned op x y

-- a binary operator at a position, between two operands
abbrev pub binary : ℕ → Operator → Operand → Operand → Operand
binary at op a b = record { unsigned = not (is_test op) && common_type op a b; value = with_left at (common_type op a b) op a.value b.value }

abbrev pub unary_value : Prefix → ℕ → ℕ
unary_value prefix.Plus x = x
unary_value prefix.Minus x = (0 + (2 ^ 64 - x)) % 2 ^ 64
unary_value prefix.Complement x = bit_not w64 x
unary_value prefix.Not x = truth (nat_eq x 0)

abbrev pub changed_value : Prefix → Result ℕ ℕ → Result ℕ ℕ
changed_value op (Err at) = Err at
changed_value op (Ok x) = Ok (unary_value op x)

abbrev pub is_not : Prefix → Bool
is_not prefix.Not = true
is_not _ = false

-- a unary operator before its operand
abbrev pub unary : Prefix → Operand → Operand
unary op a = record { unsigned = not (is_not op) && a.unsigned; value = changed_value op a.value }

abbrev pub selected_value : Result ℕ ℕ → Result ℕ ℕ → Result ℕ ℕ → Result ℕ ℕ
selected_value (Err at) y z = Err at
selected_value (Ok x) y z = if is_true x then y else z

-- `a ? b : c`, of which one branch is evaluated and both give the type
abbrev pub selected : Operand → Operand → Operand → Operand
selected a b c = record { unsigned = b.unsigned || c.unsigned; value = selected_value a.value b.value c.value }

abbrev pub none_at : ℕ → Result ℕ ℕ → Result ℕ ℕ
none_at at (Err other) = Err other
none_at at (Ok x) = Err at

-- the comma operator at a position, which a constant expression evaluates nowhere (C99 6.6 paragraph 3)
abbrev pub in_sequence : ℕ → Operand → Operand → Operand
in_sequence at a b = record { unsigned = b.unsigned; value = none_at at a.value }

-- ---- the first operator without a value

abbrev pub fault_of : Result ℕ ℕ → Option ℕ
fault_of (Ok x) = None
fault_of (Err at) = Some at

-- that of the left operand, or else that of the right one where it is evaluated
abbrev pub fault_behind : Operator → Result ℕ ℕ → Option ℕ → Option ℕ
fault_behind op (Err at) right = Some at
fault_behind op (Ok x) right = if decides op x then None else right

-- that of the condition, or else that of the branch that is taken
abbrev pub fault_selected : Result ℕ ℕ → Option ℕ → Option ℕ → Option ℕ
fault_selected (Err at) first second = Some at
fault_selected (Ok x) first second = if is_true x then first else second
