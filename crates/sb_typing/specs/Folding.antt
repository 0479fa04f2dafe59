-- The values of constant expressions (C99 6.6): core expressions without locals, loads and pointers. Each operand has
-- to be one, also one that is not evaluated. A result that is out of range wraps.
use Rattle.std.specs.Prelude.{◌^◌, ◌≤ℤ◌, ◌<ℤ◌, Bool, not, ◌&&◌, ◌||◌, if◌then◌else◌, Option, Some, None, ℤ, pos, ◌+ℤ◌, ◌-ℤ◌, ◌*ℤ◌, neg_ℤ, int_lt, int_div, int_rem, unsigned_abs}
use Rattle.std.specs.Int.{w128, int_bit_and, int_bit_or, int_bit_xor, int_bit_not, int_shl, int_shr, int_wrap}
use Rattle.sb_core.specs.declared.types.TypeId.{TypeId}
use Rattle.sb_core.specs.declared.operator.NumOp.{NumOp}
use Rattle.sb_core.specs.declared.operator.NumOp.TheVariants as op
use Rattle.sb_core.specs.declared.operator.SignOp.{SignOp}
use Rattle.sb_core.specs.declared.operator.SignOp.TheVariants as sign
use Rattle.sb_core.specs.declared.operator.CompareOp.{CompareOp}
use Rattle.sb_core.specs.declared.operator.CompareOp.TheVariants as compare
use Rattle.sb_core.specs.Trees.{Expression, Number, Null, Local, At, Load, Unary, Binary, Convert, Move, Distance, Compare, Not, And, Or, Choose}
use Rattle.sb_typing.specs.Numbers.{bits_of}
use Rattle.sb_typing.specs.Values.{is_zero, wrapped, converted, truth}

-- a number of 64 bits, with a sign or without
abbrev pub IsWide : ℤ → Type 0
IsWide z = (neg_ℤ (pos (2 ^ 63)) ≤ℤ z) × (z <ℤ pos (2 ^ 64))

abbrev pub given_if : Bool → ℤ → Option ℤ
given_if there z = if there then Some z else None

-- a count of bits to shift by: from 0 on, and less than the type has (6.5.7)
abbrev pub is_count : TypeId → ℤ → Bool
is_count t z = not (int_lt z (pos 0)) && int_lt z (pos (bits_of t))

-- 6.5.5: `7 / 0` has no value, `-7 / 2` is -3, and `-7 % 2` is -1
abbrev pub quotient : TypeId → ℤ → ℤ → Option ℤ
quotient t a b = given_if (not (is_zero b)) (wrapped t (int_div a b))

abbrev pub remainder : TypeId → ℤ → ℤ → Option ℤ
remainder t a b = given_if (not (is_zero b)) (wrapped t (int_rem a b))

-- 6.5.7: `1 << 32` has no value at `int`, and `-7 >> 1` is -4
abbrev pub shifted_left : TypeId → ℤ → ℤ → Option ℤ
shifted_left t a b = given_if (is_count t b) (wrapped t (int_shl w128 a (unsigned_abs b)))

abbrev pub shifted_right : TypeId → ℤ → ℤ → Option ℤ
shifted_right t a b = given_if (is_count t b) (wrapped t (int_shr a (unsigned_abs b)))

-- an operator on two operands in a type (6.5.5 to 6.5.7, 6.5.10 to 6.5.12). Bits are those of two's complement, and a
-- product and a shift to the left keep the lowest 128 bits, among which are all of the type
abbrev pub binary_value : NumOp → TypeId → ℤ → ℤ → Option ℤ
binary_value op.Add t a b = Some (wrapped t (a +ℤ b))
binary_value op.Sub t a b = Some (wrapped t (a -ℤ b))
binary_value op.Mul t a b = Some (wrapped t (int_wrap w128 (a *ℤ b)))
binary_value op.Div t a b = quotient t a b
binary_value op.Rem t a b = remainder t a b
binary_value op.Shl t a b = shifted_left t a b
binary_value op.Shr t a b = shifted_right t a b
binary_value op.And t a b = Some (wrapped t (int_bit_and w128 a b))
binary_value op.Xor t a b = Some (wrapped t (int_bit_xor w128 a b))
binary_value op.Or t a b = Some (wrapped t (int_bit_or w128 a b))

-- `-` and `~` (6.5.3.3): `-` of the least `int` is itself
abbrev pub sign_value : SignOp → TypeId → ℤ → ℤ
sign_value sign.Minus t a = wrapped t (neg_ℤ a)
sign_value sign.Invert t a = wrapped t (int_bit_not w128 a)

-- 6.5.8, 6.5.9
abbrev pub compares : CompareOp → ℤ → ℤ → Bool
compares compare.Less a b = int_lt a b
compares compare.AtMost a b = not (int_lt b a)
compares compare.Greater a b = int_lt b a
compares compare.AtLeast a b = not (int_lt a b)
compares compare.Equal a b = not (int_lt a b || int_lt b a)
compares compare.NotEqual a b = int_lt a b || int_lt b a

-- ---- operands that may have no value

abbrev pub signed : SignOp → TypeId → Option ℤ → Option ℤ
signed op t None = None
signed op t (Some a) = Some (sign_value op t a)

abbrev pub joined : NumOp → TypeId → Option ℤ → Option ℤ → Option ℤ
joined op t None b = None
joined op t (Some a) None = None
joined op t (Some a) (Some b) = binary_value op t a b

abbrev pub cast : TypeId → Option ℤ → Option ℤ
cast t None = None
cast t (Some a) = Some (converted t a)

abbrev pub compared : CompareOp → Option ℤ → Option ℤ → Option ℤ
compared op None b = None
compared op (Some a) None = None
compared op (Some a) (Some b) = Some (truth (compares op a b))

-- 6.5.3.3
abbrev pub negated : Option ℤ → Option ℤ
negated None = None
negated (Some a) = Some (truth (is_zero a))

-- 6.5.13: both have to be constant
abbrev pub conjunction : Option ℤ → Option ℤ → Option ℤ
conjunction None b = None
conjunction (Some a) None = None
conjunction (Some a) (Some b) = Some (truth (not (is_zero a) && not (is_zero b)))

-- 6.5.14
abbrev pub disjunction : Option ℤ → Option ℤ → Option ℤ
disjunction None b = None
disjunction (Some a) None = None
disjunction (Some a) (Some b) = Some (truth (not (is_zero a) || not (is_zero b)))

-- 6.5.15: all three have to be constant
abbrev pub chosen : Option ℤ → Option ℤ → Option ℤ → Option ℤ
chosen None b c = None
chosen (Some a) None c = None
chosen (Some a) (Some b) None = None
chosen (Some a) (Some b) (Some c) = Some (if is_zero a then c else b)

-- the value of a constant expression
unfoldable pub value_of : Expression → Option ℤ
value_of (Number z t) = Some (wrapped t z)
value_of Null = None
value_of (Local k t place) = None
value_of (At k) = None
value_of (Load e t size place) = None
value_of (Unary op e t) = signed op t (value_of e)
value_of (Binary op e f t place) = joined op t (value_of e) (value_of f)
value_of (Convert e t) = cast t (value_of e)
value_of (Move e f unit) = None
value_of (Distance e f unit place) = None
value_of (Compare op e f) = compared op (value_of e) (value_of f)
value_of (Not e) = negated (value_of e)
value_of (And e f) = conjunction (value_of e) (value_of f)
value_of (Or e f) = disjunction (value_of e) (value_of f)
value_of (Choose e f g) = chosen (value_of e) (value_of f) (value_of g)
