-- What types are to operators, and which types are compatible (C99 6.2.5, 6.2.7, 6.3.2.3).
use Rattle.std.specs.Prelude.{ℕ, zero, suc, Bool, true, false, ◌&&◌, ◌||◌, if◌then◌else◌, nat_eq, nat_lt, List, [], ◌∷◌, length, slice_get, Option, Some, None, ℤ}
use Rattle.sb_core.specs.declared.types.Kind.{Kind}
use Rattle.sb_core.specs.declared.types.Kind.TheVariants as kind
use Rattle.sb_core.specs.declared.types.TypeId.{TypeId}
use Rattle.sb_core.specs.Sorts.{is_number}
use Rattle.sb_core.specs.Trees.{Expression, Number, Null, Local, At, Load, Unary, Binary, Convert, Move, Distance, Compare, Not, And, Or, Choose}
use Rattle.sb_typing.specs.declared.operands.Class.{Class}
use Rattle.sb_typing.specs.declared.operands.Class.TheVariants as class
use Rattle.sb_typing.specs.declared.operands.Operand.{Operand}
use Rattle.sb_typing.specs.Values.{is_zero}
use Rattle.sb_typing.specs.Folding.{value_of}

-- ---- classes (6.2.5)

abbrev pub class_of_kind : Option Kind → Class
class_of_kind None = class.Other
class_of_kind (Some kind.Void) = class.Void
class_of_kind (Some (kind.Number bits signed)) = class.Other
class_of_kind (Some (kind.Pointer t)) = class.Pointer t
class_of_kind (Some (kind.Array t count)) = class.Other
class_of_kind (Some (kind.Struct tag members)) = class.Struct

abbrev pub class_of : List Kind → TypeId → Class
class_of types t = if is_number t then class.Number else class_of_kind (slice_get types t.0)

-- arithmetic types and pointers (6.2.5 paragraph 21)
abbrev pub is_scalar_class : Class → Bool
is_scalar_class class.Number = true
is_scalar_class (class.Pointer t) = true
is_scalar_class class.Struct = false
is_scalar_class class.Void = false
is_scalar_class class.Other = false

abbrev pub is_scalar : List Kind → TypeId → Bool
is_scalar types t = is_scalar_class (class_of types t)

abbrev pub is_void : TypeId → Bool
is_void t = nat_eq t.0 0

-- whether a list has an item
abbrev pub has_some : {A : Type 0} → List A → Bool
has_some [] = false
has_some (x ∷ xs) = true

-- whether objects may have the type (6.2.5 paragraph 1): not `void`, an array of unknown length, whose count is 0, or
-- a struct that is not completed
abbrev pub is_complete_kind : Option Kind → Bool
is_complete_kind None = false
is_complete_kind (Some kind.Void) = false
is_complete_kind (Some (kind.Number bits signed)) = true
is_complete_kind (Some (kind.Pointer t)) = true
is_complete_kind (Some (kind.Array t count)) = nat_lt 0 count
is_complete_kind (Some (kind.Struct tag members)) = has_some members.items

abbrev pub is_complete : List Kind → TypeId → Bool
is_complete types t = is_complete_kind (slice_get types t.0)

-- ---- compatible types (6.2.7, 6.7.5.1, 6.7.5.2)

-- two lengths agree where they are equal or one of them is not known
abbrev pub lengths_agree : ℕ → ℕ → Bool
lengths_agree m n = nat_eq m n || (nat_eq m 0 || nat_eq n 0)

-- what two pointers point to, or the elements of two arrays whose lengths agree
abbrev pub parts_of_kinds : Option Kind → Option Kind → Option (TypeId × TypeId)
parts_of_kinds (Some (kind.Pointer a)) (Some (kind.Pointer b)) = Some (a, b)
parts_of_kinds (Some (kind.Array a m)) (Some (kind.Array b n)) = if lengths_agree m n then Some (a, b) else None
parts_of_kinds k l = None

abbrev pub parts_of : List Kind → TypeId → TypeId → Option (TypeId × TypeId)
parts_of types t u = parts_of_kinds (slice_get types t.0) (slice_get types u.0)

abbrev pub parts_are : (TypeId → TypeId → Bool) → Option (TypeId × TypeId) → Bool
parts_are related None = false
parts_are related (Some (a, b)) = related a b

-- one type, or types with compatible parts, down to so many parts
unfoldable pub compatible_down : ℕ → List Kind → TypeId → TypeId → Bool
compatible_down zero types t u = nat_eq t.0 u.0
compatible_down (suc n) types t u = if nat_eq t.0 u.0 then true else parts_are (compatible_down n types) (parts_of types t u)

-- `int (*)[]` and `int (*)[3]` are compatible, and `int *` and `char *` are not. A type has no more parts, one in the
-- other, than its table has types
abbrev pub compatible : List Kind → TypeId → TypeId → Bool
compatible types t u = compatible_down (length types) types t u

-- ---- null pointer constants (6.3.2.3)

-- the null pointer is that of `(void *)0`
abbrev pub is_null : Expression → Bool
is_null (Number z t) = false
is_null Null = true
is_null (Local k t place) = false
is_null (At k) = false
is_null (Load e t size place) = false
is_null (Unary op e t) = false
is_null (Binary op e f t place) = false
is_null (Convert e t) = false
is_null (Move e f unit) = false
is_null (Distance e f unit place) = false
is_null (Compare op e f) = false
is_null (Not e) = false
is_null (And e f) = false
is_null (Or e f) = false
is_null (Choose e f g) = false

abbrev pub is_zero_value : Option ℤ → Bool
is_zero_value None = false
is_zero_value (Some z) = is_zero z

-- a constant expression of a number type with the value 0, or the null pointer as a pointer to `void`
abbrev pub is_null_in : Class → Expression → Bool
is_null_in class.Number e = is_zero_value (value_of e)
is_null_in (class.Pointer t) e = is_void t && is_null e
is_null_in class.Struct e = false
is_null_in class.Void e = false
is_null_in class.Other e = false

abbrev pub is_null_constant : List Kind → Expression → TypeId → Bool
is_null_constant types e t = is_null_in (class_of types t) e

-- an expression of a type as an operand
abbrev pub operand_of : List Kind → Expression → TypeId → Operand
operand_of types e t = record { type_id = t; null = is_null_constant types e t }
