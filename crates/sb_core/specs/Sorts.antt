-- The two sorts of values, a number of a type and an address, and which expressions are well formed (C99 6.5).
use Rattle.std.specs.Prelude.{◌≡◌, ℕ, ◌-◌, ◌^◌, ◌<◌, ◌⊎◌, ℤ, pos, neg_ℤ, nat_abs, ◌≤ℤ◌, ◌<ℤ◌, Bool, true, false, ◌&&◌, nat_lt, List, slice_get, Option, Some, None}
use Rattle.sb_core.specs.declared.types.Kind.{Kind}
use Rattle.sb_core.specs.declared.types.Kind.TheVariants as kind
use Rattle.sb_core.specs.declared.types.TypeId.{TypeId}
use Rattle.sb_core.specs.declared.operator.NumOp.{NumOp}
use Rattle.sb_core.specs.declared.operator.NumOp.TheVariants as op
use Rattle.sb_core.specs.declared.program.Function.{Function}
use Rattle.sb_core.specs.declared.program.Slot.{Slot}
use Rattle.sb_core.specs.Layout.{Layouts}
use Rattle.sb_core.specs.Looked.{HasType, base_in}
use Rattle.sb_core.specs.Trees.{Expression, Number, Null, Local, At, Load, Unary, Binary, Convert, Move, Distance, Compare, Not, And, Or, Choose}

-- what an expression stands in: the table of types with its layout, the functions of the core, and the locals, the
-- result and the count of labels of its own function
pub record Scope : Type 0 where
  pub types : List Kind
  pub layout : Layouts
  pub functions : List Function
  pub locals : List Slot
  pub result : TypeId
  pub labels : ℕ

-- a number of a type, or a pointer, which has no type here: what stands in memory has the type of its access
pub data Sort : Type 0 where
  Numeric : TypeId → Sort
  Address : Sort

abbrev pub bool_type : TypeId
bool_type = record { 0 = 1 }

abbrev pub int_type : TypeId
int_type = record { 0 = 7 }

abbrev pub long_long_type : TypeId
long_long_type = record { 0 = 11 }

-- the types 1 to 12 are those of numbers
abbrev pub is_number : TypeId → Bool
is_number t = nat_lt 0 t.0 && nat_lt t.0 13

abbrev pub IsPointerKind : Option Kind → Type 0
IsPointerKind None = ⊥
IsPointerKind (Some kind.Void) = ⊥
IsPointerKind (Some (kind.Number bits signed)) = ⊥
IsPointerKind (Some (kind.Pointer t)) = Unit {0}
IsPointerKind (Some (kind.Array t count)) = ⊥
IsPointerKind (Some (kind.Struct tag members)) = ⊥

-- the sort of the values of a scalar type: no struct, array or `void` has one
abbrev pub HasSortOf : List Kind → TypeId → Sort → Type 0
HasSortOf types t sort =
    ((is_number t ≡ true) × (sort ≡ Numeric t))
    ⊎ ((is_number t ≡ false) × IsPointerKind (slice_get types t.0) × (sort ≡ Address))

-- a `signed char` has -128 to 127, an `unsigned char` 0 to 255, and a `_Bool` 0 and 1
abbrev pub IsWithin : (bits : ℕ) (signed : Bool) → ℤ → Type 0
IsWithin bits true z = (neg_ℤ (pos (2 ^ (bits - 1))) ≤ℤ z) × (z <ℤ pos (2 ^ (bits - 1)))
IsWithin bits false z = (pos 0 ≤ℤ z) × (z <ℤ pos (2 ^ bits))

abbrev pub IsWithinKind : Option Kind → ℤ → Type 0
IsWithinKind None z = ⊥
IsWithinKind (Some kind.Void) z = ⊥
IsWithinKind (Some (kind.Number bits signed)) z = IsWithin bits signed z
IsWithinKind (Some (kind.Pointer t)) z = ⊥
IsWithinKind (Some (kind.Array t count)) z = ⊥
IsWithinKind (Some (kind.Struct tag members)) z = ⊥

-- a number in the range of a number type
abbrev pub IsInRange : List Kind → TypeId → ℤ → Type 0
IsInRange types t z = (is_number t ≡ true) × IsWithinKind (slice_get types t.0) z

-- a local that has a value, or one that is an object in memory
abbrev pub IsSlot : Scope → ℕ → (plain : Bool) → TypeId → Type 0
IsSlot s local plain t = (slot : Slot) × (slice_get s.locals local ≡ Some slot) × (slot.plain ≡ plain) × (slot.type_id ≡ t)

-- the bytes of an access to a type
abbrev pub IsSize : Layouts → TypeId → ℕ → Type 0
IsSize l t size = HasType l t × (size ≡ (base_in l t).size)

-- the bytes of some type, by which a pointer goes on or back
abbrev pub IsUnit : Layouts → ℕ → Type 0
IsUnit l size = (t : TypeId) × IsSize l t size

-- whether an operator shifts: its right operand has a type of its own (6.5.7)
abbrev pub shifts : NumOp → Bool
shifts op.Add = false
shifts op.Sub = false
shifts op.Mul = false
shifts op.Div = false
shifts op.Rem = false
shifts op.Shl = true
shifts op.Shr = true
shifts op.And = false
shifts op.Xor = false
shifts op.Or = false

-- the type of the right operand, where the left one and the result have type `t`
abbrev pub IsRightType : (shift : Bool) (t u : TypeId) → Type 0
IsRightType true t u = is_number u ≡ true
IsRightType false t u = u ≡ t

-- an expression is well formed and its values are of that sort
abbrev pub HasSort : Scope → Expression → Sort → Type 0
-- 300 is no `char`
HasSort s (Number z t) sort = IsInRange s.types t z × (sort ≡ Numeric t)
HasSort s Null sort = sort ≡ Address
HasSort s (Local k t place) sort = IsSlot s k true t × HasSortOf s.types t sort
-- the pointer to an `int` array, a struct, or a scalar whose address is taken
HasSort s (At k) sort = ((t : TypeId) × IsSlot s k false t) × (sort ≡ Address)
-- an `int` is loaded by 4 bytes, at a pointer
HasSort s (Load e t size place) sort = HasSort s e Address × IsSize s.layout t size × HasSortOf s.types t sort
HasSort s (Unary op e t) sort = (is_number t ≡ true) × HasSort s e (Numeric t) × (sort ≡ Numeric t)
-- both operands of `+` have the type of the result, and of `<<` the left one
HasSort s (Binary op e f t place) sort =
    (is_number t ≡ true) × HasSort s e (Numeric t)
    × ((u : TypeId) × IsRightType (shifts op) t u × HasSort s f (Numeric u))
    × (sort ≡ Numeric t)
-- from a number to each number type, and from a pointer to `_Bool` alone (6.3.1.2)
HasSort s (Convert e t) sort =
    (is_number t ≡ true) × (((u : TypeId) × HasSort s e (Numeric u)) ⊎ ((t ≡ bool_type) × HasSort s e Address)) × (sort ≡ Numeric t)
-- by the size of what the pointer points to, forwards or back
HasSort s (Move e f unit) sort =
    HasSort s e Address × ((u : TypeId) × HasSort s f (Numeric u)) × IsUnit s.layout (nat_abs unit) × (sort ≡ Address)
HasSort s (Distance e f unit place) sort =
    HasSort s e Address × HasSort s f Address × IsUnit s.layout unit × (0 < unit) × (sort ≡ Numeric long_long_type)
-- two numbers of one type, or two pointers
HasSort s (Compare op e f) sort =
    (((t : TypeId) × HasSort s e (Numeric t) × HasSort s f (Numeric t)) ⊎ (HasSort s e Address × HasSort s f Address))
    × (sort ≡ Numeric int_type)
HasSort s (Not e) sort = ((o : Sort) × HasSort s e o) × (sort ≡ Numeric int_type)
HasSort s (And e f) sort = ((o : Sort) × HasSort s e o) × ((o : Sort) × HasSort s f o) × (sort ≡ Numeric int_type)
HasSort s (Or e f) sort = ((o : Sort) × HasSort s e o) × ((o : Sort) × HasSort s f o) × (sort ≡ Numeric int_type)
HasSort s (Choose e f g) sort = ((o : Sort) × HasSort s e o) × HasSort s f sort × HasSort s g sort

-- a condition is a number or a pointer
abbrev pub IsCondition : Scope → Expression → Type 0
IsCondition s e = (o : Sort) × HasSort s e o

-- an expression whose values are those of a scalar type
abbrev pub IsValueOf : Scope → TypeId → Expression → Type 0
IsValueOf s t e = (o : Sort) × HasSortOf s.types t o × HasSort s e o
