-- What compatible types and the rules for operands mean, in the words of C99.
use Rattle.std.specs.Prelude.{◌≡◌, ℕ, ◌<◌, Bool, true, false, ◌||◌, nat_eq, List, slice_get, Option, Some, None}
use Rattle.sb_core.specs.declared.types.Kind.{Kind}
use Rattle.sb_core.specs.declared.types.Kind.TheVariants as kind
use Rattle.sb_core.specs.declared.types.TypeId.{TypeId}
use Rattle.sb_core.specs.declared.operator.NumOp.{NumOp}
use Rattle.sb_core.specs.Sorts.{is_number, shifts}
use Rattle.sb_typing.specs.declared.operands.Class.TheVariants as class
use Rattle.sb_typing.specs.declared.operands.Joint.TheVariants as joint
use Rattle.sb_typing.specs.declared.operands.Conversion.TheVariants as conversion
use Rattle.sb_typing.specs.Numbers.{promoted, usual}
use Rattle.sb_typing.specs.Classes.{class_of, parts_of, parts_are, compatible}
use Rattle.sb_typing.specs.Operators.{joint_for}
use Rattle.sb_typing.specs.Assignments.{assignment}

-- ---- compatible types (6.2.7)

-- a type is compatible with itself
abbrev pub WithItself : Type 0
WithItself = (types : List Kind) (t : TypeId) → compatible types t t ≡ true

-- it does not matter which of two types stands first
abbrev pub BothWays : Type 0
BothWays = (types : List Kind) (t u : TypeId) → compatible types t u ≡ compatible types u t

-- what a pointer points to, and the elements of an array, stand before it
abbrev pub IsBehind : ℕ → Option Kind → Type 0
IsBehind n None = Unit {0}
IsBehind n (Some kind.Void) = Unit {0}
IsBehind n (Some (kind.Number bits signed)) = Unit {0}
IsBehind n (Some (kind.Pointer t)) = t.0 < n
IsBehind n (Some (kind.Array t count)) = t.0 < n
IsBehind n (Some (kind.Struct tag members)) = Unit {0}

abbrev pub IsOrdered : List Kind → Type 0
IsOrdered types = (n : ℕ) → IsBehind n (slice_get types n)

-- compatible types of such a table are one type, pointers to compatible types, or arrays of compatible elements whose
-- lengths agree (6.7.5.1, 6.7.5.2): the depth of the definition is enough
abbrev pub ByParts : Type 0
ByParts =
    (types : List Kind) → IsOrdered types → (t u : TypeId)
    → compatible types t u ≡ nat_eq t.0 u.0 || parts_are (compatible types) (parts_of types t u)

-- ---- operators (6.5)

-- each operator takes two numbers: both in their common type, or for a shift each promoted
abbrev pub TakesNumbers : Type 0
TakesNumbers =
    (types : List Kind) (o : NumOp) (t u : TypeId) → is_number t ≡ true → is_number u ≡ true
    → ((shifts o ≡ false → joint_for types o t u ≡ Some (joint.Numbers (usual t u)))
    × (shifts o ≡ true → joint_for types o t u ≡ Some (joint.Shift (promoted t) (promoted u))))

-- a value of a pointer type is assigned as it is to an object of that type
abbrev pub AssignsPointer : Type 0
AssignsPointer =
    (types : List Kind) (t a : TypeId) (null : Bool) → class_of types t ≡ class.Pointer a
    → assignment types t (record { type_id = t; null = null }) ≡ Some conversion.Kept

-- and so is a number
abbrev pub AssignsNumber : Type 0
AssignsNumber =
    (types : List Kind) (t : TypeId) (null : Bool) → is_number t ≡ true
    → assignment types t (record { type_id = t; null = null }) ≡ Some conversion.Kept
