-- Conversions as if by assignment (C99 6.5.16.1), as of arguments, initialisers and results too, and casts (6.5.4).
use Rattle.std.specs.Prelude.{if◌then◌else◌, nat_eq, List, Option, Some, None, Result, Ok, Err}
use Rattle.sb_core.specs.declared.types.Kind.{Kind}
use Rattle.sb_core.specs.declared.types.TypeId.{TypeId}
use Rattle.sb_typing.specs.declared.operands.Class.{Class}
use Rattle.sb_typing.specs.declared.operands.Class.TheVariants.{Number, Pointer, Struct, Void}
use Rattle.sb_typing.specs.declared.operands.Operand.{Operand}
use Rattle.sb_typing.specs.declared.operands.Conversion.{Conversion}
use Rattle.sb_typing.specs.declared.operands.Conversion.TheVariants.{Kept, Converted, Truth, Null, Dropped}
use Rattle.sb_typing.specs.declared.operands.CastFault.{CastFault}
use Rattle.sb_typing.specs.declared.operands.CastFault.TheVariants as fault
use Rattle.sb_typing.specs.Classes.{class_of}
use Rattle.sb_typing.specs.Operators.{only_if, go_together}

-- a number in another number type
abbrev pub number_in : (to from : TypeId) → Conversion
number_in to from = if nat_eq to.0 from.0 then Kept else Converted

-- ---- 6.5.16.1

abbrev pub assignment_of : List Kind → Class → Class → (to : TypeId) → Operand → Option Conversion
assignment_of types Number Number to from = Some (number_in to from.type_id)
-- a pointer to `_Bool`
assignment_of types Number (Pointer b) to from = only_if (nat_eq to.0 1) Truth
assignment_of types (Pointer a) Number to from = only_if from.null Null
assignment_of types (Pointer a) (Pointer b) to from = only_if (go_together types a b) Kept
assignment_of types Struct Struct to from = only_if (nat_eq to.0 from.type_id.0) Kept
assignment_of types k l to from = None

-- a value that is assigned to an object of a type
abbrev pub assignment : List Kind → (to : TypeId) → Operand → Option Conversion
assignment types to from = assignment_of types (class_of types to) (class_of types from.type_id) to from

-- ---- 6.5.4

-- `(int *)0`
abbrev pub number_cast : Operand → Result Conversion CastFault
number_cast from = if from.null then Ok Null else Err fault.PointerAndNumber

-- `(char *)p` where p points to `void`
abbrev pub pointer_cast : List Kind → (a b : TypeId) → Result Conversion CastFault
pointer_cast types a b = if go_together types a b then Ok Kept else Err fault.Pointers

abbrev pub cast_of : List Kind → Class → Class → (to : TypeId) → Operand → Result Conversion CastFault
cast_of types Void l to from = Ok Dropped
cast_of types Number Number to from = Ok (number_in to from.type_id)
cast_of types Number (Pointer b) to from = Err fault.PointerAndNumber
cast_of types (Pointer a) Number to from = number_cast from
cast_of types (Pointer a) (Pointer b) to from = pointer_cast types a b
cast_of types k l to from = Err fault.Differs

-- a value that is cast to a type
abbrev pub cast : List Kind → (to : TypeId) → Operand → Result Conversion CastFault
cast types to from = cast_of types (class_of types to) (class_of types from.type_id) to from
