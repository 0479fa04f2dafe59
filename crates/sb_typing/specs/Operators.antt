-- Which types operators take as operands, and what type their results have (C99 6.5.3 to 6.5.15). What no constraint
-- allows has no answer.
use Rattle.std.specs.Prelude.{Bool, true, false, ◌&&◌, ◌||◌, if◌then◌else◌, nat_eq, List, Option, Some, None}
use Rattle.sb_core.specs.declared.types.Kind.{Kind}
use Rattle.sb_core.specs.declared.types.TypeId.{TypeId}
use Rattle.sb_core.specs.declared.operator.NumOp.{NumOp}
use Rattle.sb_core.specs.declared.operator.NumOp.TheVariants as op
use Rattle.sb_core.specs.declared.operator.CompareOp.{CompareOp}
use Rattle.sb_core.specs.declared.operator.CompareOp.TheVariants as compare
use Rattle.sb_typing.specs.declared.operands.Class.{Class}
use Rattle.sb_typing.specs.declared.operands.Class.TheVariants.{Number, Pointer, Struct, Void}
use Rattle.sb_typing.specs.declared.operands.Operand.{Operand}
use Rattle.sb_typing.specs.declared.operands.Joint.{Joint}
use Rattle.sb_typing.specs.declared.operands.Joint.TheVariants as joint
use Rattle.sb_typing.specs.declared.operands.Comparison.{Comparison}
use Rattle.sb_typing.specs.declared.operands.Comparison.TheVariants as comparison
use Rattle.sb_typing.specs.declared.operands.Choice.{Choice}
use Rattle.sb_typing.specs.declared.operands.Choice.TheVariants as choice
use Rattle.sb_typing.specs.Numbers.{promoted, usual}
use Rattle.sb_typing.specs.Classes.{class_of, is_void, is_complete, compatible}

abbrev pub only_if : {A : Type 0} → Bool → A → Option A
only_if holds a = if holds then Some a else None

-- ---- unary `+`, `-` and `~` (6.5.3.3)

abbrev pub promoted_of : Class → TypeId → Option TypeId
promoted_of Number t = Some (promoted t)
promoted_of k t = None

-- the type of the operand, promoted, is that of the result
abbrev pub unary_type : List Kind → TypeId → Option TypeId
unary_type types t = promoted_of (class_of types t) t

-- ---- operators on two numbers, and `+` and `-` on pointers too

abbrev pub are_numbers : Class → Class → Bool
are_numbers Number Number = true
are_numbers k l = false

-- `*`, `/`, `%`, `&`, `^`, `|` (6.5.5, 6.5.10 to 6.5.12)
abbrev pub both_numbers : Class → Class → (t u : TypeId) → Option Joint
both_numbers k l t u = only_if (are_numbers k l) (joint.Numbers (usual t u))

-- `<<` and `>>` (6.5.7)
abbrev pub shift : Class → Class → (t u : TypeId) → Option Joint
shift k l t u = only_if (are_numbers k l) (joint.Shift (promoted t) (promoted u))

-- `+` (6.5.6): of two numbers, or of a number and a pointer to a complete type
abbrev pub sum : List Kind → Class → Class → (t u : TypeId) → Option Joint
sum types Number Number t u = Some (joint.Numbers (usual t u))
sum types Number (Pointer b) t u = only_if (is_complete types b) (joint.RightMoved b)
sum types (Pointer a) Number t u = only_if (is_complete types a) (joint.LeftMoved a)
sum types k l t u = None

-- between two pointers to compatible complete types
abbrev pub distance : List Kind → TypeId → TypeId → Option Joint
distance types a b = only_if (is_complete types a && (is_complete types b && compatible types a b)) (joint.Distance a)

-- `-` (6.5.6): of two numbers, of a pointer and a number, or of two pointers
abbrev pub difference : List Kind → Class → Class → (t u : TypeId) → Option Joint
difference types Number Number t u = Some (joint.Numbers (usual t u))
difference types (Pointer a) Number t u = only_if (is_complete types a) (joint.LeftMoved a)
difference types (Pointer a) (Pointer b) t u = distance types a b
difference types k l t u = None

abbrev pub joint_of : List Kind → NumOp → Class → Class → (t u : TypeId) → Option Joint
joint_of types op.Add k l t u = sum types k l t u
joint_of types op.Sub k l t u = difference types k l t u
joint_of types op.Mul k l t u = both_numbers k l t u
joint_of types op.Div k l t u = both_numbers k l t u
joint_of types op.Rem k l t u = both_numbers k l t u
joint_of types op.Shl k l t u = shift k l t u
joint_of types op.Shr k l t u = shift k l t u
joint_of types op.And k l t u = both_numbers k l t u
joint_of types op.Xor k l t u = both_numbers k l t u
joint_of types op.Or k l t u = both_numbers k l t u

-- an operator with operands of two types
abbrev pub joint_for : List Kind → NumOp → (t u : TypeId) → Option Joint
joint_for types op t u = joint_of types op (class_of types t) (class_of types u) t u

-- ---- comparisons

-- `<`, `<=`, `>`, `>=` (6.5.8): of two numbers, or of two pointers to compatible types
abbrev pub order : List Kind → Class → Class → (t u : TypeId) → Option Comparison
order types Number Number t u = Some (comparison.Numbers (usual t u))
order types (Pointer a) (Pointer b) t u = only_if (compatible types a b) comparison.Pointers
order types k l t u = None

-- whether pointers to the two types are compared and assigned: to compatible ones, or where one of them is `void`
abbrev pub go_together : List Kind → TypeId → TypeId → Bool
go_together types a b = compatible types a b || (is_void a || is_void b)

-- `==` and `!=` (6.5.9): a null pointer constant goes with each pointer
abbrev pub equality : List Kind → Class → Class → (left right : Operand) → Option Comparison
equality types Number Number left right = Some (comparison.Numbers (usual left.type_id right.type_id))
equality types Number (Pointer b) left right = only_if left.null comparison.LeftNull
equality types (Pointer a) Number left right = only_if right.null comparison.RightNull
equality types (Pointer a) (Pointer b) left right = only_if (go_together types a b) comparison.Pointers
equality types k l left right = None

abbrev pub comparison_of : List Kind → CompareOp → Class → Class → (left right : Operand) → Option Comparison
comparison_of types compare.Less k l left right = order types k l left.type_id right.type_id
comparison_of types compare.AtMost k l left right = order types k l left.type_id right.type_id
comparison_of types compare.Greater k l left right = order types k l left.type_id right.type_id
comparison_of types compare.AtLeast k l left right = order types k l left.type_id right.type_id
comparison_of types compare.Equal k l left right = equality types k l left right
comparison_of types compare.NotEqual k l left right = equality types k l left right

abbrev pub comparison_for : List Kind → CompareOp → (left right : Operand) → Option Comparison
comparison_for types op left right = comparison_of types op (class_of types left.type_id) (class_of types right.type_id) left right

-- ---- `?:` (6.5.15)

-- to types that are not compatible: a null pointer constant gives way, and then `void` is the result's target
abbrev pub choice_by_void : (a b : TypeId) → (second third : Operand) → Option Choice
choice_by_void a b second third =
    if second.null then Some (choice.Kept third.type_id)
    else if third.null || is_void a then Some (choice.Kept second.type_id)
    else only_if (is_void b) (choice.Kept third.type_id)

-- of operands that point to two types
abbrev pub pointer_choice : List Kind → (a b : TypeId) → (second third : Operand) → Option Choice
pointer_choice types a b second third =
    if nat_eq a.0 b.0 then Some (choice.Kept second.type_id)
    else if compatible types a b then Some choice.Composite
    else choice_by_void a b second third

abbrev pub choice_of : List Kind → Class → Class → (second third : Operand) → Option Choice
choice_of types Number Number second third = Some (choice.Numbers (usual second.type_id third.type_id))
choice_of types Number (Pointer b) second third = only_if second.null choice.LeftNull
choice_of types (Pointer a) Number second third = only_if third.null choice.RightNull
choice_of types (Pointer a) (Pointer b) second third = pointer_choice types a b second third
choice_of types Struct Struct second third = only_if (nat_eq second.type_id.0 third.type_id.0) (choice.Kept second.type_id)
choice_of types Void Void second third = Some (choice.Kept second.type_id)
choice_of types k l second third = None

abbrev pub choice_for : List Kind → (second third : Operand) → Option Choice
choice_for types second third = choice_of types (class_of types second.type_id) (class_of types third.type_id) second third
