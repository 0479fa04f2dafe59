-- The way from two compatible types down to the parts of theirs that are one type, and up again to their composite.
use Rattle.std.specs.Prelude.{◌≡◌, ℕ, true, if◌then◌else◌, nat_eq, List, [], ◌∷◌, slice_get, Option, Some, None}
use Rattle.sb_core.specs.declared.types.Kind.{Kind}
use Rattle.sb_core.specs.declared.types.Kind.TheVariants as kind
use Rattle.sb_core.specs.declared.types.TypeId.{TypeId}
use Rattle.sb_typing.specs.Classes.{is_complete, lengths_agree}
use Rattle.sb_types.specs.declared.composite.Step.{Step}
use Rattle.sb_types.specs.declared.composite.Step.TheVariants as step
use Rattle.sb_types.specs.declared.composite.Parts.{Parts}
use Rattle.sb_types.specs.declared.table.TypeTable.{TypeTable}
use Rattle.sb_types.specs.Composite.{known_length, IsComposite}
use Rattle.sb_types.specs.Table.{kinds_of, IsTypeTable, IsBigArray, Keeps}

abbrev pub parts_of_kinds : Option Kind → Option Kind → Option Parts
parts_of_kinds (Some (kind.Pointer a)) (Some (kind.Pointer b)) = Some (record { step = step.Pointer; left = a; right = b })
parts_of_kinds (Some (kind.Array a m)) (Some (kind.Array b n)) = Some (record { step = step.Array (known_length m n); left = a; right = b })
parts_of_kinds k l = None

-- the parts of two types that are not one
abbrev pub parts_of : List Kind → TypeId → TypeId → Option Parts
parts_of types t u = if nat_eq t.0 u.0 then None else parts_of_kinds (slice_get types t.0) (slice_get types u.0)

pub record AreArraysOf (types : List Kind) (count : ℕ) (t u a b : TypeId) : Type 0 where
  pub m : ℕ
  pub n : ℕ
  pub left : slice_get types t.0 ≡ Some (kind.Array a m)
  pub right : slice_get types u.0 ≡ Some (kind.Array b n)
  pub agree : lengths_agree m n ≡ true
  pub known : count ≡ known_length m n

-- a step from the two types `t` and `u` down to `a` and `b`
abbrev pub IsStep : List Kind → Step → (t u a b : TypeId) → Type 0
IsStep types step.Pointer t u a b = (slice_get types t.0 ≡ Some (kind.Pointer a)) × (slice_get types u.0 ≡ Some (kind.Pointer b))
IsStep types (step.Array count) t u a b = AreArraysOf types count t u a b

-- the steps, the last one first, from the types `a` and `b` down to two others
pub data Leads (types : List Kind) (a b : TypeId) : List Step → (x y : TypeId) → Type 0 where
  nowhere : Leads types a b [] a b
  further : (s : Step) (rest : List Step) (t u x y : TypeId) → Leads types a b rest t u → IsStep types s t u x y → Leads types a b (s ∷ rest) x y

pub record LeadsToOne (types : List Kind) (steps : List Step) (a b end : TypeId) : Type 0 where
  pub other : TypeId
  pub leads : Leads types a b steps end other
  pub one : end.0 ≡ other.0

-- the kind of type that a step came from
abbrev pub above : Step → TypeId → Kind
above step.Pointer t = kind.Pointer t
above (step.Array count) t = kind.Array t count

-- the table may hold such a type
abbrev pub HasRoom : TypeTable → Step → TypeId → Type 0
HasRoom table step.Pointer t = Unit {0}
HasRoom table (step.Array count) t = (is_complete (kinds_of table) t ≡ true) × (IsBigArray table t count → ⊥)

-- the table knows the composite of the two types to which the steps lead
pub record IsRising (before after : TypeTable) (steps : List Step) (a b c : TypeId) : Type 0 where
  pub left : TypeId
  pub right : TypeId
  pub leads : Leads (kinds_of after) a b steps left right
  pub composite : IsComposite (kinds_of after) left right c
  pub table : IsTypeTable after
  pub keeps : Keeps before after
