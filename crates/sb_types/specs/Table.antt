-- The table of types while it is made: with each type its size, and the pointer to it.
use Rattle.std.specs.Prelude.{◌≡◌, ℕ, ◌≤◌, length, List, [], ◌∷◌, slice_get, slice_index_or, Option, Some, None, is_some, Bool, true, Result, Ok, Err}
use Rattle.sb_core.specs.declared.layout.Base.{Base}
use Rattle.sb_core.specs.declared.types.Kind.{Kind}
use Rattle.sb_core.specs.declared.types.Kind.TheVariants as kind
use Rattle.sb_core.specs.declared.types.TypeId.{TypeId}
use Rattle.std.specs.Option.{option_map}
use Rattle.std.specs.List.{list_all}
use Rattle.sb_base.specs.declared.interning.Name.{Name}
use Rattle.sb_core.specs.declared.types.Member.{Member}
use Rattle.sb_core.specs.Layout.{base_at, base_of, bases_of, array_of, struct_of}
use Rattle.sb_layout.specs.Faults.{IsSmall, size_if}
use Rattle.sb_typing.specs.Classes.{is_complete, is_complete_kind}
use Rattle.sb_typing.specs.TypeLaws.{IsOrdered}
use Rattle.sb_types.specs.declared.fault.TableFault.{TableFault}
use Rattle.sb_types.specs.declared.fault.TableFault.TheVariants.{TooBig, Full, Memory}
use Rattle.sb_types.specs.declared.table.TypeTable.{TypeTable}
use Rattle.sb_types.specs.Arrays.{array_in}

-- what stands beside the type of a number, where something does
abbrev pub pointer_at : List (Option TypeId) → (t : ℕ) → Option TypeId
pointer_at pointers t = slice_index_or pointers t None

-- a type of the table is laid out by its parts where it is complete, and then has less than 2^31 bytes; an incomplete
-- one has no size. Beside each type stands the pointer to it where the table has one, which it has once
pub record IsTable (kinds : List Kind) (bases : List (Option Base)) (pointers : List (Option TypeId)) : Type 0 where
  pub bases_beside : length bases ≡ length kinds
  pub pointers_beside : length pointers ≡ length kinds
  pub laid_out : (t : ℕ) (k : Kind) (b : Base) → slice_get kinds t ≡ Some k → base_at bases t ≡ Some b → base_of bases k ≡ Some b
  pub complete : (t : ℕ) (k : Kind) → slice_get kinds t ≡ Some k → is_some (base_at bases t) ≡ is_complete_kind (Some k)
  pub small : (t : ℕ) (b : Base) → base_at bases t ≡ Some b → IsSmall b
  pub pointer : (t : ℕ) (p : TypeId) → pointer_at pointers t ≡ Some p → slice_get kinds p.0 ≡ Some (kind.Pointer (record { 0 = t }))
  pub once : (t p : ℕ) → slice_get kinds p ≡ Some (kind.Pointer (record { 0 = t })) → pointer_at pointers t ≡ Some (record { 0 = p })

abbrev pub kinds_of : TypeTable → List Kind
kinds_of table = table.types.list.items

-- the arrays that are found are those of the table, each of which stands there once
pub record AreArrays (kinds : List Kind) (array : (of count : ℕ) → Option TypeId) : Type 0 where
  pub found : (of count : ℕ) (t : TypeId) → array of count ≡ Some t → slice_get kinds t.0 ≡ Some (kind.Array (record { 0 = of }) count)
  pub once : (of count t : ℕ) → slice_get kinds t ≡ Some (kind.Array (record { 0 = of }) count) → array of count ≡ Some (record { 0 = t })

-- an array has elements of a complete type (C99 6.7.5.2 paragraph 1)
abbrev pub HaveElements : List Kind → Type 0
HaveElements kinds = (t : ℕ) (of : TypeId) (count : ℕ) → slice_get kinds t ≡ Some (kind.Array of count) → is_complete kinds of ≡ true

pub record IsTypeTable (table : TypeTable) : Type 0 where
  pub types : IsTable (kinds_of table) table.bases.items table.pointers.items
  pub arrays : AreArrays (kinds_of table) (array_in table.arrays)
  pub few : length (kinds_of table) ≤ 16777216
  pub ordered : IsOrdered (kinds_of table)
  pub elements : HaveElements (kinds_of table)

-- the base of a type that is added is laid out by its parts, and small
abbrev pub IsLaid : List (Option Base) → Kind → Option Base → Type 0
IsLaid bases k o = (b : Base) → o ≡ Some b → (base_of bases k ≡ Some b) × IsSmall b

-- an array of so many elements of the type would have 2^31 bytes or more
abbrev pub IsBigArray : TypeTable → (of : TypeId) → (count : ℕ) → Type 0
IsBigArray table of count = 2147483648 ≤ size_if (option_map (array_of count) (base_at table.bases.items of.0))

-- each type stays as it is
abbrev pub Keeps : (before after : TypeTable) → Type 0
Keeps before after = (t : ℕ) (k : Kind) → slice_get (kinds_of before) t ≡ Some k → slice_get (kinds_of after) t ≡ Some k

-- each other type stays as it is
abbrev pub OthersStay : (before after : TypeTable) → (t : ℕ) → Type 0
OthersStay before after t = (u : ℕ) → (t ≡ u → ⊥) → slice_get (kinds_of after) u ≡ slice_get (kinds_of before) u

-- a struct with that tag and these members
abbrev pub IsStruct : Option Kind → Option Name → List Member → Type 0
IsStruct None tag members = ⊥
IsStruct (Some kind.Void) tag members = ⊥
IsStruct (Some (kind.Number bits signed)) tag members = ⊥
IsStruct (Some (kind.Pointer t)) tag members = ⊥
IsStruct (Some (kind.Array t count)) tag members = ⊥
IsStruct (Some (kind.Struct g ms)) tag members = (g ≡ tag) × (ms.items ≡ members)

-- the members of a struct
abbrev pub members_of : Option Kind → List Member
members_of None = []
members_of (Some kind.Void) = []
members_of (Some (kind.Number bits signed)) = []
members_of (Some (kind.Pointer t)) = []
members_of (Some (kind.Array t count)) = []
members_of (Some (kind.Struct tag members)) = members.items

abbrev pub are_complete : List Kind → List Member → Bool
are_complete kinds members = list_all (λ m. is_complete kinds m.type_id) members

-- a struct of these members would have 2^31 bytes or more
abbrev pub IsBigStruct : TypeTable → List Member → Type 0
IsBigStruct table members = 2147483648 ≤ size_if (option_map struct_of (bases_of table.bases.items members))

-- where a fault is not want of memory: what it says
abbrev pub IfFault : (big full : Type 0) → TableFault → Type 0
IfFault big full TooBig = big
IfFault big full Full = full
IfFault big full Memory = Unit {0}

abbrev pub WhereFault : {A : Type 0} → (big full : Type 0) → Result A TableFault → Type 0
WhereFault big full (Ok a) = Unit {0}
WhereFault big full (Err e) = IfFault big full e

-- the table holds as many types as it may, and is as it was
abbrev pub IsFull : (before after : TypeTable) → Type 0
IsFull before after = (16777216 ≤ length (kinds_of before)) × (after ≡ before)

-- the table holds as many types as it may, among them all that were there
pub record HasFilled (before after : TypeTable) : Type 0 where
  pub full : 16777216 ≤ length (kinds_of after)
  pub keeps : Keeps before after
  pub table : IsTypeTable after

-- ---- the types 0 to 12

abbrev pub scalar : (size : ℕ) → Option Base
scalar size = Some (record { size = size; align = size })

abbrev pub first_bases : List (Option Base)
first_bases =
    None ∷ scalar 1 ∷ scalar 1 ∷ scalar 1 ∷ scalar 1 ∷ scalar 2 ∷ scalar 2 ∷ scalar 4 ∷ scalar 4 ∷ scalar 4 ∷ scalar 4 ∷ scalar 8 ∷ scalar 8 ∷ []

abbrev pub first_pointers : List (Option TypeId)
first_pointers = None ∷ None ∷ None ∷ None ∷ None ∷ None ∷ None ∷ None ∷ None ∷ None ∷ None ∷ None ∷ None ∷ []
