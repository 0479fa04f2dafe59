-- What the composite type is to the two types, and composites by hand.
use Rattle.std.specs.Prelude.{◌≡◌, ℕ, true, List, [], ◌∷◌}
use Rattle.sb_core.specs.declared.types.Kind.{Kind}
use Rattle.sb_core.specs.declared.types.Kind.TheVariants as kind
use Rattle.sb_core.specs.declared.types.TypeId.{TypeId}
use Rattle.sb_typing.specs.Classes.{compatible}
use Rattle.sb_typing.specs.TypeLaws.{IsOrdered}
use Rattle.sb_types.specs.declared.table.TypeTable.{TypeTable}
use Rattle.sb_types.specs.Composite.{IsComposite}
use Rattle.sb_types.specs.Table.{IsTypeTable, kinds_of}

-- the composite is compatible with both types
abbrev pub WithBoth : Type 0
WithBoth =
    (types : List Kind) → IsOrdered types → (a b c : TypeId) → IsComposite types a b c → (compatible types a c ≡ true) × (compatible types b c ≡ true)

-- two types of a table have no other composite
abbrev pub IsOnly : Type 0
IsOnly =
    (table : TypeTable) → IsTypeTable table → (a b c d : TypeId) → IsComposite (kinds_of table) a b c → IsComposite (kinds_of table) a b d → c ≡ d

-- ---- by hand

abbrev type_id : ℕ → TypeId
type_id n = record { 0 = n }

-- 0 is `int`; 1 `int []`, 2 `int [3]`; 3 and 4 the pointers to them, `int (*)[]` and `int (*)[3]`; 5 `int (*[2])[]`,
-- 6 `int (*[])[3]` and 7 `int (*[2])[3]`
abbrev pub types_by_hand : List Kind
types_by_hand =
    kind.Number 32 true ∷ kind.Array (type_id 0) 0 ∷ kind.Array (type_id 0) 3 ∷ kind.Pointer (type_id 1) ∷ kind.Pointer (type_id 2) ∷ kind.Array (type_id 3) 2
    ∷ kind.Array (type_id 4) 0 ∷ kind.Array (type_id 4) 2 ∷ []

-- of `int (*)[]` and `int (*)[3]` it is `int (*)[3]`, in either order; of one type the type; and of `int (*[2])[]` and
-- `int (*[])[3]` it is `int (*[2])[3]`
pub record Examples : Type 0 where
  pub unknown_first : IsComposite types_by_hand (type_id 3) (type_id 4) (type_id 4)
  pub unknown_second : IsComposite types_by_hand (type_id 4) (type_id 3) (type_id 4)
  pub of_unknown : IsComposite types_by_hand (type_id 3) (type_id 3) (type_id 3)
  pub of_each : IsComposite types_by_hand (type_id 5) (type_id 6) (type_id 7)
