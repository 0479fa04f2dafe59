-- What well-formedness and layout mean, in laws.
use Rattle.std.specs.Prelude.{◌≡◌, ℕ, ◌+◌, ◌<◌, ◌≤◌, ◌%◌, true, [], ◌∷◌, map}
use Rattle.sb_core.specs.declared.types.TypeId.{TypeId}
use Rattle.sb_core.specs.Beginning.{first_types, IsBeginning}
use Rattle.sb_core.specs.declared.program.Core.{Core}
use Rattle.sb_core.specs.Layout.{rounded, struct_of, spots_from, layout_of, IsFounded}
use Rattle.sb_core.specs.Sorts.{Scope, Sort, Numeric, HasSort, is_number}
use Rattle.sb_core.specs.Formed.{IsStatement, IsWellFormed, at_start}
use Rattle.sb_core.specs.Trees.{Expression, Break, Continue, Goto}

-- an expression has one sort
abbrev pub HasOneSort : Type 0
HasOneSort = (s : Scope) (e : Expression) (a b : Sort) → HasSort s e a → HasSort s e b → a ≡ b

-- a number has a number type
abbrev pub HasNumberType : Type 0
HasNumberType = (s : Scope) (e : Expression) (t : TypeId) → HasSort s e (Numeric t) → is_number t ≡ true

-- nothing leaves a body but `return`
abbrev pub StaysInside : Type 0
StaysInside = (s : Scope) (label : ℕ) → (IsStatement s at_start Break → ⊥) × (IsStatement s at_start Continue → ⊥) × (IsStatement s at_start (Goto label) → ⊥)

-- a core with the types 0 to 12 and nothing else is well formed
abbrev pub BeginsFormed : Type 0
BeginsFormed = (core : Core) → IsBeginning core → IsWellFormed (layout_of first_types) core

-- rounding gives the least multiple that is not below
abbrev pub RoundsUp : Type 0
RoundsUp = (at align : ℕ) → 0 < align → (rounded at align % align ≡ 0) × (at ≤ rounded at align) × (rounded at align < at + align)

-- the sizes of the types 0 to 12
abbrev pub FirstSizes : Type 0
FirstSizes = IsFounded first_types × (map (λ b. b.size) (layout_of first_types).bases ≡ 0 ∷ 1 ∷ 1 ∷ 1 ∷ 1 ∷ 2 ∷ 2 ∷ 4 ∷ 4 ∷ 4 ∷ 4 ∷ 8 ∷ 8 ∷ [])

-- `struct { char c; int n; char d; }` has 12 bytes, aligned to 4, and members at 0, 4 and 8
abbrev pub PadsStruct : Type 0
PadsStruct =
    let members = record { size = 1; align = 1 } ∷ record { size = 4; align = 4 } ∷ record { size = 1; align = 1 } ∷ [] in
    (struct_of members ≡ record { size = 12; align = 4 })
    × (spots_from 4 0 members ≡ record { offset = 0; pad = 3 } ∷ record { offset = 4; pad = 0 } ∷ record { offset = 8; pad = 3 } ∷ [])
