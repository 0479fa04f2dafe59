-- The arrays of a table, each with its element and its count.
use Rattle.std.specs.Prelude.{◌≡◌, ℕ, ◌&&◌, Bool, if◌then◌else◌, nat_eq, Option, Some, None, Result, Ok, Err}
use Rattle.indexmap.specs.IndexMap.{get}
use Rattle.sb_core.specs.declared.types.TypeId.{TypeId}
use Rattle.sb_types.specs.declared.arrays.Arrays.{Arrays}
use Rattle.sb_types.specs.declared.fault.TableFault.{TableFault}
use Rattle.sb_types.specs.declared.fault.TableFault.TheVariants.{TooBig, Full, Memory}

-- two pairs of an element and a count are one
abbrev pub same_pair : ℕ × ℕ → ℕ × ℕ → Bool
same_pair p q = nat_eq p.0 q.0 && nat_eq p.1 q.1

abbrev pub array_in : Arrays → (of count : ℕ) → Option TypeId
array_in arrays of count = get same_pair arrays.numbers (of, count)

abbrev pub IsEmpty : Arrays → Type 0
IsEmpty arrays = (of count : ℕ) → array_in arrays of count ≡ None

-- there is one more array, or another in place of one
abbrev pub HasMore : (before after : Arrays) → ℕ × ℕ → TypeId → Type 0
HasMore before after pair t =
    (of count : ℕ) → array_in after of count ≡ (if same_pair pair (of, count) then Some t else array_in before of count)

abbrev pub IsMemoryFault : TableFault → Type 0
IsMemoryFault TooBig = ⊥
IsMemoryFault Full = ⊥
IsMemoryFault Memory = Unit {0}

abbrev pub IsMemory : {A : Type 0} → Result A TableFault → Type 0
IsMemory (Ok a) = Unit {0}
IsMemory (Err e) = IsMemoryFault e
