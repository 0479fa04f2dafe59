-- How the macros of a table are kept: in slots, in the order of definition, with the slot of each at its name's number.
use Rattle.std.specs.Prelude.{◌≡◌, ℕ, Bool, true, false, List, [], ◌∷◌, Option, Some, None, option_and_then, slice_get}
use Rattle.sb_base.specs.declared.interning.Name.{Name}
use Rattle.sb_macro.specs.declared.stored.Stored.{Stored}
use Rattle.sb_macro.specs.Macros.{Macro, IsDistinct, macro_of, same_name}

-- the macros that stand: an empty slot is that of a macro that was taken away
abbrev pub standing : List (Option Stored) → List Macro
standing [] = []
standing (Some stored ∷ slots) = macro_of stored ∷ standing slots
standing (None ∷ slots) = standing slots

-- what a slot has; there is nothing behind the last
abbrev pub slot_at : List (Option Stored) → ℕ → Option Stored
slot_at slots place = option_and_then (λ slot. slot) (slice_get slots place)

abbrev pub is_named : Name → Option Stored → Bool
is_named name (Some stored) = same_name stored.name name
is_named name None = false

-- the slot of each macro stands at its name's number
abbrev pub IsIndex : List (Option Stored) → List ℕ → Type 0
IsIndex slots places = (place : ℕ) (stored : Stored) → slot_at slots place ≡ Some stored → slice_get places stored.name.0 ≡ Some place

pub record IsKept (slots : List (Option Stored)) (places : List ℕ) : Type 0 where
  pub index : IsIndex slots places
  pub distinct : IsDistinct (standing slots)

-- the slot that has the macro of a name, or None where none has it
abbrev pub IsSlot : List (Option Stored) → Name → Option ℕ → Type 0
IsSlot slots name (Some place) = (stored : Stored) × (slot_at slots place ≡ Some stored) × (same_name stored.name name ≡ true)
IsSlot slots name None = (place : ℕ) (stored : Stored) → slot_at slots place ≡ Some stored → same_name stored.name name ≡ false

-- what stood at a number still stands there
abbrev pub Keeps : List ℕ → List ℕ → Type 0
Keeps before now = (number place : ℕ) → slice_get before number ≡ Some place → slice_get now number ≡ Some place
