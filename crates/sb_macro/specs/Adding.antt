-- What a definition adds to a table.
use Rattle.std.specs.Prelude.{◌≡◌, ℕ, List, Option, Some, None, Result, Ok, Err}
use Rattle.sb_base.specs.declared.refusals.Place.{Place}
use Rattle.sb_lex.specs.declared.piece.PpToken.{PpToken}
use Rattle.sb_macro.specs.declared.halt.Halt.{Halt}
use Rattle.sb_macro.specs.declared.halt.Halt.TheVariants.{Refused, Memory}
use Rattle.sb_macro.specs.declared.stored.Stored.{Stored}
use Rattle.sb_macro.specs.Defines.{macro_at}
use Rattle.sb_macro.specs.Definition.{definition}
use Rattle.sb_macro.specs.Macros.{Macro, macro_of}

-- the macro that the line adds to the table, or nothing where an identical one stands
abbrev pub IsAddition : List (List ℕ) → List Macro → List PpToken → Option Stored → Type 0
IsAddition texts table line (Some stored) = (definition texts line ≡ Ok (macro_of stored)) × (macro_at table line ≡ None)
IsAddition texts table line None = (m : Macro) × (definition texts line ≡ Ok m) × (macro_at table line ≡ Some m)

-- what comes of a line that was read, where this macro has its name already: nothing if the two are identical, else 12
abbrev pub HasCompared : Result Stored Halt → Macro → Place → Result (Option Stored) Halt → Type 0
HasCompared (Ok stored) other place (Ok None) = other ≡ macro_of stored
HasCompared (Ok stored) other place (Err (Refused number at)) = (other ≡ macro_of stored → ⊥) × (number ≡ 12) × (at ≡ place)
HasCompared (Err (Refused _ _)) other place (Err (Refused number at)) = (number ≡ 12) × (at ≡ place)
HasCompared (Err Memory) other place (Err Memory) = Unit {0}
HasCompared parsed other place result = ⊥
