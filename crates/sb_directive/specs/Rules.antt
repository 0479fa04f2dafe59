-- what macros do to pieces (C99 6.10.3)
use Rattle.std.specs.Prelude.{ℕ, Bool, List, [], is_some}
use Rattle.sb_base.specs.declared.interning.Name.{Name}
use Rattle.sb_base.specs.declared.refusals.Place.{Place}
use Rattle.sb_lex.specs.declared.piece.PpToken.{PpToken}
use Rattle.sb_macro.specs.Defines.{IsDefined, IsRefused}
use Rattle.sb_macro.specs.declared.ending.End.{End}
use Rattle.sb_macro.specs.Endings.{TextEnds}
use Rattle.sb_macro.specs.Expansion.{Scope, Expanded, Stops, place_of_last}
use Rattle.sb_macro.specs.Halts.{refusal}
use Rattle.sb_macro.specs.Macros.{Macro, macro_named, without}
use Rattle.sb_macro.specs.Tokens.{fresh}

abbrev pub Table : Type 0
Table = List Macro

abbrev pub no_macros : Table
no_macros = []

-- what the expansion of pieces depends on, which may give so many
abbrev pub scope_of : List (List ℕ) → Table → ℕ → Scope
scope_of texts table room = record { texts = texts; macros = table; room = room }

-- macros make `out` of the pieces, at most `room` of them
unfoldable pub IsExpansion : List (List ℕ) → Table → ℕ → List PpToken → List PpToken → Type 0
IsExpansion texts table room pieces out = Expanded (scope_of texts table room) pieces out

-- the pieces are refused by this number at this place
unfoldable pub HasStopped : List (List ℕ) → Table → ℕ → List PpToken → ℕ → Place → Type 0
HasStopped texts table room pieces number place = Stops (scope_of texts table room) (place_of_last pieces) (fresh pieces) number place

-- macros give `out` of the pieces, and end so
unfoldable pub HasEnded : List (List ℕ) → Table → ℕ → List PpToken → List PpToken → End → Type 0
HasEnded texts table room pieces out how = TextEnds (scope_of texts table room) pieces out how

-- the pieces behind `#define` make this of the table
unfoldable pub IsDefinition : List (List ℕ) → Table → List PpToken → Table → Type 0
IsDefinition texts table line new = IsDefined texts table line new

-- they are refused by this number at this place
unfoldable pub IsNoDefinition : List (List ℕ) → Table → List PpToken → ℕ → Place → Type 0
IsNoDefinition texts table line number place = IsRefused texts table line (refusal number place)

-- the table once the name is no macro
unfoldable pub undefined : Table → Name → Table
undefined table name = without table name

unfoldable pub is_macro : Table → Name → Bool
is_macro table name = is_some (macro_named table name)
