-- the set of functions that the files of a command line define: the units of the files, and what the grammar reads of them
use Rattle.std.specs.Prelude.{◌≡◌, ℕ, ◌-◌, ◌^◌, ◌≤◌, List, [], ◌∷◌, ◌++◌, length, max, slice_get, Option, Some, map, Vec, Result, Ok, Err}
use Rattle.sb_base.specs.declared.refusals.Place.{Place}
use Rattle.sb_base.specs.declared.refusals.Refusal.{Refusal}
use Rattle.sb_base.specs.declared.tokens.Token.{Token}
use Rattle.sb_base.specs.Outside.{Rose}
use Rattle.sb_parse.specs.Read.{IsRefused}
use Rattle.sb_lexicon.specs.Outcomes.{IsRefusedBy}
use Rattle.sb_specifier.specs.Readers.{Declarations}
use Rattle.sb_unit.specs.Readers.{unit_reader}
use Rattle.sb_unit.specs.Reads.{FitsUnit}
use Rattle.sb_prep.specs.Ending.{Ended, Refused}
use Rattle.sb_prep.specs.Unit.{IsUnit}
use Rattle.sb_prep.specs.declared.fault.UnitFault.{UnitFault}
use Rattle.sb_prep.specs.declared.fault.UnitFault.TheVariants as fault
use Rattle.sb_function.specs.declared.lexeme.Piece.{Piece}
use Rattle.sb_top.specs.declared.sets.SetFault.{SetFault}
use Rattle.sb_top.specs.declared.sets.SetFault.TheVariants.{Unread, Memory}
use Rattle.sb_function.specs.declared.syntax.Function.{Function}
use Rattle.sb_function.specs.Syntax.{FunctionTree}
use Rattle.sb_function.specs.Trees.{trees}
use Rattle.sb_function.specs.Grammar.{IsFile}
use Rattle.sb_function.specs.Lexemes.{pieces_of}

-- a run has at most so many names
abbrev pub most_names : ℕ
most_names = 2 ^ 32 - 1

-- ---- units that are whole

-- how the reading of units ends: each is whole, or one is refused
pub data Ending : Type 0 where
  Whole : Ending
  Stopped : Refusal → Ending

-- tokens are the text of a translation unit
abbrev pub HasTree : List (List ℕ) → List Token → Type 0
HasTree texts tokens = (ds : Declarations) × FitsUnit texts tokens ds

-- tokens are refused by the grammar of translation units
abbrev pub IsMisread : List (List ℕ) → List Token → Refusal → Type 0
IsMisread texts tokens r = IsRefusedBy (unit_reader texts tokens) tokens r

abbrev pub no_feature : ℕ → Place → Refusal
no_feature number place = record { number = number; place = place; feature = 0 }

-- what a file's unit is refused for: the first of its stages that refuses it. With the tables of names and of files before and after it
pub data IsRefusedUnit (held : Option (List ℕ → Option (List ℕ))) (limit : ℕ) (name : List ℕ) (texts files later last : List (List ℕ)) : Refusal → Type 0 where
  by_preprocessor : (tokens : List Token) (number : ℕ) (place : Place) → IsUnit held limit name texts files tokens later last (Refused number place)
      → IsRefusedUnit held limit name texts files later last (no_feature number place)
  by_grammar : (tokens : List Token) (r : Refusal) → IsUnit held limit name texts files tokens later last Ended → IsMisread later tokens r
      → IsRefusedUnit held limit name texts files later last r

-- The tokens of the units of some files, in their order, with the tables of names and of files before and after them, and how they end.
-- The tables go through the units; the first unit that is refused ends them. `held`: what the library holds. `limit`: of the table of names
pub data AreUnits (held : Option (List ℕ → Option (List ℕ))) (limit : ℕ) : List (List ℕ) → List (List ℕ) → List (List ℕ) → List (List Token) → List (List ℕ) → List (List ℕ) → Ending → Type 0 where
  none : (texts files : List (List ℕ)) → AreUnits held limit texts files [] [] texts files Whole
  next : (texts files middle between later last names : List (List ℕ)) (name : List ℕ) (tokens : List Token) (units : List (List Token)) (end : Ending)
      → IsUnit held limit name texts files tokens middle between Ended → HasTree middle tokens → AreUnits held limit middle between names units later last end
      → AreUnits held limit texts files (name ∷ names) (tokens ∷ units) later last end
  refused : (texts files later last names : List (List ℕ)) (name : List ℕ) (r : Refusal) → IsRefusedUnit held limit name texts files later last r
      → AreUnits held limit texts files (name ∷ names) [] later last (Stopped r)

-- the tokens of units as lists
abbrev pub tokens_of : {Z : Type 0} → List (Vec Token Z) → List (List Token)
tokens_of units = map (λ unit. unit.items) units

-- the functions of units, in order: the tokens of each are the text of some functions. Functions of different units may have one name
pub data AreRead (texts : List (List ℕ)) : List (List Token) → List FunctionTree → Type 0 where
  ended : AreRead texts [] []
  read : (tokens : List Token) (units : List (List Token)) (functions more : List FunctionTree)
      → IsFile (pieces_of texts tokens) functions → AreRead texts units more → AreRead texts (tokens ∷ units) (functions ++ more)

-- a list of pieces is refused at this piece: the first that no text goes on with, or the last where the list ends too early
pub record IsRefusedAt (pieces : List Piece) (at : Piece) : Type 0 where
  pub left : ℕ
  pub refused : IsRefused IsFile pieces left
  pub stands : slice_get pieces (length pieces - max left 1) ≡ Some at

-- the place where the first of the units is refused that is no text
pub data IsUnreadAt (texts : List (List ℕ)) : List (List Token) → Place → Type 0 where
  here : (tokens : List Token) (units : List (List Token)) (at : Piece) → IsRefusedAt (pieces_of texts tokens) at → IsUnreadAt texts (tokens ∷ units) at.place
  behind : (tokens : List Token) (units : List (List Token)) (functions : List FunctionTree) (place : Place)
      → IsFile (pieces_of texts tokens) functions → IsUnreadAt texts units place → IsUnreadAt texts (tokens ∷ units) place

-- ---- what code answers

-- the tokens of a unit that is whole, or it is refused, or reading failed, or memory ran out
abbrev pub UnitEndsAs : {Y : Type 0} → Option (List ℕ → Option (List ℕ)) → ℕ → List ℕ → List (List ℕ) → List (List ℕ) → List (List ℕ) → List (List ℕ) → Result (Vec Token Y) UnitFault → Type 0
UnitEndsAs held limit name texts files later last (Ok tokens) = IsUnit held limit name texts files tokens.items later last Ended × HasTree later tokens.items
UnitEndsAs held limit name texts files later last (Err (fault.Refused r)) = (ends : List (List ℕ)) × IsRefusedUnit held limit name texts files ends last r
UnitEndsAs held limit name texts files later last (Err fault.Read) = Unit {0}
UnitEndsAs held limit name texts files later last (Err fault.Memory) = Unit {0}

-- the units are whole or one is refused, or reading failed, or memory ran out
abbrev pub EndAs : {Y Z : Type 0} → Option (List ℕ → Option (List ℕ)) → ℕ → List (List ℕ) → List (List ℕ) → List (List ℕ) → List (List ℕ) → List (List ℕ) → Result (Vec (Vec Token Y) Z) UnitFault → Type 0
EndAs held limit texts files names later last (Ok units) = AreUnits held limit texts files names (tokens_of units.items) later last Whole
EndAs held limit texts files names later last (Err (fault.Refused r)) = (units : List (List Token)) × (ends : List (List ℕ)) × AreUnits held limit texts files names units ends last (Stopped r)
EndAs held limit texts files names later last (Err fault.Read) = Unit {0}
EndAs held limit texts files names later last (Err fault.Memory) = Unit {0}

-- reading failed only where the count of failures rose, which never falls; each other answer leaves the count
abbrev pub HasUnitCause : {A : Type 0} → ℕ → ℕ → Result A UnitFault → Type 0
HasUnitCause before now (Ok a) = now ≡ before
HasUnitCause before now (Err fault.Read) = Rose before now × (before ≤ now)
HasUnitCause before now (Err (fault.Refused r)) = now ≡ before
HasUnitCause before now (Err fault.Memory) = now ≡ before

-- these pieces were read, or are refused at this place, or memory ran out
abbrev pub UnitReadAs : {Z : Type 0} → List Piece → Result (Vec Function Z) SetFault → Type 0
UnitReadAs pieces (Ok v) = IsFile pieces (trees v.items)
UnitReadAs pieces (Err (Unread place)) = (at : Piece) × IsRefusedAt pieces at × (place ≡ at.place)
UnitReadAs pieces (Err Memory) = Unit {0}

-- these units were read, or the first that is no text is refused at this place, or memory ran out
abbrev pub ReadAs : {Z : Type 0} → List (List ℕ) → List (List Token) → Result (Vec Function Z) SetFault → Type 0
ReadAs texts units (Ok v) = AreRead texts units (trees v.items)
ReadAs texts units (Err (Unread place)) = IsUnreadAt texts units place
ReadAs texts units (Err Memory) = Unit {0}
