-- what the functions that read a unit give
use Rattle.std.specs.Prelude.{◌≡◌, ℕ, ◌<◌, ◌≤◌, ◌⊎◌, List, [], ◌∷◌, ◌++◌, length, drop, Option, Some, None, Result, MatchResult}
use Rattle.std.specs.declared.alloc.Global.{Global}
use Rattle.std.specs.declared.vec.Vec.{Vec}
use Rattle.sb_base.specs.Found.{Found, Missing, TooBig, Whole as Present}
use Rattle.sb_base.specs.declared.refusals.Place.{Place}
use Rattle.sb_base.specs.declared.refusals.Stop.{Stop}
use Rattle.sb_base.specs.declared.tokens.Token.{Token}
use Rattle.sb_lex.specs.declared.piece.PpToken.{PpToken}
use Rattle.sb_lex.specs.Lexing.{PiecesOf, Whole, Stopped}
use Rattle.sb_directive.specs.declared.asks.Asks.TheVariants as asked
use Rattle.sb_directive.specs.declared.directive.Branch.{Branch}
use Rattle.sb_directive.specs.Asking.{asks}
use Rattle.sb_directive.specs.Ending.{Ending, Ended, Refused}
use Rattle.sb_directive.specs.Lines.{end_of}
use Rattle.sb_directive.specs.Stopping.{IsStop}
use Rattle.sb_prep.specs.declared.including.Included.{Included}
use Rattle.sb_prep.specs.declared.fault.UnitFault.{UnitFault}
use Rattle.sb_prep.specs.declared.units.ReadPart.{ReadPart}
use Rattle.sb_prep.specs.Standing.{Standing}
use Rattle.sb_prep.specs.Stopping.{IsFault, IsKept, IsIn, AreIn}
use Rattle.sb_prep.specs.Unit.{Progress, Passed, Barred, Opened, Includes, deepest, Carries, IsStuck, GoesOn, Enters, Stops, HasPart, file_start, Leaves, IsUnit}

-- the pieces of an included file, of which each is of a file that has a number
pub record IsOpened (depth : ℕ) (files : List (List ℕ)) (inner : Included) : Type 0 where
  pub deep : depth < deepest
  pub numbered : inner.file < length files
  pub held : AreIn (length files) inner.pieces.items

-- what was found of an included file was read as pieces, or it is refused, and then the header's place or one in the file says where
abbrev pub IsOpen : (depth : ℕ) → (old : Standing) → (file : ℕ) → Found → (new : Standing) → Included → Type 0
IsOpen depth old file found new inner =
    (bytes : List ℕ) × (found ≡ Present bytes) × (depth < deepest) × (inner.file ≡ file) × PiecesOf file old.limit old.at.texts bytes inner.pieces.items new.at.texts Whole

pub data IsShut (depth : ℕ) (old : Standing) (file : ℕ) (found : Found) (header : Place) (new : Standing) : ℕ → Place → Type 0 where
  missing : found ≡ Missing → new ≡ old → IsShut depth old file found header new 21 header
  too_big : found ≡ TooBig → new ≡ old → IsShut depth old file found header new 22 header
  too_deep : (bytes : List ℕ) → found ≡ Present bytes → deepest ≤ depth → new ≡ old → IsShut depth old file found header new 23 header
  not_pieces : (bytes : List ℕ) (ps : List PpToken) (number row col : ℕ) → found ≡ Present bytes → depth < deepest
      → PiecesOf file old.limit old.at.texts bytes ps new.at.texts (Stopped number row col) → IsShut depth old file found header new number (record { file = file; line = row; col = col })

-- an `#include` was carried out, or it was refused at a place in a file that has a number
abbrev pub IsIncluded : Option (List ℕ → Option (List ℕ)) → (depth : ℕ) → List PpToken → (old new : Standing) → Option Included → Type 0
IsIncluded held depth behind old new None = Includes held old.limit depth behind old.at Passed new.at
IsIncluded held depth behind old new (Some inner) = Includes held old.limit depth behind old.at (Opened inner.file inner.pieces.items) new.at × IsOpened depth new.at.files inner

abbrev pub IsBarred : Option (List ℕ → Option (List ℕ)) → (depth : ℕ) → List PpToken → (old new : Standing) → ℕ → Place → Type 0
IsBarred held depth behind old new number place = Includes held old.limit depth behind old.at (Barred number place) new.at × IsIn (length new.at.files) place

-- ---- directives

-- a line that includes no file is refused, at a place in a file that has a number
abbrev pub IsHalted : List PpToken → List Branch → Standing → ℕ → Place → Type 0
IsHalted line bs old number place = IsStuck old.limit line bs old.at number place × IsIn (length old.at.files) place

-- it was carried out, or it is refused
abbrev pub IsCarried : {T : Type 0} → (file : ℕ) → List PpToken → List Branch → Standing → List Branch → Standing → Result T Stop → Type 0
IsCarried file line bs old after new result = MatchResult result (λ _. Carries old.limit file line bs old.at after new.at) (IsStop (IsHalted line bs old))

-- the line of a directive was carried out, or it includes a file
abbrev pub IsDirective : Option (List ℕ → Option (List ℕ)) → (depth file : ℕ) → List PpToken → List Branch → Standing → List Branch → Standing → Option Included → Type 0
IsDirective held depth file line bs old after new None =
    Carries old.limit file line bs old.at after new.at ⊎ ((asks old.at.texts old.at.table bs line ≡ asked.Includes) × (after ≡ bs) × IsIncluded held depth (drop 2 line) old new None)
IsDirective held depth file line bs old after new (Some inner) =
    (asks old.at.texts old.at.table bs line ≡ asked.Includes) × (after ≡ bs) × IsIncluded held depth (drop 2 line) old new (Some inner)

-- it was refused, at a place in a file that has a number
pub data IsNoDirective (held : Option (List ℕ → Option (List ℕ))) (depth : ℕ) (line : List PpToken) (bs : List Branch) (old new : Standing) : ℕ → Place → Type 0 where
  stuck : (number : ℕ) (place : Place) → IsHalted line bs old number place → new.at.files ≡ old.at.files → IsNoDirective held depth line bs old new number place
  barred : (number : ℕ) (place : Place) → asks old.at.texts old.at.table bs line ≡ asked.Includes → IsBarred held depth (drop 2 line) old new number place → IsNoDirective held depth line bs old new number place

-- ---- parts

-- a part was read that gives these pieces
pub record IsGoing (held : Option (List ℕ → Option (List ℕ))) (depth file : ℕ) (bs : List Branch) (old : Standing) (ps : List PpToken) (size : ℕ) (after : List Branch) (new : Standing) : Type 0 where
  pub given : List PpToken
  pub out_is : new.out ≡ old.out ++ given
  pub part : HasPart held old.limit depth file bs old.at ps size (GoesOn given after new.at)

-- a part includes a file
pub record IsEntering (held : Option (List ℕ → Option (List ℕ))) (depth file : ℕ) (bs : List Branch) (old : Standing) (ps : List PpToken) (size : ℕ) (after : List Branch) (new : Standing) (inner : Included) : Type 0 where
  pub out_is : new.out ≡ old.out
  pub same : after ≡ bs
  pub part : HasPart held old.limit depth file bs old.at ps size (Enters inner.file inner.pieces.items new.at)
  pub opened : IsOpened depth new.at.files inner

-- a part was refused, at a place in a file that has a number
pub record IsLate (held : Option (List ℕ → Option (List ℕ))) (depth file : ℕ) (bs : List Branch) (old : Standing) (ps : List PpToken) (size : ℕ) (new : Standing) (number : ℕ) (place : Place) : Type 0 where
  pub now : Progress
  pub files_are : now.files ≡ new.at.files
  pub within : IsIn (length new.at.files) place
  pub part : HasPart held old.limit depth file bs old.at ps size (Stops number place now)

abbrev pub IsReadPart : Option (List ℕ → Option (List ℕ)) → (depth file : ℕ) → List Branch → Standing → List PpToken → List Branch → Standing → ℕ → Option Included → Type 0
IsReadPart held depth file bs old ps after new size None = IsGoing held depth file bs old ps size after new
IsReadPart held depth file bs old ps after new size (Some inner) = IsEntering held depth file bs old ps size after new inner

-- a part that is text was read, or it is refused
abbrev pub IsTextRead : {T : Type 0} → Option (List ℕ → Option (List ℕ)) → (depth file : ℕ) → List Branch → Standing → List PpToken → ℕ → Standing → Result T Stop → Type 0
IsTextRead held depth file bs old ps size new result = MatchResult result (λ _. IsGoing held depth file bs old ps size bs new) (IsStop (IsLate held depth file bs old ps size new))

-- a part was refused
pub record IsPartRefused (held : Option (List ℕ → Option (List ℕ))) (depth file : ℕ) (bs : List Branch) (old : Standing) (ps : List PpToken) (new : Standing) (number : ℕ) (place : Place) : Type 0 where
  pub size : ℕ
  pub late : IsLate held depth file bs old ps size new number place

-- a part was read, or it is refused
abbrev pub IsPartRead : Option (List ℕ → Option (List ℕ)) → (depth file : ℕ) → List Branch → Standing → List PpToken → List Branch → Standing → Result ReadPart UnitFault → Type 0
IsPartRead held depth file bs old ps after new result =
    MatchResult result (λ part. IsReadPart held depth file bs old ps after new part.size part.inner) (IsFault (IsPartRefused held depth file bs old ps new))

-- ---- files

-- a file ends inside an `#if`
abbrev pub IsUnclosed : List Branch → Place → ℕ → Place → Type 0
IsUnclosed bs last number place = (b : Branch) × (more : List Branch) × (bs ≡ b ∷ more) × (number ≡ 25) × (place ≡ last)

-- the pieces of a file were read
pub record IsFileRead (held : Option (List ℕ → Option (List ℕ))) (depth file : ℕ) (ps : List PpToken) (old new : Standing) : Type 0 where
  pub given : List PpToken
  pub out_is : new.out ≡ old.out ++ given
  pub leaves : Leaves held old.limit depth file (end_of (file_start file) ps) [] old.at ps given new.at Ended

-- the pieces of a file are refused, at a place in a file that has a number
pub record IsFileRefused (held : Option (List ℕ → Option (List ℕ))) (depth file : ℕ) (ps : List PpToken) (old new : Standing) (number : ℕ) (place : Place) : Type 0 where
  pub given : List PpToken
  pub later : Progress
  pub files_are : later.files ≡ new.at.files
  pub within : IsIn (length new.at.files) place
  pub leaves : Leaves held old.limit depth file (end_of (file_start file) ps) [] old.at ps given later (Refused number place)

abbrev pub IsFile : {T : Type 0} → Option (List ℕ → Option (List ℕ)) → (depth file : ℕ) → List PpToken → Standing → Standing → Result T UnitFault → Type 0
IsFile held depth file ps old new result = MatchResult result (λ _. IsFileRead held depth file ps old new) (IsFault (IsFileRefused held depth file ps old new))

-- the pieces `rest` of a file, in these branches, are what is left of its pieces `ps`
pub record Reaches (held : Option (List ℕ → Option (List ℕ))) (depth file : ℕ) (ps : List PpToken) (start : Standing) (bs : List Branch) (now : Standing) (rest : List PpToken) : Type 0 where
  pub given : List PpToken
  pub out_is : now.out ≡ start.out ++ given
  pub limit_is : now.limit ≡ start.limit
  pub kept : IsKept start.at.files now.at.files
  pub in_files : AreIn (length now.at.files) rest
  pub goes : (more : List PpToken) (later : Progress) (end : Ending) → Leaves held start.limit depth file (end_of (file_start file) ps) bs now.at rest more later end
      → Leaves held start.limit depth file (end_of (file_start file) ps) [] start.at ps (given ++ more) later end

-- ---- units

-- the file of a unit has these pieces, or it is refused
abbrev pub HasPieces : Standing → (file : ℕ) → Found → Standing → List PpToken → Type 0
HasPieces old file found new ps = (bytes : List ℕ) × (found ≡ Present bytes) × PiecesOf file old.limit old.at.texts bytes ps new.at.texts Whole

pub data HasNoPieces (old : Standing) (file : ℕ) (found : Found) (new : Standing) : ℕ → Place → Type 0 where
  missing : found ≡ Missing → new ≡ old → HasNoPieces old file found new 21 (file_start file)
  too_big : found ≡ TooBig → new ≡ old → HasNoPieces old file found new 22 (file_start file)
  not_pieces : (bytes : List ℕ) (ps : List PpToken) (number row col : ℕ) → found ≡ Present bytes
      → PiecesOf file old.limit old.at.texts bytes ps new.at.texts (Stopped number row col) → HasNoPieces old file found new number (record { file = file; line = row; col = col })

-- the unit is refused by a number, at a place in a file that has a number
pub record IsUnitRefused (held : Option (List ℕ → Option (List ℕ))) (limit : ℕ) (name : List ℕ) (texts files later_files : List (List ℕ)) (number : ℕ) (place : Place) : Type 0 where
  pub tokens : List Token
  pub later : List (List ℕ)
  pub refused : IsUnit held limit name texts files tokens later later_files (Refused number place)
  pub within : IsIn (length later_files) place

-- the tokens of the unit of a file, with the tables of names and of files before and after it, or its refusal
abbrev pub IsUnitOf : Option (List ℕ → Option (List ℕ)) → (limit : ℕ) → List ℕ → (texts files later later_files : List (List ℕ)) → Result (Vec Token Global) UnitFault → Type 0
IsUnitOf held limit name texts files later later_files result =
    MatchResult result (λ tokens. IsUnit held limit name texts files tokens.items later later_files Ended) (IsFault (IsUnitRefused held limit name texts files later_files))
