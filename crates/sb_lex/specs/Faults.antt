-- why a file has no list of pieces
use Rattle.std.specs.Prelude.{◌≡◌, ℕ, ◌<◌, ◌≤◌, ◌⊎◌, false, List, Some, Ok, Err, Result, slice_get}
use Rattle.sb_base.specs.Names.{with_text}
use Rattle.sb_base.specs.declared.interning.Name.{Name}
use Rattle.sb_base.specs.declared.refusals.Place.{Place}
use Rattle.sb_base.specs.declared.refusals.Stop.{Stop}
use Rattle.sb_base.specs.declared.refusals.Stop.TheVariants.{Refused, Memory}
use Rattle.sb_base.specs.declared.tokens.PpKind.{PpKind}
use Rattle.sb_lex.specs.declared.spot.Spot.{Spot}
use Rattle.sb_lex.specs.declared.item.Line.TheVariants.{Begin}
use Rattle.sb_lex.specs.declared.piece.PpToken.{PpToken}
use Rattle.sb_lex.specs.Splicing.{text_of_file}
use Rattle.sb_lex.specs.Values.{HasValue}
use Rattle.sb_lex.specs.Lexing.{most_pieces, HasRoom, Lexes, End}
use Rattle.sb_lex.specs.Lexing.End.{Stopped}

-- a text is refused, and the pieces before leave this table of names; want of memory may come at any time
abbrev pub IsFault : (file limit : ℕ) → List (List ℕ) → List Spot → List (List ℕ) → Stop → Type 0
IsFault file limit texts xs later (Refused r) =
    (ps : List PpToken) × Lexes file limit Begin false 0 texts xs ps later (Stopped r.number r.place.line r.place.col) × (r.place.file ≡ file) × (r.feature ≡ 0)
IsFault file limit texts xs later Memory = Unit {0}

-- the same of the bytes of a file
abbrev pub IsNoPieces : (file limit : ℕ) → List (List ℕ) → List ℕ → List (List ℕ) → Stop → Type 0
IsNoPieces file limit texts bytes later stop = IsFault file limit texts (text_of_file bytes) later stop

-- a text has at most one list of pieces or one refusal
abbrev pub HasOneReading : (file limit : ℕ) → List (List ℕ) → List Spot → Type 0
HasOneReading file limit texts xs =
    (ps qs : List PpToken) (later more : List (List ℕ)) (end other : End) → Lexes file limit Begin false 0 texts xs ps later end → Lexes file limit Begin false 0 texts xs qs more other
    → (ps ≡ qs) × (later ≡ more) × (end ≡ other)

-- each text keeps its number
abbrev pub KeepsNumbers : List (List ℕ) → List (List ℕ) → Type 0
KeepsNumbers texts later = (number : ℕ) (text : List ℕ) → slice_get texts number ≡ Some text → slice_get later number ≡ Some text

-- a piece of this kind and spelling, with `count` pieces of the file before it, is refused by this number
abbrev pub IsRefusal : (limit count : ℕ) → List (List ℕ) → PpKind → List ℕ → ℕ → Type 0
IsRefusal limit count texts kind text number =
    ((number ≡ 4) × (HasValue kind text → ⊥))
    ⊎ ((number ≡ 5) × HasValue kind text × (most_pieces ≤ count))
    ⊎ ((number ≡ 28) × HasValue kind text × (count < most_pieces) × (HasRoom limit texts text → ⊥))

-- a piece gets a number in the table of names, or it is refused at its place
abbrev pub IsNamed : (limit count : ℕ) → List (List ℕ) → PpKind → List ℕ → Place → List (List ℕ) → Result Name Stop → Type 0
IsNamed limit count texts kind text place later (Ok name) =
    HasValue kind text × (count < most_pieces) × HasRoom limit texts text × (slice_get later name.0 ≡ Some text) × (later ≡ with_text texts text)
IsNamed limit count texts kind text place later (Err (Refused r)) = IsRefusal limit count texts kind text r.number × (r.place ≡ place) × (r.feature ≡ 0) × (later ≡ texts)
IsNamed limit count texts kind text place later (Err Memory) = Unit {0}
