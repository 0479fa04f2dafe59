-- the pieces that the directives of a file leave (C99 6.10), and where it is refused
use Rattle.std.specs.Prelude.{◌≡◌, ℕ, suc, ◌+◌, ◌-◌, ◌<◌, ◌≤◌, ◌⊎◌, Bool, true, false, List, [], ◌∷◌, ◌++◌, length, Option, Some, slice_get, take, drop, nat_eq}
use Rattle.std.specs.List.{list_any}
use Rattle.sb_base.specs.Names.{with_text}
use Rattle.sb_base.specs.Found.{Found, Missing, TooBig, Whole as Present, IsFound}
use Rattle.sb_base.specs.declared.interning.Name.{Name}
use Rattle.sb_base.specs.declared.refusals.Place.{Place}
use Rattle.sb_base.specs.declared.tokens.Token.{Token}
use Rattle.sb_lex.specs.declared.piece.PpToken.{PpToken}
use Rattle.sb_lex.specs.Lexing.{PiecesOf, Whole, Stopped}
use Rattle.sb_directive.specs.declared.directive.Branch.{Branch}
use Rattle.sb_directive.specs.declared.asks.Asks.TheVariants as asked
use Rattle.sb_directive.specs.Ending.{Ending, Ended, Refused}
use Rattle.sb_directive.specs.Lines.{begins_directive, end_of, part_size, place_of}
use Rattle.sb_directive.specs.Branches.{is_read}
use Rattle.sb_directive.specs.Asking.{asks, branches_after, branches_if}
use Rattle.sb_directive.specs.Headers.{Header, Source, BuiltIn, File, source_of, file_name}
use Rattle.sb_directive.specs.Rules.{Table, IsExpansion, HasStopped, IsDefinition, IsNoDefinition, undefined, no_macros}
use Rattle.sb_directive.specs.Conditions.{HasTruth, HasNoTruth}
pub use Rattle.sb_directive.specs.Limits.{most_tokens}
pub use Rattle.sb_directive.specs.Seeking.{Sought, Named, Unnamed, Seeks}
use Rattle.sb_prep.specs.Tokens.{Converts}

-- at most so many pieces are read in a unit, and files are included so deep
abbrev pub most_read : ℕ
most_read = 4000000

abbrev pub deepest : ℕ
deepest = 64

-- how far a unit has come: its macros, the files that are included once, how many pieces were read and how many tokens given, the tables of names and of files
pub record Progress : Type 0 where
  pub table : Table
  pub once : List ℕ
  pub read : ℕ
  pub given : ℕ
  pub texts : List (List ℕ)
  pub files : List (List ℕ)

abbrev pub with_read : Progress → ℕ → Progress
with_read s count = record { table = s.table; once = s.once; read = s.read + count; given = s.given; texts = s.texts; files = s.files }

abbrev pub with_given : Progress → ℕ → Progress
with_given s count = record { table = s.table; once = s.once; read = s.read; given = s.given + count; texts = s.texts; files = s.files }

abbrev pub with_table : Progress → Table → Progress
with_table s table = record { table = table; once = s.once; read = s.read; given = s.given; texts = s.texts; files = s.files }

abbrev pub with_once : Progress → ℕ → Progress
with_once s file = record { table = s.table; once = s.once ++ (file ∷ []); read = s.read; given = s.given; texts = s.texts; files = s.files }

abbrev pub with_names : Progress → List (List ℕ) → Progress
with_names s texts = record { table = s.table; once = s.once; read = s.read; given = s.given; texts = texts; files = s.files }

abbrev pub with_file : Progress → List ℕ → Progress
with_file s name = record { table = s.table; once = s.once; read = s.read; given = s.given; texts = s.texts; files = with_text s.files name }

-- ---- the lines of directives

-- what the line of a directive that includes no file does to the branches and to the progress
pub data Carries (limit file : ℕ) (line : List PpToken) (bs : List Branch) (s : Progress) : List Branch → Progress → Type 0 where
  branches : (after : List Branch) → branches_after (asks s.texts s.table bs line) bs ≡ Some after → Carries limit file line bs s after s
  condition : (after : List Branch) (holds : Bool) (texts : List (List ℕ)) → branches_if (asks s.texts s.table bs line) holds bs ≡ Some after
      → HasTruth limit s.texts s.table (place_of line) (drop 2 line) holds texts → Carries limit file line bs s after (with_names s texts)
  defines : (table : Table) → asks s.texts s.table bs line ≡ asked.Defines → IsDefinition s.texts s.table (drop 2 line) table → Carries limit file line bs s bs (with_table s table)
  undefines : (name : Name) → asks s.texts s.table bs line ≡ asked.Undefines name → Carries limit file line bs s bs (with_table s (undefined s.table name))
  once : asks s.texts s.table bs line ≡ asked.Once → Carries limit file line bs s bs (with_once s file)

-- the number and the place by which such a line is refused
pub data IsStuck (limit : ℕ) (line : List PpToken) (bs : List Branch) (s : Progress) : ℕ → Place → Type 0 where
  no_condition : (after : List Branch) (holds : Bool) (number : ℕ) (place : Place) → branches_if (asks s.texts s.table bs line) holds bs ≡ Some after
      → HasNoTruth limit s.texts s.table (place_of line) (drop 2 line) number place → IsStuck limit line bs s number place
  no_definition : (number : ℕ) (place : Place) → asks s.texts s.table bs line ≡ asked.Defines → IsNoDefinition s.texts s.table (drop 2 line) number place → IsStuck limit line bs s number place
  refused : (number : ℕ) (place : Place) → asks s.texts s.table bs line ≡ asked.Refused number place → IsStuck limit line bs s number place

-- ---- files that are included

-- what is found of a source: a header that is built in is there, and the library is asked for another
abbrev pub IsContent : Option (List ℕ → Option (List ℕ)) → Source → Found → Type 0
IsContent held (BuiltIn name text) found = found ≡ Present text
IsContent held (File name) found = IsFound held name found

-- where the text of a file starts to be read, and where its last piece stands
abbrev pub file_start : ℕ → Place
file_start file = record { file = file; line = 0; col = 0 }

-- the pieces behind `include` name a source, at a place, and the source has this number among the files, the next if it is new
pub record IsSought (s : Progress) (behind : List PpToken) (source : Source) (number : ℕ) (place : Place) : Type 0 where
  pub header : Header
  pub sought : Seeks s.texts s.table behind (Named header place)
  pub source_is : source_of header ≡ source
  pub numbered : slice_get (with_text s.files (file_name source)) number ≡ Some (file_name source)

-- the source is to be read: it was not met before as one that is included once
pub record IsNew (s : Progress) (behind : List PpToken) (source : Source) (number : ℕ) (place : Place) : Type 0 where
  pub sought : IsSought s behind source number place
  pub counts : list_any (nat_eq number) s.once ≡ false

-- what becomes of an `#include`: its file is passed over, it is refused, or the pieces of its file are read
pub data Inclusion : Type 0 where
  Passed : Inclusion
  Barred : ℕ → Place → Inclusion
  Opened : (file : ℕ) → List PpToken → Inclusion

-- what becomes of an `#include` in a file that is included so deep, and how far the unit has come then.
-- `held`: what the library holds. `limit`: of the table of names
pub data Includes (held : Option (List ℕ → Option (List ℕ))) (limit depth : ℕ) (behind : List PpToken) (s : Progress) : Inclusion → Progress → Type 0 where
  no_header : (number : ℕ) (place : Place) → Seeks s.texts s.table behind (Unnamed number place) → Includes held limit depth behind s (Barred number place) s
  met_before : (source : Source) (number : ℕ) (place : Place) → IsSought s behind source number place → list_any (nat_eq number) s.once ≡ true
      → Includes held limit depth behind s Passed (with_file s (file_name source))
  not_there : (source : Source) (number : ℕ) (place : Place) → IsNew s behind source number place → IsContent held source Missing
      → Includes held limit depth behind s (Barred 21 place) (with_file s (file_name source))
  too_long : (source : Source) (number : ℕ) (place : Place) → IsNew s behind source number place → IsContent held source TooBig
      → Includes held limit depth behind s (Barred 22 place) (with_file s (file_name source))
  too_deep : (source : Source) (number : ℕ) (place : Place) (bytes : List ℕ) → IsNew s behind source number place → IsContent held source (Present bytes) → deepest ≤ depth
      → Includes held limit depth behind s (Barred 23 place) (with_file s (file_name source))
  not_pieces : (source : Source) (number : ℕ) (place : Place) (bytes : List ℕ) (inner : List PpToken) (texts : List (List ℕ)) (refusal row col : ℕ)
      → IsNew s behind source number place → IsContent held source (Present bytes) → depth < deepest → PiecesOf number limit s.texts bytes inner texts (Stopped refusal row col)
      → Includes held limit depth behind s (Barred refusal (record { file = number; line = row; col = col })) (with_names (with_file s (file_name source)) texts)
  opened : (source : Source) (number : ℕ) (place : Place) (bytes : List ℕ) (inner : List PpToken) (texts : List (List ℕ))
      → IsNew s behind source number place → IsContent held source (Present bytes) → depth < deepest → PiecesOf number limit s.texts bytes inner texts Whole
      → Includes held limit depth behind s (Opened number inner) (with_names (with_file s (file_name source)) texts)

-- ---- the parts of a file

-- what follows a part: these pieces are given and what stands behind it is read, the pieces of an included file are read first, or the text is refused
pub data After : Type 0 where
  GoesOn : List PpToken → List Branch → Progress → After
  Enters : (file : ℕ) → List PpToken → Progress → After
  Stops : ℕ → Place → Progress → After

-- what follows the part at the front of the pieces of a file, in these branches: text up to the next directive, or the line of a directive. It has `size` pieces
pub data Part (held : Option (List ℕ → Option (List ℕ))) (limit depth file : ℕ) (bs : List Branch) (s : Progress) (ps : List PpToken) (size : ℕ) : After → Type 0 where
  -- text
  text : (out : List PpToken) → begins_directive s.texts ps ≡ false → is_read bs ≡ true → s.read + size ≤ most_read
      → IsExpansion s.texts s.table (most_tokens - s.given) (take size ps) out
      → Part held limit depth file bs s ps size (GoesOn out bs (with_given (with_read s size) (length out)))
  text_stopped : (number : ℕ) (place : Place) → begins_directive s.texts ps ≡ false → is_read bs ≡ true → s.read + size ≤ most_read
      → HasStopped s.texts s.table (most_tokens - s.given) (take size ps) number place
      → Part held limit depth file bs s ps size (Stops number place s)
  skipped : begins_directive s.texts ps ≡ false → is_read bs ≡ false → s.read + size ≤ most_read
      → Part held limit depth file bs s ps size (GoesOn [] bs (with_read s size))
  -- one piece too many: text before it is expanded first
  too_many : (t : PpToken) → most_read < s.read + size → begins_directive s.texts ps ≡ true ⊎ (is_read bs ≡ false) → slice_get ps (most_read - s.read) ≡ Some t
      → Part held limit depth file bs s ps size (Stops 16 t.place s)
  too_many_in_text : (t : PpToken) (out : List PpToken) → most_read < s.read + size → begins_directive s.texts ps ≡ false → is_read bs ≡ true → slice_get ps (most_read - s.read) ≡ Some t
      → IsExpansion s.texts s.table (most_tokens - s.given) (take (most_read - s.read) ps) out
      → Part held limit depth file bs s ps size (Stops 16 t.place s)
  too_many_behind_stop : (number : ℕ) (place : Place) → most_read < s.read + size → begins_directive s.texts ps ≡ false → is_read bs ≡ true
      → HasStopped s.texts s.table (most_tokens - s.given) (take (most_read - s.read) ps) number place
      → Part held limit depth file bs s ps size (Stops number place s)
  -- directives
  carried : (after : List Branch) (now : Progress) → begins_directive s.texts ps ≡ true → s.read + size ≤ most_read
      → Carries limit file (take size ps) bs (with_read s size) after now
      → Part held limit depth file bs s ps size (GoesOn [] after now)
  stuck : (number : ℕ) (place : Place) → begins_directive s.texts ps ≡ true → s.read + size ≤ most_read
      → IsStuck limit (take size ps) bs (with_read s size) number place
      → Part held limit depth file bs s ps size (Stops number place s)
  passed : (now : Progress) → begins_directive s.texts ps ≡ true → s.read + size ≤ most_read → asks s.texts s.table bs (take size ps) ≡ asked.Includes
      → Includes held limit depth (drop 2 (take size ps)) (with_read s size) Passed now
      → Part held limit depth file bs s ps size (GoesOn [] bs now)
  barred : (number : ℕ) (place : Place) (now : Progress) → begins_directive s.texts ps ≡ true → s.read + size ≤ most_read → asks s.texts s.table bs (take size ps) ≡ asked.Includes
      → Includes held limit depth (drop 2 (take size ps)) (with_read s size) (Barred number place) now
      → Part held limit depth file bs s ps size (Stops number place now)
  opened : (number : ℕ) (inner : List PpToken) (now : Progress) → begins_directive s.texts ps ≡ true → s.read + size ≤ most_read → asks s.texts s.table bs (take size ps) ≡ asked.Includes
      → Includes held limit depth (drop 2 (take size ps)) (with_read s size) (Opened number inner) now
      → Part held limit depth file bs s ps size (Enters number inner now)

-- the part at the front of the pieces has so many of them
pub record IsFront (s : Progress) (ps : List PpToken) (size : ℕ) : Type 0 where
  pub some : 0 < size
  pub size_is : size ≡ part_size s.texts ps

-- and this follows it
pub record HasPart (held : Option (List ℕ → Option (List ℕ))) (limit depth file : ℕ) (bs : List Branch) (s : Progress) (ps : List PpToken) (size : ℕ) (after : After) : Type 0 where
  pub front : IsFront s ps size
  pub follows : Part held limit depth file bs s ps size after

-- what the directives leave of the pieces `ps` of a file that is included so deep and whose last piece stands at `last`, in these branches: the pieces that they give, how far the unit has come then, and how it ends
pub data Leaves (held : Option (List ℕ → Option (List ℕ))) (limit : ℕ) : (depth file : ℕ) → Place → List Branch → Progress → List PpToken → List PpToken → Progress → Ending → Type 0 where
  ended : (depth file : ℕ) (last : Place) (s : Progress) → Leaves held limit depth file last [] s [] [] s Ended
  unclosed : (depth file : ℕ) (last : Place) (b : Branch) (bs : List Branch) (s : Progress) → Leaves held limit depth file last (b ∷ bs) s [] [] s (Refused 25 last)
  goes_on : (depth file : ℕ) (last : Place) (bs after : List Branch) (s now later : Progress) (ps given more : List PpToken) (size : ℕ) (end : Ending)
      → HasPart held limit depth file bs s ps size (GoesOn given after now)
      → Leaves held limit depth file last after now (drop size ps) more later end
      → Leaves held limit depth file last bs s ps (given ++ more) later end
  stops : (depth file : ℕ) (last : Place) (bs : List Branch) (s now : Progress) (ps : List PpToken) (size number : ℕ) (place : Place)
      → HasPart held limit depth file bs s ps size (Stops number place now)
      → Leaves held limit depth file last bs s ps [] now (Refused number place)
  included : (depth file : ℕ) (last : Place) (bs : List Branch) (s now middle later : Progress) (ps inner given more : List PpToken) (size number : ℕ) (end : Ending)
      → HasPart held limit depth file bs s ps size (Enters number inner now)
      → Leaves held limit (suc depth) number (end_of (file_start number) inner) [] now inner given middle Ended
      → Leaves held limit depth file last bs middle (drop size ps) more later end
      → Leaves held limit depth file last bs s ps (given ++ more) later end
  stops_inside : (depth file : ℕ) (last : Place) (bs : List Branch) (s now later : Progress) (ps inner given : List PpToken) (size number refusal : ℕ) (place : Place)
      → HasPart held limit depth file bs s ps size (Enters number inner now)
      → Leaves held limit (suc depth) number (end_of (file_start number) inner) [] now inner given later (Refused refusal place)
      → Leaves held limit depth file last bs s ps given later (Refused refusal place)

-- ---- a unit

-- the start of a unit
abbrev pub beginning : List (List ℕ) → List (List ℕ) → Progress
beginning texts files = record { table = no_macros; once = []; read = 0; given = 0; texts = texts; files = files }

-- the tokens of the unit of a file of the library, with the tables of names and of files before and after it, and how it ends.
-- The file has a number first; where it is not there or too long, its place is its line 0
pub data IsUnit (held : Option (List ℕ → Option (List ℕ))) (limit : ℕ) (name : List ℕ) (texts files : List (List ℕ)) : List Token → List (List ℕ) → List (List ℕ) → Ending → Type 0 where
  not_there : (number : ℕ) → slice_get (with_text files name) number ≡ Some name → IsFound held name Missing
      → IsUnit held limit name texts files [] texts (with_text files name) (Refused 21 (file_start number))
  too_long : (number : ℕ) → slice_get (with_text files name) number ≡ Some name → IsFound held name TooBig
      → IsUnit held limit name texts files [] texts (with_text files name) (Refused 22 (file_start number))
  not_pieces : (number refusal row col : ℕ) (bytes : List ℕ) (inner : List PpToken) (later : List (List ℕ))
      → slice_get (with_text files name) number ≡ Some name → IsFound held name (Present bytes) → PiecesOf number limit texts bytes inner later (Stopped refusal row col)
      → IsUnit held limit name texts files [] later (with_text files name) (Refused refusal (record { file = number; line = row; col = col }))
  stops : (number refusal : ℕ) (bytes : List ℕ) (inner out : List PpToken) (later : List (List ℕ)) (s : Progress) (at : Place)
      → slice_get (with_text files name) number ≡ Some name → IsFound held name (Present bytes) → PiecesOf number limit texts bytes inner later Whole
      → Leaves held limit 0 number (end_of (file_start number) inner) [] (beginning later (with_text files name)) inner out s (Refused refusal at)
      → IsUnit held limit name texts files [] s.texts s.files (Refused refusal at)
  tokens : (number : ℕ) (bytes : List ℕ) (inner out : List PpToken) (later last : List (List ℕ)) (s : Progress) (ts : List Token) (end : Ending)
      → slice_get (with_text files name) number ≡ Some name → IsFound held name (Present bytes) → PiecesOf number limit texts bytes inner later Whole
      → Leaves held limit 0 number (end_of (file_start number) inner) [] (beginning later (with_text files name)) inner out s Ended
      → Converts limit s.texts out ts last end
      → IsUnit held limit name texts files ts last s.files end
