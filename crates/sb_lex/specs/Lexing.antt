-- the pieces of a text, and where it is refused (C99 5.1.1.2 phase 3, 6.4)
use Rattle.std.specs.Prelude.{◌≡◌, ℕ, suc, ◌-◌, ◌<◌, ◌≤◌, ◌⊎◌, Bool, true, false, List, [], ◌∷◌, length, Some, slice_get, take, drop}
use Rattle.sb_base.specs.Names.{holds_text, with_text}
use Rattle.sb_base.specs.declared.tokens.PpKind.{PpKind}
use Rattle.sb_lex.specs.declared.spot.Spot.{Spot}
use Rattle.sb_lex.specs.declared.item.Item.{Item}
use Rattle.sb_lex.specs.declared.item.Line.{Line}
use Rattle.sb_lex.specs.declared.item.Line.TheVariants.{Begin}
use Rattle.sb_lex.specs.declared.item.What.TheVariants.{Newline, Gap, Piece}
use Rattle.sb_lex.specs.declared.piece.PpToken.{PpToken}
use Rattle.sb_lex.specs.Splicing.{bytes_of, text_of_file}
use Rattle.sb_lex.specs.Items.{item_at, Longest, NoneFits, is_begin, line_after}
use Rattle.sb_lex.specs.Values.{HasValue}

-- a file has at most so many pieces
abbrev pub most_pieces : ℕ
most_pieces = 1000000

-- how a text ends: all of it is pieces, or it is refused by a number at a line and column
pub data End : Type 0 where
  Whole : End
  Stopped : (number line col : ℕ) → End

-- the longest front of a text that is this item has so many bytes
pub record HasSize (item : Item) (xs : List Spot) (size : ℕ) : Type 0 where
  pub opened : item.opening ≤ size
  pub longest : Longest item.scan (bytes_of (drop item.opening xs)) (size - item.opening)

-- the item at the front of a text, how many bytes it has, and what is behind it
pub record Takes (line : Line) (xs : List Spot) (item : Item) (size : ℕ) (behind : List Spot) : Type 0 where
  pub here : item_at line (bytes_of xs) ≡ item
  pub sized : HasSize item xs size
  pub behind_is : behind ≡ drop size xs

-- the item at the front of a text does not end, however many bytes it takes
abbrev pub NeverEnds : Line → List Spot → Item → Type 0
NeverEnds line xs item = (item_at line (bytes_of xs) ≡ item) × NoneFits item.scan (bytes_of (drop item.opening xs))

-- a text has a number in the table, or the table has room for it
abbrev pub HasRoom : ℕ → List (List ℕ) → List ℕ → Type 0
HasRoom limit texts text = (holds_text texts text ≡ true) ⊎ (length texts < limit)

-- the pieces of a text, behind `count` pieces of its file: how far its line has come, whether white space stands before it,
-- the table of names (of at most `limit` texts) before and after it
pub data Lexes (file limit : ℕ) : Line → Bool → ℕ → List (List ℕ) → List Spot → List PpToken → List (List ℕ) → End → Type 0 where
  ended : (line : Line) (spaced : Bool) (count : ℕ) (texts : List (List ℕ)) → Lexes file limit line spaced count texts [] [] texts Whole
  newline : (line : Line) (spaced : Bool) (count : ℕ) (texts later : List (List ℕ)) (x : Spot) (xs rest : List Spot) (ps : List PpToken) (end : End) (item : Item) (size : ℕ)
      → Takes line (x ∷ xs) item size rest → item.what ≡ Newline
      → Lexes file limit Begin true count texts rest ps later end → Lexes file limit line spaced count texts (x ∷ xs) ps later end
  gap : (line : Line) (spaced : Bool) (count : ℕ) (texts later : List (List ℕ)) (x : Spot) (xs rest : List Spot) (ps : List PpToken) (end : End) (item : Item) (size : ℕ)
      → Takes line (x ∷ xs) item size rest → item.what ≡ Gap
      → Lexes file limit line true count texts rest ps later end → Lexes file limit line spaced count texts (x ∷ xs) ps later end
  piece : (line : Line) (spaced : Bool) (count : ℕ) (texts later : List (List ℕ)) (x : Spot) (xs rest : List Spot) (ps : List PpToken) (end : End) (item : Item) (size : ℕ) (kind : PpKind) (text : List ℕ) (number : ℕ)
      → Takes line (x ∷ xs) item size rest → item.what ≡ Piece kind → text ≡ take size (bytes_of (x ∷ xs))
      → HasValue kind text → count < most_pieces → HasRoom limit texts text → slice_get (with_text texts text) number ≡ Some text
      → Lexes file limit (line_after line kind text) false (suc count) (with_text texts text) rest ps later end
      → Lexes file limit line spaced count texts (x ∷ xs)
      (record { kind = kind; text = record { 0 = number }; place = record { file = file; line = x.line; col = x.col }; first = is_begin line; spaced = spaced } ∷ ps) later end
  unending : (line : Line) (spaced : Bool) (count : ℕ) (texts : List (List ℕ)) (x : Spot) (xs : List Spot) (item : Item)
      → NeverEnds line (x ∷ xs) item → Lexes file limit line spaced count texts (x ∷ xs) [] texts (Stopped item.refusal x.line x.col)
  bad : (line : Line) (spaced : Bool) (count : ℕ) (texts : List (List ℕ)) (x : Spot) (xs rest : List Spot) (item : Item) (size : ℕ) (kind : PpKind)
      → Takes line (x ∷ xs) item size rest → item.what ≡ Piece kind → (HasValue kind (take size (bytes_of (x ∷ xs))) → ⊥)
      → Lexes file limit line spaced count texts (x ∷ xs) [] texts (Stopped 4 x.line x.col)
  many : (line : Line) (spaced : Bool) (count : ℕ) (texts : List (List ℕ)) (x : Spot) (xs rest : List Spot) (item : Item) (size : ℕ) (kind : PpKind)
      → Takes line (x ∷ xs) item size rest → item.what ≡ Piece kind → HasValue kind (take size (bytes_of (x ∷ xs))) → most_pieces ≤ count
      → Lexes file limit line spaced count texts (x ∷ xs) [] texts (Stopped 5 x.line x.col)
  full : (line : Line) (spaced : Bool) (count : ℕ) (texts : List (List ℕ)) (x : Spot) (xs rest : List Spot) (item : Item) (size : ℕ) (kind : PpKind)
      → Takes line (x ∷ xs) item size rest → item.what ≡ Piece kind → HasValue kind (take size (bytes_of (x ∷ xs))) → count < most_pieces
      → (HasRoom limit texts (take size (bytes_of (x ∷ xs))) → ⊥)
      → Lexes file limit line spaced count texts (x ∷ xs) [] texts (Stopped 28 x.line x.col)

-- the pieces of a whole file, and how it ends
abbrev pub PiecesOf : (file limit : ℕ) → List (List ℕ) → List ℕ → List PpToken → List (List ℕ) → End → Type 0
PiecesOf file limit texts bytes ps later end = Lexes file limit Begin false 0 texts (text_of_file bytes) ps later end
