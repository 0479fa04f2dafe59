-- what stands at a byte of a text, and how it goes on (C99 6.4)
use Rattle.std.specs.Prelude.{◌≡◌, ℕ, ◌-◌, ◌<◌, ◌≤◌, Bool, true, false, ◌&&◌, ◌||◌, not, List, [], ◌∷◌, nat_eq, nat_le, if◌then◌else◌, Option, Some, None, take, drop, length, slice_index, codes}
use Rattle.std.specs.Str.{bytes_eq}
use Rattle.sb_base.specs.declared.tokens.PpKind.{PpKind}
use Rattle.sb_base.specs.declared.tokens.PpKind.TheVariants as kind
use Rattle.sb_lex.specs.declared.scan.Stem.{Stem}
use Rattle.sb_lex.specs.declared.scan.Stem.TheVariants as stem
use Rattle.sb_lex.specs.declared.scan.Quote.{Quote}
use Rattle.sb_lex.specs.declared.scan.Quote.TheVariants as quote
use Rattle.sb_lex.specs.declared.scan.Scan.{Scan}
use Rattle.sb_lex.specs.declared.scan.Scan.TheVariants.{Done, Stuck, Word, Number, Exponent, Universal, Hex, LineComment, Comment, CommentStar, Literal, Escape, AngleHeader, AngleLine, Basic, QuoteHeader}
use Rattle.sb_lex.specs.declared.item.What.{What}
use Rattle.sb_lex.specs.declared.item.What.TheVariants.{Newline, Gap, Piece}
use Rattle.sb_lex.specs.declared.item.Item.{Item}
use Rattle.sb_lex.specs.declared.item.Line.{Line}
use Rattle.sb_lex.specs.declared.item.Line.TheVariants.{Begin, Directive, Include, Other}

-- 5.2.1: the basic source character set
abbrev pub is_digit : ℕ → Bool
is_digit b = nat_le 48 b && nat_le b 57

abbrev pub is_letter : ℕ → Bool
is_letter b = (nat_le 97 b && nat_le b 122) || (nat_le 65 b && nat_le b 90) || nat_eq b 95

abbrev pub is_word_byte : ℕ → Bool
is_word_byte b = is_letter b || is_digit b

abbrev pub is_hex_digit : ℕ → Bool
is_hex_digit b = is_digit b || (nat_le 97 b && nat_le b 102) || (nat_le 65 b && nat_le b 70)

-- space, tab, vertical tab and form feed
abbrev pub is_blank : ℕ → Bool
is_blank b = nat_eq b 32 || nat_eq b 9 || nat_eq b 11 || nat_eq b 12

-- all but letters, digits and white space: `! " # % & ' ( ) * + , - . /`, `: ; < = > ?`, `[ \ ] ^`, `{ | } ~`; the underline is a letter here
abbrev pub is_graphic : ℕ → Bool
is_graphic b = (nat_le 33 b && nat_le b 35) || (nat_le 37 b && nat_le b 47) || (nat_le 58 b && nat_le b 63) || (nat_le 91 b && nat_le b 94) || (nat_le 123 b && nat_le b 126)

abbrev pub is_basic : ℕ → Bool
is_basic b = is_word_byte b || is_blank b || is_graphic b

abbrev pub stem_scan : Stem → Scan
stem_scan stem.Word = Word
stem_scan stem.Number = Number

abbrev pub quote_byte : Quote → ℕ
quote_byte quote.Char = 39
quote_byte quote.Text = 34

-- behind a byte of a preprocessing number that is no sign
abbrev pub number_after : ℕ → Option Scan
number_after b =
    if nat_eq b 101 || nat_eq b 69 || nat_eq b 112 || nat_eq b 80 then Some Exponent
    else (if is_word_byte b || nat_eq b 46 then Some Number
    else (if nat_eq b 92 then Some (Universal stem.Number)
    else None))

-- how it goes on with a byte, if it does
abbrev pub next_of : Scan → ℕ → Option Scan
next_of Done b = None
next_of Stuck b = None
next_of Word b = if is_word_byte b then Some Word else (if nat_eq b 92 then Some (Universal stem.Word) else None)
next_of Number b = number_after b
next_of Exponent b = if nat_eq b 43 || nat_eq b 45 then Some Number else number_after b
next_of (Universal s) b = if nat_eq b 117 then Some (Hex s 4) else (if nat_eq b 85 then Some (Hex s 8) else None)
next_of (Hex s k) b = if is_hex_digit b then Some (if nat_le k 1 then stem_scan s else Hex s (k - 1)) else None
next_of LineComment b = if nat_eq b 10 then None else Some LineComment
next_of Comment b = if nat_eq b 42 then Some CommentStar else Some Comment
next_of CommentStar b = if nat_eq b 47 then Some Done else (if nat_eq b 42 then Some CommentStar else Some Comment)
next_of (Literal q) b = if nat_eq b 10 then None else (if nat_eq b 92 then Some (Escape q) else (if nat_eq b (quote_byte q) then Some Done else Some (Literal q)))
next_of (Escape q) b = if nat_eq b 10 then None else Some (Literal q)
next_of AngleHeader b = if nat_eq b 62 then Some Done else (if is_basic b then Some AngleHeader else None)
next_of AngleLine b = if nat_eq b 10 then None else (if nat_eq b 62 then Some Done else Some AngleLine)
next_of Basic b = if is_basic b then Some Basic else None
next_of QuoteHeader b = if nat_eq b 10 then None else (if nat_eq b 34 then Some Done else Some QuoteHeader)

-- whether it may end here
abbrev pub is_whole : Scan → Bool
is_whole Done = true
is_whole Word = true
is_whole Number = true
is_whole Exponent = true
is_whole LineComment = true
is_whole Basic = true
is_whole _ = false

-- whether it is whole once it has gone on with all of these bytes
abbrev pub fits_after : (Scan → Bool) → Option Scan → Bool
fits_after goes None = false
fits_after goes (Some scan) = goes scan

abbrev pub fits : Scan → List ℕ → Bool
fits scan [] = is_whole scan
fits scan (b ∷ bs) = fits_after (λ after. fits after bs) (next_of scan b)

-- whether it is whole once it has gone on with some front of these bytes
abbrev pub some_front : Scan → List ℕ → Bool
some_front scan [] = is_whole scan
some_front scan (b ∷ bs) = is_whole scan || fits_after (λ after. some_front after bs) (next_of scan b)

-- how it goes on with the first of these bytes
abbrev pub next_at : Scan → List ℕ → Option Scan
next_at scan [] = None
next_at scan (b ∷ bs) = next_of scan b

-- no front fits
abbrev pub NoneFits : Scan → List ℕ → Type 0
NoneFits scan bytes = (m : ℕ) → fits scan (take m bytes) ≡ false

-- the longest front that fits has so many bytes
pub record Longest (scan : Scan) (bytes : List ℕ) (n : ℕ) : Type 0 where
  pub within : n ≤ length bytes
  pub fitting : fits scan (take n bytes) ≡ true
  pub longest : (m : ℕ) → n < m → m ≤ length bytes → fits scan (take m bytes) ≡ false

-- 6.4.6: the punctuators of four bytes, of three, two and one
abbrev pub is_mark_of_four : ℕ → ℕ → ℕ → ℕ → Bool
is_mark_of_four a b c d = nat_eq a 37 && nat_eq b 58 && nat_eq c 37 && nat_eq d 58

abbrev pub is_mark_of_three : ℕ → ℕ → ℕ → Bool
is_mark_of_three a b c = (nat_eq a 46 && nat_eq b 46 && nat_eq c 46) || (nat_eq a 60 && nat_eq b 60 && nat_eq c 61) || (nat_eq a 62 && nat_eq b 62 && nat_eq c 61)

-- an operator that `=` may follow: `* / % + - & ^ | < > = !`
abbrev pub takes_assign : ℕ → Bool
takes_assign a = nat_eq a 42 || nat_eq a 47 || nat_eq a 37 || nat_eq a 43 || nat_eq a 45 || nat_eq a 38 || nat_eq a 94 || nat_eq a 124 || nat_eq a 60 || nat_eq a 62 || nat_eq a 61 || nat_eq a 33

-- one that may stand twice: `+ - < > & | #`
abbrev pub is_doubled : ℕ → Bool
is_doubled a = nat_eq a 43 || nat_eq a 45 || nat_eq a 60 || nat_eq a 62 || nat_eq a 38 || nat_eq a 124 || nat_eq a 35

-- `->` and the digraphs `<: :> <% %> %:`
abbrev pub is_other_pair : ℕ → ℕ → Bool
is_other_pair a b = (nat_eq a 45 && nat_eq b 62) || (nat_eq a 60 && nat_eq b 58) || (nat_eq a 58 && nat_eq b 62) || (nat_eq a 60 && nat_eq b 37) || (nat_eq a 37 && nat_eq b 62) || (nat_eq a 37 && nat_eq b 58)

abbrev pub is_mark_of_two : ℕ → ℕ → Bool
is_mark_of_two a b = (takes_assign a && nat_eq b 61) || (is_doubled a && nat_eq a b) || is_other_pair a b

-- `# % & ( ) * + , - . /`, `: ; < = > ?`, `[ ] ^`, `{ | } ~`, `!`: the graphic characters but quotes; a backslash that belongs to nothing else is a piece too
abbrev pub is_mark_of_one : ℕ → Bool
is_mark_of_one a = is_graphic a && not (nat_eq a 34) && not (nat_eq a 39)

-- how many bytes the longest punctuator has that begins so, 0 if none does
abbrev pub mark_length : ℕ → ℕ → ℕ → ℕ → ℕ
mark_length a b c d =
    if is_mark_of_four a b c d then 4
    else (if is_mark_of_three a b c then 3
    else (if is_mark_of_two a b then 2
    else (if is_mark_of_one a then 1
    else 0)))

abbrev pub item : What → ℕ → Scan → ℕ → Item
item what opening scan refusal = record { what = what; opening = opening; scan = scan; refusal = refusal }

-- a punctuator of so many bytes, or a byte of no piece
abbrev pub mark_item : ℕ → Item
mark_item length = if nat_eq length 0 then item (Piece kind.Punct) 1 Stuck 3 else item (Piece kind.Punct) length Done 0

-- the item at four bytes, where it is no header name and no universal character name; 0 stands past the end
abbrev pub plain_item : ℕ → ℕ → ℕ → ℕ → Item
plain_item a b c d =
    if nat_eq a 10 then item Newline 1 Done 0
    else (if is_blank a then item Gap 1 Done 0
    else (if nat_eq a 47 && nat_eq b 47 then item Gap 2 LineComment 0
    else (if nat_eq a 47 && nat_eq b 42 then item Gap 2 Comment 1
    else (if is_letter a then item (Piece kind.Word) 1 Word 0
    else (if is_digit a then item (Piece kind.Number) 1 Number 0
    else (if nat_eq a 46 && is_digit b then item (Piece kind.Number) 2 Number 0
    else (if nat_eq a 39 then item (Piece kind.Char) 1 (Literal quote.Char) 2
    else (if nat_eq a 34 then item (Piece kind.Text) 1 (Literal quote.Text) 2
    else mark_item (mark_length a b c d)))))))))

-- the k-th byte, 0 past the end
abbrev pub byte_at : List ℕ → ℕ → ℕ
byte_at bytes k = slice_index bytes k

-- Behind the `<` of a header name, as of `<a.h>` or `<a"b>`. Where another byte than a basic one stands before the `>` of its
-- line, what stands before that byte is passed over, and the byte is refused: é in `<é>`, `<a"é">`, `<a/*é*/b>` and `<a//é>`.
-- It is none where no `>` follows in the line: `<a`
abbrev pub angle_item : List ℕ → Option Item
angle_item bytes =
    if some_front AngleHeader bytes then Some (item (Piece kind.Header) 1 AngleHeader 0)
    else (if some_front AngleLine bytes then Some (item Gap 1 Basic 0)
    else None)

-- 6.4.7: a header name that is not empty, behind `# include` alone: `<a.h>`, `"a.h"`, but not `<>` and `""`
abbrev pub header_item : ℕ → ℕ → List ℕ → Option Item
header_item a b bytes =
    if nat_eq a 60 && not (nat_eq b 62) then angle_item bytes
    else (if nat_eq a 34 && not (nat_eq b 34) && some_front QuoteHeader bytes then Some (item (Piece kind.Header) 1 QuoteHeader 0)
    else None)

-- a word may begin with a universal character name (6.4.2.1)
abbrev pub word_or_mark : List ℕ → Item
word_or_mark bytes = if some_front (Universal stem.Word) bytes then item (Piece kind.Word) 1 (Universal stem.Word) 0 else item (Piece kind.Punct) 1 Done 0

abbrev pub else_item : Option Item → Item → Item
else_item None other = other
else_item (Some found) other = found

abbrev pub ordinary_item : List ℕ → Item
ordinary_item bytes = if nat_eq (byte_at bytes 0) 92 then word_or_mark (drop 1 bytes) else plain_item (byte_at bytes 0) (byte_at bytes 1) (byte_at bytes 2) (byte_at bytes 3)

abbrev pub is_include : Line → Bool
is_include Include = true
is_include _ = false

-- the item at the front of a text that is not empty
abbrev pub item_at : Line → List ℕ → Item
item_at line bytes = if is_include line then else_item (header_item (byte_at bytes 0) (byte_at bytes 1) (drop 1 bytes)) (ordinary_item bytes) else ordinary_item bytes

abbrev pub is_begin : Line → Bool
is_begin Begin = true
is_begin _ = false

-- how far a line has come behind a piece (6.10)
abbrev pub line_after : Line → PpKind → List ℕ → Line
line_after Begin kind.Punct text = if bytes_eq text (codes "#") || bytes_eq text (codes "%:") then Directive else Other
line_after Directive kind.Word text = if bytes_eq text (codes "include") then Include else Other
line_after _ _ _ = Other
