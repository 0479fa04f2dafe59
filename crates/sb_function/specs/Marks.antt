-- The readers of single words and marks.
use Rattle.std.specs.Prelude.{ℕ, Bool, true, false, nat_eq, List, Option, Some, None}
use Rattle.sb_base.specs.declared.interning.Name.{Name}
use Rattle.sb_parse.specs.Parser.{Parser, peeked, expect}
use Rattle.sb_function.specs.declared.lexeme.Lexeme.{Lexeme}
use Rattle.sb_function.specs.declared.lexeme.Lexeme.TheVariants.{Void, Int, Unsigned, If, OutWrites, Named, Number, OpenParenthesis, CloseParenthesis, OpenBrace, CloseBrace, OpenBracket, CloseBracket, Comma, Semicolon, Assign, Star, Less, AtMost, Greater, AtLeast, Equal, NotEqual, Other}
use Rattle.sb_function.specs.declared.lexeme.Piece.{Piece}

abbrev pub Reader : Type 0 → Type 0
Reader A = Parser Piece A

-- the one reason to stop
abbrev pub misplaced : ℕ
misplaced = 1

-- a number for each word and mark, whatever name or number it stands for
abbrev pub order_of : Lexeme → ℕ
order_of Void = 0
order_of Int = 1
order_of Unsigned = 2
order_of If = 3
order_of OutWrites = 4
order_of (Named n) = 5
order_of (Number n) = 6
order_of OpenParenthesis = 7
order_of CloseParenthesis = 8
order_of OpenBrace = 9
order_of CloseBrace = 10
order_of OpenBracket = 11
order_of CloseBracket = 12
order_of Comma = 13
order_of Semicolon = 14
order_of Assign = 15
order_of Star = 16
order_of Less = 17
order_of AtMost = 18
order_of Greater = 19
order_of AtLeast = 20
order_of Equal = 21
order_of NotEqual = 22
order_of Other = 23

-- the piece is this word or mark
unfoldable pub is_mark : Lexeme → Piece → Bool
is_mark l t = nat_eq (order_of l) (order_of t.lexeme)

-- a word or mark that has to come, and what follows it
abbrev pub mark : {A : Type 0} → Lexeme → Reader A → Reader A
mark l q = expect misplaced (is_mark l) (λ t. q)

abbrev pub name_of : Lexeme → Option Name
name_of (Named n) = Some n
name_of _ = None

-- neither a name nor a number
abbrev pub is_bare : Lexeme → Bool
is_bare (Named n) = false
is_bare (Number n) = false
is_bare _ = true

abbrev pub lexeme_of : Option Piece → Lexeme
lexeme_of None = Other
lexeme_of (Some t) = t.lexeme

-- the next word or mark; at the end one that no text has
abbrev pub next_lexeme : List Piece → Lexeme
next_lexeme ts = lexeme_of (peeked ts)
