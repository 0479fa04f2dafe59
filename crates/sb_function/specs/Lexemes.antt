-- the words and marks that tokens are, as the grammar reads them (C99 6.4)
use Rattle.std.specs.Prelude.{ℕ, ◌^◌, ◌&&◌, List, [], map, slice_get, nat_lt, Option, Some, None, unwrap_or, if◌then◌else◌, codes}
use Rattle.std.specs.Option.{option_map_or}
use Rattle.std.specs.Str.{bytes_eq}
use Rattle.std.specs.Fmt.{decimal}
use Rattle.sb_base.specs.declared.interning.Name.{Name}
use Rattle.sb_base.specs.declared.tokens.PpKind.{PpKind}
use Rattle.sb_base.specs.declared.tokens.PpKind.TheVariants as kind
use Rattle.sb_base.specs.declared.tokens.Token.{Token}
use Rattle.sb_function.specs.declared.lexeme.Lexeme.{Lexeme}
use Rattle.sb_function.specs.declared.lexeme.Lexeme.TheVariants.{Void, Int, Unsigned, If, OutWrites, Named, Number, OpenParenthesis, CloseParenthesis, OpenBrace, CloseBrace, OpenBracket, CloseBracket, Comma, Semicolon, Assign, Star, Less, AtMost, Greater, AtLeast, Equal, NotEqual, Other}
use Rattle.sb_function.specs.declared.lexeme.Piece.{Piece}

-- how a token is spelled; a number that the table of names lacks spells nothing
abbrev pub spelling_of : List (List ℕ) → Token → List ℕ
spelling_of texts t = option_map_or (λ text. text) (slice_get texts t.text.0) []

-- a word of the grammar; any other word is known by its number in the table of names
abbrev pub word_of : Name → List ℕ → Lexeme
word_of name text =
    if bytes_eq text (codes "void") then Void
    else (if bytes_eq text (codes "int") then Int
    else (if bytes_eq text (codes "unsigned") then Unsigned
    else (if bytes_eq text (codes "if") then If
    else (if bytes_eq text (codes "_Out_writes_") then OutWrites
    else Named name))))

-- a constant that is spelled as the decimal of its value: without a suffix and without a leading zero (C99 6.4.4.1), below 2^31
abbrev pub constant_of : ℕ → List ℕ → Lexeme
constant_of value text = if nat_lt value (2 ^ 31) && bytes_eq text (decimal value) then Number value else Other

-- marks of one byte
abbrev pub short_mark_of : List ℕ → Lexeme
short_mark_of text =
    if bytes_eq text (codes "(") then OpenParenthesis
    else (if bytes_eq text (codes ")") then CloseParenthesis
    else (if bytes_eq text (codes "{") then OpenBrace
    else (if bytes_eq text (codes "}") then CloseBrace
    else (if bytes_eq text (codes "[") then OpenBracket
    else (if bytes_eq text (codes "]") then CloseBracket
    else (if bytes_eq text (codes ",") then Comma
    else (if bytes_eq text (codes ";") then Semicolon
    else (if bytes_eq text (codes "=") then Assign
    else (if bytes_eq text (codes "*") then Star
    else (if bytes_eq text (codes "<") then Less
    else (if bytes_eq text (codes ">") then Greater
    else Other)))))))))))

-- marks of two bytes; a digraph is the bracket or brace that it stands for (C99 6.4.6 paragraph 3)
abbrev pub long_mark_of : List ℕ → Option Lexeme
long_mark_of text =
    if bytes_eq text (codes "<=") then Some AtMost
    else (if bytes_eq text (codes ">=") then Some AtLeast
    else (if bytes_eq text (codes "==") then Some Equal
    else (if bytes_eq text (codes "!=") then Some NotEqual
    else (if bytes_eq text (codes "<:") then Some OpenBracket
    else (if bytes_eq text (codes ":>") then Some CloseBracket
    else (if bytes_eq text (codes "<%") then Some OpenBrace
    else (if bytes_eq text (codes "%>") then Some CloseBrace
    else None)))))))

abbrev pub mark_of : List ℕ → Lexeme
mark_of text = unwrap_or (long_mark_of text) (short_mark_of text)

-- a literal or a header name is in no text of the grammar
abbrev pub lexeme_by : PpKind → Name → ℕ → List ℕ → Lexeme
lexeme_by kind.Word name value text = word_of name text
lexeme_by kind.Number name value text = constant_of value text
lexeme_by kind.Punct name value text = mark_of text
lexeme_by _ name value text = Other

-- the word or mark that a token is
abbrev pub lexeme_of : List (List ℕ) → Token → Lexeme
lexeme_of texts t = lexeme_by t.kind t.text t.value (spelling_of texts t)

abbrev pub piece_of : List (List ℕ) → Token → Piece
piece_of texts t = record { lexeme = lexeme_of texts t; place = t.place }

abbrev pub pieces_of : List (List ℕ) → List Token → List Piece
pieces_of texts tokens = map (piece_of texts) tokens
