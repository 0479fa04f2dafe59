-- What a token is to the grammar: a keyword, a punctuator, an identifier, a constant or a string literal (C99 6.4).
use Rattle.std.specs.Prelude.{ℕ, ◌-◌, ◌^◌, Bool, true, false, List, [], ◌∷◌, map, slice_get, nat_eq, nat_lt, Option, Some, None, if◌then◌else◌, codes}
use Rattle.std.specs.Option.{option_map_or}
use Rattle.std.specs.Str.{bytes_eq}
use Rattle.sb_base.specs.declared.interning.Name.{Name}
use Rattle.sb_base.specs.declared.tokens.PpKind.{PpKind}
use Rattle.sb_base.specs.declared.tokens.PpKind.TheVariants as kind
use Rattle.sb_base.specs.declared.tokens.Token.{Token}
use Rattle.sb_sign.specs.declared.sign.Keyword.{Keyword}
use Rattle.sb_sign.specs.declared.sign.Keyword.TheVariants as keyword
use Rattle.sb_sign.specs.declared.sign.Mark.{Mark}
use Rattle.sb_sign.specs.declared.sign.Mark.TheVariants as mark

-- the keywords and punctuators, one spelling of each
abbrev pub own_words : List (List ℕ)
own_words =
    map codes
    ("auto" ∷ "break" ∷ "case" ∷ "char" ∷ "const" ∷ "continue" ∷ "default" ∷ "do" ∷ "double" ∷ "else" ∷ "enum" ∷ "extern" ∷ "float" ∷ "for" ∷ "goto" ∷ "if" ∷ "inline" ∷ "int" ∷ "long"
    ∷ "register" ∷ "restrict" ∷ "return" ∷ "short" ∷ "signed" ∷ "sizeof" ∷ "static" ∷ "struct" ∷ "switch" ∷ "typedef" ∷ "union" ∷ "unsigned" ∷ "void" ∷ "volatile" ∷ "while" ∷ "_Bool" ∷ "_Complex"
    ∷ "_Imaginary" ∷ "[" ∷ "]" ∷ "(" ∷ ")" ∷ "{" ∷ "}" ∷ "." ∷ "->" ∷ "++" ∷ "--" ∷ "&" ∷ "*" ∷ "+" ∷ "-" ∷ "~" ∷ "!" ∷ "/" ∷ "%" ∷ "<<" ∷ ">>" ∷ "<" ∷ ">" ∷ "<=" ∷ ">=" ∷ "==" ∷ "!=" ∷ "^"
    ∷ "|" ∷ "&&" ∷ "||" ∷ "?" ∷ ":" ∷ ";" ∷ "..." ∷ "=" ∷ "*=" ∷ "/=" ∷ "%=" ∷ "+=" ∷ "-=" ∷ "<<=" ∷ ">>=" ∷ "&=" ∷ "^=" ∷ "|=" ∷ "," ∷ [])

-- The text that has this number, and nothing where the table lacks it. Past the numbers of tables, which have 32 bits, stand the language's own words,
-- so that a text may go on with any of them, whatever words a table holds.
abbrev pub text_at : List (List ℕ) → ℕ → List ℕ
text_at texts n = option_map_or (λ text. text) (if nat_lt n (2 ^ 32) then slice_get texts n else slice_get own_words (n - 2 ^ 32)) []

-- how a token is spelled
abbrev pub spelling_of : List (List ℕ) → Token → List ℕ
spelling_of texts t = text_at texts t.text.0

-- the first of two that is there
abbrev pub first_some : {A : Type 0} → Option A → Option A → Option A
first_some (Some a) other = Some a
first_some None other = other

-- ---- keywords (6.4.1)

-- keywords of up to four letters
abbrev pub short_keyword : List ℕ → Option Keyword
short_keyword text =
    if bytes_eq text (codes "auto") then Some keyword.Auto
    else (if bytes_eq text (codes "case") then Some keyword.Case
    else (if bytes_eq text (codes "char") then Some keyword.Char
    else (if bytes_eq text (codes "do") then Some keyword.Do
    else (if bytes_eq text (codes "else") then Some keyword.Else
    else (if bytes_eq text (codes "enum") then Some keyword.Enum
    else (if bytes_eq text (codes "for") then Some keyword.For
    else (if bytes_eq text (codes "goto") then Some keyword.Goto
    else (if bytes_eq text (codes "if") then Some keyword.If
    else (if bytes_eq text (codes "int") then Some keyword.Int
    else (if bytes_eq text (codes "long") then Some keyword.Long
    else (if bytes_eq text (codes "void") then Some keyword.Void
    else None)))))))))))

-- keywords of five letters
abbrev pub keyword_of_five : List ℕ → Option Keyword
keyword_of_five text =
    if bytes_eq text (codes "break") then Some keyword.Break
    else (if bytes_eq text (codes "const") then Some keyword.Const
    else (if bytes_eq text (codes "float") then Some keyword.Float
    else (if bytes_eq text (codes "short") then Some keyword.Short
    else (if bytes_eq text (codes "union") then Some keyword.Union
    else (if bytes_eq text (codes "while") then Some keyword.While
    else (if bytes_eq text (codes "_Bool") then Some keyword.Bool
    else None))))))

-- keywords of six letters
abbrev pub keyword_of_six : List ℕ → Option Keyword
keyword_of_six text =
    if bytes_eq text (codes "double") then Some keyword.Double
    else (if bytes_eq text (codes "extern") then Some keyword.Extern
    else (if bytes_eq text (codes "inline") then Some keyword.Inline
    else (if bytes_eq text (codes "return") then Some keyword.Return
    else (if bytes_eq text (codes "signed") then Some keyword.Signed
    else (if bytes_eq text (codes "sizeof") then Some keyword.SizeOf
    else (if bytes_eq text (codes "static") then Some keyword.Static
    else (if bytes_eq text (codes "struct") then Some keyword.Struct
    else (if bytes_eq text (codes "switch") then Some keyword.Switch
    else None))))))))

-- longer keywords
abbrev pub long_keyword : List ℕ → Option Keyword
long_keyword text =
    if bytes_eq text (codes "continue") then Some keyword.Continue
    else (if bytes_eq text (codes "default") then Some keyword.Default
    else (if bytes_eq text (codes "register") then Some keyword.Register
    else (if bytes_eq text (codes "restrict") then Some keyword.Restrict
    else (if bytes_eq text (codes "typedef") then Some keyword.Typedef
    else (if bytes_eq text (codes "unsigned") then Some keyword.Unsigned
    else (if bytes_eq text (codes "volatile") then Some keyword.Volatile
    else (if bytes_eq text (codes "_Complex") then Some keyword.Complex
    else (if bytes_eq text (codes "_Imaginary") then Some keyword.Imaginary
    else None))))))))

abbrev pub keyword_in : List ℕ → Option Keyword
keyword_in text = first_some (short_keyword text) (first_some (keyword_of_five text) (first_some (keyword_of_six text) (long_keyword text)))

-- ---- punctuators (6.4.6)

-- marks of one byte that no operator has alone
abbrev pub separator : List ℕ → Option Mark
separator text =
    if bytes_eq text (codes "[") then Some mark.OpenBracket
    else (if bytes_eq text (codes "]") then Some mark.CloseBracket
    else (if bytes_eq text (codes "(") then Some mark.OpenParenthesis
    else (if bytes_eq text (codes ")") then Some mark.CloseParenthesis
    else (if bytes_eq text (codes "{") then Some mark.OpenBrace
    else (if bytes_eq text (codes "}") then Some mark.CloseBrace
    else (if bytes_eq text (codes ".") then Some mark.Dot
    else (if bytes_eq text (codes "?") then Some mark.Question
    else (if bytes_eq text (codes ":") then Some mark.Colon
    else (if bytes_eq text (codes ";") then Some mark.Semicolon
    else (if bytes_eq text (codes "=") then Some mark.Assign
    else (if bytes_eq text (codes ",") then Some mark.Comma
    else None)))))))))))

-- operators of one byte
abbrev pub operator_sign : List ℕ → Option Mark
operator_sign text =
    if bytes_eq text (codes "&") then Some mark.Ampersand
    else (if bytes_eq text (codes "*") then Some mark.Star
    else (if bytes_eq text (codes "+") then Some mark.Plus
    else (if bytes_eq text (codes "-") then Some mark.Minus
    else (if bytes_eq text (codes "~") then Some mark.Tilde
    else (if bytes_eq text (codes "!") then Some mark.Exclamation
    else (if bytes_eq text (codes "/") then Some mark.Slash
    else (if bytes_eq text (codes "%") then Some mark.Percent
    else (if bytes_eq text (codes "<") then Some mark.Less
    else (if bytes_eq text (codes ">") then Some mark.Greater
    else (if bytes_eq text (codes "^") then Some mark.Caret
    else (if bytes_eq text (codes "|") then Some mark.Bar
    else None)))))))))))

-- marks of two bytes that end in `=`
abbrev pub assignment_sign : List ℕ → Option Mark
assignment_sign text =
    if bytes_eq text (codes "<=") then Some mark.AtMost
    else (if bytes_eq text (codes ">=") then Some mark.AtLeast
    else (if bytes_eq text (codes "==") then Some mark.Equal
    else (if bytes_eq text (codes "!=") then Some mark.NotEqual
    else (if bytes_eq text (codes "*=") then Some mark.StarAssign
    else (if bytes_eq text (codes "/=") then Some mark.SlashAssign
    else (if bytes_eq text (codes "%=") then Some mark.PercentAssign
    else (if bytes_eq text (codes "+=") then Some mark.PlusAssign
    else (if bytes_eq text (codes "-=") then Some mark.MinusAssign
    else (if bytes_eq text (codes "&=") then Some mark.AmpersandAssign
    else (if bytes_eq text (codes "^=") then Some mark.CaretAssign
    else (if bytes_eq text (codes "|=") then Some mark.BarAssign
    else None)))))))))))

-- other marks of two bytes; a digraph is the bracket or brace that it stands for (6.4.6 paragraph 3)
abbrev pub pair : List ℕ → Option Mark
pair text =
    if bytes_eq text (codes "->") then Some mark.Arrow
    else (if bytes_eq text (codes "++") then Some mark.Increment
    else (if bytes_eq text (codes "--") then Some mark.Decrement
    else (if bytes_eq text (codes "<<") then Some mark.ShiftLeft
    else (if bytes_eq text (codes ">>") then Some mark.ShiftRight
    else (if bytes_eq text (codes "&&") then Some mark.And
    else (if bytes_eq text (codes "||") then Some mark.Or
    else (if bytes_eq text (codes "<:") then Some mark.OpenBracket
    else (if bytes_eq text (codes ":>") then Some mark.CloseBracket
    else (if bytes_eq text (codes "<%") then Some mark.OpenBrace
    else (if bytes_eq text (codes "%>") then Some mark.CloseBrace
    else None))))))))))

-- marks of three bytes
abbrev pub triple : List ℕ → Option Mark
triple text =
    if bytes_eq text (codes "...") then Some mark.Ellipsis
    else (if bytes_eq text (codes "<<=") then Some mark.ShiftLeftAssign
    else (if bytes_eq text (codes ">>=") then Some mark.ShiftRightAssign
    else None))

abbrev pub mark_in : List ℕ → Option Mark
mark_in text = first_some (separator text) (first_some (operator_sign text) (first_some (assignment_sign text) (first_some (pair text) (triple text))))

-- ---- tokens

abbrev pub keyword_by : PpKind → List ℕ → Option Keyword
keyword_by kind.Word text = keyword_in text
keyword_by _ text = None

-- the keyword that a token is
abbrev pub keyword_of : List (List ℕ) → Token → Option Keyword
keyword_of texts t = keyword_by t.kind (spelling_of texts t)

abbrev pub mark_by : PpKind → List ℕ → Option Mark
mark_by kind.Punct text = mark_in text
mark_by _ text = None

-- the punctuator that a token is
abbrev pub mark_of : List (List ℕ) → Token → Option Mark
mark_of texts t = mark_by t.kind (spelling_of texts t)

abbrev pub name_by : PpKind → Name → Option Keyword → Option Name
name_by kind.Word name None = Some name
name_by _ _ _ = None

-- the identifier that a token is: a word that is no keyword (6.4.2.1)
abbrev pub name_of : List (List ℕ) → Token → Option Name
name_of texts t = name_by t.kind t.text (keyword_of texts t)

abbrev pub is_number_kind : PpKind → Bool
is_number_kind kind.Number = true
is_number_kind kind.Char = true
is_number_kind _ = false

-- a constant: a number or a character (6.4.4)
abbrev pub is_number : Token → Bool
is_number t = is_number_kind t.kind

abbrev pub is_text_kind : PpKind → Bool
is_text_kind kind.Text = true
is_text_kind _ = false

-- a string literal (6.4.5)
abbrev pub is_text : Token → Bool
is_text t = is_text_kind t.kind

-- ---- equal marks and keywords

abbrev pub number_of_mark : Mark → ℕ
number_of_mark mark.OpenBracket = 0
number_of_mark mark.CloseBracket = 1
number_of_mark mark.OpenParenthesis = 2
number_of_mark mark.CloseParenthesis = 3
number_of_mark mark.OpenBrace = 4
number_of_mark mark.CloseBrace = 5
number_of_mark mark.Dot = 6
number_of_mark mark.Arrow = 7
number_of_mark mark.Increment = 8
number_of_mark mark.Decrement = 9
number_of_mark mark.Ampersand = 10
number_of_mark mark.Star = 11
number_of_mark mark.Plus = 12
number_of_mark mark.Minus = 13
number_of_mark mark.Tilde = 14
number_of_mark mark.Exclamation = 15
number_of_mark mark.Slash = 16
number_of_mark mark.Percent = 17
number_of_mark mark.ShiftLeft = 18
number_of_mark mark.ShiftRight = 19
number_of_mark mark.Less = 20
number_of_mark mark.Greater = 21
number_of_mark mark.AtMost = 22
number_of_mark mark.AtLeast = 23
number_of_mark mark.Equal = 24
number_of_mark mark.NotEqual = 25
number_of_mark mark.Caret = 26
number_of_mark mark.Bar = 27
number_of_mark mark.And = 28
number_of_mark mark.Or = 29
number_of_mark mark.Question = 30
number_of_mark mark.Colon = 31
number_of_mark mark.Semicolon = 32
number_of_mark mark.Ellipsis = 33
number_of_mark mark.Assign = 34
number_of_mark mark.StarAssign = 35
number_of_mark mark.SlashAssign = 36
number_of_mark mark.PercentAssign = 37
number_of_mark mark.PlusAssign = 38
number_of_mark mark.MinusAssign = 39
number_of_mark mark.ShiftLeftAssign = 40
number_of_mark mark.ShiftRightAssign = 41
number_of_mark mark.AmpersandAssign = 42
number_of_mark mark.CaretAssign = 43
number_of_mark mark.BarAssign = 44
number_of_mark mark.Comma = 45

abbrev pub is_same_mark : Mark → Mark → Bool
is_same_mark a b = nat_eq (number_of_mark a) (number_of_mark b)

abbrev pub number_of_keyword : Keyword → ℕ
number_of_keyword keyword.Auto = 0
number_of_keyword keyword.Break = 1
number_of_keyword keyword.Case = 2
number_of_keyword keyword.Char = 3
number_of_keyword keyword.Const = 4
number_of_keyword keyword.Continue = 5
number_of_keyword keyword.Default = 6
number_of_keyword keyword.Do = 7
number_of_keyword keyword.Double = 8
number_of_keyword keyword.Else = 9
number_of_keyword keyword.Enum = 10
number_of_keyword keyword.Extern = 11
number_of_keyword keyword.Float = 12
number_of_keyword keyword.For = 13
number_of_keyword keyword.Goto = 14
number_of_keyword keyword.If = 15
number_of_keyword keyword.Inline = 16
number_of_keyword keyword.Int = 17
number_of_keyword keyword.Long = 18
number_of_keyword keyword.Register = 19
number_of_keyword keyword.Restrict = 20
number_of_keyword keyword.Return = 21
number_of_keyword keyword.Short = 22
number_of_keyword keyword.Signed = 23
number_of_keyword keyword.SizeOf = 24
number_of_keyword keyword.Static = 25
number_of_keyword keyword.Struct = 26
number_of_keyword keyword.Switch = 27
number_of_keyword keyword.Typedef = 28
number_of_keyword keyword.Union = 29
number_of_keyword keyword.Unsigned = 30
number_of_keyword keyword.Void = 31
number_of_keyword keyword.Volatile = 32
number_of_keyword keyword.While = 33
number_of_keyword keyword.Bool = 34
number_of_keyword keyword.Complex = 35
number_of_keyword keyword.Imaginary = 36

abbrev pub is_same_keyword : Keyword → Keyword → Bool
is_same_keyword a b = nat_eq (number_of_keyword a) (number_of_keyword b)

-- this token is this mark
abbrev pub is_mark : List (List ℕ) → Mark → Token → Bool
is_mark texts m t = option_map_or (is_same_mark m) (mark_of texts t) false

-- this token is this keyword
abbrev pub is_keyword : List (List ℕ) → Keyword → Token → Bool
is_keyword texts k t = option_map_or (is_same_keyword k) (keyword_of texts t) false
