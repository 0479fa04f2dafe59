-- The values of integer constants, character constants and string literals.
use Rattle.std.specs.Prelude.{◌≡◌, ℕ, ◌+◌, ◌-◌, ◌^◌, Bool, false, ◌&&◌, ◌||◌, List, [], ◌∷◌, ◌++◌, Option, Some, None, if◌then◌else◌, length, take, drop, nat_eq, nat_le, nat_lt, codes, slice_get}
use Rattle.std.specs.List.{list_all, prefix_len}
use Rattle.std.specs.Option.{option_and_then, option_map}
use Rattle.std.specs.Str.{bytes_eq}
use Rattle.std.specs.Str.Parse.{digits_value}
use Rattle.std.specs.Char.{is_digit}
use Rattle.sb_base.specs.declared.tokens.PpKind.{PpKind}
use Rattle.sb_base.specs.declared.tokens.PpKind.TheVariants as kind
use Rattle.sb_lex.specs.declared.values.Base.{Base}
use Rattle.sb_lex.specs.declared.values.Base.TheVariants.{Octal, Decimal, Hexadecimal}

abbrev pub radix_of : Base → ℕ
radix_of Octal = 8
radix_of Decimal = 10
radix_of Hexadecimal = 16

abbrev pub is_digit_of : Base → ℕ → Bool
is_digit_of base byte = is_digit byte (radix_of base)

-- how many bytes a text begins with that are digits of the base
abbrev pub run_of : Base → List ℕ → ℕ
run_of base text = prefix_len (is_digit_of base) text

-- a number that is below a bound
abbrev pub below : ℕ → ℕ → Option ℕ
below bound n = if nat_lt n bound then Some n else None

-- the number below a bound that a text spells, if each byte is a digit of the base
abbrev pub spelled : ℕ → Base → List ℕ → Option ℕ
spelled bound base text = if list_all (is_digit_of base) text then below bound (digits_value (radix_of base) text) else None

-- ---- integer constants (C99 6.4.4.1)

-- whether a byte is u or U, as text has it at a place
abbrev pub is_unsigned : Option ℕ → Bool
is_unsigned None = false
is_unsigned (Some byte) = nat_eq byte 117 || nat_eq byte 85

abbrev pub is_x : Option ℕ → Bool
is_x None = false
is_x (Some byte) = nat_eq byte 120 || nat_eq byte 88

abbrev pub is_zero : Option ℕ → Bool
is_zero None = false
is_zero (Some byte) = nat_eq byte 48

-- no suffix for the length, or one of l, L, ll and LL
abbrev pub is_long_or_none : List ℕ → Bool
is_long_or_none text = bytes_eq text [] || bytes_eq text (codes "l") || bytes_eq text (codes "L") || bytes_eq text (codes "ll") || bytes_eq text (codes "LL")

-- an integer suffix or none: that for the length, and u or U before or behind it
abbrev pub is_suffix : List ℕ → Bool
is_suffix text =
    if is_unsigned (slice_get text 0) then is_long_or_none (drop 1 text)
    else if is_unsigned (slice_get text (length text - 1)) then is_long_or_none (take (length text - 1) text)
    else is_long_or_none text

-- 0x or 0X begins a hexadecimal constant, any other 0 an octal one
abbrev pub base_of : List ℕ → Base
base_of text = if is_zero (slice_get text 0) then (if is_x (slice_get text 1) then Hexadecimal else Octal) else Decimal

abbrev pub prefix_of : Base → ℕ
prefix_of Octal = 0
prefix_of Decimal = 0
prefix_of Hexadecimal = 2

-- the number of the digits that a text begins with, if there is one and a suffix stands behind the last
abbrev pub suffixed : Base → List ℕ → Option ℕ
suffixed base body =
    let run = run_of base body in
    if nat_eq run 0 then None
    else if is_suffix (drop run body) then spelled (2 ^ 64) base (take run body)
    else None

-- the value of an integer constant, below 2^64
abbrev pub number_of : List ℕ → Option ℕ
number_of text = let base = base_of text in suffixed base (drop (prefix_of base) text)

-- ---- characters of literals (C99 6.4.4.4)

-- the byte that a simple escape names by the one behind its backslash
abbrev pub simple_escape : ℕ → Option ℕ
simple_escape byte =
    if nat_eq byte 39 || nat_eq byte 34 || nat_eq byte 63 || nat_eq byte 92 then Some byte
    else if nat_eq byte 97 then Some 7
    else if nat_eq byte 98 then Some 8
    else if nat_eq byte 102 then Some 12
    else if nat_eq byte 110 then Some 10
    else if nat_eq byte 114 then Some 13
    else if nat_eq byte 116 then Some 9
    else if nat_eq byte 118 then Some 11
    else None

-- the byte of a universal character name (C99 6.4.3): from 160 on, or $, @ or `
abbrev pub universal_byte : ℕ → Option ℕ
universal_byte n = if nat_eq n 36 || nat_eq n 64 || nat_eq n 96 || (nat_le 160 n && nat_lt n 256) then Some n else None

-- a byte and the text behind it
abbrev pub before : List ℕ → Option ℕ → Option (ℕ × List ℕ)
before rest byte = option_map (λ b. (b, rest)) byte

-- the byte of as many digits as a text begins with, at least one and at most so many
abbrev pub numeric_escape : Base → ℕ → List ℕ → Option (ℕ × List ℕ)
numeric_escape base most text =
    let run = run_of base (take most text) in
    if nat_eq run 0 then None else before (drop run text) (spelled 256 base (take run text))

-- the byte of just so many hexadecimal digits
abbrev pub universal_name : ℕ → List ℕ → Option (ℕ × List ℕ)
universal_name count text =
    if nat_lt (length text) count then None
    else before (drop count text) (option_and_then universal_byte (spelled (2 ^ 64) Hexadecimal (take count text)))

-- what stands behind a backslash: the byte that it names, and the text behind it
abbrev pub escape : List ℕ → Option (ℕ × List ℕ)
escape [] = None
escape (byte ∷ rest) =
    if nat_eq byte 120 then numeric_escape Hexadecimal (length rest) rest
    else if nat_eq byte 117 then universal_name 4 rest
    else if nat_eq byte 85 then universal_name 8 rest
    else if is_digit_of Octal byte then numeric_escape Octal 3 (byte ∷ rest)
    else before rest (simple_escape byte)

-- the character that a text begins with: the byte that it names, and the text behind it
abbrev pub character : List ℕ → Option (ℕ × List ℕ)
character [] = None
character (byte ∷ rest) = if nat_eq byte 92 then escape rest else Some (byte, rest)

-- a text is characters, which name these bytes
pub data Characters : List ℕ → List ℕ → Type 0 where
  none : Characters [] []
  one : (text rest bytes : List ℕ) (byte : ℕ) → character text ≡ Some (byte, rest) → Characters rest bytes → Characters text (byte ∷ bytes)

-- ---- character constants and string literals (C99 6.4.4.4, 6.4.5)

-- the value of a plain char, which is signed, as one of 64 bits: a negative one plus 2^64
abbrev pub char_value : ℕ → ℕ
char_value byte = if nat_lt byte 128 then byte else byte + (2 ^ 64 - 256)

-- a character constant of one character
pub record IsCharacter (text : List ℕ) (value : ℕ) : Type 0 where
  pub body : List ℕ
  pub byte : ℕ
  pub quoted : text ≡ 39 ∷ (body ++ 39 ∷ [])
  pub alone : character body ≡ Some (byte, [])
  pub converted : value ≡ char_value byte

-- a string literal, which names these bytes
pub record IsText (text bytes : List ℕ) : Type 0 where
  pub body : List ℕ
  pub quoted : text ≡ 34 ∷ (body ++ 34 ∷ [])
  pub named : Characters body bytes

-- ---- pieces

-- a number, a character constant and a string literal have to have a value
abbrev pub HasValue : PpKind → List ℕ → Type 0
HasValue kind.Number text = (value : ℕ) × (number_of text ≡ Some value)
HasValue kind.Char text = (value : ℕ) × IsCharacter text value
HasValue kind.Text text = (bytes : List ℕ) × IsText text bytes
HasValue _ text = Unit {0}
