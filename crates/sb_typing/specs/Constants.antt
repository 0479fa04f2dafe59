-- The types of integer constants and character constants (C99 6.4.4.1, 6.4.4.4).
use Rattle.std.specs.Prelude.{ℕ, ◌&&◌, ◌||◌, not, Bool, false, List, [], ◌∷◌, if◌then◌else◌, nat_eq, nat_lt, ◌^◌, ◌-◌, pos}
use Rattle.std.specs.List.{list_any, count_by}
use Rattle.sb_core.specs.declared.types.TypeId.{TypeId}
use Rattle.sb_core.specs.Sorts.{int_type}
use Rattle.sb_typing.specs.Numbers.{bits_of, is_signed}
use Rattle.sb_typing.specs.Values.{converted}
use Rattle.sb_typing.specs.declared.constants.Spelling.{Spelling}
use Rattle.sb_typing.specs.declared.constants.Constant.{Constant}

-- whether a type holds a number from 0 on
abbrev pub holds : TypeId → ℕ → Bool
holds t n = nat_lt n (2 ^ (if is_signed t then bits_of t - 1 else bits_of t))

-- ---- the table of 6.4.4.1

-- without a suffix `u` signed types are tried; unsigned ones with it, or where the number is octal or hexadecimal
abbrev pub may_be : Spelling → TypeId → Bool
may_be s t = if is_signed t then not s.unsigned else s.unsigned || not s.decimal

-- the first of these types that may be and that holds the number
abbrev pub first_of_types : Spelling → ℕ → List TypeId → TypeId
first_of_types s n [] = record { 0 = 12 }
first_of_types s n (t ∷ ts) = if may_be s t && holds t n then t else first_of_types s n ts

abbrev pub from_long_long : List TypeId
from_long_long = record { 0 = 11 } ∷ record { 0 = 12 } ∷ []

abbrev pub from_long : List TypeId
from_long = record { 0 = 9 } ∷ record { 0 = 10 } ∷ from_long_long

abbrev pub from_int : List TypeId
from_int = record { 0 = 7 } ∷ record { 0 = 8 } ∷ from_long

-- one `l` leaves out `int`, and two leave out `long`
abbrev pub tried : Spelling → List TypeId
tried s =
    if nat_eq s.longs 0 then from_int
    else if nat_eq s.longs 1 then from_long
    else from_long_long

-- `2147483647` is an `int`, `2147483648` a `long long`, `0x80000000` an `unsigned int`, `1ul` an `unsigned long`. One
-- from 2^63 on without `u`, to which the table gives no type, is an `unsigned long long`
abbrev pub number_type : Spelling → ℕ → TypeId
number_type s n = first_of_types s n (tried s)

-- ---- texts

-- `u` or `U`, and `l` or `L`: no digit is written so
abbrev pub is_u : ℕ → Bool
is_u b = nat_eq b 117 || nat_eq b 85

abbrev pub is_l : ℕ → Bool
is_l b = nat_eq b 108 || nat_eq b 76

-- whether a text begins with a byte
abbrev pub begins_with : ℕ → List ℕ → Bool
begins_with b [] = false
begins_with b (x ∷ xs) = nat_eq x b

-- `0` begins an octal and a hexadecimal number
abbrev pub spelling_of : List ℕ → Spelling
spelling_of text = record { decimal = not (begins_with 48 text); unsigned = list_any is_u text; longs = count_by is_l text }

-- a constant of this text and value. A character constant is an `int`, and a negative one comes as itself plus 2^64
abbrev pub constant_of : List ℕ → ℕ → Constant
constant_of text n =
    if begins_with 39 text then record { value = converted int_type (pos n); type_id = int_type }
    else record { value = pos n; type_id = number_type (spelling_of text) n }
