-- The number types and how operands of two of them become one (C99 6.2.5, 6.3.1.1, 6.3.1.8), with the sizes of LLP64.
use Rattle.std.specs.Prelude.{ℕ, ◌&&◌, ◌||◌, Bool, if◌then◌else◌, nat_eq, nat_lt, nat_le, ℤ}
use Rattle.sb_core.specs.declared.types.TypeId.{TypeId}
use Rattle.sb_core.specs.Sorts.{IsWithin, int_type}

-- ---- one type (6.2.5)

-- a `_Bool` has 1 bit, a `short` 16, an `int` and a `long` 32, a `long long` 64
abbrev pub bits_of : TypeId → ℕ
bits_of t =
    if nat_lt t.0 2 then 1
    else if nat_lt t.0 5 then 8
    else if nat_lt t.0 7 then 16
    else if nat_lt t.0 11 then 32
    else 64

-- plain `char`, `signed char`, `short`, `int`, `long` and `long long`
abbrev pub is_signed : TypeId → Bool
is_signed t = nat_eq t.0 2 || (nat_eq t.0 3 || (nat_eq t.0 5 || (nat_eq t.0 7 || (nat_eq t.0 9 || nat_eq t.0 11))))

-- the conversion rank (6.3.1.1): `long` is above `int`, though both have 32 bits
abbrev pub rank_of : TypeId → ℕ
rank_of t =
    if nat_lt t.0 2 then 0
    else if nat_lt t.0 5 then 1
    else if nat_lt t.0 7 then 2
    else if nat_lt t.0 9 then 3
    else if nat_lt t.0 11 then 4
    else 5

-- the unsigned type that corresponds to a signed one, or the type itself
abbrev pub unsigned_of : TypeId → TypeId
unsigned_of t =
    if nat_eq t.0 2 || nat_eq t.0 3 then record { 0 = 4 }
    else if nat_eq t.0 5 then record { 0 = 6 }
    else if nat_eq t.0 7 then record { 0 = 8 }
    else if nat_eq t.0 9 then record { 0 = 10 }
    else if nat_eq t.0 11 then record { 0 = 12 }
    else t

-- a number that the type holds: -128 to 127 at `char`, 0 to 4294967295 at `unsigned long`
abbrev pub IsHeld : TypeId → ℤ → Type 0
IsHeld t z = IsWithin (bits_of t) (is_signed t) z

-- whether a type holds every value of another: `int` those of `unsigned short`, `long` not those of `unsigned int`
abbrev pub holds_all : (whole part : TypeId) → Bool
holds_all whole part =
    if is_signed part then is_signed whole && nat_le (bits_of part) (bits_of whole)
    else if is_signed whole then nat_lt (bits_of part) (bits_of whole)
    else nat_le (bits_of part) (bits_of whole)

-- ---- the integer promotions (6.3.1.1 paragraph 2)

-- `char` and `unsigned short` become `int`, and `unsigned int` and `long` stay
abbrev pub promoted : TypeId → TypeId
promoted t = if nat_le (rank_of t) 3 && holds_all int_type t then int_type else t

-- ---- the usual arithmetic conversions (6.3.1.8)

-- a signed type and an unsigned one: `unsigned int` and `int` give `unsigned int`, `long long` and `unsigned int` give
-- `long long`, and `long` and `unsigned int` give `unsigned long`
abbrev pub mixed : (signed unsigned : TypeId) → TypeId
mixed s u =
    if nat_le (rank_of s) (rank_of u) then u
    else if holds_all s u then s
    else unsigned_of s

-- two types that are both signed or both unsigned: `int` and `long` give `long`
abbrev pub greater : TypeId → TypeId → TypeId
greater t u = if nat_lt (rank_of t) (rank_of u) then u else t

-- two promoted types
abbrev pub common : TypeId → TypeId → TypeId
common t u =
    if is_signed t then (if is_signed u then greater t u else mixed t u)
    else (if is_signed u then mixed u t else greater t u)

-- `char` and `unsigned char` give `int`, `int` and `unsigned long long` give `unsigned long long`
abbrev pub usual : TypeId → TypeId → TypeId
usual t u = common (promoted t) (promoted u)
