-- memory as objects of bytes, and what a store does to it
use Rattle.std.specs.Prelude.{◌≡◌, ℕ, suc, ◌+◌, ◌/◌, ◌%◌, ◌^◌, List, [], ◌∷◌, length, slice_get, slice_set, ℤ, pos, negsuc, ◌+ℤ◌, unsigned_abs, Option, Some, None, nat_le, if◌then◌else◌}
use Rattle.std.specs.Int.{int_rem_euclid}

-- a byte of an object holds nothing yet, or a number from 0 to 255
pub data Byte : Type 0 where
  Unwritten : Byte
  Written : ℕ → Byte

-- objects numbered from 0
abbrev pub Memory : Type 0
Memory = List (List Byte)

-- a pointer is null, an object with an offset in bytes, or wild
pub data Pointer : Type 0 where
  Null : Pointer
  At : (object : ℕ) (offset : ℤ) → Pointer
  Wild : Pointer

-- null plus a number is null, and a wild pointer stays wild
abbrev pub moved : Pointer → ℤ → Pointer
moved Null by = Null
moved (At object offset) by = At object (offset +ℤ by)
moved Wild by = Wild

-- how an access can go wrong
pub data Fault : Type 0 where
  NullFollowed : Fault
  WildFollowed : Fault
  Outside : Fault

-- the bytes of an object that an access reaches, or how it goes wrong
pub data Reach : Type 0 where
  Reached : (object : ℕ) (bytes : List Byte) (from : ℕ) → Reach
  Missed : Fault → Reach

abbrev pub reach_in : ℕ → Option (List Byte) → ℕ → ℕ → Reach
reach_in object None from count = Missed Outside
reach_in object (Some bytes) from count = if nat_le (from + count) (length bytes) then Reached object bytes from else Missed Outside

-- an access of `count` bytes at a pointer
abbrev pub reach : Memory → Pointer → ℕ → Reach
reach m Null count = Missed NullFollowed
reach m (At object (pos from)) count = reach_in object (slice_get m object) from count
reach m (At object (negsuc n)) count = Missed Outside
reach m Wild count = Missed WildFollowed

abbrev pub overwrite : List Byte → ℕ → List Byte → List Byte
overwrite bytes from [] = bytes
overwrite bytes from (b ∷ bs) = overwrite (slice_set bytes from b) (suc from) bs

-- the four bytes of an `int`, lowest first, in two's complement (C99 6.2.6.2)
abbrev pub int_code : ℤ → ℕ
int_code z = unsigned_abs (int_rem_euclid z (pos (2 ^ 32)))

abbrev pub int_bytes : ℤ → List Byte
int_bytes z = Written (int_code z % 256) ∷ Written (int_code z / 256 % 256) ∷ Written (int_code z / 65536 % 256) ∷ Written (int_code z / 16777216 % 256) ∷ []

-- byte k of an object, and whether it is written
abbrev pub byte_in : Option (List Byte) → ℕ → Option Byte
byte_in None k = None
byte_in (Some bytes) k = slice_get bytes k

abbrev pub byte_at : Memory → ℕ → ℕ → Option Byte
byte_at m object k = byte_in (slice_get m object) k

abbrev pub IsWritten : Memory → ℕ → ℕ → Type 0
IsWritten m object k = (v : ℕ) × (byte_at m object k ≡ Some (Written v))

-- the size of an object, if there is one
abbrev pub size_in : Option (List Byte) → Option ℕ
size_in None = None
size_in (Some bytes) = Some (length bytes)

abbrev pub size_of : Memory → ℕ → Option ℕ
size_of m object = size_in (slice_get m object)
