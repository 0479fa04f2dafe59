-- Numbers in another type (C99 6.3.1.2, 6.3.1.3). Where the standard leaves the result to the implementation, bits
-- above the type's are dropped.
use Rattle.std.specs.Prelude.{ℕ, ◌-◌, ◌^◌, Bool, false, not, if◌then◌else◌, nat_eq, ℤ, pos, negsuc, ◌-ℤ◌, int_lt}
use Rattle.std.specs.Int.{int_rem_euclid}
use Rattle.sb_core.specs.declared.types.TypeId.{TypeId}
use Rattle.sb_typing.specs.Numbers.{bits_of, is_signed}

-- whether a number is 0
abbrev pub is_zero : ℤ → Bool
is_zero (pos n) = nat_eq n 0
is_zero (negsuc n) = false

-- the lowest bits as a number from 0 on: 255 of -1 at 8 bits
abbrev pub lowest_bits : (bits : ℕ) → ℤ → ℤ
lowest_bits bits z = int_rem_euclid z (pos (2 ^ bits))

-- those bits in two's complement: -1 of 255 at 8 bits
abbrev pub with_sign : (bits : ℕ) → ℤ → ℤ
with_sign bits z = if int_lt z (pos (2 ^ (bits - 1))) then z else z -ℤ pos (2 ^ bits)

-- what is left of a number in the bits of a type: 44 of 300 at `unsigned char`, -56 of 200 at `signed char`
abbrev pub wrapped : TypeId → ℤ → ℤ
wrapped t z = if is_signed t then with_sign (bits_of t) (lowest_bits (bits_of t) z) else lowest_bits (bits_of t) z

-- a truth value as a number (6.5.8)
abbrev pub truth : Bool → ℤ
truth holds = if holds then pos 1 else pos 0

-- in `_Bool` each number but 0 is 1 (6.3.1.2)
abbrev pub converted : TypeId → ℤ → ℤ
converted t z = if nat_eq t.0 1 then truth (not (is_zero z)) else wrapped t z
