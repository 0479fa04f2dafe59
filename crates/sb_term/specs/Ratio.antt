-- rationals within limits
use Rattle.std.specs.Prelude.{◌≡◌, ℕ, zero, suc, ◌*◌, ◌/◌, ◌%◌, ◌^◌, ◌<◌, Bool, ◌&&◌, nat_lt, ℤ, pos, negsuc, ◌+ℤ◌, ◌*ℤ◌, ◌≤ℤ◌, unsigned_abs, if◌then◌else◌, Option, Some, None, int_le, max}
use Rattle.std.specs.declared.cmp.Ordering.{Ordering}
use Rattle.std.specs.Ordering.{int_cmp}

-- num / den
pub record Ratio : Type 0 where
  pub num : ℤ
  pub den : ℕ

abbrev pub gcd_within : ℕ → ℕ → ℕ → ℕ
gcd_within zero a b = a
gcd_within (suc n) a zero = a
gcd_within (suc n) a (suc b) = gcd_within n (suc b) (a % suc b)

-- Euclid's algorithm; b + 1 turns are enough
abbrev pub gcd : ℕ → ℕ → ℕ
gcd a b = gcd_within (suc b) a b

-- what each `Rat` keeps: the denominator is positive, the terms are lowest and within the limits
pub record IsRat (r : Ratio) : Type 0 where
  pub positive : 0 < r.den
  pub short : unsigned_abs r.num < 2 ^ 80
  pub narrow : r.den < 2 ^ 40
  pub lowest : gcd (unsigned_abs r.num) r.den ≡ 1

-- the limits: numerators below 2^80 in absolute value and denominators below 2^40
abbrev pub limited : Ratio → Option Ratio
limited r = if nat_lt (unsigned_abs r.num) (2 ^ 80) && nat_lt r.den (2 ^ 40) then Some r else None

-- the number with this absolute value whose sign is that of z times d
abbrev pub signed_as : ℤ → ℤ → ℕ → ℤ
signed_as (pos z) (pos d) n = pos n
signed_as (pos z) (negsuc d) n = negsuc 0 *ℤ pos n
signed_as (negsuc z) (pos d) n = negsuc 0 *ℤ pos n
signed_as (negsuc z) (negsuc d) n = pos n

-- z / d in lowest terms, d not 0
abbrev pub reduced : ℤ → ℤ → Ratio
reduced z d =
    let g = gcd (unsigned_abs z) (unsigned_abs d) in
    record { num = signed_as z d (unsigned_abs z / g); den = unsigned_abs d / g }

-- z / d in lowest terms, or none where d is 0 or the lowest terms pass a limit
abbrev pub lowest : ℤ → ℤ → Option Ratio
lowest z (pos zero) = None
lowest z (pos (suc d)) = limited (reduced z (pos (suc d)))
lowest z (negsuc d) = limited (reduced z (negsuc d))

-- sums and products; the result is held to the limits
abbrev pub ratio_add : Ratio → Ratio → Option Ratio
ratio_add r s = lowest ((r.num *ℤ pos s.den) +ℤ (s.num *ℤ pos r.den)) (pos (r.den * s.den))

abbrev pub ratio_mul : Ratio → Ratio → Option Ratio
ratio_mul r s = lowest (r.num *ℤ s.num) (pos (r.den * s.den))

-- a whole number, a rational times and a rational divided by a whole number; the result is held to the limits
abbrev pub whole : ℤ → Option Ratio
whole z = lowest z (pos 1)

abbrev pub ratio_times : ℤ → Ratio → Option Ratio
ratio_times c r = lowest (c *ℤ r.num) (pos r.den)

abbrev pub ratio_over : Ratio → ℤ → Option Ratio
ratio_over r c = lowest r.num (pos r.den *ℤ c)

-- the order by value, as a fact and as a test
abbrev pub IsAtMost : Ratio → Ratio → Type 0
IsAtMost r s = (r.num *ℤ pos s.den) ≤ℤ (s.num *ℤ pos r.den)

abbrev pub ratio_le : Ratio → Ratio → Bool
ratio_le r s = int_le (r.num *ℤ pos s.den) (s.num *ℤ pos r.den)

-- the same with three answers; a denominator 0, which no `Rat` has, counts as 1, so that all ratios are in order
abbrev pub ratio_cmp : Ratio → Ratio → Ordering
ratio_cmp r s = int_cmp (r.num *ℤ pos (max s.den 1)) (s.num *ℤ pos (max r.den 1))

-- the greater and the lesser of two
abbrev pub ratio_max : Ratio → Ratio → Ratio
ratio_max r s = if ratio_le r s then s else r

abbrev pub ratio_min : Ratio → Ratio → Ratio
ratio_min r s = if ratio_le r s then r else s
