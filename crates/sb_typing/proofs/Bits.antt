-- What is computed of numbers of 64 bits has 128 bits, and so passes through the machine's bits as it is.
use Rattle.std.proofs.Common.{◌≡◌, ℕ, zero, suc, ◌-◌, ◌/◌, ◌^◌, false, refl, ap, ◌∙◌, arith, ℤ, pos, negsuc, ◌+ℤ◌, ◌-ℤ◌, ◌*ℤ◌, neg_ℤ, ◌≤ℤ◌, ◌<ℤ◌, FitsSigned, int_div, int_rem, to_z, of_z}
use Rattle.std.specs.Int.{w128, int_wrap, int_wrapping_mul}
use lib.Signed.{mag}
use Rattle.std.proofs.lemmas.Bool.Decides.{nat_tests}
use Rattle.std.proofs.lemmas.Int.{ints, to_z-of_z, wrapping_mul_is, rem_is}
use Rattle.std.proofs.Math.Nat.{div-le_self}
use Rattle.sb_core.specs.declared.types.TypeId.{TypeId}
use Rattle.sb_typing.specs.Values.{is_zero, wrapped}
use Rattle.sb_typing.specs.Folding.{IsWide}

-- ---- 128 bits are enough

fits_below : (z : ℤ) → neg_ℤ (pos (2 ^ 66)) ≤ℤ z → z <ℤ pos (2 ^ 66) → FitsSigned w128 z
fits_below (pos n) h k = record { sfits = omega (arith, ints) }
fits_below (negsuc n) h k = record { sfits = omega (arith, ints) }

pub sum_fits : (a b : ℤ) → IsWide a → IsWide b → FitsSigned w128 (a +ℤ b)
sum_fits a b (low, high) (less, more) = fits_below (a +ℤ b) (omega (arith, ints)) (omega (arith, ints))

pub difference_fits : (a b : ℤ) → IsWide a → IsWide b → FitsSigned w128 (a -ℤ b)
difference_fits a b (low, high) (less, more) = fits_below (a -ℤ b) (omega (arith, ints)) (omega (arith, ints))

pub negative_fits : (a : ℤ) → IsWide a → FitsSigned w128 (pos 0 -ℤ a)
negative_fits a (low, high) = fits_below (pos 0 -ℤ a) (omega (arith, ints)) (omega (arith, ints))

wide_fits : (a : ℤ) → IsWide a → FitsSigned w128 a
wide_fits a (low, high) = fits_below a (omega (arith, ints)) (omega (arith, ints))

-- what a number takes beside its sign is less than its absolute value
mag-neg : (n : ℕ) → mag (neg_ℤ (pos n)) ≡ n - 1
mag-neg zero = refl
mag-neg (suc n) = omega arith

-- a quotient is no greater than what is divided
quotient_fits : (a b : ℤ) → IsWide a → FitsSigned w128 (int_div a b)
quotient_fits (pos a) (pos b) (low, high) = record { sfits = omega (arith, ints, div-le_self a b) }
quotient_fits (pos a) (negsuc b) (low, high) = record { sfits = omega (arith, ints, mag-neg (a / suc b), div-le_self a (suc b)) }
quotient_fits (negsuc a) (pos b) (low, high) = record { sfits = omega (arith, ints, mag-neg (suc a / b), div-le_self (suc a) b) }
quotient_fits (negsuc a) (negsuc b) (low, high) = record { sfits = omega (arith, ints, div-le_self (suc a) (suc b)) }

-- ---- what is computed through bits

abbrev through : ℤ → ℤ
through z = to_z w128 (of_z w128 z)

pub passes : (g : ℤ → ℤ → ℤ) (t : TypeId) (a b r : ℤ) → FitsSigned w128 a → FitsSigned w128 b → FitsSigned w128 (g a b) → FitsSigned w128 r
    → r ≡ wrapped t (through (g (through a) (through b))) → through r ≡ wrapped t (g a b)
passes g t a b r fa fb fg fr e =
    to_z-of_z w128 r fr ∙ e
    ∙ ap (λ x. wrapped t (through (g x (through b)))) (to_z-of_z w128 a fa)
    ∙ ap (λ y. wrapped t (through (g a y))) (to_z-of_z w128 b fb)
    ∙ ap (wrapped t) (to_z-of_z w128 (g a b) fg)

pub negative_passes : (t : TypeId) (a r : ℤ) → IsWide a → FitsSigned w128 r → r ≡ wrapped t (through (pos 0 -ℤ through a)) → through r ≡ wrapped t (neg_ℤ a)
negative_passes t a r h fr e =
    to_z-of_z w128 r fr ∙ e
    ∙ ap (λ x. wrapped t (through (pos 0 -ℤ x))) (to_z-of_z w128 a (wide_fits a h))
    ∙ ap (wrapped t) (to_z-of_z w128 (pos 0 -ℤ a) (negative_fits a h))
    ∙ ap (wrapped t) (negative a)
  where
    negative : (z : ℤ) → pos 0 -ℤ z ≡ neg_ℤ z
    negative z = omega (arith, ints)

pub product_passes : (t : TypeId) (a b r : ℤ) → FitsSigned w128 a → FitsSigned w128 b → FitsSigned w128 r
    → r ≡ wrapped t (int_wrapping_mul w128 a b) → through r ≡ wrapped t (int_wrap w128 (a *ℤ b))
product_passes t a b r fa fb fr e = to_z-of_z w128 r fr ∙ e ∙ ap (wrapped t) (wrapping_mul_is w128 a b fa fb)

pub quotient_passes : (t : TypeId) (a b r : ℤ) → IsWide a → FitsSigned w128 b → FitsSigned w128 r
    → r ≡ wrapped t (through (int_div (through a) (through b))) → through r ≡ wrapped t (int_div a b)
quotient_passes t a b r h fb fr e = passes int_div t a b r (wide_fits a h) fb (quotient_fits a b h) fr e

pub remainder_passes : (t : TypeId) (a b r : ℤ) → IsWide a → FitsSigned w128 b → FitsSigned w128 r
    → r ≡ wrapped t (through (int_rem (through a) (through b))) → through r ≡ wrapped t (int_rem a b)
remainder_passes t a b r h fb fr e = to_z-of_z w128 r fr ∙ e ∙ ap (wrapped t) (rem_is w128 a b (wide_fits a h) fb)

pub not_zero : (b : ℤ) → (of_z w128 b ≡ 0 → ⊥) → is_zero b ≡ false
not_zero (pos n) h = grind (arith, nat_tests)
not_zero (negsuc n) h = refl
