-- products of signed numbers that fit 128 bits
use Rattle.std.proofs.Common.{◌≡◌, ℕ, suc, ◌*◌, ◌^◌, ◌-◌, ◌<◌, ◌≤◌, true, ℤ, ◌*ℤ◌, unsigned_abs, nat_lt, FitsSigned, to_z, of_z, arith}
use Rattle.std.proofs.Math.Nat.{mul-le-mul_left, mul-le-mul_right}
use Rattle.std.proofs.lemmas.Bool.{ltb-true}
use Rattle.std.proofs.lemmas.Int.{to_z-of_z, unsigned_abs-mul, fits_signed_from_abs}
use mir.Syntax.{w128}
use Rattle.sb_term.specs.Linear.{is_narrow, is_short}

pub unsigned_abs-product : (a c : ℤ) (m n : ℕ) → nat_lt (unsigned_abs a) (suc m) ≡ true → nat_lt (unsigned_abs c) (suc n) ≡ true → unsigned_abs (a *ℤ c) ≤ m * n
unsigned_abs-product a c m n ha hc =
    let la : unsigned_abs a ≤ m = omega (arith, ltb-true (unsigned_abs a) (suc m) ha) in
    let lc : unsigned_abs c ≤ n = omega (arith, ltb-true (unsigned_abs c) (suc n) hc) in
    omega (arith, unsigned_abs-mul a c, mul-le-mul_left (unsigned_abs a) lc, mul-le-mul_right n la)

pub product_value : (a c : ℤ) → unsigned_abs (a *ℤ c) < 2 ^ 127 → to_z w128 (of_z w128 (a *ℤ c)) ≡ a *ℤ c
product_value a c h = to_z-of_z w128 (a *ℤ c) (fits_signed_from_abs w128 (a *ℤ c) h)

-- the product that the program computes
pub product_back : (a c : ℤ) → FitsSigned w128 a → FitsSigned w128 c → unsigned_abs (a *ℤ c) < 2 ^ 127
    → to_z w128 (of_z w128 (to_z w128 (of_z w128 a) *ℤ to_z w128 (of_z w128 c))) ≡ a *ℤ c
product_back a c fa fc h =
    let ea = to_z-of_z w128 a fa in
    let ec = to_z-of_z w128 c fc in
    let e = product_value a c h in
    cc

pub narrow_factors : (a c : ℤ) → is_narrow a ≡ true → is_narrow c ≡ true → unsigned_abs (a *ℤ c) < 2 ^ 80
narrow_factors a c ha hc = omega (arith, unsigned_abs-product a c (2 ^ 40 - 1) (2 ^ 40 - 1) ha hc)

pub short_factors : (a c : ℤ) → is_narrow a ≡ true → is_short c ≡ true → unsigned_abs (a *ℤ c) < 2 ^ 120
short_factors a c ha hc = omega (arith, unsigned_abs-product a c (2 ^ 40 - 1) (2 ^ 80 - 1) ha hc)
