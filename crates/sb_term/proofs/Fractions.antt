-- fractions in lowest terms
use Rattle.std.proofs.Common.{◌≡◌, ◌≢◌, ℕ, zero, suc, ◌*◌, ◌/◌, ◌<◌, ℤ, pos, negsuc, ◌*ℤ◌, ◌<ℤ◌, unsigned_abs, refl, sym, ap, ◌∙◌, arith}
use Rattle.std.proofs.Math.Nat.{mul-le-mul_left, zero-div}
use Rattle.std.proofs.lemmas.Int.{ints, unsigned_abs-mul}
use Rattle.sb_term.specs.Ratio.{Ratio, IsRat, gcd, limited, signed_as, reduced, lowest, ratio_mul}
use Rattle.sb_term.proofs.Divisors.{cross_coprime, cross_top, cross_bottom}

pub unsigned_abs-signed_as : (z d : ℤ) (n : ℕ) → unsigned_abs (signed_as z d n) ≡ n
unsigned_abs-signed_as (pos z) (pos d) n = refl
unsigned_abs-signed_as (pos z) (negsuc d) n = omega (arith, ints, unsigned_abs-mul (negsuc 0) (pos n))
unsigned_abs-signed_as (negsuc z) (pos d) n = omega (arith, ints, unsigned_abs-mul (negsuc 0) (pos n))
unsigned_abs-signed_as (negsuc z) (negsuc d) n = refl

-- where d is not 0
pub lowest-reduced : (z d : ℤ) → d ≢ pos 0 → lowest z d ≡ limited (reduced z d)
lowest-reduced z (pos zero) h = absurd (h refl)
lowest-reduced z (pos (suc d)) h = refl
lowest-reduced z (negsuc d) h = refl

-- the sign of a product over a positive number, at its absolute value without a common factor
below_zero : (w : ℤ) (d n : ℕ) → w <ℤ pos 0 → signed_as w (pos d) n ≡ negsuc 0 *ℤ pos n
below_zero (pos w) d n h = absurd (omega (arith, ints))
below_zero (negsuc w) d n h = refl

at_zero : (w v : ℤ) (d n : ℕ) → n ≡ 0 → (n ≡ 0 → v ≡ pos 0) → signed_as w (pos d) n ≡ v
at_zero (pos w) v d n z e = ap pos z ∙ sym (e z)
at_zero (negsuc w) v d n z e = (let k : negsuc 0 *ℤ pos n ≡ pos 0 = omega (arith, ints) in k) ∙ sym (e z)

signed_as-product : (a c : ℤ) (d n : ℕ) → (unsigned_abs (a *ℤ c) ≡ 0 → n ≡ 0) → signed_as (a *ℤ c) (pos d) n ≡ signed_as a c n
signed_as-product (pos x) (pos y) d n h = refl
signed_as-product (negsuc x) (negsuc y) d n h = refl
signed_as-product (pos zero) (negsuc y) d n h = let z : n ≡ 0 = h (omega (arith, unsigned_abs-mul (pos zero) (negsuc y))) in at_zero (pos zero *ℤ negsuc y) (negsuc 0 *ℤ pos n) d n z (λ k. omega (arith, ints))
signed_as-product (pos (suc x)) (negsuc y) d n h = below_zero (pos (suc x) *ℤ negsuc y) d n (omega (arith, ints))
signed_as-product (negsuc x) (pos zero) d n h = let z : n ≡ 0 = h (omega (arith, unsigned_abs-mul (negsuc x) (pos zero))) in at_zero (negsuc x *ℤ pos zero) (negsuc 0 *ℤ pos n) d n z (λ k. omega (arith, ints))
signed_as-product (negsuc x) (pos (suc y)) d n h = below_zero (negsuc x *ℤ pos (suc y)) d n (omega (arith, ints))

quotient_of_zero : (m n g : ℕ) → m ≡ 0 → n ≡ m / g → n ≡ 0
quotient_of_zero m n g e f = f ∙ ap (λ k. k / g) e ∙ zero-div g

pub ratio_mul-cross : (r s : Ratio) → IsRat r → IsRat s →
    let x = unsigned_abs r.num in
    let y = unsigned_abs s.num in
    ratio_mul r s ≡ limited (record { num = signed_as r.num s.num ((x / gcd x s.den) * (y / gcd y r.den)); den = (r.den / gcd y r.den) * (s.den / gcd x s.den) })
ratio_mul-cross r s hr hs =
    let x = unsigned_abs r.num in
    let y = unsigned_abs s.num in
    let some : 0 < r.den * s.den = omega (arith, mul-le-mul_left r.den hs.positive, hr.positive) in
    let g = gcd (unsigned_abs (r.num *ℤ s.num)) (r.den * s.den) in
    let top : unsigned_abs (r.num *ℤ s.num) / g ≡ (x / gcd x s.den) * (y / gcd y r.den) =
    ap (λ n. n / gcd n (r.den * s.den)) (unsigned_abs-mul r.num s.num) ∙ cross_top x r.den y s.den hr.positive hs.positive hr.lowest hs.lowest in
    let bottom : (r.den * s.den) / g ≡ (r.den / gcd y r.den) * (s.den / gcd x s.den) =
    ap (λ n. (r.den * s.den) / gcd n (r.den * s.den)) (unsigned_abs-mul r.num s.num) ∙ cross_bottom x r.den y s.den hr.positive hs.positive hr.lowest hs.lowest in
    lowest-reduced (r.num *ℤ s.num) (pos (r.den * s.den)) (λ e. absurd (omega (arith, ints)))
    ∙ ap (λ z. limited (record { num = z; den = (r.den * s.den) / g }))
    (signed_as-product r.num s.num (r.den * s.den) (unsigned_abs (r.num *ℤ s.num) / g)
    (λ e. quotient_of_zero (unsigned_abs (r.num *ℤ s.num)) (unsigned_abs (r.num *ℤ s.num) / g) g e refl))
    ∙ ap (λ n. limited (record { num = signed_as r.num s.num n; den = (r.den * s.den) / g })) top
    ∙ ap (λ n. limited (record { num = signed_as r.num s.num ((x / gcd x s.den) * (y / gcd y r.den)); den = n })) bottom

-- the numbers that the program cancels crosswise: u and v are the absolute values of both numerators
pub record AreCancelled (r s : Ratio) (u v x y b d : ℕ) : Type 0 where
  pub u_is : u ≡ unsigned_abs r.num
  pub v_is : v ≡ unsigned_abs s.num
  pub x_is : x ≡ u / gcd u s.den
  pub d_is : d ≡ s.den / gcd u s.den
  pub y_is : y ≡ v / gcd v r.den
  pub b_is : b ≡ r.den / gcd v r.den

module _ (r s : Ratio) (u v x y b d : ℕ) (hr : IsRat r) (hs : IsRat s) (c : AreCancelled r s u v x y b d) where
  top_cancelled : x * y ≡ (unsigned_abs r.num / gcd (unsigned_abs r.num) s.den) * (unsigned_abs s.num / gcd (unsigned_abs s.num) r.den)
  top_cancelled =
      ap (λ n. n * y) (c.x_is ∙ ap (λ n. n / gcd n s.den) c.u_is)
      ∙ ap (λ n. (unsigned_abs r.num / gcd (unsigned_abs r.num) s.den) * n) (c.y_is ∙ ap (λ n. n / gcd n r.den) c.v_is)

  bottom_cancelled : b * d ≡ (r.den / gcd (unsigned_abs s.num) r.den) * (s.den / gcd (unsigned_abs r.num) s.den)
  bottom_cancelled =
      ap (λ n. n * d) (c.b_is ∙ ap (λ n. r.den / gcd n r.den) c.v_is)
      ∙ ap (λ n. (r.den / gcd (unsigned_abs s.num) r.den) * n) (c.d_is ∙ ap (λ n. s.den / gcd n s.den) c.u_is)

  pub cancelled_coprime : gcd (x * y) (b * d) ≡ 1
  cancelled_coprime =
      ap (λ n. gcd n (b * d)) top_cancelled
      ∙ ap (λ n. gcd ((unsigned_abs r.num / gcd (unsigned_abs r.num) s.den) * (unsigned_abs s.num / gcd (unsigned_abs s.num) r.den)) n) bottom_cancelled
      ∙ cross_coprime (unsigned_abs r.num) r.den (unsigned_abs s.num) s.den hr.positive hs.positive hr.lowest hs.lowest

  pub cancelled_product : (z w : ℤ) → z ≡ r.num → w ≡ s.num → limited (record { num = signed_as z w (x * y); den = b * d }) ≡ ratio_mul r s
  cancelled_product z w ez ew =
      ap (λ k. limited (record { num = signed_as k w (x * y); den = b * d })) ez
      ∙ ap (λ k. limited (record { num = signed_as r.num k (x * y); den = b * d })) ew
      ∙ ap (λ n. limited (record { num = signed_as r.num s.num n; den = b * d })) top_cancelled
      ∙ ap (λ n. limited (record { num = signed_as r.num s.num ((unsigned_abs r.num / gcd (unsigned_abs r.num) s.den) * (unsigned_abs s.num / gcd (unsigned_abs s.num) r.den)); den = n })) bottom_cancelled
      ∙ sym (ratio_mul-cross r s hr hs)
