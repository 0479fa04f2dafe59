-- rationals are exact within their limits
use Rattle.std.proofs.Common.{◌≡◌, ℕ, zero, suc, ◌+◌, ◌*◌, ◌/◌, ◌<◌, Bool, true, false, cond, ℤ, pos, negsuc, ◌+ℤ◌, ◌*ℤ◌, unsigned_abs, nat_lt, Some, None, sym, ap, ◌∙◌, subst, arith}
use Rattle.std.specs.Prelude.{◌&&◌, ◌^◌}
use Rattle.std.proofs.lemmas.Int.{ints}
use Rattle.std.proofs.Math.Nat.{mul-div_cancel', mul-le-mul_left}
use borrow.Author.Differences.{up, down}
use Rattle.sb_term.specs.Ratio.{Ratio, gcd, limited, signed_as, reduced, lowest, whole, ratio_add, ratio_times, ratio_over}
use Rattle.sb_term.specs.Order.{same_same}
use Rattle.sb_term.specs.Ring.{+ℤ-*ℤ, *ℤ_assoc, *ℤ_comm}
use Rattle.sb_term.proofs.Divisors.{IsGcd-gcd, quotient_positive}

-- x / d is r
pub record IsQuotient (x d : ℤ) (r : Ratio) : Type 0 where
  pub positive : 0 < r.den
  pub same : r.num *ℤ d ≡ x *ℤ pos r.den

-- the signs of numerator and denominator
signed : (z d : ℤ) (n m : ℕ) → n * unsigned_abs d ≡ unsigned_abs z * m → signed_as z d n *ℤ d ≡ z *ℤ pos m
signed (pos z) (pos d) n m e = ap pos e
signed (pos z) (negsuc d) n m e = let a = *ℤ_assoc (negsuc 0) (pos n) (negsuc d) in omega (arith, ints)
signed (negsuc z) (pos d) n m e = let a = *ℤ_assoc (negsuc 0) (pos n) (pos d) in omega (arith, ints)
signed (negsuc z) (negsuc d) n m e = omega (arith, ints)

reduced-exact : (z d : ℤ) → 0 < unsigned_abs d → IsQuotient z d (reduced z d)
reduced-exact z d h =
    let x = unsigned_abs z in
    let y = unsigned_abs d in
    let g = IsGcd-gcd x y in
    let ex : gcd x y * (x / gcd x y) ≡ x = mul-div_cancel' (gcd x y) g.0 in
    let ey : gcd x y * (y / gcd x y) ≡ y = mul-div_cancel' (gcd x y) g.1 in
    record {
      positive = quotient_positive (gcd x y) y h g.1;
      same = signed z d (x / gcd x y) (y / gcd x y) (omega (arith, ap (λ (k : ℕ). (x / gcd x y) * k) ey, ap (λ (k : ℕ). k * (y / gcd x y)) ex));
    }

limited-exact : (x d : ℤ) (r s : Ratio) → IsQuotient x d r → limited r ≡ Some s → IsQuotient x d s
limited-exact x d r s h e = by (nat_lt (unsigned_abs r.num) (2 ^ 80) && nat_lt r.den (2 ^ 40)) e
  where
    by : (b : Bool) → cond b (Some r) None ≡ Some s → IsQuotient x d s
    by true e = subst (IsQuotient x d) (let k : r ≡ s = cc in k) h
    by false e = absurd (cc)

pub lowest-exact : (z d : ℤ) (r : Ratio) → lowest z d ≡ Some r → IsQuotient z d r
lowest-exact z (pos zero) r e = absurd (cc)
lowest-exact z (pos (suc d)) r e = limited-exact z (pos (suc d)) (reduced z (pos (suc d))) r (reduced-exact z (pos (suc d)) (omega arith)) e
lowest-exact z (negsuc d) r e = limited-exact z (negsuc d) (reduced z (negsuc d)) r (reduced-exact z (negsuc d) (omega arith)) e

-- the same where d is a natural number
abbrev pub IsShare : ℤ → ℕ → Ratio → Type 0
IsShare x d r = IsQuotient x (pos d) r

pub IsShare-same : (x y : ℤ) (d : ℕ) (r : Ratio) → x ≡ y → IsShare x d r → IsShare y d r
IsShare-same x y d r e h = subst (λ z. IsShare z d r) e h

module _ (d : ℕ) (some : 0 < d) where
  -- a quotient r of y by n, where y / n is x / d
  share_by : (x y : ℤ) (n : ℕ) (r : Ratio) → 0 < n → IsQuotient y (pos n) r → y *ℤ pos d ≡ x *ℤ pos n → IsShare x d r
  share_by x y n r hn q e = record { positive = q.positive; same = same_same r.num y x r.den n d q.positive hn some q.same e }

  pub IsShare-zero : IsShare (pos 0) d (record { num = pos 0; den = 1 })
  IsShare-zero = record { positive = omega arith; same = omega (arith, ints) }

  pub IsShare-whole : (z : ℤ) (r : Ratio) → whole z ≡ Some r → IsShare (pos d *ℤ z) d r
  IsShare-whole z r e = share_by (pos d *ℤ z) z 1 r (omega arith) (lowest-exact z (pos 1) r e) (omega (arith, ints))

  pub IsShare-times : (c x : ℤ) (r s : Ratio) → IsShare x d r → ratio_times c r ≡ Some s → IsShare (c *ℤ x) d s
  IsShare-times c x r s h e =
      share_by (c *ℤ x) (c *ℤ r.num) r.den s h.positive (lowest-exact (c *ℤ r.num) (pos r.den) s e)
      (*ℤ_assoc c r.num (pos d) ∙ ap (λ (z : ℤ). c *ℤ z) h.same ∙ sym (*ℤ_assoc c x (pos r.den)))

  pub IsShare-add : (x y : ℤ) (r s t : Ratio) → IsShare x d r → IsShare y d s → ratio_add r s ≡ Some t → IsShare (x +ℤ y) d t
  IsShare-add x y r s t h k e =
      let p : up r.num * d + down x * r.den ≡ up x * r.den + down r.num * d = (let i = h.same in omega (arith, ints)) in
      let q : up s.num * d + down y * s.den ≡ up y * s.den + down s.num * d = (let i = k.same in omega (arith, ints)) in
      let p' = ap (λ (n : ℕ). s.den * n) p in
      let q' = ap (λ (n : ℕ). r.den * n) q in
      let both = +ℤ-*ℤ (r.num *ℤ pos s.den) (s.num *ℤ pos r.den) (pos d) in
      let left = *ℤ_assoc r.num (pos s.den) (pos d) in
      let right = *ℤ_assoc s.num (pos r.den) (pos d) in
      let sum = +ℤ-*ℤ x y (pos (r.den * s.den)) in
      let some : 0 < r.den * s.den = (let hr = h.positive in let hs = k.positive in omega (arith, mul-le-mul_left r.den hs)) in
      share_by (x +ℤ y) ((r.num *ℤ pos s.den) +ℤ (s.num *ℤ pos r.den)) (r.den * s.den) t some
      (lowest-exact ((r.num *ℤ pos s.den) +ℤ (s.num *ℤ pos r.den)) (pos (r.den * s.den)) t e) (omega (arith, ints))

  -- what is divided by -c: c times the quotient and the whole come to 0
  pub IsShare-over : (c x : ℤ) (r s : Ratio) → IsShare x d r → ratio_over r (negsuc 0 *ℤ c) ≡ Some s
      → (0 < s.den) × (((c *ℤ s.num) *ℤ pos d) +ℤ (x *ℤ pos s.den) ≡ pos 0)
  IsShare-over c x r s h e =
      let q = lowest-exact r.num (pos r.den *ℤ (negsuc 0 *ℤ c)) s e in
      let y = negsuc 0 *ℤ (c *ℤ s.num) in
      let moved : s.num *ℤ (pos r.den *ℤ (negsuc 0 *ℤ c)) ≡ y *ℤ pos r.den =
      *ℤ_comm s.num (pos r.den *ℤ (negsuc 0 *ℤ c)) ∙ ap (λ (z : ℤ). z *ℤ s.num) (*ℤ_comm (pos r.den) (negsuc 0 *ℤ c))
      ∙ *ℤ_assoc (negsuc 0 *ℤ c) (pos r.den) s.num ∙ ap (λ (z : ℤ). (negsuc 0 *ℤ c) *ℤ z) (*ℤ_comm (pos r.den) s.num)
      ∙ sym (*ℤ_assoc (negsuc 0 *ℤ c) s.num (pos r.den)) ∙ ap (λ (z : ℤ). z *ℤ pos r.den) (*ℤ_assoc (negsuc 0) c s.num) in
      let same = same_same y r.num x s.den r.den d q.positive h.positive some (sym moved ∙ q.same) h.same in
      let over = *ℤ_assoc (negsuc 0) (c *ℤ s.num) (pos d) in
      (q.positive, omega (arith, ints))
