-- the order of rationals by value
use Rattle.std.proofs.Common.{◌≡◌, ℕ, ◌+◌, ◌*◌, ◌<◌, max, true, ℤ, pos, ◌*ℤ◌, ◌<ℤ◌, sym, ap, ◌∙◌, arith}
use Rattle.std.proofs.Math.Nat.{mul-lt-mul_of_pos_left, lt_of_mul-lt-mul_left, eq_of_mul-eq-mul_left}
use Rattle.std.proofs.lemmas.Int.{ints}
use Rattle.std.proofs.lemmas.Cmp.{int_cmp_total, int_ranked}
use Rattle.std.specs.Cmp.{int_cmp_is, int_ranks, IsTotalOrder}
use Rattle.std.specs.Ordering.{int_cmp, MatchOrdering}
use Rattle.std.specs.declared.cmp.Ordering.{Ordering}
use Rattle.std.specs.declared.cmp.Ordering.TheVariants.{Less, Equal, Greater}
use borrow.Author.Differences.{up, down}
use Rattle.sb_term.specs.Ratio.{Ratio, IsAtMost, ratio_le, ratio_cmp}

-- a / k, b / m and c / n by cross products
module _ (a b c : ℤ) (k m n : ℕ) (hk : 0 < k) (hm : 0 < m) (hn : 0 < n) where
  pub less_less : (a *ℤ pos m) <ℤ (b *ℤ pos k) → (b *ℤ pos n) <ℤ (c *ℤ pos m) → (a *ℤ pos n) <ℤ (c *ℤ pos k)
  less_less h g =
      let p : up a * m + down b * k < up b * k + down a * m = omega (arith, ints) in
      let q : up b * n + down c * m < up c * m + down b * n = omega (arith, ints) in
      let p' = mul-lt-mul_of_pos_left p hn in
      let q' = mul-lt-mul_of_pos_left q hk in
      let r : m * (up a * n + down c * k) < m * (up c * k + down a * n) = omega arith in
      let s = lt_of_mul-lt-mul_left m r in
      omega (arith, ints)

  pub same_less : a *ℤ pos m ≡ b *ℤ pos k → (b *ℤ pos n) <ℤ (c *ℤ pos m) → (a *ℤ pos n) <ℤ (c *ℤ pos k)
  same_less h g =
      let p : up a * m + down b * k ≡ up b * k + down a * m = omega (arith, ints) in
      let q : up b * n + down c * m < up c * m + down b * n = omega (arith, ints) in
      let p' = ap (λ x. n * x) p in
      let q' = mul-lt-mul_of_pos_left q hk in
      let r : m * (up a * n + down c * k) < m * (up c * k + down a * n) = omega arith in
      let s = lt_of_mul-lt-mul_left m r in
      omega (arith, ints)

  same_greater : a *ℤ pos m ≡ b *ℤ pos k → (c *ℤ pos m) <ℤ (b *ℤ pos n) → (c *ℤ pos k) <ℤ (a *ℤ pos n)
  same_greater h g =
      let p : up a * m + down b * k ≡ up b * k + down a * m = omega (arith, ints) in
      let q : up c * m + down b * n < up b * n + down c * m = omega (arith, ints) in
      let p' = ap (λ x. n * x) p in
      let q' = mul-lt-mul_of_pos_left q hk in
      let r : m * (up c * k + down a * n) < m * (up a * n + down c * k) = omega arith in
      let s = lt_of_mul-lt-mul_left m r in
      omega (arith, ints)

  pub same_same : a *ℤ pos m ≡ b *ℤ pos k → b *ℤ pos n ≡ c *ℤ pos m → a *ℤ pos n ≡ c *ℤ pos k
  same_same h g =
      let p : up a * m + down b * k ≡ up b * k + down a * m = omega (arith, ints) in
      let q : up b * n + down c * m ≡ up c * m + down b * n = omega (arith, ints) in
      let p' = ap (λ x. n * x) p in
      let q' = ap (λ x. k * x) q in
      let r : m * (up a * n + down c * k) ≡ m * (up c * k + down a * n) = omega arith in
      let s = eq_of_mul-eq-mul_left m hm (up a * n + down c * k) (up c * k + down a * n) r in
      omega (arith, ints)

less_of : (x y : ℤ) → int_cmp x y ≡ Less → x <ℤ y
less_of x y e = int_ranked x y Less (sym e)

same_of : (x y : ℤ) → int_cmp x y ≡ Equal → x ≡ y
same_of x y e = int_ranked x y Equal (sym e)

pub ratio_cmp_total : IsTotalOrder ratio_cmp
ratio_cmp_total = record {
  antisymm = λ r s. int_cmp_total.antisymm (r.num *ℤ pos (max s.den 1)) (s.num *ℤ pos (max r.den 1));
  trans = λ r s t h g.
      let hr : 0 < max r.den 1 = omega arith in
      let hs : 0 < max s.den 1 = omega arith in
      let ht : 0 < max t.den 1 = omega arith in
      sym (int_cmp_is (r.num *ℤ pos (max t.den 1)) (t.num *ℤ pos (max r.den 1)) Less
      (less_less r.num s.num t.num (max r.den 1) (max s.den 1) (max t.den 1) hr hs ht
      (less_of (r.num *ℤ pos (max s.den 1)) (s.num *ℤ pos (max r.den 1)) h)
      (less_of (s.num *ℤ pos (max t.den 1)) (t.num *ℤ pos (max s.den 1)) g)));
  congr = λ r s t h.
      let hr : 0 < max r.den 1 = omega arith in
      let hs : 0 < max s.den 1 = omega arith in
      let ht : 0 < max t.den 1 = omega arith in
      congr_at r.num s.num t.num (max r.den 1) (max s.den 1) (max t.den 1) hr hs ht
      (same_of (r.num *ℤ pos (max s.den 1)) (s.num *ℤ pos (max r.den 1)) h)
      (int_cmp (s.num *ℤ pos (max t.den 1)) (t.num *ℤ pos (max s.den 1)))
      (int_ranks (s.num *ℤ pos (max t.den 1)) (t.num *ℤ pos (max s.den 1)));
}
  where
    congr_at : (a b c : ℤ) (k m n : ℕ) → 0 < k → 0 < m → 0 < n → a *ℤ pos m ≡ b *ℤ pos k
        → (o : Ordering) → MatchOrdering o ((b *ℤ pos n) <ℤ (c *ℤ pos m)) (b *ℤ pos n ≡ c *ℤ pos m) ((c *ℤ pos m) <ℤ (b *ℤ pos n))
        → int_cmp (a *ℤ pos n) (c *ℤ pos k) ≡ o
    congr_at a b c k m n hk hm hn e Less h = sym (int_cmp_is (a *ℤ pos n) (c *ℤ pos k) Less (same_less a b c k m n hk hm hn e h))
    congr_at a b c k m n hk hm hn e Equal h = sym (int_cmp_is (a *ℤ pos n) (c *ℤ pos k) Equal (same_same a b c k m n hk hm hn e h))
    congr_at a b c k m n hk hm hn e Greater h = sym (int_cmp_is (a *ℤ pos n) (c *ℤ pos k) Greater (same_greater a b c k m n hk hm hn e h))

-- the same as a test and as a fact, where both denominators are positive
pub ratio_cmp-positive : (r s : Ratio) → 0 < r.den → 0 < s.den → ratio_cmp r s ≡ int_cmp (r.num *ℤ pos s.den) (s.num *ℤ pos r.den)
ratio_cmp-positive r s hr hs =
    let er : max r.den 1 ≡ r.den = omega arith in
    let es : max s.den 1 ≡ s.den = omega arith in
    ap (λ n. int_cmp (r.num *ℤ pos n) (s.num *ℤ pos (max r.den 1))) es ∙ ap (λ n. int_cmp (r.num *ℤ pos s.den) (s.num *ℤ pos n)) er

pub IsAtMost-from_ratio_le : (r s : Ratio) → ratio_le r s ≡ true → IsAtMost r s
IsAtMost-from_ratio_le r s h = omega (arith, ints)

pub ratio_le-from_IsAtMost : (r s : Ratio) → IsAtMost r s → ratio_le r s ≡ true
ratio_le-from_IsAtMost r s h = grind (arith, ints)
