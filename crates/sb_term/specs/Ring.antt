-- the laws of addition and multiplication of integers
use Prim.Native.Nat.{ℕ, ◌+◌, ◌*◌, ◌≤◌}
use Rattle.std.proofs.Common.{◌≡◌, ℤ, pos, negsuc, ◌+ℤ◌, ◌*ℤ◌, ◌≤ℤ◌, ap, arith}
use Rattle.std.proofs.Math.Nat.{mul-le-mul_left}
use Rattle.std.proofs.lemmas.Int.{ints}
use borrow.Author.Differences.{up, down, sum_is_lem, product_is}

pub +ℤ_assoc : (a b c : ℤ) → (a +ℤ b) +ℤ c ≡ a +ℤ (b +ℤ c)
+ℤ_assoc a b c = omega (arith, ints)

pub +ℤ_comm : (a b : ℤ) → a +ℤ b ≡ b +ℤ a
+ℤ_comm a b = omega (arith, ints)

pub *ℤ_comm : (a b : ℤ) → a *ℤ b ≡ b *ℤ a
*ℤ_comm a b = omega (arith, ints)

pub *ℤ-+ℤ : (a b c : ℤ) → a *ℤ (b +ℤ c) ≡ (a *ℤ b) +ℤ (a *ℤ c)
*ℤ-+ℤ a b c = omega (arith, ints, ap (λ (n : ℕ). up a * n) (sum_is_lem b c), ap (λ (n : ℕ). down a * n) (sum_is_lem b c))

pub +ℤ-*ℤ : (a b c : ℤ) → (a +ℤ b) *ℤ c ≡ (a *ℤ c) +ℤ (b *ℤ c)
+ℤ-*ℤ a b c = omega (arith, ints, *ℤ-+ℤ c a b, *ℤ_comm c (a +ℤ b), *ℤ_comm c a, *ℤ_comm c b)

pub *ℤ_assoc : (a b c : ℤ) → (a *ℤ b) *ℤ c ≡ a *ℤ (b *ℤ c)
*ℤ_assoc a b c =
    let ab = product_is a b in
    let bc = product_is b c in
    omega (
      arith,
      ints,
      ap (λ (n : ℕ). n * up c) ab.0,
      ap (λ (n : ℕ). n * down c) ab.0,
      ap (λ (n : ℕ). n * up c) ab.1,
      ap (λ (n : ℕ). n * down c) ab.1,
      ap (λ (n : ℕ). up a * n) bc.0,
      ap (λ (n : ℕ). down a * n) bc.0,
      ap (λ (n : ℕ). up a * n) bc.1,
      ap (λ (n : ℕ). down a * n) bc.1,
    )

-- a product by -1, and one by 1
pub negsuc_zero-*ℤ : (a : ℤ) → (negsuc 0 *ℤ a) +ℤ a ≡ pos 0
negsuc_zero-*ℤ a = omega (arith, ints)

pub one-*ℤ : (a : ℤ) → pos 1 *ℤ a ≡ a
one-*ℤ a = omega (arith, ints)

-- an inequality times a natural number
pub ≤ℤ-*ℤ : (n : ℕ) (a b : ℤ) → a ≤ℤ b → (pos n *ℤ a) ≤ℤ (pos n *ℤ b)
≤ℤ-*ℤ n a b h =
    let m : up a + down b ≤ up b + down a = omega (arith, ints) in
    omega (arith, ints, mul-le-mul_left n m, product_is (pos n) a, product_is (pos n) b)
