-- Products of integers.
use Rattle.std.proofs.Common.{◌≡◌, ℕ, zero, suc, ℤ, pos, negsuc, neg_ℤ, ◌+ℤ◌, ◌*ℤ◌, sym, ap, ◌∙◌, arith}
use Rattle.std.proofs.lemmas.Int.{ints}
use Rattle.std.proofs.Math.IntN.{*ℤ_comm, *ℤ-negsuc, zero-*ℤ, suc_ℤ-*ℤ}

pub exchange : (a b c d : ℤ) → (a +ℤ b) +ℤ (c +ℤ d) ≡ (a +ℤ c) +ℤ (b +ℤ d)
exchange a b c d = omega (arith, ints)

neg_sum : (a b : ℤ) → neg_ℤ (a +ℤ b) ≡ neg_ℤ a +ℤ neg_ℤ b
neg_sum a b = omega (arith, ints)

neg_twice : (a : ℤ) → a ≡ neg_ℤ (neg_ℤ a)
neg_twice a = omega (arith, ints)

below_times : (n : ℕ) (a : ℤ) → negsuc n *ℤ a ≡ neg_ℤ (pos (suc n) *ℤ a)
below_times n a = *ℤ_comm (negsuc n) a ∙ *ℤ-negsuc a n ∙ ap neg_ℤ (*ℤ_comm a (pos (suc n)))

neg_times : (a b : ℤ) → neg_ℤ a *ℤ b ≡ neg_ℤ (a *ℤ b)
neg_times (pos zero) b = zero-*ℤ b ∙ sym (ap neg_ℤ (zero-*ℤ b))
neg_times (pos (suc n)) b = below_times n b
neg_times (negsuc n) b = neg_twice (pos (suc n) *ℤ b) ∙ ap neg_ℤ (sym (below_times n b))

so_many : (n : ℕ) (a b : ℤ) → pos n *ℤ (a +ℤ b) ≡ (pos n *ℤ a) +ℤ (pos n *ℤ b)
so_many zero a b = zero-*ℤ (a +ℤ b) ∙ sym (ap (λ z. z +ℤ (pos 0 *ℤ b)) (zero-*ℤ a) ∙ ap (λ z. pos 0 +ℤ z) (zero-*ℤ b))
so_many (suc n) a b =
    suc_ℤ-*ℤ (pos n) (a +ℤ b) ∙ ap (λ z. z +ℤ (a +ℤ b)) (so_many n a b) ∙ exchange (pos n *ℤ a) (pos n *ℤ b) a b
    ∙ sym (ap (λ z. z +ℤ (pos (suc n) *ℤ b)) (suc_ℤ-*ℤ (pos n) a) ∙ ap (λ z. ((pos n *ℤ a) +ℤ a) +ℤ z) (suc_ℤ-*ℤ (pos n) b))

pub over_sum : (c a b : ℤ) → c *ℤ (a +ℤ b) ≡ (c *ℤ a) +ℤ (c *ℤ b)
over_sum (pos n) a b = so_many n a b
over_sum (negsuc n) a b =
    below_times n (a +ℤ b) ∙ ap neg_ℤ (so_many (suc n) a b) ∙ neg_sum (pos (suc n) *ℤ a) (pos (suc n) *ℤ b)
    ∙ sym (ap (λ z. z +ℤ (negsuc n *ℤ b)) (below_times n a) ∙ ap (λ z. neg_ℤ (pos (suc n) *ℤ a) +ℤ z) (below_times n b))

pub of_sum : (a b c : ℤ) → (a +ℤ b) *ℤ c ≡ (a *ℤ c) +ℤ (b *ℤ c)
of_sum a b c = *ℤ_comm (a +ℤ b) c ∙ over_sum c a b ∙ ap (λ z. z +ℤ (c *ℤ b)) (*ℤ_comm c a) ∙ ap (λ z. (a *ℤ c) +ℤ z) (*ℤ_comm c b)

so_many_times : (n : ℕ) (a b : ℤ) → (pos n *ℤ a) *ℤ b ≡ pos n *ℤ (a *ℤ b)
so_many_times zero a b = ap (λ z. z *ℤ b) (zero-*ℤ a) ∙ zero-*ℤ b ∙ sym (zero-*ℤ (a *ℤ b))
so_many_times (suc n) a b =
    ap (λ z. z *ℤ b) (suc_ℤ-*ℤ (pos n) a) ∙ of_sum (pos n *ℤ a) a b ∙ ap (λ z. z +ℤ (a *ℤ b)) (so_many_times n a b) ∙ sym (suc_ℤ-*ℤ (pos n) (a *ℤ b))

pub regrouped : (a b c : ℤ) → (a *ℤ b) *ℤ c ≡ a *ℤ (b *ℤ c)
regrouped (pos n) b c = so_many_times n b c
regrouped (negsuc n) b c =
    ap (λ z. z *ℤ c) (below_times n b) ∙ neg_times (pos (suc n) *ℤ b) c ∙ ap neg_ℤ (so_many_times (suc n) b c) ∙ sym (below_times n (b *ℤ c))
