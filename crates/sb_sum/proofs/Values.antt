-- A merged list comes to the sum of both.
use Rattle.std.proofs.Common.{◌≡◌, Bool, true, false, if◌then◌else◌, List, [], ◌∷◌, ℤ, pos, negsuc, ◌+ℤ◌, ◌*ℤ◌, refl, sym, ap, ◌∙◌, arith}
use Rattle.std.proofs.lemmas.Int.{ints}
use Rattle.std.proofs.lemmas.Bool.Decides.{nat_tests}
use Rattle.sb_core.specs.declared.contract.Atom.{Atom}
use Rattle.sb_sum.specs.Lines.{sum_in, is_zero, with_part, times, merged, precedes}
use Rattle.sb_sum.specs.Laws.{Adds}
use Rattle.sb_sum.proofs.Ordering.{same_value}
use Rattle.sb_sum.proofs.Products.{exchange, over_sum, of_sum, regrouped}

zero_is : (c : ℤ) → is_zero c ≡ true → c ≡ pos 0
zero_is (pos n) h = let z : n ≡ 0 = grind (arith, nat_tests) in ap pos z
zero_is (negsuc n) h = absurd (cc)

part_comes : (v : Atom → ℤ) (c : ℤ) (a : Atom) (ps : List (ℤ × Atom)) → sum_in v (with_part c a ps) ≡ (c *ℤ v a) +ℤ sum_in v ps
part_comes v c a ps = by_zero (is_zero c) refl
  where
    by_zero : (z : Bool) → is_zero c ≡ z → sum_in v (if z then ps else (c, a) ∷ ps) ≡ (c *ℤ v a) +ℤ sum_in v ps
    by_zero true e = let zero = zero_is c e in rw zero (omega (arith, ints))
    by_zero false e = refl

nothing_times : (c : ℤ) → pos 0 ≡ c *ℤ pos 0
nothing_times c = omega (arith, ints)

times_more : (c p x s : ℤ) → ((c *ℤ p) *ℤ x) +ℤ (c *ℤ s) ≡ c *ℤ ((p *ℤ x) +ℤ s)
times_more c p x s = ap (λ z. z +ℤ (c *ℤ s)) (regrouped c p x) ∙ sym (over_sum c (p *ℤ x) s)

pub times_come : (v : Atom → ℤ) (c : ℤ) (ps : List (ℤ × Atom)) → sum_in v (times c ps) ≡ c *ℤ sum_in v ps
times_come v c [] = nothing_times c
times_come v c (p ∷ ps) =
    part_comes v (c *ℤ p.0) p.1 (times c ps) ∙ ap (λ s. ((c *ℤ p.0) *ℤ v p.1) +ℤ s) (times_come v c ps)
    ∙ times_more c p.0 (v p.1) (sum_in v ps)

left_first : (x s c r : ℤ) → x +ℤ (s +ℤ (c *ℤ r)) ≡ (x +ℤ s) +ℤ (c *ℤ r)
left_first x s c r = omega (arith, ints)

second_first : (x y z : ℤ) → x +ℤ (y +ℤ z) ≡ y +ℤ (x +ℤ z)
second_first x y z = omega (arith, ints)

right_first : (x c q y r : ℤ) → ((c *ℤ q) *ℤ y) +ℤ (x +ℤ (c *ℤ r)) ≡ x +ℤ (c *ℤ ((q *ℤ y) +ℤ r))
right_first x c q y r =
    ap (λ z. z +ℤ (x +ℤ (c *ℤ r))) (regrouped c q y) ∙ second_first (c *ℤ (q *ℤ y)) x (c *ℤ r) ∙ ap (λ z. x +ℤ z) (sym (over_sum c (q *ℤ y) r))

both_first : (p c q x s r : ℤ) → ((p +ℤ (c *ℤ q)) *ℤ x) +ℤ (s +ℤ (c *ℤ r)) ≡ ((p *ℤ x) +ℤ s) +ℤ (c *ℤ ((q *ℤ x) +ℤ r))
both_first p c q x s r =
    ap (λ z. z +ℤ (s +ℤ (c *ℤ r))) (of_sum p (c *ℤ q) x ∙ ap (λ z. (p *ℤ x) +ℤ z) (regrouped c q x))
    ∙ exchange (p *ℤ x) (c *ℤ (q *ℤ x)) s (c *ℤ r) ∙ ap (λ z. ((p *ℤ x) +ℤ s) +ℤ z) (sym (over_sum c (q *ℤ x) r))

nothing_right : (c s : ℤ) → s ≡ s +ℤ (c *ℤ pos 0)
nothing_right c s = omega (arith, ints)

pub nothing_left : (s : ℤ) → s ≡ pos 0 +ℤ s
nothing_left s = omega (arith, ints)

step_adds : (v : Atom → ℤ) (c : ℤ) (p : ℤ × Atom) (ps : List (ℤ × Atom))
    → ((rest : List (ℤ × Atom)) → sum_in v (merged c ps rest) ≡ sum_in v ps +ℤ (c *ℤ sum_in v rest))
    → (qs : List (ℤ × Atom)) → sum_in v (merged c (p ∷ ps) qs) ≡ ((p.0 *ℤ v p.1) +ℤ sum_in v ps) +ℤ (c *ℤ sum_in v qs)
step_adds v c p ps m [] =
    part_comes v p.0 p.1 (merged c ps []) ∙ ap (λ s. (p.0 *ℤ v p.1) +ℤ s) (m []) ∙ left_first (p.0 *ℤ v p.1) (sum_in v ps) c (pos 0)
step_adds v c p ps m (q ∷ qs) = by_order (precedes p.1 q.1) (precedes q.1 p.1) refl refl (step_adds v c p ps m qs)
  where
    by_order : (x y : Bool) → precedes p.1 q.1 ≡ x → precedes q.1 p.1 ≡ y
        → sum_in v (merged c (p ∷ ps) qs) ≡ ((p.0 *ℤ v p.1) +ℤ sum_in v ps) +ℤ (c *ℤ sum_in v qs)
        → sum_in v (if x then with_part p.0 p.1 (merged c ps (q ∷ qs)) else (if y then with_part (c *ℤ q.0) q.1 (merged c (p ∷ ps) qs) else with_part (p.0 +ℤ (c *ℤ q.0)) p.1 (merged c ps qs)))
        ≡ ((p.0 *ℤ v p.1) +ℤ sum_in v ps) +ℤ (c *ℤ ((q.0 *ℤ v q.1) +ℤ sum_in v qs))
    by_order true y e f rest =
        part_comes v p.0 p.1 (merged c ps (q ∷ qs)) ∙ ap (λ s. (p.0 *ℤ v p.1) +ℤ s) (m (q ∷ qs))
        ∙ left_first (p.0 *ℤ v p.1) (sum_in v ps) c ((q.0 *ℤ v q.1) +ℤ sum_in v qs)
    by_order false true e f rest =
        part_comes v (c *ℤ q.0) q.1 (merged c (p ∷ ps) qs) ∙ ap (λ s. ((c *ℤ q.0) *ℤ v q.1) +ℤ s) rest
        ∙ right_first ((p.0 *ℤ v p.1) +ℤ sum_in v ps) c q.0 (v q.1) (sum_in v qs)
    by_order false false e f rest =
        part_comes v (p.0 +ℤ (c *ℤ q.0)) p.1 (merged c ps qs) ∙ ap (λ s. ((p.0 +ℤ (c *ℤ q.0)) *ℤ v p.1) +ℤ s) (m qs)
        ∙ both_first p.0 c q.0 (v p.1) (sum_in v ps) (sum_in v qs)
        ∙ ap (λ a. ((p.0 *ℤ v p.1) +ℤ sum_in v ps) +ℤ (c *ℤ ((q.0 *ℤ v a) +ℤ sum_in v qs))) (same_value p.1 q.1 e f)

pub adds : Adds
adds v c [] qs = times_come v c qs ∙ nothing_left (c *ℤ sum_in v qs)
adds v c (p ∷ ps) qs = step_adds v c p ps (λ rest. adds v c ps rest) qs

-- ---- sums with a constant
