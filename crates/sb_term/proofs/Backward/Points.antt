-- rational points as integers over one denominator, what terms come to there, and a point where one symbol is moved
use Rattle.std.proofs.Common.{◌≡◌, ℕ, suc, ◌*◌, ◌<◌, ◌≤◌, Bool, true, false, cond, List, [], ◌∷◌, ◌++◌, ℤ, pos, ◌+ℤ◌, ◌*ℤ◌, ◌≤ℤ◌, Option, Some, None, refl, sym, ap, ◌∙◌, subst, arith}
use Rattle.std.specs.Prelude.{◌==◌, not, filter, option_and_then, option_map, if◌then◌else◌, find, unwrap_or}
use Rattle.std.proofs.lemmas.Int.{ints}
use Rattle.std.proofs.lemmas.Bool.{eqb-true, eqb-false, eq-eqb, ne_eqb}
use Rattle.sb_term.specs.declared.entry.Entry.{Entry}
use Rattle.sb_term.specs.declared.sym.Sym.{Sym}
use Rattle.sb_term.specs.Linear.{Linear, sum_at, combined, coefficient_of, AreRising}
use Rattle.sb_term.specs.Ratio.{Ratio, whole, ratio_add, ratio_times}
use Rattle.sb_term.specs.Refutes.{value_in, product_of, products_onto, value_under}
use Rattle.sb_term.specs.Bounds.{zero_ratio, dropping, in_order}
use Rattle.sb_term.specs.Ring.{*ℤ-+ℤ, +ℤ-*ℤ, *ℤ_assoc, *ℤ_comm}
use Rattle.sb_term.specs.Values.{sum_at-merged}
use Rattle.sb_term.proofs.Backward.Exact.{IsShare, IsShare-same, IsShare-whole, IsShare-times, IsShare-add}

-- symbol s is at s / den
pub record Point : Type 0 where
  pub at : ℕ → ℤ
  pub den : ℕ

-- the value of a term, times the denominator
abbrev pub worth : Point → Linear → ℤ
worth p t = sum_at p.at t.entries +ℤ (pos p.den *ℤ t.rest)

abbrev pub HoldsAt : Point → Linear → Type 0
HoldsAt p t = pos 0 ≤ℤ worth p t

pub worth-combined : (p : Point) (a b : ℤ) (t u : Linear) → worth p (combined a t b u (pos 0)) ≡ (a *ℤ worth p t) +ℤ (b *ℤ worth p u)
worth-combined p a b t u =
    let m = sum_at-merged p.at a b t.entries u.entries in
    let d = *ℤ-+ℤ a (sum_at p.at t.entries) (pos p.den *ℤ t.rest) in
    let e = *ℤ-+ℤ b (sum_at p.at u.entries) (pos p.den *ℤ u.rest) in
    let r = *ℤ-+ℤ (pos p.den) (a *ℤ t.rest) (b *ℤ u.rest) in
    let swap_a = *ℤ_assoc a (pos p.den) t.rest in
    let swap_b = *ℤ_assoc b (pos p.den) u.rest in
    let back_a = *ℤ_assoc (pos p.den) a t.rest in
    let back_b = *ℤ_assoc (pos p.den) b u.rest in
    let same_a = ap (λ (z : ℤ). z *ℤ t.rest) (*ℤ_comm a (pos p.den)) in
    let same_b = ap (λ (z : ℤ). z *ℤ u.rest) (*ℤ_comm b (pos p.den)) in
    let none : ((a *ℤ t.rest) +ℤ (b *ℤ u.rest)) +ℤ pos 0 ≡ (a *ℤ t.rest) +ℤ (b *ℤ u.rest) = omega (arith, ints) in
    let whole = ap (λ (z : ℤ). pos p.den *ℤ z) none in
    omega (arith, ints)

-- the entries of other symbols than s
abbrev pub others : ℕ → List Entry → List Entry
others s es = filter (λ e. not (e.symbol == s)) es

absent : (s n : ℕ) (es : List Entry) → s < n → AreRising n es → coefficient_of s es ≡ pos 0
absent s n [] lt r = refl
absent s n (e ∷ es) lt r = by (e.symbol == s) refl (absent s (suc e.symbol) es (let k : n ≤ e.symbol = r.0 in omega arith) r.1)
  where
    by : (b : Bool) → (e.symbol == s) ≡ b → coefficient_of s es ≡ pos 0 → cond b e.coefficient (coefficient_of s es) ≡ pos 0
    by true t h = absurd (let i = eqb-true e.symbol s t in let k : n ≤ e.symbol = r.0 in omega arith)
    by false t h = h

-- a sum is what one symbol adds and what the others do
pub sum_at-split : (p : ℕ → ℤ) (s n : ℕ) (es : List Entry) → AreRising n es → sum_at p es ≡ (coefficient_of s es *ℤ p s) +ℤ sum_at p (others s es)
sum_at-split p s n [] r = omega (arith, ints)
sum_at-split p s n (e ∷ es) r = by (e.symbol == s) refl (sum_at-split p s (suc e.symbol) es r.1)
  where
    by : (b : Bool) → (e.symbol == s) ≡ b → sum_at p es ≡ (coefficient_of s es *ℤ p s) +ℤ sum_at p (others s es)
        → (e.coefficient *ℤ p e.symbol) +ℤ sum_at p es ≡ (cond b e.coefficient (coefficient_of s es) *ℤ p s) +ℤ sum_at p (cond (not b) (e ∷ others s es) (others s es))
    by true t h =
        let same : e.symbol ≡ s = eqb-true e.symbol s t in
        let none : coefficient_of s es ≡ pos 0 = absent s (suc e.symbol) es (omega arith) r.1 in
        let zero : coefficient_of s es *ℤ p s ≡ pos 0 = ap (λ (z : ℤ). z *ℤ p s) none ∙ (omega (arith, ints)) in
        let here : e.coefficient *ℤ p e.symbol ≡ e.coefficient *ℤ p s = ap (λ (n : ℕ). e.coefficient *ℤ p n) same in
        omega (arith, ints)
    by false t h = omega (arith, ints)

-- the point where s is at v and the others stay
abbrev pub moved : ℕ → Ratio → Point → Point
moved s v p = record { at = λ n. if n == s then v.num *ℤ pos p.den else p.at n *ℤ pos v.den; den = p.den * v.den }

at_moved : (s : ℕ) (v : Ratio) (p : Point) → (moved s v p).at s ≡ v.num *ℤ pos p.den
at_moved s v p = ap (λ (b : Bool). cond b (v.num *ℤ pos p.den) (p.at s *ℤ pos v.den)) (let k : (s == s) ≡ true = eq-eqb s s refl in k)

sum_at-others : (s : ℕ) (v : Ratio) (p : Point) (es : List Entry) → sum_at (moved s v p).at (others s es) ≡ sum_at p.at (others s es) *ℤ pos v.den
sum_at-others s v p [] = omega (arith, ints)
sum_at-others s v p (e ∷ es) = by (e.symbol == s) refl (sum_at-others s v p es)
  where
    by : (b : Bool) → (e.symbol == s) ≡ b → sum_at (moved s v p).at (others s es) ≡ sum_at p.at (others s es) *ℤ pos v.den
        → sum_at (moved s v p).at (cond (not b) (e ∷ others s es) (others s es)) ≡ sum_at p.at (cond (not b) (e ∷ others s es) (others s es)) *ℤ pos v.den
    by true t h = h
    by false t h =
        let stays : (moved s v p).at e.symbol ≡ p.at e.symbol *ℤ pos v.den = ap (λ (b : Bool). cond b (v.num *ℤ pos p.den) (p.at e.symbol *ℤ pos v.den)) t in
        let here = ap (λ (z : ℤ). e.coefficient *ℤ z) stays in
        let over = *ℤ_assoc e.coefficient (p.at e.symbol) (pos v.den) in
        let sum = +ℤ-*ℤ (e.coefficient *ℤ p.at e.symbol) (sum_at p.at (others s es)) (pos v.den) in
        omega (arith, ints)

-- a term there: its coefficient times the value, and the rest as before
pub worth-moved : (s : ℕ) (v : Ratio) (p : Point) (t : Linear) → AreRising 0 t.entries
    → worth (moved s v p) t ≡ ((coefficient_of s t.entries *ℤ v.num) *ℤ pos p.den) +ℤ (worth p (dropping s t) *ℤ pos v.den)
worth-moved s v p t r =
    let c = coefficient_of s t.entries in
    let split = sum_at-split (moved s v p).at s 0 t.entries r in
    let here = ap (λ (z : ℤ). c *ℤ z) (at_moved s v p) in
    let over = *ℤ_assoc c v.num (pos p.den) in
    let there = sum_at-others s v p t.entries in
    let sum = +ℤ-*ℤ (sum_at p.at (others s t.entries)) (pos p.den *ℤ t.rest) (pos v.den) in
    let swap = *ℤ_assoc (pos p.den) t.rest (pos v.den) in
    let turn = ap (λ (z : ℤ). pos p.den *ℤ z) (*ℤ_comm t.rest (pos v.den)) in
    let back = *ℤ_assoc (pos p.den) (pos v.den) t.rest in
    omega (arith, ints)

-- a term without s
pub worth-still : (s : ℕ) (v : Ratio) (p : Point) (t : Linear) → AreRising 0 t.entries → coefficient_of s t.entries ≡ pos 0
    → worth (moved s v p) t ≡ worth p t *ℤ pos v.den
worth-still s v p t r none =
    let c = coefficient_of s t.entries in
    let there = worth-moved s v p t r in
    let split = sum_at-split p.at s 0 t.entries r in
    let a : (c *ℤ v.num) *ℤ pos p.den ≡ pos 0 = ap (λ (z : ℤ). (z *ℤ v.num) *ℤ pos p.den) none ∙ (let k : (pos 0 *ℤ v.num) ≡ pos 0 = omega (arith, ints) in ap (λ (z : ℤ). z *ℤ pos p.den) k ∙ (omega (arith, ints))) in
    let b : c *ℤ p.at s ≡ pos 0 = ap (λ (z : ℤ). z *ℤ p.at s) none ∙ (omega (arith, ints)) in
    let same : worth p t ≡ worth p (dropping s t) = omega (arith, ints) in
    let all = ap (λ (z : ℤ). z *ℤ pos v.den) same in
    omega (arith, ints)

-- the values that stand beside symbols are those of the point
abbrev pub Gives : List (Sym × Ratio) → Point → Type 0
Gives a p = (s : ℕ) (r : Ratio) → value_in a s ≡ Some r → IsShare (p.at s) p.den r

pub and_then_some : {A B : Type 0} (f : A → Option B) (o : Option A) (v : B) → option_and_then f o ≡ Some v → (u : A) × (o ≡ Some u) × (f u ≡ Some v)
and_then_some f None v e = absurd (cc)
and_then_some f (Some u) v e = (u, refl, e)

module _ (a : List (Sym × Ratio)) (p : Point) (some : 0 < p.den) (gives : Gives a p) where
  products-exact : (es : List Entry) (x : ℤ) (r v : Ratio) → IsShare x p.den r → products_onto a r es ≡ Some v → IsShare (x +ℤ sum_at p.at es) p.den v
  products-exact [] x r v h e = IsShare-same x (x +ℤ pos 0) p.den v (omega (arith, ints)) (subst (IsShare x p.den) (let k : r ≡ v = cc in k) h)
  products-exact (c ∷ es) x r v h e =
      let sum = and_then_some (λ (u : Ratio). products_onto a u es) (option_and_then (ratio_add r) (product_of a c)) v e in
      let product = and_then_some (ratio_add r) (product_of a c) sum.0 sum.1 in
      let known = and_then_some (ratio_times c.coefficient) (value_in a c.symbol) product.0 product.1 in
      let here : IsShare (c.coefficient *ℤ p.at c.symbol) p.den product.0 = IsShare-times p.den some c.coefficient (p.at c.symbol) known.0 product.0 (gives c.symbol known.0 known.1) known.2 in
      let both : IsShare (x +ℤ (c.coefficient *ℤ p.at c.symbol)) p.den sum.0 = IsShare-add p.den some x (c.coefficient *ℤ p.at c.symbol) r product.0 sum.0 h here product.2 in
      IsShare-same ((x +ℤ (c.coefficient *ℤ p.at c.symbol)) +ℤ sum_at p.at es) (x +ℤ ((c.coefficient *ℤ p.at c.symbol) +ℤ sum_at p.at es)) p.den v (omega (arith, ints))
      (products-exact es (x +ℤ (c.coefficient *ℤ p.at c.symbol)) sum.0 v both sum.2)

  pub value-exact : (t : Linear) (v : Ratio) → value_under a t ≡ Some v → IsShare (worth p t) p.den v
  value-exact t v e =
      let first = and_then_some (λ (r : Ratio). products_onto a r t.entries) (whole t.rest) v e in
      IsShare-same ((pos p.den *ℤ t.rest) +ℤ sum_at p.at t.entries) (worth p t) p.den v (omega (arith, ints))
      (products-exact t.entries (pos p.den *ℤ t.rest) first.0 v (IsShare-whole p.den some t.rest first.0 first.1) first.2)

-- the values found so far are those of the point, and a symbol without one is at 0
abbrev pub Agrees : List (Sym × Ratio) → Point → Type 0
Agrees known p = (s : ℕ) → IsShare (p.at s) p.den (unwrap_or (value_in known s) zero_ratio)

pub Gives-from_agrees : (known : List (Sym × Ratio)) (p : Point) → Agrees known p → Gives known p
Gives-from_agrees known p h s r e = subst (λ o. IsShare (p.at s) p.den (unwrap_or o zero_ratio)) e (h s)

in_order-gives : (known : List (Sym × Ratio)) (ss : List ℕ) (s : ℕ) (r : Ratio) → value_in (in_order known ss) s ≡ Some r → r ≡ unwrap_or (value_in known s) zero_ratio
in_order-gives known [] s r e = absurd (cc)
in_order-gives known (n ∷ ns) s r e = by (n == s) refl e (in_order-gives known ns s r)
  where
    by : (b : Bool) → (n == s) ≡ b
        → option_map (λ x. x.1) (cond b (Some (let x : Sym × Ratio = (record { 0 = n }, unwrap_or (value_in known n) zero_ratio) in x)) (find (λ x. x.0.0 == s) (in_order known ns))) ≡ Some r
        → (value_in (in_order known ns) s ≡ Some r → r ≡ unwrap_or (value_in known s) zero_ratio) → r ≡ unwrap_or (value_in known s) zero_ratio
    by true t e h = (let k : r ≡ unwrap_or (value_in known n) zero_ratio = cc in k) ∙ ap (λ (m : ℕ). unwrap_or (value_in known m) zero_ratio) (eqb-true n s t)
    by false t e h = h e

pub Gives-in_order : (known : List (Sym × Ratio)) (ss : List ℕ) (p : Point) → Agrees known p → Gives (in_order known ss) p
Gives-in_order known ss p h s r e = subst (IsShare (p.at s) p.den) (sym (in_order-gives known ss s r e)) (h s)

-- one more value at the end of a list
abbrev pub with_value : List (Sym × Ratio) → ℕ → Ratio → List (Sym × Ratio)
with_value known s v = known ++ (record { 0 = s }, v) ∷ []

pub value_in-other : (known : List (Sym × Ratio)) (s n : ℕ) (v : Ratio) → (s == n) ≡ false → value_in (with_value known s v) n ≡ value_in known n
value_in-other [] s n v e = ap (λ (b : Bool). option_map (λ x. x.1) (cond b (Some (let x : Sym × Ratio = (record { 0 = s }, v) in x)) None)) e
value_in-other (x ∷ known) s n v e = by (x.0.0 == n) (value_in-other known s n v e)
  where
    by : (b : Bool) → value_in (with_value known s v) n ≡ value_in known n
        → option_map (λ x. x.1) (cond b (Some x) (find (λ x. x.0.0 == n) (with_value known s v))) ≡ option_map (λ x. x.1) (cond b (Some x) (find (λ x. x.0.0 == n) known))
    by true h = refl
    by false h = h

pub value_in-same : (known : List (Sym × Ratio)) (s : ℕ) (v : Ratio) → value_in known s ≡ None → value_in (with_value known s v) s ≡ Some v
value_in-same [] s v e = ap (λ (b : Bool). option_map (λ x. x.1) (cond b (Some (let x : Sym × Ratio = (record { 0 = s }, v) in x)) None)) (let k : (s == s) ≡ true = eq-eqb s s refl in k)
value_in-same (x ∷ known) s v e = by (x.0.0 == s) e (value_in-same known s v)
  where
    by : (b : Bool) → option_map (λ x. x.1) (cond b (Some x) (find (λ x. x.0.0 == s) known)) ≡ None → (value_in known s ≡ None → value_in (with_value known s v) s ≡ Some v)
        → option_map (λ x. x.1) (cond b (Some x) (find (λ x. x.0.0 == s) (with_value known s v))) ≡ Some v
    by true e h = absurd (cc)
    by false e h = h e

-- one more value, of a symbol that has none yet
pub Agrees-moved : (known : List (Sym × Ratio)) (s : ℕ) (v : Ratio) (p : Point) → 0 < v.den → value_in known s ≡ None
    → Agrees known p → Agrees (with_value known s v) (moved s v p)
Agrees-moved known s v p hv none h n = by (n == s) refl
  where
    by : (b : Bool) → (n == s) ≡ b → IsShare (cond b (v.num *ℤ pos p.den) (p.at n *ℤ pos v.den)) (p.den * v.den) (unwrap_or (value_in (with_value known s v) n) zero_ratio)
    by true e =
        let same : value_in (with_value known s v) n ≡ Some v = ap (value_in (with_value known s v)) (eqb-true n s e) ∙ value_in-same known s v none in
        subst (λ (o : Option Ratio). IsShare (v.num *ℤ pos p.den) (p.den * v.den) (unwrap_or o zero_ratio)) (sym same)
        (record { positive = hv; same = sym (*ℤ_assoc v.num (pos p.den) (pos v.den)) })
    by false e =
        let apart : (s == n) ≡ false = ne_eqb s n (λ k. eqb-false n s e (sym k)) in
        let r = unwrap_or (value_in known n) zero_ratio in
        let before = h n in
        let over = *ℤ_assoc r.num (pos p.den) (pos v.den) in
        let turned = *ℤ_assoc (p.at n) (pos r.den) (pos v.den) ∙ ap (λ (z : ℤ). p.at n *ℤ z) (*ℤ_comm (pos r.den) (pos v.den)) ∙ sym (*ℤ_assoc (p.at n) (pos v.den) (pos r.den)) in
        subst (λ (o : Option Ratio). IsShare (p.at n *ℤ pos v.den) (p.den * v.den) (unwrap_or o zero_ratio)) (sym (value_in-other known s n v apart))
        (record { positive = before.positive; same = sym over ∙ ap (λ (z : ℤ). z *ℤ pos v.den) before.same ∙ turned })
