-- the value that is given to a symbol makes each row set aside for it hold
use Rattle.std.proofs.Common.{◌≡◌, ℕ, suc, ◌+◌, ◌*◌, ◌/◌, ◌<◌, ◌≤◌, ◌⊎◌, inl, inr, ⊎_elim, Bool, true, false, cond, List, [], ◌∷◌, ℤ, pos, negsuc, ◌+ℤ◌, ◌*ℤ◌, ◌≤ℤ◌, Some, refl, sym, ap, ◌∙◌, subst, arith}
use Rattle.std.specs.Prelude.{int_lt, unsigned_abs}
use Rattle.std.proofs.lemmas.Int.{ints}
use Rattle.std.proofs.lemmas.Bool.{ltb-true}
use Rattle.std.proofs.Math.Nat.{mul-le-mul_left, le_of_mul-le-mul_left}
use borrow.Author.Differences.{up, down}
use Rattle.sb_term.specs.declared.sym.Sym.{Sym}
use Rattle.sb_term.specs.declared.numbered.Numbered.{Numbered}
use Rattle.sb_term.specs.Linear.{Linear, combined, coefficient_of, AreRising}
use Rattle.sb_term.specs.Ratio.{Ratio, gcd, IsAtMost, ratio_le, ratio_max, ratio_min, ratio_over}
use Rattle.sb_term.specs.Order.{IsAtMost-from_ratio_le}
use Rattle.sb_term.specs.Ring.{*ℤ_assoc, *ℤ_comm}
use Rattle.sb_term.specs.Refutes.{value_under}
use Rattle.sb_term.specs.Bounds.{dropping, bound_by, greatest_bound, least_bound, value_between}
use Rattle.sb_term.specs.Elimination.{size_in}
use Rattle.std.specs.List.{AllByRecursion}
use Rattle.sb_term.proofs.Divisors.{IsGcd-gcd, quotient_positive}
use Rattle.sb_term.proofs.Backward.Exact.{IsShare-over, lowest-exact}
use Rattle.sb_term.proofs.Backward.Points.{Point, worth, HoldsAt, moved, worth-moved, worth-combined, Gives, value-exact, and_then_some}

-- k b / m and w / d come to nothing, and b / m is at most v / n
higher : (k : ℕ) (b v w : ℤ) (d m n : ℕ) → 0 < m → ((pos k *ℤ b) *ℤ pos d) +ℤ (w *ℤ pos m) ≡ pos 0 → (b *ℤ pos n) ≤ℤ (v *ℤ pos m)
    → pos 0 ≤ℤ (((pos k *ℤ v) *ℤ pos d) +ℤ (w *ℤ pos n))
higher k b v w d m n hm e le =
    let eb = *ℤ_comm (pos k) b in
    let eb' = ap (λ (z : ℤ). z *ℤ pos d) eb in
    let eb'' = *ℤ_assoc b (pos k) (pos d) in
    let ev = ap (λ (z : ℤ). z *ℤ pos d) (*ℤ_comm (pos k) v) in
    let ev' = *ℤ_assoc v (pos k) (pos d) in
    let p : up b * (k * d) + up w * m ≡ down b * (k * d) + down w * m = omega (arith, ints) in
    let q : up b * n + down v * m ≤ up v * m + down b * n = omega (arith, ints) in
    let p' = ap (λ (x : ℕ). n * x) p in
    let q' = mul-le-mul_left (k * d) q in
    let r : m * (down v * (k * d) + down w * n) ≤ m * (up v * (k * d) + up w * n) = omega arith in
    let s = le_of_mul-le-mul_left r hm in
    omega (arith, ints)

pub opposite : (b z : ℤ) → b *ℤ (negsuc 0 *ℤ z) ≡ negsuc 0 *ℤ (b *ℤ z)
opposite b z = sym (*ℤ_assoc b (negsuc 0) z) ∙ ap (λ (y : ℤ). y *ℤ z) (*ℤ_comm b (negsuc 0)) ∙ *ℤ_assoc (negsuc 0) b z

-- the same where the coefficient is below 0
lower : (k : ℕ) (b v w : ℤ) (d m n : ℕ) → 0 < m → ((negsuc k *ℤ b) *ℤ pos d) +ℤ (w *ℤ pos m) ≡ pos 0 → (v *ℤ pos m) ≤ℤ (b *ℤ pos n)
    → pos 0 ≤ℤ (((negsuc k *ℤ v) *ℤ pos d) +ℤ (w *ℤ pos n))
lower k b v w d m n hm e le =
    let eb = *ℤ_comm (negsuc k) b in
    let eb' = ap (λ (z : ℤ). z *ℤ pos d) eb in
    let eb'' = *ℤ_assoc b (negsuc k) (pos d) in
    let ev = ap (λ (z : ℤ). z *ℤ pos d) (*ℤ_comm (negsuc k) v) in
    let ev' = *ℤ_assoc v (negsuc k) (pos d) in
    let c : negsuc k *ℤ pos d ≡ negsuc 0 *ℤ pos (suc k * d) = omega (arith, ints) in
    let cb = ap (λ (z : ℤ). b *ℤ z) c ∙ opposite b (pos (suc k * d)) in
    let cv = ap (λ (z : ℤ). v *ℤ z) c ∙ opposite v (pos (suc k * d)) in
    let p : down b * (suc k * d) + up w * m ≡ up b * (suc k * d) + down w * m = omega (arith, ints) in
    let q : up v * m + down b * n ≤ up b * n + down v * m = omega (arith, ints) in
    let p' = ap (λ (x : ℕ). n * x) p in
    let q' = mul-le-mul_left (suc k * d) q in
    let r : m * (up v * (suc k * d) + down w * n) ≤ m * (down v * (suc k * d) + up w * n) = omega arith in
    let s = le_of_mul-le-mul_left r hm in
    omega (arith, ints)

at_most_on : (r s t : Ratio) → 0 < s.den → IsAtMost r s → IsAtMost s t → IsAtMost r t
at_most_on r s t hs h k =
    let p : up r.num * s.den + down s.num * r.den ≤ up s.num * r.den + down r.num * s.den = omega (arith, ints) in
    let q : up s.num * t.den + down t.num * s.den ≤ up t.num * s.den + down s.num * t.den = omega (arith, ints) in
    let p' = mul-le-mul_left t.den p in
    let q' = mul-le-mul_left r.den q in
    let l : s.den * (up r.num * t.den + down t.num * r.den) ≤ s.den * (up t.num * r.den + down r.num * t.den) = omega arith in
    let m = le_of_mul-le-mul_left l hs in
    omega (arith, ints)

at_most_other : (r s : Ratio) → ratio_le r s ≡ false → IsAtMost s r
at_most_other r s h = grind (arith, ints)

at_most_self : (r : Ratio) → IsAtMost r r
at_most_self r = omega (arith, ints)

-- a row in rising number where the symbol has a coefficient above 0, or one below 0
pub record IsLower (s : ℕ) (r : Numbered) : Type 0 where
  pub rising : AreRising 0 r.term.entries
  pub positive : int_lt (pos 0) (coefficient_of s r.term.entries) ≡ true

pub record IsUpper (s : ℕ) (r : Numbered) : Type 0 where
  pub rising : AreRising 0 r.term.entries
  pub negative : int_lt (coefficient_of s r.term.entries) (pos 0) ≡ true

-- the row without s that both give
abbrev pub pair : ℕ → Numbered → Numbered → Linear
pair s x y =
    let a = size_in s x in
    let b = size_in s y in
    combined (pos (b / gcd a b)) x.term (pos (a / gcd a b)) y.term (pos 0)

module _ (s : ℕ) (known : List (Sym × Ratio)) (p : Point) (some : 0 < p.den) (gives : Gives known p) where
  abbrev pub Met : Ratio → Numbered → Type 0
  Met v r = HoldsAt (moved s v p) r.term

  -- at its own bound a row comes to 0
  abbrev Touches : Ratio → Numbered → Type 0
  Touches v r = worth (moved s v p) r.term ≡ pos 0

  touches_bound : (r : Numbered) (b : Ratio) → AreRising 0 r.term.entries → bound_by s known r ≡ Some b → (0 < b.den) × Touches b r
  touches_bound r b rising e =
      let c = coefficient_of s r.term.entries in
      let rest = and_then_some (λ (sum : Ratio). ratio_over sum (negsuc 0 *ℤ c)) (value_under known (dropping s r.term)) b e in
      let share = value-exact known p some gives (dropping s r.term) rest.0 rest.1 in
      let over = IsShare-over p.den some c (worth p (dropping s r.term)) rest.0 b share rest.2 in
      (over.0, worth-moved s b p r.term rising ∙ over.1)

  met_above : (r : Numbered) (b v : Ratio) → IsLower s r → 0 < b.den → Touches b r → IsAtMost b v → Met v r
  met_above r b v l hb t le =
      subst (λ (z : ℤ). pos 0 ≤ℤ z) (sym (worth-moved s v p r.term l.rising)) (by (coefficient_of s r.term.entries) l.positive (sym (worth-moved s b p r.term l.rising) ∙ t))
    where
      by : (c : ℤ) → int_lt (pos 0) c ≡ true → ((c *ℤ b.num) *ℤ pos p.den) +ℤ (worth p (dropping s r.term) *ℤ pos b.den) ≡ pos 0
          → pos 0 ≤ℤ (((c *ℤ v.num) *ℤ pos p.den) +ℤ (worth p (dropping s r.term) *ℤ pos v.den))
      by (pos k) q e = higher k b.num v.num (worth p (dropping s r.term)) p.den b.den v.den hb e le
      by (negsuc k) q e = absurd (cc)

  met_below : (r : Numbered) (b v : Ratio) → IsUpper s r → 0 < b.den → Touches b r → IsAtMost v b → Met v r
  met_below r b v u hb t le =
      subst (λ (z : ℤ). pos 0 ≤ℤ z) (sym (worth-moved s v p r.term u.rising)) (by (coefficient_of s r.term.entries) u.negative (sym (worth-moved s b p r.term u.rising) ∙ t))
    where
      by : (c : ℤ) → int_lt c (pos 0) ≡ true → ((c *ℤ b.num) *ℤ pos p.den) +ℤ (worth p (dropping s r.term) *ℤ pos b.den) ≡ pos 0
          → pos 0 ≤ℤ (((c *ℤ v.num) *ℤ pos p.den) +ℤ (worth p (dropping s r.term) *ℤ pos v.den))
      by (pos k) q e = absurd (omega (arith, ltb-true k 0 q))
      by (negsuc k) q e = lower k b.num v.num (worth p (dropping s r.term)) p.den b.den v.den hb e le

  -- one of the rows comes to 0
  abbrev Touched : Ratio → List Numbered → Type 0
  Touched v [] = ⊥
  Touched v (x ∷ xs) = Touches v x ⊎ Touched v xs

  -- the greatest bound is at least the first and each row's, and is the first or a row's
  record IsGreatest (best v : Ratio) (xs : List Numbered) : Type 0 where
    positive : 0 < v.den
    above : IsAtMost best v
    met : AllByRecursion (Met v) xs
    touched : (best ≡ v) ⊎ Touched v xs

  greatest : (xs : List Numbered) (best v : Ratio) → 0 < best.den → AllByRecursion (IsLower s) xs → greatest_bound s known xs best ≡ Some v → IsGreatest best v xs
  greatest [] best v hb ls e =
      let same : best ≡ v = cc in
      record { positive = subst (λ (r : Ratio). 0 < r.den) same hb; above = subst (λ (r : Ratio). IsAtMost best r) same (at_most_self best); met = tt; touched = inl same }
  greatest (x ∷ xs) best v hb ls e =
      let bound = and_then_some (λ (b : Ratio). greatest_bound s known xs (ratio_max best b)) (bound_by s known x) v e in
      let b = bound.0 in
      let touch = touches_bound x b ls.0.rising bound.1 in
      by b (ratio_le best b) refl touch.0 touch.1 (λ (m : Ratio) (hm : 0 < m.den) (em : greatest_bound s known xs m ≡ Some v). greatest xs m v hm ls.1 em) bound.2
    where
      by : (b : Ratio) (t : Bool) → ratio_le best b ≡ t → 0 < b.den → Touches b x
          → ((m : Ratio) → 0 < m.den → greatest_bound s known xs m ≡ Some v → IsGreatest m v xs)
          → greatest_bound s known xs (cond t b best) ≡ Some v → IsGreatest best v (x ∷ xs)
      by b true le hx touch more f =
          let g = more b hx f in
          record {
            positive = g.positive;
            above = at_most_on best b v hx (IsAtMost-from_ratio_le best b le) g.above;
            met = (met_above x b v ls.0 hx touch g.above, g.met);
            touched = inr (⊎_elim (λ (same : b ≡ v). inl (subst (λ (r : Ratio). Touches r x) same touch)) (λ (t : Touched v xs). inr t) g.touched);
          }
      by b false le hx touch more f =
          let g = more best hb f in
          record {
            positive = g.positive;
            above = g.above;
            met = (met_above x b v ls.0 hx touch (at_most_on b best v hb (at_most_other best b le) g.above), g.met);
            touched = ⊎_elim (λ (same : best ≡ v). inl same) (λ (t : Touched v xs). inr (inr t)) g.touched;
          }

  -- the least bound is at most the first and each row's
  record IsLeast (best v : Ratio) (ys : List Numbered) : Type 0 where
    positive : 0 < v.den
    below : IsAtMost v best
    met : AllByRecursion (Met v) ys

  least : (ys : List Numbered) (best v : Ratio) → 0 < best.den → AllByRecursion (IsUpper s) ys → least_bound s known ys best ≡ Some v → IsLeast best v ys
  least [] best v hb us e =
      let same : best ≡ v = cc in
      record { positive = subst (λ (r : Ratio). 0 < r.den) same hb; below = subst (λ (r : Ratio). IsAtMost r best) same (at_most_self best); met = tt }
  least (y ∷ ys) best v hb us e =
      let bound = and_then_some (λ (b : Ratio). least_bound s known ys (ratio_min best b)) (bound_by s known y) v e in
      let b = bound.0 in
      let touch = touches_bound y b us.0.rising bound.1 in
      by b (ratio_le best b) refl touch.0 touch.1 (λ (m : Ratio) (hm : 0 < m.den) (em : least_bound s known ys m ≡ Some v). least ys m v hm us.1 em) bound.2
    where
      by : (b : Ratio) (t : Bool) → ratio_le best b ≡ t → 0 < b.den → Touches b y
          → ((m : Ratio) → 0 < m.den → least_bound s known ys m ≡ Some v → IsLeast m v ys)
          → least_bound s known ys (cond t best b) ≡ Some v → IsLeast best v (y ∷ ys)
      by b true le hy touch more f =
          let g = more best hb f in
          record {
            positive = g.positive;
            below = g.below;
            met = (met_below y b v us.0 hy touch (at_most_on v best b hb g.below (IsAtMost-from_ratio_le best b le)), g.met);
          }
      by b false le hy touch more f =
          let g = more b hy f in
          record {
            positive = g.positive;
            below = at_most_on v b best hy g.below (at_most_other best b le);
            met = (met_below y b v us.0 hy touch g.below, g.met);
          }

  -- where a row comes to 0, what it gives with each of the others is a multiple of that one
  met_with : (x y : Numbered) (v : Ratio) → IsLower s x → Touches v x → HoldsAt (moved s v p) (pair s x y) → Met v y
  met_with x y v l t h =
      let a = size_in s x in
      let b = size_in s y in
      let q = moved s v p in
      let sum = worth-combined q (pos (b / gcd a b)) (pos (a / gcd a b)) x.term y.term in
      let none = ap (λ (z : ℤ). pos (b / gcd a b) *ℤ z) t in
      let some_a : 0 < a / gcd a b = quotient_positive (gcd a b) a (by (coefficient_of s x.term.entries) l.positive) (IsGcd-gcd a b).0 in
      from_multiple (a / gcd a b) (worth q y.term) some_a (omega (arith, ints))
    where
      by : (c : ℤ) → int_lt (pos 0) c ≡ true → 0 < unsigned_abs c
      by (pos k) e = omega (arith, ltb-true 0 k e)
      by (negsuc k) e = absurd (cc)

      from_multiple : (n : ℕ) (z : ℤ) → 0 < n → pos 0 ≤ℤ (pos n *ℤ z) → pos 0 ≤ℤ z
      from_multiple n z hn h =
          let q : n * down z ≤ n * up z = omega (arith, ints) in
          let r = le_of_mul-le-mul_left q hn in
          omega (arith, ints)

  met_with_all : (x : Numbered) (v : Ratio) (ys : List Numbered) → IsLower s x → Touches v x → AllByRecursion (λ y. HoldsAt (moved s v p) (pair s x y)) ys → AllByRecursion (Met v) ys
  met_with_all x v [] l t h = tt
  met_with_all x v (y ∷ ys) l t h = (met_with x y v l t h.0, met_with_all x v ys l t h.1)

  met_with_touched : (v : Ratio) (xs ys : List Numbered) → AllByRecursion (IsLower s) xs → Touched v xs
      → AllByRecursion (λ x. AllByRecursion (λ y. HoldsAt (moved s v p) (pair s x y)) ys) xs → AllByRecursion (Met v) ys
  met_with_touched v [] ys ls t h = absurd t
  met_with_touched v (x ∷ xs) ys ls t h =
      ⊎_elim (λ (here : Touches v x). met_with_all x v ys ls.0 here h.0) (λ (later : Touched v xs). met_with_touched v xs ys ls.1 later h.1) t

  -- where each lower and each upper row together give a row that holds wherever s is, all of them hold at the value
  pub record IsBetween (v : Ratio) (xs ys : List Numbered) : Type 0 where
    pub positive : 0 < v.den
    pub lower_met : AllByRecursion (Met v) xs
    pub upper_met : AllByRecursion (Met v) ys

  pub between : (xs ys : List Numbered) (v : Ratio) → AllByRecursion (IsLower s) xs → AllByRecursion (IsUpper s) ys
      → ((w : Ratio) → 0 < w.den → AllByRecursion (λ x. AllByRecursion (λ y. HoldsAt (moved s w p) (pair s x y)) ys) xs)
      → value_between s known xs ys ≡ Some v → IsBetween v xs ys
  between [] [] v ls us h e = record { positive = (lowest-exact (pos 0) (pos 1) v e).positive; lower_met = tt; upper_met = tt }
  between [] (y ∷ ys) v ls us h e =
      let bound = and_then_some (λ (b : Ratio). least_bound s known ys b) (bound_by s known y) v e in
      let touch = touches_bound y bound.0 us.0.rising bound.1 in
      let l = least ys bound.0 v touch.0 us.1 bound.2 in
      record { positive = l.positive; lower_met = tt; upper_met = (met_below y bound.0 v us.0 touch.0 touch.1 l.below, l.met) }
  between (x ∷ xs) ys v ls us h e =
      let bound = and_then_some (λ (b : Ratio). greatest_bound s known xs b) (bound_by s known x) v e in
      let touch = touches_bound x bound.0 ls.0.rising bound.1 in
      let g = greatest xs bound.0 v touch.0 ls.1 bound.2 in
      let touched : Touched v (x ∷ xs) =
      ⊎_elim (λ (same : bound.0 ≡ v). inl (subst (λ (r : Ratio). Touches r x) same touch.1)) (λ (t : Touched v xs). inr t) g.touched in
      record {
        positive = g.positive;
        lower_met = (met_above x bound.0 v ls.0 touch.0 touch.1 g.above, g.met);
        upper_met = met_with_touched v (x ∷ xs) ys ls touched (h v g.positive);
      }
