-- rows that stand: in rising number, without zeros, and with symbols only that are still to be eliminated
use Rattle.std.proofs.Common.{◌≡◌, ◌≢◌, ℕ, zero, suc, ◌*◌, ◌/◌, ◌<◌, ◌≤◌, ◌⊎◌, inl, inr, ⊎_elim, Bool, true, false, cond, List, [], ◌∷◌, length, ℤ, pos, negsuc, ◌+ℤ◌, ◌*ℤ◌, refl, sym, ap, ◌∙◌, arith}
use Rattle.std.specs.Prelude.{◌==◌, not, int_lt, unsigned_abs, if◌then◌else◌}
use Rattle.std.proofs.lemmas.Int.{ints}
use Rattle.std.proofs.lemmas.Bool.{eqb-true, eqb-false, eq-eqb, ltb-true}
use Rattle.std.proofs.Math.Nat.{mul-div_cancel'}
use Rattle.sb_term.specs.declared.entry.Entry.{Entry}
use Rattle.sb_term.specs.declared.numbered.Numbered.{Numbered}
use Rattle.sb_term.specs.Linear.{sum_at, merged, scaled_entries, coefficient_of, AreRising, HaveNoZero}
use Rattle.sb_term.specs.Ratio.{gcd}
use Rattle.sb_term.specs.Values.{sum_at-merged, sum_at-scaled_entries}
use Rattle.sb_term.specs.Elimination.{size_in, without}
use Rattle.sb_term.proofs.Divisors.{IsGcd-gcd}
use Rattle.sb_term.proofs.Kept.{AreRising-merged, AreRising-scaled_entries, HaveNoZero-merged}
use Rattle.sb_term.proofs.Backward.Points.{others, sum_at-split}
use Rattle.sb_term.proofs.Backward.Between.{IsLower, IsUpper, pair}

-- among others
abbrev pub IsIn : ℕ → List ℕ → Type 0
IsIn s [] = ⊥
IsIn s (x ∷ xs) = (x ≡ s) ⊎ IsIn s xs

pub IsIn-without : (s b : ℕ) (xs : List ℕ) → IsIn s xs → s ≢ b → IsIn s (without b xs)
IsIn-without s b [] h n = h
IsIn-without s b (x ∷ xs) h n = by (x == b) refl (λ k. IsIn-without s b xs k n)
  where
    by : (t : Bool) → (x == b) ≡ t → (IsIn s xs → IsIn s (without b xs)) → IsIn s (cond (not t) (x ∷ without b xs) (without b xs))
    by true e later = ⊎_elim (λ (here : x ≡ s). absurd (n (sym here ∙ eqb-true x b e))) (λ (k : IsIn s xs). later k) h
    by false e later = ⊎_elim (λ (here : x ≡ s). inl here) (λ (k : IsIn s xs). inr (later k)) h

pub IsIn-before : (s b : ℕ) (xs : List ℕ) → IsIn s (without b xs) → IsIn s xs
IsIn-before s b [] h = h
IsIn-before s b (x ∷ xs) h = by (x == b) h (λ k. IsIn-before s b xs k)
  where
    by : (t : Bool) → IsIn s (cond (not t) (x ∷ without b xs) (without b xs)) → (IsIn s (without b xs) → IsIn s xs) → (x ≡ s) ⊎ IsIn s xs
    by true k later = inr (later k)
    by false k later = ⊎_elim (λ (here : x ≡ s). inl here) (λ (r : IsIn s (without b xs)). inr (later r)) k

pub IsIn-none : (b : ℕ) (xs : List ℕ) → IsIn b (without b xs) → ⊥
IsIn-none b [] h = h
IsIn-none b (x ∷ xs) h = by (x == b) refl h (λ k. IsIn-none b xs k)
  where
    by : (t : Bool) → (x == b) ≡ t → IsIn b (cond (not t) (x ∷ without b xs) (without b xs)) → (IsIn b (without b xs) → ⊥) → ⊥
    by true e k later = later k
    by false e k later = ⊎_elim (λ (here : x ≡ b). eqb-false x b e here) (λ (r : IsIn b (without b xs)). later r) k

-- at least one fewer is left
length-without : (b : ℕ) (xs : List ℕ) → length (without b xs) ≤ length xs
length-without b [] = omega arith
length-without b (x ∷ xs) = by (x == b) (length-without b xs)
  where
    by : (t : Bool) → length (without b xs) ≤ length xs → length (cond (not t) (x ∷ without b xs) (without b xs)) ≤ length (x ∷ xs)
    by true h = omega arith
    by false h = omega arith

pub length-without_one : (b : ℕ) (xs : List ℕ) → IsIn b xs → length (without b xs) < length xs
length-without_one b [] h = absurd h
length-without_one b (x ∷ xs) h = by (x == b) refl (length-without b xs) (λ k. length-without_one b xs k)
  where
    by : (t : Bool) → (x == b) ≡ t → length (without b xs) ≤ length xs → (IsIn b xs → length (without b xs) < length xs)
        → length (cond (not t) (x ∷ without b xs) (without b xs)) < length (x ∷ xs)
    by true e le later = omega arith
    by false e le later =
        ⊎_elim (λ (here : x ≡ b). absurd (eqb-false x b e here)) (λ (k : IsIn b xs). let l = later k in omega arith) h

-- a coefficient is what the entries come to where its symbol is 1 and all others are 0
alone : ℕ → ℕ → ℤ
alone s n = if n == s then pos 1 else pos 0

others_nothing : (s : ℕ) (es : List Entry) → sum_at (alone s) (others s es) ≡ pos 0
unfolding alone
others_nothing s [] = refl
others_nothing s (e ∷ es) = by (e.symbol == s) refl (others_nothing s es)
  where
    by : (b : Bool) → (e.symbol == s) ≡ b → sum_at (alone s) (others s es) ≡ pos 0 → sum_at (alone s) (cond (not b) (e ∷ others s es) (others s es)) ≡ pos 0
    by true t h = h
    by false t h =
        let none = ap (λ (b : Bool). e.coefficient *ℤ cond b (pos 1) (pos 0)) t in
        omega (arith, ints)

coefficient-sum : (s n : ℕ) (es : List Entry) → AreRising n es → sum_at (alone s) es ≡ coefficient_of s es
unfolding alone
coefficient-sum s n es r =
    let split = sum_at-split (alone s) s n es r in
    let none = others_nothing s es in
    let one = ap (λ (b : Bool). coefficient_of s es *ℤ cond b (pos 1) (pos 0)) (let k : (s == s) ≡ true = eq-eqb s s refl in k) in
    omega (arith, ints)

coefficient_of-merged : (s : ℕ) (a b : ℤ) (xs ys : List Entry) → AreRising 0 xs → AreRising 0 ys
    → coefficient_of s (merged a b xs ys) ≡ (a *ℤ coefficient_of s xs) +ℤ (b *ℤ coefficient_of s ys)
coefficient_of-merged s a b xs ys rx ry =
    let m = sum_at-merged (alone s) a b xs ys in
    let c = coefficient-sum s 0 (merged a b xs ys) (AreRising-merged 0 a b xs ys rx ry) in
    let x = ap (λ (z : ℤ). a *ℤ z) (coefficient-sum s 0 xs rx) in
    let y = ap (λ (z : ℤ). b *ℤ z) (coefficient-sum s 0 ys ry) in
    omega (arith, ints)

coefficient_of-scaled : (s : ℕ) (a : ℤ) (xs : List Entry) → AreRising 0 xs → coefficient_of s (scaled_entries a xs) ≡ a *ℤ coefficient_of s xs
coefficient_of-scaled s a xs rx =
    let m = sum_at-scaled_entries (alone s) a xs in
    let c = coefficient-sum s 0 (scaled_entries a xs) (AreRising-scaled_entries 0 a xs rx) in
    let x = ap (λ (z : ℤ). a *ℤ z) (coefficient-sum s 0 xs rx) in
    omega (arith, ints)

-- entries of which each symbol is among those that are left
pub record IsSound (left : List ℕ) (es : List Entry) : Type 0 where
  pub rising : AreRising 0 es
  pub no_zero : HaveNoZero es
  pub within : (s : ℕ) → coefficient_of s es ≢ pos 0 → IsIn s left

pub is_zero : (z : ℤ) → (z ≡ pos 0) ⊎ (z ≢ pos 0)
is_zero (pos zero) = inl refl
is_zero (pos (suc n)) = inr (λ e. absurd (cc))
is_zero (negsuc n) = inr (λ e. absurd (cc))

pub IsSound-none : (left : List ℕ) (es : List Entry) (s : ℕ) → IsSound left es → (IsIn s left → ⊥) → coefficient_of s es ≡ pos 0
IsSound-none left es s h none =
    ⊎_elim (λ (e : coefficient_of s es ≡ pos 0). e) (λ (n : coefficient_of s es ≢ pos 0). absurd (none (h.within s n))) (is_zero (coefficient_of s es))

pub IsSound-without : (left : List ℕ) (es : List Entry) (s : ℕ) → IsSound left es → coefficient_of s es ≡ pos 0 → IsSound (without s left) es
IsSound-without left es s h none = record {
  rising = h.rising;
  no_zero = h.no_zero;
  within = λ n some. IsIn-without n s left (h.within n some) (λ same. some (ap (λ (m : ℕ). coefficient_of m es) same ∙ none));
}

pub IsSound-scaled : (left : List ℕ) (a : ℤ) (es : List Entry) → IsSound left es → HaveNoZero (scaled_entries a es) → IsSound left (scaled_entries a es)
IsSound-scaled left a es h none = record {
  rising = AreRising-scaled_entries 0 a es h.rising;
  no_zero = none;
  within = λ n some. h.within n (λ e. some (coefficient_of-scaled n a es h.rising ∙ ap (λ (z : ℤ). a *ℤ z) e ∙ (omega (arith, ints))));
}

-- the row that a lower and an upper row give is sound without the symbol
pair_without : (s : ℕ) (x y : Numbered) → IsLower s x → IsUpper s y → coefficient_of s (pair s x y).entries ≡ pos 0
pair_without s x y l u =
    let a = size_in s x in
    let b = size_in s y in
    let g = IsGcd-gcd a b in
    let ea : gcd a b * (a / gcd a b) ≡ a = mul-div_cancel' (gcd a b) g.0 in
    let eb : gcd a b * (b / gcd a b) ≡ b = mul-div_cancel' (gcd a b) g.1 in
    let same : (b / gcd a b) * a ≡ (a / gcd a b) * b = omega (arith, ap (λ (n : ℕ). (b / gcd a b) * n) ea, ap (λ (n : ℕ). (a / gcd a b) * n) eb) in
    coefficient_of-merged s (pos (b / gcd a b)) (pos (a / gcd a b)) x.term.entries y.term.entries l.rising u.rising
    ∙ by (coefficient_of s x.term.entries) (coefficient_of s y.term.entries) (b / gcd a b) (a / gcd a b) l.positive u.negative same
  where
    by : (c d : ℤ) (m n : ℕ) → int_lt (pos 0) c ≡ true → int_lt d (pos 0) ≡ true → m * unsigned_abs c ≡ n * unsigned_abs d → (pos m *ℤ c) +ℤ (pos n *ℤ d) ≡ pos 0
    by (negsuc c) d m n p q e = absurd (cc)
    by (pos c) (pos d) m n p q e = absurd (omega (arith, ltb-true d 0 q))
    by (pos c) (negsuc d) m n p q e = omega (arith, ints)

pub IsSound-pair : (left : List ℕ) (s : ℕ) (x y : Numbered) → IsLower s x → IsUpper s y → IsSound left x.term.entries → IsSound left y.term.entries
    → IsSound (without s left) (pair s x y).entries
IsSound-pair left s x y l u hx hy =
    let a = size_in s x in
    let b = size_in s y in
    let m = pos (b / gcd a b) in
    let n = pos (a / gcd a b) in
    let es = (pair s x y).entries in
    IsSound-without left es s
    (record {
      rising = AreRising-merged 0 m n x.term.entries y.term.entries hx.rising hy.rising;
      no_zero = HaveNoZero-merged m n x.term.entries y.term.entries;
      within = λ k some.
          ⊎_elim
          (λ (ex : coefficient_of k x.term.entries ≡ pos 0). hy.within k (λ (ey : coefficient_of k y.term.entries ≡ pos 0).
          some (coefficient_of-merged k m n x.term.entries y.term.entries hx.rising hy.rising
          ∙ (let zx = ap (λ (z : ℤ). m *ℤ z) ex in let zy = ap (λ (z : ℤ). n *ℤ z) ey in omega (arith, ints)))))
          (λ (nx : coefficient_of k x.term.entries ≢ pos 0). hx.within k nx)
          (is_zero (coefficient_of k x.term.entries));
    })
    (pair_without s x y l u)
