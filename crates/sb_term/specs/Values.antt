-- what terms made from others come to at a point
use Rattle.std.proofs.Common.{◌≡◌, ℕ, zero, suc, ◌<◌, ◌≤◌, List, [], ◌∷◌, ℤ, pos, negsuc, ◌+ℤ◌, ◌*ℤ◌, Bool, true, false, nat_lt, if◌then◌else◌, refl, ap, arith}
use Rattle.std.proofs.lemmas.Int.{ints}
use Rattle.std.proofs.lemmas.Bool.Decides.{nat_tests}
use Rattle.sb_term.specs.declared.entry.Entry.{Entry}
use Rattle.sb_term.specs.Linear.{Linear, constant, symbol, sum_at, value, keep, scaled_entries, merge_one, merged, combined, scaled}
use Rattle.sb_term.specs.Rows.{negated}
use Rattle.sb_term.specs.Ring.{*ℤ-+ℤ, +ℤ-*ℤ, *ℤ_assoc}

module _ (p : ℕ → ℤ) where
  pub value-constant : (c : ℤ) → value p (constant c) ≡ c
  value-constant c = omega (arith, ints)

  pub value-symbol : (s : ℕ) → value p (symbol s) ≡ p s
  value-symbol s = omega (arith, ints)

  -- an entry that is kept counts, and one that is left out is zero
  pub sum_at-keep : (s : ℕ) (c : ℤ) (es : List Entry) → sum_at p (keep s c es) ≡ (c *ℤ p s) +ℤ sum_at p es
  sum_at-keep s (pos zero) es = omega (arith, ints)
  sum_at-keep s (pos (suc n)) es = refl
  sum_at-keep s (negsuc n) es = refl

  pub sum_at-scaled_entries : (c : ℤ) (es : List Entry) → sum_at p (scaled_entries c es) ≡ c *ℤ sum_at p es
  sum_at-scaled_entries c [] = omega (arith, ints)
  sum_at-scaled_entries c (e ∷ es) =
      let k = sum_at-keep e.symbol (c *ℤ e.coefficient) (scaled_entries c es) in
      let h = sum_at-scaled_entries c es in
      let d = *ℤ-+ℤ c (e.coefficient *ℤ p e.symbol) (sum_at p es) in
      let a = *ℤ_assoc c e.coefficient (p e.symbol) in
      omega (arith, ints)

  -- what is left of a merge behind an entry: a times S and b times what is left of the second list
  Comes : ℤ → ℤ → ℤ → (List Entry → List Entry) → Type 0
  Comes a b S more = (gs : List Entry) → sum_at p (more gs) ≡ (a *ℤ S) +ℤ (b *ℤ sum_at p gs)

  sum_at-merge_one : (a b S : ℤ) (e : Entry) (more : List Entry → List Entry) → Comes a b S more → (fs : List Entry)
      → sum_at p (merge_one a b e more fs) ≡ (a *ℤ ((e.coefficient *ℤ p e.symbol) +ℤ S)) +ℤ (b *ℤ sum_at p fs)
  unfolding Comes
  sum_at-merge_one a b S e more comes [] =
      let k = sum_at-keep e.symbol (a *ℤ e.coefficient) (more []) in
      let m = comes [] in
      let d = *ℤ-+ℤ a (e.coefficient *ℤ p e.symbol) S in
      let t = *ℤ_assoc a e.coefficient (p e.symbol) in
      omega (arith, ints)
  sum_at-merge_one a b S e more comes (f ∷ fs) =
      by (nat_lt e.symbol f.symbol) (nat_lt f.symbol e.symbol) refl refl (sum_at-merge_one a b S e more comes fs)
    where
      by : (v w : Bool) → nat_lt e.symbol f.symbol ≡ v → nat_lt f.symbol e.symbol ≡ w
          → sum_at p (merge_one a b e more fs) ≡ (a *ℤ ((e.coefficient *ℤ p e.symbol) +ℤ S)) +ℤ (b *ℤ sum_at p fs)
          → sum_at p (if v then keep e.symbol (a *ℤ e.coefficient) (more (f ∷ fs))
          else (if w then keep f.symbol (b *ℤ f.coefficient) (merge_one a b e more fs)
          else keep e.symbol ((a *ℤ e.coefficient) +ℤ (b *ℤ f.coefficient)) (more fs)))
          ≡ (a *ℤ ((e.coefficient *ℤ p e.symbol) +ℤ S)) +ℤ (b *ℤ ((f.coefficient *ℤ p f.symbol) +ℤ sum_at p fs))
      by true w le lf h =
          let k = sum_at-keep e.symbol (a *ℤ e.coefficient) (more (f ∷ fs)) in
          let m = comes (f ∷ fs) in
          let d = *ℤ-+ℤ a (e.coefficient *ℤ p e.symbol) S in
          let t = *ℤ_assoc a e.coefficient (p e.symbol) in
          omega (arith, ints)
      by false true le lf h =
          let k = sum_at-keep f.symbol (b *ℤ f.coefficient) (merge_one a b e more fs) in
          let d = *ℤ-+ℤ b (f.coefficient *ℤ p f.symbol) (sum_at p fs) in
          let t = *ℤ_assoc b f.coefficient (p f.symbol) in
          omega (arith, ints)
      by false false le lf h =
          let same : e.symbol ≡ f.symbol = grind (arith, nat_tests) in
          let k = sum_at-keep e.symbol ((a *ℤ e.coefficient) +ℤ (b *ℤ f.coefficient)) (more fs) in
          let m = comes fs in
          let d = *ℤ-+ℤ a (e.coefficient *ℤ p e.symbol) S in
          let d' = *ℤ-+ℤ b (f.coefficient *ℤ p f.symbol) (sum_at p fs) in
          let s = +ℤ-*ℤ (a *ℤ e.coefficient) (b *ℤ f.coefficient) (p e.symbol) in
          let t = *ℤ_assoc a e.coefficient (p e.symbol) in
          let t' = *ℤ_assoc b f.coefficient (p f.symbol) in
          let q : (b *ℤ f.coefficient) *ℤ p e.symbol ≡ (b *ℤ f.coefficient) *ℤ p f.symbol = ap (λ (n : ℕ). (b *ℤ f.coefficient) *ℤ p n) same in
          omega (arith, ints)

  pub sum_at-merged : (a b : ℤ) (es fs : List Entry) → sum_at p (merged a b es fs) ≡ (a *ℤ sum_at p es) +ℤ (b *ℤ sum_at p fs)
  unfolding Comes
  sum_at-merged a b [] fs = let h = sum_at-scaled_entries b fs in omega (arith, ints)
  sum_at-merged a b (e ∷ es) fs = sum_at-merge_one a b (sum_at p es) e (λ gs. merged a b es gs) (λ gs. sum_at-merged a b es gs) fs

  pub value-combined : (a b c : ℤ) (t u : Linear) → value p (combined a t b u c) ≡ ((a *ℤ value p t) +ℤ (b *ℤ value p u)) +ℤ c
  value-combined a b c t u =
      let m = sum_at-merged a b t.entries u.entries in
      let d = *ℤ-+ℤ a (sum_at p t.entries) t.rest in
      let d' = *ℤ-+ℤ b (sum_at p u.entries) u.rest in
      omega (arith, ints)

  pub value-scaled : (c : ℤ) (t : Linear) → value p (scaled c t) ≡ c *ℤ value p t
  value-scaled c t =
      let s = sum_at-scaled_entries c t.entries in
      let d = *ℤ-+ℤ c (sum_at p t.entries) t.rest in
      omega (arith, ints)

  pub value-negated : (t : Linear) → (value p (negated t) +ℤ value p t) +ℤ pos 1 ≡ pos 0
  value-negated t =
      let s = sum_at-scaled_entries (negsuc 0) t.entries in
      omega (arith, ints)

-- symbols below n, and that two points which agree there give such a term one value
abbrev pub AreBelow : ℕ → List Entry → Type 0
AreBelow n [] = Unit {0}
AreBelow n (e ∷ es) = (e.symbol < n) × AreBelow n es

abbrev pub IsBelow : ℕ → Linear → Type 0
IsBelow n t = AreBelow n t.entries

abbrev pub Agree : ℕ → (ℕ → ℤ) → (ℕ → ℤ) → Type 0
Agree n p q = (s : ℕ) → s < n → p s ≡ q s

pub sum_at-agrees : (n : ℕ) (p q : ℕ → ℤ) → Agree n p q → (es : List Entry) → AreBelow n es → sum_at p es ≡ sum_at q es
sum_at-agrees n p q same [] b = refl
sum_at-agrees n p q same (e ∷ es) b =
    let h = sum_at-agrees n p q same es b.1 in
    let s : e.coefficient *ℤ p e.symbol ≡ e.coefficient *ℤ q e.symbol = ap (λ (z : ℤ). e.coefficient *ℤ z) (same e.symbol b.0) in
    omega (arith, ints)

pub value-agrees : (n : ℕ) (p q : ℕ → ℤ) → Agree n p q → (t : Linear) → IsBelow n t → value p t ≡ value q t
value-agrees n p q same t b = ap (λ (z : ℤ). z +ℤ t.rest) (sum_at-agrees n p q same t.entries b)

pub AreBelow-more : (n m : ℕ) → n ≤ m → (es : List Entry) → AreBelow n es → AreBelow m es
AreBelow-more n m le [] b = tt
AreBelow-more n m le (e ∷ es) b = let lt : e.symbol < n = b.0 in (omega arith, AreBelow-more n m le es b.1)

pub AreBelow-keep : (n s : ℕ) (c : ℤ) (es : List Entry) → s < n → AreBelow n es → AreBelow n (keep s c es)
AreBelow-keep n s (pos zero) es lt b = b
AreBelow-keep n s (pos (suc k)) es lt b = (lt, b)
AreBelow-keep n s (negsuc k) es lt b = (lt, b)

pub AreBelow-scaled_entries : (n : ℕ) (c : ℤ) (es : List Entry) → AreBelow n es → AreBelow n (scaled_entries c es)
AreBelow-scaled_entries n c [] b = tt
AreBelow-scaled_entries n c (e ∷ es) b =
    AreBelow-keep n e.symbol (c *ℤ e.coefficient) (scaled_entries c es) b.0 (AreBelow-scaled_entries n c es b.1)

AreBelow-merge_one : (n : ℕ) (a b : ℤ) (e : Entry) (more : List Entry → List Entry) → e.symbol < n
    → ((gs : List Entry) → AreBelow n gs → AreBelow n (more gs))
    → (fs : List Entry) → AreBelow n fs → AreBelow n (merge_one a b e more fs)
AreBelow-merge_one n a b e more lt h [] below = AreBelow-keep n e.symbol (a *ℤ e.coefficient) (more []) lt (h [] tt)
AreBelow-merge_one n a b e more lt h (f ∷ fs) below =
    by (nat_lt e.symbol f.symbol) (nat_lt f.symbol e.symbol) (AreBelow-merge_one n a b e more lt h fs below.1)
  where
    by : (v w : Bool) → AreBelow n (merge_one a b e more fs)
        → AreBelow n (if v then keep e.symbol (a *ℤ e.coefficient) (more (f ∷ fs))
        else (if w then keep f.symbol (b *ℤ f.coefficient) (merge_one a b e more fs)
        else keep e.symbol ((a *ℤ e.coefficient) +ℤ (b *ℤ f.coefficient)) (more fs)))
    by true w r = AreBelow-keep n e.symbol (a *ℤ e.coefficient) (more (f ∷ fs)) lt (h (f ∷ fs) below)
    by false true r = AreBelow-keep n f.symbol (b *ℤ f.coefficient) (merge_one a b e more fs) below.0 r
    by false false r = AreBelow-keep n e.symbol ((a *ℤ e.coefficient) +ℤ (b *ℤ f.coefficient)) (more fs) lt (h fs below.1)

pub AreBelow-merged : (n : ℕ) (a b : ℤ) (es fs : List Entry) → AreBelow n es → AreBelow n fs → AreBelow n (merged a b es fs)
AreBelow-merged n a b [] fs be bf = AreBelow-scaled_entries n b fs bf
AreBelow-merged n a b (e ∷ es) fs be bf =
    AreBelow-merge_one n a b e (λ gs. merged a b es gs) be.0 (λ gs bg. AreBelow-merged n a b es gs be.1 bg) fs bf
