-- what terms and facts of a picture come to at a point, and which symbols they name
use Rattle.std.proofs.Common.{◌≡◌, ℕ, zero, suc, ◌<◌, ◌≤◌, List, [], ◌∷◌, ◌++◌, ℤ, pos, negsuc, ◌+ℤ◌, ◌-ℤ◌, ◌≤ℤ◌, Bool, true, false, not, ◌||◌, if◌then◌else◌, Option, Some, None, refl, subst, arith}
use Rattle.std.specs.List.{list_any}
use Rattle.std.proofs.lemmas.Int.{ints}
use Rattle.sb_term.specs.declared.row.Row.{Row}
use Rattle.sb_term.specs.Linear.{Linear, constant, symbol, value, combined, scaled, formed, is_within}
use Rattle.sb_term.specs.Rows.{Holds, AllHold, negated}
use Rattle.sb_term.specs.Values as values
use Rattle.sb_picture.specs.Pictures.{minus, plus, has_symbol, is_fact, with_fact}
use Rattle.sb_picture.specs.Describes.{IsBelow}
use Rattle.sb_picture.proofs.Soundness.Elements.{Each, each-append, each-one}

-- values

pub value-minus : (p : ℕ → ℤ) (t u : Linear) (c : ℤ) → value p (minus t u c) ≡ (value p t -ℤ value p u) +ℤ c
value-minus p t u c = let h = values.value-combined p (pos 1) (negsuc 0) c t u in omega (arith, ints)

pub value-plus : (p : ℕ → ℤ) (t u : Linear) → value p (plus t u) ≡ value p t +ℤ value p u
value-plus p t u = let h = values.value-combined p (pos 1) (pos 1) (pos 0) t u in omega (arith, ints)

-- a term that was formed is that term
pub formed_is : (t u : Linear) → formed t ≡ Some u → t ≡ u
formed_is t u e = by (is_within t) e
  where
    by : (b : Bool) → (if b then Some t else None) ≡ Some u → t ≡ u
    by true h = cc
    by false h = cc

-- what holds of a term that may not have been formed
abbrev pub IfFormed : (Linear → Type 0) → Option Linear → Type 0
IfFormed P None = Unit {0}
IfFormed P (Some t) = P t

abbrev pub IsNotBelow0 : (ℕ → ℤ) → Linear → Type 0
IsNotBelow0 p t = pos 0 ≤ℤ value p t

pub if_formed : (P : Linear → Type 0) (t : Linear) → P t → IfFormed P (formed t)
if_formed P t h = by (is_within t)
  where
    by : (b : Bool) → IfFormed P (if b then Some t else None)
    by true = h
    by false = tt

-- symbols below n

pub below-combined : (n : ℕ) (a b c : ℤ) (t u : Linear) → IsBelow n t → IsBelow n u → IsBelow n (combined a t b u c)
below-combined n a b c t u ht hu = values.AreBelow-merged n a b t.entries u.entries ht hu

pub below-minus : (n : ℕ) (t u : Linear) (c : ℤ) → IsBelow n t → IsBelow n u → IsBelow n (minus t u c)
below-minus n t u c ht hu = below-combined n (pos 1) (negsuc 0) c t u ht hu

pub below-plus : (n : ℕ) (t u : Linear) → IsBelow n t → IsBelow n u → IsBelow n (plus t u)
below-plus n t u ht hu = below-combined n (pos 1) (pos 1) (pos 0) t u ht hu

pub below-constant : (n : ℕ) (c : ℤ) → IsBelow n (constant c)
below-constant n c = tt

pub below-symbol : (n s : ℕ) → s < n → IsBelow n (symbol s)
below-symbol n s h = (h, tt)

pub below-scaled : (n : ℕ) (c : ℤ) (t : Linear) → IsBelow n t → IsBelow n (scaled c t)
below-scaled n c t h = values.AreBelow-scaled_entries n c t.entries h

pub below-negated : (n : ℕ) (t : Linear) → IsBelow n t → IsBelow n (negated t)
below-negated n t h = values.AreBelow-scaled_entries n (negsuc 0) t.entries h

pub below_more : (n m : ℕ) (t : Linear) → n ≤ m → IsBelow n t → IsBelow m t
below_more n m t le h = values.AreBelow-more n m le t.entries h

-- two points that agree below n

pub value-agrees : (n : ℕ) (p q : ℕ → ℤ) → ((s : ℕ) → s < n → p s ≡ q s) → (t : Linear) → IsBelow n t → value p t ≡ value q t
value-agrees n p q same t h = values.value-agrees n p q same t h

pub holds_agrees : (n : ℕ) (p q : ℕ → ℤ) → ((s : ℕ) → s < n → p s ≡ q s) → (rs : List Row) → Each (λ r. IsBelow n r.term) rs → AllHold p rs → AllHold q rs
holds_agrees n p q same [] below h = tt
holds_agrees n p q same (r ∷ rs) below h =
    let e : value p r.term ≡ value q r.term = value-agrees n p q same r.term (below zero r refl) in
    (subst (λ (z : ℤ). pos 0 ≤ℤ z) e h.0, holds_agrees n p q same rs (λ k x g. below (suc k) x g) h.1)

-- facts

pub all_hold-append : (p : ℕ → ℤ) (rs : List Row) (r : Row) → AllHold p rs → Holds p r → AllHold p (rs ++ r ∷ [])
all_hold-append p [] r hs h = (h, tt)
all_hold-append p (x ∷ rs) r hs h = (hs.0, all_hold-append p rs r hs.1 h)

pub hold-with_fact : (p : ℕ → ℤ) (rs : List Row) (c : Option Linear) → AllHold p rs → IfFormed (IsNotBelow0 p) c → AllHold p (with_fact rs c)
hold-with_fact p rs None hs h = hs
hold-with_fact p rs (Some t) hs h = by (not (has_symbol t) || list_any (is_fact t) rs)
  where
    by : (b : Bool) → AllHold p (if b then rs else rs ++ record { term = t } ∷ [])
    by true = hs
    by false = all_hold-append p rs (record { term = t }) hs h

pub below-with_fact : (n : ℕ) (rs : List Row) (c : Option Linear) → Each (λ r. IsBelow n r.term) rs → IfFormed (IsBelow n) c → Each (λ r. IsBelow n r.term) (with_fact rs c)
below-with_fact n rs None hs h = hs
below-with_fact n rs (Some t) hs h = by (not (has_symbol t) || list_any (is_fact t) rs)
  where
    by : (b : Bool) → Each (λ (r : Row). IsBelow n r.term) (if b then rs else rs ++ record { term = t } ∷ [])
    by true = hs
    by false = each-append (λ (r : Row). IsBelow n r.term) rs (record { term = t } ∷ []) hs (each-one (λ (r : Row). IsBelow n r.term) (record { term = t }) h)
