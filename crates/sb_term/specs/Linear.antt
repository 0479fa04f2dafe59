-- linear terms over integer symbols, and what they come to
use Rattle.std.specs.Prelude.{◌≡◌, ◌≢◌, ℕ, suc, ◌^◌, ◌≤◌, Bool, true, false, ◌&&◌, ◌==◌, List, [], ◌∷◌, ℤ, pos, negsuc, ◌+ℤ◌, ◌*ℤ◌, nat_lt, unsigned_abs, if◌then◌else◌, Option, Some, None}
use Rattle.std.specs.Ordering.{int_eq}
use Rattle.sb_term.specs.declared.entry.Entry.{Entry}

-- symbols with their coefficients, and a constant
pub record Linear : Type 0 where
  pub entries : List Entry
  pub rest : ℤ

-- a term without symbols, and a symbol once
abbrev pub constant : ℤ → Linear
constant c = record { entries = []; rest = c }

abbrev pub symbol : ℕ → Linear
symbol s = record { entries = record { symbol = s; coefficient = pos 1 } ∷ []; rest = pos 0 }

-- what a list of entries comes to where symbol s is `p s`
abbrev pub sum_at : (ℕ → ℤ) → List Entry → ℤ
sum_at p [] = pos 0
sum_at p (e ∷ es) = (e.coefficient *ℤ p e.symbol) +ℤ sum_at p es

abbrev pub value : (ℕ → ℤ) → Linear → ℤ
value p t = sum_at p t.entries +ℤ t.rest

-- an entry before others, left out where its coefficient is zero
abbrev pub keep : ℕ → ℤ → List Entry → List Entry
keep s (pos ℕ.zero) es = es
keep s (pos (suc n)) es = record { symbol = s; coefficient = pos (suc n) } ∷ es
keep s (negsuc n) es = record { symbol = s; coefficient = negsuc n } ∷ es

-- all entries c times, without zeros
abbrev pub scaled_entries : ℤ → List Entry → List Entry
scaled_entries c [] = []
scaled_entries c (e ∷ es) = keep e.symbol (c *ℤ e.coefficient) (scaled_entries c es)

-- a times the first list plus b times the second, both in rising number
abbrev pub merge_one : ℤ → ℤ → Entry → (List Entry → List Entry) → List Entry → List Entry
merge_one a b e more [] = keep e.symbol (a *ℤ e.coefficient) (more [])
merge_one a b e more (f ∷ fs) =
    if nat_lt e.symbol f.symbol then keep e.symbol (a *ℤ e.coefficient) (more (f ∷ fs))
    else (if nat_lt f.symbol e.symbol then keep f.symbol (b *ℤ f.coefficient) (merge_one a b e more fs)
    else keep e.symbol ((a *ℤ e.coefficient) +ℤ (b *ℤ f.coefficient)) (more fs))

abbrev pub merged : ℤ → ℤ → List Entry → List Entry → List Entry
merged a b [] fs = scaled_entries b fs
merged a b (e ∷ es) fs = merge_one a b e (λ gs. merged a b es gs) fs

-- a times one term plus b times another, and c more
abbrev pub combined : ℤ → Linear → ℤ → Linear → ℤ → Linear
combined a t b u c = record { entries = merged a b t.entries u.entries; rest = ((a *ℤ t.rest) +ℤ (b *ℤ u.rest)) +ℤ c }

abbrev pub scaled : ℤ → Linear → Linear
scaled c t = record { entries = scaled_entries c t.entries; rest = c *ℤ t.rest }

-- the limits: coefficients below 2^40 and the constant below 2^80 in absolute value
abbrev pub is_narrow : ℤ → Bool
is_narrow z = nat_lt (unsigned_abs z) (2 ^ 40)

abbrev pub is_short : ℤ → Bool
is_short z = nat_lt (unsigned_abs z) (2 ^ 80)

abbrev pub are_narrow : List Entry → Bool
are_narrow [] = true
are_narrow (e ∷ es) = is_narrow e.coefficient && are_narrow es

abbrev pub is_within : Linear → Bool
is_within t = are_narrow t.entries && is_short t.rest

-- a term within the limits, or none
abbrev pub formed : Linear → Option Linear
formed t = if is_within t then Some t else None

-- each symbol at least n and above the one before it
abbrev pub AreRising : ℕ → List Entry → Type 0
AreRising n [] = Unit {0}
AreRising n (e ∷ es) = (n ≤ e.symbol) × AreRising (suc e.symbol) es

abbrev pub HaveNoZero : List Entry → Type 0
HaveNoZero [] = Unit {0}
HaveNoZero (e ∷ es) = (e.coefficient ≢ pos 0) × HaveNoZero es

-- what each `Term` keeps
pub record IsTerm (t : Linear) : Type 0 where
  pub rising : AreRising 0 t.entries
  pub no_zero : HaveNoZero t.entries
  pub narrow : are_narrow t.entries ≡ true
  pub short : is_short t.rest ≡ true

-- the coefficient of a symbol, 0 where it does not stand
abbrev pub coefficient_of : ℕ → List Entry → ℤ
coefficient_of s [] = pos 0
coefficient_of s (e ∷ es) = if e.symbol == s then e.coefficient else coefficient_of s es

-- whether two lists of entries are equal
abbrev pub is_same_list : List Entry → List Entry → Bool
is_same_list [] [] = true
is_same_list [] (f ∷ fs) = false
is_same_list (e ∷ es) [] = false
is_same_list (e ∷ es) (f ∷ fs) = ((e.symbol == f.symbol) && int_eq e.coefficient f.coefficient) && is_same_list es fs
