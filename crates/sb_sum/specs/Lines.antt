-- Sums of multiples of what a size speaks of (SAL 2.0): number parameters, what a parameter points to, fields and the
-- result.
use Rattle.std.specs.Prelude.{◌≡◌, ℕ, ◌^◌, Bool, true, false, not, ◌&&◌, ◌||◌, if◌then◌else◌, nat_eq, nat_lt, List, [], ◌∷◌, Option, Some, None, ℤ, pos, negsuc, neg_ℤ, ◌+ℤ◌, ◌*ℤ◌, int_lt}
use Rattle.std.specs.List.{list_all}
use Rattle.sb_core.specs.declared.contract.Atom.{Atom}
use Rattle.sb_core.specs.declared.contract.Location.{Location}
use Rattle.sb_core.specs.declared.contract.Location.TheVariants as location
use Rattle.sb_core.specs.declared.contract.Size.{Size}

-- multiples of values, and a constant
pub record Line : Type 0 where
  pub parts : List (ℤ × Atom)
  pub constant : ℤ

abbrev pub plain_line : Size → Line
plain_line size = record { parts = size.parts.items; constant = size.constant }

abbrev pub constant_line : ℤ → Line
constant_line z = record { parts = []; constant = z }

-- a value once
abbrev pub single : Atom → Line
single a = record { parts = (pos 1, a) ∷ []; constant = pos 0 }

-- what a sum comes to, where the values are those of `v`
abbrev pub sum_in : (Atom → ℤ) → List (ℤ × Atom) → ℤ
sum_in v [] = pos 0
sum_in v (p ∷ ps) = (p.0 *ℤ v p.1) +ℤ sum_in v ps

abbrev pub value_in : (Atom → ℤ) → Line → ℤ
value_in v l = sum_in v l.parts +ℤ l.constant

-- ---- the order of parts: parameters, then what they point to, then fields, then the result

abbrev pub rank_of : Location → ℕ
rank_of (location.Param i) = 0
rank_of (location.Target i) = 1
rank_of (location.Field i j) = 2
rank_of location.Result = 3

abbrev pub parameter_of : Location → ℕ
parameter_of (location.Param i) = i
parameter_of (location.Target i) = i
parameter_of (location.Field i j) = i
parameter_of location.Result = 0

abbrev pub member_of : Location → ℕ
member_of (location.Param i) = 0
member_of (location.Target i) = 0
member_of (location.Field i j) = j
member_of location.Result = 0

-- the first number that differs decides
abbrev pub is_less : List ℕ → List ℕ → Bool
is_less [] ys = false
is_less (x ∷ xs) [] = false
is_less (x ∷ xs) (y ∷ ys) = nat_lt x y || (nat_eq x y && is_less xs ys)

-- the value of the moment stands before that at entry
abbrev pub key : Atom → List ℕ
key a = rank_of a.at ∷ (parameter_of a.at ∷ (member_of a.at ∷ ((if a.old then 1 else 0) ∷ [])))

abbrev pub precedes : Atom → Atom → Bool
precedes a b = is_less (key a) (key b)

-- each before the next
abbrev pub IsBefore : Atom → List (ℤ × Atom) → Type 0
IsBefore a [] = Unit {0}
IsBefore a (p ∷ ps) = precedes a p.1 ≡ true

abbrev pub AreOrdered : List (ℤ × Atom) → Type 0
AreOrdered [] = Unit {0}
AreOrdered (p ∷ ps) = IsBefore p.1 ps × AreOrdered ps

-- ---- numbers of 128 bits

abbrev pub is_held : ℤ → Bool
is_held z = not (int_lt z (neg_ℤ (pos (2 ^ 127)))) && int_lt z (pos (2 ^ 127))

abbrev pub are_held : Line → Bool
are_held l = list_all (λ p. is_held p.0) l.parts && is_held l.constant

-- ---- sums and multiples

abbrev pub is_zero : ℤ → Bool
is_zero (pos n) = nat_eq n 0
is_zero (negsuc n) = false

-- a part before others, left out where it is no multiple
abbrev pub with_part : ℤ → Atom → List (ℤ × Atom) → List (ℤ × Atom)
with_part c a ps = if is_zero c then ps else (c, a) ∷ ps

-- so many times each part
abbrev pub times : ℤ → List (ℤ × Atom) → List (ℤ × Atom)
times c [] = []
times c (p ∷ ps) = with_part (c *ℤ p.0) p.1 (times c ps)

-- a part and what `more` makes of the rest, with so many times the second list, both in order
abbrev pub merged_part : ℤ → (ℤ × Atom) → (List (ℤ × Atom) → List (ℤ × Atom)) → List (ℤ × Atom) → List (ℤ × Atom)
merged_part c p more [] = with_part p.0 p.1 (more [])
merged_part c p more (q ∷ qs) =
    if precedes p.1 q.1 then with_part p.0 p.1 (more (q ∷ qs))
    else (if precedes q.1 p.1 then with_part (c *ℤ q.0) q.1 (merged_part c p more qs)
    else with_part (p.0 +ℤ (c *ℤ q.0)) p.1 (more qs))

-- the first list and so many times the second
abbrev pub merged : ℤ → List (ℤ × Atom) → List (ℤ × Atom) → List (ℤ × Atom)
merged c [] qs = times c qs
merged c (p ∷ ps) qs = merged_part c p (λ rest. merged c ps rest) qs

-- `l + c * m`
abbrev pub combined : Line → ℤ → Line → Line
combined l c m = record { parts = merged c l.parts m.parts; constant = l.constant +ℤ (c *ℤ m.constant) }

abbrev pub scaled : ℤ → Line → Line
scaled c l = record { parts = times c l.parts; constant = c *ℤ l.constant }

abbrev pub has_no_parts : List (ℤ × Atom) → Bool
has_no_parts [] = true
has_no_parts (p ∷ ps) = false

abbrev pub is_constant : Line → Bool
is_constant l = has_no_parts l.parts

-- ---- what has 128 bits

abbrev pub held_number : ℤ → Option ℤ
held_number z = if is_held z then Some z else None

abbrev pub held_line : Line → Option Line
held_line l = if are_held l then Some l else None

abbrev pub are_held_parts : List (ℤ × Atom) → Bool
are_held_parts ps = list_all (λ p. is_held p.0) ps

abbrev pub held_parts : List (ℤ × Atom) → Option (List (ℤ × Atom))
held_parts ps = if are_held_parts ps then Some ps else None

abbrev pub sign_of : (minus : Bool) → ℤ
sign_of true = negsuc 0
sign_of false = pos 1

-- a sum of parts and a constant, where both are there
abbrev pub line_if : Option (List (ℤ × Atom)) → Option ℤ → Option Line
line_if None z = None
line_if (Some ps) None = None
line_if (Some ps) (Some z) = Some (record { parts = ps; constant = z })
