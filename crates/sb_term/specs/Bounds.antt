-- values for the eliminated symbols, in the reverse order of their elimination
use Rattle.std.specs.Prelude.{ℕ, ◌==◌, not, List, [], ◌∷◌, ◌++◌, map, filter, pos, negsuc, ◌*ℤ◌, Option, Some, unwrap_or, option_and_then}
use Rattle.sb_term.specs.Linear.{Linear, coefficient_of}
use Rattle.sb_term.specs.Ratio.{Ratio, whole, ratio_over, ratio_max, ratio_min}
use Rattle.sb_term.specs.Refutes.{value_in, value_under}
use Rattle.sb_term.specs.declared.sym.Sym.{Sym}
use Rattle.sb_term.specs.declared.numbered.Numbered.{Numbered}
use Rattle.sb_term.specs.declared.aside.Aside.{Aside}

abbrev pub zero_ratio : Ratio
zero_ratio = record { num = pos 0; den = 1 }

-- a term without the symbol s
abbrev pub dropping : ℕ → Linear → Linear
dropping s t = record { entries = filter (λ e. not (e.symbol == s)) t.entries; rest = t.rest }

-- the bound that a row sets to s, whose coefficient there is c: what the rest comes to, divided by -c
abbrev pub bound_by : ℕ → List (Sym × Ratio) → Numbered → Option Ratio
bound_by s a r = option_and_then (λ sum. ratio_over sum (negsuc 0 *ℤ coefficient_of s r.term.entries)) (value_under a (dropping s r.term))

-- the greatest and the least of a bound and those of rows
abbrev pub greatest_bound : ℕ → List (Sym × Ratio) → List Numbered → Ratio → Option Ratio
greatest_bound s a [] best = Some best
greatest_bound s a (r ∷ rs) best = option_and_then (λ b. greatest_bound s a rs (ratio_max best b)) (bound_by s a r)

abbrev pub least_bound : ℕ → List (Sym × Ratio) → List Numbered → Ratio → Option Ratio
least_bound s a [] best = Some best
least_bound s a (r ∷ rs) best = option_and_then (λ b. least_bound s a rs (ratio_min best b)) (bound_by s a r)

-- the greatest lower bound, else the least upper bound, else 0; none where a partial result passes a limit
abbrev pub value_between : ℕ → List (Sym × Ratio) → List Numbered → List Numbered → Option Ratio
value_between s a [] [] = whole (pos 0)
value_between s a [] (y ∷ ys) = option_and_then (least_bound s a ys) (bound_by s a y)
value_between s a (x ∷ xs) ys = option_and_then (greatest_bound s a xs) (bound_by s a x)

-- values for the symbols of rows set aside, the last set aside first, after those of the symbols left then
abbrev pub values : List Aside → List (Sym × Ratio) → Option (List (Sym × Ratio))
values [] a = Some a
values (x ∷ xs) a =
    option_and_then (λ v. values xs (a ++ (record { 0 = x.symbol }, v) ∷ [])) (value_between x.symbol a x.positive x.negative)

-- the values of symbols in the order of a list; each symbol has one
abbrev pub in_order : List (Sym × Ratio) → List ℕ → List (Sym × Ratio)
in_order a ss = map (λ s. (record { 0 = s }, unwrap_or (value_in a s) zero_ratio)) ss
