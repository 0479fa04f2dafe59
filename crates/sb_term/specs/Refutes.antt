-- the symbols of a query, the value of a row under given rationals, and when an assignment refutes a query
use Rattle.std.specs.Prelude.{◌≡◌, ℕ, nat_lt, ◌==◌, List, [], ◌∷◌, map, All, pos, negsuc, if◌then◌else◌, Option, Some, find, option_map, option_and_then}
use Rattle.std.specs.Option.{IsSomeAnd}
use Rattle.sb_term.specs.declared.entry.Entry.{Entry}
use Rattle.sb_term.specs.declared.sym.Sym.{Sym}
use Rattle.sb_term.specs.declared.row.Row.{Row}
use Rattle.sb_term.specs.declared.query.Query.{Query}
use Rattle.sb_term.specs.Linear.{Linear}
use Rattle.sb_term.specs.Ratio.{Ratio, whole, ratio_add, ratio_times, IsAtMost}

-- a symbol among others in rising number, each once
abbrev pub with_symbol : ℕ → List ℕ → List ℕ
with_symbol s [] = s ∷ []
with_symbol s (x ∷ xs) = if nat_lt s x then s ∷ (x ∷ xs) else (if nat_lt x s then x ∷ with_symbol s xs else x ∷ xs)

abbrev pub with_symbols : List Entry → List ℕ → List ℕ
with_symbols [] xs = xs
with_symbols (e ∷ es) xs = with_symbols es (with_symbol e.symbol xs)

abbrev pub with_rows : List Row → List ℕ → List ℕ
with_rows [] xs = xs
with_rows (r ∷ rs) xs = with_rows rs (with_symbols r.term.entries xs)

-- the symbols of the facts and of the goal, in rising number
abbrev pub symbols_of : Query → List ℕ
symbols_of q = with_symbols q.goal.term.entries (with_rows q.facts [])

-- the rational that stands beside a symbol
abbrev pub value_in : List (Sym × Ratio) → ℕ → Option Ratio
value_in a s = option_map (λ x. x.1) (find (λ x. x.0.0 == s) a)

-- a coefficient times the rational of its symbol
abbrev pub product_of : List (Sym × Ratio) → Entry → Option Ratio
product_of a e = option_and_then (ratio_times e.coefficient) (value_in a e.symbol)

-- a rational plus the products one after another; none where a product or a sum passes a limit
abbrev pub products_onto : List (Sym × Ratio) → Ratio → List Entry → Option Ratio
products_onto a r [] = Some r
products_onto a r (e ∷ es) = option_and_then (λ sum. products_onto a sum es) (option_and_then (ratio_add r) (product_of a e))

-- the value of a term: the constant plus the products in rising symbol number
abbrev pub value_under : List (Sym × Ratio) → Linear → Option Ratio
value_under a t = option_and_then (λ r. products_onto a r t.entries) (whole t.rest)

-- a lists exactly the symbols of the query, each fact is at least 0 there and the goal at most -1
pub record Refutes (q : Query) (a : List (Sym × Ratio)) : Type 0 where
  pub symbols : map (λ x. x.0.0) a ≡ symbols_of q
  pub facts : All (λ f. IsSomeAnd (value_under a f.term) (IsAtMost (record { num = pos 0; den = 1 }))) q.facts
  pub goal : IsSomeAnd (value_under a q.goal.term) (λ v. IsAtMost v (record { num = negsuc 0; den = 1 }))
