-- rows, queries, and when a query follows
use Rattle.std.specs.Prelude.{ℕ, List, [], ◌∷◌, ℤ, pos, negsuc, ◌+ℤ◌, ◌*ℤ◌, ◌≤ℤ◌}
use Rattle.sb_term.specs.Linear.{Linear, value, scaled_entries}
use Rattle.sb_term.specs.declared.row.Row.{Row}
use Rattle.sb_term.specs.declared.query.Query.{Query}

-- a row holds where its term is at least 0
abbrev pub Holds : (ℕ → ℤ) → Row → Type 0
Holds p r = pos 0 ≤ℤ value p r.term

abbrev pub AllHold : (ℕ → ℤ) → List Row → Type 0
AllHold p [] = Unit {0}
AllHold p (r ∷ rs) = Holds p r × AllHold p rs

-- no integer point makes all facts hold and the goal fail
abbrev pub Follows : Query → Type 0
Follows q = (p : ℕ → ℤ) → AllHold p q.facts → Holds p q.goal

-- the negation of `t >= 0` over integers is `-t - 1 >= 0`
abbrev pub negated : Linear → Linear
negated t = record { entries = scaled_entries (negsuc 0) t.entries; rest = (negsuc 0 *ℤ t.rest) +ℤ negsuc 0 }
