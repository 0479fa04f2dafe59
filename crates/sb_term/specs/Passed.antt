-- the queries in whose elimination a number passes a limit
use Rattle.std.specs.Prelude.{Bool, true, false, ◌&&◌, not, is_some, List, [], Option, Some, None, All, length}
use Rattle.std.specs.List.{list_all}
use Rattle.sb_term.specs.Linear.{IsTerm}
use Rattle.sb_term.specs.Ratio.{Ratio}
use Rattle.sb_term.specs.Refutes.{symbols_of, value_under}
use Rattle.sb_term.specs.Elimination.{Progress, going, proved, too_many_rows, too_many_digits, on_going, start, eliminate_all}
use Rattle.sb_term.specs.Bounds.{values, in_order}
use Rattle.sb_term.specs.declared.sym.Sym.{Sym}
use Rattle.sb_term.specs.declared.query.Query.{Query}

-- each row is a term
pub record AreTerms (q : Query) : Type 0 where
  pub facts : All (λ f. IsTerm f.term) q.facts
  pub goal : IsTerm q.goal.term

-- no limit is passed where the values are put into the facts and the goal
abbrev pub have_values : Query → List (Sym × Ratio) → Bool
have_values q a = list_all (λ f. is_some (value_under a f.term)) q.facts && is_some (value_under a q.goal.term)

abbrev pub passes_with : Query → Option (List (Sym × Ratio)) → Bool
passes_with q None = true
passes_with q (Some known) = not (have_values q (in_order known (symbols_of q)))

abbrev pub passes_from : Query → Progress → Bool
passes_from q (going st) = passes_with q (values st.asides [])
passes_from q (proved steps) = false
passes_from q too_many_rows = false
passes_from q too_many_digits = true

-- a limit is passed by a row that is formed, by the value of a symbol, or by that of a fact or the goal
abbrev pub passes_limit : Query → Bool
passes_limit q = passes_from q (on_going (start q) (λ st. eliminate_all (length (symbols_of q)) (symbols_of q) st))
