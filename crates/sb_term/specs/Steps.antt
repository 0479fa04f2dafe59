-- when steps prove a query
use Rattle.std.specs.Prelude.{◌≡◌, ◌≢◌, ℕ, ◌+◌, ◌^◌, ◌<◌, true, length, List, [], ◌∷◌, ◌++◌, map, All, pos, unwrap_or, slice_get, int_lt}
use Rattle.std.specs.Option.{IsSomeAnd}
use Rattle.sb_term.specs.Linear.{Linear, constant, combined, is_within}
use Rattle.sb_term.specs.Rows.{negated}
use Rattle.sb_term.specs.declared.steps.Step.{Step}
use Rattle.sb_term.specs.declared.query.Query.{Query}

-- the rows from which the steps go out: the facts, then the negated goal
abbrev pub first_rows : Query → List Linear
first_rows q = map (λ f. f.term) q.facts ++ negated q.goal.term ∷ []

-- the row of a number, and that which a step forms: a times row i plus b times row j
abbrev pub row_at : List Linear → ℕ → Linear
row_at rows n = unwrap_or (slice_get rows n) (constant (pos 0))

abbrev pub row_of : List Linear → Step → Linear
row_of rows s = combined (pos s.a) (row_at rows s.i) (pos s.b) (row_at rows s.j) (pos 0)

-- a step over rows that stand: its factors are positive and below 2^40, and the row is within the limits of terms
pub record IsStep (rows : List Linear) (s : Step) : Type 0 where
  pub a_positive : 0 < s.a
  pub a_narrow : s.a < 2 ^ 40
  pub b_positive : 0 < s.b
  pub b_narrow : s.b < 2 ^ 40
  pub i_stands : s.i < length rows
  pub j_stands : s.j < length rows
  pub within : is_within (row_of rows s) ≡ true

-- all rows once the steps are formed one after another, and that each is a step over the rows before it
abbrev pub rows_after : List Linear → List Step → List Linear
rows_after rows [] = rows
rows_after rows (s ∷ ss) = rows_after (rows ++ row_of rows s ∷ []) ss

abbrev pub AreSteps : List Linear → List Step → Type 0
AreSteps rows [] = Unit {0}
AreSteps rows (s ∷ ss) = IsStep rows s × AreSteps (rows ++ row_of rows s ∷ []) ss

-- a row that holds nowhere: without symbols, its constant below 0
pub record IsAbsurd (t : Linear) : Type 0 where
  pub bare : t.entries ≡ []
  pub below : int_lt t.rest (pos 0) ≡ true

-- the negated goal is within the limits of terms, and one step or more end in a row that holds nowhere
pub record Proves (q : Query) (steps : List Step) : Type 0 where
  pub goal : is_within (negated q.goal.term) ≡ true
  pub some : steps ≢ []
  pub each : AreSteps (first_rows q) steps
  pub end : IsSomeAnd (slice_get (rows_after (first_rows q) steps) (length q.facts + length steps)) IsAbsurd

-- each row from which the steps go out has a symbol
pub record HaveSymbols (q : Query) : Type 0 where
  pub rows : All (λ t. t.entries ≢ []) (first_rows q)

-- the same over the steps with the newest first
abbrev pub rows_of : List Linear → List Step → List Linear
rows_of base [] = base
rows_of base (s ∷ ss) = rows_of base ss ++ row_of (rows_of base ss) s ∷ []

abbrev pub AreChecked : List Linear → List Step → Type 0
AreChecked base [] = Unit {0}
AreChecked base (s ∷ ss) = IsStep (rows_of base ss) s × AreChecked base ss
