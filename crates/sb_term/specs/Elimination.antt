-- the elimination of symbols from rows of linear terms, with the steps that it takes
use Rattle.std.specs.Prelude.{ℕ, zero, suc, ◌+◌, ◌*◌, ◌/◌, ◌^◌, Bool, ◌&&◌, ◌||◌, ◌==◌, not, List, [], ◌∷◌, ◌++◌, pos, int_lt, nat_lt, nat_le, unsigned_abs, if◌then◌else◌, Option, Some, None, length, slice_index_or, slice_set, position, filter, count_by}
use Rattle.sb_term.specs.Linear.{Linear, combined, formed, coefficient_of, is_same_list}
use Rattle.sb_term.specs.Ratio.{gcd}
use Rattle.sb_term.specs.Rows.{negated}
use Rattle.sb_term.specs.declared.entry.Entry.{Entry}
use Rattle.sb_term.specs.declared.row.Row.{Row}
use Rattle.sb_term.specs.declared.steps.Step.{Step}
use Rattle.sb_term.specs.declared.query.Query.{Query}
use Rattle.sb_term.specs.declared.numbered.Numbered.{Numbered}
use Rattle.sb_term.specs.declared.aside.Aside.{Aside}

-- how many rows the query gives, the rows that stand, and the newest first: the steps taken, the rows set aside
pub record State : Type 0 where
  pub base : ℕ
  pub rows : List Numbered
  pub steps : List Step
  pub asides : List Aside

-- whether there is more to do; a row without symbols whose constant is below 0 ends it, with the steps to that row
pub data Progress : Type 0 where
  going : State → Progress
  proved : List Step → Progress
  too_many_rows : Progress
  too_many_digits : Progress

abbrev pub on_going : Progress → (State → Progress) → Progress
on_going (going st) next = next st
on_going (proved steps) next = proved steps
on_going too_many_rows next = too_many_rows
on_going too_many_digits next = too_many_digits

-- of two rows with equal coefficients the one with the lesser constant, at equality the one that stands
abbrev pub tighter : Numbered → Numbered → Numbered
tighter standing new = if int_lt new.term.rest standing.term.rest then new else standing

abbrev pub put_at : Option ℕ → Numbered → List Numbered → List Numbered
put_at None r rs = rs ++ r ∷ []
put_at (Some k) r rs = slice_set rs k (tighter (slice_index_or rs k r) r)

-- a row in the position of one with equal coefficients, or last
abbrev pub put : Numbered → List Numbered → List Numbered
put r rs = put_at (position (λ o. is_same_list o.term.entries r.term.entries) rs) r rs

-- at most 2,048 rows stand
abbrev pub standing : List Numbered → State → Progress
standing rs st = if nat_le (length rs) 2048 then going (record st { rows = rs }) else too_many_rows

abbrev pub placed : List Entry → Numbered → State → Progress
placed [] r st = if int_lt r.term.rest (pos 0) then proved st.steps else going st
placed (e ∷ es) r st = standing (put r st.rows) st

abbrev pub place : Numbered → State → Progress
place r st = placed r.term.entries r st

-- the facts in order, numbered from k
abbrev pub place_facts : ℕ → List Row → State → Progress
place_facts k [] st = going st
place_facts k (r ∷ rs) st = on_going (place (record { number = k; term = r.term }) st) (λ next. place_facts (k + 1) rs next)

abbrev pub place_formed : Option Linear → ℕ → State → Progress
place_formed None k st = too_many_digits
place_formed (Some t) k st = place (record { number = k; term = t }) st

abbrev pub empty : ℕ → State
empty base = record { base = base; rows = []; steps = []; asides = [] }

-- the facts and then the negated goal
abbrev pub start : Query → Progress
start q = on_going (place_facts 0 q.facts (empty (length q.facts + 1))) (λ st. place_formed (formed (negated q.goal.term)) (length q.facts) st)

abbrev pub size_in : ℕ → Numbered → ℕ
size_in s r = unsigned_abs (coefficient_of s r.term.entries)

abbrev pub are_factors : ℕ → ℕ → Bool
are_factors a b = nat_lt a (2 ^ 40) && nat_lt b (2 ^ 40)

abbrev pub with_step : Step → State → State
with_step s st = record st { steps = s ∷ st.steps }

-- a times x plus b times y, as the next step. Of terms no factor reaches 2^40.
abbrev pub take_step : ℕ → Numbered → ℕ → Numbered → State → Progress
take_step a x b y st =
    if are_factors a b then place_formed (formed (combined (pos a) x.term (pos b) y.term (pos 0))) (st.base + length st.steps) (with_step (record { a = a; i = x.number; b = b; j = y.number }) st)
    else too_many_digits

-- where s has coefficient a in x and -b in y: b/g times x plus a/g times y, g the greatest common divisor of a and b
abbrev pub combine : ℕ → Numbered → Numbered → State → Progress
combine s x y st = let a = size_in s x in let b = size_in s y in take_step (b / gcd a b) x (a / gcd a b) y st

abbrev pub combine_each : ℕ → Numbered → List Numbered → State → Progress
combine_each s x [] st = going st
combine_each s x (y ∷ ys) st = on_going (combine s x y st) (λ next. combine_each s x ys next)

-- each positive row in order, and in it each negative one
abbrev pub combine_all : ℕ → List Numbered → List Numbered → State → Progress
combine_all s [] ys st = going st
combine_all s (x ∷ xs) ys st = on_going (combine_each s x ys st) (λ next. combine_all s xs ys next)

abbrev pub is_positive : ℕ → Numbered → Bool
is_positive s r = int_lt (pos 0) (coefficient_of s r.term.entries)

abbrev pub is_negative : ℕ → Numbered → Bool
is_negative s r = int_lt (coefficient_of s r.term.entries) (pos 0)

abbrev pub is_without : ℕ → Numbered → Bool
is_without s r = not (is_positive s r || is_negative s r)

abbrev pub aside_for : ℕ → List Numbered → Aside
aside_for s rs = record { symbol = s; positive = filter (is_positive s) rs; negative = filter (is_negative s) rs }

abbrev pub with_aside : Aside → State → State
with_aside a st = record st { asides = a ∷ st.asides }

-- all rows with s are set aside; the others stay in order, and the rows that are formed come after them
abbrev pub eliminate : ℕ → State → Progress
eliminate s st =
    let a = aside_for s st.rows in
    on_going (combine_all s a.positive a.negative (record st { rows = filter (is_without s) st.rows })) (λ next. going (with_aside a next))

-- how many rows an elimination of s forms
abbrev pub product : ℕ → List Numbered → ℕ
product s rs = count_by (is_positive s) rs * count_by (is_negative s) rs

-- the symbol with the least product, s or one of the list; at a tie the first
abbrev pub cheapest : List Numbered → ℕ → List ℕ → ℕ
cheapest rs s [] = s
cheapest rs s (t ∷ ts) = cheapest rs (if nat_lt (product t rs) (product s rs) then t else s) ts

abbrev pub without : ℕ → List ℕ → List ℕ
without s ts = filter (λ t. not (t == s)) ts

-- symbol after symbol, at most n of them: the list of those that are left is in rising number
abbrev pub eliminate_all : ℕ → List ℕ → State → Progress
eliminate_all zero left st = going st
eliminate_all (suc n) [] st = going st
eliminate_all (suc n) (s ∷ ss) st =
    let best = cheapest st.rows s ss in on_going (eliminate best st) (λ next. eliminate_all n (without best (s ∷ ss)) next)
