-- how a question is put: the facts that are connected with the goal, and then the goal
use Rattle.std.specs.Prelude.{ℕ, zero, suc, Bool, true, false, List, [], ◌∷◌, ◌++◌, length, pos, negsuc, nat_eq, int_le, Option, Some, None, if◌then◌else◌}
use Rattle.std.specs.List.{list_any, filter}
use Rattle.sb_term.specs.declared.entry.Entry.{Entry}
use Rattle.sb_term.specs.declared.row.Row.{Row}
use Rattle.sb_term.specs.declared.query.Query.{Query}
use Rattle.sb_term.specs.declared.answer.Answer.{Answer}
use Rattle.sb_term.specs.declared.answer.Answer.TheVariants.{Proved, Refuted, LimitRows, LimitDigits}
use Rattle.sb_term.specs.Linear.{Linear, constant, formed}
use Rattle.sb_term.specs.Rows.{negated}
use Rattle.sb_term.specs.Asks.{Asks, Done, Ask, after_it}
use Rattle.sb_picture.specs.declared.picture.Picture.{Picture}
use Rattle.sb_picture.specs.Pictures.{has_symbol, with_fact}

-- symbols, each once, in the order in which they were met
abbrev pub with_met : List ℕ → ℕ → List ℕ
with_met ss s = if list_any (nat_eq s) ss then ss else ss ++ s ∷ []

abbrev pub with_all_met : List ℕ → List Entry → List ℕ
with_all_met ss [] = ss
with_all_met ss (e ∷ es) = with_all_met (with_met ss e.symbol) es

abbrev pub names_one : List ℕ → Entry → Bool
names_one ss e = list_any (nat_eq e.symbol) ss

-- a row shares a symbol with a list
abbrev pub touches : List ℕ → Row → Bool
touches ss r = list_any (names_one ss) r.term.entries

-- one pass over the facts: each that shares a symbol with the list brings its own
abbrev pub spread : List ℕ → List Row → List ℕ
spread ss [] = ss
spread ss (r ∷ rs) = spread (if touches ss r then with_all_met ss r.term.entries else ss) rs

-- passes until one brings nothing new; as many as there are facts are enough
abbrev pub closed : ℕ → List Row → List ℕ → List ℕ
closed zero facts ss = ss
closed (suc n) facts ss = if nat_eq (length (spread ss facts)) (length ss) then ss else closed n facts (spread ss facts)

-- the facts that share a symbol with the goal or with a fact that does, in their order
abbrev pub connected : List Row → Linear → List Row
connected facts t = filter (touches (closed (length facts) facts (with_all_met [] t.entries))) facts

abbrev pub query_of : List Row → Linear → Query
query_of facts t = record { facts = connected facts t; goal = record { term = t } }

-- a goal without symbols is decided by its constant
abbrev pub decided : Linear → Answer
decided t = if int_le (pos 0) t.rest then Proved (record { list = [] }) else Refuted (record { list = [] })

-- what can never be: `-1 >= 0`
abbrev pub never : Linear
never = constant (negsuc 0)

abbrev pub ask_term : List Row → Linear → Asks (Query × Answer)
ask_term facts t = if has_symbol t then Ask (query_of facts t) (λ x. Done (query_of facts t, x)) else Done (record { facts = []; goal = record { term = t } }, decided t)

-- a goal past the limits is not asked
abbrev pub ask : List Row → Option Linear → Asks (Query × Answer)
ask facts None = Done (record { facts = []; goal = record { term = never } }, LimitDigits)
ask facts (Some t) = ask_term facts t

abbrev pub is_proved : Answer → Bool
is_proved (Proved steps) = true
is_proved (Refuted a) = false
is_proved LimitRows = false
is_proved LimitDigits = false

-- a condition is assumed by asking for its negation: where that is proved the picture is dropped, else the fact goes last
abbrev pub negation : Option Linear → Option Linear
negation None = None
negation (Some t) = formed (negated t)

abbrev pub given : Picture → Option Linear → Picture
given p c = record { values = p.values; facts = with_fact p.facts c; labels = p.labels; regions = p.regions; cells = p.cells }

abbrev pub assume : List (Option Linear) → Picture → Asks (List Picture)
assume [] p = Done (p ∷ [])
assume (c ∷ cs) p = after_it (ask p.facts (negation c)) (λ x. if is_proved x.1 then Done [] else assume cs (given p c))

-- a picture, if its conditions hold
abbrev pub where_held : Picture → Bool → List Picture
where_held p true = p ∷ []
where_held p false = []
