-- the rules of statements, and the whole rule of a function
use Rattle.std.specs.Prelude.{ℕ, List, [], ◌∷◌, ◌++◌, map}
use Rattle.sb_base.specs.declared.refusals.Place.{Place}
use Rattle.sb_term.specs.declared.query.Query.{Query}
use Rattle.sb_term.specs.declared.answer.Answer.{Answer}
use Rattle.sb_term.specs.Asks.{Asks, Done, Ask, after_it}
use Rattle.sb_function.specs.declared.syntax.Simple.{Simple}
use Rattle.sb_function.specs.declared.syntax.Param.{Param}
use Rattle.sb_picture.specs.declared.picture.Picture.{Picture}
use Rattle.sb_store.specs.declared.warning.Warning.{Warning}
use Rattle.sb_function.specs.Syntax.{Plain, Skip, Then, Store, Choose, FunctionTree}
use Rattle.sb_store.specs.Stores.{store_rule}
use Rattle.sb_judge.specs.Splits.{split_all}
use Rattle.sb_picture.specs.Tidying.{tidied}
use Rattle.sb_judge.specs.Entry.{enter}

-- pictures and the warnings so far
pub record Walked : Type 0 where
  pub pictures : List Picture
  pub warnings : List Warning

abbrev pub walked : List Warning → List Picture → Walked
walked ws ps = record { pictures = ps; warnings = ws }

-- a store in each picture in turn
abbrev pub store_all : ℕ → Simple → Simple → Place → List Picture → Walked → Asks Walked
store_all array index value place [] out = Done out
store_all array index value place (p ∷ ps) out =
    after_it (store_rule array index value place p out.warnings) (λ j.
    store_all array index value place ps (record { pictures = out.pictures ++ j.picture ∷ []; warnings = j.warnings }))

-- after each statement each picture is tidied
abbrev pub all_tidied : Walked → Walked
all_tidied w = record { pictures = map tidied w.pictures; warnings = w.warnings }

-- a condition splits all pictures; the statement under it is walked in those where it is true, and then the others follow
abbrev pub walk : Plain → List Picture → List Warning → Asks Walked
walk Skip ps ws = Done (record { pictures = ps; warnings = ws })
walk (Then first rest) ps ws = after_it (walk first ps ws) (λ w. walk rest (map tidied w.pictures) w.warnings)
walk (Store array index value place) ps ws = store_all array index value place ps (record { pictures = []; warnings = ws })
walk (Choose left op right body) ps ws =
    after_it (split_all left op right ps (record { trues = []; falses = [] })) (λ s.
    after_it (walk body s.trues ws) (λ w.
    Done (record { pictures = map tidied w.pictures ++ s.falses; warnings = w.warnings })))

-- the warnings of a function
abbrev pub function_rule : List Param → Plain → Asks (List Warning)
function_rule params body = after_it (enter params) (λ ps. after_it (walk body ps []) (λ w. Done w.warnings))

-- what a rule gives where each question gets the answer of a function
abbrev pub answered : {A : Type 0} → (Query → Answer) → Asks A → A
answered answer (Done a) = a
answered answer (Ask q more) = answered answer (more (answer q))

-- the report of a set: the warnings of each function, in the order of the text
abbrev pub report : (Query → Answer) → List FunctionTree → List (List Warning)
report answer [] = []
report answer (f ∷ fs) = answered answer (function_rule f.params f.body) ∷ report answer fs
