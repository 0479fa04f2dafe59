-- one turn of the walk over a list of statements, and the parts of a condition
use Rattle.std.proofs.Common.{◌≡◌, ℕ, ◌+◌, ◌<◌, List, [], ◌++◌, length, drop, get_or, map, Option, Result, Err, sym, ap, ◌∙◌, subst}
use Rattle.sb_term.specs.declared.query.Query.{Query}
use Rattle.sb_term.specs.declared.answer.Answer.{Answer}
use Rattle.sb_term.specs.declared.fault.DecideFault.{DecideFault}
use Rattle.sb_term.specs.Asks.{Asks, Done, after_it, Ended, ended, run}
use Rattle.sb_term.specs.AskLaws.{goes_on}
use Rattle.sb_function.specs.declared.syntax.Simple.{Simple}
use Rattle.sb_function.specs.declared.syntax.Comparison.{Comparison}
use Rattle.sb_function.specs.declared.syntax.Statement.{Statement}
use Rattle.sb_function.specs.Syntax.{Plain, Choose}
use Rattle.sb_picture.specs.declared.picture.Picture.{Picture}
use Rattle.sb_store.specs.declared.warning.Warning.{Warning}
use Rattle.sb_function.specs.Statements.{in_order}
use Rattle.sb_function.specs.Trees.{plain, plains}
use Rattle.sb_picture.specs.Tidying.{tidied}
use Rattle.sb_judge.specs.Splits.{Sides, sides, split_all}
use Rattle.sb_judge.specs.Walks.{Walked, walked, walk}
use Rattle.sb_picture.specs.Ends.{EndsWith}
use Rattle.sb_picture.proofs.Steps.Assuming.{left_at}
use Rattle.sb_picture.proofs.Steps.Exits.{Ends, from_with, to_with, stops, stops_with, goes_with}

abbrev under : Plain → List Warning → Sides → Asks Walked
under body ws s = after_it (walk body s.trues ws) (λ w. Done (walked w.warnings (map tidied w.pictures ++ s.falses)))

module _ {S : Type 0} (stop : S → Option DecideFault) (gives : S → Query → Answer) (after : S → Query → S) where
  pub walk-turn : (ss : List Statement) (i : ℕ) (s : Statement) (ps qs rs : List Picture) (ws more : List Warning) (u t : S)
      → i < length ss → s ≡ get_or ss i s → run stop gives after (walk (plain s) ps ws) u ≡ ended t (walked more qs) → rs ≡ map tidied qs
      → run stop gives after (walk (in_order (plains (drop (i + 1) ss))) rs more) t ≡ run stop gives after (walk (in_order (plains (drop i ss))) ps ws) u
  walk-turn ss i s ps qs rs ws more u t lt is done tidy =
      ap (λ p. run stop gives after (walk (in_order (plains (drop (i + 1) ss))) p more) t) tidy
      ∙ sym (ap (λ l. run stop gives after (walk (in_order (plains l)) ps ws) u) (left_at ss i s lt is)
      ∙ goes_on stop gives after (walk (plain s) ps ws) (λ w. walk (in_order (plains (drop (i + 1) ss))) (map tidied w.pictures) w.warnings) u t (walked more qs) done)

  pub walk-stops : {T U : Type 0} (seen : T → Walked) (shown : U → Walked) (ss : List Statement) (i : ℕ) (s : Statement) (ps : List Picture) (ws : List Warning) (u t : S)
      (fault y : DecideFault) (r : Result U DecideFault) (whole : Ended S Walked) → i < length ss → s ≡ get_or ss i s
      → EndsWith {A = T} (Err fault) seen t (run stop gives after (walk (plain s) ps ws) u)
      → run stop gives after (walk (in_order (plains (drop i ss))) ps ws) u ≡ whole → r ≡ Err y → y ≡ fault → EndsWith r shown t whole
  walk-stops {T} {U} seen shown ss i s ps ws u t fault y r whole lt is asked all result cause =
      let P : Ended S Walked → Type 0 = λ e. Ends fault t e in
      let turn = stops stop gives after (walk (plain s) ps ws) (λ w. walk (in_order (plains (drop (i + 1) ss))) (map tidied w.pictures) w.warnings) u t fault
      (from_with seen fault t (run stop gives after (walk (plain s) ps ws) u) asked) in
      let R : Result U DecideFault → Type 0 = λ x. EndsWith x shown t whole in
      subst R (sym (result ∙ ap Err cause))
      (to_with shown fault t whole (subst P (sym (ap (λ l. run stop gives after (walk (in_order (plains l)) ps ws) u) (left_at ss i s lt is)) ∙ all) turn))

  pub choose-ends : (left : Simple) (op : Comparison) (right : Simple) (body : Plain) (ps ts fs inner all : List Picture) (ws more : List Warning) (s t u : S)
      → run stop gives after (split_all left op right ps (sides [] [])) s ≡ ended t (sides ts fs) → run stop gives after (walk body ts ws) t ≡ ended u (walked more inner)
      → all ≡ map tidied inner ++ fs → run stop gives after (walk (Choose left op right body) ps ws) s ≡ ended u (walked more all)
  choose-ends left op right body ps ts fs inner all ws more s t u split done joins =
      goes_on stop gives after (split_all left op right ps (sides [] [])) (under body ws) s t (sides ts fs) split
      ∙ (goes_on stop gives after (walk body ts ws) (λ w. Done (walked w.warnings (map tidied w.pictures ++ fs))) t u (walked more inner) done
      ∙ ap (λ qs. ended u (walked more qs)) (sym joins))

  pub choose-stops_split : {T U : Type 0} (seen : T → Sides) (shown : U → Walked) (left : Simple) (op : Comparison) (right : Simple) (body : Plain) (ps : List Picture) (ws : List Warning) (s t : S)
      (fault y : DecideFault) (r : Result U DecideFault) → EndsWith {A = T} (Err fault) seen t (run stop gives after (split_all left op right ps (sides [] [])) s) → r ≡ Err y → y ≡ fault
      → EndsWith r shown t (run stop gives after (walk (Choose left op right body) ps ws) s)
  choose-stops_split seen shown left op right body ps ws s t fault y r asked result cause =
      stops_with stop gives after shown (split_all left op right ps (sides [] [])) (under body ws) s t fault y r
      (from_with seen fault t (run stop gives after (split_all left op right ps (sides [] [])) s) asked) result cause

  pub choose-stops_body : {T U : Type 0} (seen : T → Walked) (shown : U → Walked) (left : Simple) (op : Comparison) (right : Simple) (body : Plain) (ps ts fs : List Picture) (ws : List Warning) (s t u : S)
      (fault y : DecideFault) (r : Result U DecideFault) → run stop gives after (split_all left op right ps (sides [] [])) s ≡ ended t (sides ts fs)
      → EndsWith {A = T} (Err fault) seen u (run stop gives after (walk body ts ws) t) → r ≡ Err y → y ≡ fault
      → EndsWith r shown u (run stop gives after (walk (Choose left op right body) ps ws) s)
  choose-stops_body seen shown left op right body ps ts fs ws s t u fault y r split asked result cause =
      goes_with stop gives after shown (split_all left op right ps (sides [] [])) (under body ws) s t u (sides ts fs) r split
      (stops_with stop gives after shown (walk body ts ws) (λ w. Done (walked w.warnings (map tidied w.pictures ++ fs))) t u fault y r
      (from_with seen fault u (run stop gives after (walk body ts ws) t) asked) result cause)
