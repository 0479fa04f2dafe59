-- the rule of entry is that of its conditions
use Rattle.std.proofs.Common.{◌≡◌, List, Option, Result, ap, ◌∙◌, subst}
use Rattle.sb_term.specs.declared.query.Query.{Query}
use Rattle.sb_term.specs.declared.answer.Answer.{Answer}
use Rattle.sb_term.specs.declared.fault.DecideFault.{DecideFault}
use Rattle.sb_term.specs.Linear.{Linear}
use Rattle.sb_term.specs.Asks.{Ended, run, EndsAs}
use Rattle.sb_function.specs.declared.syntax.Param.{Param}
use Rattle.sb_picture.specs.declared.picture.Picture.{Picture}
use Rattle.sb_picture.specs.Asking.{assume}
use Rattle.sb_judge.specs.Entry.{clauses, entered, enter}

module _ {S : Type 0} (stop : S → Option DecideFault) (gives : S → Query → Answer) (after : S → Query → S) where
  pub enters : (params : List Param) (conditions : List (Option Linear)) (p : Picture) (s t : S) (r : Result (List Picture) DecideFault)
      → conditions ≡ clauses params p → p ≡ entered params → EndsAs r t (run stop gives after (assume conditions p) s) → EndsAs r t (run stop gives after (enter params) s)
  enters params conditions p s t r are is left =
      let P : Ended S (List Picture) → Type 0 = λ e. EndsAs r t e in
      subst P (ap (λ cs. run stop gives after (assume cs p) s) are ∙ ap (λ q. run stop gives after (assume (clauses params q) q) s) is) left
