use Rattle.std.proofs.Common.{rules, ◌≡◌, ◌↔◌, true, Result, Ok, Err, IfOk, sym, ◌∙◌}
use Rattle.sb_term.specs.declared.query.Query.{Query}
use Rattle.sb_term.specs.declared.answer.Answer.{Answer}
use Rattle.sb_term.specs.declared.answer.Answer.TheVariants.{LimitDigits}
use Rattle.sb_term.specs.AnswerOf.{answer_of}
use Rattle.sb_term.specs.Passed.{AreTerms, passes_limit}
use Rattle.sb_term.proofs.Backward.Refuting.{limit_digits}
use Rattle.sb_elim.proofs.answer.answer.Goals as goal

limit_of : {E : Type 0} (q : Query) (r : Result Answer E) → AreTerms q → IfOk r (λ x. x ≡ answer_of q) → IfOk r (λ x. (x ≡ LimitDigits) ↔ (passes_limit q ≡ true))
limit_of q (Ok x) terms e = let l = limit_digits q terms in (λ is. l.0 (sym e ∙ is), λ p. e ∙ l.1 p)
limit_of q (Err x) terms e = tt

pub returns-clause-limit : goal.returns-clause-limit
returns-clause-limit c =
    let q = c.args.query.now in
    let value : IfOk c.answer_from.result (λ x. x ≡ answer_of q) = search rules in
    limit_of q c.answer_from.result c.in_ok-symbols.ensures.terms value
