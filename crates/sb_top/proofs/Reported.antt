-- a report without a warning: the set is safe
use Rattle.std.proofs.Common.{◌≡◌, ℕ, ◌+◌, List, [], ◌∷◌, length, refl, arith}
use Rattle.sb_term.specs.declared.query.Query.{Query}
use Rattle.sb_term.specs.declared.answer.Answer.{Answer}
use Rattle.sb_term.specs.Answers.{IsLawful}
use Rattle.sb_function.specs.Syntax.{FunctionTree}
use Rattle.sb_picture.specs.Contract.{Safe, AreSafe}
use Rattle.sb_store.specs.declared.warning.Warning.{Warning}
use Rattle.sb_judge.specs.Walks.{answered, function_rule, report}
use Rattle.sb_judge.proofs.Soundness.Answered.{answered_always}
use Rattle.sb_judge.proofs.Soundness.Sound.{functions_are_safe}
use Rattle.sb_top.specs.Texts.{count_of}

none_of : (ws : List Warning) (n : ℕ) → length ws + n ≡ 0 → ws ≡ []
none_of [] n e = refl
none_of (w ∷ ws) n e = absurd (omega (arith, e))

pub report_is_safe : (answer : Query → Answer) → ((q : Query) → IsLawful q (answer q)) → (fs : List FunctionTree) → count_of (report answer fs) ≡ 0 → AreSafe fs
report_is_safe answer lawful [] e = tt
report_is_safe answer lawful (f ∷ fs) e = (
  answered_always answer lawful (λ ws. ws ≡ [] → Safe f) (function_rule f.params f.body) (functions_are_safe f)
      (none_of (answered answer (function_rule f.params f.body)) (count_of (report answer fs)) e),
  report_is_safe answer lawful fs (omega (arith, e)),
)
