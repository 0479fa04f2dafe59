-- what a rule gives under the answers of a function
use Rattle.std.proofs.Common.{◌≡◌, None, refl}
use Rattle.sb_term.specs.declared.query.Query.{Query}
use Rattle.sb_term.specs.declared.answer.Answer.{Answer}
use Rattle.sb_term.specs.Answers.{IsLawful}
use Rattle.sb_term.specs.Asks.{Asks, Done, Ask, Always, ended, run}
use Rattle.sb_judge.specs.Walks.{answered}

-- what always holds of a rule's value holds of the value under lawful answers
pub answered_always : {A : Type 0} (answer : Query → Answer) → ((q : Query) → IsLawful q (answer q)) → (P : A → Type 0) (rule : Asks A) → Always P rule → P (answered answer rule)
answered_always answer lawful P (Done a) h = h
answered_always answer lawful P (Ask q more) h = answered_always answer lawful P (more (answer q)) (h (answer q) (lawful q))

-- the run over a decider that never stops and always answers alike
pub run_of_plain : {S A : Type 0} (answer : Query → Answer) (rule : Asks A) (s : S)
    → run {S = S} (λ t. None) (λ t q. answer q) (λ t q. t) rule s ≡ ended s (answered answer rule)
run_of_plain answer (Done a) s = refl
run_of_plain answer (Ask q more) s = run_of_plain answer (more (answer q)) s
