-- the report of a file, as the elimination answers
use Rattle.std.proofs.Common.{◌≡◌, None}
use Rattle.sb_term.specs.declared.query.Query.{Query}
use Rattle.sb_term.specs.declared.answer.Answer.{Answer}
use Rattle.sb_term.specs.Asks.{Asks, ended, run}
use Rattle.sb_judge.specs.Walks.{answered}
use Rattle.sb_judge.proofs.Soundness.Answered.{run_of_plain}

-- a run over a decider that never stops and always answers alike ends with what the rule gives under these answers
pub plain_value : {S A : Type 0} (answer : Query → Answer) (rule : Asks A) (s t : S) (value : A)
    → run {S = S} (λ u. None) (λ u q. answer q) (λ u q. u) rule s ≡ ended t value → value ≡ answered answer rule
plain_value answer rule s t value e = let plain = run_of_plain answer rule s in cc (e, plain)
