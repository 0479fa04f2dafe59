use Rattle.std.proofs.lemmas.Result.{err_from_is_err_and}
use Rattle.sb_store.specs.Stores.{judged}
use Rattle.sb_store.proofs.Steps.Reaching.{same-stop}
use Rattle.sb_store.proofs.stores.store.Goals as goal

pub returns-clause-rule : goal.returns-clause-rule
returns-clause-rule g c = c.in_ok-store_on.ensures.rule

pub returns-in_err-store_on-clause-rule : goal.returns-in_err-store_on-clause-rule
returns-in_err-store_on-clause-rule g c =
    let p = err_from_is_err_and c.from_residual.result c.from_residual.ensures.1 in
    same-stop g.V.Decide.stop g.V.Decide.gives g.V.Decide.after (λ _. judged c.store_on.new.report c.store_on.new.picture) _ c.store_on.new.judge _
    c.in_err-store_on.field-0.0 p.0 c.from_residual.result c.in_err-store_on.ensures.rule p.1 p.2
