use Rattle.std.proofs.lemmas.Result.{err_from_is_err_and}
use Rattle.sb_store.specs.Stores.{reached}
use Rattle.sb_store.proofs.Steps.Reaching.{same-stop}
use Rattle.sb_store.proofs.stores.reaching_with.Goals as goal

pub returns-in_err-reaches-clause-rule : goal.returns-in_err-reaches-clause-rule
returns-in_err-reaches-clause-rule g c =
    let p = err_from_is_err_and c.from_residual.result c.from_residual.ensures.1 in
    same-stop g.V.Decide.stop g.V.Decide.gives g.V.Decide.after (reached c.reaching.new.report) (λ x. reached c.reaching.new.report x.0) c.reaching.new.judge _
    c.in_err-reaches.field-0.0 p.0 c.from_residual.result c.in_err-reaches.ensures.rule p.1 p.2
