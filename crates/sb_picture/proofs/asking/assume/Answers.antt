use Rattle.std.proofs.lemmas.Result.{err_from_is_err_and}
use Rattle.sb_picture.specs.Asking.{where_held}
use Rattle.sb_picture.proofs.Steps.Assuming.{held-ends, held-stops, on_ok}
use Rattle.sb_picture.proofs.asking.assume.Goals as goal

pub returns-clause-rule : goal.returns-clause-rule
returns-clause-rule g c =
    held-ends c.assume_each.new.picture c.in_ok-holds.holds c.assume_each.new.judge _ c.where_held.result c.where_held.ensures.pictures c.where_held.ensures.err c.in_ok-holds.ensures.rule

pub returns-clause-stop : goal.returns-clause-stop
returns-clause-stop g c = on_ok c.where_held.result c.in_ok-holds.ensures.stop

pub returns-in_err-holds-clause-rule : goal.returns-in_err-holds-clause-rule
returns-in_err-holds-clause-rule g c =
    let p = err_from_is_err_and c.from_residual.result c.from_residual.ensures.1 in
    held-stops (where_held c.assume_each.new.picture) c.in_err-holds.field-0.0 p.0 c.assume_each.new.judge _ c.from_residual.result c.in_err-holds.ensures.rule p.1 p.2
