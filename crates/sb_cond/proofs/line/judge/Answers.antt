use Rattle.std.proofs.Common.{ap, sym, ◌∙◌, ◌-◌, length, unwrap_or, Err}
use Rattle.sb_cond.specs.Condition.{judged}
use Rattle.sb_cond.proofs.Judging.{judged_ok, judged_err}
use Rattle.sb_cond.proofs.Stops.{fault_in_number}
use Rattle.sb_cond.proofs.line.judge.Goals as goal

pub returns-in-Ok-clause-holds : goal.returns-in-Ok-clause-holds
returns-in-Ok-clause-holds c = judged_ok c.args.tokens.now c.truth_of.result (c.truth_of.ensures.truth ∙ ap (judged (length c.args.tokens.now)) (sym c.in-Ok.ensures.read))

pub returns-in-Ok-clause-refused : goal.returns-in-Ok-clause-refused
returns-in-Ok-clause-refused c = judged_err c.args.tokens.now c.truth_of.result (c.truth_of.ensures.truth ∙ ap (judged (length c.args.tokens.now)) (sym c.in-Ok.ensures.read))

pub returns-in-Err-clause-refused : goal.returns-in-Err-clause-refused
returns-in-Err-clause-refused c =
    let count = length c.args.tokens.now in
    let place = ap (λ f. unwrap_or f (count - c.in-Err.stop.left)) (sym (fault_in_number c.in-Err.stop.fault)) in
    judged_err c.args.tokens.now (Err c.refusal_at.result) (ap Err (c.refusal_at.ensures.at ∙ place) ∙ ap (judged count) (sym c.in-Err.ensures.read))
