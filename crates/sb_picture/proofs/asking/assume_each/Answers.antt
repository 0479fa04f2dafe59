use Rattle.std.proofs.Common.{List, refl, ap, sym, ◌∙◌}
use Rattle.std.proofs.lemmas.Result.{err_from_is_err_and}
use Rattle.sb_term.specs.declared.row.Row.{Row}
use Rattle.sb_term.specs.Asks.{run}
use Rattle.sb_picture.specs.Asking.{ask, negation, where_held}
use Rattle.sb_picture.proofs.Steps.Assuming.{assume-turn, assume-excluded, assume-stops}
use Rattle.sb_picture.proofs.asking.assume_each.Goals as goal

pub loop-condition-preserved : goal.loop-condition-preserved
loop-condition-preserved g c =
    let r = c.in_ok-excluded.ensures.rule in
    let asked = ap (λ (facts : List Row). run g.V.Decide.stop g.V.Decide.gives g.V.Decide.after (ask facts (negation c.condition-item.result)) c.loop-condition.judge) (sym c.as_slice.ensures) ∙ r.1 in
    let turn = assume-turn g.V.Decide.stop g.V.Decide.gives g.V.Decide.after c.args.conditions.now c.loop-condition.condition-index c.condition-item.result (negation c.condition-item.result)
    c.loop-condition.picture c.add_condition.new.facts c.loop-condition.judge c.excludes.new.judge r.0
    c.loop-condition-test.true c.condition-item.is refl asked (r.2 ∙ c.if-excluded.false) c.in_ok-add_condition.ensures in
    (c.in_ok-excluded.ensures.stop, turn ∙ c.loop-condition.invariant.1)

pub returns-then-excluded-clause-rule : goal.returns-then-excluded-clause-rule
returns-then-excluded-clause-rule g c =
    let r = c.in_ok-excluded.ensures.rule in
    let asked = ap (λ (facts : List Row). run g.V.Decide.stop g.V.Decide.gives g.V.Decide.after (ask facts (negation c.condition-item.result)) c.loop-condition.judge) (sym c.as_slice.ensures) ∙ r.1 in
    sym c.loop-condition.invariant.1
    ∙ assume-excluded g.V.Decide.stop g.V.Decide.gives g.V.Decide.after c.args.conditions.now c.loop-condition.condition-index c.condition-item.result c.loop-condition.picture
    c.loop-condition.judge c.excludes.new.judge r.0 c.loop-condition-test.true c.condition-item.is asked (r.2 ∙ c.if-excluded.true)

pub returns-in_err-excluded-clause-rule : goal.returns-in_err-excluded-clause-rule
returns-in_err-excluded-clause-rule g c =
    let p = err_from_is_err_and c.from_residual.result c.from_residual.ensures.1 in
    assume-stops g.V.Decide.stop g.V.Decide.gives g.V.Decide.after (where_held c.loop-condition.picture) c.args.conditions.now c.loop-condition.condition-index c.condition-item.result
    c.loop-condition.picture c.as_slice.result.now c.loop-condition.judge c.excludes.new.judge c.in_err-excluded.field-0.0 p.0 c.from_residual.result _
    c.loop-condition-test.true c.condition-item.is c.as_slice.ensures c.in_err-excluded.ensures.rule c.loop-condition.invariant.1 p.1 p.2
