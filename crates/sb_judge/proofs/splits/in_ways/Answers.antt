use Rattle.std.proofs.Common.{◌∙◌, sym, ap, drop, ◌+◌, List}
use Rattle.sb_term.specs.Asks.{run, each_onto}
use Rattle.sb_term.specs.AskLaws.{each_goes_on}
use Rattle.sb_picture.specs.Asking.{assume}
use Rattle.sb_picture.specs.declared.picture.Picture.{Picture}
use Rattle.std.proofs.lemmas.Result.{err_from_is_err_and}
use Rattle.sb_judge.proofs.Steps.Exits.{in_ways-stops}
use Rattle.sb_judge.proofs.splits.in_ways.Goals as goal

pub loop-way-preserved : goal.loop-way-preserved
loop-way-preserved g c =
    let asked = ap (λ f. run g.V.Decide.stop g.V.Decide.gives g.V.Decide.after (assume c.way-item.result f) c.loop-way.judge) (sym c.in_ok-from.ensures)
    ∙ (ap (λ w. run g.V.Decide.stop g.V.Decide.gives g.V.Decide.after (assume w c.in_ok-from.from) c.loop-way.judge) (sym c.as_slice.ensures) ∙ c.in_ok-more.ensures.rule) in
    let turn = each_goes_on g.V.Decide.stop g.V.Decide.gives g.V.Decide.after c.loop-way.pictures c.args.ways.now c.loop-way.way-index c.way-item.result (λ w. assume w c.args.picture.now)
    c.loop-way.judge c.assume.new.judge c.in_ok-more.more c.loop-way-test.true (sym c.way-item.is) asked in (
      c.in_ok-more.ensures.stop,
      ap (λ (out : List Picture). run g.V.Decide.stop g.V.Decide.gives g.V.Decide.after (each_onto out (drop (c.loop-way.way-index + 1) c.args.ways.now) (λ w. assume w c.args.picture.now)) c.assume.new.judge) c.in_ok-append.ensures
          ∙ (sym turn ∙ c.loop-way.invariant.1),
    )

pub returns-in_err-more-clause-rule : goal.returns-in_err-more-clause-rule
returns-in_err-more-clause-rule g c =
    let p = err_from_is_err_and c.from_residual-in_err-more.result c.from_residual-in_err-more.ensures.1 in
    in_ways-stops g.V.Decide.stop g.V.Decide.gives g.V.Decide.after c.loop-way.pictures c.args.ways.now c.loop-way.way-index c.way-item.result c.as_slice.result.now c.args.picture.now c.in_ok-from.from
    c.loop-way.judge c.assume.new.judge c.in_err-more.field-0.0 p.0 c.from_residual-in_err-more.result _
    c.loop-way-test.true c.way-item.is c.as_slice.ensures c.in_ok-from.ensures c.in_err-more.ensures.rule c.loop-way.invariant.1 p.1 p.2
