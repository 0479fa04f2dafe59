use Rattle.std.proofs.Common.{List, sym, ap, ◌∙◌, drop, ◌+◌}
use Rattle.sb_term.specs.Asks.{run}
use Rattle.sb_picture.specs.declared.picture.Picture.{Picture}
use Rattle.sb_judge.specs.Walks.{store_all, walked}
use Rattle.sb_store.specs.Stores.{store_rule}
use Rattle.sb_judge.proofs.Steps.Turns.{store-turn}
use Rattle.std.proofs.lemmas.Result.{err_from_is_err_and}
use Rattle.sb_store.specs.Stores.{judged}
use Rattle.sb_judge.proofs.Steps.Exits.{store-stops}
use Rattle.sb_judge.proofs.walks.store_all.Goals as goal

pub loop-picture-preserved : goal.loop-picture-preserved
loop-picture-preserved g c =
    let turn = store-turn g.V.Decide.stop g.V.Decide.gives g.V.Decide.after c.args.array c.args.index c.args.value c.args.place c.args.pictures.now c.loop-picture.picture-index
    c.picture-item.result c.in_ok-next.next c.loop-picture.after c.loop-picture.report c.store.new.report c.loop-picture.judge c.store.new.judge
    c.loop-picture-test.true c.picture-item.is
    (ap (λ f. run g.V.Decide.stop g.V.Decide.gives g.V.Decide.after (store_rule c.args.array c.args.index c.args.value c.args.place f c.loop-picture.report) c.loop-picture.judge) (sym c.in_ok-from.ensures) ∙ c.in_ok-next.ensures.rule) in (
      c.in_ok-next.ensures.stop,
      ap (λ (out : List Picture). run g.V.Decide.stop g.V.Decide.gives g.V.Decide.after (store_all c.args.array c.args.index c.args.value c.args.place (drop (c.loop-picture.picture-index + 1) c.args.pictures.now) (walked c.store.new.report out)) c.store.new.judge) c.in_ok-push.ensures.ok
          ∙ (turn ∙ c.loop-picture.invariant.1),
    )

pub returns-in_err-next-clause-rule : goal.returns-in_err-next-clause-rule
returns-in_err-next-clause-rule g c =
    let p = err_from_is_err_and c.from_residual-in_err-next.result c.from_residual-in_err-next.ensures.1 in
    store-stops g.V.Decide.stop g.V.Decide.gives g.V.Decide.after (judged c.store.new.report) (walked c.store.new.report) c.args.array c.args.index c.args.value c.args.place c.args.pictures.now
    c.loop-picture.picture-index c.picture-item.result c.in_ok-from.from c.loop-picture.report c.loop-picture.after c.loop-picture.judge c.store.new.judge c.in_err-next.field-0.0 p.0
    c.from_residual-in_err-next.result _ c.loop-picture-test.true c.picture-item.is c.in_ok-from.ensures c.in_err-next.ensures.rule c.loop-picture.invariant.1 p.1 p.2
