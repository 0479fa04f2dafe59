use Rattle.std.proofs.Common.{◌++◌, ◌∙◌, ap, drop, ◌+◌, List}
use Rattle.sb_term.specs.Asks.{run}
use Rattle.sb_picture.specs.declared.picture.Picture.{Picture}
use Rattle.sb_judge.specs.Splits.{split_all, sides}
use Rattle.sb_judge.proofs.Steps.Turns.{split-turn}
use Rattle.std.proofs.lemmas.Result.{err_from_is_err_and}
use Rattle.sb_judge.proofs.Steps.Exits.{split-stops}
use Rattle.sb_judge.proofs.splits.split_all.Goals as goal

pub loop-picture-preserved : goal.loop-picture-preserved
loop-picture-preserved g c =
    let turn = split-turn g.V.Decide.stop g.V.Decide.gives g.V.Decide.after c.args.left c.args.op c.args.right c.args.pictures.now c.loop-picture.picture-index c.picture-item.result
    c.loop-picture.trues c.loop-picture.falses c.in_ok-sides.sides.trues c.in_ok-sides.sides.falses c.loop-picture.judge c.split.new.judge
    c.loop-picture-test.true c.picture-item.is c.in_ok-sides.ensures.rule in (
      c.in_ok-sides.ensures.stop,
      ap (λ (ts : List Picture). run g.V.Decide.stop g.V.Decide.gives g.V.Decide.after (split_all c.args.left c.args.op c.args.right (drop (c.loop-picture.picture-index + 1) c.args.pictures.now) (sides ts c.append-in-loop-picture.new.self)) c.split.new.judge) c.in_ok-append.ensures
          ∙ (ap (λ (fs : List Picture). run g.V.Decide.stop g.V.Decide.gives g.V.Decide.after (split_all c.args.left c.args.op c.args.right (drop (c.loop-picture.picture-index + 1) c.args.pictures.now) (sides (c.loop-picture.trues ++ c.in_ok-sides.sides.trues) fs)) c.split.new.judge) c.in_ok-append-2.ensures
          ∙ (turn ∙ c.loop-picture.invariant.1)),
    )

pub returns-in_err-sides-clause-rule : goal.returns-in_err-sides-clause-rule
returns-in_err-sides-clause-rule g c =
    let p = err_from_is_err_and c.from_residual.result c.from_residual.ensures.1 in
    split-stops g.V.Decide.stop g.V.Decide.gives g.V.Decide.after (λ s. sides s.trues s.falses) c.args.left c.args.op c.args.right c.args.pictures.now c.loop-picture.picture-index c.picture-item.result
    c.loop-picture.trues c.loop-picture.falses c.loop-picture.judge c.split.new.judge c.in_err-sides.field-0.0 p.0 c.from_residual.result _
    c.loop-picture-test.true c.picture-item.is c.in_err-sides.ensures.rule c.loop-picture.invariant.1 p.1 p.2
