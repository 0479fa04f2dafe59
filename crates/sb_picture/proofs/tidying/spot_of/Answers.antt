use Rattle.std.proofs.Common.{◌≡◌, true, ◌∙◌}
use Rattle.sb_picture.specs.Pictures.{same_entries}
use Rattle.sb_picture.proofs.Steps.Placing.{placed_row-here}
use Rattle.sb_picture.proofs.tidying.spot_of.Goals as goal

pub returns-then-same_entries-clause-spot : goal.returns-then-same_entries-clause-spot
returns-then-same_entries-clause-spot c =
    let same : same_entries c.index-rows-at.result.term.entries c.args.term.now.entries ≡ true = cc in
    placed_row-here c.args.rows.now c.args.term.now c.loop-at.at c.index-rows-at.result c.loop-at-test.true c.index-rows-at.is same ∙ c.loop-at.invariant
