use Rattle.std.proofs.Common.{◌<◌, subst, arith}
use Rattle.sb_lexicon.specs.Meaning.{IsFault}
use Rattle.sb_statement.specs.Parts as part
use Rattle.sb_statement.proofs.steps.Levels.{one_first, no_firsts}
use Rattle.sb_statement.proofs.first.first_within.Goals as goal

pub returns : goal.returns
returns c =
    let some : 0 < c.args.left = omega (arith, c.if-left-eq0.false) in
    rw (one_first c.args.names.now.texts c.args.left c.args.types.now c.args.tokens.now some) c.first.ensures

pub returns-then-left-eq0 : goal.returns-then-left-eq0
returns-then-left-eq0 c = rw (no_firsts c.args.names.now.texts c.args.left c.args.types.now c.args.tokens.now c.if-left-eq0.true)
    (subst (λ w. IsFault (part.no_first w c.args.tokens.now) c.no_first.result) c.reading.ensures c.no_first.ensures)
