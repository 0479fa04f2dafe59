use Rattle.std.proofs.Common.{ap, sym, ◌∙◌}
use Rattle.sb_term.specs.Asks.{run}
use Rattle.sb_picture.specs.Asking.{ask}
use Rattle.sb_picture.proofs.asking.excludes.Goals as goal

pub returns-clause-rule : goal.returns-clause-rule
returns-clause-rule g c = (
  (c.in_ok-asked.asked.query, c.in_ok-asked.asked.answer),
  ap (λ m. run g.V.Decide.stop g.V.Decide.gives g.V.Decide.after (ask c.args.facts.now m) c.args.judge.now) (sym c.in_ok-negated.ensures) ∙ c.in_ok-asked.ensures.rule,
  sym c.is_proof.ensures,
)
