use Rattle.sb_types.proofs.CompositeLaws.{with_both, examples}
use Rattle.sb_types.proofs.OnlyComposite.{is_only}
use Rattle.sb_types.proofs.meaning.composites.Goals as goal

pub returns-clause-both : goal.returns-clause-both
returns-clause-both c = with_both

pub returns-clause-only : goal.returns-clause-only
returns-clause-only c = is_only

pub returns-clause-examples : goal.returns-clause-examples
returns-clause-examples c = examples
