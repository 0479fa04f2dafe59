use Rattle.sb_directive.proofs.Preparations.{Goes-end}
use Rattle.sb_directive.proofs.defined.prepare.Goals as goal

pub returns-in-Ok-None-clause-prepared : goal.returns-in-Ok-None-clause-prepared
returns-in-Ok-None-clause-prepared c =
    let none = rw c.in-Ok-None.field-0-is at c.in-Ok-None.ensures.piece in
    rw none.1 (Goes-end _ _ _ _ _ _ _ c.turns.invariant.goes none.0)
