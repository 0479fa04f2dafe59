use Rattle.sb_prep.proofs.Beginnings.{Goes-end}
use Rattle.sb_prep.proofs.tokens.tokens.Goals as goal

pub returns-clause-tokens : goal.returns-clause-tokens
returns-clause-tokens c =
    let none = rw c.in_default.is at c.in_ok-token.ensures.token in
    rw none.1 (Goes-end _ _ _ _ _ _ c.pieces.invariant.goes none.0)
