use Rattle.std.proofs.Common.{sym}
use Rattle.sb_prep.proofs.Beginnings.{Begins-plain, refused_value}
use Rattle.sb_prep.proofs.tokens.first_token.Goals as goal

pub returns-in_default-value_of-clause-refused : goal.returns-in_default-value_of-clause-refused
returns-in_default-value_of-clause-refused c =
    let none = rw c.spelling.ensures.spelling at c.in_default-value_of.ensures.none in
    rw (c.in-Some.ensures.cases.0, c.stop_at.ensures) (refused_value _ _ c.in-Some.first.now _ (sym c.if-is_literal.ensures) none)

pub returns-clause-token : goal.returns-clause-token
returns-clause-token c =
    let has = rw c.spelling.ensures.spelling at c.in-Some-value_of.ensures.some in
    rw c.in-Some.ensures.cases.0 (Begins-plain _ _ c.in-Some.first.now _ _ (sym c.if-is_literal.ensures) has)
