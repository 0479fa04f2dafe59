use Rattle.std.proofs.Common.{sym}
use Rattle.std.proofs.lemmas.Result.{err_from_is_err_and}
use Rattle.sb_directive.proofs.Preparations.{Begins-other, Begins-number, refused_name, refused_digit}
use Rattle.sb_directive.proofs.defined.first_piece.Goals as goal

pub returns-then-not-is_defined-clause-piece : goal.returns-then-not-is_defined-clause-piece
returns-then-not-is_defined-clause-piece c = rw c.in-Some.ensures.cases.0 (Begins-other _ _ _ c.in-Some.first.now _ (sym c.if-not-is_defined.ensures.defined))

pub returns-in_err-number-in-Ok-clause-refused : goal.returns-in_err-number-in-Ok-clause-refused
returns-in_err-number-in-Ok-clause-refused c =
    let p = err_from_is_err_and c.from_residual.result c.from_residual.ensures.1 in
    rw (c.in-Some.ensures.cases.0, p.1, p.2)
    (refused_digit _ _ _ c.in-Some.first.now _ _ _ _ c.is_defined-in-Ok.result _ (sym c.if-not-is_defined.ensures.defined) c.in-Ok.ensures.named c.is_defined-in-Ok.ensures c.in_err-number-in-Ok.ensures.digit)

pub returns-in_ok-number-in-Ok-clause-piece : goal.returns-in_ok-number-in-Ok-clause-piece
returns-in_ok-number-in-Ok-clause-piece c =
    rw c.in-Some.ensures.cases.0
    (Begins-number _ _ _ c.in-Some.first.now _ _ _ _ _ c.is_defined-in-Ok.result (sym c.if-not-is_defined.ensures.defined) c.in-Ok.ensures.named c.is_defined-in-Ok.ensures c.in_ok-number-in-Ok.ensures.digit)

pub returns-in-Err-clause-refused : goal.returns-in-Err-clause-refused
returns-in-Err-clause-refused c =
    rw (c.in-Some.ensures.cases.0, c.stop_at.ensures) (refused_name _ _ _ c.in-Some.first.now _ _ (sym c.if-not-is_defined.ensures.defined) c.in-Err.ensures.named)
