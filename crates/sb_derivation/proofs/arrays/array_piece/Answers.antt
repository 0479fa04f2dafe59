use Rattle.std.proofs.Common.{refl}
use Rattle.std.proofs.lemmas.Result.{err_from_is_err_and}
use Rattle.sb_lexicon.proofs.Loops.{fault_first}
use Rattle.sb_derivation.proofs.arrays.array_piece.Goals as goal

pub returns-in_err-size-clause-read : goal.returns-in_err-size-clause-read
returns-in_err-size-clause-read c =
    let p = err_from_is_err_and c.from_residual-in_err-size.result c.from_residual-in_err-size.ensures.1 in
    rw (p.1, p.2, c.in_ok-open.ensures) (fault_first _ _ _ c.in_err-size.ensures.read)

pub returns-in_err-close-clause-read : goal.returns-in_err-close-clause-read
returns-in_err-close-clause-read c =
    let p = err_from_is_err_and c.from_residual-in_err-close.result c.from_residual-in_err-close.ensures.1 in
    rw (p.1, p.2, c.in_ok-open.ensures, c.in_ok-size.ensures.read.0) (fault_first _ _ _ c.in_err-close.ensures)

pub returns-clause-read : goal.returns-clause-read
returns-clause-read c = (rw (c.in_ok-open.ensures, c.in_ok-size.ensures.read.0, c.in_ok-close.ensures) refl, c.in_ok-size.ensures.read.1)
