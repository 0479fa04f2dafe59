use Rattle.std.proofs.Common.{refl, ap}
use Rattle.std.proofs.lemmas.Result.{err_from_is_err_and}
use Rattle.sb_base.specs.Found.{seen}
use Rattle.sb_prep.specs.Reading.{IsShut}
use Rattle.sb_prep.proofs.Inclusions.{shut_by_pieces}
use Rattle.sb_prep.proofs.including.included_file.Goals as goal

pub returns-in-Missing-clause-opened : goal.returns-in-Missing-clause-opened
returns-in-Missing-clause-opened c = rw c.stop_at.ensures (IsShut.missing (ap seen c.in-Missing.is) refl, refl)

pub returns-in-TooBig-clause-opened : goal.returns-in-TooBig-clause-opened
returns-in-TooBig-clause-opened c = rw c.stop_at-in-TooBig.ensures (IsShut.too_big (ap seen c.in-TooBig.is) refl, refl)

pub returns-then-depth-ge-DEEPEST-clause-opened : goal.returns-then-depth-ge-DEEPEST-clause-opened
returns-then-depth-ge-DEEPEST-clause-opened c = rw c.stop_at-then-depth-ge-DEEPEST.ensures (IsShut.too_deep c.in-Whole.bytes.items (ap seen c.in-Whole.is) c.if-depth-ge-DEEPEST.true refl, refl)

pub returns-in_err-pieces-clause-opened : goal.returns-in_err-pieces-clause-opened
returns-in_err-pieces-clause-opened c =
    let p = err_from_is_err_and c.from_residual.result c.from_residual.ensures.1 in
    rw (p.1, p.2) (shut_by_pieces c.args.depth c.args.file c.args.state.now c.lex.new.self _ c.args.place c.in-Whole.bytes.items _ (ap seen c.in-Whole.is) c.if-depth-ge-DEEPEST.false (rw c.deref.ensures.value at c.in_err-pieces.ensures.pieces))
