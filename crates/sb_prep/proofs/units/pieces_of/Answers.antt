use Rattle.std.proofs.Common.{refl, ap}
use Rattle.sb_base.specs.Found.{seen}
use Rattle.sb_prep.specs.Reading.{HasNoPieces}
use Rattle.sb_prep.proofs.WholeUnit.{lexed_result}
use Rattle.sb_prep.proofs.units.pieces_of.Goals as goal

pub returns-in-Missing-clause-pieces : goal.returns-in-Missing-clause-pieces
returns-in-Missing-clause-pieces c = rw c.stop_at.ensures (HasNoPieces.missing (ap seen c.in-Missing.is) refl, refl)

pub returns-in-TooBig-clause-pieces : goal.returns-in-TooBig-clause-pieces
returns-in-TooBig-clause-pieces c = rw c.stop_at-in-TooBig.ensures (HasNoPieces.too_big (ap seen c.in-TooBig.is) refl, refl)

pub returns-in-Whole-clause-pieces : goal.returns-in-Whole-clause-pieces
returns-in-Whole-clause-pieces c =
    lexed_result c.args.state.now c.lex.new.self c.args.file _ c.in-Whole.bytes.items c.lex.result (ap seen c.in-Whole.is) (rw c.deref.ensures.value at c.lex.ensures.pieces)
