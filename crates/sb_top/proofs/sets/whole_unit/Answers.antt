use Rattle.std.proofs.Common.{Global}
use Rattle.std.proofs.lemmas.Result.{err_from_is_err_and}
use Rattle.sb_top.specs.Sets.IsRefusedUnit.{by_grammar}
use Rattle.sb_top.proofs.Misread.{is_misread}
use Rattle.sb_top.proofs.UnitSteps.{unit_stops}
use Rattle.sb_top.proofs.sets.whole_unit.Goals as goal

pub returns-in_err-tokens-clause-unit : goal.returns-in_err-tokens-clause-unit
returns-in_err-tokens-clause-unit g c =
    let p = err_from_is_err_and c.from_residual.result c.from_residual.ensures.1 in
    rw (p.1, p.2) (unit_stops Global _ _ _ _ _ c.unit.new.names.texts _ c.in_err-tokens.field-0.0 c.in_err-tokens.ensures.unit)

pub returns-in-Err-Refused-clause-unit : goal.returns-in-Err-Refused-clause-unit
returns-in-Err-Refused-clause-unit g c = (
  c.unit.new.names.texts,
  by_grammar c.in_ok-tokens.tokens.items c.in-Err-Refused.refused c.in_ok-tokens.ensures.unit
      (is_misread _ _ _ _ _ c.as_slice.ensures.value c.in-Err-Refused.field-0-is c.in-Err-Refused.ensures.read),
)
