use Rattle.std.proofs.Common.{sym, ◌∙◌, subst}
use Rattle.sb_parse.specs.Read.{IsRefused}
use Rattle.sb_function.specs.Grammar.{IsFile}
use Rattle.sb_top.proofs.UnitSteps.{refused_some, refused_within}
use Rattle.sb_top.proofs.sets.read_unit.Goals as goal

pub refused_piece-piece-requires-clause-some : goal.refused_piece-piece-requires-clause-some
refused_piece-piece-requires-clause-some c =
    refused_some c.as_slice-in-Err-Refused.result.now c.in-Err-Refused.left
    (subst (λ z. IsRefused IsFile z c.in-Err-Refused.left) (c.as_slice.ensures.value ∙ sym c.as_slice-in-Err-Refused.ensures.value) (c.in-Err-Refused.ensures.refused c.in-Err-Refused.left (cc c.in-Err-Refused.field-0-is)))

pub refused_piece-piece-requires-clause-left : goal.refused_piece-piece-requires-clause-left
refused_piece-piece-requires-clause-left c =
    refused_within c.as_slice-in-Err-Refused.result.now c.in-Err-Refused.left
    (subst (λ z. IsRefused IsFile z c.in-Err-Refused.left) (c.as_slice.ensures.value ∙ sym c.as_slice-in-Err-Refused.ensures.value) (c.in-Err-Refused.ensures.refused c.in-Err-Refused.left (cc c.in-Err-Refused.field-0-is)))
