-- Where a refusal stands.
use Rattle.std.specs.Prelude.{List}
use Rattle.sb_base.specs.declared.refusals.Stop.{Stop}
use Rattle.sb_base.specs.declared.refusals.Stop.TheVariants.{Refused, Memory}
use Rattle.sb_lex.specs.declared.piece.PpToken.{PpToken}
use Rattle.sb_lex.specs.Places.{IsAmong}

-- a refusal stands at one of these pieces
abbrev pub StopsAmong : List PpToken → Stop → Type 0
StopsAmong list (Refused r) = IsAmong list r.place
StopsAmong list Memory = Unit {0}
