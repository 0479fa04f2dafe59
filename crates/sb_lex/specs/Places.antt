-- the places of pieces
use Rattle.std.specs.Prelude.{◌≡◌, List}
use Rattle.std.specs.List.{Contains}
use Rattle.sb_base.specs.declared.refusals.Place.{Place}
use Rattle.sb_lex.specs.declared.piece.PpToken.{PpToken}

-- the place is that of one of these pieces
pub record IsAmong (ps : List PpToken) (place : Place) : Type 0 where
  pub piece : PpToken
  pub contained : Contains ps piece
  pub here : piece.place ≡ place
