-- how a text ends
use Rattle.std.specs.Prelude.{ℕ}
use Rattle.sb_base.specs.declared.refusals.Place.{Place}

-- whole, or refused by a number at a place
pub data Ending : Type 0 where
  Ended : Ending
  Refused : ℕ → Place → Ending
