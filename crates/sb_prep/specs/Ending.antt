-- how a text ends: whole, or refused by a number at a place
pub use Rattle.sb_directive.specs.Ending.{Ending, Ended, Refused}
