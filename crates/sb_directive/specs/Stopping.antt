-- how a part of the work stops, and where a refusal stands
use Rattle.std.specs.Prelude.{◌≡◌, ℕ}
use Rattle.sb_base.specs.declared.refusals.Place.{Place}
use Rattle.sb_base.specs.declared.refusals.Stop.{Stop}
use Rattle.sb_base.specs.declared.refusals.Stop.TheVariants as stop
pub use Rattle.sb_lex.specs.Places.{IsAmong}

-- want of memory, or a refusal by such a number at such a place
abbrev pub IsStop : (ℕ → Place → Type 0) → Stop → Type 0
IsStop refuses stop.Memory = Unit {0}
IsStop refuses (stop.Refused r) = refuses r.number r.place × (r.feature ≡ 0)
