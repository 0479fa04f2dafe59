-- How a refusal is made.
use Rattle.std.specs.Prelude.{ℕ}
use Rattle.sb_base.specs.declared.refusals.Place.{Place}
use Rattle.sb_base.specs.declared.refusals.Refusal.{Refusal}
use Rattle.sb_base.specs.declared.refusals.Stop.{Stop}
use Rattle.sb_base.specs.declared.refusals.Stop.TheVariants as stop
use Rattle.sb_macro.specs.declared.halt.Halt.{Halt}
use Rattle.sb_macro.specs.declared.halt.Halt.TheVariants.{Refused, Memory}

-- the place of what stands in no file
abbrev pub nowhere : Place
nowhere = record { file = 0; line = 0; col = 0 }

-- a refusal that names no feature
abbrev pub refusal : ℕ → Place → Refusal
refusal number place = record { number = number; place = place; feature = 0 }

abbrev pub stop_of : Halt → Stop
stop_of (Refused number place) = stop.Refused (refusal number place)
stop_of Memory = stop.Memory
