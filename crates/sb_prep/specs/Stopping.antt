-- how a part of the work stops, and where a refusal stands
use Rattle.std.specs.Prelude.{◌≡◌, ℕ, ◌<◌, ◌≤◌, List, length, take, Result, Ok, Err}
use Rattle.std.specs.List.{All}
use Rattle.sb_base.specs.Outside.{Rose}
use Rattle.sb_base.specs.declared.outside.FetchFault.{FetchFault}
use Rattle.sb_base.specs.declared.outside.FetchFault.TheVariants as fetch
use Rattle.sb_base.specs.declared.refusals.Place.{Place}
use Rattle.sb_base.specs.declared.refusals.Stop.{Stop}
use Rattle.sb_base.specs.declared.refusals.Stop.TheVariants as stop
use Rattle.sb_base.specs.declared.tokens.Token.{Token}
use Rattle.sb_lex.specs.declared.piece.PpToken.{PpToken}
use Rattle.sb_prep.specs.declared.fault.UnitFault.{UnitFault}
use Rattle.sb_prep.specs.declared.fault.UnitFault.TheVariants as fault

-- the place is in one of the first so many files
abbrev pub IsIn : ℕ → Place → Type 0
IsIn count place = place.file < count

-- so are all these pieces
pub record AreIn (count : ℕ) (ps : List PpToken) : Type 0 where
  pub all : All (λ t. t.place.file < count) ps

-- so are all these tokens
pub record AreTokensIn (count : ℕ) (ts : List Token) : Type 0 where
  pub all : All (λ t. t.place.file < count) ts

-- ---- a unit

abbrev pub fault_of_stop : Stop → UnitFault
fault_of_stop (stop.Refused r) = fault.Refused r
fault_of_stop stop.Memory = fault.Memory

abbrev pub fault_of_fetch : FetchFault → UnitFault
fault_of_fetch fetch.Failed = fault.Read
fault_of_fetch fetch.Memory = fault.Memory

-- the same for a unit, where the library may also fail
abbrev pub IsFault : (ℕ → Place → Type 0) → UnitFault → Type 0
IsFault refuses (fault.Refused r) = refuses r.number r.place × (r.feature ≡ 0)
IsFault refuses fault.Read = Unit {0}
IsFault refuses fault.Memory = Unit {0}

-- the library failed only where the count of its failures rose, which never falls; each other answer leaves the count
abbrev pub HasCause : {A : Type 0} → ℕ → ℕ → Result A UnitFault → Type 0
HasCause before now (Ok found) = now ≡ before
HasCause before now (Err (fault.Refused r)) = now ≡ before
HasCause before now (Err fault.Memory) = now ≡ before
HasCause before now (Err fault.Read) = Rose before now × (before ≤ now)

-- the earlier texts keep their numbers
pub record IsKept (old new : List (List ℕ)) : Type 0 where
  pub kept : take (length old) new ≡ old
