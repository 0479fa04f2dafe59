-- a unit over a library that tells has no outcome but one
use Rattle.std.specs.Prelude.{◌≡◌, ℕ, List, Option, Some, Result, Ok, Err}
use Rattle.std.specs.declared.alloc.Global.{Global}
use Rattle.std.specs.declared.vec.Vec.{Vec}
use Rattle.sb_base.specs.declared.tokens.Token.{Token}
use Rattle.sb_directive.specs.Ending.{Ending, Ended, Refused}
use Rattle.sb_prep.specs.declared.fault.UnitFault.{UnitFault}
use Rattle.sb_prep.specs.declared.fault.UnitFault.TheVariants as fault
use Rattle.sb_prep.specs.Unit.{IsUnit}

-- Over a library that tells, a unit that has tokens has no others and is not refused, and one that is refused has none, and no other refusal.
-- `later`, `last`: the tables of names and of files that came of it. They are the only ones, but for the table of names of a unit that is refused:
-- it is left as it had come to be, and its definition has one of its own
abbrev pub IsOnlyOutcome : (List ℕ → Option (List ℕ)) → (limit : ℕ) → List ℕ → (texts files later last : List (List ℕ)) → Result (Vec Token Global) UnitFault → Type 0
IsOnlyOutcome held limit name texts files later last (Ok tokens) =
    (ts : List Token) (names met : List (List ℕ)) (end : Ending) → IsUnit (Some held) limit name texts files ts names met end
    → (ts ≡ tokens.items) × (names ≡ later) × (met ≡ last) × (end ≡ Ended)
IsOnlyOutcome held limit name texts files later last (Err (fault.Refused r)) =
    (ts : List Token) (names met : List (List ℕ)) (end : Ending) → IsUnit (Some held) limit name texts files ts names met end → (met ≡ last) × (end ≡ Refused r.number r.place)
IsOnlyOutcome held limit name texts files later last (Err fault.Read) = Unit {0}
IsOnlyOutcome held limit name texts files later last (Err fault.Memory) = Unit {0}

-- what holds of a unit that has tokens or is refused
abbrev pub IfEnded : {A : Type 0} → Result A UnitFault → Type 0 → Type 0
IfEnded (Ok tokens) P = P
IfEnded (Err (fault.Refused r)) P = P
IfEnded (Err fault.Read) P = Unit {0}
IfEnded (Err fault.Memory) P = Unit {0}
