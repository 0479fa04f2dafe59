-- What a reader in code owes the reader that it computes.
use Rattle.std.specs.Prelude.{◌≡◌, Result, Ok, Err}
use Rattle.sb_parse.specs.Parser.{Outcome, done, stop}
use Rattle.sb_cond.specs.declared.reading.Read.{Read}
use Rattle.sb_cond.specs.declared.reading.Stopped.{Stopped}
use Rattle.sb_cond.specs.declared.sign.ConditionToken.{ConditionToken}
use Rattle.sb_cond.specs.Readers.{number_of}

abbrev pub Reads : {A : Type 0} → Outcome ConditionToken A → Result (Read A) Stopped → Type 0
Reads o (Ok r) = o ≡ done r.value r.rest.now
Reads o (Err s) = o ≡ stop (number_of s.fault) s.left
