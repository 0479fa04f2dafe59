-- how a call that follows a rule ends: with the value that the rule's run gives, seen through a function, or with its fault
use Rattle.std.specs.Prelude.{◌≡◌, Bool, Result, Ok, Err}
use Rattle.sb_term.specs.Asks.{Ended, ended, stopped}
use Rattle.sb_term.specs.declared.query.Query.{Query}
use Rattle.sb_term.specs.declared.answer.Answer.{Answer}
use Rattle.sb_term.specs.declared.fault.DecideFault.{DecideFault}
use Rattle.sb_term.specs.declared.fault.DecideFault.TheVariants.{BadLine, EndOfCert, Memory}
use Rattle.sb_picture.specs.Asking.{is_proved}

abbrev pub EndsWith : {S A B : Type 0} → Result A DecideFault → (A → B) → S → Ended S B → Type 0
EndsWith (Ok a) seen s e = e ≡ ended s (seen a)
EndsWith (Err Memory) seen s e = Unit {0}
EndsWith (Err (BadLine n)) seen s e = e ≡ stopped s (BadLine n)
EndsWith (Err (EndOfCert n)) seen s e = e ≡ stopped s (EndOfCert n)

-- how a call that asks one question ends, of which it tells whether the answer is a proof
abbrev pub EndsProved : {S : Type 0} → Result Bool DecideFault → S → Ended S (Query × Answer) → Type 0
EndsProved (Ok proved) s e = (x : Query × Answer) × (e ≡ ended s x) × (is_proved x.1 ≡ proved)
EndsProved (Err Memory) s e = Unit {0}
EndsProved (Err (BadLine n)) s e = e ≡ stopped s (BadLine n)
EndsProved (Err (EndOfCert n)) s e = e ≡ stopped s (EndOfCert n)
