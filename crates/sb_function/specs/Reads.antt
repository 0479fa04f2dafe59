-- What a reader in code owes the reader that it computes.
use Rattle.std.specs.Prelude.{◌≡◌, List, length, drop, Option, Some, None, Result, Ok, Err}
use Rattle.sb_parse.specs.Parser.{Outcome, done, stop}
use Rattle.sb_function.specs.declared.lexeme.Piece.{Piece}
use Rattle.sb_function.specs.declared.reading.Read.{Read}
use Rattle.sb_function.specs.declared.reading.ReadFault.{ReadFault}
use Rattle.sb_function.specs.declared.reading.ReadFault.TheVariants.{Refused, Memory}
use Rattle.sb_function.specs.Marks.{misplaced}

-- memory may be wanting anywhere
abbrev pub IsFault : {A : Type 0} → Outcome Piece A → ReadFault → Type 0
IsFault o (Refused left) = o ≡ stop misplaced left
IsFault o Memory = Unit {0}

abbrev pub Reads : {A : Type 0} → Outcome Piece A → Result (Read A) ReadFault → Type 0
Reads o (Ok r) = o ≡ done r.value r.rest.now
Reads o (Err e) = IsFault o e

-- the same where the value stands for another
abbrev pub ReadsAs : {A B : Type 0} → (B → A) → Outcome Piece A → Result (Read B) ReadFault → Type 0
ReadsAs plain o (Ok r) = o ≡ done (plain r.value) r.rest.now
ReadsAs plain o (Err e) = IsFault o e

-- the value that the next piece has, and what follows that piece
abbrev pub given : {A : Type 0} → Option A → List Piece → Outcome Piece A
given None ts = stop misplaced (length ts)
given (Some a) ts = done a (drop 1 ts)
