-- Where no declaration has room, whatever was to be read.
use Rattle.std.proofs.Common.{◌≡◌, Bool, true, false, List, if◌then◌else◌}
use Rattle.sb_base.specs.declared.tokens.Token.{Token}
use Rattle.sb_parse.specs.Parser.{Parser, at_next, choose, refuse}
use Rattle.sb_lexicon.specs.declared.reading.ReadFault.{ReadFault}
use Rattle.sb_lexicon.specs.Lexicon.{Lexicon}
use Rattle.sb_lexicon.specs.Meaning.{IsFault}
use Rattle.sb_lexicon.specs.Tokens.{unexpected}
use Rattle.sb_lexicon.proofs.Loops.{fault_first}
use Rattle.sb_specifier.specs.declared.seat.Seat.{Seat}
use Rattle.sb_specifier.specs.Readers.{barred}
use Rattle.sb_specifier.proofs.laws.Barring.{barred_then}

pub barred_for : (A B : Type 0) (w : Lexicon) (seat : Seat) (ts : List Token) (fault : ReadFault) → IsFault (barred {A = A} w seat ts) fault → IsFault (barred {A = B} w seat ts) fault
barred_for A B w seat ts fault h = rw (barred_then w seat {A = A} (λ a. refuse {A = B} unexpected) ts) at (fault_first (barred {A = A} w seat ts) (λ a. refuse {A = B} unexpected) fault h)

-- the same behind a test of the next token that failed
pub barred_else : (A : Type 0) {B : Type 0} (w : Lexicon) (seat : Seat) (goes : Token → Bool) (p : Parser Token B) (ts : List Token) (fault : ReadFault) → at_next goes ts ≡ false
    → IsFault (barred {A = A} w seat ts) fault → IsFault (choose goes p (barred {A = B} w seat) ts) fault
barred_else A {B = B} w seat goes p ts fault failed h = chosen (at_next goes ts) failed
  where
    chosen : (b : Bool) → b ≡ false → IsFault (if b then p ts else barred {A = B} w seat ts) fault
    chosen true failed = absurd (cc failed)
    chosen false failed = barred_for A B w seat ts fault h
