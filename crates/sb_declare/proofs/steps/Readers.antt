-- The readers of declarations of a depth that are made of those of the next lower one.
use Rattle.std.proofs.Common.{◌≡◌, ℕ, zero, suc, ◌-◌, ◌<◌, ◌≤◌, List, refl, ap, arith}
use Rattle.sb_base.specs.declared.interning.Name.{Name}
use Rattle.sb_base.specs.declared.tokens.Token.{Token}
use Rattle.sb_specifier.specs.declared.seat.Seat.TheVariants as seat
use Rattle.sb_declarator.specs.Meaning.{inside}
use Rattle.sb_specifier.specs.Parts as part
use Rattle.sb_specifier.specs.Specified.{reading}
use Rattle.sb_declare.specs.Readers.{declaration_at, declaration_reader}

pub no_declared : (texts : List (List ℕ)) (left : ℕ) (types : List Name) (ts : List Token) → left < 2 → declaration_reader texts left types ts ≡ part.no_declaration (reading texts types) seat.Scope ts
no_declared texts zero types ts few = refl
no_declared texts (suc zero) types ts few = refl
no_declared texts (suc (suc n)) types ts few = absurd (omega arith)

pub some_declared : (texts : List (List ℕ)) (left : ℕ) (types : List Name) (ts : List Token) → 2 ≤ left → declaration_reader texts left types ts ≡ inside declaration_at texts (left - 1) types ts
some_declared texts zero types ts some = absurd (omega arith)
some_declared texts (suc zero) types ts some = absurd (omega arith)
some_declared texts (suc (suc n)) types ts some = ap (λ m. inside declaration_at texts m types ts) (let same : suc n ≡ suc (suc n) - 1 = omega arith in same)
