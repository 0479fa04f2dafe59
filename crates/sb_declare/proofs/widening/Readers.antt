-- The readers of declarations in a scope of each depth, and those of a greater one.
use Rattle.std.proofs.Common.{◌≤◌, ℕ, zero, suc, false, List, arith}
use Rattle.sb_base.specs.declared.interning.Name.{Name}
use Rattle.sb_lexicon.proofs.Wider.{Wider, alike}
use Rattle.sb_specifier.specs.declared.seat.Seat.TheVariants as seat
use Rattle.sb_specifier.specs.Specified.{reading}
use Rattle.sb_specifier.specs.Readers.{barred}
use Rattle.sb_declarator.specs.Readers.{parts}
use Rattle.sb_declare.specs.Readers.{declaration_at, declaration_reader}
use Rattle.sb_declare.proofs.widening.Barred.{declaration_barred}
use Rattle.sb_initialiser.proofs.widening.Initialisers.{initialiser_wider}
use Rattle.sb_declare.proofs.widening.Each.{each_specifiers, each_declarator}
use Rattle.sb_declare.proofs.widening.Declarations.{declaration_wider}

module _ (texts : List (List ℕ)) where
  -- with room
  pub each_declaration : (n m : ℕ) → n ≤ m → (types : List Name) → Wider (declaration_at texts n (parts texts n) types) (declaration_at texts m (parts texts m) types)
  each_declaration n m le types =
      declaration_wider texts n m le (parts texts n) (parts texts m) (each_specifiers texts seat.Scope n m le) (λ types functions. each_declarator texts types functions false n m le) (λ types. initialiser_wider (reading texts types) n m le) types

  pub declaration_reader_wider : (n m : ℕ) → n ≤ m → (types : List Name) → Wider (declaration_reader texts n types) (declaration_reader texts m types)
  declaration_reader_wider zero zero le types = alike (barred (reading texts types) seat.Scope)
  declaration_reader_wider zero (suc zero) le types = alike (barred (reading texts types) seat.Scope)
  declaration_reader_wider zero (suc (suc m)) le types = declaration_barred texts (suc m) (parts texts (suc m)) types
  declaration_reader_wider (suc zero) zero le types = absurd (omega arith)
  declaration_reader_wider (suc zero) (suc zero) le types = alike (barred (reading texts types) seat.Scope)
  declaration_reader_wider (suc zero) (suc (suc m)) le types = declaration_barred texts (suc m) (parts texts (suc m)) types
  declaration_reader_wider (suc (suc n)) zero le types = absurd (omega arith)
  declaration_reader_wider (suc (suc n)) (suc zero) le types = absurd (omega arith)
  declaration_reader_wider (suc (suc n)) (suc (suc m)) le types = each_declaration (suc n) (suc m) (omega arith) types
