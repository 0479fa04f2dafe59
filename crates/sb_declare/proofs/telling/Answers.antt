-- What a call answers that reads a declaration, in the grammar's words, however the call gives the trees.
use Rattle.std.proofs.Common.{ℕ, List, drop, Result, Ok, Err}
use Rattle.sb_base.specs.declared.interning.Name.{Name}
use Rattle.sb_base.specs.declared.refusals.Stop.{Stop}
use Rattle.sb_base.specs.declared.refusals.Stop.TheVariants.{Refused, Memory}
use Rattle.sb_base.specs.declared.tokens.Token.{Token}
use Rattle.sb_lexicon.specs.Outcomes.{IsOutcome, IsLongestRead}
use Rattle.sb_specifier.specs.Readers.{Declarations}
use Rattle.sb_declare.specs.Readers.{declaration_reader}
use Rattle.sb_declare.specs.Reads.{FitsDeclaration}
use Rattle.sb_specifier.specs.Reasons.{HasDeclarationReason}
use Rattle.sb_declare.proofs.telling.Declarations.{declaration_reason}
use Rattle.sb_declare.proofs.laws.Readers.{declaration_longest, declaration_refused}

module _ {E : Type 0} (gives : Declarations → E → Type 0) (texts : List (List ℕ)) (types : List Name) (tokens : List Token) (next left now : ℕ) where
  pub declaration_read : (result : Result E Stop) → IsOutcome gives (declaration_reader texts left types (drop next tokens)) tokens now result → IsLongestRead (FitsDeclaration texts left types) gives tokens next now result
  declaration_read (Ok e) is = (is.0, declaration_longest texts left types (drop next tokens) is.0 (drop now tokens) is.1, is.2)
  declaration_read (Err (Refused r)) is = (is.number, is.left, is.is, declaration_refused texts left types (drop next tokens) is.number is.left is.stops)
  declaration_read (Err Memory) is = tt

  pub declaration_has_reason : (result : Result E Stop) → IsOutcome gives (declaration_reader texts left types (drop next tokens)) tokens now result → HasDeclarationReason texts tokens next result
  declaration_has_reason (Ok e) is = tt
  declaration_has_reason (Err (Refused r)) is = record { number = is.number; left = is.left; is = is.is; because = declaration_reason texts left types (drop next tokens) is.number is.left is.stops }
  declaration_has_reason (Err Memory) is = tt
