-- the token that pieces begin with, and the string literals that it joins
use Rattle.std.specs.Prelude.{◌≡◌, ℕ, ◌<◌, List, ◌∷◌, Some, length, slice_get, take}
use Rattle.sb_base.specs.declared.refusals.Place.{Place}
use Rattle.sb_base.specs.declared.refusals.Stop.{Stop}
use Rattle.sb_base.specs.declared.refusals.Stop.TheVariants as stop
use Rattle.sb_base.specs.declared.tokens.Token.{Token}
use Rattle.sb_lex.specs.declared.piece.PpToken.{PpToken}
use Rattle.sb_lex.specs.Values.{IsText}
use Rattle.sb_directive.specs.Lines.{spelling}
use Rattle.sb_directive.specs.Ending.{Ending}
use Rattle.sb_prep.specs.Tokens.{NameBytes, Converts}

-- a string literal that names no bytes, behind some that do
pub record HasBadLiteral (texts : List (List ℕ)) (ts : List PpToken) (place : Place) : Type 0 where
  pub good : ℕ
  pub bytes : List ℕ
  pub bad : PpToken
  pub before : NameBytes texts (take good ts) bytes
  pub there : slice_get ts good ≡ Some bad
  pub nameless : (more : List ℕ) → IsText (spelling texts bad) more → ⊥
  pub place_is : place ≡ bad.place

abbrev pub IsBadLiteral : List (List ℕ) → List PpToken → Stop → Type 0
IsBadLiteral texts ts (stop.Refused r) = HasBadLiteral texts ts r.place × (r.number ≡ 4) × (r.feature ≡ 0)
IsBadLiteral texts ts stop.Memory = Unit {0}

-- the tokens of pieces are this one and those of the rest
pub record Begins (limit : ℕ) (texts : List (List ℕ)) (ps : List PpToken) (later : List (List ℕ)) (token : Token) (rest : List PpToken) : Type 0 where
  pub on : (ts : List Token) (last : List (List ℕ)) (end : Ending) → Converts limit later rest ts last end → Converts limit texts ps (token ∷ ts) last end
  pub shorter : length rest < length ps
