-- Why a list of tokens is refused as a translation unit.
use Rattle.std.specs.Prelude.{◌≡◌, ℕ, List, [], ◌++◌, length, Result, Ok, Err}
use Rattle.sb_base.specs.declared.refusals.Refusal.{Refusal}
use Rattle.sb_base.specs.declared.refusals.Stop.{Stop}
use Rattle.sb_base.specs.declared.refusals.Stop.TheVariants.{Refused, Memory}
use Rattle.sb_base.specs.declared.tokens.Token.{Token}
use Rattle.sb_parse.specs.Parser.{stop}
use Rattle.sb_parse.specs.Read.{IsRefused}
use Rattle.sb_lexicon.specs.Outcomes.{IsStop, GoesOn}
use Rattle.sb_lexicon.specs.Tokens.{too_deep}
use Rattle.sb_specifier.specs.Readers.{Declarations}
use Rattle.sb_unit.specs.Readers.{unit_reader}
use Rattle.sb_unit.specs.Reads.{FitsUnit}
use Rattle.sb_unit.specs.Units.{IsUnit}
use Rattle.sb_statement.specs.Reasons.{IsUnitReason}

-- a list is refused for a reason, at the first of its last `left` tokens
pub record IsRefusedUnit (texts : List (List ℕ)) (ts : List Token) (n left : ℕ) : Type 0 where
  pub front : List Token
  pub bad : List Token
  pub split : ts ≡ front ++ bad
  pub left_is : left ≡ length bad
  pub reason : IsUnitReason texts front bad n
  -- a refusal that is not for want of depth holds at every depth: no unit goes on there, however deep
  pub at_every_depth : (n ≡ too_deep → ⊥) → GoesOn (IsUnit texts) front bad → ⊥
  -- where the tokens end, they are no unit of any depth
  pub at_end : (n ≡ too_deep → ⊥) → bad ≡ [] → (ds : Declarations) → IsUnit texts front ds → ⊥
  -- for want of depth: a deeper unit goes on there
  pub at_some_depth : n ≡ too_deep → GoesOn (IsUnit texts) front bad

-- the refusal of a list of tokens: all is said of one number and one token
pub record IsRefusedUnitBecause (texts : List (List ℕ)) (tokens : List Token) (r : Refusal) : Type 0 where
  pub number : ℕ
  pub left : ℕ
  pub is : IsStop tokens number left r
  pub stops : unit_reader texts tokens ≡ stop number left
  pub refused : IsRefused (FitsUnit texts) tokens left
  pub because : IsRefusedUnit texts tokens number left

-- a refusal that a call answers has a reason
abbrev pub HasUnitReason : {E : Type 0} → List (List ℕ) → List Token → Result E Stop → Type 0
HasUnitReason texts tokens (Ok e) = Unit {0}
HasUnitReason texts tokens (Err (Refused r)) = IsRefusedUnitBecause texts tokens r
HasUnitReason texts tokens (Err Memory) = Unit {0}
