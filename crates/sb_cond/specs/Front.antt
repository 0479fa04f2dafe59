-- Where the front of a condition is refused, whatever follows it.
use Rattle.std.specs.Prelude.{◌≡◌, ℕ, zero, suc, ◌-◌, List, [], ◌∷◌, ◌++◌, length, Option, Some, None, unwrap_or}
use Rattle.std.specs.Option.{option_map}
use Rattle.sb_base.specs.declared.refusals.Place.{Place}
use Rattle.sb_lex.specs.declared.piece.PpToken.{PpToken}
use Rattle.sb_parse.specs.Parser.{Outcome, done, stop}
use Rattle.sb_parse.specs.Read.{CanBegin}
use Rattle.sb_cond.specs.declared.arithmetic.Operand.{Operand}
use Rattle.sb_cond.specs.declared.sign.ConditionToken.{ConditionToken}
use Rattle.sb_cond.specs.Arithmetic.{fault_of}
use Rattle.sb_cond.specs.Condition.{IsCondition, HasFault, AreTokens, place_in}
use Rattle.sb_cond.specs.Readers.{fault_in}

-- The position at which the front of a condition is refused, if it is. Some condition begins so: then it is that of the first operator without a value. Or a token stands there with which
-- none goes on: then it is that of such an operator before the token, or else of the token.
pub data IsRefusedIn (tokens : List ConditionToken) : Option ℕ → Type 0 where
  begins : (fault : Option ℕ) → CanBegin IsCondition tokens → HasFault tokens fault → IsRefusedIn tokens fault
  goes_wrong : (front rest : List ConditionToken) (bad : ConditionToken) (fault : Option ℕ) → tokens ≡ front ++ (bad ∷ rest) → CanBegin IsCondition front
      → (CanBegin IsCondition (front ++ (bad ∷ [])) → ⊥) → HasFault front fault → IsRefusedIn tokens (Some (unwrap_or fault (length front)))

-- the same of the front of a line: the place, if there is one
pub record FrontRefused (texts : List (List ℕ)) (line : List PpToken) (end : Place) (place : Option Place) : Type 0 where
  pub tokens : List ConditionToken
  pub at : Option ℕ
  pub are : AreTokens texts line tokens
  pub refused : IsRefusedIn tokens at
  pub is : place ≡ option_map (place_in line end) at

-- ---- by what the reader gives

abbrev pub refusal_in : Option ℕ → ℕ → ℕ → Option ℕ
refusal_in fault count zero = fault
refusal_in fault count (suc left) = Some (unwrap_or fault (count - suc left))

abbrev pub front_judged : ℕ → Outcome ConditionToken Operand → Option ℕ
front_judged count (done a rest) = refusal_in (fault_of a.value) count (length rest)
front_judged count (stop n left) = refusal_in (fault_in n) count left
