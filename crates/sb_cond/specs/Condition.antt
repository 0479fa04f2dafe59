-- Whether the condition of a line holds (C99 6.10.1), and where it is refused.
use Rattle.std.specs.Prelude.{◌≡◌, ℕ, ◌-◌, ◌^◌, Bool, false, ◌||◌, ◌⊎◌, List, [], ◌∷◌, ◌++◌, length, slice_get, Option, Some, None, Result, Ok, Err, unwrap_or, if◌then◌else◌, nat_eq, nat_le, codes}
use Rattle.std.specs.List.{list_any}
use Rattle.std.specs.Option.{option_map}
use Rattle.std.specs.Str.{bytes_eq}
use Rattle.sb_base.specs.declared.refusals.Place.{Place}
use Rattle.sb_base.specs.declared.refusals.Refusal.{Refusal}
use Rattle.sb_base.specs.declared.refusals.Stop.{Stop}
use Rattle.sb_base.specs.declared.refusals.Stop.TheVariants.{Refused, Memory}
use Rattle.sb_base.specs.declared.tokens.PpKind.{PpKind}
use Rattle.sb_base.specs.declared.tokens.PpKind.TheVariants as kind
use Rattle.sb_lex.specs.declared.piece.PpToken.{PpToken}
use Rattle.sb_lex.specs.Values.{number_of, IsCharacter}
use Rattle.sb_parse.specs.Parser.{Outcome, done, stop}
use Rattle.sb_parse.specs.Read.{IsRefused}
use Rattle.sb_cond.specs.declared.arithmetic.Operand.{Operand}
use Rattle.sb_cond.specs.declared.arithmetic.Operator.TheVariants.{Or, And, BitOr, BitXor, BitAnd, Equal, NotEqual, Less, Greater, AtMost, AtLeast, ShiftLeft, ShiftRight, Add, Subtract, Multiply, Divide, Remainder}
use Rattle.sb_cond.specs.declared.sign.ConditionToken.{ConditionToken}
use Rattle.sb_cond.specs.declared.sign.Sign.{Sign}
use Rattle.sb_cond.specs.declared.sign.Sign.TheVariants as sign
use Rattle.sb_cond.specs.Arithmetic.{is_true, fault_of}
use Rattle.sb_cond.specs.Cut.{IsCut}
use Rattle.sb_cond.specs.Expression.{IsExpression, Sequence}
use Rattle.sb_cond.specs.Readers.{fault_in}

-- ---- the tokens of a line

-- the sign of a punctuator by its spelling (C99 6.4.6)
abbrev pub punctuator_sign : List ℕ → Sign
punctuator_sign text =
    if bytes_eq text (codes "(") then sign.Open
    else if bytes_eq text (codes ")") then sign.Close
    else if bytes_eq text (codes "?") then sign.Question
    else if bytes_eq text (codes ":") then sign.Colon
    else if bytes_eq text (codes ",") then sign.Comma
    else if bytes_eq text (codes "~") then sign.Complement
    else if bytes_eq text (codes "!") then sign.Not
    else if bytes_eq text (codes "||") then sign.Binary Or
    else if bytes_eq text (codes "&&") then sign.Binary And
    else if bytes_eq text (codes "|") then sign.Binary BitOr
    else if bytes_eq text (codes "^") then sign.Binary BitXor
    else if bytes_eq text (codes "&") then sign.Binary BitAnd
    else if bytes_eq text (codes "==") then sign.Binary Equal
    else if bytes_eq text (codes "!=") then sign.Binary NotEqual
    else if bytes_eq text (codes "<") then sign.Binary Less
    else if bytes_eq text (codes ">") then sign.Binary Greater
    else if bytes_eq text (codes "<=") then sign.Binary AtMost
    else if bytes_eq text (codes ">=") then sign.Binary AtLeast
    else if bytes_eq text (codes "<<") then sign.Binary ShiftLeft
    else if bytes_eq text (codes ">>") then sign.Binary ShiftRight
    else if bytes_eq text (codes "+") then sign.Binary Add
    else if bytes_eq text (codes "-") then sign.Binary Subtract
    else if bytes_eq text (codes "*") then sign.Binary Multiply
    else if bytes_eq text (codes "/") then sign.Binary Divide
    else if bytes_eq text (codes "%") then sign.Binary Remainder
    else sign.Other

-- an integer constant has u or U, which is no digit
abbrev pub has_unsigned_suffix : List ℕ → Bool
has_unsigned_suffix text = list_any (λ b. nat_eq b 117 || nat_eq b 85) text

-- a constant is unsigned if it has a suffix u or U, or is 2^63 or more (C99 6.4.4.1, 6.10.1 paragraph 4)
abbrev pub number_sign : List ℕ → Option ℕ → Sign
number_sign text None = sign.Other
number_sign text (Some n) = sign.Number n (has_unsigned_suffix text || nat_le (2 ^ 63) n)

abbrev pub IsCharacterSign : List ℕ → Sign → Type 0
IsCharacterSign text s = ((value : ℕ) × IsCharacter text value × (s ≡ sign.Number value false)) ⊎ (((value : ℕ) → IsCharacter text value → ⊥) × (s ≡ sign.Other))

-- what a piece with this spelling is in a condition; a name that is left is 0
abbrev pub HasSign : PpKind → List ℕ → Sign → Type 0
HasSign kind.Word text s = s ≡ sign.Number 0 false
HasSign kind.Number text s = s ≡ number_sign text (number_of text)
HasSign kind.Char text s = IsCharacterSign text s
HasSign kind.Punct text s = s ≡ punctuator_sign text
HasSign kind.Text text s = s ≡ sign.Other
HasSign kind.Header text s = s ≡ sign.Other

abbrev pub HasSignIn : PpKind → Option (List ℕ) → Sign → Type 0
HasSignIn kind None s = s ≡ sign.Other
HasSignIn kind (Some text) s = HasSign kind text s

-- the token of a piece at a position
pub record IsTokenOf (texts : List (List ℕ)) (k : ℕ) (piece : PpToken) (token : ConditionToken) : Type 0 where
  pub at : token.at ≡ k
  pub sign : HasSignIn piece.kind (slice_get texts piece.text.0) token.sign

-- the tokens that the pieces of a line are, by the table of names
pub record AreTokens (texts : List (List ℕ)) (line : List PpToken) (tokens : List ConditionToken) : Type 0 where
  pub count : length tokens ≡ length line
  pub each : (k : ℕ) (piece : PpToken) (token : ConditionToken) → slice_get line k ≡ Some piece → slice_get tokens k ≡ Some token → IsTokenOf texts k piece token

-- ---- conditions

-- parentheses, operators before an operand and `?:` are nested at most 200 deep
abbrev pub IsCondition : List ConditionToken → Operand → Type 0
IsCondition = IsExpression 200 Sequence

-- the tokens are a condition with a value, which is 0 or not
pub record HasTruth (tokens : List ConditionToken) (holds : Bool) : Type 0 where
  pub operand : Operand
  pub value : ℕ
  pub is : IsCondition tokens operand
  pub valued : operand.value ≡ Ok value
  pub truth : holds ≡ is_true value

-- the first operator without a value in a condition, or in one that is cut off
pub data HasFault : List ConditionToken → Option ℕ → Type 0 where
  whole : (xs : List ConditionToken) (a : Operand) → IsCondition xs a → HasFault xs (fault_of a.value)
  cut : (xs : List ConditionToken) (f : Option ℕ) → IsCut 200 Sequence xs f → HasFault xs f

-- The position at which a line is refused. The tokens are a condition, and the operator there is the first without a value. Or they are none: then it is that of the first such operator
-- before the token at which no condition goes on so, or else of that token, behind the last one where all are read.
pub data IsRefusedAt (tokens : List ConditionToken) : ℕ → Type 0 where
  no_value : (a : Operand) (at : ℕ) → IsCondition tokens a → a.value ≡ Err at → IsRefusedAt tokens at
  no_condition : (front bad : List ConditionToken) (fault : Option ℕ) → tokens ≡ front ++ bad → IsRefused IsCondition tokens (length bad) → HasFault front fault
      → IsRefusedAt tokens (unwrap_or fault (length front))

-- ---- by what the reader gives

abbrev pub truth_of : Result ℕ ℕ → List ConditionToken → ℕ → Result Bool ℕ
truth_of (Err at) rest count = Err at
truth_of (Ok n) [] count = Ok (is_true n)
truth_of (Ok n) (t ∷ rest) count = Err (count - length (t ∷ rest))

abbrev pub judged : ℕ → Outcome ConditionToken Operand → Result Bool ℕ
judged count (done a rest) = truth_of a.value rest count
judged count (stop n left) = Err (unwrap_or (fault_in n) (count - left))

-- ---- lines

-- the place of a piece, or behind the last one that of the end
abbrev pub place_in : List PpToken → Place → ℕ → Place
place_in line end at = unwrap_or (option_map (λ piece. piece.place) (slice_get line at)) end

-- a line whose tokens are a condition with this truth
pub record LineHolds (texts : List (List ℕ)) (line : List PpToken) (holds : Bool) : Type 0 where
  pub tokens : List ConditionToken
  pub are : AreTokens texts line tokens
  pub truth : HasTruth tokens holds

-- a line whose tokens are refused, and the refusal
pub record LineRefused (texts : List (List ℕ)) (line : List PpToken) (end : Place) (refusal : Refusal) : Type 0 where
  pub tokens : List ConditionToken
  pub at : ℕ
  pub are : AreTokens texts line tokens
  pub refused : IsRefusedAt tokens at
  pub is : refusal ≡ record { number = 26; place = place_in line end at; feature = 0 }

-- why a line has no truth: it is refused, or memory ran out
abbrev pub IsLineFault : List (List ℕ) → List PpToken → Place → Stop → Type 0
IsLineFault texts line end (Refused refusal) = LineRefused texts line end refusal
IsLineFault texts line end Memory = Unit {0}

-- what a line with this truth is answered by, unless memory ran out
abbrev pub IsAnswer : Bool → Result Bool Stop → Type 0
IsAnswer holds (Ok answer) = answer ≡ holds
IsAnswer holds (Err (Refused refusal)) = ⊥
IsAnswer holds (Err Memory) = Unit {0}

-- what a line that is refused so is answered by, unless memory ran out
abbrev pub IsRefusal : Refusal → Result Bool Stop → Type 0
IsRefusal refusal (Ok answer) = ⊥
IsRefusal refusal (Err (Refused other)) = other ≡ refusal
IsRefusal refusal (Err Memory) = Unit {0}
