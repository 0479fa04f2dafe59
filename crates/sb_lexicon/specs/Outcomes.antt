-- What a call answers where tokens are read: the refusal of a stop, and in the subject's words the longest text or why there is none.
use Rattle.std.specs.Prelude.{◌≡◌, ◌⊎◌, ℕ, ◌-◌, ◌+◌, ◌||◌, true, false, List, [], ◌∷◌, ◌++◌, length, drop, max, nat_lt, slice_get, Result, Ok, Err, if◌then◌else◌}
use Rattle.std.specs.Option.{option_map_or}
use Rattle.sb_base.specs.declared.interning.Name.{Name}
use Rattle.sb_base.specs.declared.refusals.Place.{Place}
use Rattle.sb_base.specs.declared.refusals.Refusal.{Refusal}
use Rattle.sb_base.specs.declared.refusals.Stop.{Stop}
use Rattle.sb_base.specs.declared.refusals.Stop.TheVariants.{Refused, Memory}
use Rattle.sb_base.specs.declared.tokens.Token.{Token}
use Rattle.sb_parse.specs.Parser.{Outcome, done, stop}
use Rattle.sb_parse.specs.Read.{CanBegin, IsLongest, IsRefused}
use Rattle.sb_lexicon.specs.Lexicon.{Lexicon}
use Rattle.sb_lexicon.specs.declared.reading.ReadFault.{ReadFault}
use Rattle.sb_lexicon.specs.declared.reading.ReadFault.TheVariants as fault
use Rattle.sb_lexicon.specs.Meaning.{stop_number}

-- some text begins with the first tokens and the one after them
abbrev pub GoesOn : {A : Type 0} → (List Token → A → Type 0) → List Token → List Token → Type 0
GoesOn Is front [] = ⊥
GoesOn Is front (t ∷ rest) = CanBegin Is (front ++ (t ∷ []))

-- ---- refusals

-- The number of a refusal by that of a stop. From 100 on a stop names a feature that is left out; from 1,000 on the tokens show that an argument that began so many tokens before is of another kind;
-- from 2,001 on the tokens show that a word so many tokens before is no annotation, and from 3,000 on that an annotation so many tokens before may not stand there.
abbrev pub number_of : ℕ → ℕ
number_of n = if nat_lt n 100 then n else (if nat_lt n 1000 then 33 else (if nat_lt n 2000 then 35 else (if nat_lt n 3000 then 36 else 37)))

-- the feature that a refusal names, or 0
abbrev pub feature_of : ℕ → ℕ
feature_of n = if nat_lt n 100 || nat_lt 999 n then 0 else n - 100

-- the tokens left at the place of a refusal, by those left where the stop was shown
abbrev pub left_of : ℕ → ℕ → ℕ
left_of n left =
    if nat_lt n 1000 then left
    else (if nat_lt n 2000 then left + (n - 1000)
    else (if nat_lt n 3000 then left + (n - 2000)
    else left + (n - 3000)))

abbrev pub nowhere : Place
nowhere = record { file = 0; line = 0; col = 0 }

-- where a list of tokens is refused: at the first of the last `left` tokens, at its last token where none is left, and nowhere in an empty list
abbrev pub place_of : List Token → ℕ → Place
place_of tokens left = option_map_or (λ t. t.place) (slice_get tokens (length tokens - max left 1)) nowhere

-- a stop of a reader as the refusal of a list of tokens
pub record IsStop (tokens : List Token) (n left : ℕ) (r : Refusal) : Type 0 where
  pub number : r.number ≡ number_of n
  pub feature : r.feature ≡ feature_of n
  pub place : r.place ≡ place_of tokens (left_of n left)

-- a fault in a list of tokens, as a call answers it
abbrev pub IsStopBy : List Token → ReadFault → Stop → Type 0
IsStopBy tokens (fault.Refused reason left) (Refused r) = IsStop tokens (stop_number reason) left r
IsStopBy tokens (fault.Refused reason left) Memory = ⊥
IsStopBy tokens fault.Memory (Refused r) = ⊥
IsStopBy tokens fault.Memory Memory = Unit {0}

pub record IsRefusedBy {A : Type 0} (o : Outcome Token A) (tokens : List Token) (r : Refusal) : Type 0 where
  pub number : ℕ
  pub left : ℕ
  pub stops : o ≡ stop number left
  pub is : IsStop tokens number left r

-- a reader's outcome in a list of tokens as a call answers it; `gives a e`: e is how the call answers a
abbrev pub IsOutcome : {A E : Type 0} → (A → E → Type 0) → Outcome Token A → List Token → ℕ → Result E Stop → Type 0
IsOutcome gives o tokens next (Ok e) = (a : _) × (o ≡ done a (drop next tokens)) × gives a e
IsOutcome gives o tokens next (Err (Refused r)) = IsRefusedBy o tokens r
IsOutcome gives o tokens next (Err Memory) = Unit {0}

abbrev pub lexicon : List (List ℕ) → List Name → Lexicon
lexicon texts types = record { texts = texts; types = types; in_note = false }

-- in the arguments of an annotation
abbrev pub note_lexicon : List (List ℕ) → List Name → Lexicon
note_lexicon texts types = record { texts = texts; types = types; in_note = true }

-- ---- in the grammar's words

-- no text fits at all, and the list is refused at its first token
pub record HasNone {A : Type 0} (Is : List Token → A → Type 0) (ts : List Token) (left : ℕ) : Type 0 where
  pub left_is : left ≡ length ts
  pub none : (xs : List Token) (a : A) → Is xs a → ⊥

-- a list is refused where no text that fits goes on, and at its first token where there is no such text
abbrev pub IsRefusedThere : {A : Type 0} → (List Token → A → Type 0) → List Token → ℕ → Type 0
IsRefusedThere Is ts left = IsRefused Is ts left ⊎ HasNone Is ts left

-- an answer is the longest text that fits; after a refusal no text that fits goes on with the token at its place
abbrev pub IsLongestRead : {A E : Type 0} → (List Token → A → Type 0) → (A → E → Type 0) → List Token → (next now : ℕ) → Result E Stop → Type 0
IsLongestRead Is gives tokens next now (Ok e) = (a : _) × IsLongest Is (drop next tokens) a (drop now tokens) × gives a e
IsLongestRead Is gives tokens next now (Err (Refused r)) = (n : ℕ) × (left : ℕ) × IsStop tokens n left r × IsRefusedThere Is (drop next tokens) left
IsLongestRead Is gives tokens next now (Err Memory) = Unit {0}
