-- Whether an `#if` holds (C99 6.10.1): the operator `defined` is replaced, then macros are, and then the expression is judged. The refusal that stands first in the text stands.
use Rattle.std.specs.Prelude.{◌≡◌, ℕ, Bool, true, false, ◌&&◌, ◌||◌, not, List, Option, Some, None, if◌then◌else◌, nat_eq, nat_lt}
use Rattle.sb_base.specs.declared.refusals.Place.{Place}
use Rattle.sb_lex.specs.declared.piece.PpToken.{PpToken}
use Rattle.sb_macro.specs.declared.ending.End.{End}
use Rattle.sb_macro.specs.declared.ending.End.TheVariants as end
use Rattle.sb_cond.specs.Condition.{LineHolds, LineRefused}
use Rattle.sb_cond.specs.Front.{FrontRefused}
use Rattle.sb_directive.specs.Defined.{Prepared}
use Rattle.sb_directive.specs.Ending.{Ending, Ended, Refused}
use Rattle.sb_directive.specs.Limits.{most_tokens}
use Rattle.sb_directive.specs.Lines.{end_of}
use Rattle.sb_directive.specs.Rules.{Table, IsExpansion, HasEnded}

-- whether a place stands before another one of its file
abbrev pub is_before : Place → Place → Bool
is_before place other = nat_lt place.line other.line || (nat_eq place.line other.line && nat_lt place.col other.col)

abbrev pub is_refused : End → Bool
is_refused (end.Refused number place) = true
is_refused _ = false

-- Macros or an operator `defined` refuse a line by this number at this place; macros give these pieces of what stands before that. In the examples there is `#define X(a) a`.
pub data StopsBehind (limit : ℕ) (texts : List (List ℕ)) (table : Table) (at : Place) (line : List PpToken) : List PpToken → ℕ → Place → List (List ℕ) → Type 0 where
  -- macros do, in the line or in what stands before a bad `defined`: `0 X(1,2)` by 13 at the X, behind `0`, and `1 2 X(1,2) defined` too, behind `1 2`
  in_macros : (pieces given : List PpToken) (ending : Ending) (number : ℕ) (place : Place) (later : List (List ℕ)) → Prepared limit table texts line pieces later ending
      → HasEnded later table most_tokens pieces given (end.Refused number place) → StopsBehind limit texts table at line given number place later
  -- the line ends before a call is closed: `0 X(` by 14 at the last piece, behind `0`
  in_call : (pieces given : List PpToken) (later : List (List ℕ)) → Prepared limit table texts line pieces later Ended
      → HasEnded later table most_tokens pieces given end.Open → StopsBehind limit texts table at line given 14 (end_of at pieces) later
  -- the operator does: `1 + X(2) defined` by 26 at `defined`, behind `1 + 2`; a call that is open there is cut off, so `1 + X(2 defined` too, behind `1 +`
  at_operator : (pieces given : List PpToken) (how : End) (number : ℕ) (place : Place) (later : List (List ℕ)) → Prepared limit table texts line pieces later (Refused number place)
      → HasEnded later table most_tokens pieces given how → is_refused how ≡ false → StopsBehind limit texts table at line given number place later

-- whether a 26 at the place `first` comes before a refusal by this number at this place: at one place the smaller number does
abbrev pub comes_first : Place → ℕ → Place → Bool
comes_first first number place = is_before first place || (not (is_before place first) && nat_lt 26 number)

-- The refusal of a line that is refused so, where what was given before begins no condition from the place `first` on, if there is one: the sooner of the two.
-- `) X(1,2)` is 26 at `)`, `0 X(1,2)` is 13 at the X. With `#define Y 3 / 0 X(1,2)` both stand at the Y of `2 + Y`, and it is 13.
abbrev pub sooner : ℕ → Place → Option Place → ℕ × Place
sooner number place None = (number, place)
sooner number place (Some first) = if comes_first first number place then (26, first) else (number, place)

-- the pieces behind `#if` or `#elif`, whose word stands at a place, have this truth value; the table of names before and after
pub data HasTruth (limit : ℕ) (texts : List (List ℕ)) (table : Table) (at : Place) (line : List PpToken) : Bool → List (List ℕ) → Type 0 where
  holds : (prepared out : List PpToken) (truth : Bool) (later : List (List ℕ)) → Prepared limit table texts line prepared later Ended → IsExpansion later table most_tokens prepared out
      → LineHolds later out truth → HasTruth limit texts table at line truth later

-- They are refused by this number at this place. Where the expression ends too early that is the place of the last piece, or of the word where there is none.
pub data HasNoTruth (limit : ℕ) (texts : List (List ℕ)) (table : Table) (at : Place) (line : List PpToken) : ℕ → Place → Type 0 where
  stopped : (given : List PpToken) (number n : ℕ) (place p : Place) (first : Option Place) (later : List (List ℕ)) → StopsBehind limit texts table at line given number place later
      → FrontRefused later given place first → sooner number place first ≡ (n, p) → HasNoTruth limit texts table at line n p
  no_condition : (prepared out : List PpToken) (number : ℕ) (place : Place) (later : List (List ℕ)) → Prepared limit table texts line prepared later Ended
      → IsExpansion later table most_tokens prepared out → LineRefused later out (end_of at line) (record { number = number; place = place; feature = 0 })
      → HasNoTruth limit texts table at line number place

-- a condition has one truth value and one table of names behind it, or one refusal
pub record HasOneAnswer (limit : ℕ) (texts : List (List ℕ)) (table : Table) (at : Place) (line : List PpToken) : Type 0 where
  pub truth : (a b : Bool) (later other : List (List ℕ)) → HasTruth limit texts table at line a later → HasTruth limit texts table at line b other → (a ≡ b) × (later ≡ other)
  pub never : (a : Bool) (later : List (List ℕ)) (number : ℕ) (place : Place) → HasTruth limit texts table at line a later → HasNoTruth limit texts table at line number place → ⊥
  pub refusal : (number n : ℕ) (place p : Place) → HasNoTruth limit texts table at line number place → HasNoTruth limit texts table at line n p → (number ≡ n) × (place ≡ p)
