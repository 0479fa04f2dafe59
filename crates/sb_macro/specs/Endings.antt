-- What an expansion gives before it ends, and how it ends (C99 6.10.3). The examples have `#define X(a) a`.
use Rattle.std.specs.Prelude.{◌≡◌, ◌≤◌, ℕ, List, [], ◌∷◌, Some, length, map, slice_get}
use Rattle.sb_base.specs.declared.refusals.Place.{Place}
use Rattle.sb_lex.specs.declared.piece.PpToken.{PpToken}
use Rattle.sb_lex.specs.Places.{IsAmong}
use Rattle.sb_macro.specs.declared.ending.End.{End}
use Rattle.sb_macro.specs.declared.ending.End.TheVariants as end
use Rattle.sb_macro.specs.Expansion.{Scope, Kept, Replaced, Unclosed, Miscounted, step, Gives, EachGives, AreSmall, Stops}
use Rattle.sb_macro.specs.Macros.{Macro}
use Rattle.sb_macro.specs.Tokens.{Tok, fresh}

-- why the expansion ends at the token t, where rest follows it and so many tokens were given before
pub data EndsAt (scope : Scope) (count : ℕ) (t : Tok) (rest : List Tok) : End → Type 0 where
  -- there is no room for one more: in `1 2 3` at the 3, where there is room for two
  too_many : step scope t rest ≡ Kept → count ≡ scope.room → EndsAt scope count t rest (end.Refused 16 t.piece.place)
  -- the list ends before the call is closed: in `0 X(1` at the X
  in_call : step scope t rest ≡ Unclosed → count ≤ scope.room → EndsAt scope count t rest end.Open
  -- another number of arguments than of parameters: in `0 X(1,2)` at the X
  miscounted : step scope t rest ≡ Miscounted → count ≤ scope.room → EndsAt scope count t rest (end.Refused 13 t.piece.place)
  -- an argument is refused, and the ones before it are not: in `0 X(X(1,2))` at the first X
  inside : (m : Macro) (args fulls : List (List Tok)) (after : List Tok) → step scope t rest ≡ Replaced m args after → count ≤ scope.room
      → AreSmall scope.room fulls → EachGives scope args fulls → (arg : List Tok) → slice_get args (length fulls) ≡ Some arg
      → (last : Place) (number : ℕ) (place : Place) → Stops scope last arg number place → EndsAt scope count t rest (end.Refused number t.piece.place)

-- Ends scope list out end: the expansion of the list gives the tokens out, and ends so
pub data Ends (scope : Scope) (list : List Tok) : List Tok → End → Type 0 where
  -- `0 X(1)` gives `0 1`
  whole : (out : List Tok) → Gives scope list out [] → length out ≤ scope.room → Ends scope list out end.Whole
  -- `0 X(1` gives `0` and is open; `0 X(1,2) 3` gives `0` and is refused by 13 at the X
  before : (out : List Tok) (t : Tok) (rest : List Tok) (how : End) → Gives scope list out (t ∷ rest) → EndsAt scope (length out) t rest how → Ends scope list out how

-- the same of a text and the pieces that it gives
pub data TextEnds (scope : Scope) (list pieces : List PpToken) (how : End) : Type 0 where
  text_ends : (out : List Tok) → Ends scope (fresh list) out how → pieces ≡ map (λ t. t.piece) out → TextEnds scope list pieces how

-- a refusal stands at one of these pieces
abbrev pub EndsAmong : List PpToken → End → Type 0
EndsAmong list (end.Refused number place) = IsAmong list place
EndsAmong list _ = Unit {0}

-- the text gives no other pieces, and ends in no other way
abbrev pub IsOnlyEnd : Scope → List PpToken → List PpToken → End → Type 0
IsOnlyEnd scope list pieces how = (others : List PpToken) (other : End) → TextEnds scope list others other → (others ≡ pieces) × (other ≡ how)
