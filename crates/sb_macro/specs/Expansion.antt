-- The expansion of a list of tokens (C99 6.10.3.1, 6.10.3 paragraphs 10 to 12, 6.10.3.4).
--
-- Each token carries the names that it may no longer expand. A replaced name adds itself and all the names that it
-- carried to each token of its replacement, so that no name is expanded within what it gave.
use Rattle.std.specs.Prelude.{◌≡◌, ◌≤◌, ◌-◌, ℕ, Bool, not, ◌&&◌, ◌||◌, true, false, List, [], ◌∷◌, ◌++◌, Option, Some, None, Result, Ok, Err, Vec, if◌then◌else◌, length, map, nat_eq, drop, is_none, slice_get, option_and_then}
use Rattle.std.specs.Option.{option_map_or}
use Rattle.std.specs.declared.alloc.Global.{Global}
use Rattle.sb_base.specs.declared.interning.Name.{Name}
use Rattle.sb_base.specs.declared.refusals.Place.{Place}
use Rattle.sb_base.specs.declared.refusals.Refusal.{Refusal}
use Rattle.sb_base.specs.declared.refusals.Stop.{Stop}
use Rattle.sb_base.specs.declared.refusals.Stop.TheVariants.{Refused, Memory}
use Rattle.sb_base.specs.declared.tokens.PpKind.{PpKind}
use Rattle.sb_base.specs.declared.tokens.PpKind.TheVariants.{Word}
use Rattle.sb_lex.specs.declared.piece.PpToken.{PpToken}
use Rattle.sb_macro.specs.declared.marks.Mark.{Mark}
use Rattle.sb_macro.specs.declared.marks.Mark.TheVariants.{Open}
use Rattle.sb_macro.specs.Arguments.{Split, arguments, arguments_for, needed_arguments}
use Rattle.sb_macro.specs.Halts.{nowhere}
use Rattle.sb_macro.specs.Macros.{Macro, holds, macro_named}
use Rattle.sb_macro.specs.Marks.{mark_of}
use Rattle.sb_macro.specs.Replacement.{replacement}
use Rattle.sb_macro.specs.Tokens.{Tok, fresh}

-- what an expansion depends on: the texts of the names, the macros, and how many tokens it may give
pub record Scope : Type 0 where
  pub texts : List (List ℕ)
  pub macros : List Macro
  pub room : ℕ

abbrev pub is_word : PpKind → Bool
is_word Word = true
is_word _ = false

abbrev pub is_open : Mark → Bool
is_open Open = true
is_open _ = false

-- whether the next token is a `(`
abbrev pub opens : List (List ℕ) → List Tok → Bool
opens texts [] = false
opens texts (t ∷ rest) = is_open (mark_of texts t.piece.text)

-- a function-like macro is called only where a `(` follows its name (C99 6.10.3 paragraph 10)
abbrev pub if_called : List (List ℕ) → List Tok → Macro → Option Macro
if_called texts rest m = if is_none m.params || opens texts rest then Some m else None

-- the macro that the token t is replaced by, where rest follows it
abbrev pub called_macro : Scope → Tok → List Tok → Option Macro
called_macro scope t rest =
    if is_word t.piece.kind && not (holds t.hidden t.piece.text)
    then option_and_then (if_called scope.texts rest) (macro_named scope.macros t.piece.text)
    else None

-- what is to be done with a token: it stays, or a macro is to replace it, whose arguments are to be expanded first and
-- behind which the text goes on after them; or its arguments are not closed, or of another number than the parameters
pub data Step : Type 0 where
  Kept : Step
  Replaced : (m : Macro) → (args : List (List Tok)) → (after : List Tok) → Step
  Unclosed : Step
  Miscounted : Step

abbrev pub step_with : Macro → List Name → Option Split → Step
step_with m params None = Unclosed
step_with m params (Some split) =
    if nat_eq (length (arguments_for params split.0)) (length params)
    then Replaced m (needed_arguments m.body params (arguments_for params split.0)) split.1
    else Miscounted

abbrev pub step_by : List (List ℕ) → Macro → Option (List Name) → List Tok → Step
step_by texts m None rest = Replaced m [] rest
step_by texts m (Some params) rest = step_with m params (arguments texts 0 (drop 1 rest))

abbrev pub step_of : List (List ℕ) → List Tok → Option Macro → Step
step_of texts rest None = Kept
step_of texts rest (Some m) = step_by texts m m.params rest

-- what is to be done with the token t, where rest follows it
abbrev pub step : Scope → Tok → List Tok → Step
step scope t rest = step_of scope.texts rest (called_macro scope t rest)

-- no expanded argument has more tokens than there is room for
abbrev pub AreSmall : ℕ → List (List Tok) → Type 0
AreSmall room fulls = (k : ℕ) (full : List Tok) → slice_get fulls k ≡ Some full → length full ≤ room

-- Gives scope list out rest: the front of the list gives the tokens out, and rest is still to be read.
-- The arguments of a call are expanded each by itself, as if they were the rest of the text, and what the replacement
-- gives is read again together with the rest of the list.
pub data Gives (scope : Scope) : List Tok → List Tok → List Tok → Type 0 where
  start : (list : List Tok) → Gives scope list [] list
  kept : (t : Tok) (rest out last : List Tok) → step scope t rest ≡ Kept → Gives scope rest out last → Gives scope (t ∷ rest) (t ∷ out) last
  replaced : (t : Tok) (rest out last : List Tok) (m : Macro) (args fulls : List (List Tok)) (after : List Tok)
      → step scope t rest ≡ Replaced m args after → length fulls ≡ length args → AreSmall scope.room fulls
      → ((k : ℕ) (arg full : List Tok) → slice_get args k ≡ Some arg → slice_get fulls k ≡ Some full → Gives scope arg full [])
      → Gives scope (replacement m fulls t ++ after) out last → Gives scope (t ∷ rest) out last

-- the first of these arguments give these
abbrev pub EachGives : Scope → List (List Tok) → List (List Tok) → Type 0
EachGives scope args fulls = (k : ℕ) (arg full : List Tok) → slice_get args k ≡ Some arg → slice_get fulls k ≡ Some full → Gives scope arg full []

-- Stops scope last list number place: the expansion of the list is refused with this number at this place, where last is
-- the place of the last piece of the text.
pub data Stops (scope : Scope) : Place → List Tok → ℕ → Place → Type 0 where
  -- more tokens than there is room for: 16 at the first of them
  too_many : (last : Place) (list out : List Tok) (t : Tok) (rest : List Tok) → Gives scope list out (t ∷ rest) → length out ≡ scope.room
      → step scope t rest ≡ Kept → Stops scope last list 16 t.piece.place
  -- no `)` closes a call: 14 at the end of the text
  unclosed : (last : Place) (list out : List Tok) (t : Tok) (rest : List Tok) → Gives scope list out (t ∷ rest) → length out ≤ scope.room
      → step scope t rest ≡ Unclosed → Stops scope last list 14 last
  -- another number of arguments than of parameters: 13 at the name
  miscounted : (last : Place) (list out : List Tok) (t : Tok) (rest : List Tok) → Gives scope list out (t ∷ rest) → length out ≤ scope.room
      → step scope t rest ≡ Miscounted → Stops scope last list 13 t.piece.place
  -- an argument is refused, and the ones before it are not: its number at the name
  inside : (last : Place) (list out : List Tok) (t : Tok) (rest : List Tok) → Gives scope list out (t ∷ rest) → length out ≤ scope.room
      → (m : Macro) (args fulls : List (List Tok)) (after : List Tok) → step scope t rest ≡ Replaced m args after
      → AreSmall scope.room fulls → EachGives scope args fulls → (arg : List Tok) → slice_get args (length fulls) ≡ Some arg
      → (end : Place) (number : ℕ) (place : Place) → Stops scope end arg number place → Stops scope last list number t.piece.place

-- the expansion of a text gives these pieces
pub data Expanded (scope : Scope) (list pieces : List PpToken) : Type 0 where
  expands : (out : List Tok) → Gives scope (fresh list) out [] → length out ≤ scope.room → pieces ≡ map (λ t. t.piece) out → Expanded scope list pieces

-- the place of the last piece of a text
abbrev pub place_of_last : List PpToken → Place
place_of_last list = option_map_or (λ t. t.place) (slice_get list (length list - 1)) nowhere

-- the refusal of a text, or want of memory, which may come at any time
abbrev pub IsStop : Scope → List PpToken → Stop → Type 0
IsStop scope list (Refused r) = Stops scope (place_of_last list) (fresh list) r.number r.place × (r.feature ≡ 0)
IsStop scope list Memory = Unit {0}

-- the answer is the only one that there is: a text that has an expansion has no other and is not refused, and one that
-- is refused has none and no other refusal
abbrev pub IsOnlyAnswer : Scope → List PpToken → Result (Vec PpToken Global) Stop → Type 0
IsOnlyAnswer scope list (Ok out) =
    ((pieces : List PpToken) → Expanded scope list pieces → pieces ≡ out.items) × ((r : Refusal) → IsStop scope list (Refused r) → ⊥)
IsOnlyAnswer scope list (Err (Refused r)) =
    ((pieces : List PpToken) → Expanded scope list pieces → ⊥) × ((other : Refusal) → IsStop scope list (Refused other) → other ≡ r)
IsOnlyAnswer scope list (Err Memory) = Unit {0}
