-- the tokens that pieces become (C99 5.1.1.2, phases 5 to 7): values of numbers and characters, adjacent string literals joined
use Rattle.std.specs.Prelude.{◌≡◌, ℕ, ◌<◌, Bool, true, false, List, [], ◌∷◌, ◌++◌, Some, slice_get, take, drop}
use Rattle.std.specs.List.{prefix_len}
use Rattle.sb_base.specs.Names.{with_text}
use Rattle.sb_base.specs.declared.refusals.Stop.{Stop}
use Rattle.sb_base.specs.declared.refusals.Stop.TheVariants as stop
use Rattle.sb_base.specs.declared.tokens.PpKind.{PpKind}
use Rattle.sb_base.specs.declared.tokens.PpKind.TheVariants as kind
use Rattle.sb_base.specs.declared.tokens.Token.{Token}
use Rattle.sb_lex.specs.declared.piece.PpToken.{PpToken}
use Rattle.sb_lex.specs.Lexing.{HasRoom}
use Rattle.sb_lex.specs.Values.{number_of, IsCharacter, IsText}
use Rattle.sb_directive.specs.Lines.{spelling}
use Rattle.sb_directive.specs.Ending.{Ending, Ended, Refused}

abbrev pub is_text_kind : PpKind → Bool
is_text_kind kind.Text = true
is_text_kind _ = false

-- with how many string literals a list begins
abbrev pub texts_in_front : List PpToken → ℕ
texts_in_front ts = prefix_len (λ t. is_text_kind t.kind) ts

-- the value of a piece that is no string literal
abbrev pub HasValueOf : PpKind → List ℕ → ℕ → Type 0
HasValueOf kind.Number text value = number_of text ≡ Some value
HasValueOf kind.Char text value = IsCharacter text value
HasValueOf _ text value = value ≡ 0

-- string literals, and the bytes that they name one behind the other
pub data NameBytes (texts : List (List ℕ)) : List PpToken → List ℕ → Type 0 where
  none : NameBytes texts [] []
  one : (t : PpToken) (ts : List PpToken) (bytes more : List ℕ) → IsText (spelling texts t) bytes → NameBytes texts ts more → NameBytes texts (t ∷ ts) (bytes ++ more)

-- the tokens of pieces, with the table of names, of at most `limit` texts, before and after them. The text of a string literal's token is the bytes that it names
pub data Converts (limit : ℕ) : List (List ℕ) → List PpToken → List Token → List (List ℕ) → Ending → Type 0 where
  ended : (texts : List (List ℕ)) → Converts limit texts [] [] texts Ended
  token : (texts later : List (List ℕ)) (t : PpToken) (ts : List PpToken) (more : List Token) (end : Ending) (value : ℕ)
      → is_text_kind t.kind ≡ false → HasValueOf t.kind (spelling texts t) value → Converts limit texts ts more later end
      → Converts limit texts (t ∷ ts) (record { kind = t.kind; text = t.text; place = t.place; value = value } ∷ more) later end
  no_value : (texts : List (List ℕ)) (t : PpToken) (ts : List PpToken)
      → is_text_kind t.kind ≡ false → ((value : ℕ) → HasValueOf t.kind (spelling texts t) value → ⊥)
      → Converts limit texts (t ∷ ts) [] texts (Refused 4 t.place)
  literals : (texts later : List (List ℕ)) (t : PpToken) (ts : List PpToken) (more : List Token) (end : Ending) (bytes : List ℕ) (number : ℕ)
      → is_text_kind t.kind ≡ true → NameBytes texts (take (texts_in_front (t ∷ ts)) (t ∷ ts)) bytes
      → HasRoom limit texts bytes → slice_get (with_text texts bytes) number ≡ Some bytes
      → Converts limit (with_text texts bytes) (drop (texts_in_front (t ∷ ts)) (t ∷ ts)) more later end
      → Converts limit texts (t ∷ ts) (record { kind = kind.Text; text = record { 0 = number }; place = t.place; value = 0 } ∷ more) later end
  no_bytes : (texts : List (List ℕ)) (t u : PpToken) (ts : List PpToken) (bytes : List ℕ) (good : ℕ)
      → is_text_kind t.kind ≡ true → good < texts_in_front (t ∷ ts) → NameBytes texts (take good (t ∷ ts)) bytes → slice_get (t ∷ ts) good ≡ Some u
      → ((more : List ℕ) → IsText (spelling texts u) more → ⊥)
      → Converts limit texts (t ∷ ts) [] texts (Refused 4 u.place)
  no_room : (texts : List (List ℕ)) (t : PpToken) (ts : List PpToken) (bytes : List ℕ)
      → is_text_kind t.kind ≡ true → NameBytes texts (take (texts_in_front (t ∷ ts)) (t ∷ ts)) bytes → (HasRoom limit texts bytes → ⊥)
      → Converts limit texts (t ∷ ts) [] texts (Refused 28 t.place)

-- pieces are refused at a place, behind the tokens before it; want of memory may come at any time
abbrev pub IsNoTokens : (limit : ℕ) → List (List ℕ) → List PpToken → List (List ℕ) → Stop → Type 0
IsNoTokens limit texts ps later (stop.Refused r) = ((ts : List Token) × Converts limit texts ps ts later (Refused r.number r.place)) × (r.feature ≡ 0)
IsNoTokens limit texts ps later stop.Memory = Unit {0}

-- pieces have one list of tokens, one table behind it and one ending
abbrev pub HasOneConversion : (limit : ℕ) → List (List ℕ) → List PpToken → Type 0
HasOneConversion limit texts ps =
    (ts us : List Token) (later other : List (List ℕ)) (end stop : Ending) → Converts limit texts ps ts later end → Converts limit texts ps us other stop → (ts ≡ us) × (later ≡ other) × (end ≡ stop)
