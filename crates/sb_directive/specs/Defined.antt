-- the operator `defined` of a condition (C99 6.10.1 paragraph 1), which is replaced before macros are
use Rattle.std.specs.Prelude.{◌≡◌, ℕ, Bool, true, false, ◌&&◌, List, [], ◌∷◌, Some, slice_get, codes}
use Rattle.sb_base.specs.Names.{with_text}
use Rattle.sb_base.specs.declared.interning.Name.{Name}
use Rattle.sb_base.specs.declared.refusals.Place.{Place}
use Rattle.sb_base.specs.declared.tokens.PpKind.{PpKind}
use Rattle.sb_base.specs.declared.tokens.PpKind.TheVariants as kind
use Rattle.sb_lex.specs.declared.piece.PpToken.{PpToken}
use Rattle.sb_lex.specs.Lexing.{HasRoom}
use Rattle.sb_directive.specs.Ending.{Ending, Ended, Refused}
use Rattle.sb_directive.specs.Lines.{is_spelled, is_word}
use Rattle.sb_directive.specs.Rules.{Table, is_macro}

abbrev pub is_punct : PpKind → Bool
is_punct kind.Punct = true
is_punct _ = false

-- this punctuator
abbrev pub is_mark : List ℕ → List (List ℕ) → PpToken → Bool
is_mark mark texts t = is_punct t.kind && is_spelled mark texts t

-- the operator itself
abbrev pub is_defined : List (List ℕ) → PpToken → Bool
is_defined texts t = is_word t && is_spelled (codes "defined") texts t

-- the pieces behind the operator name this, and these are behind that: `NAME` or `( NAME )`
pub data HasName (texts : List (List ℕ)) : List PpToken → Name → List PpToken → Type 0 where
  bare : (name : PpToken) (rest : List PpToken) → is_word name ≡ true → HasName texts (name ∷ rest) name.text rest
  wrapped : (open1 name close : PpToken) (rest : List PpToken) → is_mark (codes "(") texts open1 ≡ true → is_word name ≡ true → is_mark (codes ")") texts close ≡ true
      → HasName texts (open1 ∷ name ∷ close ∷ rest) name.text rest

-- the pieces behind an operator that stands at `at` name nothing: by the piece there, which is the last of the line where that ends too early
pub data HasNoName (texts : List (List ℕ)) (at : Place) : List PpToken → Place → Type 0 where
  ends : HasNoName texts at [] at
  no_name : (t : PpToken) (ts : List PpToken) → is_word t ≡ false → is_mark (codes "(") texts t ≡ false → HasNoName texts at (t ∷ ts) t.place
  ends_inside : (open1 : PpToken) → is_mark (codes "(") texts open1 ≡ true → HasNoName texts at (open1 ∷ []) open1.place
  no_name_inside : (open1 t : PpToken) (ts : List PpToken) → is_mark (codes "(") texts open1 ≡ true → is_word t ≡ false → HasNoName texts at (open1 ∷ t ∷ ts) t.place
  ends_behind : (open1 name : PpToken) → is_mark (codes "(") texts open1 ≡ true → is_word name ≡ true → HasNoName texts at (open1 ∷ name ∷ []) name.place
  no_close : (open1 name t : PpToken) (ts : List PpToken) → is_mark (codes "(") texts open1 ≡ true → is_word name ≡ true → is_mark (codes ")") texts t ≡ false
      → HasNoName texts at (open1 ∷ name ∷ t ∷ ts) t.place

-- how the number is spelled by which the operator is replaced
abbrev pub digit_of : Bool → List ℕ
digit_of true = codes "1"
digit_of false = codes "0"

-- the number, where the operator stood
abbrev pub replaced_by : PpToken → ℕ → PpToken
replaced_by t number = record { kind = kind.Number; text = record { 0 = number }; place = t.place; first = t.first; spaced = t.spaced }

-- the pieces of a line with each operator `defined` replaced, with the table of names, of at most `limit` texts, before and after them
pub data Prepared (limit : ℕ) (table : Table) : List (List ℕ) → List PpToken → List PpToken → List (List ℕ) → Ending → Type 0 where
  ended : (texts : List (List ℕ)) → Prepared limit table texts [] [] texts Ended
  other : (texts later : List (List ℕ)) (t : PpToken) (ts out : List PpToken) (end : Ending)
      → is_defined texts t ≡ false → Prepared limit table texts ts out later end → Prepared limit table texts (t ∷ ts) (t ∷ out) later end
  replaced : (texts later : List (List ℕ)) (t : PpToken) (ts rest out : List PpToken) (end : Ending) (name : Name) (number : ℕ) (digit : List ℕ)
      → is_defined texts t ≡ true → HasName texts ts name rest → digit ≡ digit_of (is_macro table name)
      → HasRoom limit texts digit → slice_get (with_text texts digit) number ≡ Some digit
      → Prepared limit table (with_text texts digit) rest out later end → Prepared limit table texts (t ∷ ts) (replaced_by t number ∷ out) later end
  no_name : (texts : List (List ℕ)) (t : PpToken) (ts : List PpToken) (place : Place)
      → is_defined texts t ≡ true → HasNoName texts t.place ts place → Prepared limit table texts (t ∷ ts) [] texts (Refused 26 place)
  no_room : (texts : List (List ℕ)) (t : PpToken) (ts rest : List PpToken) (name : Name)
      → is_defined texts t ≡ true → HasName texts ts name rest → (HasRoom limit texts (digit_of (is_macro table name)) → ⊥)
      → Prepared limit table texts (t ∷ ts) [] texts (Refused 28 t.place)

-- a line is prepared in one way
abbrev pub HasOnePreparation : (limit : ℕ) → Table → List (List ℕ) → List PpToken → Type 0
HasOnePreparation limit table texts line =
    (out more : List PpToken) (later other : List (List ℕ)) (end stop : Ending) → Prepared limit table texts line out later end → Prepared limit table texts line more other stop
    → (out ≡ more) × (later ≡ other) × (end ≡ stop)
