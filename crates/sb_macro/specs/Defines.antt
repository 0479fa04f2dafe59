-- The definitions of macros (C99 6.10.3), and what they do to a table.
use Rattle.std.specs.Prelude.{◌≡◌, ℕ, false, List, [], ◌∷◌, ◌++◌, Option, Some, None, Result, Ok, Err, if◌then◌else◌}
use Rattle.sb_base.specs.declared.interning.Name.{Name}
use Rattle.sb_base.specs.declared.refusals.Refusal.{Refusal}
use Rattle.sb_base.specs.declared.refusals.Stop.{Stop}
use Rattle.sb_base.specs.declared.refusals.Stop.TheVariants.{Refused, Memory}
use Rattle.sb_base.specs.declared.tokens.PpKind.TheVariants.{Word}
use Rattle.sb_lex.specs.declared.piece.PpToken.{PpToken}
use Rattle.sb_macro.specs.declared.marks.Mark.TheVariants.{Open, Close, Comma, Other}
use Rattle.sb_macro.specs.Definition.{definition, first_hash, parts}
use Rattle.sb_macro.specs.Expansion.{is_word}
use Rattle.sb_macro.specs.Halts.{refusal}
use Rattle.sb_macro.specs.Macros.{Macro, holds, macro_named, with_macro}
use Rattle.sb_macro.specs.Marks.{mark_of}

-- a word that may name a parameter
pub record IsIdentifier (texts : List (List ℕ)) (t : PpToken) : Type 0 where
  pub word : t.kind ≡ Word
  pub plain : mark_of texts t.text ≡ Other

-- identifier-list: identifiers with commas between them, no two of one name
pub data IsIdentifierList (texts : List (List ℕ)) : List PpToken → List Name → Type 0 where
  one : (t : PpToken) → IsIdentifier texts t → IsIdentifierList texts (t ∷ []) (t.text ∷ [])
  more : (list : List PpToken) (params : List Name) (comma t : PpToken) → IsIdentifierList texts list params → mark_of texts comma.text ≡ Comma
      → IsIdentifier texts t → holds params t.text ≡ false → IsIdentifierList texts (list ++ comma ∷ t ∷ []) (params ++ t.text ∷ [])

-- a `(` directly behind the name
pub record OpensList (texts : List (List ℕ)) (t : PpToken) : Type 0 where
  pub opens : mark_of texts t.text ≡ Open
  pub directly : t.spaced ≡ false

abbrev pub BeginsList : List (List ℕ) → List PpToken → Type 0
BeginsList texts [] = ⊥
BeginsList texts (t ∷ rest) = OpensList texts t

-- a replacement list: no `#` and no `##` stands in it
abbrev pub IsReplacement : List (List ℕ) → List PpToken → Type 0
IsReplacement texts list = first_hash texts list ≡ None

-- the line defines the macro: `identifier replacement-list`, or `identifier lparen identifier-list(opt) ) replacement-list`
pub data Defines (texts : List (List ℕ)) : List PpToken → Macro → Type 0 where
  object_like : (name : PpToken) (body : List PpToken) → name.kind ≡ Word → (BeginsList texts body → ⊥) → IsReplacement texts body
      → Defines texts (name ∷ body) (record { name = name.text; params = None; body = parts body })
  without_params : (name open1 close : PpToken) (body : List PpToken) → name.kind ≡ Word → OpensList texts open1 → mark_of texts close.text ≡ Close → IsReplacement texts body
      → Defines texts (name ∷ open1 ∷ close ∷ body) (record { name = name.text; params = Some []; body = parts body })
  with_params : (name open1 : PpToken) (list : List PpToken) (close : PpToken) (params : List Name) (body : List PpToken) → name.kind ≡ Word → OpensList texts open1
      → IsIdentifierList texts list params → mark_of texts close.text ≡ Close → IsReplacement texts body
      → Defines texts (name ∷ open1 ∷ (list ++ close ∷ body)) (record { name = name.text; params = Some params; body = parts body })

-- a macro of the name that a line begins with
abbrev pub macro_at : List Macro → List PpToken → Option Macro
macro_at table [] = None
macro_at table (name ∷ rest) = if is_word name.kind then macro_named table name.text else None

-- the table holds the macro that the line defines: it was new, or an identical one stood there
pub data IsDefined (texts : List (List ℕ)) (before : List Macro) (line : List PpToken) (now : List Macro) : Type 0 where
  defined : (m : Macro) → Defines texts line m → ((other : Macro) → macro_named before m.name ≡ Some other → other ≡ m) → now ≡ with_macro before m → IsDefined texts before line now

-- the line is refused
pub data IsRefused (texts : List (List ℕ)) (before : List Macro) : List PpToken → Refusal → Type 0 where
  -- its name is that of a macro, and the line is no definition of that: 12 at the name
  conflicts : (name : PpToken) (rest : List PpToken) (other : Macro) → macro_at before (name ∷ rest) ≡ Some other → (Defines texts (name ∷ rest) other → ⊥)
      → IsRefused texts before (name ∷ rest) (refusal 12 name.place)
  -- its name is that of no macro, and the line is no definition: 11 or 15 at the first piece that makes it bad
  malformed : (line : List PpToken) (r : Refusal) → macro_at before line ≡ None → definition texts line ≡ Err r → IsRefused texts before line r

-- the refusal of a line, or want of memory, which may come at any time
abbrev pub RefusesLine : List (List ℕ) → List Macro → List PpToken → Stop → Type 0
RefusesLine texts before line (Refused r) = IsRefused texts before line r
RefusesLine texts before line Memory = Unit {0}

-- the answer is the only one that there is: a line that defines a macro leaves one table and is not refused, and one that
-- is refused defines none and has no other refusal
abbrev pub IsOnlyTable : {A : Type 0} → List (List ℕ) → List Macro → List PpToken → Result A Stop → List Macro → Type 0
IsOnlyTable texts before line (Ok done) now = ((other : List Macro) → IsDefined texts before line other → other ≡ now) × ((r : Refusal) → IsRefused texts before line r → ⊥)
IsOnlyTable texts before line (Err (Refused r)) now =
    ((other : List Macro) → IsDefined texts before line other → ⊥) × ((other : Refusal) → IsRefused texts before line other → other ≡ r)
IsOnlyTable texts before line (Err Memory) now = Unit {0}
