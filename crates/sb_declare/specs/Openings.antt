-- What the code holds of a declaration in a scope stands for, and the parts of its readers that are functions of their own in code.
use Rattle.std.specs.Prelude.{◌≡◌, ℕ, suc, ◌+◌, ◌-◌, Bool, true, false, not, List, [], ◌∷◌, ◌++◌, length, nat_lt, Option, Some, None, Result, Ok, Err}
use Rattle.std.specs.Option.{option_map}
use Rattle.sb_base.specs.declared.interning.Name.{Name}
use Rattle.sb_base.specs.declared.refusals.Place.{Place}
use Rattle.sb_base.specs.declared.tokens.Token.{Token}
use Rattle.sb_parse.specs.Parser.{Outcome, Parser, done, ◌>>=◌, pure, token, choose, guard, looped}
use Rattle.sb_sign.specs.declared.sign.Mark.TheVariants as mark
use Rattle.sb_tree.specs.declared.syntax.Storage.{Storage}
use Rattle.sb_tree.specs.declared.syntax.Storage.TheVariants as storage
use Rattle.sb_tree.specs.Plain.{plain_decls, plain_init, optional_init, note_list}
use Rattle.sb_tree.specs.Trees as tree
use Rattle.sb_tree.specs.Trees.{OptionalInit, TypeTree, NoteTree, DeclTree, depth_of_optional_init, depth_of_type}
use Rattle.sb_lexicon.specs.declared.reading.Read.{Read}
use Rattle.sb_lexicon.specs.declared.reading.ReadFault.{ReadFault}
use Rattle.sb_lexicon.specs.Lexicon.{Lexicon, is_mark}
use Rattle.sb_lexicon.specs.Meaning.{IsFault}
use Rattle.sb_operand.specs.Pieces.{typed}
use Rattle.sb_lexicon.specs.Tokens.{unexpected, too_deep}
use Rattle.sb_sal.specs.declared.bearer.Bearer.TheVariants as bearer
use Rattle.sb_declare.specs.declared.declarations.Declared.{Declared}
use Rattle.sb_declare.specs.declared.sharing.Counted.{Counted}
use Rattle.sb_declare.specs.declared.sharing.Listing as declared_listing
use Rattle.sb_declare.specs.declared.sharing.Shared.{Shared}
use Rattle.sb_declare.specs.declared.tails.Tail.{Tail}
use Rattle.sb_declare.specs.declared.openings.InitialValue.{InitialValue}
use Rattle.sb_declare.specs.declared.openings.Opening as declared_opening
use Rattle.sb_specifier.specs.Declaration.{nowhere}
use Rattle.sb_derivation.specs.Declarators.{plain_declarator}
use Rattle.sb_specifier.specs.Meaning.{plain_specified, plain_later, type_in}
use Rattle.sb_derivation.specs.Parts.{notes_at}
use Rattle.sb_declare.specs.Readers as reader
use Rattle.sb_specifier.specs.Readers as specifier
use Rattle.sb_initialiser.specs.Readers.{initialiser}
use Rattle.sb_declare.specs.Readers.{Opening, Listing, all_stand, judged_by, declarator_in}
use Rattle.sb_specifier.specs.Readers.{Declarator, Declarations, is_assign, name_in, place_in, place_of_base}
use Rattle.sb_declarator.specs.Readers.{parts, declarators}
use Rattle.sb_parse.specs.Texts.{with_text}
use Rattle.sb_specifier.specs.Specified.{Specified, reading, declared, declares_function}

-- its annotations are those with which its tokens begin

abbrev pub plain_opening : List (List ℕ) → ℕ → declared_opening.Opening → Opening
plain_opening texts below o =
    record { outer = o.outer.now; notes = notes_at texts o.outer.now bearer.Function below o.tokens.now; noted = o.noted.now; specified = plain_specified o.specified; base = type_in (plain_specified o.specified); count = o.count }

abbrev pub ReadsOpening : List (List ℕ) → ℕ → Outcome Token Opening → Result (Read declared_opening.Opening) ReadFault → Type 0
ReadsOpening texts below o (Ok r) = o ≡ done (plain_opening texts below r.value) r.rest.now
ReadsOpening texts below o (Err e) = IsFault o e

-- ---- initialisers

abbrev pub initialised : Lexicon → ℕ → Parser Token OptionalInit
initialised w below = choose (is_assign w) (guard (nat_lt below 2) too_deep (token unexpected (is_assign w) >>= (λ t. initialiser w below >>= (λ i. pure (tree.AnInit i))))) (pure tree.NoInit)

abbrev pub ReadsInitialised : Outcome Token OptionalInit → Result InitialValue ReadFault → Type 0
ReadsInitialised o (Ok i) = (o ≡ done (optional_init (option_map plain_init i.tree)) i.rest.now) × (i.depth ≡ depth_of_optional_init (optional_init (option_map plain_init i.tree)))
ReadsInitialised o (Err e) = IsFault o e

abbrev pub ReadsTail : Outcome Token (OptionalInit × List Token) → Result Tail ReadFault → Type 0
ReadsTail o (Ok t) = o ≡ done (optional_init (option_map plain_init t.init), t.front.now) t.rest.now
ReadsTail o (Err e) = IsFault o e

-- ---- the declarators of one declaration

-- `types`: the typedef names in force before the declarator
abbrev pub plain_counted : List Name → Counted → Declarator × ℕ
plain_counted types c = (plain_declarator types c.declarator, c.count)

abbrev pub plain_listing : declared_listing.Listing → Listing
plain_listing l = record { list = plain_decls l.list.items; types = l.types; count = l.count }

abbrev pub plain_declared : Declared → Declarations
plain_declared ds = record { list = plain_decls ds.list.items; types = ds.types }

-- what judging annotations comes to: nothing where they may stand there, and else a fault
abbrev pub Judges : List (List ℕ) → (function : Bool) → (noted : List Token) → ℕ → List Token → Result (Unit {0}) ReadFault → Type 0
Judges texts function noted count ts (Ok u) = all_stand function noted ≡ true
Judges texts function noted count ts (Err e) = IsFault (judged_by texts function noted count function ts) e

abbrev pub is_typedef : Storage → Bool
is_typedef storage.Typedef = true
is_typedef _ = false

abbrev pub declared_as : Storage → Option (Name × Place) → List Name → List Name
declared_as storage None types = types
declared_as storage (Some n) types = declared storage n.0 types

-- a declarator on a type of this depth
abbrev pub declarator_on : List (List ℕ) → ℕ → (noted : List Token) → Storage → List Name → (depth count : ℕ) → Parser Token (Declarator × ℕ)
declarator_on texts below noted storage types depth count =
    with_text (with_text (declarators (reading texts types) (not (is_typedef storage)) false below (parts texts below) (below - depth) 0) >>= (λ d.
    judged_by texts (declares_function d.0.pieces) noted (count + length d.1) d.0)) >>= (λ d. pure (d.0, count + length d.1))

abbrev pub declaration_of : List NoteTree → Storage → TypeTree → Declarator → OptionalInit → tree.OptionalStmt → DeclTree
declaration_of notes storage base d init body = tree.Decl (note_list notes) storage (typed base d.pieces) (name_in d.name) (place_in nowhere d.name) init body

-- what may follow a declarator
abbrev pub behind : List (List ℕ) → ℕ → List NoteTree → Storage → TypeTree → List DeclTree → List Name → Declarator × ℕ → Parser Token Listing
behind texts below notes storage base ds types d = with_text (initialised (reading texts (declared_as storage d.0.name types)) below) >>= (λ i.
    pure (record { list = ds ++ (declaration_of notes storage base d.0 i.0 tree.NoStmt ∷ []); types = declared_as storage d.0.name types; count = d.1 + length i.1 }))

-- the annotations that declarators share
abbrev pub notes_of : List (List ℕ) → ℕ → Shared → List NoteTree
notes_of texts below s = notes_at texts s.outer.now bearer.Function below s.tokens.now

abbrev pub next_declarator : List (List ℕ) → ℕ → Shared → Listing → Parser Token Listing
next_declarator texts below s l = token unexpected (is_mark (reading texts l.types) mark.Comma) >>= (λ t.
    declarator_on texts below s.noted.now s.storage l.types (depth_of_type (plain_later s.later)) (suc l.count) >>= behind texts below (notes_of texts below s) s.storage (plain_later s.later) l.list l.types)

abbrev pub next_declarators : List (List ℕ) → ℕ → Shared → Listing → Parser Token Listing
next_declarators texts below s = looped (is_mark (reading texts []) mark.Comma) (next_declarator texts below s)

-- the semicolon behind the declarators of a declaration
abbrev pub ended : List (List ℕ) → Listing → Parser Token Declarations
ended texts l = token unexpected (is_mark (reading texts l.types) mark.Semicolon) >>= (λ c. pure (record { list = l.list; types = l.types }))

-- the rest of a declaration behind a declarator on this type
abbrev pub rest_behind : List (List ℕ) → ℕ → Shared → TypeTree → List Name → Declarator × ℕ → Parser Token Declarations
rest_behind texts below s base types d = behind texts below (notes_of texts below s) s.storage base [] types d >>= next_declarators texts below s >>= (λ l.
    token unexpected (is_mark (reading texts types) mark.Semicolon) >>= (λ c. pure (record { list = l.list; types = l.types })))

abbrev pub first_declarator : List (List ℕ) → ℕ → Opening → Parser Token (Declarator × ℕ)
first_declarator texts below o = declarator_in texts below (parts texts below) o o.specified.types o.base o.count

-- the declarators of a declaration
abbrev pub named : List (List ℕ) → ℕ → Opening → Parser Token Declarations
named texts below o = first_declarator texts below o >>= reader.rest_of_declaration texts below (parts texts below) o

-- ---- declarations without a name, and definitions

abbrev pub nameless_of : List NoteTree → Storage → Specified → Declarations
nameless_of notes storage s = record { list = tree.Decl (note_list notes) storage (type_in s) None (place_of_base (type_in s)) tree.NoInit tree.NoStmt ∷ []; types = s.types }

-- the semicolon behind the specifiers of a declaration without a name
abbrev pub nameless_end : List (List ℕ) → ℕ → Shared → ℕ → Parser Token Token
nameless_end texts below s count = judged_by texts false s.noted.now count false >>= (λ p. token unexpected (is_mark (reading texts []) mark.Semicolon))

-- behind the specifiers of a declaration without a name
abbrev pub nameless_behind : List (List ℕ) → ℕ → Shared → Specified → ℕ → Parser Token Declarations
nameless_behind texts below s specified count = judged_by texts false s.noted.now count false >>= (λ p.
    token unexpected (is_mark (reading texts specified.types) mark.Semicolon) >>= (λ c. pure (nameless_of (notes_of texts below s) s.storage specified)))

abbrev pub nameless : List (List ℕ) → ℕ → Opening → Parser Token Declarations
nameless texts below o = reader.nameless texts below (parts texts below) o (specifier.place_of_base o.base)

-- the definition of a function with this body
abbrev pub definition : List (List ℕ) → ℕ → Opening → Declarator → tree.StmtTree → Declarations
definition texts below o d body = record {
  list = reader.declaration_of texts below (parts texts below) o o.base d tree.NoInit (tree.AStmt body) ∷ [];
  types = reader.declared_by texts below (parts texts below) o d.name o.specified.types;
}
