-- The readers of declarations in a scope, as functions on the tokens that are left.
use Rattle.std.specs.Prelude.{ℕ, zero, suc, ◌+◌, ◌-◌, Bool, true, false, ◌||◌, not, List, [], ◌∷◌, ◌++◌, length, nat_eq, nat_lt, Option, Some, None, if◌then◌else◌}
use Rattle.sb_base.specs.declared.interning.Name.{Name}
use Rattle.sb_base.specs.declared.refusals.Place.{Place}
use Rattle.sb_base.specs.declared.tokens.Token.{Token}
use Rattle.sb_parse.specs.Parser.{Outcome, Parser, done, stop, ◌>>=◌, pure, refuse, token, choose, guard, looped}
use Rattle.sb_tree.specs.declared.syntax.Storage.{Storage}
use Rattle.sb_tree.specs.declared.syntax.Storage.TheVariants as storage
use Rattle.sb_tree.specs.Plain.{init_list, note_list}
use Rattle.sb_tree.specs.Trees as tree
use Rattle.sb_tree.specs.Trees.{TypeTree, InitTree, OptionalInit, DeclTree, NoteTree}
use Rattle.sb_expr.specs.Expression.{Assignment}
use Rattle.sb_lexicon.specs.Lexicon.{Lexicon}
use Rattle.sb_operand.specs.Pieces.{typed}
use Rattle.sb_lexicon.specs.Tokens as expr
use Rattle.sb_expr.specs.Readers.{expr_reader}
use Rattle.sb_lexicon.specs.Tokens.{unexpected, too_deep, misplaced_before, is_open_brace, is_comma}
use Rattle.sb_lexicon.specs.Outcomes.{nowhere}
use Rattle.sb_sal.specs.declared.bearer.Bearer.TheVariants as bearer
use Rattle.sb_sal.specs.Readers.{notes_reader}
use Rattle.sb_sal.specs.Spellings.{may_stand}
use Rattle.sb_specifier.specs.declared.seat.Seat.TheVariants as seat
use Rattle.sb_specifier.specs.Specified.{declared, reading, Specified, storage_of, again, declares_function}
use Rattle.sb_specifier.specs.Readers.{Declarations, Declarator, Parts, barred, begins_designator, designated, ends_nameless, is_assign, is_close_brace, is_pardon, is_semicolon, shows_object, name_in, place_in, place_of_base, specifiers}
use Rattle.sb_declarator.specs.Readers.{on, parts}
use Rattle.sb_parse.specs.Texts.{with_text}
use Rattle.sb_initialiser.specs.Readers.{initialiser}

-- ---- declarations

-- a declaration up to its first declarator
pub record Opening : Type 0 where
  -- the typedef names in force before it
  pub outer : List Name
  pub notes : List NoteTree
  -- the tokens of the annotations
  pub noted : List Token
  pub specified : Specified
  pub base : TypeTree
  -- how many tokens stand behind the annotations so far
  pub count : ℕ

pub record Listing : Type 0 where
  pub list : List DeclTree
  pub types : List Name
  pub count : ℕ

abbrev pub is_typedef : Storage → Bool
is_typedef storage.Typedef = true
is_typedef _ = false

-- whether a declarator behind these specifiers may be a function's
abbrev pub functions_in : Specified → Bool
functions_in s = not (is_typedef (storage_of s))

-- annotations, of these tokens, stand on functions alone
abbrev pub all_stand : (function : Bool) → (noted : List Token) → Bool
all_stand function [] = true
all_stand function (t ∷ ts) = function

-- A token that shows what is declared shows annotations misplaced that may not stand there, the first of them so many tokens before. No text goes on with another token but what pardons them:
-- `_Ret_z_ int x;` is refused at `_Ret_z_`, `_Ret_z_ int x 5` at `5`, and at `x` where the tokens end behind it.
abbrev pub pardoned : {A : Type 0} → List (List ℕ) → ℕ → A → Parser Token A
pardoned texts count a = choose (shows_object (reading texts [])) (refuse (misplaced_before count)) (token unexpected is_pardon >>= (λ t. pure a))

-- Nothing is read where the annotations, of these tokens and `count` tokens before, may stand on what is declared, a function or something else.
abbrev pub judged_by : {A : Type 0} → List (List ℕ) → (function : Bool) → (noted : List Token) → ℕ → A → Parser Token A
judged_by texts function noted count a = if all_stand function noted then pure a else pardoned texts (length noted + count) a

-- `below`: how deep the parts of a declaration may be; `part k`: the readers of declarations that are at most `below - k` deep
module _ (texts : List (List ℕ)) (below : ℕ) (part : ℕ → Parts) where
  -- ---- declarations in a scope (6.7)

  unfoldable pub opening : List Name → Parser Token Opening
  opening types = with_text (notes_reader (reading texts types) below (may_stand (reading texts types) bearer.Function)) >>= (λ notes.
      with_text (specifiers texts seat.Scope below part types) >>= (λ s.
      pure (record { outer = types; notes = notes.0; noted = notes.1; specified = s.0.0; base = s.0.1; count = length s.1 })))

  abbrev pub judged : {A : Type 0} → Opening → (function : Bool) → ℕ → A → Parser Token A
  judged o function count a = judged_by texts function o.noted count a

  -- a declarator, behind which the annotations are judged, with how many tokens stand behind the annotations then
  unfoldable pub declarator_in : Opening → List Name → TypeTree → ℕ → Parser Token (Declarator × ℕ)
  declarator_in o types base count = with_text (with_text (on texts below part types (functions_in o.specified) false base) >>= (λ d.
      judged o (declares_function d.0.pieces) (count + length d.1) d.0)) >>= (λ d. pure (d.0, count + length d.1))

  abbrev pub declared_by : Opening → Option (Name × Place) → List Name → List Name
  declared_by o None types = types
  declared_by o (Some n) types = declared (storage_of o.specified) n.0 types

  unfoldable pub initialised : List Name → Parser Token OptionalInit
  initialised types = choose (is_assign (reading texts types))
      (guard (nat_lt below 2) too_deep (token unexpected (is_assign (reading texts types)) >>= (λ t. initialiser (reading texts types) below >>= (λ i. pure (tree.AnInit i)))))
      (pure tree.NoInit)

  abbrev pub declaration_of : Opening → TypeTree → Declarator → OptionalInit → tree.OptionalStmt → DeclTree
  declaration_of o base d init body = tree.Decl (note_list o.notes) (storage_of o.specified) (typed base d.pieces) (name_in d.name) (place_in nowhere d.name) init body

  -- what may follow a declarator: an initialiser
  unfoldable pub behind : Opening → TypeTree → List DeclTree → List Name → Declarator × ℕ → Parser Token Listing
  behind o base ds types d = with_text (initialised (declared_by o d.0.name types)) >>= (λ i.
      pure (record { list = ds ++ (declaration_of o base d.0 i.0 tree.NoStmt ∷ []); types = declared_by o d.0.name types; count = d.1 + length i.1 }))

  unfoldable pub next_declarator : Opening → Listing → Parser Token Listing
  next_declarator o l = token unexpected (is_comma (reading texts l.types)) >>= (λ t. declarator_in o l.types (again o.base) (suc l.count) >>= behind o (again o.base) l.list l.types)

  -- the rest of a declaration behind its first declarator
  unfoldable pub rest_of_declaration : Opening → Declarator × ℕ → Parser Token Declarations
  rest_of_declaration o d = behind o o.base [] o.specified.types d >>= looped (is_comma (reading texts o.specified.types)) (next_declarator o) >>= (λ l.
      token unexpected (is_semicolon (reading texts o.specified.types)) >>= (λ c. pure (record { list = l.list; types = l.types })))

  abbrev pub nameless_of : Opening → Place → Declarations
  nameless_of o place = record { list = tree.Decl (note_list o.notes) (storage_of o.specified) o.base None place tree.NoInit tree.NoStmt ∷ []; types = o.specified.types }

  -- a declaration that declares no name: at the place of its type
  unfoldable pub nameless : Opening → Place → Parser Token Declarations
  nameless o place = judged o false o.count (nameless_of o place) >>= (λ ds. token unexpected (is_semicolon (reading texts o.specified.types)) >>= (λ c. pure ds))

  unfoldable pub declaration_at : List Name → Parser Token Declarations
  declaration_at types = opening types >>= (λ o. choose (ends_nameless (reading texts types)) (nameless o (place_of_base o.base))
      (declarator_in o o.specified.types o.base o.count >>= rest_of_declaration o))

abbrev pub declaration_in : List (List ℕ) → ℕ → List Name → Parser Token Declarations
declaration_in texts zero types = barred (reading texts types) seat.Scope
declaration_in texts (suc below) types = declaration_at texts (suc below) (parts texts (suc below)) types

-- a declaration in a scope that is at most so deep, with the typedef names in force before and behind it
abbrev pub declaration_reader : List (List ℕ) → ℕ → List Name → Parser Token Declarations
declaration_reader texts zero types = barred (reading texts types) seat.Scope
declaration_reader texts (suc below) types = declaration_in texts below types
