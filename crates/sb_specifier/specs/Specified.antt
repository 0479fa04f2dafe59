-- The specifiers of a declaration so far, with the typedef names in force (C99 6.7, 6.2.1).
use Rattle.std.specs.Prelude.{ℕ, Bool, true, false, ◌||◌, List, [], ◌∷◌, Option, Some, None, if◌then◌else◌}
use Rattle.std.specs.Option.{option_map_or}
use Rattle.sb_base.specs.declared.interning.Name.{Name}
use Rattle.sb_base.specs.declared.refusals.Place.{Place}
pub use Rattle.sb_scope.specs.Names.{without, including}
use Rattle.sb_sign.specs.declared.sign.Keyword.{Keyword}
use Rattle.sb_sign.specs.declared.sign.Keyword.TheVariants as keyword
use Rattle.sb_tree.specs.declared.syntax.Storage.{Storage}
use Rattle.sb_tree.specs.declared.syntax.Storage.TheVariants as storage
use Rattle.sb_tree.specs.Trees as tree
use Rattle.sb_tree.specs.Trees.{TypeTree, depth_of_type}
use Rattle.sb_lexicon.specs.Lexicon.{Lexicon}
use Rattle.sb_operand.specs.Pieces.{Piece, Called, Grouped}
use Rattle.sb_lexicon.specs.Words.{Said, Nothing, Whole, type_said, qualified_if}
use Rattle.sb_sal.specs.declared.bearer.Bearer.{Bearer}
use Rattle.sb_sal.specs.declared.bearer.Bearer.TheVariants as bearer
use Rattle.sb_specifier.specs.declared.seat.Seat.{Seat}
use Rattle.sb_specifier.specs.declared.seat.Seat.TheVariants as seat

-- ---- typedef names in force (6.2.1, 6.7.7)

-- a name is declared: a typedef name comes into force, and any other one hides a typedef name
abbrev pub declared : Storage → Name → List Name → List Name
declared storage.Typedef n types = including n types
declared _ n types = without n types

abbrev pub reading : List (List ℕ) → List Name → Lexicon
reading texts types = record { texts = texts; types = types; in_note = false }

-- ---- where a declaration stands

abbrev pub bearer_at : Seat → Bearer
bearer_at seat.Scope = bearer.Function
bearer_at seat.Structure = bearer.Member
bearer_at seat.Prototype = bearer.Parameter

-- what a declaration outside of structures and parameters declares, a function or something else
abbrev pub bearer_of : (function : Bool) → Bearer
bearer_of function = if function then bearer.Function else bearer.Object

-- ---- specifiers

pub record Specified : Type 0 where
  pub said : Said
  pub constant : Bool
  -- none where no storage word was read
  pub storage : Option Storage
  -- the typedef names in force behind them
  pub types : List Name

abbrev pub unspecified : List Name → Specified
unspecified types = record { said = Nothing; constant = false; storage = None; types = types }

abbrev pub saying : Said → Specified → Specified
saying said s = record { said = said; constant = s.constant; storage = s.storage; types = s.types }

abbrev pub constantly : Specified → Specified
constantly s = record { said = s.said; constant = true; storage = s.storage; types = s.types }

abbrev pub stored : Storage → Specified → Specified
stored storage s = record { said = s.said; constant = s.constant; storage = Some storage; types = s.types }

abbrev pub scoped : List Name → Specified → Specified
scoped types s = record { said = s.said; constant = s.constant; storage = s.storage; types = types }

-- what a storage word says (6.7.1); `register` says nothing that a tree keeps
abbrev pub storage_by : Keyword → Option Storage
storage_by keyword.Typedef = Some storage.Typedef
storage_by keyword.Extern = Some storage.Extern
storage_by keyword.Static = Some storage.Static
storage_by keyword.Register = Some storage.Plain
storage_by _ = None

abbrev pub is_register : Keyword → Bool
is_register keyword.Register = true
is_register _ = false

-- a storage word where it may stand: one a declaration, only `register` before a parameter, and none in a structure
abbrev pub storage_in : Seat → Option Storage → Keyword → Option Storage
storage_in seat.Scope None k = storage_by k
storage_in seat.Prototype None k = if is_register k then storage_by k else None
storage_in _ _ k = None

abbrev pub storage_of : Specified → Storage
storage_of s = option_map_or (λ storage. storage) s.storage storage.Plain

abbrev pub base_of : Specified → Option TypeTree
base_of s = qualified_if s.constant (type_said s.said)

-- how deep the type is so far; a type that is still to come has at least depth 1
abbrev pub depth_said : Said → ℕ
depth_said (Whole t) = depth_of_type t
depth_said _ = 1

abbrev pub one_if : Bool → ℕ
one_if b = if b then 1 else 0

-- a structure or an enumeration by its tag alone
abbrev pub names_tag : TypeTree → Bool
names_tag (tree.Struct tag tree.Undeclared place) = true
names_tag (tree.Enum tag tree.Unlisted place) = true
names_tag (tree.Const t) = names_tag t
names_tag _ = false

abbrev pub is_tag_alone : Said → Bool
is_tag_alone (Whole t) = names_tag t
is_tag_alone _ = false

-- ---- the base type of a later declarator

abbrev pub same_if_listed : Place → tree.OptionalDecls → TypeTree → TypeTree
same_if_listed place tree.Undeclared t = t
same_if_listed place (tree.Declared ds) t = tree.Same place

abbrev pub same_if_numbered : Place → tree.OptionalItems → TypeTree → TypeTree
same_if_numbered place tree.Unlisted t = t
same_if_numbered place (tree.Listed is) t = tree.Same place

-- the type as a later declarator has it: one that defines a structure or an enumeration is named by its place
abbrev pub unqualified_again : TypeTree → TypeTree → TypeTree
unqualified_again (tree.Struct tag members place) t = same_if_listed place members t
unqualified_again (tree.Enum tag items place) t = same_if_numbered place items t
unqualified_again _ t = t

abbrev pub again : TypeTree → TypeTree
again (tree.Const t) = unqualified_again t (tree.Const t)
again t = unqualified_again t t

-- ---- functions

-- what lies directly on these pieces is a function
abbrev pub is_function : List Piece → Bool
is_function [] = false
is_function (Grouped place ∷ ps) = is_function ps
is_function (Called params place ∷ ps) = true
is_function (p ∷ ps) = false

-- nothing but parentheses
abbrev pub is_bare : List Piece → Bool
is_bare [] = true
is_bare (Grouped place ∷ ps) = is_bare ps
is_bare (p ∷ ps) = false

-- the declared name is a function: the last piece that is no parenthesis makes it one
abbrev pub declares_function : List Piece → Bool
declares_function [] = false
declares_function (Called params place ∷ ps) = is_bare ps || declares_function ps
declares_function (p ∷ ps) = declares_function ps
