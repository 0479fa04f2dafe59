-- What the values of the readers of specifiers in code stand for in the definitions, and what a reader in code owes the reader that it computes.
use Rattle.std.specs.Prelude.{◌≡◌, ◌≤◌, ◌+◌, ℕ, Result, Ok, Err}
use Rattle.std.specs.Option.{option_map}
use Rattle.sb_base.specs.declared.tokens.Token.{Token}
use Rattle.sb_parse.specs.Parser.{Outcome, done}
use Rattle.sb_tree.specs.Plain.{plain_expr, plain_type, plain_items, plain_decls, item_list, listed, optional_expr, optional_items, optional_decls}
use Rattle.sb_tree.specs.Trees as tree
use Rattle.sb_tree.specs.Trees.{OptionalExpr, TypeTree, depth_of_optional_expr, depth_of_items, depth_of_type}
use Rattle.sb_lexicon.specs.declared.reading.Read.{Read}
use Rattle.sb_lexicon.specs.declared.reading.ReadFault.{ReadFault}
use Rattle.sb_lexicon.specs.Meaning.{IsFault}
use Rattle.sb_lexicon.specs.Words.{Said, Nothing, Words, Whole, number_of_words, qualified}
use Rattle.sb_specifier.specs.declared.enumerations.ItemValue.{ItemValue}
use Rattle.sb_specifier.specs.declared.enumerations.Constants.{Constants}
use Rattle.sb_specifier.specs.declared.specified.Based.{Based}
use Rattle.sb_specifier.specs.declared.specified.Later.{Later}
use Rattle.sb_specifier.specs.declared.specified.Named.{Named}
use Rattle.sb_specifier.specs.declared.specified.Named.TheVariants as later
use Rattle.sb_specifier.specs.declared.specified.Said as declared_said
use Rattle.sb_specifier.specs.declared.specified.Said.TheVariants as said
use Rattle.sb_specifier.specs.declared.specified.Specified as declared_specified
use Rattle.sb_specifier.specs.Declaration.{nowhere}
use Rattle.sb_specifier.specs.Readers.{Items}
use Rattle.sb_specifier.specs.Specified.{Specified, depth_said, one_if}

-- ---- specifiers

abbrev pub plain_said : declared_said.Said → Said
plain_said said.Nothing = Nothing
plain_said (said.Words v place) = Words v place
plain_said (said.Struct tag members place) = Whole (tree.Struct tag (optional_decls (option_map plain_decls (listed members))) place)
plain_said (said.Enum tag items place) = Whole (tree.Enum tag (optional_items (option_map plain_items (listed items))) place)
plain_said (said.Defined name place) = Whole (tree.Defined name place)

abbrev pub plain_specified : declared_specified.Specified → Specified
plain_specified s = record { said = plain_said s.said; constant = s.constant; storage = s.storage; types = s.types }

-- the type without `const`; there is one where something is said
abbrev pub named_by : Said → TypeTree
named_by Nothing = tree.Same nowhere
named_by (Words v place) = tree.Base (number_of_words v) place
named_by (Whole t) = t

abbrev pub type_in : Specified → TypeTree
type_in s = qualified s.constant (named_by s.said)

abbrev pub IsKnown : declared_specified.Specified → Type 0
IsKnown s = s.depth ≡ depth_said (plain_said s.said)

-- at most so deep, with `const` if it is there
abbrev pub IsRoomy : ℕ → declared_specified.Specified → Type 0
IsRoomy below s = (1 ≤ s.depth) × (s.depth + one_if s.constant ≤ below)

-- all specifiers, with the type that they name
abbrev pub ReadsSpecifiers : Outcome Token (Specified × TypeTree) → Result (Read declared_specified.Specified) ReadFault → Type 0
ReadsSpecifiers o (Ok r) = o ≡ done (plain_specified r.value, type_in (plain_specified r.value)) r.rest.now
ReadsSpecifiers o (Err e) = IsFault o e

-- the type of a later declarator
abbrev pub plain_named : Named → TypeTree
plain_named (later.Base code place) = tree.Base code place
plain_named (later.Struct tag place) = tree.Struct tag tree.Undeclared place
plain_named (later.Enum tag place) = tree.Enum tag tree.Unlisted place
plain_named (later.Defined name place) = tree.Defined name place
plain_named (later.Same place) = tree.Same place

abbrev pub plain_later : Later → TypeTree
plain_later l = qualified l.constant (plain_named l.named)

-- ---- enumerations

abbrev pub plain_listing : Constants → Items
plain_listing is = record { list = plain_items is.list.items; types = is.types; more = is.more }

abbrev pub AreItemsKnown : Constants → Type 0
AreItemsKnown is = is.depth ≡ depth_of_items (item_list (plain_items is.list.items))

abbrev pub ReadsItems : Outcome Token Items → Result (Read Constants) ReadFault → Type 0
ReadsItems o (Ok r) = (o ≡ done (plain_listing r.value) r.rest.now) × AreItemsKnown r.value
ReadsItems o (Err e) = IsFault o e

abbrev pub ReadsItemValue : Outcome Token OptionalExpr → Result ItemValue ReadFault → Type 0
ReadsItemValue o (Ok v) = (o ≡ done (optional_expr (option_map plain_expr v.tree)) v.rest.now) × (v.depth ≡ depth_of_optional_expr (optional_expr (option_map plain_expr v.tree)))
ReadsItemValue o (Err e) = IsFault o e

-- ---- declarations

abbrev pub IsBaseKnown : Based → Type 0
IsBaseKnown b = b.depth ≡ depth_of_type (plain_type b.tree.value)
