-- Which tokens go on from declarators, parameters and members, by what was read; and the laws of the readers of less depth.
use Rattle.std.specs.Prelude.{ℕ, ◌≤◌, ◌-◌, Bool, true, false, ◌&&◌, ◌||◌, not, List, [], ◌∷◌, length, Option, Some, None, if◌then◌else◌}
use Rattle.sb_base.specs.declared.interning.Name.{Name}
use Rattle.sb_base.specs.declared.refusals.Place.{Place}
use Rattle.sb_base.specs.declared.tokens.Token.{Token}
use Rattle.sb_parse.specs.Lawful.{Lawful}
use Rattle.sb_tree.specs.Plain.{decl_list}
use Rattle.sb_tree.specs.Trees as tree
use Rattle.sb_tree.specs.Trees.{TypeTree, DeclTree, depth_of_decls}
use Rattle.sb_lexicon.specs.Lexicon.{Lexicon}
use Rattle.sb_operand.specs.Pieces.{Piece}
use Rattle.sb_operand.specs.Readers.{begins_abstract}
use Rattle.sb_lexicon.specs.Tokens.{is_comma, is_open, is_open_bracket, is_open_brace, is_qualifier}
use Rattle.sb_expr.proofs.tokens.More.{behind_pointers, is_empty}
use Rattle.sb_operand.proofs.Putting.{InnerFits}
use Rattle.sb_specifier.specs.Specified.{reading, names_tag}
use Rattle.sb_specifier.specs.Declaration.{IsDeclarator, AreMembers, AreSome}
use Rattle.sb_specifier.specs.Readers.{Declarator, Declarations, Parts, is_name, is_close_brace, is_specifier_word}

-- ---- declarators

abbrev pub is_suffix : Lexicon → Token → Bool
is_suffix w t = is_open_bracket w t || is_open w t

-- with pointers alone, or nothing, and no name
abbrev pub more_pointers : Lexicon → List Piece → Token → Bool
more_pointers w ps t = (begins_abstract w t || is_name w t) || (not (is_empty ps) && is_qualifier w t)

abbrev pub more_pieces : Lexicon → Option (Name × Place) → List Piece → Token → Bool
more_pieces w (Some n) ps t = is_suffix w t
more_pieces w None ps t = if is_empty (behind_pointers ps) then more_pointers w ps t else is_suffix w t

abbrev pub more_declarator : Lexicon → Declarator → Token → Bool
more_declarator w d t = more_pieces w d.name d.pieces t

-- a declarator of at most `room` pieces, in which what stands inside a piece is less deep than `below` by the pieces above it and one
pub record FitsDeclarator (texts : List (List ℕ)) (types : List Name) (functions may_lack : Bool) (below room : ℕ) (ts : List Token) (d : Declarator) : Type 0 where
  pub is : IsDeclarator texts types functions may_lack ts d
  pub count : length d.pieces ≤ room
  pub sizes : InnerFits (below - 1) d.pieces

-- ---- parameters

-- a type that is put together of pieces, by what stands outermost: pointers alone, or an array, a function or parentheses somewhere
abbrev pub is_pointed : TypeTree → Bool
is_pointed (tree.Const t) = is_pointed t
is_pointed (tree.Pointer t place) = true
is_pointed _ = false

abbrev pub has_direct : TypeTree → Bool
has_direct (tree.Const t) = has_direct t
has_direct (tree.Pointer t place) = has_direct t
has_direct (tree.Array t size place) = true
has_direct (tree.Function t params place) = true
has_direct (tree.ParenType t place) = true
has_direct _ = false

-- behind specifiers that name this type; behind a tag a brace would define it
abbrev pub more_specified : Lexicon → TypeTree → Token → Bool
more_specified w t u = is_specifier_word w u || (names_tag t && is_open_brace w u)

abbrev pub more_nameless : Lexicon → TypeTree → Token → Bool
more_nameless w t u = if has_direct t then is_suffix w u else ((begins_abstract w u || is_name w u) || (if is_pointed t then is_qualifier w u else more_specified w t u))

abbrev pub more_parameter : Lexicon → DeclTree → Token → Bool
more_parameter w (tree.Decl notes storage t (Some n) place init body) u = is_suffix w u
more_parameter w (tree.Decl notes storage t None place init body) u = more_nameless w t u

abbrev pub more_last : Lexicon → List DeclTree → Token → Bool
more_last w [] u = false
more_last w (d ∷ []) u = more_parameter w d u
more_last w (d ∷ (e ∷ ds)) u = more_last w (e ∷ ds) u

abbrev pub more_parameters : List (List ℕ) → Declarations → Token → Bool
more_parameters texts ds u = is_comma (reading texts []) u || more_last (reading texts []) ds.list u

abbrev pub FitsParameters : List (List ℕ) → ℕ → List Name → List Token → Declarations → Type 0
FitsParameters texts left types ts ds = AreSome texts types ts ds × (depth_of_decls (decl_list ds.list) ≤ left)

-- ---- members

abbrev pub more_members : List (List ℕ) → Declarations → Token → Bool
more_members texts ds t = not (is_close_brace (reading texts []) t)

abbrev pub FitsMembers : List (List ℕ) → ℕ → List Name → List Token → Declarations → Type 0
FitsMembers texts left types ts ds = AreMembers texts types ts ds × (depth_of_decls (decl_list ds.list) ≤ left)

-- ---- the laws of the readers of less depth

abbrev pub MembersLaws : List (List ℕ) → ℕ → (ℕ → Parts) → Type 0
MembersLaws texts below part = (k : ℕ) → 2 ≤ below - k → (types : List Name) → Lawful (FitsMembers texts (below - k) types) (more_members texts) ((part k).members types)

abbrev pub ParametersLaws : List (List ℕ) → ℕ → (ℕ → Parts) → Type 0
ParametersLaws texts below part = (k : ℕ) → 2 ≤ below - k → (types : List Name) → Lawful (FitsParameters texts (below - k) types) (more_parameters texts) ((part k).parameters types)
