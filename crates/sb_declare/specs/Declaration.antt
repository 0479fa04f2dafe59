-- Which lists of tokens are a declaration in a scope, and the trees of each (C99 6.7).
use Rattle.std.specs.Prelude.{◌≡◌, ℕ, Bool, true, false, List, [], ◌∷◌, ◌++◌, Option, Some, None}
use Rattle.sb_base.specs.declared.interning.Name.{Name}
use Rattle.sb_base.specs.declared.refusals.Place.{Place}
use Rattle.sb_base.specs.declared.tokens.Token.{Token}
use Rattle.sb_sign.specs.declared.sign.Mark.TheVariants as mark
use Rattle.sb_tree.specs.Plain.{init_list, note_list}
use Rattle.sb_tree.specs.Trees as tree
use Rattle.sb_tree.specs.Trees.{ExprTree, TypeTree, InitTree, OptionalInit, DeclTree, NoteTree}
use Rattle.sb_expr.specs.Expression.{Assignment, IsExpr}
use Rattle.sb_lexicon.specs.Lexicon.{Lexicon, is_mark}
use Rattle.sb_operand.specs.Pieces.{typed}
use Rattle.sb_sal.specs.Notes.{AreNotes}
use Rattle.sb_sal.specs.declared.bearer.Bearer.TheVariants as bearer
use Rattle.sb_sal.specs.Spellings.{may_stand}
use Rattle.sb_specifier.specs.declared.seat.Seat.TheVariants as seat
use Rattle.sb_specifier.specs.Specified.{declared, reading, Specified, unspecified, storage_of, base_of, again, declares_function}
use Rattle.sb_specifier.specs.Readers.{Declarator, Declarations, is_pardon, name_in, place_in, place_of_base}
use Rattle.sb_initialiser.specs.Initialiser.{IsInitialiser}
use Rattle.sb_declare.specs.Readers.{all_stand, functions_in}
use Rattle.sb_specifier.specs.Declaration.{AreSpecifiers, IsDeclarator, nowhere}

-- ---- declarations in a scope

-- Behind a declarator nothing more stands where there are no annotations before it or it declares a function, and else what pardons them.
pub data IsJudged (function : Bool) (noted : List Token) : List Token → Type 0 where
  may_stand_there : all_stand function noted ≡ true → IsJudged function noted []
  is_pardoned : (t : Token) → all_stand function noted ≡ false → is_pardon t ≡ true → IsJudged function noted (t ∷ [])

abbrev pub declared_by : Specified → Option (Name × Place) → List Name → List Name
declared_by s None types = types
declared_by s (Some p) types = declared (storage_of s) p.0 types

pub data IsInitialised (w : Lexicon) : List Token → OptionalInit → Type 0 where
  -- 6.7
  no_initialiser : IsInitialised w [] tree.NoInit
  -- 6.7.8
  an_initialiser : (a : Token) (ts : List Token) (i : InitTree) → is_mark w mark.Assign a ≡ true → IsInitialiser w ts i → IsInitialised w (a ∷ ts) (tree.AnInit i)

-- annotations (of these tokens) and specifiers
pub record Begins (texts : List (List ℕ)) (types : List Name) (noted specified : List Token) (notes : List NoteTree) (s : Specified) (base : TypeTree) : Type 0 where
  pub are_notes : AreNotes (reading texts types) (may_stand (reading texts types) bearer.Function) noted notes
  pub are_specifiers : AreSpecifiers texts seat.Scope (unspecified types) specified s
  pub names : base_of s ≡ Some base

abbrev pub declaration_of : List NoteTree → Specified → TypeTree → Declarator → OptionalInit → tree.OptionalStmt → DeclTree
declaration_of notes s base d init body = tree.Decl (note_list notes) (storage_of s) (typed base d.pieces) (name_in d.name) (place_in nowhere d.name) init body

-- a declarator with its initialiser
pub data IsDeclared (texts : List (List ℕ)) (noted : List Token) (notes : List NoteTree) (s : Specified) (base : TypeTree) : List Name → List Token → DeclTree → List Name → Type 0 where
  -- 6.7, 6.2.1 paragraph 7
  is_declared : (types : List Name) (xs js ys : List Token) (d : Declarator) (init : OptionalInit) → IsDeclarator texts types (functions_in s) false xs d
      → IsJudged (declares_function d.pieces) noted js → IsInitialised (reading texts (declared_by s d.name types)) ys init
      → IsDeclared texts noted notes s base types (xs ++ (js ++ ys)) (declaration_of notes s base d init tree.NoStmt) (declared_by s d.name types)

pub data AreDeclared (texts : List (List ℕ)) (noted : List Token) (notes : List NoteTree) (s : Specified) (base : TypeTree) : List Token → Declarations → Type 0 where
  -- 6.7
  first_declared : (ts : List Token) (d : DeclTree) (now : List Name) → IsDeclared texts noted notes s base s.types ts d now → AreDeclared texts noted notes s base ts (record { list = d ∷ []; types = now })
  -- 6.7
  declared_behind : (xs ys : List Token) (c : Token) (ds : Declarations) (d : DeclTree) (now : List Name) → is_mark (reading texts ds.types) mark.Comma c ≡ true → AreDeclared texts noted notes s base xs ds
      → IsDeclared texts noted notes s (again base) ds.types ys d now → AreDeclared texts noted notes s base (xs ++ (c ∷ ys)) (record { list = ds.list ++ (d ∷ []); types = now })

-- a declaration, with the typedef names in force before and behind it
pub data IsDeclaration (texts : List (List ℕ)) : List Name → List Token → Declarations → Type 0 where
  -- 6.7 paragraph 2
  is_nameless : (types : List Name) (xs ys js : List Token) (c : Token) (notes : List NoteTree) (s : Specified) (base : TypeTree) → Begins texts types xs ys notes s base
      → IsJudged false xs js → is_mark (reading texts s.types) mark.Semicolon c ≡ true
      → IsDeclaration texts types (xs ++ (ys ++ (js ++ (c ∷ [])))) (record { list = tree.Decl (note_list notes) (storage_of s) base None (place_of_base base) tree.NoInit tree.NoStmt ∷ []; types = s.types })
  -- 6.7
  is_declaration : (types : List Name) (xs ys zs : List Token) (c : Token) (notes : List NoteTree) (s : Specified) (base : TypeTree) (ds : Declarations) → Begins texts types xs ys notes s base
      → AreDeclared texts xs notes s base zs ds → is_mark (reading texts s.types) mark.Semicolon c ≡ true → IsDeclaration texts types (xs ++ (ys ++ (zs ++ (c ∷ [])))) ds
