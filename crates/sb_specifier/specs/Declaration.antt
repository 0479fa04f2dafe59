-- Which lists of tokens are specifiers, declarators, members of a structure or parameters of a function, and the trees of each (C99 6.7).
use Rattle.std.specs.Prelude.{◌≡◌, ℕ, suc, ◌≤◌, Bool, true, false, List, [], ◌∷◌, ◌++◌, length, Option, Some, None}
use Rattle.sb_base.specs.declared.interning.Name.{Name}
use Rattle.sb_base.specs.declared.refusals.Place.{Place}
use Rattle.sb_base.specs.declared.tokens.Token.{Token}
use Rattle.sb_sign.specs.declared.sign.Keyword.{Keyword}
use Rattle.sb_sign.specs.declared.sign.Keyword.TheVariants as keyword
use Rattle.sb_sign.specs.declared.sign.Mark.TheVariants as mark
use Rattle.sb_tree.specs.declared.syntax.Storage.{Storage}
use Rattle.sb_tree.specs.declared.syntax.Storage.TheVariants as storage
use Rattle.sb_tree.specs.Plain.{decl_list, item_list, note_list}
use Rattle.sb_sign.specs.Signs as sign
use Rattle.sb_tree.specs.Trees as tree
use Rattle.sb_tree.specs.Trees.{ExprTree, TypeTree, OptionalExpr, ItemTree, DeclTree, NoteTree}
use Rattle.sb_expr.specs.Expression.{Assignment, Conditional, IsExpr, AreQualifiers, IsSize}
use Rattle.sb_lexicon.specs.Lexicon.{Lexicon, is_mark, is_keyword, name_of, is_type_name}
use Rattle.sb_operand.specs.Pieces.{Pointed, Arrayed, Called, Grouped, typed, constant_if}
use Rattle.sb_lexicon.specs.Words.{Said, Nothing, Whole, said_after}
use Rattle.sb_sal.specs.Notes.{AreNotes}
use Rattle.sb_sal.specs.declared.bearer.Bearer.TheVariants as bearer
use Rattle.sb_sal.specs.Spellings.{is_listed, may_stand}
use Rattle.sb_specifier.specs.declared.seat.Seat.{Seat}
use Rattle.sb_specifier.specs.declared.seat.Seat.TheVariants as seat
use Rattle.sb_specifier.specs.Specified.{without, reading, Specified, unspecified, saying, constantly, stored, scoped, storage_in, base_of, again, is_function, is_bare}
use Rattle.sb_specifier.specs.Readers.{Declarator, Declarations, with_pieces, is_structure, makes_room, name_in, place_in}

-- ---- constants of enumerations (6.7.2.2): the typedef names in force before and behind them, and whether a comma stands behind the last

pub data IsItem (w : Lexicon) : List Token → ItemTree → Name → Type 0 where
  -- 6.7.2.2
  is_plain : (t : Token) (n : Name) → name_of w t ≡ Some n → IsItem w (t ∷ []) (tree.Item n tree.NoExpr t.place) n
  -- 6.7.2.2
  is_valued : (t a : Token) (n : Name) (ts : List Token) (e : ExprTree) → name_of w t ≡ Some n → is_mark w mark.Assign a ≡ true → IsExpr w Conditional ts e
      → IsItem w (t ∷ (a ∷ ts)) (tree.Item n (tree.AnExpr e) t.place) n

pub data AreItems (texts : List (List ℕ)) (types : List Name) : List Token → List ItemTree → List Name → Bool → Type 0 where
  -- 6.7.2.2
  first_item : (ts : List Token) (i : ItemTree) (n : Name) → IsItem (reading texts types) ts i n → AreItems texts types ts (i ∷ []) (without n types) false
  -- 6.7.2.2
  item_behind : (xs ys : List Token) (is : List ItemTree) (i : ItemTree) (n : Name) (now : List Name) → AreItems texts types xs is now true → IsItem (reading texts now) ys i n
      → AreItems texts types (xs ++ ys) (is ++ (i ∷ [])) (without n now) false
  -- 6.7.2.2
  item_comma : (c : Token) (ts : List Token) (is : List ItemTree) (now : List Name) → is_mark (reading texts now) mark.Comma c ≡ true → AreItems texts types ts is now false
      → AreItems texts types (ts ++ (c ∷ [])) is now true

-- ---- tags: the place of a structure or an enumeration is that of its tag, or of its word

pub data IsTag (w : Lexicon) (k : Keyword) : List Token → Option Name → Place → Type 0 where
  -- 6.7.2.3
  is_untagged : (t : Token) → is_keyword w k t ≡ true → IsTag w k (t ∷ []) None t.place
  -- 6.7.2.3
  is_tagged : (t n : Token) (tag : Name) → is_keyword w k t ≡ true → name_of w n ≡ Some tag → IsTag w k (t ∷ (n ∷ [])) (Some tag) n.place

-- what may stand before the size of a parameter's outermost array, and whether `static` is among it; qualifiers stand on one side of it (6.7.5 paragraph 1)
pub data AreSizeWords (w : Lexicon) : List Token → Bool → Type 0 where
  -- `[const 3]`, `[]`
  no_static : (ts : List Token) (c : Bool) → AreQualifiers w false ts c → AreSizeWords w ts false
  -- `[static const 3]`
  static_first : (t : Token) (ts : List Token) (c : Bool) → is_keyword w keyword.Static t ≡ true → AreQualifiers w false ts c → AreSizeWords w (t ∷ ts) true
  -- `[const static 3]`
  static_last : (t : Token) (ts : List Token) (c : Bool) → AreQualifiers w false ts c → is_keyword w keyword.Static t ≡ true → AreSizeWords w (ts ++ (t ∷ [])) true

-- ---- specifiers, declarators, members and parameters

abbrev pub first_place : Place → List Token → Place
first_place place [] = place
first_place place (t ∷ ts) = t.place

abbrev pub nowhere : Place
nowhere = record { file = 0; line = 0; col = 0 }

-- a member or a parameter: its place is that of its name, or the one that is given
abbrev pub simple_decl : Place → List NoteTree → TypeTree → Declarator → DeclTree
simple_decl place notes base d = tree.Decl (note_list notes) storage.Plain (typed base d.pieces) (name_in d.name) (place_in place d.name) tree.NoInit tree.NoStmt

abbrev pub hidden_by : Option (Name × Place) → List Name → List Name
hidden_by None types = types
hidden_by (Some p) types = without p.0 types

-- The parameter `int (_Tag)` has the name `_Tag`, and `int (_In_ int)` is a function: a word that only looks like an annotation is a name there, and a listed one begins a parameter.
pub data BeginsDeclarator (w : Lexicon) : Bool → List Token → Type 0 where
  has_name : (ts : List Token) → BeginsDeclarator w false ts
  may_have_none : (t : Token) (ts : List Token) → is_type_name w t ≡ false → is_listed w t ≡ false → BeginsDeclarator w true (t ∷ ts)

-- with `static` a size has to be there
pub data IsSizeOf (w : Lexicon) : Bool → List Token → OptionalExpr → Type 0 where
  a_fixed : (ts : List Token) (e : ExprTree) → IsExpr w Assignment ts e → IsSizeOf w true ts (tree.AnExpr e)
  a_free : (ts : List Token) (size : OptionalExpr) → IsSize w ts size → IsSizeOf w false ts size

mutual
  pub data IsSpecifier (texts : List (List ℕ)) : Seat → Specified → List Token → Specified → Type 0 where
    -- 6.7.2
    is_word : (at : Seat) (s : Specified) (t : Token) (k : Keyword) (said : Said) → sign.keyword_of texts t ≡ Some k → said_after k t.place s.said ≡ Some said → IsSpecifier texts at s (t ∷ []) (saying said s)
    -- 6.7.3
    is_constant : (at : Seat) (s : Specified) (t : Token) → is_keyword (reading texts s.types) keyword.Const t ≡ true → IsSpecifier texts at s (t ∷ []) (constantly s)
    -- 6.7.3.1
    is_restricted : (at : Seat) (s : Specified) (t : Token) → is_keyword (reading texts s.types) keyword.Restrict t ≡ true → IsSpecifier texts at s (t ∷ []) s
    -- 6.7.4
    is_inline : (at : Seat) (s : Specified) (t : Token) → is_keyword (reading texts s.types) keyword.Inline t ≡ true → is_structure at ≡ false → IsSpecifier texts at s (t ∷ []) s
    -- 6.7.1
    is_stored : (at : Seat) (s : Specified) (t : Token) (k : Keyword) (storage : Storage) → sign.keyword_of texts t ≡ Some k → storage_in at s.storage k ≡ Some storage → IsSpecifier texts at s (t ∷ []) (stored storage s)
    -- 6.7.7
    is_defined : (at : Seat) (s : Specified) (t : Token) → is_type_name (reading texts s.types) t ≡ true → s.said ≡ Nothing → IsSpecifier texts at s (t ∷ []) (saying (Whole (tree.Defined t.text t.place)) s)
    -- 6.7.2.3
    names_structure : (at : Seat) (s : Specified) (ts : List Token) (n : Name) (place : Place) → s.said ≡ Nothing → IsTag (reading texts s.types) keyword.Struct ts (Some n) place
        → IsSpecifier texts at s ts (saying (Whole (tree.Struct (Some n) tree.Undeclared place)) s)
    -- 6.7.2.3
    names_enumeration : (at : Seat) (s : Specified) (ts : List Token) (n : Name) (place : Place) → s.said ≡ Nothing → IsTag (reading texts s.types) keyword.Enum ts (Some n) place
        → IsSpecifier texts at s ts (saying (Whole (tree.Enum (Some n) tree.Unlisted place)) s)
    -- 6.7.2.1
    defines_structure : (at : Seat) (s : Specified) (xs ys : List Token) (o c : Token) (tag : Option Name) (place : Place) (ds : Declarations) → s.said ≡ Nothing → IsTag (reading texts s.types) keyword.Struct xs tag place
        → is_mark (reading texts s.types) mark.OpenBrace o ≡ true → is_mark (reading texts s.types) mark.CloseBrace c ≡ true → AreMembers texts s.types ys ds
        → IsSpecifier texts at s (xs ++ (o ∷ (ys ++ (c ∷ [])))) (scoped ds.types (saying (Whole (tree.Struct tag (tree.Declared (decl_list ds.list)) place)) s))
    -- 6.7.2.2
    defines_enumeration : (at : Seat) (s : Specified) (xs ys : List Token) (o c : Token) (tag : Option Name) (place : Place) (is : List ItemTree) (now : List Name) (comma : Bool) → s.said ≡ Nothing
        → IsTag (reading texts s.types) keyword.Enum xs tag place → is_mark (reading texts s.types) mark.OpenBrace o ≡ true → is_mark (reading texts s.types) mark.CloseBrace c ≡ true
        → AreItems texts s.types ys is now comma → IsSpecifier texts at s (xs ++ (o ∷ (ys ++ (c ∷ [])))) (scoped now (saying (Whole (tree.Enum tag (tree.Listed (item_list is)) place)) s))

  pub data AreSpecifiers (texts : List (List ℕ)) : Seat → Specified → List Token → Specified → Type 0 where
    -- 6.7
    no_specifiers : (at : Seat) (s : Specified) → AreSpecifiers texts at s [] s
    -- 6.7
    more_specifiers : (at : Seat) (s s' s'' : Specified) (xs ys : List Token) → IsSpecifier texts at s xs s' → AreSpecifiers texts at s' ys s'' → AreSpecifiers texts at s (xs ++ ys) s''

  -- `functions`: functions may be declared; `may_lack`: the name may be left out
  pub data IsDeclarator (texts : List (List ℕ)) : List Name → (functions may_lack : Bool) → List Token → Declarator → Type 0 where
    -- 6.7.5
    is_direct : (types : List Name) (functions may_lack : Bool) (ts : List Token) (d : Declarator) → IsDirect texts types functions may_lack ts d → IsDeclarator texts types functions may_lack ts d
    -- 6.7.5.1
    is_pointer : (types : List Name) (functions may_lack : Bool) (t : Token) (c : Bool) (xs ys : List Token) (d : Declarator) → is_mark (reading texts types) mark.Star t ≡ true → AreQualifiers (reading texts types) false xs c → IsDeclarator texts types functions may_lack ys d
        → IsDeclarator texts types functions may_lack (t ∷ (xs ++ ys)) (with_pieces (Pointed t.place ∷ constant_if c d.pieces) d)

  pub data IsDirect (texts : List (List ℕ)) : List Name → (functions may_lack : Bool) → List Token → Declarator → Type 0 where
    -- 6.7.5
    is_name : (types : List Name) (functions may_lack : Bool) (t : Token) (n : Name) → name_of (reading texts types) t ≡ Some n → IsDirect texts types functions may_lack (t ∷ []) (record { pieces = []; name = Some (n, t.place); inner = types })
    -- 6.7.6
    is_nameless : (types : List Name) (functions may_lack : Bool) → may_lack ≡ true → IsDirect texts types functions may_lack [] (record { pieces = []; name = None; inner = types })
    -- without a name something else stands there, and a typedef name in the parentheses of a parameter is no name of it (6.7.5 paragraph 6, 6.7.5.3 paragraph 11)
    is_in_parentheses : (types : List Name) (functions may_lack : Bool) (o c : Token) (ts : List Token) (d : Declarator) → is_mark (reading texts types) mark.OpenParenthesis o ≡ true → is_mark (reading texts types) mark.CloseParenthesis c ≡ true → IsDeclarator texts types functions may_lack ts d
        → BeginsDeclarator (reading texts types) may_lack ts → IsDirect texts types functions may_lack (o ∷ (ts ++ (c ∷ []))) (with_pieces (Grouped o.place ∷ d.pieces) d)
    -- 6.7.5.2
    is_array : (types : List Name) (functions may_lack : Bool) (o c : Token) (xs ys : List Token) (size : OptionalExpr) (d : Declarator) → is_mark (reading texts types) mark.OpenBracket o ≡ true → is_mark (reading texts types) mark.CloseBracket c ≡ true → is_function d.pieces ≡ false
        → IsDirect texts types functions may_lack xs d → IsSize (reading texts types) ys size → IsDirect texts types functions may_lack (xs ++ (o ∷ (ys ++ (c ∷ [])))) (with_pieces (Arrayed size o.place ∷ d.pieces) d)
    -- the outermost array of a parameter, with words that say nothing a tree keeps (6.7.5.3 paragraph 7)
    is_outermost : (types : List Name) (functions may_lack : Bool) (o c : Token) (xs ys zs : List Token) (size : OptionalExpr) (d : Declarator) (fixed : Bool) → is_mark (reading texts types) mark.OpenBracket o ≡ true → is_mark (reading texts types) mark.CloseBracket c ≡ true
        → may_lack ≡ true → is_bare d.pieces ≡ true → IsDirect texts types functions may_lack xs d → AreSizeWords (reading texts types) ys fixed → IsSizeOf (reading texts types) fixed zs size → ((ys ≡ []) → ⊥)
        → IsDirect texts types functions may_lack (xs ++ (o ∷ ((ys ++ zs) ++ (c ∷ [])))) (with_pieces (Arrayed size o.place ∷ d.pieces) d)
    -- 6.7.5.3
    is_function_of : (types : List Name) (functions may_lack : Bool) (o c : Token) (xs ys : List Token) (d : Declarator) (ps : Declarations) → is_mark (reading texts types) mark.OpenParenthesis o ≡ true → is_mark (reading texts types) mark.CloseParenthesis c ≡ true
        → functions ≡ true → is_bare d.pieces ≡ true → IsDirect texts types functions may_lack xs d → AreParameters texts types ys ps
        → IsDirect texts types functions may_lack (xs ++ (o ∷ (ys ++ (c ∷ [])))) (record { pieces = Called (decl_list ps.list) o.place ∷ d.pieces; name = d.name; inner = ps.types })

  -- members of a structure, with the typedef names in force before and behind them (6.7.2.1)
  pub data AreMembers (texts : List (List ℕ)) : List Name → List Token → Declarations → Type 0 where
    -- 6.7.2.1
    first_members : (types : List Name) (ts : List Token) (ds : Declarations) → IsMember texts types ts ds → AreMembers texts types ts ds
    -- 6.7.2.1
    members_behind : (types : List Name) (xs ys : List Token) (ds es : Declarations) → AreMembers texts types xs ds → IsMember texts ds.types ys es
        → AreMembers texts types (xs ++ ys) (record { list = ds.list ++ es.list; types = es.types })

  -- one declaration of members
  pub data IsMember (texts : List (List ℕ)) : List Name → List Token → Declarations → Type 0 where
    -- 6.7.2.1
    is_member : (types : List Name) (xs ys zs : List Token) (c : Token) (notes : List NoteTree) (s : Specified) (base : TypeTree) (ds : List DeclTree)
        → AreNotes (reading texts types) (may_stand (reading texts types) bearer.Member) xs notes → AreSpecifiers texts seat.Structure (unspecified types) ys s → base_of s ≡ Some base
        → AreMemberDeclarators texts s.types notes base zs ds → is_mark (reading texts s.types) mark.Semicolon c ≡ true
        → IsMember texts types (xs ++ (ys ++ (zs ++ (c ∷ [])))) (record { list = ds; types = s.types })

  pub data AreMemberDeclarators (texts : List (List ℕ)) : List Name → List NoteTree → TypeTree → List Token → List DeclTree → Type 0 where
    -- 6.7.2.1
    first_member : (types : List Name) (notes : List NoteTree) (base : TypeTree) (ts : List Token) (d : Declarator) → IsDeclarator texts types false false ts d → AreMemberDeclarators texts types notes base ts (simple_decl nowhere notes base d ∷ [])
    -- 6.7.2.1
    member_behind : (types : List Name) (notes : List NoteTree) (base : TypeTree) (xs ys : List Token) (c : Token) (ds : List DeclTree) (d : Declarator) → is_mark (reading texts types) mark.Comma c ≡ true → AreMemberDeclarators texts types notes base xs ds → IsDeclarator texts types false false ys d
        → AreMemberDeclarators texts types notes base (xs ++ (c ∷ ys)) (ds ++ (simple_decl nowhere notes (again base) d ∷ []))

  -- the parameters of a function: `void` alone, or 1 to 32 (6.7.5.3)
  pub data AreParameters (texts : List (List ℕ)) : List Name → List Token → Declarations → Type 0 where
    -- 6.7.5.3 paragraph 10
    no_parameters : (types : List Name) (t : Token) → is_keyword (reading texts types) keyword.Void t ≡ true → AreParameters texts types (t ∷ []) (record { list = []; types = types })
    -- 6.7.5.3
    some_parameters : (types : List Name) (ts : List Token) (ds : Declarations) → AreSome texts types ts ds → ((t : Token) → ts ≡ t ∷ [] → is_keyword (reading texts types) keyword.Void t ≡ false)
        → AreParameters texts types ts ds

  pub data AreSome (texts : List (List ℕ)) : List Name → List Token → Declarations → Type 0 where
    -- 6.7.5.3
    first_parameter : (types now : List Name) (ts : List Token) (d : DeclTree) → IsParameter texts types ts d now → AreSome texts types ts (record { list = d ∷ []; types = now })
    -- 6.7.5.3
    parameter_behind : (types now : List Name) (xs ys : List Token) (c : Token) (ds : Declarations) (d : DeclTree) → is_mark (reading texts ds.types) mark.Comma c ≡ true → AreSome texts types xs ds
        → suc (length ds.list) ≤ 32 → IsParameter texts ds.types ys d now → AreSome texts types (xs ++ (c ∷ ys)) (record { list = ds.list ++ (d ∷ []); types = now })
    -- behind 32 parameters one more, where a token that no file spells makes room
    parameter_beyond : (types now : List Name) (xs ys : List Token) (c m : Token) (ds : Declarations) (d : DeclTree) → is_mark (reading texts ds.types) mark.Comma c ≡ true → AreSome texts types xs ds
        → 32 ≤ length ds.list → makes_room m ≡ true → IsParameter texts ds.types ys d now → AreSome texts types (xs ++ (c ∷ (m ∷ ys))) (record { list = ds.list ++ (d ∷ []); types = now })

  pub data IsParameter (texts : List (List ℕ)) : List Name → List Token → DeclTree → List Name → Type 0 where
    -- 6.7.5.3, 6.7.6
    is_parameter : (types : List Name) (xs ys zs : List Token) (notes : List NoteTree) (s : Specified) (base : TypeTree) (d : Declarator)
        → AreNotes (reading texts types) (may_stand (reading texts types) bearer.Parameter) xs notes → AreSpecifiers texts seat.Prototype (unspecified types) ys s → base_of s ≡ Some base
        → IsDeclarator texts s.types false true zs d
        → IsParameter texts types (xs ++ (ys ++ zs)) (simple_decl (first_place nowhere (xs ++ ys)) notes base d) (hidden_by d.name s.types)
