-- The readers of specifiers, as functions on the tokens that are left, and what those of declarators and declarations share with them. Beside the numbers of the readers of expressions and annotations a stop has 38 for a token that begins a parameter too many,
-- and 3000 and a count where the tokens show that an annotation that began so many tokens before may not stand there.
use Rattle.std.specs.Prelude.{ℕ, suc, ◌+◌, ◌-◌, ◌^◌, Bool, true, false, ◌&&◌, ◌||◌, not, List, [], ◌∷◌, ◌++◌, nat_lt, Option, Some, None, is_some, if◌then◌else◌}
use Rattle.std.specs.Option.{option_map_or}
use Rattle.sb_base.specs.declared.interning.Name.{Name}
use Rattle.sb_base.specs.declared.refusals.Place.{Place}
use Rattle.sb_base.specs.declared.tokens.PpKind.{PpKind}
use Rattle.sb_base.specs.declared.tokens.PpKind.TheVariants as kind
use Rattle.sb_base.specs.declared.tokens.Token.{Token}
use Rattle.sb_parse.specs.Parser.{Parser, ◌>>=◌, pure, refuse, token, taken, choose, guard, looped}
use Rattle.sb_sign.specs.declared.sign.Keyword.{Keyword}
use Rattle.sb_sign.specs.declared.sign.Keyword.TheVariants as keyword
use Rattle.sb_sign.specs.declared.sign.Mark.TheVariants as mark
use Rattle.sb_tree.specs.declared.syntax.Storage.TheVariants as storage
use Rattle.sb_tree.specs.Plain.{decl_list, item_list}
use Rattle.sb_sign.specs.Signs as sign
use Rattle.sb_tree.specs.Trees as tree
use Rattle.sb_tree.specs.Trees.{TypeTree, OptionalExpr, ItemTree, DeclTree}
use Rattle.sb_expr.specs.Expression.{Conditional}
use Rattle.sb_lexicon.specs.Lexicon.{Lexicon, is_mark, is_keyword, name_of, is_type_name, is_type_word, begins_type}
use Rattle.sb_operand.specs.Pieces.{Piece}
use Rattle.sb_lexicon.specs.Tokens as expr
use Rattle.sb_operand.specs.Readers.{begins_abstract}
use Rattle.sb_expr.specs.Readers.{expr_reader}
use Rattle.sb_lexicon.specs.SpecifierReaders.{is_floating, is_complex, is_union}
use Rattle.sb_lexicon.specs.Tokens.{unexpected, too_deep, lacks, unknown, misplaced, is_zero, is_open_bracket, is_open_brace, is_comma}
use Rattle.sb_lexicon.specs.Outcomes.{nowhere}
use Rattle.sb_lexicon.specs.Words.{Nothing, Whole, is_nothing, said_after}
use Rattle.sb_sal.specs.Spellings.{begins_note, is_listed, is_unlisted, may_stand}
use Rattle.sb_specifier.specs.declared.seat.Seat.{Seat}
use Rattle.sb_specifier.specs.declared.seat.Seat.TheVariants as seat
use Rattle.sb_specifier.specs.Specified.{without, reading, Specified, unspecified, saying, constantly, stored, scoped, storage_in, base_of, depth_said, one_if, is_tag_alone, bearer_at}

-- ---- refusals

abbrev pub bit_field : ℕ
bit_field = lacks 3

abbrev pub variable_arguments : ℕ
variable_arguments = lacks 6

abbrev pub old_definition : ℕ
old_definition = lacks 9

abbrev pub designated : ℕ
designated = lacks 15

-- ---- tests of one token

abbrev pub is_close_brace : Lexicon → Token → Bool
is_close_brace w = is_mark w mark.CloseBrace

abbrev pub is_semicolon : Lexicon → Token → Bool
is_semicolon w = is_mark w mark.Semicolon

abbrev pub is_assign : Lexicon → Token → Bool
is_assign w = is_mark w mark.Assign

abbrev pub is_name : Lexicon → Token → Bool
is_name w t = is_some (name_of w t)

abbrev pub is_storage_keyword : Keyword → Bool
is_storage_keyword keyword.Typedef = true
is_storage_keyword keyword.Extern = true
is_storage_keyword keyword.Static = true
is_storage_keyword keyword.Register = true
is_storage_keyword keyword.Inline = true
is_storage_keyword _ = false

-- a storage word or `inline`
abbrev pub is_storage_word : Lexicon → Token → Bool
is_storage_word w t = option_map_or is_storage_keyword (sign.keyword_of w.texts t) false

abbrev pub is_specifier_word : Lexicon → Token → Bool
is_specifier_word w t = is_type_word w t || is_storage_word w t

abbrev pub is_header : PpKind → Bool
is_header kind.Header = true
is_header _ = false

-- a declaration can begin so
abbrev pub begins_declaration : Lexicon → Token → Bool
begins_declaration w t = is_specifier_word w t || (is_type_name w t || begins_note w t)

abbrev pub begins_parameter : Lexicon → Token → Bool
begins_parameter w t = begins_type w t || (is_keyword w keyword.Register t || (is_keyword w keyword.Inline t || begins_note w t))

-- a parameter can go on so behind `void`
abbrev pub goes_on_void : Lexicon → Token → Bool
goes_on_void w t = begins_abstract w t || (is_name w t || (is_comma w t || (is_keyword w keyword.Const t || (is_keyword w keyword.Restrict t || (is_keyword w keyword.Register t || is_keyword w keyword.Inline t)))))

-- a declaration at this seat can begin so
abbrev pub begins_at : Lexicon → Seat → Token → Bool
begins_at w seat.Scope t = begins_declaration w t
begins_at w seat.Structure t = begins_type w t || begins_note w t
begins_at w seat.Prototype t = begins_parameter w t

-- the token behind a declarator shows that what is declared is no function, or that it is done
abbrev pub shows_object : Lexicon → Token → Bool
shows_object w t = is_comma w t || (is_semicolon w t || (is_assign w t || is_open_brace w t))

-- Behind a declarator, or the specifiers of a nameless declaration, on which the annotations may not stand this token pardons them. No file spells it: it is there so that such a declaration goes on with something.
abbrev pub is_pardon : Token → Bool
is_pardon t = is_header t.kind && nat_lt (2 ^ 33) t.text.0

-- a declaration that declares no name ends so
abbrev pub ends_nameless : Lexicon → Token → Bool
ends_nameless w t = is_semicolon w t || is_pardon t

-- Where no declaration of a seat may follow: what its first token would be refused for, and number n where one may begin with it. With n = 38 `float x` is refused by 33, `_Foo_ int x` by 36, `_Ret_z_ char *x` of a parameter by 37, `x` by 31, and `int x` by 38.
abbrev pub barred_by : {A : Type 0} → ℕ → Lexicon → Seat → Parser Token A
barred_by n w seat =
    choose (is_unlisted w) (refuse unknown)
    (choose (λ t. is_listed w t && not (may_stand w (bearer_at seat) t)) (refuse misplaced)
    (choose (is_floating w Nothing) (refuse expr.floating)
    (choose (is_union w Nothing) (refuse expr.union)
    (choose (is_keyword w keyword.Volatile) (refuse expr.volatile)
    (choose (is_complex w Nothing) (refuse expr.complex)
    (choose (begins_at w seat) (refuse n)
    (refuse unexpected)))))))

-- where no declaration of a seat has room
abbrev pub barred : {A : Type 0} → Lexicon → Seat → Parser Token A
barred w seat = barred_by too_deep w seat

-- Behind the comma that follows 32 parameters this token lets one more stand. No file spells it: it is there so that a list of parameters goes on with something behind that comma.
abbrev pub makes_room : Token → Bool
makes_room t = is_header t.kind && nat_lt (2 ^ 33) t.text.0

abbrev pub name_at : Lexicon → Token → Option (Name × Place)
name_at w t = option_map_or (λ n. Some (n, t.place)) (name_of w t) None

abbrev pub storage_by : Seat → Specified → Option Keyword → Option Specified
storage_by seat s None = None
storage_by seat s (Some k) = option_map_or (λ storage. Some (stored storage s)) (storage_in seat s.storage k) None

abbrev pub storage_after : Lexicon → Seat → Specified → Token → Option Specified
storage_after w seat s t = storage_by seat s (sign.keyword_of w.texts t)

abbrev pub word_by : Place → Specified → Option Keyword → Option Specified
word_by place s None = None
word_by place s (Some k) = option_map_or (λ said. Some (saying said s)) (said_after k place s.said) None

abbrev pub word_after : Lexicon → Specified → Token → Option Specified
word_after w s t = word_by t.place s (sign.keyword_of w.texts t)

abbrev pub is_structure : Seat → Bool
is_structure seat.Structure = true
is_structure _ = false

-- ---- declarators

pub record Declarator : Type 0 where
  pub pieces : List Piece
  pub name : Option (Name × Place)
  -- the typedef names in force behind the parameters of the declared function
  pub inner : List Name

abbrev pub with_pieces : List Piece → Declarator → Declarator
with_pieces ps d = record { pieces = ps; name = d.name; inner = d.inner }

-- declarations, and the typedef names in force behind them
pub record Declarations : Type 0 where
  pub list : List DeclTree
  pub types : List Name

abbrev pub one_more : Declarations → DeclTree → List Name → Declarations
one_more ds d types = record { list = ds.list ++ (d ∷ []); types = types }

-- the readers of declarations that are at most so deep, by the typedef names in force
pub record Parts : Type 0 where
  pub members : List Name → Parser Token Declarations
  pub parameters : List Name → Parser Token Declarations

-- ---- specifiers

pub record Items : Type 0 where
  pub list : List ItemTree
  pub types : List Name
  -- a comma was read, or nothing yet
  pub more : Bool

-- `below`: how deep the type may be; `part k`: the readers of declarations that are at most `below - k` deep
module _ (texts : List (List ℕ)) (seat : Seat) (below : ℕ) (part : ℕ → Parts) where
  abbrev pub lexicon : Specified → Lexicon
  lexicon s = reading texts s.types

  -- the constant's value, where it has one; it may be as deep as `left` says
  unfoldable pub item_value : Lexicon → ℕ → Parser Token OptionalExpr
  item_value w left = choose (is_assign w) (guard (is_zero left) too_deep (token unexpected (is_assign w) >>= (λ t. expr_reader w left Conditional >>= (λ e. pure (tree.AnExpr e))))) (pure tree.NoExpr)

  unfoldable pub comma_behind : Lexicon → Parser Token Bool
  comma_behind w = choose (is_comma w) (token unexpected (is_comma w) >>= (λ t. pure true)) (pure false)

  -- a constant of an enumeration, and a comma where there is one
  unfoldable pub item : ℕ → Items → Parser Token Items
  item left is = if is.more
      then taken unexpected (name_at (reading texts is.types)) >>= (λ n. item_value (reading texts is.types) left >>= (λ v. comma_behind (reading texts is.types) >>= (λ more.
      pure (record { list = is.list ++ (tree.Item n.0 v n.1 ∷ []); types = without n.0 is.types; more = more }))))
      else refuse unexpected

  unfoldable pub items : ℕ → List Name → Parser Token Items
  items left types = item left (record { list = []; types = types; more = true }) >>= looped (is_name (reading texts types)) (item left)

  unfoldable pub enumeration : Specified → Option Name → Place → Parser Token Specified
  enumeration s tag place = token unexpected (is_open_brace (lexicon s)) >>= (λ o. items (below - suc (one_if s.constant)) s.types >>= (λ is. token unexpected (is_close_brace (lexicon s)) >>= (λ c.
      pure (scoped is.types (saying (Whole (tree.Enum tag (tree.Listed (item_list is.list)) place)) s)))))

  unfoldable pub structure : Specified → Option Name → Place → Parser Token Specified
  structure s tag place = guard (nat_lt below (3 + one_if s.constant)) too_deep
      (token unexpected (is_open_brace (lexicon s)) >>= (λ o. (part (suc (one_if s.constant))).members s.types >>= (λ ds. token unexpected (is_close_brace (lexicon s)) >>= (λ c.
      pure (scoped ds.types (saying (Whole (tree.Struct tag (tree.Declared (decl_list ds.list)) place)) s))))))

  -- a tag, and what is defined by it where a brace follows; without a tag a brace has to
  unfoldable pub tagged : (Option Name → Place → Parser Token Specified) → (Name → Place → TypeTree) → Keyword → Specified → Parser Token Specified
  tagged defines names k s = token unexpected (is_keyword (lexicon s) k) >>= (λ t.
      choose (is_open_brace (lexicon s)) (defines None t.place)
      (taken unexpected (name_at (lexicon s)) >>= (λ n. choose (is_open_brace (lexicon s)) (defines (Some n.0) n.1) (pure (saying (Whole (names n.0 n.1)) s)))))

  abbrev pub begins_tag : Specified → Keyword → Token → Bool
  begins_tag s k t = is_keyword (lexicon s) k t && is_nothing s.said

  abbrev pub is_inline : Specified → Token → Bool
  is_inline s t = is_keyword (lexicon s) keyword.Inline t && not (is_structure seat)

  abbrev pub no_room_for_const : Specified → Bool
  no_room_for_const s = not s.constant && nat_lt below (suc (depth_said s.said))

  -- a brace defines what a tag names
  abbrev pub opens_tag : Specified → Token → Bool
  opens_tag s t = is_tag_alone s.said && is_open_brace (lexicon s) t

  -- it stands at the tag, and behind no other specifier
  unfoldable pub past_tag : Specified → Parser Token Specified
  past_tag s = choose (opens_tag s) (refuse unexpected) (pure s)

  -- one specifier that begins with a keyword, and names no tag
  unfoldable pub tagless : Specified → Parser Token Specified
  tagless s =
      choose (is_keyword (lexicon s) keyword.Const) (guard (no_room_for_const s) too_deep (token unexpected (is_keyword (lexicon s) keyword.Const) >>= (λ t. pure (constantly s))))
      (choose (is_keyword (lexicon s) keyword.Restrict) (token unexpected (is_keyword (lexicon s) keyword.Restrict) >>= (λ t. pure s))
      (choose (is_inline s) (token unexpected (is_inline s) >>= (λ t. pure s))
      (choose (is_storage_word (lexicon s)) (taken unexpected (storage_after (lexicon s) seat s))
      (choose (is_floating (lexicon s) s.said) (refuse expr.floating)
      (choose (is_union (lexicon s) s.said) (refuse expr.union)
      (choose (is_keyword (lexicon s) keyword.Volatile) (refuse expr.volatile)
      (choose (is_complex (lexicon s) s.said) (refuse expr.complex)
      (taken unexpected (word_after (lexicon s) s)))))))))

  -- one specifier that begins with a keyword
  unfoldable pub specified : Specified → Parser Token Specified
  specified s =
      choose (begins_tag s keyword.Struct) (tagged (structure s) (λ n place. tree.Struct (Some n) tree.Undeclared place) keyword.Struct s)
      (choose (begins_tag s keyword.Enum) (tagged (enumeration s) (λ n place. tree.Enum (Some n) tree.Unlisted place) keyword.Enum s)
      (tagless s >>= past_tag))

  unfoldable pub keyword_specifiers : Specified → Parser Token Specified
  keyword_specifiers s = looped (is_specifier_word (reading texts [])) specified s

  abbrev pub names_type : Specified → Token → Bool
  names_type s t = is_nothing s.said && is_type_name (lexicon s) t

  unfoldable pub defined : Specified → Parser Token Specified
  defined s = choose (names_type s) (token unexpected (names_type s) >>= (λ t. keyword_specifiers (saying (Whole (tree.Defined t.text t.place)) s))) (pure s)

  abbrev pub completed : Specified → Option TypeTree → Parser Token (Specified × TypeTree)
  completed s None = refuse unexpected
  completed s (Some t) = pure (s, t)

  -- all specifiers, and the type that they name
  unfoldable pub specifiers : List Name → Parser Token (Specified × TypeTree)
  specifiers types = keyword_specifiers (unspecified types) >>= defined >>= (λ s. completed s (base_of s))

-- ---- initialisers (6.7.8)

abbrev pub begins_designator : Lexicon → Token → Bool
begins_designator w t = is_mark w mark.Dot t || is_open_bracket w t

-- ---- declarations

abbrev pub name_in : Option (Name × Place) → Option Name
name_in n = option_map_or (λ p. Some p.0) n None

abbrev pub place_in : Place → Option (Name × Place) → Place
place_in place n = option_map_or (λ p. p.1) n place

-- where a type stands that a declaration without a name declares
abbrev pub place_of_base : TypeTree → Place
place_of_base (tree.Base code place) = place
place_of_base (tree.Struct tag members place) = place
place_of_base (tree.Enum tag items place) = place
place_of_base (tree.Defined name place) = place
place_of_base (tree.Const t) = place_of_base t
place_of_base _ = nowhere
