-- The readers of declarators, of the members of structures and of parameters, as functions on the tokens that are left.
use Rattle.std.specs.Prelude.{ℕ, zero, suc, ◌-◌, Bool, true, false, ◌&&◌, ◌||◌, not, List, [], ◌∷◌, ◌++◌, length, nat_lt, Some, None, if◌then◌else◌}
use Rattle.std.specs.Option.{option_map_or}
use Rattle.sb_base.specs.declared.interning.Name.{Name}
use Rattle.sb_base.specs.declared.refusals.Place.{Place}
use Rattle.sb_base.specs.declared.tokens.Token.{Token}
use Rattle.sb_parse.specs.Parser.{Parser, ◌>>=◌, pure, refuse, token, taken, choose, guard, looped}
use Rattle.sb_sign.specs.declared.sign.Keyword.TheVariants as keyword
use Rattle.sb_sign.specs.declared.sign.Mark.TheVariants as mark
use Rattle.sb_tree.specs.declared.syntax.Storage.TheVariants as storage
use Rattle.sb_tree.specs.Plain.{decl_list, note_list}
use Rattle.sb_tree.specs.Trees as tree
use Rattle.sb_tree.specs.Trees.{TypeTree, OptionalExpr, DeclTree, NoteTree, depth_of_type}
use Rattle.sb_parse.specs.Descent.{descent, choose_second}
use Rattle.sb_expr.specs.Expression.{Assignment}
use Rattle.sb_lexicon.specs.Lexicon.{Lexicon, is_mark, is_keyword, is_type_name}
use Rattle.sb_operand.specs.Pieces.{Pointed, Arrayed, Called, Grouped, typed, constant_if, points}
use Rattle.sb_lexicon.specs.Tokens as expr
use Rattle.sb_operand.specs.Readers.{begins_abstract}
use Rattle.sb_expr.specs.Readers.{expr_reader}
use Rattle.sb_lexicon.specs.Tokens.{unexpected, too_deep, too_many_parameters, is_zero, is_open, is_close, is_open_bracket, is_close_bracket, is_comma, is_colon, is_star, is_qualifier}
use Rattle.sb_lexicon.specs.Outcomes.{nowhere}
use Rattle.sb_sal.specs.declared.bearer.Bearer.TheVariants as bearer
use Rattle.sb_sal.specs.Readers.{notes_reader}
use Rattle.sb_sal.specs.Spellings.{begins_note, is_listed, may_stand}
use Rattle.sb_specifier.specs.declared.seat.Seat.TheVariants as seat
use Rattle.sb_specifier.specs.Specified.{without, reading, one_if, again, is_function, is_bare}
use Rattle.sb_specifier.specs.Readers.{Declarations, Declarator, Parts, barred, barred_by, begins_parameter, bit_field, goes_on_void, is_close_brace, is_name, is_semicolon, makes_room, name_at, name_in, old_definition, one_more, place_in, specifiers, variable_arguments, with_pieces}
use Rattle.sb_parse.specs.Texts.{with_text}

-- ---- declarators

-- what stands inside a declarator: `functions`: functions may be declared; `may_lack`: the name may be left out, as in a parameter
-- `below`: how deep the type may be; `part k`: the readers of declarations that are at most `below - k` deep; `room`: how many pieces may be put on; `rest k`: declarators with less room
module _ (w : Lexicon) (functions may_lack : Bool) (below : ℕ) (part : ℕ → Parts) (room : ℕ) (rest : ℕ → Parser Token Declarator) where
  unfoldable pub qualifier : Bool → Parser Token Bool
  qualifier c =
      choose (is_keyword w keyword.Const) (guard (nat_lt room 2) too_deep (token unexpected (is_keyword w keyword.Const) >>= (λ t. pure true)))
      (choose (is_keyword w keyword.Restrict) (token unexpected (is_keyword w keyword.Restrict) >>= (λ t. pure c))
      (refuse expr.volatile))

  unfoldable pub pointed : Parser Token Declarator
  pointed = token unexpected (is_star w) >>= (λ t. looped (is_qualifier w) qualifier false >>= (λ c. rest (one_if c) >>= (λ d. pure (with_pieces (Pointed t.place ∷ constant_if c d.pieces) d))))

  unfoldable pub inside : Token → Parser Token Declarator
  inside o = rest 0 >>= (λ d. token unexpected (is_close w) >>= (λ c. pure (with_pieces (Grouped o.place ∷ d.pieces) d)))

  -- with this token a parenthesis behind a parameter's type begins a declarator: `int (_Tag)` has a name that only looks like an annotation, and in `int (_In_ int)` a parameter begins
  abbrev pub begins_inner : Token → Bool
  begins_inner t = begins_abstract w t || (is_name w t && not (is_type_name w t || is_listed w t))

  unfoldable pub in_parentheses : Parser Token Declarator
  in_parentheses = token unexpected (is_open w) >>= (λ o.
      if may_lack
      then choose begins_inner (inside o) (choose (λ t. is_close w t || begins_parameter w t) (refuse expr.function_pointer) (refuse unexpected))
      else inside o)

  abbrev pub unnamed : Declarator
  unnamed = record { pieces = []; name = None; inner = w.types }

  abbrev pub named : Name × Place → Declarator
  named n = record { pieces = []; name = Some n; inner = w.types }

  unfoldable pub name_or_none : Parser Token Declarator
  name_or_none = if may_lack
      then choose (is_name w) (taken unexpected (name_at w) >>= (λ n. pure (named n))) (pure unnamed)
      else taken unexpected (name_at w) >>= (λ n. pure (named n))

  unfoldable pub first : Parser Token Declarator
  first = choose (is_open w) (guard (is_zero room) too_deep in_parentheses) name_or_none

  -- ---- sizes of arrays

  unfoldable pub size : ℕ → Parser Token OptionalExpr
  size n = expr_reader w (below - suc n) Assignment >>= (λ e. pure (tree.AnExpr e))

  unfoldable pub sized : ℕ → Parser Token OptionalExpr
  sized n = choose (is_close_bracket w) (pure tree.NoExpr) (size n)

  abbrev pub is_size_word : Token → Bool
  is_size_word t = is_keyword w keyword.Static t || is_qualifier w t

  -- qualifiers and `static` before the size of a parameter's outermost array (6.7.5.3 paragraph 7), which say nothing that a tree keeps
  -- `found`: whether qualifiers stand before `static`, and whether it was read; `[const static const 3]` is refused at the second `const`
  unfoldable pub size_word : Bool × Bool → Parser Token (Bool × Bool)
  size_word found =
      choose (λ t. is_keyword w keyword.Static t && not found.1) (token unexpected (is_keyword w keyword.Static) >>= (λ t. pure (found.0, true)))
      (guard (found.0 && found.1) unexpected
      (choose (is_keyword w keyword.Volatile) (refuse expr.volatile)
      (token unexpected (is_qualifier w) >>= (λ t. pure (not found.1, found.1)))))

  unfoldable pub outermost_size : ℕ → Parser Token OptionalExpr
  outermost_size n = looped is_size_word size_word (false, false) >>= (λ found. if found.1 then size n else sized n)

  unfoldable pub arrayed : Declarator → Parser Token Declarator
  arrayed d = guard (nat_lt room (suc (length d.pieces))) too_deep
      (token unexpected (is_open_bracket w) >>= (λ o.
      (if may_lack && is_bare d.pieces then outermost_size (length d.pieces) else sized (length d.pieces)) >>= (λ e.
      token unexpected (is_close_bracket w) >>= (λ c. pure (with_pieces (Arrayed e o.place ∷ d.pieces) d)))))

  -- ---- parameters

  abbrev pub is_void : Token → Bool
  is_void = is_keyword w keyword.Void

  abbrev pub no_parameters : Declarations
  no_parameters = record { list = []; types = w.types }

  unfoldable pub behind_void : Parser Token Declarations
  behind_void =
      choose (is_close w) (pure no_parameters)
      (choose (is_keyword w keyword.Volatile) (refuse expr.volatile)
      (choose (goes_on_void w) (refuse too_deep)
      (refuse unexpected)))

  -- `void` alone, where no parameter has room
  unfoldable pub only_void : Parser Token Declarations
  only_void = choose is_void (token unexpected is_void >>= (λ t. behind_void)) (barred w seat.Prototype)

  unfoldable pub void_parameters : Parser Token Declarations
  void_parameters = token unexpected is_void >>= (λ t. pure no_parameters)

  -- the parameters of a function under n pieces
  unfoldable pub some_parameters : ℕ → Parser Token Declarations
  some_parameters n = if nat_lt (below - suc n) 2 then only_void
      else choose is_void (choose_second (is_close w) void_parameters ((part (suc n)).parameters w.types)) ((part (suc n)).parameters w.types)

  unfoldable pub parameters : ℕ → Parser Token Declarations
  parameters n =
      choose (λ t. is_close w t || (is_name w t && not (is_type_name w t || begins_note w t))) (refuse old_definition)
      (some_parameters n)

  abbrev pub function_with : Declarator → Place → Declarations → Declarator
  function_with d place ps = record { pieces = Called (decl_list ps.list) place ∷ d.pieces; name = d.name; inner = if is_bare d.pieces then ps.types else d.inner }

  unfoldable pub called : Declarator → Parser Token Declarator
  called d = guard (nat_lt room (suc (length d.pieces))) too_deep
      (token unexpected (is_open w) >>= (λ o. parameters (length d.pieces) >>= (λ ps. token unexpected (is_close w) >>= (λ c. pure (function_with d o.place ps)))))

  -- an array or a function more
  unfoldable pub suffixed : Declarator → Parser Token Declarator
  suffixed d =
      choose (is_open_bracket w) (if is_function d.pieces then refuse unexpected else arrayed d)
      (if is_bare d.pieces && functions then called d
      else (if is_bare d.pieces || points d.pieces then refuse expr.function_pointer
      else refuse unexpected))

  abbrev pub is_suffix : Token → Bool
  is_suffix t = is_open_bracket w t || is_open w t

  unfoldable pub direct : Parser Token Declarator
  direct = first >>= looped is_suffix suffixed

  unfoldable pub declarator_at : Parser Token Declarator
  declarator_at = choose (is_star w) (guard (is_zero room) too_deep pointed) direct

-- declarators with room for `room - k` pieces; without room no declarator is read inside another
abbrev pub declarators : Lexicon → (functions may_lack : Bool) → ℕ → (ℕ → Parts) → (room k : ℕ) → Parser Token Declarator
declarators w functions may_lack below part =
    descent (declarator_at w functions may_lack below part 0 (λ k. refuse unexpected)) (λ n rest. declarator_at w functions may_lack below part (suc n) rest)

-- ---- declarations

-- `below`: how deep the parts of a declaration may be; `part k`: the readers of declarations that are at most `below - k` deep
module _ (texts : List (List ℕ)) (below : ℕ) (part : ℕ → Parts) where
  -- a declarator on a type
  abbrev pub on : List Name → (functions may_lack : Bool) → TypeTree → Parser Token Declarator
  on types functions may_lack base = declarators (reading texts types) functions may_lack below part (below - depth_of_type base) 0

  -- ---- members of a structure (6.7.2.1)

  abbrev pub member_of : List NoteTree → TypeTree → Declarator → Place → DeclTree
  member_of notes base d place = tree.Decl (note_list notes) storage.Plain (typed base d.pieces) (name_in d.name) (place_in place d.name) tree.NoInit tree.NoStmt

  unfoldable pub member_declarator : List NoteTree → List Name → TypeTree → Parser Token DeclTree
  member_declarator notes types base = choose (is_colon (reading texts types)) (refuse bit_field)
      (on types false false base >>= (λ d. choose (is_colon (reading texts types)) (refuse bit_field) (pure (member_of notes base d nowhere))))

  unfoldable pub next_member : List NoteTree → List Name → TypeTree → List DeclTree → Parser Token (List DeclTree)
  next_member notes types base ds = token unexpected (is_comma (reading texts types)) >>= (λ t. member_declarator notes types (again base) >>= (λ d. pure (ds ++ (d ∷ []))))

  -- one declaration of members
  unfoldable pub member : Declarations → Parser Token Declarations
  member ds = notes_reader (reading texts ds.types) below (may_stand (reading texts ds.types) bearer.Member) >>= (λ notes.
      specifiers texts seat.Structure below part ds.types >>= (λ s.
      member_declarator notes s.0.types s.1 >>= (λ d.
      looped (is_comma (reading texts s.0.types)) (next_member notes s.0.types s.1) (d ∷ []) >>= (λ list.
      token unexpected (is_semicolon (reading texts s.0.types)) >>= (λ c.
      pure (record { list = ds.list ++ list; types = s.0.types }))))))

  unfoldable pub members : List Name → Parser Token Declarations
  members types = member (record { list = []; types = types }) >>= looped (λ t. not (is_close_brace (reading texts types) t)) member

  -- ---- parameters (6.7.5.3)

  abbrev pub first_place : List Token → Place
  first_place [] = nowhere
  first_place (t ∷ ts) = t.place

  unfoldable pub parameter : Declarations → Parser Token Declarations
  parameter ds = with_text (notes_reader (reading texts ds.types) below (may_stand (reading texts ds.types) bearer.Parameter)) >>= (λ notes.
      with_text (specifiers texts seat.Prototype below part ds.types) >>= (λ s.
      on s.0.0.types false true s.0.1 >>= (λ d.
      pure (one_more ds (member_of notes.0 s.0.1 d (first_place (notes.1 ++ s.1))) (option_map_or (λ n. without n.0 s.0.0.types) d.name s.0.0.types)))))

  -- 32 parameters are read
  abbrev pub is_full : Declarations → Bool
  is_full ds = not (nat_lt (length ds.list) 32)

  -- behind 32 parameters and a comma: `int x` is refused as one too many, and what no parameter begins with for what it is
  unfoldable pub beyond_limit : Declarations → Parser Token Declarations
  beyond_limit ds = choose makes_room (token unexpected makes_room >>= (λ t. parameter ds)) (barred_by too_many_parameters (reading texts ds.types) seat.Prototype)

  unfoldable pub another_parameter : Declarations → Parser Token Declarations
  another_parameter ds = if is_full ds then beyond_limit ds else parameter ds

  unfoldable pub next_parameter : Declarations → Parser Token Declarations
  next_parameter ds = token unexpected (is_comma (reading texts ds.types)) >>= (λ t. choose (is_mark (reading texts ds.types) mark.Ellipsis) (refuse variable_arguments) (another_parameter ds))

  unfoldable pub parameters_at : List Name → Parser Token Declarations
  parameters_at types = parameter (record { list = []; types = types }) >>= looped (is_comma (reading texts types)) next_parameter

  abbrev pub whole_parts : Parts
  whole_parts = record { members = members; parameters = parameters_at }

-- where no declaration has room: the depth that is left is below 2
abbrev pub no_parts : List (List ℕ) → Parts
no_parts texts = record { members = λ types. barred (reading texts types) seat.Structure; parameters = λ types. barred (reading texts types) seat.Prototype }

abbrev pub parts_at : List (List ℕ) → ℕ → (ℕ → Parts) → Parts
parts_at texts zero part = no_parts texts
parts_at texts (suc below) part = whole_parts texts (suc below) part

-- the readers of declarations that are at most `left - k` deep
abbrev pub parts : List (List ℕ) → (left k : ℕ) → Parts
parts texts = descent (no_parts texts) (parts_at texts)
