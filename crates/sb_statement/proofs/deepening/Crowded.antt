-- Behind a name that begins a declaration and for which there is no room: where that says too deep, the declaration of a greater depth gets past that token.
use Rattle.std.proofs.Common.{◌≡◌, ◌≤◌, ℕ, Bool, true, false, ◌||◌, List, [], ◌∷◌, ◌++◌, length, Option, Some, None, refl, sym, ap, ◌∙◌, arith}
use Rattle.std.proofs.Math.Nat.{max-le}
use Rattle.std.specs.Option.{option_map_or}
use Rattle.sb_base.specs.declared.interning.Name.{Name}
use Rattle.sb_base.specs.declared.tokens.Token.{Token}
use Rattle.sb_parse.specs.Parser.{Parser, done, at_next}
use Rattle.sb_tree.specs.Plain.{arg_list}
use Rattle.sb_sign.specs.declared.sign.Keyword.{Keyword}
use Rattle.sb_sign.specs.declared.sign.Keyword.TheVariants as keyword
use Rattle.sb_sign.specs.Signs as sign
use Rattle.sb_tree.specs.Trees as tree
use Rattle.sb_tree.specs.Trees.{NoteTree, TypeTree, depth_of_args, depth_of_note}
use Rattle.sb_lexicon.specs.Lexicon.{Lexicon, is_among, name_of, is_type_name}
use Rattle.sb_expr.specs.Expression.{no_qualifiers}
use Rattle.sb_lexicon.specs.Words.{Whole}
use Rattle.sb_lexicon.specs.Tokens.{is_open, is_star}
use Rattle.sb_lexicon.proofs.Lexemes.{close_token, close_token_is}
use Rattle.sb_sal.specs.declared.bearer.Bearer.TheVariants as bearer
use Rattle.sb_sign.specs.declared.spelling.Arguments.{Arguments}
use Rattle.sb_sign.specs.declared.spelling.Arguments.TheVariants as arguments
use Rattle.sb_sal.specs.Notes.{IsNote, is_bare, has_arguments, no_notes, more_notes}
use Rattle.sb_sal.specs.Reads.{FitsNotes}
use Rattle.sb_sal.specs.Readers as reader
use Rattle.sb_sal.specs.Readers.{is_nothing, note_reader, notes_reader}
use Rattle.sb_sal.specs.Spellings.{begins_note, arguments_of, is_listed, may_stand}
use Rattle.sb_sal.proofs.Annotations.{note_at, more_notes_behind, lawful_notes}
use Rattle.sb_sal.proofs.Deepening.{Past}
use Rattle.sb_sal.proofs.ExprDeepening.{past_by_text}
use Rattle.sb_sal.proofs.Filled.{filled}
use Rattle.sb_sal.proofs.Noting.{enclosed}
use Rattle.sb_sal.proofs.Tokens.{open_token, open_token_is, has_arguments_of, bare_by, bare_listed}
use Rattle.sb_specifier.specs.declared.seat.Seat.TheVariants as seat
use Rattle.sb_specifier.specs.Specified.{reading, Specified, unspecified, saying, constantly, storage_of, base_of}
use Rattle.sb_declare.specs.Declaration.{Begins, may_stand_there, IsDeclaration, is_nameless, is_declaration, first_declared, is_declared, no_initialiser, declared_by, declaration_of}
use Rattle.sb_specifier.specs.Declaration.{IsSpecifier, is_constant, is_restricted, is_inline, is_stored, is_defined, no_specifiers, more_specifiers, IsDeclarator, is_direct, is_pointer, is_name, is_in_parentheses, has_name}
use Rattle.sb_declare.proofs.widening.Barred.{is_word}
use Rattle.sb_statement.specs.Readers.{is_misplaced}
use Rattle.sb_statement.proofs.tokens.Names.{stands_there}
use Rattle.sb_statement.proofs.laws.Expressions.{semicolon_token, semicolon_token_is}
use Rattle.sb_specifier.specs.Readers.{Declarations, Declarator, is_semicolon, is_storage_keyword, place_of_base}
use Rattle.sb_declare.specs.Readers.{functions_in}

-- ---- annotations that begin with a listed name

nothing_alone : (a : Arguments) → is_nothing a ≡ true → a ≡ arguments.Nothing
nothing_alone arguments.Nothing h = refl
nothing_alone _ h = absurd (cc h)

module _ (w : Lexicon) where
  abbrev may : Token → Bool
  may = may_stand w bearer.Function

  -- one that begins so, and is no deeper than 2
  pub record BeginsNote (front : List Token) : Type 0 where
    pub rest : List Token
    pub tree : NoteTree
    pub is : IsNote w may (front ++ rest) tree
    pub deep : depth_of_note tree ≤ 2

  bare_note : (t : Token) → reader.is_bare w t ≡ true → is_misplaced w t ≡ false → IsNote w may (t ∷ []) (tree.Note t.text tree.NoArgs t.place)
  bare_note t h placed =
      let a : (a : Arguments) × (arguments_of w t ≡ Some a) = has_arguments_of w t (bare_listed w t h) in
      is_bare may t (stands_there w t (bare_listed w t h) placed) (a.1 ∙ ap Some (nothing_alone a.0 (sym (bare_by w t a.0 a.1) ∙ h)))

  -- with this parenthesis
  opens_note : (t o : Token) → is_listed w t ≡ true → is_misplaced w t ≡ false → reader.is_bare w t ≡ false → is_open w o ≡ true → BeginsNote (t ∷ (o ∷ []))
  opens_note t o listed placed bare opens =
      let a : (a : Arguments) × (arguments_of w t ≡ Some a) = has_arguments_of w t listed in
      let stands : may_stand w bearer.Function t ≡ true = stands_there w t listed placed in
      let inside = (enclosed w 1 (note_reader w 1) may (λ m G. note_at w 1 m G) (filled w bearer.Function) t a.0 (omega arith) stands a.1 (sym (bare_by w t a.0 a.1) ∙ bare)).law.some in
      let less : depth_of_args (arg_list inside.1) ≤ 1 = inside.2.deep in
      record {
        rest = inside.0 ++ (close_token ∷ []);
        tree = tree.Note t.text (arg_list inside.1) t.place;
        is = has_arguments may t o close_token a.0 inside.0 inside.1 stands a.1 opens (close_token_is w) inside.2.are;
        deep = omega (arith, less);
      }

  some_note : (t : Token) → is_listed w t ≡ true → is_misplaced w t ≡ false → BeginsNote (t ∷ [])
  some_note t listed placed = by_test (reader.is_bare w t) refl
    where
      by_test : (b : Bool) → reader.is_bare w t ≡ b → BeginsNote (t ∷ [])
      by_test true h = record { rest = []; tree = tree.Note t.text tree.NoArgs t.place; is = bare_note t h placed; deep = omega arith }
      by_test false h = let n : BeginsNote (t ∷ (open_token ∷ [])) = opens_note t open_token listed placed h (open_token_is w) in record { rest = open_token ∷ n.rest; tree = n.tree; is = n.is; deep = n.deep }

  module _ (m : ℕ) (enough : 2 ≤ m) where
    abbrev notes_at : Parser Token (List NoteTree)
    notes_at = notes_reader w m (may_stand w bearer.Function)

    pub applied_past : (t o : Token) (us : List Token) → is_listed w t ≡ true → is_misplaced w t ≡ false → reader.is_bare w t ≡ false → is_open w o ≡ true → Past (length (o ∷ us)) (notes_at (t ∷ (o ∷ us)))
    applied_past t o us listed placed bare opens =
        let n : BeginsNote (t ∷ (o ∷ [])) = opens_note t o listed placed bare opens in
        let deep : depth_of_note n.tree ≤ 2 = n.deep in
        let flat : 0 ≤ m = omega arith in
        past_by_text (FitsNotes w m (may_stand w bearer.Function)) (more_notes_behind w) notes_at (lawful_notes w m (may_stand w bearer.Function) (filled w bearer.Function)) (t ∷ []) o us
        (record { rest = n.rest; tree = n.tree ∷ []; is = (more_notes [] (t ∷ (o ∷ n.rest)) [] n.tree no_notes n.is, max-le (omega arith) flat) })

    pub another_past : (t s : Token) (us : List Token) → reader.is_bare w t ≡ true → is_misplaced w t ≡ false → is_listed w s ≡ true → is_misplaced w s ≡ false → Past (length (s ∷ us)) (notes_at (t ∷ (s ∷ us)))
    another_past t s us bare placed listed there =
        let n : BeginsNote (s ∷ []) = some_note s listed there in
        let deep : depth_of_note n.tree ≤ 2 = n.deep in
        let flat : 0 ≤ m = omega arith in
        let one : 1 ≤ m = omega arith in
        let fits : depth_of_note n.tree ≤ m = omega arith in
        let first : NoteTree = tree.Note t.text tree.NoArgs t.place in
        past_by_text (FitsNotes w m (may_stand w bearer.Function)) (more_notes_behind w) notes_at (lawful_notes w m (may_stand w bearer.Function) (filled w bearer.Function)) (t ∷ []) s us
        (record { rest = n.rest; tree = first ∷ (n.tree ∷ []); is = (more_notes (t ∷ []) (s ∷ n.rest) (first ∷ []) n.tree (more_notes [] (t ∷ []) [] first no_notes (bare_note t bare placed)) n.is, max-le one (max-le fits flat)) })

    pub alone_read : (t : Token) (ts : List Token) → reader.is_bare w t ≡ true → is_misplaced w t ≡ false → at_next (is_open w) ts ≡ false → at_next (begins_note w) ts ≡ false → notes_at (t ∷ ts) ≡ done (tree.Note t.text tree.NoArgs t.place ∷ []) ts
    alone_read t ts bare placed opens none =
        let flat : 0 ≤ m = omega arith in
        let one : 1 ≤ m = omega arith in
        let first : NoteTree = tree.Note t.text tree.NoArgs t.place in
        (lawful_notes w m (may_stand w bearer.Function) (filled w bearer.Function)).complete (t ∷ []) (first ∷ []) ts (more_notes [] (t ∷ []) [] first no_notes (bare_note t bare placed), max-le one flat) (ends ts opens none)
      where
        ends : (ts : List Token) → at_next (is_open w) ts ≡ false → at_next (begins_note w) ts ≡ false → at_next (more_notes_behind w (tree.Note t.text tree.NoArgs t.place ∷ [])) ts ≡ false
        ends [] h k = refl
        ends (u ∷ us) h k = rw (k, h) refl

-- ---- declarations that begin with a typedef name

module _ (texts : List (List ℕ)) (types : List Name) (t : Token) (is : is_type_name (reading texts types) t ≡ true) where
  abbrev w : Lexicon
  w = reading texts types

  abbrev plain : Specified
  plain = saying (Whole (tree.Defined t.text t.place)) (unspecified types)

  -- one that goes on with this token
  pub record GoesOnSo (u : Token) : Type 0 where
    pub rest : List Token
    pub declares : Declarations
    pub text : IsDeclaration texts types (t ∷ (u ∷ rest)) declares

  begins_by : (u : Token) (s : Specified) → IsSpecifier texts seat.Scope plain (u ∷ []) s → (base : TypeTree) → base_of s ≡ Some base → GoesOnSo u
  begins_by u s say base names =
      record {
        rest = semicolon_token ∷ [];
        declares = record { list = tree.Decl tree.NoNotes (storage_of s) base None (place_of_base base) tree.NoInit tree.NoStmt ∷ []; types = s.types };
        text = is_nameless types [] (t ∷ (u ∷ [])) [] semicolon_token [] s base (record {
          are_notes = no_notes;
          are_specifiers = more_specifiers seat.Scope (unspecified types) plain s (t ∷ []) (u ∷ []) (is_defined seat.Scope (unspecified types) t is refl) (more_specifiers seat.Scope plain s s (u ∷ []) [] say (no_specifiers seat.Scope s));
          names = names;
        }) (may_stand_there refl) (semicolon_token_is (reading texts s.types));
      }

  begins_type : Begins texts types [] (t ∷ []) [] plain (tree.Defined t.text t.place)
  begins_type = record {
    are_notes = no_notes;
    are_specifiers = more_specifiers seat.Scope (unspecified types) plain plain (t ∷ []) [] (is_defined seat.Scope (unspecified types) t is refl) (no_specifiers seat.Scope plain);
    names = refl;
  }

  pub ends_there : (u : Token) → is_semicolon w u ≡ true → GoesOnSo u
  ends_there u h =
      record {
        rest = [];
        declares = record { list = tree.Decl tree.NoNotes (storage_of plain) (tree.Defined t.text t.place) None t.place tree.NoInit tree.NoStmt ∷ []; types = types };
        text = is_nameless types [] (t ∷ []) [] u [] plain (tree.Defined t.text t.place) begins_type (may_stand_there refl) h;
      }

  declares_so : (u : Token) (us : List Token) (d : Declarator) → IsDeclarator texts types (functions_in plain) false (u ∷ us) d → GoesOnSo u
  declares_so u us d is_so =
      record {
        rest = (us ++ []) ++ (semicolon_token ∷ []);
        declares = record { list = declaration_of [] plain (tree.Defined t.text t.place) d tree.NoInit tree.NoStmt ∷ []; types = declared_by plain d.name types };
        text = is_declaration types [] (t ∷ []) (u ∷ (us ++ [])) semicolon_token [] plain (tree.Defined t.text t.place) _ begins_type
            (first_declared (u ∷ (us ++ [])) _ _ (is_declared types (u ∷ us) [] [] d tree.NoInit is_so (may_stand_there refl) no_initialiser)) (semicolon_token_is w);
      }

  pub by_name : (u : Token) (n : Name) → name_of w u ≡ Some n → GoesOnSo u
  by_name u n e = declares_so u [] _ (is_direct types (functions_in plain) false (u ∷ []) _ (is_name types (functions_in plain) false u n e))

  its_name : (n : Name) × (name_of w t ≡ Some n)
  its_name = by_some (name_of w t) refl is
    where
      by_some : (o : Option Name) → name_of w t ≡ o → option_map_or (λ n. is_among n types) o false ≡ true → (n : Name) × (name_of w t ≡ Some n)
      by_some None e h = absurd (cc h)
      by_some (Some n) e h = (n, e)

  pub by_star : (u : Token) → is_star w u ≡ true → GoesOnSo u
  by_star u h = declares_so u (t ∷ []) _
      (is_pointer types (functions_in plain) false u false [] (t ∷ []) _ h (no_qualifiers false) (is_direct types (functions_in plain) false (t ∷ []) _ (is_name types (functions_in plain) false t its_name.0 its_name.1)))

  pub by_open : (u : Token) → is_open w u ≡ true → GoesOnSo u
  by_open u h =
      declares_so u (t ∷ (close_token ∷ [])) _
      (is_direct types (functions_in plain) false (u ∷ (t ∷ (close_token ∷ []))) _
      (is_in_parentheses types (functions_in plain) false u close_token (t ∷ []) _ h (close_token_is w) (is_direct types (functions_in plain) false (t ∷ []) _ (is_name types (functions_in plain) false t its_name.0 its_name.1))
      (has_name (t ∷ []))))

  pub by_word : (u : Token) (o : Option Keyword) → sign.keyword_of texts u ≡ o → (is_word keyword.Const o || (is_word keyword.Restrict o || option_map_or is_storage_keyword o false)) ≡ true → GoesOnSo u
  by_word u None e h = absurd (cc h)
  by_word u (Some keyword.Const) e h = begins_by u (constantly plain) (is_constant seat.Scope plain u (ap (is_word keyword.Const) e)) _ refl
  by_word u (Some keyword.Restrict) e h = begins_by u plain (is_restricted seat.Scope plain u (ap (is_word keyword.Restrict) e)) _ refl
  by_word u (Some keyword.Inline) e h = begins_by u plain (is_inline seat.Scope plain u (ap (is_word keyword.Inline) e) refl) _ refl
  by_word u (Some keyword.Typedef) e h = begins_by u _ (is_stored seat.Scope plain u keyword.Typedef _ e refl) _ refl
  by_word u (Some keyword.Extern) e h = begins_by u _ (is_stored seat.Scope plain u keyword.Extern _ e refl) _ refl
  by_word u (Some keyword.Static) e h = begins_by u _ (is_stored seat.Scope plain u keyword.Static _ e refl) _ refl
  by_word u (Some keyword.Register) e h = begins_by u _ (is_stored seat.Scope plain u keyword.Register _ e refl) _ refl
  by_word u (Some _) e h = absurd (cc h)
