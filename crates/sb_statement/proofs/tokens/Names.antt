-- Some declaration begins with each typedef name and each annotation.
use Rattle.std.proofs.Common.{◌≡◌, ◌≤◌, ◌-◌, ℕ, suc, max, Bool, true, false, ◌&&◌, ◌||◌, not, List, [], ◌∷◌, ◌++◌, Some, None, nat_lt, if◌then◌else◌, refl, sym, ap, ◌∙◌, subst, le_trans, arith}
use Rattle.std.proofs.Math.Nat.{max-le}
use Rattle.std.specs.Option.{option_map_or}
use Rattle.sb_base.specs.declared.interning.Name.{Name}
use Rattle.sb_base.specs.declared.tokens.PpKind.TheVariants as kind
use Rattle.sb_base.specs.declared.tokens.Token.{Token}
use Rattle.sb_sign.specs.declared.sign.Keyword.TheVariants as keyword
use Rattle.sb_tree.specs.declared.syntax.Storage.TheVariants as storage
use Rattle.sb_tree.specs.Plain.{arg_list, note_list}
use Rattle.sb_tree.specs.Trees as tree
use Rattle.sb_tree.specs.Trees.{NoteTree, TypeTree, depth_of_args, depth_of_note}
use Rattle.sb_lexicon.specs.declared.words.Signedness.TheVariants as sign_word
use Rattle.sb_lexicon.specs.declared.words.Length.TheVariants as length_word
use Rattle.sb_lexicon.specs.declared.words.Kind.TheVariants as kind_word
use Rattle.sb_lexicon.specs.Lexicon.{Lexicon, is_type_name, is_type_keyword}
use Rattle.sb_lexicon.specs.Outcomes.{nowhere}
use Rattle.sb_lexicon.specs.Words.{Words, Whole}
use Rattle.sb_lexicon.proofs.Lexemes.{name_no_keyword, int_token, int_token_is, close_token, close_token_is}
use Rattle.sb_lexicon.proofs.Depths.{within_room}
use Rattle.sb_parse.proofs.Ways.{and_first, and_second}
use Rattle.sb_sal.specs.declared.bearer.Bearer.TheVariants as bearer
use Rattle.sb_sign.specs.declared.spelling.Arguments.{Arguments}
use Rattle.sb_sign.specs.declared.spelling.Arguments.TheVariants as arguments
use Rattle.sb_sal.specs.Notes.{IsNote, is_bare, has_arguments, AreNotes, no_notes, more_notes}
use Rattle.sb_sal.specs.Readers as reader
use Rattle.sb_sal.specs.Readers.{is_nothing, note_reader}
use Rattle.sb_sal.specs.Spellings.{begins_note, arguments_of, is_listed, is_unlisted, may_stand}
use Rattle.sb_sal.proofs.Annotations.{note_at}
use Rattle.sb_sal.proofs.Filled.{filled}
use Rattle.sb_sal.proofs.Noting.{some_note, enclosed}
use Rattle.sb_sal.proofs.Tokens.{open_token, open_token_is, has_arguments_of, bare_by}
use Rattle.sb_specifier.specs.declared.seat.Seat.TheVariants as seat
use Rattle.sb_specifier.specs.Specified.{reading, Specified, unspecified, saying}
use Rattle.sb_specifier.specs.Declaration.{is_word, is_defined, no_specifiers, more_specifiers}
use Rattle.sb_declare.specs.Declaration.{may_stand_there, is_pardoned, IsDeclaration, is_nameless}
use Rattle.sb_declare.specs.Reads.{FitsDeclaration}
use Rattle.sb_declare.specs.Readers.{all_stand}
use Rattle.sb_specifier.specs.Readers.{Declarations, is_pardon, is_name, is_specifier_word, is_storage_keyword, begins_declaration}
use Rattle.sb_specifier.proofs.laws.Names.{name_is}
use Rattle.sb_statement.specs.Readers.{names_declaration, room_for, is_misplaced}
use Rattle.sb_statement.proofs.laws.Expressions.{semicolon_token, semicolon_token_is}

-- what pardons annotations
pardon_token : Token
pardon_token = record { kind = kind.Header; text = record { 0 = 8589934593 }; place = nowhere; value = 0 }

pardon_token_is : is_pardon pardon_token ≡ true
unfolding pardon_token
pardon_token_is = refl

nothing_alone : (a : Arguments) → is_nothing a ≡ true → a ≡ arguments.Nothing
nothing_alone arguments.Nothing h = refl
nothing_alone _ h = absurd (cc h)

-- a listed word that is not misplaced may stand there
pub stands_there : (w : Lexicon) (t : Token) → is_listed w t ≡ true → is_misplaced w t ≡ false → may_stand w bearer.Function t ≡ true
stands_there w t listed placed = by_test (may_stand w bearer.Function t) (sym (ap (λ b. b && not (may_stand w bearer.Function t)) listed) ∙ placed)
  where
    by_test : (b : Bool) → not b ≡ false → b ≡ true
    by_test true h = refl
    by_test false h = absurd (cc h)

pub two_at_least : (b : Bool) → 2 ≤ (if b then 3 else 2)
two_at_least true = omega arith
two_at_least false = omega arith

module _ (texts : List (List ℕ)) (types : List Name) (below : ℕ) where
  abbrev w : Lexicon
  w = reading texts types

  -- a declaration that begins with this token
  pub record BeginsSome (o : Token) : Type 0 where
    pub rest : List Token
    pub declares : Declarations
    pub fits : FitsDeclaration texts below types (o ∷ rest) declares

  by_type : (o : Token) → is_type_name w o ≡ true → 2 ≤ below → BeginsSome o
  by_type o h some =
      let s : Specified = saying (Whole (tree.Defined o.text o.place)) (unspecified types) in
      record {
        rest = semicolon_token ∷ [];
        declares = record { list = tree.Decl tree.NoNotes storage.Plain (tree.Defined o.text o.place) None o.place tree.NoInit tree.NoStmt ∷ []; types = types };
        fits = (
          is_nameless types [] (o ∷ []) [] semicolon_token [] (saying (Whole (tree.Defined o.text o.place)) (unspecified types)) (tree.Defined o.text o.place) (record {
            are_notes = no_notes;
            are_specifiers = more_specifiers seat.Scope (unspecified types) (saying (Whole (tree.Defined o.text o.place)) (unspecified types)) (saying (Whole (tree.Defined o.text o.place)) (unspecified types)) (o ∷ []) [] (is_defined seat.Scope (unspecified types) o h refl)
                (no_specifiers seat.Scope (saying (Whole (tree.Defined o.text o.place)) (unspecified types)));
            names = refl;
          }) (may_stand_there refl) (semicolon_token_is w),
          some,
        );
      }

  int_said : Specified
  int_said = saying (Words (record { sign = sign_word.Unsaid; length = length_word.Unsaid; kind = kind_word.Int }) int_token.place) (unspecified types)

  int_type : TypeTree
  int_type = tree.Base 7 int_token.place

  -- an annotation, `int` and what pardons the annotation
  by_note : (ts : List Token) (n : NoteTree) (o : Token) (rest : List Token) → ts ≡ o ∷ rest → IsNote w (may_stand w bearer.Function) ts n → suc (depth_of_note n) ≤ below → BeginsSome o
  unfolding int_said int_type
  by_note ts n o rest split is le =
      let one : 1 ≤ depth_of_note n = some_note n in
      let small : depth_of_note n ≤ below - 1 = omega arith in
      let flat : 1 ≤ below - 1 = omega arith in
      let none : 0 ≤ below - 1 = omega arith in
      let parts : max (max (depth_of_note n) 0) (max 1 (max 0 0)) ≤ below - 1 = max-le (max-le small none) (max-le flat (max-le none none)) in
      let whole : suc (max (max (depth_of_note n) 0) (max 1 (max 0 0))) ≤ below = omega arith in
      let zero_fits : 0 ≤ below = omega arith in
      record {
        rest = rest ++ (int_token ∷ (pardon_token ∷ (semicolon_token ∷ [])));
        declares = record { list = tree.Decl (note_list (n ∷ [])) storage.Plain int_type None int_token.place tree.NoInit tree.NoStmt ∷ []; types = types };
        fits = (
          subst (λ z. IsDeclaration texts types (z ++ (int_token ∷ (pardon_token ∷ (semicolon_token ∷ [])))) (record { list = tree.Decl (note_list (n ∷ [])) storage.Plain int_type None int_token.place tree.NoInit tree.NoStmt ∷ []; types = types })) split
              (is_nameless types ts (int_token ∷ []) (pardon_token ∷ []) semicolon_token (n ∷ []) int_said int_type (record {
                are_notes = more_notes [] ts [] n no_notes is;
                are_specifiers = more_specifiers seat.Scope (unspecified types) int_said int_said (int_token ∷ []) [] (is_word seat.Scope (unspecified types) int_token keyword.Int int_said.said (int_token_is w) refl) (no_specifiers seat.Scope int_said);
                names = refl;
              }) (is_pardoned pardon_token (ap (all_stand false) split) pardon_token_is) (semicolon_token_is w)),
          max-le whole zero_fits,
        );
      }

  -- an annotation with this name
  by_kind : (o : Token) (a : Arguments) → may_stand w bearer.Function o ≡ true → arguments_of w o ≡ Some a → (is_nothing a ≡ true → 2 ≤ below) → (is_nothing a ≡ false → 3 ≤ below) → BeginsSome o
  by_kind o a stands takes flat deep = by_test (is_nothing a) refl
    where
      by_test : (b : Bool) → is_nothing a ≡ b → BeginsSome o
      by_test true h = by_note (o ∷ []) (tree.Note o.text tree.NoArgs o.place) o [] refl (is_bare (may_stand w bearer.Function) o stands (takes ∙ ap Some (nothing_alone a h))) (flat h)
      by_test false h =
          let inside = (enclosed w 1 (note_reader w 1) (may_stand w bearer.Function) (λ m G. note_at w 1 m G) (filled w bearer.Function) o a (omega arith) stands takes h).law.some in
          let less : depth_of_args (arg_list inside.1) ≤ 1 = inside.2.deep in
          let enough : 3 ≤ below = deep h in
          by_note (o ∷ (open_token ∷ (inside.0 ++ (close_token ∷ [])))) (tree.Note o.text (arg_list inside.1) o.place) o (open_token ∷ (inside.0 ++ (close_token ∷ []))) refl
          (has_arguments (may_stand w bearer.Function) o open_token close_token a inside.0 inside.1 stands takes (open_token_is w) (close_token_is w) inside.2.are) (omega arith)

  pub name_specifies_none : (o : Token) → is_name w o ≡ true → is_specifier_word w o ≡ false
  name_specifies_none o h =
      let n = name_is w o h in
      ap (λ z. option_map_or is_type_keyword z false || option_map_or is_storage_keyword z false) (name_no_keyword w n.0 o n.1)

  pub begins_some : (o : Token) → names_declaration w o ≡ true → is_unlisted w o ≡ false → is_misplaced w o ≡ false → nat_lt below (room_for w o) ≡ false → BeginsSome o
  begins_some o names listed placed room = by_word (is_specifier_word w o) refl (and_first (begins_declaration w o) (is_name w o) names)
    where
      enough : room_for w o ≤ below
      enough = within_room below (room_for w o) room

      some : 2 ≤ below
      some = le_trans (two_at_least (is_listed w o && not (reader.is_bare w o))) enough

      is_in_list : begins_note w o ≡ true → is_listed w o ≡ true
      is_in_list h = by_test (is_listed w o) refl
        where
          by_test : (b : Bool) → is_listed w o ≡ b → b ≡ true
          by_test true k = refl
          by_test false k = let both : true ≡ false = sym (ap (λ b. b && not (is_listed w o)) h ∙ ap not k) ∙ listed in absurd (cc both)

      with_arguments : begins_note w o ≡ true → BeginsSome o
      with_arguments h =
          let a = has_arguments_of w o (is_in_list h) in
          by_kind o a.0 (stands_there w o (is_in_list h) placed) a.1 (λ flat. some) (λ nested. subst (λ b. (if b then 3 else 2) ≤ below) (ap (λ b. b && not (reader.is_bare w o)) (is_in_list h) ∙ ap not (bare_by w o a.0 a.1 ∙ nested)) enough)

      by_word : (b : Bool) → is_specifier_word w o ≡ b → (b || (is_type_name w o || begins_note w o)) ≡ true → BeginsSome o
      by_word true k h = absurd (let both : true ≡ false = sym k ∙ name_specifies_none o (and_second (begins_declaration w o) (is_name w o) names) in cc both)
      by_word false k h = by_which (is_type_name w o) refl h
        where
          by_which : (b : Bool) → is_type_name w o ≡ b → (b || begins_note w o) ≡ true → BeginsSome o
          by_which true type h = by_type o type some
          by_which false type h = with_arguments h
