-- The reader of the items of a block keeps the laws, if those of their parts do.
use Rattle.std.proofs.Common.{◌≡◌, ◌≤◌, ◌⊎◌, ℕ, suc, Bool, true, false, ◌&&◌, ◌||◌, not, List, [], ◌∷◌, ◌++◌, length, Some, is_some, nat_lt, if◌then◌else◌, refl, sym, ap, ◌∙◌, subst, inl, inr, le_trans, arith}
use Rattle.std.proofs.lemmas.Bool.{ltb-true}
use Rattle.sb_base.specs.declared.interning.Name.{Name}
use Rattle.sb_base.specs.declared.tokens.Token.{Token}
use Rattle.sb_parse.specs.Parser.{Parser, done, stop, at_next, and_then, ◌>>=◌, pure, refuse, token, choose}
use Rattle.sb_parse.specs.Lawful.{Lawful, OnHead, Mapped, Unbarred, Either}
use Rattle.sb_parse.proofs.Joining.{via, map_of}
use Rattle.sb_parse.proofs.Heads.{head_via, head_map_of, guarded, choice_of}
use Rattle.sb_sign.specs.declared.sign.Keyword.TheVariants as keyword
use Rattle.sb_sign.specs.declared.sign.Mark.TheVariants as mark
use Rattle.sb_tree.specs.Trees as tree
use Rattle.sb_tree.specs.Trees.{StmtTree, depth_of_stmt, depth_of_decls}
use Rattle.sb_tree.specs.Plain.{decl_list}
use Rattle.sb_lexicon.specs.Lexicon.{Lexicon, is_keyword, is_type_name, begins_type, name_of}
use Rattle.sb_expr.specs.Expression.{Sequence}
use Rattle.sb_lexicon.specs.Tokens.{unexpected, too_deep, bad_arguments, unknown_before, misplaced_before, volatile, is_zero, is_open, is_colon}
use Rattle.sb_expr.proofs.tokens.Begins.{begins_with_no_type}
use Rattle.sb_lexicon.proofs.Depths.{room_is, some_room, within_room}
use Rattle.sb_lexicon.proofs.Marks.{colon_token}
use Rattle.sb_parse.proofs.Seconds.{behind, Behind, behind_law, second_of}
use Rattle.sb_parse.proofs.Ways.{second_fails, and_first, and_second, and_fails, only_else, Refuses, one_refuses, both_refuse}
use Rattle.sb_sal.specs.Readers as notes
use Rattle.sb_sign.specs.declared.spelling.Arguments.{Arguments}
use Rattle.sb_sal.specs.Spellings.{begins_note, looks_like_note, word_of, arguments_of, is_listed, is_unlisted}
use Rattle.sb_parse.proofs.Partly.{head_agree}
use Rattle.sb_sal.proofs.Tokens.{listed_with, listed_begins, bare_by}
use Rattle.sb_specifier.specs.declared.seat.Seat.TheVariants as seat
use Rattle.sb_specifier.specs.Specified.{reading}
use Rattle.sb_specifier.specs.Readers.{is_name, is_close_brace, begins_declaration, barred}
use Rattle.sb_specifier.proofs.laws.Barring.{barred_refuses}
use Rattle.sb_parse.proofs.Choices.{Elsewhere, hiding}
use Rattle.sb_declare.proofs.laws.Readers.{declaration_depth}
use Rattle.sb_statement.specs.Readers.{Body, Parts, names_declaration, is_misplaced, room_for, crowded, only_label, goes_on_type, labelled, unlabelled, by_name, statement, statement_item, declaration_item, named_declaration, named_item, item, by_keyword, evaluated}
use Rattle.sb_statement.specs.Statement.{IsStatement, IsDeclared, is_empty}
use Rattle.sb_statement.proofs.laws.Chains.{AMark, heads_of, flipped, sign_declares_none, heads_no_declaration}
use Rattle.sb_statement.proofs.laws.Fits.{plain, more_body, FitsStatement, OneItem, LawfulStatements}
use Rattle.sb_statement.proofs.laws.Expressions.{semicolon_token, semicolon_token_is}
use Rattle.sb_statement.proofs.tokens.Begins.{signs, statement_begins}
use Rattle.sb_statement.proofs.laws.Fits.{last_more}
use Rattle.sb_block.proofs.laws.Labels.{LabelText, PlainText, text_begins_named, colon_head, a_label, its_name, to_named}
use Rattle.sb_block.proofs.laws.Statements.{KeywordText, StatementText, from_statement, keyword_heads, statement_law}
use Rattle.sb_statement.proofs.tokens.Declarations.{NamedDeclaration, declaration_named, ends_alone}
use Rattle.sb_statement.proofs.tokens.Names.{BeginsSome, two_at_least, name_specifies_none, begins_some}
use Rattle.sb_statement.proofs.laws.Declarations.{value_of, with_item, DeclarationItem, declaration_law, item_head, item_begins, to_declared, from_declared}

module _ (texts : List (List ℕ)) (below : ℕ) (part : Parts) (cases : Bool) (b : Body) where
  abbrev w : Lexicon
  w = reading texts b.types

  abbrev with_statement : StmtTree → Body
  with_statement s = record { list = b.list ++ (s ∷ []); types = b.types }

  abbrev names : Token → Bool
  names = names_declaration w

  abbrev DeclaredItem : List Token → Body → Type 0
  DeclaredItem = DeclarationItem texts below part b

  -- a label or a declaration that begins with a name
  abbrev LabelItem : List Token → Body → Type 0
  LabelItem ts c = Mapped with_statement (LabelText texts below part b.types cases) ts c × (at_next names ts ≡ true)

  abbrev NamedItem : List Token → Body → Type 0
  NamedItem ts c = DeclaredItem ts c × (at_next names ts ≡ true)

  abbrev StatementItem : List Token → Body → Type 0
  StatementItem = Mapped with_statement (FitsStatement texts (suc below) cases b.types)

  abbrev pub ItemText : List Token → Body → Type 0
  ItemText = Either (Unbarred (is_zero below) (Either LabelItem NamedItem)) (Elsewhere names (Either DeclaredItem (Elsewhere (begins_declaration w) StatementItem)))

  module _ (some : 1 ≤ below) (S : LawfulStatements texts below part) (o : Token) (h : names o ≡ true) where
    named : is_name w o ≡ true
    named = and_second (begins_declaration w o) (is_name w o) h

    label_value : Body
    label_value = with_statement (tree.Label (its_name texts below part b.types cases some S o named).0 (tree.Evaluate tree.NoExpr semicolon_token.place) o.place)

    a_label_item : LabelItem (o ∷ (colon_token ∷ (semicolon_token ∷ []))) label_value
    unfolding label_value
    a_label_item = (record { value = tree.Label (its_name texts below part b.types cases some S o named).0 (tree.Evaluate tree.NoExpr semicolon_token.place) o.place; is = a_label texts below part b.types cases some S o named; same = refl }, h)

    abbrev label_reader : Parser Token Body
    label_reader = behind o (labelled texts below part b.types cases) >>= (λ s. pure (with_statement s))

    same_label : (ts : List Token) → at_next (is_colon w) ts ≡ true → behind o (statement_item texts below part cases b) ts ≡ label_reader ts
    unfolding statement_item statement by_name
    same_label ts k = ap (λ z. and_then z (λ s. pure (with_statement s))) (ap (λ c. if c then by_name texts below part cases b.types (o ∷ ts) else by_keyword texts below part cases b.types (evaluated texts below part b.types) (o ∷ ts)) named
        ∙ ap (λ c. if c then stop too_deep (length (o ∷ ts)) else (if at_next (is_colon w) ts then labelled texts below part b.types cases (o ∷ ts) else unlabelled texts below part b.types (o ∷ ts))) (some_room below 1 (omega arith) some)
        ∙ ap (λ c. if c then labelled texts below part b.types cases (o ∷ ts) else unlabelled texts below part b.types (o ∷ ts)) k)

    label_head : OnHead (is_colon w) (Behind o LabelItem) (more_body texts) (behind o (statement_item texts below part cases b))
    label_head =
        head_agree (head_via (head_map_of (colon_head texts below part b.types cases some S o named) with_statement (more_body texts) (λ s u. last_more texts b.list s u))
        (λ ts c m. (record { value = m.value; is = m.is; same = m.same }, h)) (λ ts c m. record { value = m.0.value; is = m.0.is; same = m.0.same }) label_reader (λ ts. refl)) (behind o (statement_item texts below part cases b)) same_label

    abbrev Law : Type 0
    Law = Lawful (Behind o (Either LabelItem NamedItem)) (more_body texts) (choose (is_colon w) (behind o (statement_item texts below part cases b)) (behind o (named_declaration texts below part b)))

    -- no declaration that fits begins so
    only_labels : ((ts : List Token) → Refuses (behind o (named_declaration texts below part b)) ts) → ((ts : List Token) (c : Body) → DeclaredItem (o ∷ ts) c → ⊥) → Law
    only_labels refuses none =
        via (only_else (behind o (named_declaration texts below part b)) label_head refuses (colon_token ∷ (semicolon_token ∷ [])) label_value a_label_item) (λ ts c is. inl is) to_label
        (choose (is_colon w) (behind o (statement_item texts below part cases b)) (behind o (named_declaration texts below part b))) (λ ts. refl)
      where
        to_label : (ts : List Token) (c : Body) → Either LabelItem NamedItem (o ∷ ts) c → LabelItem (o ∷ ts) c
        to_label ts c (inl is) = is
        to_label ts c (inr m) = absurd (none ts c m.0)

    the_declaration : (ts : List Token) (c : Body) → (m : DeclaredItem (o ∷ ts) c) → NamedDeclaration texts b.types o ts (depth_of_decls (decl_list m.value.0.list))
    the_declaration ts c m = declaration_named texts b.types o named (o ∷ ts) m.value.0 m.is.0.0 ts refl

    -- ---- a word that is no annotation

    listed_only : (depth : ℕ) (ts : List Token) → NamedDeclaration texts b.types o ts depth → is_unlisted w o ≡ false
    listed_only depth ts d = go d.which
      where
        by_type : is_type_name w o ≡ true → is_unlisted w o ≡ false
        by_type k = ap (λ c. (is_some (name_of w o) && (not c && looks_like_note (word_of texts o))) && not (is_listed w o)) k ∙ off (is_some (name_of w o)) (looks_like_note (word_of texts o)) (not (is_listed w o))
          where
            off : (a c d : Bool) → ((a && (false && c)) && d) ≡ false
            off true c d = refl
            off false c d = refl

        by_list : is_listed w o ≡ true → is_unlisted w o ≡ false
        by_list k = ap (λ c. begins_note w o && not c) k ∙ and_fails (begins_note w o) false refl

        go : (is_type_name w o ≡ true) ⊎ ((a : Arguments) × (arguments_of w o ≡ Some a) × (notes.is_nothing a ≡ false → 3 ≤ depth)) → is_unlisted w o ≡ false
        go (inl k) = by_type k
        go (inr k) = by_list (listed_with w o k.0 k.1)

    unlisted_none : is_unlisted w o ≡ true → (ts : List Token) (c : Body) → DeclaredItem (o ∷ ts) c → ⊥
    unlisted_none k ts c m = let both : true ≡ false = sym k ∙ listed_only _ ts (the_declaration ts c m) in cc both

    -- the readers behind the tests of annotations
    abbrev after_placed : Parser Token Body
    after_placed = choose (λ t. nat_lt below (room_for w t)) (token unexpected (is_name w) >>= crowded w) (declaration_item texts below part b)

    abbrev after_unlisted : Parser Token Body
    after_unlisted = choose (is_misplaced w) (only_label (misplaced_before 1) w) after_placed

    unlisted_refuses : is_unlisted w o ≡ true → (ts : List Token) → Refuses (behind o (named_declaration texts below part b)) ts
    unfolding named_declaration only_label
    unlisted_refuses k ts = record {
      number = unknown_before;
      halts = λ x e.
          ap (λ c. if c then only_label unknown_before w (o ∷ x)
          else after_unlisted (o ∷ x)) k
          ∙ ap (λ c. and_then (if c then done o x else stop unexpected (length (o ∷ x))) (λ t. refuse {A = Body} unknown_before)) named;
    }

    -- ---- an annotation that stands on no function

    misplaced_none : is_misplaced w o ≡ true → (ts : List Token) (c : Body) → DeclaredItem (o ∷ ts) c → ⊥
    misplaced_none k ts c m = let both : true ≡ false = sym k ∙ (the_declaration ts c m).placed in cc both

    misplaced_refuses : is_unlisted w o ≡ false → is_misplaced w o ≡ true → (ts : List Token) → Refuses (behind o (named_declaration texts below part b)) ts
    unfolding named_declaration only_label
    misplaced_refuses listed k ts = record {
      number = misplaced_before 1;
      halts = λ x e.
          ap (λ c. if c then only_label unknown_before w (o ∷ x) else after_unlisted (o ∷ x)) listed
          ∙ ap (λ c. if c then only_label (misplaced_before 1) w (o ∷ x) else after_placed (o ∷ x)) k
          ∙ ap (λ c. and_then (if c then done o x else stop unexpected (length (o ∷ x))) (λ t. refuse {A = Body} (misplaced_before 1))) named;
    }

    -- ---- where no declaration has room

    module _ (listed : is_unlisted w o ≡ false) (placed : is_misplaced w o ≡ false) (full : nat_lt below (room_for w o) ≡ true) where
      deep_enough : (depth : ℕ) (ts : List Token) → NamedDeclaration texts b.types o ts depth → 2 ≤ depth → room_for w o ≤ depth
      deep_enough depth ts d two = by_test (is_listed w o && not (notes.is_bare w o)) refl
        where
          three : (notes.is_bare w o ≡ false) → is_listed w o ≡ true → (is_type_name w o ≡ true) ⊎ ((a : Arguments) × (arguments_of w o ≡ Some a) × (notes.is_nothing a ≡ false → 3 ≤ depth)) → 3 ≤ depth
          three not_bare in_list (inl k) = absurd (let both : true ≡ false = sym (listed_begins w o in_list) ∙ ap (λ c. is_some (name_of w o) && (not c && looks_like_note (word_of texts o))) k ∙ and_fails (is_some (name_of w o)) false refl in cc both)
          three not_bare in_list (inr k) = k.2 (sym (bare_by w o k.0 k.1) ∙ not_bare)

          by_test : (c : Bool) → (is_listed w o && not (notes.is_bare w o)) ≡ c → room_for w o ≤ depth
          by_test true k =
              subst (λ c. (if c then 3 else 2) ≤ depth) (sym k)
              (three (flipped (notes.is_bare w o) (and_second (is_listed w o) (not (notes.is_bare w o)) k)) (and_first (is_listed w o) (not (notes.is_bare w o)) k) d.which)
          by_test false k = subst (λ c. (if c then 3 else 2) ≤ depth) (sym k) two

      crowded_none : (ts : List Token) (c : Body) → DeclaredItem (o ∷ ts) c → ⊥
      crowded_none ts c m =
          let two : 2 ≤ depth_of_decls (decl_list m.value.0.list) = declaration_depth texts b.types (o ∷ ts) m.value.0 m.is.0.0 in
          let large : room_for w o ≤ depth_of_decls (decl_list m.value.0.list) = deep_enough (depth_of_decls (decl_list m.value.0.list)) ts (the_declaration ts c m) two in
          let fits : depth_of_decls (decl_list m.value.0.list) ≤ below = m.is.0.1 in
          let less : suc below ≤ room_for w o = ltb-true below (room_for w o) full in
          omega arith

      crowded_refuse : (t : Token) (ts : List Token) → Refuses (crowded {A = Body} w t) ts
      crowded_refuse t ts = by_bare (notes.is_bare w t)
        where
          behind_arguments : Refuses (choose {A = Body} (is_open w) (refuse too_deep) (choose (λ s. true) (refuse bad_arguments) (refuse unexpected))) ts
          behind_arguments =
              both_refuse (is_open w) (refuse too_deep) (choose (λ s. true) (refuse bad_arguments) (refuse unexpected)) ts (one_refuses too_deep ts)
              (both_refuse (λ s. true) (refuse bad_arguments) (refuse unexpected) ts (one_refuses bad_arguments ts) (one_refuses unexpected ts))

          behind_type : Refuses (choose {A = Body} (is_keyword w keyword.Volatile) (refuse volatile) (choose (goes_on_type w) (refuse too_deep) (refuse unexpected))) ts
          behind_type =
              both_refuse (is_keyword w keyword.Volatile) (refuse volatile) (choose (goes_on_type w) (refuse too_deep) (refuse unexpected)) ts (one_refuses volatile ts)
              (both_refuse (goes_on_type w) (refuse too_deep) (refuse unexpected) ts (one_refuses too_deep ts) (one_refuses unexpected ts))

          by_listed : (c : Bool) → Refuses {A = Body} (if c then choose (is_open w) (refuse too_deep) (choose (λ s. true) (refuse bad_arguments) (refuse unexpected))
              else choose (is_keyword w keyword.Volatile) (refuse volatile) (choose (goes_on_type w) (refuse too_deep) (refuse unexpected))) ts
          by_listed true = behind_arguments
          by_listed false = behind_type

          by_bare : (c : Bool) → Refuses {A = Body} (if c then choose (is_open w) (refuse bad_arguments) (barred w seat.Scope)
              else (if is_listed w t then choose (is_open w) (refuse too_deep) (choose (λ s. true) (refuse bad_arguments) (refuse unexpected))
              else choose (is_keyword w keyword.Volatile) (refuse volatile) (choose (goes_on_type w) (refuse too_deep) (refuse unexpected)))) ts
          by_bare true = both_refuse (is_open w) (refuse bad_arguments) (barred w seat.Scope) ts (one_refuses bad_arguments ts) (barred_refuses w seat.Scope ts)
          by_bare false = by_listed (is_listed w t)

      crowded_refuses : (ts : List Token) → Refuses (behind o (named_declaration texts below part b)) ts
      unfolding named_declaration
      crowded_refuses ts =
          let it = crowded_refuse o ts in
          record {
            number = it.number;
            halts = λ x e.
                ap (λ c. if c then only_label unknown_before w (o ∷ x)
                else after_unlisted (o ∷ x)) listed
                ∙ ap (λ c. if c then only_label (misplaced_before 1) w (o ∷ x) else after_placed (o ∷ x)) placed
                ∙ ap (λ c. if c then and_then (token unexpected (is_name w) (o ∷ x)) (crowded w) else declaration_item texts below part b (o ∷ x)) full
                ∙ ap (λ c. and_then (if c then done o x else stop unexpected (length (o ∷ x))) (crowded {A = Body} w)) named ∙ it.halts x e;
          }

    -- ---- where a declaration has room

    module _ (listed : is_unlisted w o ≡ false) (placed : is_misplaced w o ≡ false) (room : nat_lt below (room_for w o) ≡ false) where
      two : 2 ≤ below
      two = le_trans (two_at_least (is_listed w o && not (notes.is_bare w o))) (within_room below (room_for w o) room)

      begun : BeginsSome texts b.types below o
      begun = begins_some texts b.types below o h listed placed room

      not_empty : (c : Body) → DeclaredItem [] c → ⊥
      not_empty c m = let none : false ≡ true = item_begins texts below part b [] c m in cc none

      a_declaration : DeclaredItem (o ∷ begun.rest) (with_item texts below part b (value_of texts below part (begun.declares, o ∷ begun.rest)))
      a_declaration = record { value = (begun.declares, o ∷ begun.rest); is = (begun.fits, refl); same = refl }

      same_declaration : (ts : List Token) → behind o (named_declaration texts below part b) ts ≡ behind o (declaration_item texts below part b) ts
      unfolding named_declaration
      same_declaration ts =
          ap (λ c. if c then only_label unknown_before w (o ∷ ts)
          else after_unlisted (o ∷ ts)) listed
          ∙ ap (λ c. if c then only_label (misplaced_before 1) w (o ∷ ts) else after_placed (o ∷ ts)) placed
          ∙ ap (λ c. if c then and_then (token unexpected (is_name w) (o ∷ ts)) (crowded w) else declaration_item texts below part b (o ∷ ts)) room

      named_law : Lawful (Behind o NamedItem) (more_body texts) (behind o (named_declaration texts below part b))
      named_law =
          via (behind_law (declaration_law texts below part two b) not_empty o begun.rest (with_item texts below part b (value_of texts below part (begun.declares, o ∷ begun.rest))) a_declaration) (λ ts c m. (m, h)) (λ ts c m. m.0)
          (behind o (named_declaration texts below part b)) same_declaration

      no_second_colon : (ts : List Token) (c : Body) (rest : List Token) → Behind o NamedItem ts c → at_next (more_body texts c) rest ≡ false → at_next (is_colon w) (ts ++ rest) ≡ false
      no_second_colon [] c rest m e = absurd (alone c m.0)
        where
          alone : (c : Body) → DeclaredItem (o ∷ []) c → ⊥
          alone c m = ends_alone texts b.types o named (o ∷ []) m.value.0 m.is.0.0 refl
      no_second_colon (t ∷ ts) c rest m e = (the_declaration (t ∷ ts) c m.0).off

      roomy : Law
      roomy = choice_of {First = Behind o LabelItem} {Second = Behind o NamedItem} label_head named_law no_second_colon

    behind_name : Law
    behind_name = by_unlisted (is_unlisted w o) refl
      where
        by_room : (c : Bool) → is_unlisted w o ≡ false → is_misplaced w o ≡ false → nat_lt below (room_for w o) ≡ c → Law
        by_room true listed placed full = only_labels (crowded_refuses listed placed full) (crowded_none listed placed full)
        by_room false listed placed room = roomy listed placed room

        by_place : (c : Bool) → is_unlisted w o ≡ false → is_misplaced w o ≡ c → Law
        by_place true listed k = only_labels (misplaced_refuses listed k) (misplaced_none k)
        by_place false listed k = by_room (nat_lt below (room_for w o)) listed k refl

        by_unlisted : (c : Bool) → is_unlisted w o ≡ c → Law
        by_unlisted true k = only_labels (unlisted_refuses k) (unlisted_none k)
        by_unlisted false k = by_place (is_misplaced w o) k refl

  named_begins : (ts : List Token) (c : Body) → Either LabelItem NamedItem ts c → at_next names ts ≡ true
  named_begins ts c (inl is) = is.1
  named_begins ts c (inr is) = is.1

  named_head : (1 ≤ below → LawfulStatements texts below part) → OnHead names (Unbarred (is_zero below) (Either LabelItem NamedItem)) (more_body texts) (named_item texts below part cases b)
  unfolding named_item
  named_head S =
      guarded (is_zero below) too_deep (λ room.
      second_of {p = statement_item texts below part cases b} {q = named_declaration texts below part b} (λ o h. behind_name (room_is below room) (S (room_is below room)) o h) named_begins)

  -- ---- in the grammar's words

  abbrev Item : List Token → Body → Type 0
  Item = OneItem texts (suc below) cases b

  statement_to : (ts : List Token) (c : Body) (s : StmtTree) → FitsStatement texts (suc below) cases b.types ts s → c ≡ with_statement s → Item ts c
  statement_to ts c s f e = record { statement = s; types = b.types; is = inl (f.0, refl); fits = f.1; same = e }

  declaration_to : (ts : List Token) (c : Body) → DeclaredItem ts c → Item ts c
  declaration_to ts c m =
      let d = to_declared texts below part b.types ts (value_of texts below part m.value) (record { value = m.value; is = m.is; same = refl }) in
      record { statement = (value_of texts below part m.value).0; types = (value_of texts below part m.value).1; is = inr d.0; fits = d.1; same = m.same }

  to_item : (ts : List Token) (c : Body) → ItemText ts c → Item ts c
  to_item ts c (inl u) = by_name u.is
    where
      by_name : Either LabelItem NamedItem ts c → Item ts c
      by_name (inl m) = statement_to ts c m.0.value (to_named texts below part b.types cases ts m.0.value (record { open_way = u.open_way; is = inl m.0.is })) m.0.same
      by_name (inr m) = declaration_to ts c m.0
  to_item ts c (inr e) = elsewhere e.0
    where
      elsewhere : Either DeclaredItem (Elsewhere (begins_declaration w) StatementItem) ts c → Item ts c
      elsewhere (inl m) = declaration_to ts c m
      elsewhere (inr m) = statement_to ts c m.0.value m.0.is m.0.same

  declared_as : (ts : List Token) (c : Body) (s : StmtTree) (now : List Name) → IsDeclared texts b.types ts s now → depth_of_stmt s ≤ suc below → c ≡ with_item texts below part b (s, now) → DeclaredItem ts c
  declared_as ts c s now is le e = let d = from_declared texts below part b.types ts s now is le in record { value = d.value; is = d.is; same = e ∙ ap (with_item texts below part b) d.same }

  -- a declaration leaves room
  declared_room : (ts : List Token) (c : Body) → DeclaredItem ts c → is_zero below ≡ false
  declared_room ts c m =
      let two : 2 ≤ depth_of_decls (decl_list m.value.0.list) = declaration_depth texts b.types ts m.value.0 m.is.0.0 in
      some_room below (depth_of_decls (decl_list m.value.0.list)) (omega arith) m.is.0.1

  -- an expression begins with no such name
  no_plain : (ts : List Token) (s : StmtTree) → PlainText texts below part b.types cases ts s → at_next names ts ≡ true → ⊥
  no_plain ts s p h =
      let c = p.0.is in
      go ts p.1 p.2 h (ap (at_next (begins_type w)) c.split ∙ begins_with_no_type w Sequence c.front p.0.value.0 (c.closing ∷ []) c.is.0.0)
    where
      go : (ts : List Token) → at_next (is_name w) ts ≡ true → at_next (begins_note w) ts ≡ false → at_next names ts ≡ true → at_next (begins_type w) ts ≡ false → ⊥
      go [] name free h typed = cc h
      go (t ∷ ts) name free h typed =
          let none : begins_declaration w t ≡ false =
          ap (λ c. c || (is_type_name w t || begins_note w t)) (name_specifies_none texts b.types below t name) ∙ ap (λ c. c || begins_note w t) (second_fails _ (is_type_name w t) typed) ∙ free in
          let both : true ≡ false = sym (and_first (begins_declaration w t) (is_name w t) h) ∙ none in
          cc both

  names_named : (ts : List Token) → at_next names ts ≡ true → at_next (is_name w) ts ≡ true
  names_named [] h = absurd (cc h)
  names_named (t ∷ ts) h = and_second (begins_declaration w t) (is_name w t) h

  module _ (S : 1 ≤ below → LawfulStatements texts below part)
      (P : (b : Body) → OnHead (λ t. not (is_close_brace (plain texts) t)) (OneItem texts below false b) (more_body texts) (part.item false b)) where
    keyword_declares_none : (ts : List Token) (s : StmtTree) → KeywordText texts below part b.types cases ts s → at_next (is_name w) ts ≡ false → at_next (begins_declaration w) ts ≡ false
    keyword_declares_none ts s is off = go ts off (keyword_heads texts below part b.types cases S P ts s is)
      where
        go : (ts : List Token) → at_next (is_name w) ts ≡ false → at_next (heads_of w signs) ts ≡ true → at_next (begins_declaration w) ts ≡ false
        go [] off h = refl
        go (t ∷ ts) off h = heads_no_declaration texts b.types signs refl t off h

    statement_from : (ts : List Token) (c : Body) (s : StmtTree) → FitsStatement texts (suc below) cases b.types ts s → c ≡ with_statement s → StatementText texts below part b.types cases ts s → ItemText ts c
    statement_from ts c s f e (inr k) = inr (inr (record { value = s; is = f; same = e }, keyword_declares_none ts s k.0 k.1), not_named (at_next names ts) refl)
      where
        not_named : (q : Bool) → at_next names ts ≡ q → q ≡ false
        not_named false h = refl
        not_named true h = let both : true ≡ false = sym (names_named ts h) ∙ k.1 in absurd (cc both)
    statement_from ts c s f e (inl u) = by_test (at_next names ts) refl u.is
      where
        undeclared : (ts : List Token) → at_next names ts ≡ false → at_next (is_name w) ts ≡ true → at_next (begins_declaration w) ts ≡ false
        undeclared [] h named = refl
        undeclared (t ∷ ts) h named = drop_and (begins_declaration w t) (is_name w t) h named
          where
            drop_and : (p q : Bool) → (p && q) ≡ false → q ≡ true → p ≡ false
            drop_and false q h k = refl
            drop_and true true h k = absurd (cc h)
            drop_and true false h k = absurd (cc k)

        by_test : (q : Bool) → at_next names ts ≡ q → Either (LabelText texts below part b.types cases) (PlainText texts below part b.types cases) ts s → ItemText ts c
        by_test true h (inl l) = inl (record { open_way = u.open_way; is = inl (record { value = s; is = l; same = e }, h) })
        by_test true h (inr p) = absurd (no_plain ts s p h)
        by_test false h is = inr (inr (record { value = s; is = f; same = e }, undeclared ts h (named_begins_text is)), h)
          where
            named_begins_text : Either (LabelText texts below part b.types cases) (PlainText texts below part b.types cases) ts s → at_next (is_name w) ts ≡ true
            named_begins_text is = text_begins_named texts below part b.types cases ts s is

    from_item : (ts : List Token) (c : Body) → Item ts c → ItemText ts c
    from_item ts c o = by_case o.types o.is o.same
      where
        declared_from : DeclaredItem ts c → ItemText ts c
        declared_from m = by_test (at_next names ts) refl
          where
            by_test : (q : Bool) → at_next names ts ≡ q → ItemText ts c
            by_test true h = inl (record { open_way = declared_room ts c m; is = inr (m, h) })
            by_test false h = inr (inl m, h)

        by_case : (now : List Name) → (IsStatement texts cases b.types ts o.statement × (now ≡ b.types)) ⊎ IsDeclared texts b.types ts o.statement now → c ≡ record { list = b.list ++ (o.statement ∷ []); types = now } → ItemText ts c
        by_case now (inl is) e = statement_from ts c o.statement (is.0, o.fits) (e ∙ ap (λ z. record { list = b.list ++ (o.statement ∷ []); types = z }) is.1) (from_statement texts below part b.types cases ts o.statement is.0 o.fits)
        by_case now (inr is) e = declared_from (declared_as ts c o.statement now is o.fits e)

    -- ---- the law

    statement_item_law : Lawful StatementItem (more_body texts) (statement_item texts below part cases b)
    unfolding statement_item
    statement_item_law = map_of (statement_law texts below part b.types cases S P) with_statement (more_body texts) (λ s u. last_more texts b.list s u)

    statement_filled : (c : Body) → StatementItem [] c → ⊥
    statement_filled c m = let none : false ≡ true = statement_begins texts cases b.types [] m.value m.is.0 in cc none

    a_semicolon : StatementItem (semicolon_token ∷ []) (with_statement (tree.Evaluate tree.NoExpr semicolon_token.place))
    a_semicolon = record { value = tree.Evaluate tree.NoExpr semicolon_token.place; is = (is_empty cases b.types semicolon_token (semicolon_token_is w), omega arith); same = refl }

    semicolon_declares_none : begins_declaration w semicolon_token ≡ false
    semicolon_declares_none = sign_declares_none texts b.types (AMark mark.Semicolon) semicolon_token refl (semicolon_token_is w)

    inner_filled : (c : Body) → Either DeclaredItem (Elsewhere (begins_declaration w) StatementItem) [] c → ⊥
    inner_filled c (inl m) = let none : false ≡ true = item_begins texts below part b [] c m in cc none
    inner_filled c (inr m) = statement_filled c m.0

    pub item_law : Lawful (OneItem texts (suc below) cases b) (more_body texts) (item texts below part cases b)
    unfolding item
    item_law =
        via (hiding (named_head S) (hiding (item_head texts below part b) statement_item_law statement_filled (semicolon_token ∷ []) (with_statement (tree.Evaluate tree.NoExpr semicolon_token.place)) (a_semicolon, semicolon_declares_none)) inner_filled
        (semicolon_token ∷ []) (with_statement (tree.Evaluate tree.NoExpr semicolon_token.place)) (inr (a_semicolon, semicolon_declares_none), ap (λ c. c && is_name w semicolon_token) semicolon_declares_none)) to_item from_item (item texts below part cases b) (λ ts. refl)
