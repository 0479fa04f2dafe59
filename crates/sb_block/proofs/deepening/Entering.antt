-- Where a statement begins, some reader of statements gets past its first token.
use Rattle.std.proofs.Common.{◌≡◌, ℕ, zero, suc, Bool, true, false, ◌&&◌, ◌||◌, not, List, [], ◌∷◌, length, Option, Some, None, nat_lt, if◌then◌else◌, refl, sym, ◌∙◌, arith}
use Rattle.std.specs.Option.{option_map_or}
use Rattle.sb_base.specs.declared.interning.Name.{Name}
use Rattle.sb_base.specs.declared.tokens.Token.{Token}
use Rattle.sb_parse.specs.Parser.{Parser, at_next, pure, ◌>>=◌, choose, guard, token}
use Rattle.sb_sign.specs.declared.sign.Keyword.{Keyword}
use Rattle.sb_sign.specs.declared.sign.Keyword.TheVariants as keyword
use Rattle.sb_sign.specs.Signs as sign
use Rattle.sb_tree.specs.Plain.{decl_list}
use Rattle.sb_tree.specs.Trees as tree
use Rattle.sb_tree.specs.Trees.{StmtTree}
use Rattle.sb_parse.specs.Descent.{at_second, choose_second}
use Rattle.sb_expr.specs.Expression.{Sequence}
use Rattle.sb_lexicon.specs.Lexicon.{Lexicon, is_keyword, is_type_name}
use Rattle.sb_expr.specs.Readers.{expr_reader}
use Rattle.sb_lexicon.specs.Tokens.{unexpected, too_deep, unknown_before, misplaced_before, is_zero, is_open_brace, is_colon, begins_expr}
use Rattle.sb_parse.proofs.Ways.{second_fails, and_second, or_first, or_second}
use Rattle.sb_sal.specs.Spellings.{begins_note, is_listed, is_unlisted}
use Rattle.sb_sal.specs.Readers.{is_bare}
use Rattle.sb_sal.proofs.Deepening.{Past, Shrinks, past_bind, enters, shrinks_pure, shrinks_refuse, shrinks_token, shrinks_then, shrinks_choose, shrinks_second, shrinks_guard}
use Rattle.sb_parse.specs.Texts.{with_text}
use Rattle.sb_specifier.specs.Readers.{is_semicolon, is_name}
use Rattle.sb_declare.specs.Readers.{declaration_reader}
use Rattle.sb_specifier.specs.Specified.{reading}
use Rattle.sb_declarator.proofs.deepening.Members.{shrinks_text, past_front}
use Rattle.sb_declare.proofs.deepening.Readers.{declaration_reader_deepens}
use Rattle.sb_statement.specs.Readers.{Body, Parts, first_place, evaluated, selected, repeated, done_first, iterated, switched, labelled, case_of, default_of, begins_keyword_statement, is_label_keyword, begins_statement, is_misplaced, room_for, crowded, declared, first, by_keyword, unlabelled, by_name, statement, declaration_item, statement_item, only_label, named_declaration, named_item, item, statements}
use Rattle.sb_statement.proofs.laws.Chains.{same_as_itself}
use Rattle.sb_block.proofs.deepening.Shrinks.{past_choice, past_guard, barred_shrinks, expr_past, name_begins_expr, SmallParts, label_shrinks, label_past, crowded_shrinks, semicolon_shrinks, block_shrinks, block_past, evaluated_shrinks, evaluated_past, labelled_past, selected_past, switched_past, repeated_past, done_past, gone_past, broken_past, continued_past, returned_past, case_past, default_past, empty_past, iterated_past, statement_shrinks}

-- ---- a token with which none of the kinds of statements begins

no_kind : (kinds : Keyword → Bool) (o : Option Keyword) → ((k : Keyword) → kinds k ≡ true → option_map_or (sign.is_same_keyword k) o false ≡ false) → option_map_or kinds o false ≡ false
no_kind kinds None off = refl
no_kind kinds (Some k) off = by_test (kinds k) refl
  where
    by_test : (b : Bool) → kinds k ≡ b → b ≡ false
    by_test false h = refl
    by_test true h = sym (same_as_itself k) ∙ off k h

pub none_begins : (w : Lexicon) (cases : Bool) (t : Token) → ((k : Keyword) → begins_keyword_statement k ≡ true → is_keyword w k t ≡ false) → ((k : Keyword) → is_label_keyword k ≡ true → (cases && is_keyword w k t) ≡ false)
    → is_open_brace w t ≡ false → is_semicolon w t ≡ false → is_name w t ≡ false → begins_expr w t ≡ false → begins_statement w cases t ≡ false
none_begins w cases t words labels brace semicolon named expr = rw (no_kind begins_keyword_statement (sign.keyword_of w.texts t) words, by_cases cases labels, brace, semicolon, named, expr) refl
  where
    by_cases : (c : Bool) → ((k : Keyword) → is_label_keyword k ≡ true → (c && is_keyword w k t) ≡ false) → (c && option_map_or is_label_keyword (sign.keyword_of w.texts t) false) ≡ false
    by_cases false off = refl
    by_cases true off = no_kind is_label_keyword (sign.keyword_of w.texts t) off

-- where the next token is of none of the kinds, no statement begins
none_next : (w : Lexicon) (cases : Bool) (ts : List Token) → ((k : Keyword) → begins_keyword_statement k ≡ true → at_next (is_keyword w k) ts ≡ false)
    → ((k : Keyword) → is_label_keyword k ≡ true → at_next (λ t. cases && is_keyword w k t) ts ≡ false)
    → at_next (is_open_brace w) ts ≡ false → at_next (is_semicolon w) ts ≡ false → at_next (is_name w) ts ≡ false → at_next (begins_expr w) ts ≡ false → at_next (begins_statement w cases) ts ≡ false
none_next w cases [] words labels brace semicolon named expr = refl
none_next w cases (t ∷ ts) words labels brace semicolon named expr = none_begins w cases t words labels brace semicolon named expr

module _ (texts : List (List ℕ)) (m : ℕ) (part : Parts) (S : SmallParts part) (room : is_zero m ≡ false) (cases : Bool) (types : List Name) (ts : List Token) (begins : at_next (begins_statement (reading texts types) cases) ts ≡ true)
    (P : at_next (begins_expr (reading texts types)) ts ≡ true → Past (length ts) (expr_reader (reading texts types) m Sequence ts)) where
  abbrev w : Lexicon
  w = reading texts types

  abbrev size : ℕ
  size = length ts

  nested_past : (p : Parser Token StmtTree) → Past size (p ts) → Past size (guard (is_zero m) too_deep p ts)
  nested_past p Q = past_guard size (is_zero m) too_deep p ts room Q

  label_word : (k : Keyword) (ts : List Token) → at_next (λ t. cases && is_keyword w k t) ts ≡ true → at_next (is_keyword w k) ts ≡ true
  label_word k [] h = absurd (cc h)
  label_word k (t ∷ ts) h = and_second cases (is_keyword w k t) h

  -- it begins an expression if it begins nothing else
  last_past : at_next (is_name w) ts ≡ false → at_next (is_open_brace w) ts ≡ false → at_next (is_semicolon w) ts ≡ false → ((k : Keyword) → begins_keyword_statement k ≡ true → at_next (is_keyword w k) ts ≡ false)
      → ((k : Keyword) → is_label_keyword k ≡ true → at_next (λ t. cases && is_keyword w k t) ts ≡ false) → Past size (evaluated texts m part types ts)
  last_past named brace semi words labels = by_test (at_next (begins_expr w) ts) refl
    where
      by_test : (b : Bool) → at_next (begins_expr w) ts ≡ b → Past size (evaluated texts m part types ts)
      by_test true h = evaluated_past texts m part S types ts (P h)
      by_test false h = absurd (let both : true ≡ false = sym begins ∙ none_next w cases ts words labels brace semi named h in cc both)

  keyword_past : at_next (is_name w) ts ≡ false → Past size (by_keyword texts m part cases types (evaluated texts m part types) ts)
  unfolding by_keyword
  keyword_past named =
      past_choice size _ _ _ (λ h. block_past texts m part S types false ts h) (λ brace.
      past_choice size _ _ _ (λ h. empty_past texts m part S types ts h) (λ semi.
      past_choice size _ _ _ (λ h. nested_past (selected texts m part types) (selected_past texts m part S types ts h)) (λ no_if.
      past_choice size _ _ _ (λ h. nested_past (repeated texts m part types) (repeated_past texts m part S types ts h)) (λ no_while.
      past_choice size _ _ _ (λ h. nested_past (done_first texts m part types) (done_past texts m part S types ts h)) (λ no_do.
      past_choice size _ _ _ (λ h. nested_past (iterated texts m part types) (iterated_past texts m part S types ts h)) (λ no_for.
      past_choice size _ _ _ (λ h. nested_past (switched texts m part types) (switched_past texts m part S types ts h)) (λ no_switch.
      past_choice size _ _ _ (λ h. gone_past texts m part S types ts h) (λ no_goto.
      past_choice size _ _ _ (λ h. broken_past texts m part S types ts h) (λ no_break.
      past_choice size _ _ _ (λ h. continued_past texts m part S types ts h) (λ no_continue.
      past_choice size _ _ _ (λ h. returned_past texts m part S types ts h) (λ no_return.
      past_choice size _ _ _ (λ h. nested_past (case_of texts m part types) (case_past texts m part S types ts (label_word keyword.Case ts h))) (λ no_case.
      past_choice size _ _ _ (λ h. nested_past (default_of texts m part types) (default_past texts m part S types ts (label_word keyword.Default ts h))) (λ no_default.
      last_past named brace semi (words no_if no_while no_do no_for no_switch no_goto no_break no_continue no_return) (labels no_case no_default))))))))))))))
    where
      words : at_next (is_keyword w keyword.If) ts ≡ false → at_next (is_keyword w keyword.While) ts ≡ false → at_next (is_keyword w keyword.Do) ts ≡ false → at_next (is_keyword w keyword.For) ts ≡ false
          → at_next (is_keyword w keyword.Switch) ts ≡ false → at_next (is_keyword w keyword.Goto) ts ≡ false → at_next (is_keyword w keyword.Break) ts ≡ false → at_next (is_keyword w keyword.Continue) ts ≡ false
          → at_next (is_keyword w keyword.Return) ts ≡ false → (k : Keyword) → begins_keyword_statement k ≡ true → at_next (is_keyword w k) ts ≡ false
      words a b c d e f g h i keyword.If is = a
      words a b c d e f g h i keyword.While is = b
      words a b c d e f g h i keyword.Do is = c
      words a b c d e f g h i keyword.For is = d
      words a b c d e f g h i keyword.Switch is = e
      words a b c d e f g h i keyword.Goto is = f
      words a b c d e f g h i keyword.Break is = g
      words a b c d e f g h i keyword.Continue is = h
      words a b c d e f g h i keyword.Return is = i
      words a b c d e f g h i _ is = absurd (cc is)

      labels : at_next (λ t. cases && is_keyword w keyword.Case t) ts ≡ false → at_next (λ t. cases && is_keyword w keyword.Default t) ts ≡ false
          → (k : Keyword) → is_label_keyword k ≡ true → at_next (λ t. cases && is_keyword w k t) ts ≡ false
      labels a b keyword.Case is = a
      labels a b keyword.Default is = b
      labels a b _ is = absurd (cc is)

  named_expr : (ts : List Token) → at_next (is_name w) ts ≡ true → at_next (λ t. begins_note w t || is_type_name w t) ts ≡ false → at_next (begins_expr w) ts ≡ true
  named_expr [] h k = absurd (cc h)
  named_expr (t ∷ ts) h k = name_begins_expr w t h (second_fails (begins_note w t) (is_type_name w t) k)

  unlabelled_past : at_next (is_name w) ts ≡ true → Past size (unlabelled texts m part types ts)
  unfolding unlabelled
  unlabelled_past named =
      past_choice size _ _ _ (λ h. label_past unknown_before w ts named) (λ listed.
      past_choice size _ _ _ (λ h. label_past unexpected w ts named) (λ none. evaluated_past texts m part S types ts (P (named_expr ts named none))))

  by_name_past : at_next (is_name w) ts ≡ true → Past size (by_name texts m part cases types ts)
  unfolding by_name
  by_name_past named = nested_past (choose_second (is_colon w) (labelled texts m part types cases) (unlabelled texts m part types))
      (past_choice size (at_second (is_colon w) ts) _ _ (λ h. labelled_past texts m part S types cases ts named) (λ h. unlabelled_past named))

  pub statement_past : Past size (statement texts m part cases types ts)
  unfolding statement
  statement_past = past_choice size _ _ _ (λ named. by_name_past named) (λ named. keyword_past named)

pub name_begins : (w : Lexicon) (cases : Bool) (ts : List Token) → at_next (is_name w) ts ≡ true → at_next (begins_statement w cases) ts ≡ true
name_begins w cases [] h = absurd (cc h)
name_begins w cases (t ∷ ts) h =
    or_second (option_map_or begins_keyword_statement (sign.keyword_of w.texts t) false) _ (or_second (cases && option_map_or is_label_keyword (sign.keyword_of w.texts t) false) _
    (or_second (is_open_brace w t) _ (or_second (is_semicolon w t) _ (or_first (is_name w t) (begins_expr w t) h))))

-- some reader gets past a token that begins a statement
pub statement_enters : (texts : List (List ℕ)) (cases : Bool) (types : List Name) (ts : List Token) → at_next (begins_statement (reading texts types) cases) ts ≡ true
    → (m : ℕ) × (is_zero m ≡ false) × ((part : Parts) → SmallParts part → Past (length ts) (statement texts m part cases types ts))
statement_enters texts cases types ts begins = by_test (at_next (begins_expr (reading texts types)) ts) refl
  where
    by_test : (b : Bool) → at_next (begins_expr (reading texts types)) ts ≡ b → (m : ℕ) × (is_zero m ≡ false) × ((part : Parts) → SmallParts part → Past (length ts) (statement texts m part cases types ts))
    by_test true h = let e = expr_past (reading texts types) ts h in (e.0, e.1, λ part S. statement_past texts e.0 part S e.1 cases types ts begins (λ k. e.2))
    by_test false h = (1, refl, λ part S. statement_past texts 1 part S refl cases types ts begins (λ k. absurd (let both : true ≡ false = sym k ∙ h in cc both)))

-- ---- what is left behind declarations and items

module _ (texts : List (List ℕ)) where
  module _ (m : ℕ) (part : Parts) (S : SmallParts part) where
    pub declared_shrinks : (types : List Name) → Shrinks (declared texts m part types)
    unfolding declared
    declared_shrinks types = shrinks_then _ _ (shrinks_text (declaration_reader texts m types) ((declaration_reader_deepens texts m types).shrinks m (omega arith))) (λ d. shrinks_pure _)

    pub first_shrinks : (types : List Name) → Shrinks (first texts m part types)
    unfolding first
    first_shrinks types =
        shrinks_choose _ _ _ (shrinks_then _ _ (semicolon_shrinks texts m part S types) (λ c. shrinks_pure _))
        (shrinks_choose _ _ _ (shrinks_then _ _ (declared_shrinks types) (λ d. shrinks_pure _)) (shrinks_then _ _ (evaluated_shrinks texts m part S types) (λ s. shrinks_pure _)))

    pub declaration_item_shrinks : (b : Body) → Shrinks (declaration_item texts m part b)
    unfolding declaration_item
    declaration_item_shrinks b = shrinks_then _ _ (declared_shrinks b.types) (λ d. shrinks_pure _)

    pub statement_item_shrinks : (cases : Bool) (b : Body) → Shrinks (statement_item texts m part cases b)
    unfolding statement_item
    statement_item_shrinks cases b = shrinks_then _ _ (statement_shrinks texts m part S cases b.types) (λ s. shrinks_pure _)

    pub named_declaration_shrinks : (b : Body) → Shrinks (named_declaration texts m part b)
    unfolding named_declaration
    named_declaration_shrinks b =
        shrinks_choose _ _ _ (label_shrinks _ _) (shrinks_choose _ _ _ (label_shrinks _ _)
        (shrinks_choose _ _ _ (shrinks_then _ _ (shrinks_token _ _) (λ t. crowded_shrinks (reading texts b.types) t)) (declaration_item_shrinks b)))

    pub item_shrinks : (cases : Bool) (b : Body) → Shrinks (item texts m part cases b)
    unfolding item named_item
    item_shrinks cases b =
        shrinks_choose _ _ _ (shrinks_guard (is_zero m) too_deep _ (λ h. shrinks_second _ _ _ (statement_item_shrinks cases b) (named_declaration_shrinks b)))
        (shrinks_choose _ _ _ (declaration_item_shrinks b) (statement_item_shrinks cases b))

  pub statements_shrink : (m : ℕ) → SmallParts (statements texts m)
  unfolding statements
  statements_shrink zero = record {
    statement = λ cases types. shrinks_choose _ _ _ (shrinks_refuse _) (shrinks_refuse _);
    block = λ cases types. shrinks_choose _ _ _ (shrinks_refuse _) (shrinks_refuse _);
    item = λ cases b. shrinks_choose _ _ _ (shrinks_refuse _) (barred_shrinks (reading texts b.types));
    first = λ types. shrinks_choose _ _ _ (shrinks_refuse _) (barred_shrinks (reading texts types));
  }
  statements_shrink (suc m) =
      let S : SmallParts (statements texts m) = statements_shrink m in
      record {
        statement = statement_shrinks texts m (statements texts m) S;
        block = λ cases types. block_shrinks texts m (statements texts m) S types cases;
        item = item_shrinks m (statements texts m) S;
        first = first_shrinks m (statements texts m) S;
      }

-- ---- items that begin with a name that begins a declaration

module _ (texts : List (List ℕ)) (m : ℕ) (part : Parts) (S : SmallParts part) (cases : Bool) (b : Body) where
  -- where the declaration gets past a token
  pub item_past : (left : ℕ) (ts : List Token) → Past left (declaration_reader texts m b.types ts) → Past left (declaration_item texts m part b ts)
  unfolding declaration_item declared
  item_past left ts P =
      past_bind (with_text (declaration_reader texts m b.types) >>= (λ d. pure (tree.Declare (decl_list d.0.list) (first_place d.1), d.0.types))) _ left ts
      (past_bind (with_text (declaration_reader texts m b.types)) _ left ts (past_front left ts (declaration_reader texts m b.types ts) P) (λ d. shrinks_pure _)) (λ d. shrinks_pure _)

  pub statement_item_past : (ts : List Token) → Past (length ts) (statement texts m part cases b.types ts) → Past (length ts) (statement_item texts m part cases b ts)
  unfolding statement_item
  statement_item_past ts P = past_bind (statement texts m part cases b.types) _ (length ts) ts P (λ s. shrinks_pure _)

  module _ (room : is_zero m ≡ false) (ts : List Token) (named : at_next (is_name (reading texts b.types)) ts ≡ true) where
    label_past_there : at_second (is_colon (reading texts b.types)) ts ≡ true → Past (length ts) (statement texts m part cases b.types ts)
    unfolding statement by_name
    label_past_there h =
        past_choice (length ts) _ _ _
        (λ is. past_guard (length ts) (is_zero m) too_deep (choose_second (is_colon (reading texts b.types)) (labelled texts m part b.types cases) (unlabelled texts m part b.types)) ts room
        (past_choice (length ts) _ _ _ (λ k. labelled_past texts m part S b.types cases ts named) (λ k. absurd (let both : true ≡ false = sym h ∙ k in cc both))))
        (λ is. absurd (let both : true ≡ false = sym named ∙ is in cc both))

    crowded_past : at_next (λ t. nat_lt m (room_for (reading texts b.types) t)) ts ≡ true → Past (length ts) (named_declaration texts m part b ts)
    unfolding named_declaration
    crowded_past few =
        past_choice (length ts) (at_next (is_unlisted (reading texts b.types)) ts) (only_label unknown_before (reading texts b.types) ts)
        (choose (is_misplaced (reading texts b.types)) (only_label (misplaced_before 1) (reading texts b.types))
        (choose (λ t. nat_lt m (room_for (reading texts b.types) t)) (token unexpected (is_name (reading texts b.types)) >>= crowded (reading texts b.types)) (declaration_item texts m part b)) ts)
        (λ h. label_past unknown_before (reading texts b.types) ts named) (λ h.
        past_choice (length ts) (at_next (is_misplaced (reading texts b.types)) ts) (only_label (misplaced_before 1) (reading texts b.types) ts)
        (choose (λ t. nat_lt m (room_for (reading texts b.types) t)) (token unexpected (is_name (reading texts b.types)) >>= crowded (reading texts b.types)) (declaration_item texts m part b) ts)
        (λ h. label_past (misplaced_before 1) (reading texts b.types) ts named) (λ h.
        past_choice (length ts) (at_next (λ t. nat_lt m (room_for (reading texts b.types) t)) ts)
        ((token unexpected (is_name (reading texts b.types)) >>= crowded (reading texts b.types)) ts) (declaration_item texts m part b ts)
        (λ k. enters unexpected (is_name (reading texts b.types)) (crowded (reading texts b.types)) (crowded_shrinks (reading texts b.types)) ts named)
        (λ k. absurd (let both : true ≡ false = sym few ∙ k in cc both))))

    pub either_past : at_next (λ t. nat_lt m (room_for (reading texts b.types) t)) ts ≡ true
        → Past (length ts) (choose_second (is_colon (reading texts b.types)) (statement_item texts m part cases b) (named_declaration texts m part b) ts)
    either_past few = past_choice (length ts) _ _ _ (λ h. statement_item_past ts (label_past_there h)) (λ h. crowded_past few)

    pub named_item_past : at_next (λ t. nat_lt m (room_for (reading texts b.types) t)) ts ≡ true → Past (length ts) (named_item texts m part cases b ts)
    unfolding named_item
    named_item_past few = past_guard (length ts) (is_zero m) too_deep (choose_second (is_colon (reading texts b.types)) (statement_item texts m part cases b) (named_declaration texts m part b)) ts room (either_past few)

-- the reader of depth 1 has no room for it
pub one_few : (w : Lexicon) (ts : List Token) → at_next (is_name w) ts ≡ true → at_next (λ t. nat_lt 1 (room_for w t)) ts ≡ true
one_few w [] h = absurd (cc h)
one_few w (t ∷ ts) h = few (is_listed w t && not (is_bare w t))
  where
    few : (c : Bool) → nat_lt 1 (if c then 3 else 2) ≡ true
    few true = refl
    few false = refl
