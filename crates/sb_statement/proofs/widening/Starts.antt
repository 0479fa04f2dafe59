-- Where no statement begins with the next token, the readers of statements stop there as those without room do.
use Rattle.std.proofs.Common.{◌≡◌, ℕ, Bool, true, false, ◌&&◌, ◌||◌, not, List, [], ◌∷◌, ◌++◌, length, None, is_some, if◌then◌else◌, refl, sym, ap, ◌∙◌, subst}
use Rattle.std.specs.Option.{option_map_or}
use Rattle.sb_base.specs.declared.interning.Name.{Name}
use Rattle.sb_base.specs.declared.tokens.Token.{Token}
use Rattle.sb_parse.specs.Parser.{Outcome, Parser, stop, at_next, and_then, ◌>>=◌, pure, token, choose, refuse}
use Rattle.sb_sign.specs.declared.sign.Keyword.{Keyword}
use Rattle.sb_sign.specs.declared.sign.Keyword.TheVariants as keyword
use Rattle.sb_tree.specs.Plain.{decl_list}
use Rattle.sb_tree.specs.Trees as tree
use Rattle.sb_tree.specs.Trees.{StmtTree}
use Rattle.sb_expr.specs.Expression.{Sequence}
use Rattle.sb_lexicon.specs.Lexicon.{Lexicon, is_keyword, is_type_name, is_type_keyword, is_type_word}
use Rattle.sb_lexicon.specs.SpecifierReaders.{is_floating, is_complex, is_union}
use Rattle.sb_lexicon.specs.Tokens.{unexpected, too_deep, is_open_brace, begins_expr}
use Rattle.sb_lexicon.specs.Words.{Nothing}
use Rattle.sb_lexicon.proofs.Lexemes.{keyword_is, is_kind}
use Rattle.sb_expr.proofs.widening.Starts.{expr_starts}
use Rattle.sb_parse.proofs.Ways.{first_fails, second_fails, and_fails}
use Rattle.sb_lexicon.proofs.Wider.{Held, short, same, Wider}
use Rattle.sb_sal.specs.Spellings.{begins_note, arguments_in, word_of, is_listed, is_unlisted, may_stand}
use Rattle.sb_sal.proofs.NoteWider.{fails_too}
use Rattle.sb_specifier.specs.declared.seat.Seat.TheVariants as seat
use Rattle.sb_specifier.specs.Readers.{Declarations, is_semicolon, is_name, begins_declaration, barred}
use Rattle.sb_parse.specs.Texts.{with_front, with_text}
use Rattle.sb_declare.specs.Readers.{declaration_reader}
use Rattle.sb_specifier.specs.Specified.{reading, bearer_at}
use Rattle.sb_parse.proofs.Choices.{and_then_assoc}
use Rattle.sb_specifier.proofs.laws.Barring.{barred_then, barred_refuses}
use Rattle.sb_statement.specs.Readers.{Body, First, Parts, begins_keyword_statement, is_label_keyword, begins_statement, names_declaration, first_place, expression, semicolon, evaluated, declared, first, block, by_keyword, statement, declaration_item, statement_item, item, no_statement}

-- ---- tests that fail

-- the second of two outcomes
pub second_so : {A : Type 0} (b : Bool) (x y o : Outcome Token A) → b ≡ false → y ≡ o → (if b then x else y) ≡ o
second_so b x y o h e = ap (λ b. if b then x else y) h ∙ e

and_less : (b c d : Bool) → (c ≡ false → d ≡ false) → (b && c) ≡ false → (b && d) ≡ false
and_less true c d to h = to h
and_less false c d to h = refl

-- no keyword of some kind, so none of these
pub no_kind : (w : Lexicon) (kinds : Keyword → Bool) (k : Keyword) → kinds k ≡ true → (t : Token) → is_kind w kinds t ≡ false → is_keyword w k t ≡ false
no_kind w kinds k is t none = by_test (is_keyword w k t) refl
  where
    by_test : (b : Bool) → is_keyword w k t ≡ b → b ≡ false
    by_test false h = refl
    by_test true h = absurd (let both : true ≡ false = sym is ∙ sym (ap (λ o. option_map_or kinds o false) (keyword_is w k t h)) ∙ none in cc both)

module _ (w : Lexicon) (cases : Bool) (t : Token) (h : begins_statement w cases t ≡ false) where
  abbrev by_words : Bool
  by_words = is_kind w begins_keyword_statement t

  abbrev by_labels : Bool
  by_labels = cases && is_kind w is_label_keyword t

  no_words : by_words ≡ false
  no_words = first_fails by_words (by_labels || (is_open_brace w t || (is_semicolon w t || (is_name w t || begins_expr w t)))) h

  later : (by_labels || (is_open_brace w t || (is_semicolon w t || (is_name w t || begins_expr w t)))) ≡ false
  later = second_fails by_words (by_labels || (is_open_brace w t || (is_semicolon w t || (is_name w t || begins_expr w t)))) h

  no_labels : by_labels ≡ false
  no_labels = first_fails by_labels (is_open_brace w t || (is_semicolon w t || (is_name w t || begins_expr w t))) later

  signs : (is_open_brace w t || (is_semicolon w t || (is_name w t || begins_expr w t))) ≡ false
  signs = second_fails by_labels (is_open_brace w t || (is_semicolon w t || (is_name w t || begins_expr w t))) later

  no_brace : is_open_brace w t ≡ false
  no_brace = first_fails (is_open_brace w t) (is_semicolon w t || (is_name w t || begins_expr w t)) signs

  others : (is_semicolon w t || (is_name w t || begins_expr w t)) ≡ false
  others = second_fails (is_open_brace w t) (is_semicolon w t || (is_name w t || begins_expr w t)) signs

  no_semicolon : is_semicolon w t ≡ false
  no_semicolon = first_fails (is_semicolon w t) (is_name w t || begins_expr w t) others

  no_name : is_name w t ≡ false
  no_name = first_fails (is_name w t) (begins_expr w t) (second_fails (is_semicolon w t) (is_name w t || begins_expr w t) others)

  no_expr : begins_expr w t ≡ false
  no_expr = second_fails (is_name w t) (begins_expr w t) (second_fails (is_semicolon w t) (is_name w t || begins_expr w t) others)

  no_keyword : (k : Keyword) → begins_keyword_statement k ≡ true → is_keyword w k t ≡ false
  no_keyword k is = no_kind w begins_keyword_statement k is t no_words

  no_label : (k : Keyword) → is_label_keyword k ≡ true → (cases && is_keyword w k t) ≡ false
  no_label k is = and_less cases (is_kind w is_label_keyword t) (is_keyword w k t) (no_kind w is_label_keyword k is t) no_labels

  names_none : names_declaration w t ≡ false
  names_none = and_fails (begins_declaration w t) (is_name w t) no_name

-- ---- readers with room

module _ (texts : List (List ℕ)) (n : ℕ) (part : Parts) (types : List Name) where
  abbrev w : Lexicon
  w = reading texts types

  pub evaluated_starts : (ts : List Token) → at_next (begins_expr w) ts ≡ false → evaluated texts n part types ts ≡ stop unexpected (length ts)
  unfolding evaluated expression semicolon
  evaluated_starts ts h =
      ap (λ o. and_then (with_front ts o) (λ e. token unexpected (is_semicolon w) >>= (λ c. pure (tree.Evaluate (tree.AnExpr e.0) (first_place e.1))))) (expr_starts w n 0 Sequence ts h)

  pub block_starts : (cases : Bool) (ts : List Token) → at_next (is_open_brace w) ts ≡ false → block texts n part types cases ts ≡ stop unexpected (length ts)
  unfolding block
  block_starts cases [] h = refl
  block_starts cases (t ∷ ts) h = rw (h) refl

  module _ (cases : Bool) (ts : List Token) (h : at_next (begins_statement w cases) ts ≡ false) where
    word_off : (k : Keyword) → begins_keyword_statement k ≡ true → at_next (is_keyword w k) ts ≡ false
    word_off k is = fails_too (begins_statement w cases) (is_keyword w k) (λ t e. no_keyword w cases t e k is) ts h

    label_off : (k : Keyword) → is_label_keyword k ≡ true → at_next (λ t. cases && is_keyword w k t) ts ≡ false
    label_off k is = fails_too (begins_statement w cases) (λ t. cases && is_keyword w k t) (λ t e. no_label w cases t e k is) ts h

    keyword_starts : by_keyword texts n part cases types (evaluated texts n part types) ts ≡ stop unexpected (length ts)
    unfolding by_keyword
    keyword_starts =
        second_so _ _ _ _ (fails_too (begins_statement w cases) (is_open_brace w) (no_brace w cases) ts h)
        (second_so _ _ _ _ (fails_too (begins_statement w cases) (is_semicolon w) (no_semicolon w cases) ts h)
        (second_so _ _ _ _ (word_off keyword.If refl)
        (second_so _ _ _ _ (word_off keyword.While refl)
        (second_so _ _ _ _ (word_off keyword.Do refl)
        (second_so _ _ _ _ (word_off keyword.For refl)
        (second_so _ _ _ _ (word_off keyword.Switch refl)
        (second_so _ _ _ _ (word_off keyword.Goto refl)
        (second_so _ _ _ _ (word_off keyword.Break refl)
        (second_so _ _ _ _ (word_off keyword.Continue refl)
        (second_so _ _ _ _ (word_off keyword.Return refl)
        (second_so _ _ _ _ (label_off keyword.Case refl)
        (second_so _ _ _ _ (label_off keyword.Default refl)
        (evaluated_starts ts (fails_too (begins_statement w cases) (begins_expr w) (no_expr w cases) ts h))))))))))))))

    pub statement_starts : statement texts n part cases types ts ≡ stop unexpected (length ts)
    unfolding statement
    statement_starts = second_so _ _ _ _ (fails_too (begins_statement w cases) (is_name w) (no_name w cases) ts h) keyword_starts

-- ---- where no declaration begins

module _ (w : Lexicon) (t : Token) (h : begins_declaration w t ≡ false) where
  no_type_word : is_type_word w t ≡ false
  no_type_word = first_fails (is_type_word w t) _ (first_fails (is_type_word w t || _) (is_type_name w t || begins_note w t) h)

  no_note : begins_note w t ≡ false
  no_note = second_fails (is_type_name w t) (begins_note w t) (second_fails _ (is_type_name w t || begins_note w t) h)

  no_type_keyword : (k : Keyword) → is_type_keyword k ≡ true → is_keyword w k t ≡ false
  no_type_keyword k is = no_kind w is_type_keyword k is t no_type_word

  unlisted_none : is_unlisted w t ≡ false
  unlisted_none = ap (λ b. b && not (is_listed w t)) no_note

  listed_none : (is_listed w t && not (may_stand w (bearer_at seat.Scope) t)) ≡ false
  listed_none = ap (λ b. is_some (if b then arguments_in (word_of w.texts t) else None) && not (may_stand w (bearer_at seat.Scope) t)) no_note

  floating_none : is_floating w Nothing t ≡ false
  floating_none = rw (no_type_keyword keyword.Float refl, no_type_keyword keyword.Double refl) refl

  union_none : is_union w Nothing t ≡ false
  union_none = rw (no_type_keyword keyword.Union refl) refl

  complex_none : is_complex w Nothing t ≡ false
  complex_none = rw (no_type_keyword keyword.Complex refl, no_type_keyword keyword.Imaginary refl) refl

-- a reader without room refuses as unexpected where no declaration begins
pub barred_starts : {A : Type 0} (w : Lexicon) (ts : List Token) → at_next (begins_declaration w) ts ≡ false → barred {A = A} w seat.Scope ts ≡ stop unexpected (length ts)
barred_starts w ts h =
    second_so _ _ _ _ (fails_too (begins_declaration w) (is_unlisted w) (unlisted_none w) ts h)
    (second_so _ _ _ _ (fails_too (begins_declaration w) (λ t. is_listed w t && not (may_stand w (bearer_at seat.Scope) t)) (listed_none w) ts h)
    (second_so _ _ _ _ (fails_too (begins_declaration w) (is_floating w Nothing) (floating_none w) ts h)
    (second_so _ _ _ _ (fails_too (begins_declaration w) (is_union w Nothing) (union_none w) ts h)
    (second_so _ _ _ _ (fails_too (begins_declaration w) (is_keyword w keyword.Volatile) (λ t e. no_type_keyword w t e keyword.Volatile refl) ts h)
    (second_so _ _ _ _ (fails_too (begins_declaration w) (is_complex w Nothing) (complex_none w) ts h)
    (second_so _ _ _ _ h refl))))))

-- ---- no room, and room

module _ (texts : List (List ℕ)) (n : ℕ) (part : Parts) where
  pub no_statement_wider : (cases : Bool) (types : List Name) → Wider (no_statement (reading texts types) cases (refuse unexpected)) (statement texts n part cases types)
  no_statement_wider cases types ts = by_test (at_next (begins_statement (reading texts types) cases) ts) refl
    where
      by_test : (b : Bool) → at_next (begins_statement (reading texts types) cases) ts ≡ b → Held (if b then stop too_deep (length ts) else stop unexpected (length ts)) (statement texts n part cases types ts)
      by_test true h = short (length ts) refl
      by_test false h = same (statement_starts texts n part types cases ts h)

  pub no_block_wider : (cases : Bool) (types : List Name) → Wider (choose (is_open_brace (reading texts types)) (refuse too_deep) (refuse unexpected)) (block texts n part types cases)
  no_block_wider cases types ts = by_test (at_next (is_open_brace (reading texts types)) ts) refl
    where
      by_test : (b : Bool) → at_next (is_open_brace (reading texts types)) ts ≡ b → Held (if b then stop too_deep (length ts) else stop unexpected (length ts)) (block texts n part types cases ts)
      by_test true h = short (length ts) refl
      by_test false h = same (block_starts texts n part types cases ts h)

  module _ (Declaring : (types : List Name) → Wider (barred (reading texts types) seat.Scope) (declaration_reader texts n types)) where
    abbrev nothing : {A : Type 0} → Declarations → Parser Token A
    nothing d = refuse unexpected

    over_text : {A : Type 0} (f : Declarations × List Token → Parser Token A) (ts : List Token) (o : Outcome Token Declarations) (number left : ℕ) → o ≡ stop number left → and_then (with_front ts o) f ≡ and_then o nothing
    over_text f ts o number left e = ap (λ z. and_then (with_front ts z) f) e ∙ sym (ap (λ z. and_then z nothing) e)

    -- a declaration that is barred, whatever is made of it
    barred_wider : {A : Type 0} (types : List Name) (f : Declarations × List Token → Parser Token A) → Wider (barred {A = A} (reading texts types) seat.Scope) (with_text (declaration_reader texts n types) >>= f)
    barred_wider {A = A} types f ts =
        subst (λ o. Held o (and_then (with_front ts (declaration_reader texts n types ts)) f)) (barred_then (reading texts types) seat.Scope {A = Declarations} nothing ts) (go (Declaring types ts))
      where
        go : Held (barred (reading texts types) seat.Scope ts) (declaration_reader texts n types ts)
            → Held (and_then (barred {A = Declarations} (reading texts types) seat.Scope ts) nothing) (and_then (with_front ts (declaration_reader texts n types ts)) f)
        go (short left e) = short left (ap (λ (z : Outcome Token Declarations). and_then z nothing) e)
        go (same e) =
            let it = barred_refuses (reading texts types) seat.Scope {A = Declarations} ts in
            same (ap (λ z. and_then (with_front ts z) f) e ∙ over_text f ts (barred (reading texts types) seat.Scope ts) it.number (length ts) (it.halts ts refl))

    barred_declared : {A : Type 0} (types : List Name) (f : StmtTree × List Name → Parser Token A) → Wider (barred {A = A} (reading texts types) seat.Scope) (declared texts n part types >>= f)
    unfolding declared
    barred_declared types f ts =
        subst (λ o. Held (barred (reading texts types) seat.Scope ts) o) (sym (and_then_assoc (with_text (declaration_reader texts n types) ts) _ f))
        (barred_wider types (λ d. (pure (tree.Declare (decl_list d.0.list) (first_place d.1), d.0.types)) >>= f) ts)

    pub no_first_wider : (types : List Name) → Wider (choose (λ t. is_semicolon (reading texts types) t || begins_expr (reading texts types) t) (refuse too_deep) (barred (reading texts types) seat.Scope)) (first texts n part types)
    unfolding first
    no_first_wider types ts = by_test (at_next (λ t. is_semicolon w t || begins_expr w t) ts) refl
      where
        w : Lexicon
        w = reading texts types

        declares : (b : Bool) → at_next (begins_declaration w) ts ≡ b → at_next (λ t. is_semicolon w t || begins_expr w t) ts ≡ false
            → Held {A = First} (barred w seat.Scope ts)
            (if b then (declared texts n part types >>= (λ d. pure (record { first = tree.AStmt d.0; types = d.1 }))) ts else (evaluated texts n part types >>= (λ s. pure (record { first = tree.AStmt s; types = types }))) ts)
        declares true h none = barred_declared types _ ts
        declares false h none =
            same (ap (λ o. and_then o (λ s. pure (record { first = tree.AStmt s; types = types }))) (evaluated_starts texts n part types ts (fails_too _ (begins_expr w) (λ t e. second_fails (is_semicolon w t) (begins_expr w t) e) ts none))
            ∙ sym (barred_starts w ts h))

        by_test : (b : Bool) → at_next (λ t. is_semicolon w t || begins_expr w t) ts ≡ b → Held (if b then stop too_deep (length ts) else barred w seat.Scope ts) (first texts n part types ts)
        by_test true h = short (length ts) refl
        by_test false h =
            subst (λ o. Held (barred w seat.Scope ts) o) (sym (second_so _ _ _ _ (fails_too _ (is_semicolon w) (λ t e. first_fails (is_semicolon w t) (begins_expr w t) e) ts h) refl)) (declares (at_next (begins_declaration w) ts) refl h)

    pub no_item_wider : (cases : Bool) (b : Body) → Wider (no_statement (reading texts b.types) cases (barred (reading texts b.types) seat.Scope)) (item texts n part cases b)
    unfolding item declaration_item statement_item
    no_item_wider cases b ts = by_test (at_next (begins_statement w cases) ts) refl
      where
        w : Lexicon
        w = reading texts b.types

        declares : (c : Bool) → at_next (begins_declaration w) ts ≡ c → at_next (begins_statement w cases) ts ≡ false
            → Held (barred w seat.Scope ts) (if c then declaration_item texts n part b ts else statement_item texts n part cases b ts)
        declares true h none = barred_declared b.types _ ts
        declares false h none =
            same (ap (λ o. and_then o (λ s. pure (record { list = b.list ++ (s ∷ []); types = b.types }))) (statement_starts texts n part b.types cases ts none) ∙ sym (barred_starts w ts h))

        by_test : (c : Bool) → at_next (begins_statement w cases) ts ≡ c → Held (if c then stop too_deep (length ts) else barred w seat.Scope ts) (item texts n part cases b ts)
        by_test true h = short (length ts) refl
        by_test false h =
            subst (λ o. Held (barred w seat.Scope ts) o) (sym (second_so _ _ _ _ (fails_too (begins_statement w cases) (names_declaration w) (names_none w cases) ts h) refl)) (declares (at_next (begins_declaration w) ts) refl h)
