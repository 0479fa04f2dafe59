-- Why the readers of statements stop: each stop has a reason.
use Rattle.std.proofs.Common.{◌≡◌, ℕ, zero, suc, Bool, true, false, ◌&&◌, ◌||◌, not, List, [], ◌∷◌, ◌++◌, length, nat_lt, if◌then◌else◌, refl, sym, ap, ◌∙◌, subst, append_assoc}
use Rattle.std.specs.Option.{option_map_or}
use Rattle.sb_base.specs.declared.interning.Name.{Name}
use Rattle.sb_base.specs.declared.refusals.Place.{Place}
use Rattle.sb_base.specs.declared.tokens.Token.{Token}
use Rattle.sb_parse.specs.Parser.{Outcome, Parser, done, stop, at_next, and_then, ◌>>=◌, refuse, token, choose, guard}
use Rattle.sb_sign.specs.declared.sign.Keyword.{Keyword}
use Rattle.sb_sign.specs.declared.sign.Keyword.TheVariants as keyword
use Rattle.sb_sign.specs.Signs as sign
use Rattle.sb_tree.specs.Trees as tree
use Rattle.sb_tree.specs.Trees.{StmtTree}
use Rattle.sb_parse.specs.Descent.{choose_second}
use Rattle.sb_expr.specs.Expression.{Conditional, Sequence}
use Rattle.sb_lexicon.specs.Lexicon.{Lexicon, is_keyword, is_type_name}
use Rattle.sb_lexicon.specs.Tokens.{unexpected, too_deep, bad_arguments, unknown_before, misplaced_before, volatile, is_zero, is_open, is_close, is_colon, is_open_brace, begins_expr}
use Rattle.sb_lexicon.proofs.Lexemes.{keyword_is}
use Rattle.sb_parse.proofs.Ways.{or_first, or_second, and_first, and_second}
use Rattle.sb_sal.specs.Readers as notes
use Rattle.sb_sal.specs.Reasons.{IsBadArguments, takes_nothing, takes_something, other_arguments}
use Rattle.sb_sal.specs.Spellings.{begins_note, is_listed, is_unlisted}
use Rattle.sb_sal.specs.declared.bearer.Bearer.TheVariants as bearer
use Rattle.sb_parse.proofs.Explaining.{next_is}
use Rattle.sb_specifier.specs.declared.seat.Seat.TheVariants as seat
use Rattle.sb_specifier.specs.Specified.{reading}
use Rattle.sb_specifier.specs.Reasons.{in_notes, feature}
use Rattle.sb_parse.specs.Texts.{with_text}
use Rattle.sb_specifier.specs.Readers.{is_semicolon, is_name, name_at, is_close_brace, begins_declaration, barred}
use Rattle.sb_declare.specs.Readers.{declaration_reader}
use Rattle.sb_parse.proofs.Telling.{Reasons, Tells, Telling, TellingAt, tells_behind, one_by_one, giving, mapping, stopping, refusing, a_token, token_turn, a_value, by_choice, choosing, choosing_any, turning, text_telling}
use Rattle.sb_specifier.proofs.telling.Reasons.{reasons, expr_telling}
use Rattle.sb_specifier.proofs.telling.Shown.{barred_telling}
use Rattle.sb_declare.proofs.telling.Declarations.{declarations_telling}
use Rattle.sb_statement.specs.Readers.{Body, First, Parts, begins_statement, begins_keyword_statement, is_label_keyword, expression, in_parentheses, semicolon, block, evaluated, empty, declared, other, selected, switched, repeated, done_first, optional, first, gone, broken, continued, returned, labelled, case_of, default_of, stepped, iterated, by_keyword, only_label, unlabelled, by_name, statement, declaration_item, statement_item, names_declaration, is_misplaced, room_for, crowded, goes_on_type, named_declaration, named_item, item, whole_parts, statements}
use Rattle.sb_statement.specs.Reasons.{IsUnitReason, in_declaration, deeper, deeper_type, deeper_note, no_annotation, no_place, no_text}

module _ (texts : List (List ℕ)) where
  -- the reasons stay so behind more tokens
  longer : (xs before behind front : List Token) → front ≡ before ++ behind → xs ++ front ≡ (xs ++ before) ++ behind
  longer xs before behind front e = ap (λ z. xs ++ z) e ∙ sym (append_assoc xs before behind)

  pub further : (xs front bad : List Token) (n : ℕ) → IsUnitReason texts front bad n → IsUnitReason texts (xs ++ front) bad n
  further xs front bad _ (in_declaration before behind n e r) = in_declaration (xs ++ before) behind n (longer xs before behind front e) r
  further xs front bad _ (deeper now cases t rest e h) = deeper now cases t rest e h
  further xs front bad _ (deeper_type now before rest t s e h k) = deeper_type now (xs ++ before) rest t s (longer xs before (t ∷ []) front e) h k
  further xs front bad _ (deeper_note now before rest t s e h k l) = deeper_note now (xs ++ before) rest t s (longer xs before (t ∷ []) front e) h k l
  further xs front bad _ (no_annotation now before t e h k) = no_annotation now (xs ++ before) t (longer xs before (t ∷ []) front e) h k
  further xs front bad _ (no_place now before t e h k) = no_place now (xs ++ before) t (longer xs before (t ∷ []) front e) h k
  further xs front bad _ no_text = no_text

  abbrev pub unit_reasons : Reasons Token
  unit_reasons = record { number = unexpected; why = IsUnitReason texts; further = further; plain = λ front bad. no_text }

  abbrev W : Reasons Token
  W = unit_reasons

  -- what tells of declarations tells of units
  pub lifted : {A : Type 0} (ts : List Token) (o : Outcome Token A) → Tells (reasons texts) ts o → Tells W ts o
  lifted ts (done a rest) f = f
  lifted ts (stop n left) s = record { front = s.front; bad = s.bad; split = s.split; left_is = s.left_is; why = in_declaration [] s.front n refl s.why }

  lift : {A : Type 0} (p : Parser Token A) → Telling (reasons texts) p → Telling W p
  lift p P ts = lifted ts (p ts) (P ts)

  -- ---- without room

  module _ (now : List Name) where
    abbrev w : Lexicon
    w = reading texts now

    refusing_deep : (A : Type 0) (cases : Bool) (goes : Token → Bool) → ((t : Token) → goes t ≡ true → begins_statement w cases t ≡ true) → TellingAt W {A = A} goes (refuse too_deep)
    refusing_deep A cases goes some ts h = let t = next_is goes ts h in stopping W A too_deep ts (deeper now cases t.0 t.1 t.2 (some t.0 t.3))

    barring : {A : Type 0} (cases : Bool) (goes : Token → Bool) (bar : Bool) (p : Parser Token A) → ((t : Token) → goes t ≡ true → begins_statement w cases t ≡ true) → TellingAt W goes p → TellingAt W goes (guard bar too_deep p)
    barring {A = A} cases goes true p some P ts h = refusing_deep A cases goes some ts h
    barring cases goes false p some P ts h = P ts h

    -- ---- with which tokens statements begin

    by_keyword_kind : (cases : Bool) (k : Keyword) → begins_keyword_statement k ≡ true → (t : Token) → is_keyword w k t ≡ true → begins_statement w cases t ≡ true
    by_keyword_kind cases k kind t h =
        or_first (option_map_or begins_keyword_statement (sign.keyword_of texts t) false) _ (ap (λ o. option_map_or begins_keyword_statement o false) (keyword_is w k t h) ∙ kind)

    by_label_kind : (cases : Bool) (k : Keyword) → is_label_keyword k ≡ true → (t : Token) → (cases && is_keyword w k t) ≡ true → begins_statement w cases t ≡ true
    by_label_kind cases k kind t h =
        or_second (option_map_or begins_keyword_statement (sign.keyword_of texts t) false) _
        (or_first (cases && option_map_or is_label_keyword (sign.keyword_of texts t) false) _
        (both (and_first cases (is_keyword w k t) h) (ap (λ o. option_map_or is_label_keyword o false) (keyword_is w k t (and_second cases (is_keyword w k t) h)) ∙ kind)))
      where
        both : {a b : Bool} → a ≡ true → b ≡ true → (a && b) ≡ true
        both {b = b} h k = ap (λ z. z && b) h ∙ k

    by_name_kind : (cases : Bool) (t : Token) → is_name w t ≡ true → begins_statement w cases t ≡ true
    by_name_kind cases t h =
        or_second (option_map_or begins_keyword_statement (sign.keyword_of texts t) false) _ (or_second (cases && option_map_or is_label_keyword (sign.keyword_of texts t) false) _
        (or_second (is_open_brace w t) _ (or_second (is_semicolon w t) _ (or_first (is_name w t) (begins_expr w t) h))))

    by_brace_kind : (cases : Bool) (t : Token) → is_open_brace w t ≡ true → begins_statement w cases t ≡ true
    by_brace_kind cases t h =
        or_second (option_map_or begins_keyword_statement (sign.keyword_of texts t) false) _ (or_second (cases && option_map_or is_label_keyword (sign.keyword_of texts t) false) _ (or_first (is_open_brace w t) _ h))

    by_expr_kind : (cases : Bool) (t : Token) → (is_semicolon w t || begins_expr w t) ≡ true → begins_statement w cases t ≡ true
    by_expr_kind cases t h =
        or_second (option_map_or begins_keyword_statement (sign.keyword_of texts t) false) _ (or_second (cases && option_map_or is_label_keyword (sign.keyword_of texts t) false) _
        (or_second (is_open_brace w t) _ (one_later (is_semicolon w t) (is_name w t) (begins_expr w t) h)))
      where
        one_later : (a b c : Bool) → (a || c) ≡ true → (a || (b || c)) ≡ true
        one_later true b c h = refl
        one_later false true c h = refl
        one_later false false c h = h

  -- the readers of some depth
  pub record TellingStatements (p : Parts) : Type 0 where
    pub statement : (cases : Bool) (types : List Name) → Telling W (p.statement cases types)
    pub block : (cases : Bool) (types : List Name) → Telling W (p.block cases types)
    pub item : (cases : Bool) (b : Body) → Telling W (p.item cases b)
    pub first : (types : List Name) → Telling W (p.first types)

  module _ (below : ℕ) (part : Parts) (T : TellingStatements part) where
    module _ (types : List Name) where
      abbrev here : Lexicon
      here = reading texts types

      expression_tells : Telling W (expression texts below part types)
      unfolding expression
      expression_tells = lift _ (expr_telling texts types below Sequence)

      word_tells : (k : Keyword) → Telling W (token unexpected (is_keyword here k))
      word_tells k = a_token W (is_keyword here k)

      tested_tells : Telling W (in_parentheses texts below part types)
      unfolding in_parentheses
      tested_tells = one_by_one W _ _ (a_token W (is_open here)) (λ o. one_by_one W _ _ expression_tells (λ e. mapping W (token unexpected (is_close here)) (λ c. e) (a_token W (is_close here))))

      semicolon_tells : Telling W (semicolon texts below part types)
      unfolding semicolon
      semicolon_tells = a_token W (is_semicolon here)

      block_tells : (cases : Bool) → Telling W (block texts below part types cases)
      unfolding block
      block_tells cases =
          one_by_one W _ _ (a_token W (is_open_brace here)) (λ o. one_by_one W _ _ (turning W (λ t. not (is_close_brace here t)) (part.item cases) (λ b ts h. T.item cases b ts) (record { list = []; types = types }))
          (λ b. mapping W (token unexpected (is_close_brace here)) _ (a_token W (is_close_brace here))))

      evaluated_tells : Telling W (evaluated texts below part types)
      unfolding evaluated
      evaluated_tells = one_by_one W _ _ (text_telling W _ expression_tells) (λ e. mapping W (semicolon texts below part types) _ semicolon_tells)

      empty_tells : Telling W (empty texts below part types)
      unfolding empty
      empty_tells = mapping W (token unexpected (is_semicolon here)) _ (a_token W (is_semicolon here))

      declared_tells : Telling W (declared texts below part types)
      unfolding declared
      declared_tells = mapping W (with_text (declaration_reader texts below types)) _ (text_telling W _ (lift _ (declarations_telling texts below types)))

      other_tells : Telling W (other texts below part types)
      unfolding other
      other_tells =
          choosing_any W (is_keyword here keyword.Else) _ _ (one_by_one W _ _ (word_tells keyword.Else) (λ t. mapping W (part.statement false types) _ (T.statement false types))) (giving W tree.NoStmt)

      selected_tells : Telling W (selected texts below part types)
      unfolding selected
      selected_tells =
          one_by_one W _ _ (word_tells keyword.If) (λ t. one_by_one W _ _ tested_tells (λ e. one_by_one W _ _ (T.statement false types) (λ s. mapping W (other texts below part types) _ other_tells)))

      switched_tells : Telling W (switched texts below part types)
      unfolding switched
      switched_tells = one_by_one W _ _ (word_tells keyword.Switch) (λ t. one_by_one W _ _ tested_tells (λ e. mapping W (part.block true types) _ (T.block true types)))

      repeated_tells : Telling W (repeated texts below part types)
      unfolding repeated
      repeated_tells = one_by_one W _ _ (word_tells keyword.While) (λ t. one_by_one W _ _ tested_tells (λ e. mapping W (part.statement false types) _ (T.statement false types)))

      done_tells : Telling W (done_first texts below part types)
      unfolding done_first
      done_tells =
          one_by_one W _ _ (word_tells keyword.Do) (λ t. one_by_one W _ _ (T.statement false types) (λ s. one_by_one W _ _ (word_tells keyword.While)
          (λ u. one_by_one W _ _ tested_tells (λ e. mapping W (semicolon texts below part types) _ semicolon_tells))))

      optional_tells : (ends : Token → Bool) → Telling W (optional texts below part types ends)
      unfolding optional
      optional_tells ends = choosing_any W ends _ _ (giving W tree.NoExpr) (mapping W (expression texts below part types) _ expression_tells)

      first_tells : Telling W (first texts below part types)
      unfolding first
      first_tells =
          choosing_any W (is_semicolon here) _ _ (mapping W (semicolon texts below part types) _ semicolon_tells)
          (choosing_any W (begins_declaration here) _ _ (mapping W (declared texts below part types) _ declared_tells) (mapping W (evaluated texts below part types) _ evaluated_tells))

      gone_tells : Telling W (gone texts below part types)
      unfolding gone
      gone_tells = one_by_one W _ _ (word_tells keyword.Goto) (λ t. one_by_one W _ _ (a_value W (name_at here)) (λ n. mapping W (semicolon texts below part types) _ semicolon_tells))

      broken_tells : Telling W (broken texts below part types)
      unfolding broken
      broken_tells = one_by_one W _ _ (word_tells keyword.Break) (λ t. mapping W (semicolon texts below part types) _ semicolon_tells)

      continued_tells : Telling W (continued texts below part types)
      unfolding continued
      continued_tells = one_by_one W _ _ (word_tells keyword.Continue) (λ t. mapping W (semicolon texts below part types) _ semicolon_tells)

      returned_tells : Telling W (returned texts below part types)
      unfolding returned
      returned_tells = one_by_one W _ _ (word_tells keyword.Return) (λ t. one_by_one W _ _ (optional_tells (is_semicolon here)) (λ e. mapping W (semicolon texts below part types) _ semicolon_tells))

      labelled_tells : (cases : Bool) → Telling W (labelled texts below part types cases)
      unfolding labelled
      labelled_tells cases = one_by_one W _ _ (a_value W (name_at here)) (λ n. one_by_one W _ _ (a_token W (is_colon here)) (λ c. mapping W (part.statement cases types) _ (T.statement cases types)))

      case_tells : Telling W (case_of texts below part types)
      unfolding case_of
      case_tells =
          one_by_one W _ _ (word_tells keyword.Case) (λ t. one_by_one W _ _ (lift _ (expr_telling texts types below Conditional))
          (λ e. one_by_one W _ _ (a_token W (is_colon here)) (λ c. mapping W (part.statement true types) _ (T.statement true types))))

      default_tells : Telling W (default_of texts below part types)
      unfolding default_of
      default_tells = one_by_one W _ _ (word_tells keyword.Default) (λ t. one_by_one W _ _ (a_token W (is_colon here)) (λ c. mapping W (part.statement true types) _ (T.statement true types)))

    stepped_tells : (place : Place) (f : First) → Telling W (stepped texts below part place f)
    unfolding stepped
    stepped_tells place f =
        one_by_one W _ _ (optional_tells f.types (is_semicolon (reading texts f.types))) (λ e. one_by_one W _ _ (a_token W (is_semicolon (reading texts f.types)))
        (λ c. one_by_one W _ _ (optional_tells f.types (is_close (reading texts f.types))) (λ g. one_by_one W _ _ (a_token W (is_close (reading texts f.types)))
        (λ d. mapping W (part.statement false f.types) _ (T.statement false f.types)))))

    iterated_tells : (types : List Name) → Telling W (iterated texts below part types)
    unfolding iterated
    iterated_tells types =
        one_by_one W _ _ (a_token W (is_keyword (reading texts types) keyword.For)) (λ t. one_by_one W _ _ (a_token W (is_open (reading texts types))) (λ o. one_by_one W _ _ (T.first types) (λ f. stepped_tells t.place f)))

    keyword_tells : (cases : Bool) (types : List Name) (p : Parser Token StmtTree) → Telling W p → Telling W (by_keyword texts below part cases types p)
    unfolding by_keyword
    keyword_tells cases types p P =
        choosing_any W (is_open_brace (reading texts types)) _ _ (block_tells types false)
        (choosing_any W (is_semicolon (reading texts types)) _ _ (empty_tells types)
        (choosing W (is_keyword (reading texts types) keyword.If) _ _ (barring types cases _ (is_zero below) _ (by_keyword_kind types cases keyword.If refl) (λ ts h. selected_tells types ts))
        (choosing W (is_keyword (reading texts types) keyword.While) _ _ (barring types cases _ (is_zero below) _ (by_keyword_kind types cases keyword.While refl) (λ ts h. repeated_tells types ts))
        (choosing W (is_keyword (reading texts types) keyword.Do) _ _ (barring types cases _ (is_zero below) _ (by_keyword_kind types cases keyword.Do refl) (λ ts h. done_tells types ts))
        (choosing W (is_keyword (reading texts types) keyword.For) _ _ (barring types cases _ (is_zero below) _ (by_keyword_kind types cases keyword.For refl) (λ ts h. iterated_tells types ts))
        (choosing W (is_keyword (reading texts types) keyword.Switch) _ _ (barring types cases _ (is_zero below) _ (by_keyword_kind types cases keyword.Switch refl) (λ ts h. switched_tells types ts))
        (choosing_any W (is_keyword (reading texts types) keyword.Goto) _ _ (gone_tells types)
        (choosing_any W (is_keyword (reading texts types) keyword.Break) _ _ (broken_tells types)
        (choosing_any W (is_keyword (reading texts types) keyword.Continue) _ _ (continued_tells types)
        (choosing_any W (is_keyword (reading texts types) keyword.Return) _ _ (returned_tells types)
        (choosing W (λ t. cases && is_keyword (reading texts types) keyword.Case t) _ _ (barring types cases _ (is_zero below) _ (by_label_kind types cases keyword.Case refl) (λ ts h. case_tells types ts))
        (choosing W (λ t. cases && is_keyword (reading texts types) keyword.Default t) _ _ (barring types cases _ (is_zero below) _ (by_label_kind types cases keyword.Default refl) (λ ts h. default_tells types ts)) P))))))))))))

    -- ---- statements and items that begin with a name

    module _ (types : List Name) where
      abbrev now : Lexicon
      now = reading texts types

      -- behind a word that is no label
      alone_tells : (A : Type 0) (n : ℕ) (t : Token) (ts : List Token) → IsUnitReason texts (t ∷ []) ts n → Tells W (t ∷ ts) (only_label {A = A} n now (t ∷ ts))
      unfolding only_label
      alone_tells A n t ts why = by_named (is_name now t)
        where
          by_named : (b : Bool) → Tells W {A = A} (t ∷ ts) (and_then (if b then done t ts else stop unexpected (suc (length ts))) (λ u. refuse n))
          by_named true = record { front = t ∷ []; bad = ts; split = refl; left_is = refl; why = why }
          by_named false = stopping W A unexpected (t ∷ ts) no_text

      unlabelled_tells : (t : Token) (ts : List Token) → at_next (is_colon now) ts ≡ false → Tells W (t ∷ ts) (unlabelled texts below part types (t ∷ ts))
      unfolding unlabelled
      unlabelled_tells t ts k =
          by_choice W (is_unlisted now t) (only_label unknown_before now (t ∷ ts)) (choose (λ t. begins_note now t || is_type_name now t) (only_label unexpected now) (evaluated texts below part types) (t ∷ ts)) (t ∷ ts)
          (λ h. alone_tells StmtTree unknown_before t ts (no_annotation types [] t refl h k))
          (λ h. by_choice W (begins_note now t || is_type_name now t) (only_label unexpected now (t ∷ ts)) (evaluated texts below part types (t ∷ ts)) (t ∷ ts) (λ l. alone_tells StmtTree unexpected t ts no_text)
          (λ l. evaluated_tells types (t ∷ ts)))

      name_tells : (cases : Bool) → TellingAt W (is_name now) (by_name texts below part cases types)
      unfolding by_name
      name_tells cases = barring types cases (is_name now) (is_zero below) _ (by_name_kind types cases) by_second
        where
          by_second : TellingAt W (is_name now) (choose_second (is_colon now) (labelled texts below part types cases) (unlabelled texts below part types))
          by_second [] h = absurd (cc h)
          by_second (t ∷ ts) h =
              by_choice W (at_next (is_colon now) ts) (labelled texts below part types cases (t ∷ ts)) (unlabelled texts below part types (t ∷ ts)) (t ∷ ts) (λ k. labelled_tells types cases (t ∷ ts)) (λ k. unlabelled_tells t ts k)

      statement_tells : (cases : Bool) → Telling W (statement texts below part cases types)
      unfolding statement
      statement_tells cases = choosing W (is_name now) _ _ (name_tells cases) (keyword_tells cases types _ (evaluated_tells types))

      -- behind the first token of a declaration without room
      crowded_tells : (A : Type 0) (t : Token) (ts : List Token) → Tells W (t ∷ ts) (crowded {A = A} now t ts)
      crowded_tells A t ts = by_bare (notes.is_bare now t) refl
        where
          stops : (n : ℕ) → IsUnitReason texts (t ∷ []) ts n → Tells W {A = A} (t ∷ ts) (stop n (length ts))
          stops n why = record { front = t ∷ []; bad = ts; split = refl; left_is = refl; why = why }

          bad_note : IsBadArguments now (t ∷ []) ts → IsUnitReason texts (t ∷ []) ts bad_arguments
          bad_note r = in_declaration [] (t ∷ []) bad_arguments refl (in_notes types bearer.Function [] (t ∷ []) bad_arguments refl (other_arguments r))

          opened : notes.is_bare now t ≡ true → at_next (is_open now) ts ≡ true → Tells W {A = A} (t ∷ ts) (stop bad_arguments (length ts))
          opened h k = let o = next_is (is_open now) ts k in stops bad_arguments (bad_note (takes_nothing [] o.1 t o.0 refl o.2 h o.3))

          behind_note : notes.is_bare now t ≡ false → is_listed now t ≡ true → (us : List Token) → ts ≡ us → Tells W {A = A} (t ∷ ts) (choose (is_open now) (refuse too_deep) (choose (λ s. true) (refuse bad_arguments) (refuse unexpected)) us)
          behind_note h l [] e = subst (λ z. Tells W {A = A} (t ∷ ts) (stop unexpected (length z))) e (stops unexpected no_text)
          behind_note h l (s ∷ us) e = by_open (is_open now s) refl
            where
              by_open : (b : Bool) → is_open now s ≡ b → Tells W {A = A} (t ∷ ts) (if b then stop too_deep (length (s ∷ us)) else stop bad_arguments (length (s ∷ us)))
              by_open true k = subst (λ z. Tells W {A = A} (t ∷ ts) (stop too_deep (length z))) e (stops too_deep (deeper_note types [] us t s refl e l k))
              by_open false k = subst (λ z. Tells W {A = A} (t ∷ ts) (stop bad_arguments (length z))) e (stops bad_arguments (bad_note (takes_something [] us t s refl e l h k)))

          behind_type : Tells W {A = A} (t ∷ ts) (choose (is_keyword now keyword.Volatile) (refuse volatile) (choose (goes_on_type now) (refuse too_deep) (refuse unexpected)) ts)
          behind_type =
              by_choice W (at_next (is_keyword now keyword.Volatile) ts) (stop volatile (length ts)) (choose (goes_on_type now) (refuse too_deep) (refuse unexpected) ts) (t ∷ ts)
              (λ k. let s = next_is (is_keyword now keyword.Volatile) ts k in stops volatile (in_declaration [] (t ∷ []) volatile refl (feature types 7 s.0 s.1 s.2 s.3)))
              (λ k. by_choice W (at_next (goes_on_type now) ts) (stop too_deep (length ts)) (stop unexpected (length ts)) (t ∷ ts)
              (λ l. let s = next_is (goes_on_type now) ts l in stops too_deep (deeper_type types [] s.1 t s.0 refl s.2 s.3)) (λ l. stops unexpected no_text))

          at_bare : notes.is_bare now t ≡ true → Tells W {A = A} (t ∷ ts) (choose (is_open now) (refuse bad_arguments) (barred now seat.Scope) ts)
          at_bare h =
              by_choice W (at_next (is_open now) ts) (stop bad_arguments (length ts)) (barred now seat.Scope ts) (t ∷ ts) (λ k. opened h k)
              (λ k. tells_behind W (t ∷ []) ts (barred now seat.Scope ts) (lifted ts (barred now seat.Scope ts) (barred_telling texts types A seat.Scope ts)))

          by_listed : notes.is_bare now t ≡ false → (b : Bool) → is_listed now t ≡ b → Tells W {A = A} (t ∷ ts) ((if b then choose (is_open now) (refuse too_deep) (choose (λ s. true) (refuse bad_arguments) (refuse unexpected))
              else choose (is_keyword now keyword.Volatile) (refuse volatile) (choose (goes_on_type now) (refuse too_deep) (refuse unexpected))) ts)
          by_listed h true k = behind_note h k ts refl
          by_listed h false k = behind_type

          by_bare : (b : Bool) → notes.is_bare now t ≡ b → Tells W {A = A} (t ∷ ts) ((if b then choose (is_open now) (refuse bad_arguments) (barred now seat.Scope)
              else (if is_listed now t then choose (is_open now) (refuse too_deep) (choose (λ s. true) (refuse bad_arguments) (refuse unexpected))
              else choose (is_keyword now keyword.Volatile) (refuse volatile) (choose (goes_on_type now) (refuse too_deep) (refuse unexpected)))) ts)
          by_bare true h = at_bare h
          by_bare false h = by_listed h (is_listed now t) refl

    -- ---- items of blocks

    module _ (b : Body) where
      abbrev outer : Lexicon
      outer = reading texts b.types

      declaration_item_tells : Telling W (declaration_item texts below part b)
      unfolding declaration_item
      declaration_item_tells = mapping W (declared texts below part b.types) _ (declared_tells b.types)

      statement_item_tells : (cases : Bool) → Telling W (statement_item texts below part cases b)
      unfolding statement_item
      statement_item_tells cases = mapping W (statement texts below part cases b.types) _ (statement_tells b.types cases)

      named_tells : (t : Token) (ts : List Token) → at_next (is_colon outer) ts ≡ false → Tells W (t ∷ ts) (named_declaration texts below part b (t ∷ ts))
      unfolding named_declaration
      named_tells t ts k =
          by_choice W (is_unlisted outer t) (only_label unknown_before outer (t ∷ ts))
          (choose (is_misplaced outer) (only_label (misplaced_before 1) outer) (choose (λ t. nat_lt below (room_for outer t)) (token unexpected (is_name outer) >>= crowded outer) (declaration_item texts below part b)) (t ∷ ts)) (t ∷ ts)
          (λ h. alone_tells b.types Body unknown_before t ts (no_annotation b.types [] t refl h k))
          (λ h. by_choice W (is_misplaced outer t) (only_label (misplaced_before 1) outer (t ∷ ts))
          (choose (λ t. nat_lt below (room_for outer t)) (token unexpected (is_name outer) >>= crowded outer) (declaration_item texts below part b) (t ∷ ts)) (t ∷ ts)
          (λ h. alone_tells b.types Body (misplaced_before 1) t ts (no_place b.types [] t refl h k))
          (λ h. by_choice W (nat_lt below (room_for outer t)) (and_then (token unexpected (is_name outer) (t ∷ ts)) (crowded outer)) (declaration_item texts below part b (t ∷ ts)) (t ∷ ts)
          (λ l. token_turn W (is_name outer) (crowded outer) (λ u m rest. crowded_tells b.types Body u rest) (t ∷ ts)) (λ l. declaration_item_tells (t ∷ ts))))

      named_item_tells : (cases : Bool) → TellingAt W (is_name outer) (named_item texts below part cases b)
      unfolding named_item
      named_item_tells cases = barring b.types cases (is_name outer) (is_zero below) _ (by_name_kind b.types cases) by_second
        where
          by_second : TellingAt W (is_name outer) (choose_second (is_colon outer) (statement_item texts below part cases b) (named_declaration texts below part b))
          by_second [] h = absurd (cc h)
          by_second (t ∷ ts) h =
              by_choice W (at_next (is_colon outer) ts) (statement_item texts below part cases b (t ∷ ts)) (named_declaration texts below part b (t ∷ ts)) (t ∷ ts) (λ k. statement_item_tells cases (t ∷ ts)) (λ k. named_tells t ts k)

      item_tells : (cases : Bool) → Telling W (item texts below part cases b)
      unfolding item
      item_tells cases =
          choosing W (names_declaration outer) _ _ (λ ts h. named_item_tells cases ts (its_name ts h)) (choosing_any W (begins_declaration outer) _ _ declaration_item_tells (statement_item_tells cases))
        where
          its_name : (ts : List Token) → at_next (names_declaration outer) ts ≡ true → at_next (is_name outer) ts ≡ true
          its_name [] h = absurd (cc h)
          its_name (t ∷ ts) h = and_second (begins_declaration outer t) (is_name outer t) h

    whole_tells : TellingStatements (whole_parts texts below part)
    whole_tells = record { statement = λ cases types. statement_tells types cases; block = λ cases types. block_tells types cases; item = λ cases b. item_tells b cases; first = first_tells }

  -- ---- every depth

  no_room_tells : TellingStatements (statements texts zero)
  unfolding statements
  no_room_tells = record {
    statement = λ cases types. choosing W (begins_statement (reading texts types) cases) _ _ (refusing_deep types StmtTree cases _ (λ t h. h)) (refusing W StmtTree);
    block = λ cases types. choosing W (is_open_brace (reading texts types)) _ _ (refusing_deep types StmtTree cases _ (by_brace_kind types cases)) (refusing W StmtTree);
    item = λ cases b. choosing W (begins_statement (reading texts b.types) cases) _ _ (refusing_deep b.types Body cases _ (λ t h. h)) (lift _ (barred_telling texts b.types Body seat.Scope));
    first = λ types.
        choosing W (λ t. is_semicolon (reading texts types) t || begins_expr (reading texts types) t) _ _ (refusing_deep types First false _ (by_expr_kind types false)) (lift _ (barred_telling texts types First seat.Scope));
  }

  pub statements_tell : (left : ℕ) → TellingStatements (statements texts left)
  unfolding statements
  statements_tell zero = no_room_tells
  statements_tell (suc below) = whole_tells below (statements texts below) (statements_tell below)
