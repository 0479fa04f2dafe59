-- The reader of a statement that begins with a name keeps the laws: a label by its colon, or an expression.
use Rattle.std.proofs.Common.{◌≡◌, ◌≤◌, ◌⊎◌, ℕ, zero, suc, Bool, true, false, ◌||◌, not, List, [], ◌∷◌, ◌++◌, length, Option, Some, None, is_some, if◌then◌else◌, refl, sym, ap, ◌∙◌, subst₂, inl, inr, arith}
use Rattle.std.specs.Option.{option_map_or}
use Rattle.sb_base.specs.declared.interning.Name.{Name}
use Rattle.sb_base.specs.declared.refusals.Place.{Place}
use Rattle.sb_base.specs.declared.tokens.PpKind.{PpKind}
use Rattle.sb_base.specs.declared.tokens.PpKind.TheVariants as kind
use Rattle.sb_base.specs.declared.tokens.Token.{Token}
use Rattle.sb_parse.specs.Parser.{done, stop, at_next, and_then, ◌>>=◌, pure, refuse, token, taken_as, choose}
use Rattle.sb_parse.specs.Lawful.{Lawful, OnHead, Begun, Opened, Mapped, Unbarred, Either}
use Rattle.sb_parse.proofs.Joining.{via, map_of}
use Rattle.sb_parse.proofs.Heads.{head_via, guarded, choice_of}
use Rattle.sb_sign.specs.declared.sign.Keyword.{Keyword}
use Rattle.sb_sign.specs.declared.sign.Mark.TheVariants as mark
use Rattle.sb_sign.specs.Signs as sign
use Rattle.sb_tree.specs.Trees as tree
use Rattle.sb_tree.specs.Trees.{ExprTree, StmtTree, depth_of_stmt}
use Rattle.sb_expr.specs.Expression.{Infix, Sequence, IsExpr, is_operand, is_primary, is_postfix, is_uncast, is_tighter, is_infix, is_chosen, is_assigned}
use Rattle.sb_lexicon.specs.Lexicon.{Lexicon, name_of, is_type_name, begins_type, is_among, operand_of, named_operand}
use Rattle.sb_expr.specs.Readers.{expr_reader}
use Rattle.sb_lexicon.specs.Tokens.{unexpected, too_deep, unknown_before, is_zero, is_colon, begins_expr}
use Rattle.sb_expr.proofs.tokens.Begins.{expr_begins, begins_with_no_type}
use Rattle.sb_lexicon.proofs.Depths.{room_is}
use Rattle.sb_expr.proofs.tokens.Ends.{colon_ends}
use Rattle.sb_lexicon.proofs.Lexemes.{mark_is, mark_alone}
use Rattle.sb_lexicon.proofs.Marks.{colon_token, colon_token_is}
use Rattle.sb_parse.proofs.Seconds.{behind, Behind, behind_law, second_of}
use Rattle.sb_parse.proofs.Ways.{first_fails, second_fails, or_second, and_first, only_else, Refuses}
use Rattle.sb_sal.specs.Spellings.{begins_note, is_listed, is_unlisted}
use Rattle.sb_parse.proofs.Partly.{opened_head}
use Rattle.sb_specifier.specs.Specified.{reading}
use Rattle.sb_specifier.specs.Readers.{is_name, name_at}
use Rattle.sb_specifier.proofs.laws.Names.{name_is, named_at, at_name}
use Rattle.sb_statement.specs.Readers.{Parts, evaluated, labelled, only_label, unlabelled, by_name}
use Rattle.sb_statement.specs.Statement.{is_empty, is_label, is_expression, IsEvaluated}
use Rattle.sb_statement.proofs.laws.Fits.{more_statement, FitsStatement, LawfulStatements}
use Rattle.sb_statement.proofs.laws.Expressions.{semicolon_token, semicolon_token_is, semicolon_ends, expr_law, EvaluatedText, evaluated_law, evaluated_heads, to_evaluated, from_evaluated}

-- ---- a name is an operand

word_operand : (k : PpKind) (name n : Name) (o : Option Keyword) → sign.name_by k name o ≡ Some n → (sign.is_number_kind k ≡ false) × (sign.is_text_kind k ≡ false)
word_operand kind.Word name n o e = (refl, refl)
word_operand _ name n o e = absurd (cc e)

pub name_operand : (texts : List (List ℕ)) (types : List Name) (t : Token) (n : Name) → name_of (reading texts types) t ≡ Some n → is_type_name (reading texts types) t ≡ false
    → operand_of (reading texts types) t ≡ Some (tree.Identifier n t.place)
name_operand texts types t n e free =
    let kinds = word_operand t.kind t.text n (sign.keyword_of texts t) e in
    let off : is_among n types ≡ false = sym (ap (λ o. option_map_or (λ m. is_among m types) o false) e) ∙ free in
    ap (λ b. if b then Some (tree.Number t.text t.value t.place) else (if sign.is_text_kind t.kind then Some (tree.Text t.text t.place) else named_operand (reading texts types) t.place (name_of (reading texts types) t))) kinds.0
    ∙ ap (λ b. if b then Some (tree.Text t.text t.place) else named_operand (reading texts types) t.place (name_of (reading texts types) t)) kinds.1 ∙ ap (named_operand (reading texts types) t.place) e
    ∙ ap (λ b. if b then None else Some (tree.Identifier n t.place)) off

module _ (texts : List (List ℕ)) (below : ℕ) (part : Parts) (types : List Name) (cases : Bool) where
  abbrev w : Lexicon
  w = reading texts types

  tighter : (t : Token) (e : ExprTree) → operand_of w t ≡ Some e → (k : ℕ) → IsExpr w (Infix k) (t ∷ []) e
  tighter t e h zero = is_uncast (t ∷ []) e (is_postfix (t ∷ []) e (is_primary (t ∷ []) e (is_operand t e h)))
  tighter t e h (suc k) = is_tighter k (t ∷ []) e (tighter t e h k)

  alone : (t : Token) (e : ExprTree) → operand_of w t ≡ Some e → IsExpr w Sequence (t ∷ []) e
  alone t e h = is_assigned (t ∷ []) e (is_chosen (t ∷ []) e (is_infix (t ∷ []) e (tighter t e h 10)))

  abbrev pub LabelText : List Token → StmtTree → Type 0
  LabelText = Begun (name_at w) (λ n. Opened (is_colon w) (λ c. Mapped (λ s. tree.Label n.0 s n.1) (FitsStatement texts below cases types)))

  -- an expression that begins with a name
  abbrev pub PlainText : List Token → StmtTree → Type 0
  PlainText ts s = EvaluatedText texts below part types ts s × (at_next (is_name w) ts ≡ true) × (at_next (begins_note w) ts ≡ false)

  abbrev pub NamedText : List Token → StmtTree → Type 0
  NamedText = Unbarred (is_zero below) (Either LabelText PlainText)

  label_begins : (ts : List Token) (s : StmtTree) → LabelText ts s → at_next (is_name w) ts ≡ true
  label_begins ts s b = ap (at_next (is_name w)) b.split ∙ ap is_some (named_at w b.opening b.value b.gives_it).0

  pub text_begins_named : (ts : List Token) (s : StmtTree) → Either LabelText PlainText ts s → at_next (is_name w) ts ≡ true
  text_begins_named ts s (inl b) = label_begins ts s b
  text_begins_named ts s (inr p) = p.1

  module _ (some : 1 ≤ below) (S : LawfulStatements texts below part) where
    -- ---- behind a name

    module _ (o : Token) (named : is_name w o ≡ true) where
      pub its_name : (n : Name) × (name_of w o ≡ Some n)
      its_name = name_is w o named

      abbrev ColonText : List Token → StmtTree → Type 0
      ColonText = Opened (is_colon w) (λ c. Mapped (λ s. tree.Label its_name.0 s o.place) (FitsStatement texts below cases types))

      to_label : (ts : List Token) (s : StmtTree) → ColonText ts s → LabelText (o ∷ ts) s
      to_label ts s c = record { opening = o; value = (its_name.0, o.place); rest = ts; split = refl; gives_it = at_name w o its_name.0 its_name.1; is = c }

      from_label : (ts : List Token) (s : StmtTree) → LabelText (o ∷ ts) s → ColonText ts s
      from_label ts s b =
          let head : b.opening ≡ o = cc b.split in
          let tail : b.rest ≡ ts = cc b.split in
          let both : Some b.value ≡ Some (its_name.0, o.place) = sym b.gives_it ∙ ap (name_at w) head ∙ at_name w o its_name.0 its_name.1 in
          let value : b.value ≡ (its_name.0, o.place) = cc both in
          subst₂ (λ z (v : Name × Place). Opened (is_colon w) (λ c. Mapped (λ s. tree.Label v.0 s v.1) (FitsStatement texts below cases types)) z s) tail value b.is

      pub colon_head : OnHead (is_colon w) (Behind o LabelText) (more_statement texts) (behind o (labelled texts below part types cases))
      unfolding labelled
      colon_head =
          head_via (opened_head unexpected (is_colon w) (is_colon w) (λ c h. h) (λ c h. map_of (S.statement cases types) (λ s. tree.Label its_name.0 s o.place) (more_statement texts) (λ s u. refl))) to_label from_label
          (behind o (labelled texts below part types cases))
          (λ ts. ap (λ z. and_then (taken_as unexpected z ts) (λ n. token unexpected (is_colon w) >>= (λ c. part.statement cases types >>= (λ s. pure (tree.Label n.0 s n.1))))) (at_name w o its_name.0 its_name.1))

      pub a_label : LabelText (o ∷ (colon_token ∷ (semicolon_token ∷ []))) (tree.Label its_name.0 (tree.Evaluate tree.NoExpr semicolon_token.place) o.place)
      a_label = to_label (colon_token ∷ (semicolon_token ∷ [])) (tree.Label its_name.0 (tree.Evaluate tree.NoExpr semicolon_token.place) o.place) (record {
        opening = colon_token;
        rest = semicolon_token ∷ [];
        split = refl;
        passes = colon_token_is w;
        is = record { value = tree.Evaluate tree.NoExpr semicolon_token.place; is = (is_empty cases types semicolon_token (semicolon_token_is w), some); same = refl };
      })

      abbrev Law : Type 0
      Law = Lawful (Behind o (Either LabelText PlainText)) (more_statement texts) (choose (is_colon w) (behind o (labelled texts below part types cases)) (behind o (unlabelled texts below part types)))

      -- no expression begins with the name of a type or of an annotation
      only_labels : ((ts : List Token) → Refuses (behind o (unlabelled texts below part types)) ts) → (begins_note w o ≡ true) ⊎ (is_type_name w o ≡ true) → Law
      only_labels refuses off =
          via (only_else (behind o (unlabelled texts below part types)) colon_head refuses (colon_token ∷ (semicolon_token ∷ [])) (tree.Label its_name.0 (tree.Evaluate tree.NoExpr semicolon_token.place) o.place) a_label)
          (λ ts s is. inl is) (λ ts s is. no_plain ts s off is) (choose (is_colon w) (behind o (labelled texts below part types cases)) (behind o (unlabelled texts below part types))) (λ ts. refl)
        where
          no_plain : (ts : List Token) (s : StmtTree) → (begins_note w o ≡ true) ⊎ (is_type_name w o ≡ true) → Either LabelText PlainText (o ∷ ts) s → LabelText (o ∷ ts) s
          no_plain ts s off (inl is) = is
          no_plain ts s (inl note) (inr p) = absurd (let both : true ≡ false = sym note ∙ p.2 in cc both)
          no_plain ts s (inr type) (inr p) =
              let c = p.0.is in
              let none : at_next (begins_type w) (o ∷ ts) ≡ false = ap (at_next (begins_type w)) c.split ∙ begins_with_no_type w Sequence c.front p.0.value.0 (c.closing ∷ []) c.is.0.0 in
              absurd (let both : true ≡ false = sym (or_second _ (is_type_name w o) type) ∙ none in cc both)

      -- the reader refuses behind the name, by the token there
      refused_as : (n : ℕ) → (x : List Token) → only_label {A = StmtTree} n w (o ∷ x) ≡ stop n (length x)
      unfolding only_label
      refused_as n x = ap (λ b. and_then (if b then done o x else stop unexpected (length (o ∷ x))) (λ t. refuse {A = StmtTree} n)) named

      unlisted_refuses : is_unlisted w o ≡ true → (ts : List Token) → Refuses (behind o (unlabelled texts below part types)) ts
      unfolding unlabelled
      unlisted_refuses h ts = record {
        number = unknown_before;
        halts = λ x e.
            ap (λ b. if b then only_label unknown_before w (o ∷ x)
            else choose (λ t. begins_note w t || is_type_name w t) (only_label unexpected w) (evaluated texts below part types) (o ∷ x)) h ∙ refused_as unknown_before x;
      }

      label_refuses : is_unlisted w o ≡ false → (begins_note w o || is_type_name w o) ≡ true → (ts : List Token) → Refuses (behind o (unlabelled texts below part types)) ts
      unfolding unlabelled
      label_refuses h k ts = record {
        number = unexpected;
        halts = λ x e.
            ap (λ b. if b then only_label unknown_before w (o ∷ x)
            else choose (λ t. begins_note w t || is_type_name w t) (only_label unexpected w) (evaluated texts below part types) (o ∷ x)) h
            ∙ ap (λ b. if b then only_label unexpected w (o ∷ x) else evaluated texts below part types (o ∷ x)) k ∙ refused_as unexpected x;
      }

      -- ---- a name that begins an expression

      module _ (unlisted : is_unlisted w o ≡ false) (plain : (begins_note w o || is_type_name w o) ≡ false) where
        no_note : begins_note w o ≡ false
        no_note = first_fails (begins_note w o) (is_type_name w o) plain

        operand : operand_of w o ≡ Some (tree.Identifier its_name.0 o.place)
        operand = name_operand texts types o its_name.0 its_name.1 (second_fails (begins_note w o) (is_type_name w o) plain)

        an_expression : IsExpr w Sequence (o ∷ []) (tree.Identifier its_name.0 o.place)
        an_expression = alone o (tree.Identifier its_name.0 o.place) operand

        plain_tree : StmtTree
        plain_tree = tree.Evaluate (tree.AnExpr (tree.Identifier its_name.0 o.place)) o.place

        plain_text : EvaluatedText texts below part types (o ∷ (semicolon_token ∷ [])) plain_tree
        unfolding plain_tree
        plain_text = record {
          value = (tree.Identifier its_name.0 o.place, o ∷ []);
          is = record { front = o ∷ []; closing = semicolon_token; split = refl; is = ((an_expression, some), refl); passes = semicolon_token_is w };
          same = refl;
        }

        not_empty : (s : StmtTree) → EvaluatedText texts below part types [] s → ⊥
        not_empty s m = let none : false ≡ true = evaluated_heads texts below part types [] s m in cc none

        same_reader : (ts : List Token) → behind o (unlabelled texts below part types) ts ≡ behind o (evaluated texts below part types) ts
        unfolding unlabelled
        same_reader ts =
            ap (λ b. if b then only_label unknown_before w (o ∷ ts)
            else choose (λ t. begins_note w t || is_type_name w t) (only_label unexpected w) (evaluated texts below part types) (o ∷ ts)) unlisted
            ∙ ap (λ b. if b then only_label unexpected w (o ∷ ts) else evaluated texts below part types (o ∷ ts)) plain

        plain_law : Lawful (Behind o PlainText) (more_statement texts) (behind o (unlabelled texts below part types))
        plain_law =
            via (behind_law (evaluated_law texts below part types some) not_empty o (semicolon_token ∷ []) plain_tree plain_text) (λ ts s m. (m, named, no_note)) (λ ts s m. m.0) (behind o (unlabelled texts below part types)) same_reader

        -- behind the name alone no expression goes on with a colon
        no_colon : (c : Token) (ts : List Token) (s : StmtTree) → is_colon w c ≡ true → EvaluatedText texts below part types (o ∷ (c ∷ ts)) s → ⊥
        no_colon c ts s h m =
            let k = m.is in
            let law = expr_law w below Sequence some in
            let name_read : expr_reader w below Sequence (o ∷ (c ∷ ts)) ≡ done (tree.Identifier its_name.0 o.place) (c ∷ ts) =
            law.complete (o ∷ []) (tree.Identifier its_name.0 o.place) (c ∷ ts) (an_expression, some) (colon_ends w c h (tree.Identifier its_name.0 o.place)) in
            let whole_read : expr_reader w below Sequence (k.front ++ (k.closing ∷ [])) ≡ done m.value.0 (k.closing ∷ []) =
            law.complete k.front m.value.0 (k.closing ∷ []) k.is.0 (semicolon_ends w k.closing k.passes m.value.0) in
            let both : done (tree.Identifier its_name.0 o.place) (c ∷ ts) ≡ done m.value.0 (k.closing ∷ []) = sym name_read ∙ ap (expr_reader w below Sequence) k.split ∙ whole_read in
            let same : c ≡ k.closing = cc both in
            let clash : true ≡ false = sym h ∙ ap (is_colon w) same ∙ mark_alone w mark.Semicolon mark.Colon k.closing (mark_is w mark.Semicolon k.closing k.passes) refl in
            cc clash

        alone_is_none : (s : StmtTree) → EvaluatedText texts below part types (o ∷ []) s → ⊥
        alone_is_none s m = go m.is.front m.is.split (expr_begins w Sequence m.is.front m.value.0 m.is.is.0.0)
          where
            go : (front : List Token) → o ∷ [] ≡ front ++ (m.is.closing ∷ []) → at_next (begins_expr w) front ≡ true → ⊥
            go [] e h = cc h
            go (x ∷ []) e h = cc e
            go (x ∷ (y ∷ front)) e h = cc e

        second_apart : (ts : List Token) (s : StmtTree) (rest : List Token) → Behind o PlainText ts s → at_next (more_statement texts s) rest ≡ false → at_next (is_colon w) (ts ++ rest) ≡ false
        second_apart [] s rest p e = absurd (alone_is_none s p.0)
        second_apart (c ∷ ts) s rest p e = by_test (is_colon w c) refl
          where
            by_test : (b : Bool) → is_colon w c ≡ b → b ≡ false
            by_test false k = refl
            by_test true k = absurd (no_colon c ts s k p.0)

        either_law : Law
        either_law = choice_of {First = Behind o LabelText} {Second = Behind o PlainText} colon_head plain_law second_apart

      behind_name : Law
      behind_name = by_unlisted (is_unlisted w o) refl
        where
          by_kind : (b : Bool) → is_unlisted w o ≡ false → (begins_note w o || is_type_name w o) ≡ b → Law
          by_kind false h k = either_law h k
          by_kind true h k = only_labels (label_refuses h k) (either (begins_note w o) (is_type_name w o) k)
            where
              either : (b c : Bool) → (b || c) ≡ true → (b ≡ true) ⊎ (c ≡ true)
              either true c e = inl refl
              either false c e = inr e

          by_unlisted : (b : Bool) → is_unlisted w o ≡ b → Law
          by_unlisted true h = only_labels (unlisted_refuses h) (inl (and_first (begins_note w o) (not (is_listed w o)) h))
          by_unlisted false h = by_kind (begins_note w o || is_type_name w o) h refl

  pub name_head : (1 ≤ below → LawfulStatements texts below part) → OnHead (is_name w) NamedText (more_statement texts) (by_name texts below part cases types)
  unfolding by_name
  name_head S =
      guarded (is_zero below) too_deep (λ room.
      second_of {p = labelled texts below part types cases} {q = unlabelled texts below part types} (λ o h. behind_name (room_is below room) (S (room_is below room)) o h) text_begins_named)

  -- ---- in the grammar's words

  abbrev Fits : List Token → StmtTree → Type 0
  Fits = FitsStatement texts (suc below) cases types

  pub to_named : (ts : List Token) (s : StmtTree) → NamedText ts s → Fits ts s
  to_named ts s u = go u.is
    where
      go : Either LabelText PlainText ts s → Fits ts s
      go (inr p) = let f = to_evaluated texts below part types ts s p.0 p.2 in (is_expression cases types ts s f.0, f.1)
      go (inl b) =
          let c = b.is in
          let m = c.is in
          let n : (name_of w b.opening ≡ Some b.value.0) × (b.value.1 ≡ b.opening.place) = named_at w b.opening b.value b.gives_it in
          let deep : depth_of_stmt m.value ≤ below = m.is.1 in
          subst₂ Fits (sym (b.split ∙ ap (λ z. b.opening ∷ z) c.split)) (sym (m.same ∙ ap (λ z. tree.Label b.value.0 m.value z) n.1))
          (is_label cases types b.opening c.opening b.value.0 c.rest m.value n.0 c.passes m.is.0, omega arith)

  pub from_label_statement : (t c : Token) (n : Name) (ts : List Token) (s : StmtTree) → is_zero below ≡ false → name_of w t ≡ Some n → is_colon w c ≡ true → FitsStatement texts below cases types ts s
      → NamedText (t ∷ (c ∷ ts)) (tree.Label n s t.place)
  from_label_statement t c n ts s room named colon is = record {
    open_way = room;
    is = inl (record { opening = t; value = (n, t.place); rest = c ∷ ts; split = refl; gives_it = at_name w t n named; is = record { opening = c; rest = ts; split = refl; passes = colon; is = record { value = s; is = is; same = refl } } });
  }

  pub from_plain : (ts : List Token) (s : StmtTree) → is_zero below ≡ false → IsEvaluated w ts s → depth_of_stmt s ≤ suc below → at_next (is_name w) ts ≡ true → NamedText ts s
  from_plain ts s room is le named = let e = from_evaluated texts below part types ts s is le in record { open_way = room; is = inr (e.0, named, e.1) }
