-- The reader of the first part of a `for` keeps the laws.
use Rattle.std.proofs.Common.{◌≡◌, ◌≤◌, ℕ, zero, suc, Bool, true, false, ◌||◌, List, [], ◌∷◌, ◌++◌, Some, refl, sym, ap, ◌∙◌, subst, subst₂, inl, inr, arith}
use Rattle.sb_base.specs.declared.interning.Name.{Name}
use Rattle.sb_base.specs.declared.tokens.PpKind.TheVariants as kind
use Rattle.sb_base.specs.declared.tokens.Token.{Token}
use Rattle.sb_parse.specs.Parser.{Parser, at_next, never, and_then, ◌>>=◌, pure, choose}
use Rattle.sb_parse.specs.Lawful.{Lawful, OnHead, IsEmpty, Opened, Mapped, Either}
use Rattle.sb_parse.proofs.Joining.{via, map_of, nothing}
use Rattle.sb_parse.proofs.Heads.{head_map_of}
use Rattle.sb_sign.specs.declared.sign.Mark.TheVariants as mark
use Rattle.sb_tree.specs.Trees as tree
use Rattle.sb_tree.specs.Trees.{ExprTree, StmtTree, depth_of_expr, depth_of_optional_stmt}
use Rattle.sb_expr.specs.Expression.{Infix, Sequence, IsExpr, is_operand, is_primary, is_postfix, is_uncast, is_tighter, is_infix, is_chosen, is_assigned}
use Rattle.sb_lexicon.specs.Lexicon.{Lexicon, operand_of, is_type_name, begins_type}
use Rattle.sb_lexicon.specs.Tokens.{unexpected, begins_expr}
use Rattle.sb_lexicon.specs.Outcomes.{nowhere}
use Rattle.sb_parse.proofs.Ways.{Refuses, goes_on_where, second_fails}
use Rattle.sb_expr.proofs.tokens.Begins.{begins_with_no_type}
use Rattle.sb_sal.specs.Spellings.{begins_note}
use Rattle.sb_parse.proofs.Partly.{Partly, as_partly, partly_via, with_text, refusing, choosing, opened_head}
use Rattle.sb_specifier.specs.Specified.{reading}
use Rattle.sb_specifier.specs.Readers.{is_semicolon, is_name, is_specifier_word, begins_declaration}
use Rattle.sb_parse.proofs.Choices.{Elsewhere, hiding}
use Rattle.sb_statement.specs.Readers.{First, Parts, semicolon, evaluated, declared, first}
use Rattle.sb_statement.specs.Statement.{IsFirst, no_first, an_expression, a_declaration}
use Rattle.sb_statement.proofs.laws.Chains.{AMark, sign_begins_none, sign_declares_none, heads_no_declaration}
use Rattle.sb_statement.proofs.laws.Fits.{more_statement, FitsFirst}
use Rattle.sb_statement.proofs.laws.Expressions.{semicolon_token, semicolon_token_is, EvaluatedText, evaluated_law, evaluated_refuses, evaluated_heads, no_evaluated, to_evaluated, from_evaluated}
use Rattle.sb_statement.proofs.tokens.Names.{name_specifies_none}
use Rattle.sb_statement.proofs.laws.Declarations.{DeclaredText, declared_head, text_begins, to_declared, from_declared}

number_token : Token
number_token = record { kind = kind.Number; text = record { 0 = 0 }; place = nowhere; value = 0 }

number_tree : ExprTree
number_tree = tree.Number number_token.text 0 nowhere

number_token_is : (w : Lexicon) → operand_of w number_token ≡ Some number_tree
unfolding number_token number_tree
number_token_is w = refl

number_declares_none : (w : Lexicon) → begins_declaration w number_token ≡ false
unfolding number_token
number_declares_none w = refl

number_flat : depth_of_expr number_tree ≡ 1
unfolding number_tree
number_flat = refl

module _ (texts : List (List ℕ)) (below : ℕ) (part : Parts) (types : List Name) where
  abbrev w : Lexicon
  w = reading texts types

  abbrev evaluating : StmtTree → First
  evaluating s = record { first = tree.AStmt s; types = types }

  abbrev declaring : StmtTree × List Name → First
  declaring d = record { first = tree.AStmt d.0; types = d.1 }

  abbrev EmptyText : List Token → First → Type 0
  EmptyText = Opened (is_semicolon w) (λ c. IsEmpty (record { first = tree.NoStmt; types = types }))

  abbrev DeclaringText : List Token → First → Type 0
  DeclaringText = Mapped declaring (DeclaredText texts below part types)

  abbrev EvaluatingText : List Token → First → Type 0
  EvaluatingText = Mapped evaluating (EvaluatedText texts below part types)

  abbrev LaterText : List Token → First → Type 0
  LaterText = Either DeclaringText (Elsewhere (begins_declaration w) EvaluatingText)

  abbrev FirstText : List Token → First → Type 0
  FirstText = Either EmptyText LaterText

  abbrev later_reader : Parser Token First
  later_reader = choose (begins_declaration w) (declared texts below part types >>= (λ d. pure (declaring d))) (evaluated texts below part types >>= (λ s. pure (evaluating s)))

  declaring_head : OnHead (begins_declaration w) DeclaringText (λ f. never) (declared texts below part types >>= (λ d. pure (declaring d)))
  declaring_head = head_map_of (declared_head texts below part types) declaring (λ f. never) (λ d t. refl)

  -- ---- the number 0 with a semicolon

  tighter : (k : ℕ) → IsExpr w (Infix k) (number_token ∷ []) number_tree
  tighter zero = is_uncast (number_token ∷ []) number_tree (is_postfix (number_token ∷ []) number_tree (is_primary (number_token ∷ []) number_tree (is_operand number_token number_tree (number_token_is w))))
  tighter (suc k) = is_tighter k (number_token ∷ []) number_tree (tighter k)

  a_number : 1 ≤ below → EvaluatedText texts below part types (number_token ∷ (semicolon_token ∷ [])) (tree.Evaluate (tree.AnExpr number_tree) number_token.place)
  a_number some =
      let flat : depth_of_expr number_tree ≡ 1 = number_flat in
      record {
        value = (number_tree, number_token ∷ []);
        is = record {
          front = number_token ∷ [];
          closing = semicolon_token;
          split = refl;
          is = ((is_assigned (number_token ∷ []) number_tree (is_chosen (number_token ∷ []) number_tree (is_infix (number_token ∷ []) number_tree (tighter 10))), omega arith), refl);
          passes = semicolon_token_is w;
        };
        same = refl;
      }

  -- ---- a declaration or an expression

  evaluating_refuses : below ≡ 0 → (ts : List Token) → Refuses (evaluated texts below part types >>= (λ s. pure (evaluating s))) ts
  evaluating_refuses none ts = let it = evaluated_refuses texts below part types none ts in record { number = it.number; halts = λ x e. ap (λ o. and_then o (λ s. pure (evaluating s))) (it.halts x e) }

  later_partly : Partly LaterText (λ f. never) later_reader
  later_partly = by_room below refl
    where
      by_room : (n : ℕ) → below ≡ n → Partly LaterText (λ f. never) later_reader
      by_room zero h =
          partly_via (choosing declaring_head (refusing (λ f. never) (evaluated texts below part types >>= (λ s. pure (evaluating s))) (evaluating_refuses h)) (λ ts f rest none e. absurd none)) to from later_reader (λ ts. refl)
        where
          to : (ts : List Token) (f : First) → Either DeclaringText (λ xs g. ⊥) ts f → LaterText ts f
          to ts f (inl d) = inl d
          to ts f (inr none) = absurd none

          from : (ts : List Token) (f : First) → LaterText ts f → Either DeclaringText (λ xs g. ⊥) ts f
          from ts f (inl d) = inl d
          from ts f (inr e) = absurd (no_evaluated texts below part types h ts e.0.value e.0.is)
      by_room (suc n) h =
          let some : 1 ≤ below = subst (λ z. 1 ≤ z) (sym h) (omega arith) in
          as_partly (hiding declaring_head (map_of (goes_on_where (evaluated_law texts below part types some) (λ s. never) (λ ts s m u. sym (ap (λ z. more_statement texts z u) m.same))) evaluating (λ f. never) (λ s t. refl)) filled (number_token ∷ (semicolon_token ∷ [])) (evaluating (tree.Evaluate (tree.AnExpr number_tree) number_token.place))
          (record { value = tree.Evaluate (tree.AnExpr number_tree) number_token.place; is = a_number some; same = refl }, number_declares_none w))
        where
          filled : (f : First) → EvaluatingText [] f → ⊥
          filled f m = let none : false ≡ true = evaluated_heads texts below part types [] m.value m.is in cc none

  -- ---- either, or a semicolon

  head_off : (test : Token → Bool) → ((t : Token) → test t ≡ true → is_semicolon w t ≡ true → true ≡ false) → (ts rest : List Token) → at_next test ts ≡ true → at_next (is_semicolon w) (ts ++ rest) ≡ false
  head_off test off [] rest h = absurd (cc h)
  head_off test off (t ∷ ts) rest h = by_test (is_semicolon w t) refl
    where
      by_test : (b : Bool) → is_semicolon w t ≡ b → b ≡ false
      by_test false k = refl
      by_test true k = absurd (let both : true ≡ false = off t h k in cc both)

  apart : (ts : List Token) (f : First) (rest : List Token) → LaterText ts f → at_next never rest ≡ false → at_next (is_semicolon w) (ts ++ rest) ≡ false
  apart ts f rest (inl d) e = head_off (begins_declaration w) (λ t h k. sym h ∙ sign_declares_none texts types (AMark mark.Semicolon) t refl k) ts rest (text_begins texts below part types ts d.value d.is)
  apart ts f rest (inr m) e = head_off (begins_expr w) (λ t h k. sym h ∙ sign_begins_none texts types (AMark mark.Semicolon) t refl k) ts rest (evaluated_heads texts below part types ts m.0.value m.0.is)

  abbrev Fits : List Token → First → Type 0
  Fits = FitsFirst texts (suc below) types

  no_note : (ts : List Token) → at_next (begins_declaration w) ts ≡ false → at_next (begins_note w) ts ≡ false
  no_note [] h = refl
  no_note (t ∷ ts) h = last_off (is_specifier_word w t) (is_type_name w t) (begins_note w t) h
    where
      last_off : (p q r : Bool) → (p || (q || r)) ≡ false → r ≡ false
      last_off p q false h = refl
      last_off true q true h = absurd (cc h)
      last_off false true true h = absurd (cc h)
      last_off false false true h = absurd (cc h)

  to_first : (ts : List Token) (f : First) → FirstText ts f → Fits ts f
  to_first ts f (inl o) =
      let none : 0 ≤ suc below = omega arith in
      subst₂ Fits (sym (o.split ∙ ap (λ z. o.opening ∷ z) o.is.none)) (sym o.is.same) (no_first o.opening o.passes, none)
  to_first ts f (inr (inl m)) = let d = to_declared texts below part types ts m.value m.is in subst (Fits ts) (sym m.same) (a_declaration ts m.value.0 m.value.1 d.0, d.1)
  to_first ts f (inr (inr m)) = let e = to_evaluated texts below part types ts m.0.value m.0.is (no_note ts m.1) in subst (Fits ts) (sym m.0.same) (an_expression ts m.0.value e.0, e.1)

  expression_off : (ts : List Token) → at_next (begins_expr w) ts ≡ true → at_next (begins_note w) ts ≡ false → at_next (begins_type w) ts ≡ false → at_next (begins_declaration w) ts ≡ false
  expression_off [] h free typed = refl
  expression_off (t ∷ ts) h free typed = by_name (is_name w t) refl
    where
      by_name : (b : Bool) → is_name w t ≡ b → begins_declaration w t ≡ false
      by_name false k = heads_no_declaration texts types [] refl t k h
      by_name true k =
          ap (λ c. c || (is_type_name w t || begins_note w t)) (name_specifies_none texts types below t k) ∙ ap (λ c. c || begins_note w t) (second_fails _ (is_type_name w t) typed) ∙ free

  from_first : (ts : List Token) (f : First) → IsFirst texts types ts f → depth_of_optional_stmt f.first ≤ suc below → FirstText ts f
  from_first _ _ (no_first c h) le = inl (record { opening = c; rest = []; split = refl; passes = h; is = record { none = refl; same = refl } })
  from_first _ _ (a_declaration ts s now is) le = inr (inl (record { value = (s, now); is = from_declared texts below part types ts s now is le; same = refl }))
  from_first _ _ (an_expression ts s is) le =
      let e = from_evaluated texts below part types ts s is le in
      let c = e.0.is in
      let typed : at_next (begins_type w) ts ≡ false = ap (at_next (begins_type w)) c.split ∙ begins_with_no_type w Sequence c.front e.0.value.0 (c.closing ∷ []) c.is.0.0 in
      inr (inr (record { value = s; is = e.0; same = refl }, expression_off ts (evaluated_heads texts below part types ts s e.0) e.1 typed))

  pub first_law : Lawful (FitsFirst texts (suc below) types) (λ f. never) (first texts below part types)
  unfolding first semicolon
  first_law =
      via (with_text (choosing (opened_head unexpected (is_semicolon w) (is_semicolon w) (λ c h. h) (λ c h. nothing (record { first = tree.NoStmt; types = types }))) later_partly apart)
      (semicolon_token ∷ []) (record { first = tree.NoStmt; types = types }) (inl (record { opening = semicolon_token; rest = []; split = refl; passes = semicolon_token_is w; is = record { none = refl; same = refl } })))
      to_first (λ ts f is. from_first ts f is.0 is.1) (first texts below part types) (λ ts. refl)
