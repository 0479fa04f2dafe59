-- What stands in parentheses, a type or an expression: how the second token tells, and the laws of readers that begin with a type in parentheses.
use Rattle.std.proofs.Common.{◌≡◌, ◌≤◌, ℕ, zero, suc, Bool, true, false, ◌||◌, ◌&&◌, max, List, [], ◌∷◌, ◌++◌, Some, is_some, if◌then◌else◌, refl, sym, ap, ◌∙◌, append_assoc, arith}
use Rattle.std.proofs.Math.Nat.{le-max_left}
use Rattle.std.specs.Option.{option_map_or}
use Rattle.sb_base.specs.declared.refusals.Place.{Place}
use Rattle.sb_base.specs.declared.tokens.Token.{Token}
use Rattle.sb_parse.specs.Parser.{at_next, ◌>>=◌, token}
use Rattle.sb_parse.specs.Lawful.{Lawful, OnHead, Opened, Joined}
use Rattle.sb_parse.proofs.Joining.{in_order}
use Rattle.sb_parse.proofs.Heads.{opened, headed, head_of_append, passes_first, passes_second}
use Rattle.sb_sign.specs.declared.sign.Keyword.{Keyword}
use Rattle.sb_sign.specs.declared.sign.Keyword.TheVariants as keyword
use Rattle.sb_sign.specs.declared.sign.Mark.TheVariants as mark
use Rattle.sb_sign.specs.Signs as sign
use Rattle.sb_tree.specs.Trees as tree
use Rattle.sb_tree.specs.Trees.{ExprTree, depth_of_expr}
use Rattle.sb_parse.specs.Descent.{at_second}
use Rattle.sb_expr.specs.Expression.{Primary, Postfix, Prefix, Infix, Sequence, IsExpr, is_uncast, is_tighter, is_infix, is_chosen, is_assigned, is_operand, is_grouped, is_primary, is_indexed, is_called, is_member, is_stepped, is_postfix, is_prefixed, is_stepping, is_size_of_expr, is_size_of_type, IsType, is_type}
use Rattle.sb_lexicon.specs.Specifiers.{IsSpecifier, is_word, is_constant, is_restricted, is_structure, is_enumeration, is_defined, AreSpecifiers, no_specifiers, more_specifiers}
use Rattle.sb_lexicon.specs.Lexicon.{Lexicon, is_type_keyword, is_type_word, is_type_name, begins_type}
use Rattle.sb_operand.specs.Pieces.{Declared}
use Rattle.sb_lexicon.specs.Words.{Said, Nothing, Words, Whole, Specifiers, unspecified, said_after, type_specified}
use Rattle.sb_expr.specs.Readers.{Parts, ExprReader}
use Rattle.sb_lexicon.specs.Tokens.{unexpected, is_open, is_close, begins_expr}
use Rattle.sb_expr.specs.Reads.{FitsType}
use Rattle.sb_expr.proofs.tokens.More.{more_operand, more_type, more_abstract, is_empty, LawfulParts}
use Rattle.sb_lexicon.proofs.Lexemes.{keyword_is, mark_is, mark_no_keyword, close_token, close_token_is}
use Rattle.sb_expr.proofs.tokens.Bracketed.{no_more_at_close}
use Rattle.sb_lexicon.proofs.Marks.{if_so, number_token, number_tree, number_token_is}
use Rattle.sb_expr.proofs.tokens.Begins.{expr_begins, operand_not_open, open_no_prefix, begins_with_no_type}
use Rattle.sb_lexicon.proofs.Depths.{some_depth}
use Rattle.sb_expr.proofs.laws.Arguments.{depth_of_list}
use Rattle.sb_parse.proofs.Seconds.{behind, Behind, behind_law}

-- ---- the first token of a type name

bare_word : (k : Keyword) (place : Place) → (if is_some (said_after k place Nothing) then is_type_keyword k else true) ≡ true
bare_word keyword.Int place = refl
bare_word _ place = refl

module _ (w : Lexicon) where
  one_more_word : (k : Keyword) (place : Place) (s r : Said) → said_after k place s ≡ Some r → is_type_keyword k ≡ true
  one_more_word k place Nothing r h = if_so (is_some (said_after k place Nothing)) (is_type_keyword k) (bare_word k place) (ap is_some h)
  one_more_word keyword.Void place (Words v at) r h = refl
  one_more_word keyword.Bool place (Words v at) r h = refl
  one_more_word keyword.Char place (Words v at) r h = refl
  one_more_word keyword.Int place (Words v at) r h = refl
  one_more_word keyword.Signed place (Words v at) r h = refl
  one_more_word keyword.Unsigned place (Words v at) r h = refl
  one_more_word keyword.Short place (Words v at) r h = refl
  one_more_word keyword.Long place (Words v at) r h = refl
  one_more_word _ place (Words v at) r h = absurd (cc h)
  one_more_word k place (Whole t) r h = absurd (cc h)

  word_begins : (k : Keyword) (t : Token) (rest : List Token) → sign.keyword_of w.texts t ≡ Some k → is_type_keyword k ≡ true → at_next (begins_type w) (t ∷ rest) ≡ true
  word_begins k t rest h good = passes_first (is_type_word w) (is_type_name w) (t ∷ rest) (ap (λ o. option_map_or is_type_keyword o false) h ∙ good)

  specifier_begins : (s r : Specifiers) (xs : List Token) → IsSpecifier w s xs r → at_next (begins_type w) xs ≡ true
  specifier_begins _ _ _ (is_word s t k said key h) = word_begins k t [] key (one_more_word k t.place s.said said h)
  specifier_begins _ _ _ (is_constant s t key) = word_begins keyword.Const t [] (keyword_is w keyword.Const t key) refl
  specifier_begins _ _ _ (is_restricted s t key) = word_begins keyword.Restrict t [] (keyword_is w keyword.Restrict t key) refl
  specifier_begins _ _ _ (is_structure s t n tag key none named) = word_begins keyword.Struct t (n ∷ []) (keyword_is w keyword.Struct t key) refl
  specifier_begins _ _ _ (is_enumeration s t n tag key none named) = word_begins keyword.Enum t (n ∷ []) (keyword_is w keyword.Enum t key) refl
  specifier_begins _ _ _ (is_defined s t named none) = passes_second (is_type_word w) (is_type_name w) (t ∷ []) named

  specified_begins : (xs : List Token) (s : Specifiers) → AreSpecifiers w unspecified xs s → is_some (type_specified s) ≡ true → at_next (begins_type w) xs ≡ true
  specified_begins _ _ (no_specifiers _) some = absurd (cc some)
  specified_begins _ _ (more_specifiers s m r xs ys first rest) some = head_of_append (begins_type w) xs ys (specifier_begins s m xs first)

  pub type_begins : (ts : List Token) (d : Declared) → IsType w ts d → at_next (begins_type w) ts ≡ true
  type_begins _ _ (is_type xs ys s base ps are names is) = head_of_append (begins_type w) xs ys (specified_begins xs s are (ap is_some names))

  -- ---- behind a type name

  pub close_ends_type : (d : Declared) (t : Token) → is_close w t ≡ true → more_type w d t ≡ false
  close_ends_type d t h =
      ap (λ o. (is_empty d.pieces && option_map_or is_type_keyword o false) || more_abstract w d.pieces t) (mark_no_keyword w mark.CloseParenthesis t (mark_is w mark.CloseParenthesis t h)) ∙ by_test (is_empty d.pieces)
    where
      by_test : (b : Bool) → ((b && false) || more_abstract w d.pieces t) ≡ false
      by_test true = no_more_at_close w d.pieces t h
      by_test false = no_more_at_close w d.pieces t h

  -- ---- expressions that begin with `(`

  -- the first token of a text is that of the list that it begins
  pub first_of : (test : Token → Bool) (xs ys : List Token) → at_next (begins_expr w) xs ≡ true → at_next test (xs ++ ys) ≡ true → at_next test xs ≡ true
  first_of test [] ys begins h = absurd (cc begins)
  first_of test (x ∷ xs) ys begins h = h

  deeper : (a b : ℕ) → 1 ≤ a → 2 ≤ suc (max a b)
  deeper a b h = let more : a ≤ max a b = le-max_left a b in omega arith

  postfix_is_deep : (ts : List Token) (e : ExprTree) → IsExpr w Postfix ts e → at_next (is_open w) ts ≡ true → 2 ≤ depth_of_expr e
  postfix_is_deep _ _ (is_primary _ _ (is_operand t e h)) at_open = absurd (cc (sym (operand_not_open w t e h) ∙ at_open))
  postfix_is_deep _ _ (is_primary _ _ (is_grouped o c xs e opens closes is)) at_open = let some : 1 ≤ depth_of_expr e = some_depth e in omega arith
  postfix_is_deep _ _ (is_indexed o c at xs ys e f s closes first second) at_open = deeper (depth_of_expr e) (depth_of_expr f) (some_depth e)
  postfix_is_deep _ _ (is_called o c at xs ys e args s closes first second) at_open = deeper (depth_of_expr e) (depth_of_list args) (some_depth e)
  postfix_is_deep _ _ (is_member o n arrow at name xs e s named first) at_open = let some : 1 ≤ depth_of_expr e = some_depth e in omega arith
  postfix_is_deep _ _ (is_stepped t op at xs e s first) at_open = let some : 1 ≤ depth_of_expr e = some_depth e in omega arith

  pub prefix_is_deep : (ts : List Token) (e : ExprTree) → IsExpr w Prefix ts e → at_next (is_open w) ts ≡ true → 2 ≤ depth_of_expr e
  prefix_is_deep _ _ (is_postfix xs e is) at_open = postfix_is_deep xs e is at_open
  prefix_is_deep _ _ (is_prefixed t op at xs e h is) at_open = let some : 1 ≤ depth_of_expr e = some_depth e in omega arith
  prefix_is_deep _ _ (is_stepping t op at xs e h is) at_open = let some : 1 ≤ depth_of_expr e = some_depth e in omega arith
  prefix_is_deep _ _ (is_size_of_expr t xs e h is) at_open = let some : 1 ≤ depth_of_expr e = some_depth e in omega arith
  prefix_is_deep _ _ (is_size_of_type t o c xs a h opens closes type) at_open = absurd (cc (sym (open_no_prefix w t at_open).2 ∙ h))

  second_of_longer : (xs ys rest : List Token) → at_second (begins_type w) (xs ++ (ys ++ rest)) ≡ false → at_second (begins_type w) ((xs ++ ys) ++ rest) ≡ false
  second_of_longer xs ys rest h = ap (at_second (begins_type w)) (append_assoc xs ys rest) ∙ h

  postfix_no_type : (ts : List Token) (e : ExprTree) (rest : List Token) → IsExpr w Postfix ts e → at_next (is_open w) ts ≡ true → at_second (begins_type w) (ts ++ rest) ≡ false
  postfix_no_type _ _ rest (is_primary _ _ (is_operand t e h)) at_open = absurd (cc (sym (operand_not_open w t e h) ∙ at_open))
  postfix_no_type _ _ rest (is_primary _ _ (is_grouped o c xs e opens closes is)) at_open = ap (at_next (begins_type w)) (append_assoc xs (c ∷ []) rest) ∙ begins_with_no_type w Sequence xs e ((c ∷ []) ++ rest) is
  postfix_no_type _ _ rest (is_indexed o c at xs ys e f s closes first second) at_open =
      second_of_longer xs (o ∷ (ys ++ (c ∷ []))) rest (postfix_no_type xs e ((o ∷ (ys ++ (c ∷ []))) ++ rest) first (first_of (is_open w) xs (o ∷ (ys ++ (c ∷ []))) (expr_begins w Postfix xs e first) at_open))
  postfix_no_type _ _ rest (is_called o c at xs ys e args s closes first second) at_open =
      second_of_longer xs (o ∷ (ys ++ (c ∷ []))) rest (postfix_no_type xs e ((o ∷ (ys ++ (c ∷ []))) ++ rest) first (first_of (is_open w) xs (o ∷ (ys ++ (c ∷ []))) (expr_begins w Postfix xs e first) at_open))
  postfix_no_type _ _ rest (is_member o n arrow at name xs e s named first) at_open =
      second_of_longer xs (o ∷ (n ∷ [])) rest (postfix_no_type xs e ((o ∷ (n ∷ [])) ++ rest) first (first_of (is_open w) xs (o ∷ (n ∷ [])) (expr_begins w Postfix xs e first) at_open))
  postfix_no_type _ _ rest (is_stepped t op at xs e s first) at_open =
      second_of_longer xs (t ∷ []) rest (postfix_no_type xs e ((t ∷ []) ++ rest) first (first_of (is_open w) xs (t ∷ []) (expr_begins w Postfix xs e first) at_open))

  -- no type begins behind the `(` of an expression
  pub prefix_no_type : (ts : List Token) (e : ExprTree) (rest : List Token) → IsExpr w Prefix ts e → at_next (is_open w) ts ≡ true → at_second (begins_type w) (ts ++ rest) ≡ false
  prefix_no_type _ _ rest (is_postfix xs e is) at_open = postfix_no_type xs e rest is at_open
  prefix_no_type _ _ rest (is_prefixed t op at xs e h is) at_open = absurd (cc (sym (open_no_prefix w t at_open).0 ∙ ap is_some h))
  prefix_no_type _ _ rest (is_stepping t op at xs e h is) at_open = absurd (cc (sym (open_no_prefix w t at_open).1 ∙ ap is_some h))
  prefix_no_type _ _ rest (is_size_of_expr t xs e h is) at_open = absurd (cc (sym (open_no_prefix w t at_open).2 ∙ h))
  prefix_no_type _ _ rest (is_size_of_type t o c xs a h opens closes type) at_open = absurd (cc (sym (open_no_prefix w t at_open).2 ∙ h))

  -- ---- a number in parentheses

  pub raised : (k : ℕ) (xs : List Token) (e : ExprTree) → IsExpr w (Infix 0) xs e → IsExpr w (Infix k) xs e
  raised zero xs e is = is
  raised (suc k) xs e is = is_tighter k xs e (raised k xs e is)

  pub number_inside : (o : Token) → is_open w o ≡ true → IsExpr w Prefix (o ∷ (number_token ∷ (close_token ∷ []))) (tree.Paren number_tree o.place)
  number_inside o h =
      let ts : List Token = number_token ∷ [] in
      let number : IsExpr w (Infix 0) ts number_tree = is_uncast ts number_tree (is_postfix ts number_tree (is_primary ts number_tree (is_operand number_token number_tree (number_token_is w)))) in
      let whole : IsExpr w Sequence ts number_tree = is_assigned ts number_tree (is_chosen ts number_tree (is_infix ts number_tree (raised 10 ts number_tree number))) in
      let inside : IsExpr w Primary (o ∷ (number_token ∷ (close_token ∷ []))) (tree.Paren number_tree o.place) = is_grouped o close_token ts number_tree h (close_token_is w) whole in
      is_postfix (o ∷ (number_token ∷ (close_token ∷ []))) (tree.Paren number_tree o.place) (is_primary (o ∷ (number_token ∷ (close_token ∷ []))) (tree.Paren number_tree o.place) inside)

-- ---- a type in parentheses, and what follows it

module _ (w : Lexicon) (below : ℕ) (Rest : Token → Declared → List Token → ExprTree → Type 0) where
  abbrev pub TypedText : List Token → ExprTree → Type 0
  TypedText = Opened (is_open w) (λ o. Joined (FitsType w below) (λ a. Opened (is_close w) (λ c. Rest o a)))

  module _ (part : ℕ → Parts) (P : LawfulParts w below (part 0)) (q : Token → Declared → ExprReader) (Q : (o : Token) (a : Declared) → Lawful (Rest o a) (more_operand w) (q o a)) where
    abbrev typed_reader : ExprReader
    typed_reader = token unexpected (is_open w) >>= (λ o. (part 0).type_name >>= (λ a. token unexpected (is_close w) >>= (λ c. q o a)))

    typed_law : (o : Token) → is_open w o ≡ true → Lawful TypedText (more_operand w) typed_reader
    typed_law o h =
        opened unexpected (is_open w) o h (λ s passes. in_order {Second = λ a. Opened (is_close w) (λ c. Rest s a)} P.type_name
        (λ xs a is. opened unexpected (is_close w) close_token (close_token_is w) (λ c closes. Q s a))
        (λ xs a ys e rest is text k. ap (λ l. at_next (more_type w a) (l ++ rest)) text.split ∙ close_ends_type w a text.opening text.passes))

    no_typed_text : (e : ExprTree) → TypedText [] e → ⊥
    no_typed_text e text = cc text.split

    pub typed_some : (o : Token) → is_open w o ≡ true → (xs : List Token) × (e : ExprTree) × TypedText (o ∷ xs) e
    typed_some o h =
        let type : (ts : List Token) × (a : Declared) × FitsType w below ts a = P.type_name.some in
        let rest : (ts : List Token) × (e : ExprTree) × Rest o type.1 ts e = (Q o type.1).some in (
          type.0 ++ (close_token ∷ rest.0),
          rest.1,
          record {
            opening = o;
            rest = type.0 ++ (close_token ∷ rest.0);
            split = refl;
            passes = h;
            is = record { before = type.0; after = close_token ∷ rest.0; value = type.1; split = refl; first = type.2; second = record { opening = close_token; rest = rest.0; split = refl; passes = close_token_is w; is = rest.2 } };
          },
        )

    typed_begins : (o : Token) (ts : List Token) (e : ExprTree) → Behind o TypedText ts e → at_next (begins_type w) ts ≡ true
    typed_begins o ts e text =
        let tail : ts ≡ text.rest = cc text.split in
        ap (at_next (begins_type w)) (tail ∙ text.is.split) ∙ head_of_append (begins_type w) text.is.before text.is.after (type_begins w text.is.before text.is.value text.is.first.0)

    pub typed_head : (o : Token) → is_open w o ≡ true → OnHead (begins_type w) (Behind o TypedText) (more_operand w) (behind o typed_reader)
    typed_head o h =
        let some : (xs : List Token) × (e : ExprTree) × TypedText (o ∷ xs) e = typed_some o h in
        headed (behind_law (typed_law o h) no_typed_text o some.0 some.1 some.2) (begins_type w) (typed_begins o)
