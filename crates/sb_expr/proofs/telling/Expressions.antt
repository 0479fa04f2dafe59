-- Why the readers of expressions stop, by what is known of those of smaller depth.
use Rattle.std.proofs.Common.{◌≡◌, ℕ, zero, suc, Bool, true, false, ◌||◌, List, [], ◌∷◌, ◌++◌, nat_lt, Option, Some, None, is_some, if◌then◌else◌, refl, sym, ap, ◌∙◌, append-nil, subst}
use Rattle.std.specs.Option.{option_map_or}
use Rattle.sb_base.specs.declared.interning.Name.{Name}
use Rattle.sb_base.specs.declared.refusals.Place.{Place}
use Rattle.sb_base.specs.declared.tokens.Token.{Token}
use Rattle.sb_parse.specs.Parser.{◌>>=◌, pure, choose, guard, refuse, looped}
use Rattle.sb_parse.specs.Read.{CanBegin}
use Rattle.sb_tree.specs.declared.operator.BinaryOp.{BinaryOp}
use Rattle.sb_tree.specs.declared.operator.BinaryOp.TheVariants as binary
use Rattle.sb_tree.specs.declared.operator.UnaryOp.{UnaryOp}
use Rattle.sb_tree.specs.Plain.{expr_list}
use Rattle.sb_tree.specs.Trees as tree
use Rattle.sb_tree.specs.Trees.{ExprTree, depth_of_expr}
use Rattle.sb_lexicon.specs.declared.operators.Suffix.{Suffix}
use Rattle.sb_lexicon.specs.declared.operators.Suffix.TheVariants as suffix
use Rattle.sb_lexicon.specs.Lexicon.{Lexicon, name_of, operand_of, begins_type, prefix_of, step_of, suffix_of, operator_of, assignment_of}
use Rattle.sb_operand.specs.Pieces.{type_of}
use Rattle.sb_expr.specs.Expression as grammar
use Rattle.sb_expr.specs.Expression.{Level, Primary, Postfix, Prefix, Infix, Conditional, Assignment, Sequence, IsExpr, is_operand, is_grouped, is_primary, is_indexed, is_called, is_member, is_stepped, is_postfix, is_prefixed, is_stepping, is_size_of_expr, is_size_of_type, is_uncast, is_cast, is_tighter, is_binary, is_infix, is_conditional, is_chosen, is_assignment, is_assigned, is_sequence, AreArguments, no_arguments, AreSome, one_argument, more_arguments, IsType}
use Rattle.sb_expr.specs.Readers.{is_unary, assigns, Parts, within, grouped, primary, next_argument, some_arguments, arguments, indexed, called, member, suffixed_by, suffixed, postfix, prefixed, stepping, size_of_type, no_room_inside, size_of_expr, size_of_either, size_of, prefix_expr, cast, cast_expr, operated, infix_at, branches, conditional, assigned, assignment, followed, sequence, at_level, begins_at}
use Rattle.sb_lexicon.specs.Tokens.{unexpected, too_deep, is_zero, is_open, is_close, is_close_bracket, is_comma, is_question, is_colon, is_open_brace, is_size_of, is_prefix, is_step, is_suffix, is_operator, begins_expr, member_of}
use Rattle.sb_parse.proofs.Ways.{or_first, or_second, and_first, and_second}
use Rattle.sb_lexicon.proofs.Lexemes.{close_token, close_token_is, close_bracket_token, close_bracket_token_is, name_token, name_token_is}
use Rattle.sb_lexicon.proofs.Marks.{colon_token, colon_token_is, number_token, number_tree, number_token_is}
use Rattle.sb_lexicon.proofs.Grounds.{Texts, After, Grounded, GroundedAt, begin_as, whole_text, grounded_as, one_by_one, mapping, giving, refusing_plain, opening, beginning, taking, closing, refusing_deep, refusing_feature, barring, choosing, choosing_second, turning}

-- ---- some texts

module _ (w : Lexicon) where
  as_infix : (k : ℕ) (xs : List Token) (e : ExprTree) → IsExpr w Prefix xs e → IsExpr w (Infix k) xs e
  as_infix zero xs e is = is_uncast xs e is
  as_infix (suc k) xs e is = is_tighter k xs e (as_infix k xs e is)

  as_conditional : (xs : List Token) (e : ExprTree) → IsExpr w Prefix xs e → IsExpr w Conditional xs e
  as_conditional xs e is = is_infix xs e (as_infix 10 xs e is)

  as_assignment : (xs : List Token) (e : ExprTree) → IsExpr w Prefix xs e → IsExpr w Assignment xs e
  as_assignment xs e is = is_chosen xs e (as_conditional xs e is)

  as_sequence : (xs : List Token) (e : ExprTree) → IsExpr w Prefix xs e → IsExpr w Sequence xs e
  as_sequence xs e is = is_assigned xs e (as_assignment xs e is)

  a_number : IsExpr w Primary (number_token ∷ []) number_tree
  a_number = is_operand number_token number_tree (number_token_is w)

  prefix_number : IsExpr w Prefix (number_token ∷ []) number_tree
  prefix_number = is_postfix _ _ (is_primary _ _ a_number)

  -- a number in parentheses
  parenthesised : (o : Token) → is_open w o ≡ true → IsExpr w Primary (o ∷ (number_token ∷ (close_token ∷ []))) (tree.Paren number_tree o.place)
  parenthesised o h = is_grouped o close_token (number_token ∷ []) number_tree h (close_token_is w) (as_sequence _ _ prefix_number)

  can_group : (o : Token) → is_open w o ≡ true → CanBegin (IsExpr w Primary) (o ∷ [])
  can_group o h = record { rest = number_token ∷ (close_token ∷ []); tree = tree.Paren number_tree o.place; is = parenthesised o h }

  can_prefix : (t : Token) → is_prefix w t ≡ true → CanBegin (IsExpr w Prefix) (t ∷ [])
  can_prefix t h = by_value (prefix_of w t) refl h
    where
      by_value : (o : Option (UnaryOp × Place)) → prefix_of w t ≡ o → is_some o ≡ true → CanBegin (IsExpr w Prefix) (t ∷ [])
      by_value None e k = absurd (cc k)
      by_value (Some op) e k = record { rest = number_token ∷ []; tree = tree.Unary op.0 number_tree op.1; is = is_prefixed t op.0 op.1 (number_token ∷ []) number_tree e (as_infix 0 _ _ prefix_number) }

  can_step : (t : Token) → is_step w t ≡ true → CanBegin (IsExpr w Prefix) (t ∷ [])
  can_step t h = by_value (step_of w t) refl h
    where
      by_value : (o : Option (UnaryOp × Place)) → step_of w t ≡ o → is_some o ≡ true → CanBegin (IsExpr w Prefix) (t ∷ [])
      by_value None e k = absurd (cc k)
      by_value (Some op) e k = record { rest = number_token ∷ []; tree = tree.Unary op.0 number_tree op.1; is = is_stepping t op.0 op.1 (number_token ∷ []) number_tree e prefix_number }

  can_size : (t : Token) → is_size_of w t ≡ true → CanBegin (IsExpr w Prefix) (t ∷ [])
  can_size t h = record { rest = number_token ∷ []; tree = tree.SizeOfExpr number_tree t.place; is = is_size_of_expr t (number_token ∷ []) number_tree h prefix_number }

  can_begin_operand : (t : Token) → (is_some (operand_of w t) || is_open w t) ≡ true → CanBegin (IsExpr w Primary) (t ∷ [])
  can_begin_operand t h = by_value (operand_of w t) refl h
    where
      by_value : (o : Option ExprTree) → operand_of w t ≡ o → (is_some o || is_open w t) ≡ true → CanBegin (IsExpr w Primary) (t ∷ [])
      by_value None e k = can_group t k
      by_value (Some e) i k = whole_text (IsExpr w Primary) (t ∷ []) e (is_operand t e i)

  primary_as_postfix : (xs : List Token) → CanBegin (IsExpr w Primary) xs → CanBegin (IsExpr w Postfix) xs
  primary_as_postfix xs c = begin_as (IsExpr w Primary) (IsExpr w Postfix) (λ ts e is. whole_text (IsExpr w Postfix) ts e (is_primary ts e is)) xs c

  primary_as_prefix : (xs : List Token) → CanBegin (IsExpr w Primary) xs → CanBegin (IsExpr w Prefix) xs
  primary_as_prefix xs c = begin_as (IsExpr w Primary) (IsExpr w Prefix) (λ ts e is. whole_text (IsExpr w Prefix) ts e (is_postfix ts e (is_primary ts e is))) xs c

  can_begin_prefix : (t : Token) → begins_expr w t ≡ true → CanBegin (IsExpr w Prefix) (t ∷ [])
  can_begin_prefix t h = by_value (operand_of w t) refl h
    where
      by_step : (b : Bool) → is_step w t ≡ b → (b || is_size_of w t) ≡ true → CanBegin (IsExpr w Prefix) (t ∷ [])
      by_step true e k = can_step t e
      by_step false e k = can_size t k

      by_prefix : (b : Bool) → is_prefix w t ≡ b → (b || (is_step w t || is_size_of w t)) ≡ true → CanBegin (IsExpr w Prefix) (t ∷ [])
      by_prefix true e k = can_prefix t e
      by_prefix false e k = by_step (is_step w t) refl k

      by_open : (b : Bool) → is_open w t ≡ b → (b || (is_prefix w t || (is_step w t || is_size_of w t))) ≡ true → CanBegin (IsExpr w Prefix) (t ∷ [])
      by_open true e k = primary_as_prefix (t ∷ []) (can_group t e)
      by_open false e k = by_prefix (is_prefix w t) refl k

      by_value : (o : Option ExprTree) → operand_of w t ≡ o → (is_some o || (is_open w t || (is_prefix w t || (is_step w t || is_size_of w t)))) ≡ true → CanBegin (IsExpr w Prefix) (t ∷ [])
      by_value None e k = by_open (is_open w t) refl k
      by_value (Some e) i k = whole_text (IsExpr w Prefix) (t ∷ []) e (is_postfix _ _ (is_primary _ _ (is_operand t e i)))

  prefix_as : (level : Level) → ((xs : List Token) (e : ExprTree) → IsExpr w Prefix xs e → IsExpr w level xs e) → (t : Token) → begins_expr w t ≡ true → CanBegin (IsExpr w level) (t ∷ [])
  prefix_as level to t h = begin_as (IsExpr w Prefix) (IsExpr w level) (λ ts e is. whole_text (IsExpr w level) ts e (to ts e is)) (t ∷ []) (can_begin_prefix t h)

  pub can_begin : (level : Level) (t : Token) → begins_at w level t ≡ true → CanBegin (IsExpr w level) (t ∷ [])
  can_begin Primary t h = can_begin_operand t h
  can_begin Postfix t h = primary_as_postfix (t ∷ []) (can_begin_operand t h)
  can_begin Prefix t h = can_begin_prefix t h
  can_begin (Infix k) t h = prefix_as (Infix k) (as_infix k) t h
  can_begin Conditional t h = prefix_as Conditional as_conditional t h
  can_begin Assignment t h = prefix_as Assignment as_assignment t h
  can_begin Sequence t h = prefix_as Sequence as_sequence t h

  -- ---- the tokens that go on from a text

  pub can_suffix : (xs : List Token) (e : ExprTree) → IsExpr w Postfix xs e → (t : Token) → is_suffix w t ≡ true → CanBegin (After xs (IsExpr w Postfix)) (t ∷ [])
  can_suffix xs e is t h = by_value (suffix_of w t) refl h
    where
      by_value : (o : Option Suffix) → suffix_of w t ≡ o → is_some o ≡ true → CanBegin (After xs (IsExpr w Postfix)) (t ∷ [])
      by_value None i k = absurd (cc k)
      by_value (Some (suffix.Index at)) i k = record {
        rest = number_token ∷ (close_bracket_token ∷ []);
        tree = tree.Index e number_tree at;
        is = is_indexed t close_bracket_token at xs (number_token ∷ []) e number_tree i (close_bracket_token_is w) is (as_sequence _ _ prefix_number);
      }
      by_value (Some (suffix.Call at)) i k = record { rest = close_token ∷ []; tree = tree.Call e (expr_list []) at; is = is_called t close_token at xs [] e [] i (close_token_is w) is no_arguments }
      by_value (Some (suffix.Member arrow at)) i k = record { rest = name_token ∷ []; tree = tree.Member e arrow name_token.text name_token.place at; is = is_member t name_token arrow at name_token.text xs e i (name_token_is w) is }
      by_value (Some (suffix.Step op at)) i k = record { rest = []; tree = tree.Unary op e at; is = is_stepped t op at xs e i is }

  pub can_operate : (k : ℕ) (xs : List Token) (e : ExprTree) → IsExpr w (Infix (suc k)) xs e → (t : Token) → is_operator w (suc k) t ≡ true → CanBegin (After xs (IsExpr w (Infix (suc k)))) (t ∷ [])
  can_operate k xs e is t h = by_value (operator_of w (suc k) t) refl h
    where
      by_value : (o : Option (BinaryOp × Place)) → operator_of w (suc k) t ≡ o → is_some o ≡ true → CanBegin (After xs (IsExpr w (Infix (suc k)))) (t ∷ [])
      by_value None i h = absurd (cc h)
      by_value (Some op) i h = record { rest = number_token ∷ []; tree = tree.Binary op.0 e number_tree op.1; is = is_binary k t op.0 op.1 xs (number_token ∷ []) e number_tree i is (as_infix k _ _ prefix_number) }

  pub can_ask : (xs : List Token) (e : ExprTree) → IsExpr w (Infix 10) xs e → (q : Token) → is_question w q ≡ true → CanBegin (After xs (IsExpr w Conditional)) (q ∷ [])
  can_ask xs e is q h = record {
    rest = number_token ∷ (colon_token ∷ (number_token ∷ []));
    tree = tree.Cond e number_tree number_tree q.place;
    is = is_conditional q colon_token xs (number_token ∷ []) (number_token ∷ []) e number_tree number_tree h (colon_token_is w) is (as_sequence _ _ prefix_number) (as_conditional _ _ prefix_number);
  }

  pub can_assign : (xs : List Token) (e : ExprTree) → IsExpr w Prefix xs e → (t : Token) → is_some (assignment_of w t) ≡ true → CanBegin (After xs (IsExpr w Assignment)) (t ∷ [])
  can_assign xs e left t h = by_value (assignment_of w t) refl h
    where
      by_value : (o : Option (Option BinaryOp × Place)) → assignment_of w t ≡ o → is_some o ≡ true → CanBegin (After xs (IsExpr w Assignment)) (t ∷ [])
      by_value None i h = absurd (cc h)
      by_value (Some op) i h = record { rest = number_token ∷ []; tree = tree.Assign op.0 e number_tree op.1; is = is_assignment t op.0 op.1 xs (number_token ∷ []) e number_tree i left (as_assignment _ _ prefix_number) }

  pub can_follow : (xs : List Token) (e : ExprTree) → IsExpr w Sequence xs e → (t : Token) → is_comma w t ≡ true → CanBegin (After xs (IsExpr w Sequence)) (t ∷ [])
  can_follow xs e is t h = record { rest = number_token ∷ []; tree = tree.Binary binary.Comma e number_tree t.place; is = is_sequence t xs (number_token ∷ []) e number_tree h is (as_assignment _ _ prefix_number) }

  -- with room for no tree
  pub none_grounded : (level : Level) → Grounded w (IsExpr w level) (choose (begins_at w level) (refuse too_deep) (refuse unexpected))
  none_grounded level = choosing w (IsExpr w level) (begins_at w level) _ _ (refusing_deep w (IsExpr w level) (begins_at w level) (can_begin level)) (refusing_plain w (IsExpr w level))

  -- a unary expression is one whatever level it stands at
  as_unary : (k : ℕ) (xs : List Token) (e : ExprTree) → IsExpr w (Infix k) xs e → is_unary e ≡ true → IsExpr w Prefix xs e
  as_unary _ _ _ (is_uncast xs e is) h = is
  as_unary _ _ _ (is_cast o c xs ys a e opens closes type is) h = absurd (cc h)
  as_unary _ _ _ (is_tighter k xs e is) h = as_unary k xs e is h
  as_unary _ _ _ (is_binary k t op at xs ys e f given first second) h = absurd (cc h)

  unary_alone : (xs : List Token) (e : ExprTree) → IsExpr w Conditional xs e → is_unary e ≡ true → IsExpr w Prefix xs e
  unary_alone _ _ (is_infix xs e is) h = as_unary 10 xs e is h
  unary_alone _ _ (is_conditional q c xs ys zs e f g question colon first second third) h = absurd (cc h)

  member_is : (n : Token) (r : Name × Place) → member_of w n ≡ Some r → (name_of w n ≡ Some r.0) × (n.place ≡ r.1)
  member_is n r h = by_name (name_of w n) refl h
    where
      by_name : (o : Option Name) → name_of w n ≡ o → option_map_or (λ m. Some (m, n.place)) o None ≡ Some r → (name_of w n ≡ Some r.0) × (n.place ≡ r.1)
      by_name None e k = absurd (cc k)
      by_name (Some m) e k = let same : Path (Name × Place) (m, n.place) r = cc k in (e ∙ ap (λ z. Some z.0) same, ap (λ z. z.1) same)

module _ (w : Lexicon) (below : ℕ) (part : ℕ → Parts) (Expr : (level : Level) → Grounded w (IsExpr w level) ((part 0).expr level)) (Name_of_type : Grounded w (IsType w) (part 0).type_name) where
  -- ---- operands and what stands behind them

  grouped_grounded : Grounded w (IsExpr w Primary) (grouped w below part)
  unfolding grouped
  grouped_grounded =
      opening w (IsExpr w Primary) (is_open w) _
      (λ o h. closing w (IsExpr w Sequence) (After (o ∷ []) (IsExpr w Primary)) (is_close w) close_token (within w below part Sequence) (λ e c. tree.Paren e o.place) (close_token_is w) (Expr Sequence)
      (λ xs e c is k. is_grouped o c xs e h k is))

  primary_grounded : Grounded w (IsExpr w Primary) (primary w below part)
  unfolding primary
  primary_grounded = choosing w (IsExpr w Primary) (is_open w) _ _ (barring w (IsExpr w Primary) (is_open w) (is_zero below) _ (can_group w) grouped_grounded) (taking w (IsExpr w Primary) (operand_of w) is_operand)

  next_grounded : (xs : List Token) (es : List ExprTree) → AreSome w xs es → GroundedAt w (is_comma w) (After xs (AreSome w)) (next_argument w below part es)
  unfolding next_argument
  next_grounded xs es are ts i =
      opening w (After xs (AreSome w)) (is_comma w) (λ t. within w below part Assignment >>= (λ e. pure (es ++ (e ∷ []))))
      (λ t h. mapping w (IsExpr w Assignment) (After (t ∷ []) (After xs (AreSome w))) (within w below part Assignment) (λ e. es ++ (e ∷ [])) (Expr Assignment) (λ ys e is. more_arguments t xs ys es e h are is)) ts

  arguments_grounded : Grounded w (AreArguments w) (arguments w below part)
  unfolding arguments some_arguments
  arguments_grounded =
      choosing w (AreArguments w) (is_close w) _ _ (λ ts h. giving w (AreArguments w) [] no_arguments ts)
      (grounded_as w (AreSome w) (AreArguments w) (within w below part Assignment >>= (λ e. looped (is_comma w) (next_argument w below part) (e ∷ []))) grammar.arguments
      (one_by_one w (IsExpr w Assignment) (AreSome w) (within w below part Assignment) (λ e. looped (is_comma w) (next_argument w below part) (e ∷ [])) (Expr Assignment)
      (λ xs e is. whole_text (AreSome w) xs (e ∷ []) (one_argument xs e is)) (λ xs e is. turning w (AreSome w) (is_comma w) (next_argument w below part) next_grounded xs (e ∷ []) (one_argument xs e is))))

  module _ (xs : List Token) (e : ExprTree) (is : IsExpr w Postfix xs e) where
    abbrev Behind : Token → Texts ExprTree
    Behind t = After (t ∷ []) (After xs (IsExpr w Postfix))

    suffix_grounded : (t : Token) (s : Suffix) → suffix_of w t ≡ Some s → Grounded w (Behind t) (suffixed_by w below part e s)
    unfolding indexed called member
    suffix_grounded t (suffix.Index at) h =
        closing w (IsExpr w Sequence) (Behind t) (is_close_bracket w) close_bracket_token (within w below part Sequence) (λ f c. tree.Index e f at) (close_bracket_token_is w) (Expr Sequence)
        (λ ys f c second k. is_indexed t c at xs ys e f h k is second)
    suffix_grounded t (suffix.Call at) h =
        closing w (AreArguments w) (Behind t) (is_close w) close_token (arguments w below part) (λ es c. tree.Call e (expr_list es) at) (close_token_is w) arguments_grounded
        (λ ys es c second k. is_called t c at xs ys e es h k is second)
    suffix_grounded t (suffix.Member arrow at) h =
        beginning w (Behind t) (member_of w) (λ n. pure (tree.Member e arrow n.0 n.1 at))
        (λ n r k. giving w (After (n ∷ []) (Behind t)) (tree.Member e arrow r.0 r.1 at)
        (subst (λ z. IsExpr w Postfix (xs ++ (t ∷ (n ∷ []))) (tree.Member e arrow r.0 z at)) (member_is w n r k).1 (is_member t n arrow at r.0 xs e h (member_is w n r k).0 is)))
    suffix_grounded t (suffix.Step op at) h = giving w (Behind t) (tree.Unary op e at) (is_stepped t op at xs e h is)

    suffixed_grounded : GroundedAt w (is_suffix w) (After xs (IsExpr w Postfix)) (suffixed w below part e)
    unfolding suffixed
    suffixed_grounded =
        barring w (After xs (IsExpr w Postfix)) (is_suffix w) (nat_lt below (depth_of_expr e)) _ (can_suffix w xs e is) (beginning w (After xs (IsExpr w Postfix)) (suffix_of w) (suffixed_by w below part e) suffix_grounded)

  postfix_grounded : Grounded w (IsExpr w Postfix) (postfix w below part)
  unfolding postfix
  postfix_grounded =
      one_by_one w (IsExpr w Primary) (IsExpr w Postfix) (primary w below part) (looped (is_suffix w) (suffixed w below part)) primary_grounded (λ xs e is. whole_text (IsExpr w Postfix) xs e (is_primary xs e is))
      (λ xs e is. turning w (IsExpr w Postfix) (is_suffix w) (suffixed w below part) suffixed_grounded xs e (is_primary xs e is))

  -- ---- operators before an operand, sizes and casts

  prefixed_grounded : Grounded w (IsExpr w Prefix) (prefixed w below part)
  unfolding prefixed
  prefixed_grounded =
      beginning w (IsExpr w Prefix) (prefix_of w) _
      (λ t op h. mapping w (IsExpr w (Infix 0)) (After (t ∷ []) (IsExpr w Prefix)) (within w below part (Infix 0)) (λ e. tree.Unary op.0 e op.1) (Expr (Infix 0)) (λ xs e is. is_prefixed t op.0 op.1 xs e h is))

  stepping_grounded : Grounded w (IsExpr w Prefix) (stepping w below part)
  unfolding stepping
  stepping_grounded =
      beginning w (IsExpr w Prefix) (step_of w) _
      (λ t op h. mapping w (IsExpr w Prefix) (After (t ∷ []) (IsExpr w Prefix)) (within w below part Prefix) (λ e. tree.Unary op.0 e op.1) (Expr Prefix) (λ xs e is. is_stepping t op.0 op.1 xs e h is))

  module _ (s : Token) (h : is_size_of w s ≡ true) where
    abbrev Sized : Texts ExprTree
    Sized = After (s ∷ []) (IsExpr w Prefix)

    size_of_type_grounded : Grounded w Sized (size_of_type w below part s.place)
    unfolding size_of_type
    size_of_type_grounded =
        opening w Sized (is_open w) _
        (λ o opens. one_by_one w (IsType w) (After (o ∷ []) Sized) (part 0).type_name _ Name_of_type
        (λ xs a is. record { rest = close_token ∷ []; tree = tree.SizeOfType (type_of a) s.place; is = is_size_of_type s o close_token xs a h opens (close_token_is w) is })
        (λ xs a is. opening w (After xs (After (o ∷ []) Sized)) (is_close w) _
        (λ c closes. choosing w (After (c ∷ []) (After xs (After (o ∷ []) Sized))) (is_open_brace w) _ _ (refusing_feature w (After (c ∷ []) (After xs (After (o ∷ []) Sized))) (is_open_brace w) 16 (λ t k. k))
        (giving w (After (c ∷ []) (After xs (After (o ∷ []) Sized))) (tree.SizeOfType (type_of a) s.place) (is_size_of_type s o c xs a h opens closes is)))))

    size_of_expr_grounded : Grounded w Sized (size_of_expr w below part s.place)
    unfolding size_of_expr
    size_of_expr_grounded = mapping w (IsExpr w Prefix) Sized (within w below part Prefix) (λ e. tree.SizeOfExpr e s.place) (Expr Prefix) (λ xs e is. is_size_of_expr s xs e h is)

    -- `sizeof`, and an expression in parentheses that begins so
    can_size_group : (o : Token) → is_open w o ≡ true → (t : Token) → begins_expr w t ≡ true → CanBegin (After (o ∷ []) Sized) (t ∷ [])
    can_size_group o opens t k =
        let c : CanBegin (IsExpr w Sequence) (t ∷ []) = can_begin w Sequence t k in
        record {
          rest = c.rest ++ (close_token ∷ []);
          tree = tree.SizeOfExpr (tree.Paren c.tree o.place) s.place;
          is = is_size_of_expr s _ _ h (is_postfix _ _ (is_primary _ _ (is_grouped o close_token (t ∷ c.rest) c.tree opens (close_token_is w) c.is)));
        }

    no_room_grounded : Grounded w Sized (no_room_inside w below part)
    unfolding no_room_inside
    no_room_grounded =
        opening w Sized (is_open w) _
        (λ o opens. choosing w (After (o ∷ []) Sized) (begins_expr w) _ _ (refusing_deep w (After (o ∷ []) Sized) (begins_expr w) (can_size_group o opens)) (refusing_plain w (After (o ∷ []) Sized)))

    either_grounded : (b : Bool) → Grounded w Sized (if b then no_room_inside w below part else size_of_expr w below part s.place)
    either_grounded true = no_room_grounded
    either_grounded false = size_of_expr_grounded

  size_of_grounded : Grounded w (IsExpr w Prefix) (size_of w below part)
  unfolding size_of size_of_either
  size_of_grounded =
      opening w (IsExpr w Prefix) (is_size_of w) _
      (λ s h. choosing w (Sized s h) (is_open w) _ _
      (λ ts i. choosing_second w (Sized s h) (begins_type w) (size_of_type w below part s.place) (if nat_lt below 2 then no_room_inside w below part else size_of_expr w below part s.place)
      (size_of_type_grounded s h) (either_grounded s h (nat_lt below 2)) ts)
      (size_of_expr_grounded s h))

  prefix_grounded : Grounded w (IsExpr w Prefix) (prefix_expr w below part)
  unfolding prefix_expr
  prefix_grounded =
      choosing w (IsExpr w Prefix) (is_prefix w) _ _ (barring w (IsExpr w Prefix) (is_prefix w) (is_zero below) _ (can_prefix w) prefixed_grounded)
      (choosing w (IsExpr w Prefix) (is_step w) _ _ (barring w (IsExpr w Prefix) (is_step w) (is_zero below) _ (can_step w) stepping_grounded)
      (choosing w (IsExpr w Prefix) (is_size_of w) _ _ (barring w (IsExpr w Prefix) (is_size_of w) (is_zero below) _ (can_size w) size_of_grounded)
      (grounded_as w (IsExpr w Postfix) (IsExpr w Prefix) (postfix w below part) is_postfix postfix_grounded)))

  cast_grounded : Grounded w (IsExpr w (Infix 0)) (cast w below part)
  unfolding cast
  cast_grounded =
      opening w (IsExpr w (Infix 0)) (is_open w) _
      (λ o opens. one_by_one w (IsType w) (After (o ∷ []) (IsExpr w (Infix 0))) (part 0).type_name _ Name_of_type
      (λ xs a is. record { rest = close_token ∷ (number_token ∷ []); tree = tree.Cast (type_of a) number_tree o.place; is = is_cast o close_token xs (number_token ∷ []) a number_tree opens (close_token_is w) is (as_infix w 0 _ _ (prefix_number w)) })
      (λ xs a is. opening w (After xs (After (o ∷ []) (IsExpr w (Infix 0)))) (is_close w) _
      (λ c closes. choosing w (After (c ∷ []) (After xs (After (o ∷ []) (IsExpr w (Infix 0))))) (is_open_brace w) _ _
      (refusing_feature w (After (c ∷ []) (After xs (After (o ∷ []) (IsExpr w (Infix 0))))) (is_open_brace w) 16 (λ t k. k))
      (mapping w (IsExpr w (Infix 0)) (After (c ∷ []) (After xs (After (o ∷ []) (IsExpr w (Infix 0))))) (within w below part (Infix 0)) (λ e. tree.Cast (type_of a) e o.place) (Expr (Infix 0))
      (λ ys e second. is_cast o c xs ys a e opens closes is second)))))

  uncast_grounded : Grounded w (IsExpr w (Infix 0)) (prefix_expr w below part)
  uncast_grounded = grounded_as w (IsExpr w Prefix) (IsExpr w (Infix 0)) (prefix_expr w below part) is_uncast prefix_grounded

  cast_expr_grounded : Grounded w (IsExpr w (Infix 0)) (cast_expr w below part)
  unfolding cast_expr
  cast_expr_grounded =
      choosing w (IsExpr w (Infix 0)) (is_open w) _ _
      (barring w (IsExpr w (Infix 0)) (is_open w) (is_zero below) _ (λ o h. can_begin w (Infix 0) o (open_begins o h)) (choosing_second w (IsExpr w (Infix 0)) (begins_type w) (cast w below part) (prefix_expr w below part) cast_grounded uncast_grounded))
      uncast_grounded
    where
      open_begins : (o : Token) → is_open w o ≡ true → begins_expr w o ≡ true
      open_begins o h = or_second (is_some (operand_of w o)) (is_open w o || (is_prefix w o || (is_step w o || is_size_of w o))) (or_first (is_open w o) (is_prefix w o || (is_step w o || is_size_of w o)) h)

  -- ---- operators between operands

  operated_grounded : (k : ℕ) (xs : List Token) (e : ExprTree) → IsExpr w (Infix (suc k)) xs e → GroundedAt w (is_operator w (suc k)) (After xs (IsExpr w (Infix (suc k)))) (operated w below part k e)
  unfolding operated
  operated_grounded k xs e is =
      barring w (After xs (IsExpr w (Infix (suc k)))) (is_operator w (suc k)) (nat_lt below (depth_of_expr e)) _ (can_operate w k xs e is)
      (beginning w (After xs (IsExpr w (Infix (suc k)))) (operator_of w (suc k)) _
      (λ t op h. mapping w (IsExpr w (Infix k)) (After (t ∷ []) (After xs (IsExpr w (Infix (suc k))))) (within w below part (Infix k)) (λ f. tree.Binary op.0 e f op.1) (Expr (Infix k))
      (λ ys f second. is_binary k t op.0 op.1 xs ys e f h is second)))

  infix_grounded : (k : ℕ) → Grounded w (IsExpr w (Infix k)) (infix_at w below part k)
  unfolding infix_at
  infix_grounded zero = cast_expr_grounded
  infix_grounded (suc k) =
      one_by_one w (IsExpr w (Infix k)) (IsExpr w (Infix (suc k))) (infix_at w below part k) (looped (is_operator w (suc k)) (operated w below part k)) (infix_grounded k)
      (λ xs e is. whole_text (IsExpr w (Infix (suc k))) xs e (is_tighter k xs e is))
      (λ xs e is. turning w (IsExpr w (Infix (suc k))) (is_operator w (suc k)) (operated w below part k) (operated_grounded k) xs e (is_tighter k xs e is))

  module _ (xs : List Token) (e : ExprTree) (is : IsExpr w (Infix 10) xs e) where
    abbrev Asked : Texts ExprTree
    Asked = After xs (IsExpr w Conditional)

    branches_grounded : Grounded w Asked (branches w below part e)
    unfolding branches
    branches_grounded =
        opening w Asked (is_question w) _
        (λ q h. one_by_one w (IsExpr w Sequence) (After (q ∷ []) Asked) (within w below part Sequence) _ (Expr Sequence)
        (λ ys f second. record {
          rest = colon_token ∷ (number_token ∷ []);
          tree = tree.Cond e f number_tree q.place;
          is = is_conditional q colon_token xs ys (number_token ∷ []) e f number_tree h (colon_token_is w) is second (as_conditional w _ _ (prefix_number w));
        })
        (λ ys f second. opening w (After ys (After (q ∷ []) Asked)) (is_colon w) _
        (λ c i. mapping w (IsExpr w Conditional) (After (c ∷ []) (After ys (After (q ∷ []) Asked))) (within w below part Conditional) (λ g. tree.Cond e f g q.place) (Expr Conditional)
        (λ zs g third. is_conditional q c xs ys zs e f g h i is second third))))

    asked_grounded : Grounded w Asked (choose (is_question w) (guard (nat_lt below (depth_of_expr e)) too_deep (branches w below part e)) (pure e))
    asked_grounded =
        choosing w Asked (is_question w) _ _ (barring w Asked (is_question w) (nat_lt below (depth_of_expr e)) _ (can_ask w xs e is) branches_grounded)
        (giving w Asked e (subst (λ z. IsExpr w Conditional z e) (sym (append-nil xs)) (is_infix xs e is)))

  conditional_grounded : Grounded w (IsExpr w Conditional) (conditional w below part)
  unfolding conditional
  conditional_grounded = one_by_one w (IsExpr w (Infix 10)) (IsExpr w Conditional) (infix_at w below part 10) _ (infix_grounded 10) (λ xs e is. whole_text (IsExpr w Conditional) xs e (is_infix xs e is)) asked_grounded

  -- ---- assignments and commas

  module _ (xs : List Token) (e : ExprTree) (is : IsExpr w Conditional xs e) where
    abbrev Given : Texts ExprTree
    Given = After xs (IsExpr w Assignment)

    assigned_grounded : IsExpr w Prefix xs e → Grounded w Given (assigned w below part e)
    unfolding assigned
    assigned_grounded left =
        beginning w Given (assignment_of w) _
        (λ t op h. mapping w (IsExpr w Assignment) (After (t ∷ []) Given) (within w below part Assignment) (λ f. tree.Assign op.0 e f op.1) (Expr Assignment) (λ ys f second. is_assignment t op.0 op.1 xs ys e f h left second))

    assigning_grounded : GroundedAt w (assigns w e) Given (guard (nat_lt below (depth_of_expr e)) too_deep (assigned w below part e))
    assigning_grounded [] h = absurd (cc h)
    assigning_grounded (t ∷ ts) h =
        let left : IsExpr w Prefix xs e = unary_alone w xs e is (and_first (is_unary e) (is_some (assignment_of w t)) h) in
        barring w Given (assigns w e) (nat_lt below (depth_of_expr e)) (assigned w below part e) (λ t i. can_assign w xs e left t (and_second (is_unary e) (is_some (assignment_of w t)) i)) (assigned_grounded left) (t ∷ ts) h

  assignment_grounded : Grounded w (IsExpr w Assignment) (assignment w below part)
  unfolding assignment
  assignment_grounded =
      one_by_one w (IsExpr w Conditional) (IsExpr w Assignment) (conditional w below part) _ conditional_grounded (λ xs e is. whole_text (IsExpr w Assignment) xs e (is_chosen xs e is))
      (λ xs e is. choosing w (Given xs e is) (assigns w e) _ _ (assigning_grounded xs e is) (giving w (Given xs e is) e (subst (λ z. IsExpr w Assignment z e) (sym (append-nil xs)) (is_chosen xs e is))))

  followed_grounded : (xs : List Token) (e : ExprTree) → IsExpr w Sequence xs e → GroundedAt w (is_comma w) (After xs (IsExpr w Sequence)) (followed w below part e)
  unfolding followed
  followed_grounded xs e is =
      barring w (After xs (IsExpr w Sequence)) (is_comma w) (nat_lt below (depth_of_expr e)) _
      (can_follow w xs e is)
      (opening w (After xs (IsExpr w Sequence)) (is_comma w) _
      (λ t h. mapping w (IsExpr w Assignment) (After (t ∷ []) (After xs (IsExpr w Sequence))) (within w below part Assignment) (λ f. tree.Binary binary.Comma e f t.place) (Expr Assignment)
      (λ ys f second. is_sequence t xs ys e f h is second)))

  sequence_grounded : Grounded w (IsExpr w Sequence) (sequence w below part)
  unfolding sequence
  sequence_grounded =
      one_by_one w (IsExpr w Assignment) (IsExpr w Sequence) (assignment w below part) (looped (is_comma w) (followed w below part)) assignment_grounded (λ xs e is. whole_text (IsExpr w Sequence) xs e (is_assigned xs e is))
      (λ xs e is. turning w (IsExpr w Sequence) (is_comma w) (followed w below part) followed_grounded xs e (is_assigned xs e is))

  pub expr_grounded : (level : Level) → Grounded w (IsExpr w level) (at_level w below part level)
  expr_grounded Primary = primary_grounded
  expr_grounded Postfix = postfix_grounded
  expr_grounded Prefix = prefix_grounded
  expr_grounded (Infix k) = infix_grounded k
  expr_grounded Conditional = conditional_grounded
  expr_grounded Assignment = assignment_grounded
  expr_grounded Sequence = sequence_grounded
