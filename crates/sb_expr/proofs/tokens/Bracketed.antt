-- No expression begins or goes on with a closing bracket, no declarator goes on with a closing parenthesis, and what begins a declarator is no keyword.
use Rattle.std.proofs.Common.{◌≡◌, ℕ, zero, suc, Bool, true, false, ◌||◌, ◌&&◌, not, List, [], ◌∷◌, ◌++◌, Option, Some, None, is_some, if◌then◌else◌, refl, sym, ap, ◌∙◌}
use Rattle.std.specs.Option.{option_map_or}
use Rattle.sb_base.specs.declared.tokens.Token.{Token}
use Rattle.sb_parse.specs.Parser.{at_next}
use Rattle.sb_parse.proofs.Heads.{head_of_append}
use Rattle.sb_sign.specs.declared.sign.Keyword.TheVariants as keyword
use Rattle.sb_sign.specs.declared.sign.Mark.{Mark}
use Rattle.sb_sign.specs.declared.sign.Mark.TheVariants as mark
use Rattle.sb_sign.specs.Signs as sign
use Rattle.sb_tree.specs.Trees.{ExprTree}
use Rattle.sb_lexicon.specs.Lexicon.{Lexicon, is_mark, by_mark, prefix_at, step_at, assignment_at, of_rank, suffix_at, assignment_of}
use Rattle.sb_expr.specs.Expression.{Level, Assignment, IsExpr, is_operand, is_grouped, is_primary, is_indexed, is_called, is_member, is_stepped, is_postfix, is_prefixed, is_stepping, is_size_of_expr, is_size_of_type, is_uncast, is_cast, is_tighter, is_binary, is_infix, is_conditional, is_chosen, is_assignment, is_assigned, is_sequence}
use Rattle.sb_operand.specs.Pieces.{Piece, points}
use Rattle.sb_operand.specs.Readers.{begins_abstract, calls}
use Rattle.sb_lexicon.specs.Tokens.{is_close, is_close_bracket, is_open, is_open_bracket, is_suffix, is_open_brace, is_qualifier}
use Rattle.sb_expr.proofs.tokens.More.{more, more_infix, more_conditional, more_abstract, ends_unary, ends_in_type, behind_pointers, is_empty}
use Rattle.sb_parse.proofs.Ways.{and_fails}
use Rattle.sb_lexicon.proofs.Lexemes.{keyword_is, mark_is, mark_alone, mark_no_keyword, mark_no_operand, keyword_no_mark}

module _ (w : Lexicon) where
  -- ---- a closing bracket

  bracket_alone : (t : Token) (n : Mark) → sign.is_same_mark n mark.CloseBracket ≡ false → is_close_bracket w t ≡ true → is_mark w n t ≡ false
  bracket_alone t n apart h = mark_alone w mark.CloseBracket n t (mark_is w mark.CloseBracket t h) apart

  -- no mark that some table has
  untabled : {A : Type 0} (gives : Mark → Option A) (t : Token) → gives mark.CloseBracket ≡ None → is_close_bracket w t ≡ true → by_mark gives t.place (sign.mark_of w.texts t) ≡ None
  untabled gives t none h = ap (by_mark gives t.place) (mark_is w mark.CloseBracket t h) ∙ ap (λ o. option_map_or (λ a. Some (a, t.place)) o None) none

  no_suffix : (t : Token) → is_close_bracket w t ≡ true → is_suffix w t ≡ false
  no_suffix t h = ap (λ o. is_some (option_map_or (suffix_at t.place) o None)) (mark_is w mark.CloseBracket t h)

  no_more_infix : (k : ℕ) (e : ExprTree) (t : Token) → is_close_bracket w t ≡ true → more_infix w k e t ≡ false
  no_more_infix zero e t h = by_test (ends_in_type e)
    where
      by_test : (b : Bool) → (if b then is_open_brace w t else is_suffix w t) ≡ false
      by_test true = bracket_alone t mark.OpenBrace refl h
      by_test false = no_suffix t h
  no_more_infix (suc k) e t h = ap (λ o. is_some o || more_infix w k e t) (untabled (of_rank (suc k)) t refl h) ∙ no_more_infix k e t h

  pub no_more_at_bracket : (e : ExprTree) (t : Token) → is_close_bracket w t ≡ true → more w Assignment e t ≡ false
  no_more_at_bracket e t h =
      ap (λ b. b || more_conditional w e t) (and_fails (ends_unary e) (is_some (assignment_of w t)) (ap is_some (untabled assignment_at t refl h)))
      ∙ ap (λ b. b || more_infix w 10 e t) (bracket_alone t mark.Question refl h) ∙ no_more_infix 10 e t h

  abbrev other : Token → Bool
  other t = not (is_close_bracket w t)

  other_mark : (m : Mark) (t : Token) → sign.is_same_mark mark.CloseBracket m ≡ false → is_mark w m t ≡ true → other t ≡ true
  other_mark m t apart h = ap not (mark_alone w m mark.CloseBracket t (mark_is w m t h) apart)

  -- a token that is none is another one
  by_contrary : (t : Token) → (is_close_bracket w t ≡ true → ⊥) → other t ≡ true
  by_contrary t never_so = by_test (is_close_bracket w t) refl
    where
      by_test : (b : Bool) → is_close_bracket w t ≡ b → not b ≡ true
      by_test true h = absurd (never_so h)
      by_test false h = refl

  pub expr_begins : (level : Level) (ts : List Token) (e : ExprTree) → IsExpr w level ts e → at_next other ts ≡ true
  expr_begins _ _ _ (is_operand t e h) = by_contrary t (λ b. let both : None ≡ Some e = sym (mark_no_operand w mark.CloseBracket t (mark_is w mark.CloseBracket t b)) ∙ h in cc both)
  expr_begins _ _ _ (is_grouped o c xs e opens closes is) = other_mark mark.OpenParenthesis o refl opens
  expr_begins _ _ _ (is_primary xs e is) = expr_begins _ xs e is
  expr_begins _ _ _ (is_indexed o c at xs ys e f opens closes is inside) = head_of_append other xs (o ∷ (ys ++ (c ∷ []))) (expr_begins _ xs e is)
  expr_begins _ _ _ (is_called o c at xs ys e args opens closes is inside) = head_of_append other xs (o ∷ (ys ++ (c ∷ []))) (expr_begins _ xs e is)
  expr_begins _ _ _ (is_member o n arrow at name xs e opens named is) = head_of_append other xs (o ∷ (n ∷ [])) (expr_begins _ xs e is)
  expr_begins _ _ _ (is_stepped t op at xs e steps is) = head_of_append other xs (t ∷ []) (expr_begins _ xs e is)
  expr_begins _ _ _ (is_postfix xs e is) = expr_begins _ xs e is
  expr_begins _ _ _ (is_prefixed t op at xs e h is) = by_contrary t (λ b. let both : None ≡ Some (op, at) = sym (untabled prefix_at t refl b) ∙ h in cc both)
  expr_begins _ _ _ (is_stepping t op at xs e h is) = by_contrary t (λ b. let both : None ≡ Some (op, at) = sym (untabled step_at t refl b) ∙ h in cc both)
  expr_begins _ _ _ (is_size_of_expr t xs e h is) = ap (λ o. not (option_map_or (sign.is_same_mark mark.CloseBracket) o false)) (keyword_no_mark w keyword.SizeOf t (keyword_is w keyword.SizeOf t h))
  expr_begins _ _ _ (is_size_of_type t o c xs a h opens closes is) = ap (λ o. not (option_map_or (sign.is_same_mark mark.CloseBracket) o false)) (keyword_no_mark w keyword.SizeOf t (keyword_is w keyword.SizeOf t h))
  expr_begins _ _ _ (is_uncast xs e is) = expr_begins _ xs e is
  expr_begins _ _ _ (is_cast o c xs ys a e opens closes is inside) = other_mark mark.OpenParenthesis o refl opens
  expr_begins _ _ _ (is_tighter k xs e is) = expr_begins _ xs e is
  expr_begins _ _ _ (is_binary k t op at xs ys e f h is right) = head_of_append other xs (t ∷ ys) (expr_begins _ xs e is)
  expr_begins _ _ _ (is_infix xs e is) = expr_begins _ xs e is
  expr_begins _ _ _ (is_conditional q c xs ys zs e f g asks splits is second third) = head_of_append other xs (q ∷ (ys ++ (c ∷ zs))) (expr_begins _ xs e is)
  expr_begins _ _ _ (is_chosen xs e is) = expr_begins _ xs e is
  expr_begins _ _ _ (is_assignment t op at xs ys e f h is right) = head_of_append other xs (t ∷ ys) (expr_begins _ xs e is)
  expr_begins _ _ _ (is_assigned xs e is) = expr_begins _ xs e is
  expr_begins _ _ _ (is_sequence t xs ys e f h is right) = head_of_append other xs (t ∷ ys) (expr_begins _ xs e is)

  not_other : (ts : List Token) → at_next other ts ≡ true → at_next (is_close_bracket w) ts ≡ false
  not_other [] h = refl
  not_other (t ∷ ts) h = by_test (is_close_bracket w t) h
    where
      by_test : (b : Bool) → not b ≡ true → b ≡ false
      by_test true h = absurd (cc h)
      by_test false h = refl

  pub no_bracket_first : (level : Level) (ts : List Token) (e : ExprTree) (rest : List Token) → IsExpr w level ts e → at_next (is_close_bracket w) (ts ++ rest) ≡ false
  no_bracket_first level ts e rest is = not_other (ts ++ rest) (head_of_append other ts rest (expr_begins level ts e is))

  -- ---- what goes on from a declarator

  unqualified : (t : Token) → sign.keyword_of w.texts t ≡ None → is_qualifier w t ≡ false
  unqualified t none =
      ap (λ o. option_map_or (sign.is_same_keyword keyword.Const) o false || (option_map_or (sign.is_same_keyword keyword.Restrict) o false || option_map_or (sign.is_same_keyword keyword.Volatile) o false)) none

  pub mark_unqualified : (m : Mark) (t : Token) → is_mark w m t ≡ true → is_qualifier w t ≡ false
  mark_unqualified m t h = unqualified t (mark_no_keyword w m t (mark_is w m t h))

  pub no_more_at_close : (ps : List Piece) (t : Token) → is_close w t ≡ true → more_abstract w ps t ≡ false
  no_more_at_close ps t h = by_test (is_empty (behind_pointers ps))
    where
      off : (n : Mark) → sign.is_same_mark n mark.CloseParenthesis ≡ false → is_mark w n t ≡ false
      off n apart = mark_alone w mark.CloseParenthesis n t (mark_is w mark.CloseParenthesis t h) apart

      none_begins : begins_abstract w t ≡ false
      none_begins = ap (λ b. b || (is_open w t || is_open_bracket w t)) (off mark.Star refl) ∙ ap (λ b. b || is_open_bracket w t) (off mark.OpenParenthesis refl) ∙ off mark.OpenBracket refl

      by_test : (b : Bool) → (if b then begins_abstract w t || (not (is_empty ps) && is_qualifier w t) else (is_open_bracket w t || calls w (behind_pointers ps) t)) ≡ false
      by_test true = ap (λ b. b || (not (is_empty ps) && is_qualifier w t)) none_begins ∙ and_fails (not (is_empty ps)) (is_qualifier w t) (mark_unqualified mark.CloseParenthesis t h)
      by_test false = ap (λ b. b || calls w (behind_pointers ps) t) (off mark.OpenBracket refl) ∙ and_fails (points (behind_pointers ps)) (is_open w t) (off mark.OpenParenthesis refl)
