-- A token that goes on from the tree of a text makes a longer text, but for the brace of a compound literal.
use Rattle.std.proofs.Common.{◌≡◌, ◌⊎◌, suc, Bool, true, false, ◌||◌, ◌&&◌, List, [], ◌∷◌, ◌++◌, is_some, if◌then◌else◌, refl, sym, ap, ◌∙◌, append_assoc, subst, inl, inr}
use Rattle.sb_base.specs.declared.tokens.Token.{Token}
use Rattle.sb_parse.specs.Read.{CanBegin}
use Rattle.sb_tree.specs.declared.operator.BinaryOp.TheVariants as binary
use Rattle.sb_tree.specs.Trees as tree
use Rattle.sb_tree.specs.Trees.{ExprTree}
use Rattle.sb_lexicon.specs.Lexicon.{Lexicon, assignment_of}
use Rattle.sb_lexicon.specs.Tokens.{is_comma, is_question, is_open_brace, is_suffix, is_operator}
use Rattle.sb_lexicon.proofs.Grounds.{After}
use Rattle.sb_operand.specs.Pieces.{type_of}
use Rattle.sb_parse.proofs.Ways.{and_first, and_second}
use Rattle.sb_expr.specs.Expression.{Level, Postfix, Prefix, Infix, Conditional, Assignment, Sequence, IsExpr, is_operand, is_grouped, is_primary, is_indexed, is_called, is_member, is_stepped, is_postfix, is_prefixed, is_stepping, is_size_of_expr, is_size_of_type, is_uncast, is_cast, is_tighter, is_binary, is_infix, is_conditional, is_chosen, is_assignment, is_assigned, is_sequence}
use Rattle.sb_expr.specs.Readers.{is_unary}
use Rattle.sb_expr.proofs.tokens.More.{more_infix, more_conditional, ends_unary, more_assignment, last_of, more}
use Rattle.sb_expr.specs.Reasons.{ends_in_type}
use Rattle.sb_expr.proofs.laws.Prefix.{prefix_op, step_op, postfix_plain, ahead_of}
use Rattle.sb_expr.proofs.laws.Infixes.{right_operand}
use Rattle.sb_expr.proofs.laws.Assignments.{unary_prefix, conditional_ends_unary}
use Rattle.sb_expr.proofs.laws.Expressions.{assignment_last}
use Rattle.sb_expr.proofs.telling.Expressions.{can_suffix, can_operate, can_ask, can_assign, can_follow}

either : (b c : Bool) → (b || c) ≡ true → (b ≡ true) ⊎ (c ≡ true)
either true c h = inl refl
either false c h = inr h

module _ (w : Lexicon) (t : Token) where
  abbrev pub Goes : Level → List Token → Type 0
  Goes level xs = CanBegin (IsExpr w level) (xs ++ (t ∷ []))

  abbrev pub IsLiteral : ExprTree → Type 0
  IsLiteral e = (ends_in_type e ≡ true) × (is_open_brace w t ≡ true)

  behind : (level : Level) (xs : List Token) → CanBegin (After xs (IsExpr w level)) (t ∷ []) → Goes level xs
  behind level xs c = record { rest = c.rest; tree = c.tree; is = subst (λ z. IsExpr w level z c.tree) (sym (append_assoc xs (t ∷ []) c.rest)) c.is }

  -- what goes on from the last part of a text goes on from the text
  lifted : (inner outer : Level) (put : List Token → List Token) (ys : List Token) → ((zs : List Token) → put (ys ++ zs) ≡ put ys ++ zs)
      → ((us : List Token) (g : ExprTree) → IsExpr w inner us g → (h : ExprTree) × IsExpr w outer (put us) h) → (e f : ExprTree) → (ends_in_type f ≡ true → ends_in_type e ≡ true)
      → Goes inner ys ⊎ IsLiteral f → Goes outer (put ys) ⊎ IsLiteral e
  lifted inner outer put ys over up e f same (inr l) = inr (same l.0, l.1)
  lifted inner outer put ys over up e f same (inl c) =
      let it : (h : ExprTree) × IsExpr w outer (put ((ys ++ (t ∷ [])) ++ c.rest)) h = up ((ys ++ (t ∷ [])) ++ c.rest) c.tree c.is in
      inl (record {
        rest = c.rest;
        tree = it.0;
        is = subst (λ z. IsExpr w outer z it.0) (ap put (append_assoc ys (t ∷ []) c.rest) ∙ over (t ∷ c.rest) ∙ sym (append_assoc (put ys) (t ∷ []) c.rest)) it.1;
      })

  -- the same tokens at a looser level
  looser : (inner outer : Level) (xs : List Token) (e : ExprTree) → ((us : List Token) (g : ExprTree) → IsExpr w inner us g → IsExpr w outer us g) → Goes inner xs ⊎ IsLiteral e → Goes outer xs ⊎ IsLiteral e
  looser inner outer xs e up r = lifted inner outer (λ us. us) xs (λ zs. refl) (λ us g is. (g, up us g is)) e e (λ h. h) r

  postfix_goes : (xs : List Token) (e : ExprTree) → IsExpr w Postfix xs e → is_suffix w t ≡ true → Goes Postfix xs ⊎ IsLiteral e
  postfix_goes xs e is h = inl (behind Postfix xs (can_suffix w xs e is t h))

  pub goes_on : (level : Level) (xs : List Token) (e : ExprTree) → IsExpr w level xs e → more w level e t ≡ true → Goes level xs ⊎ IsLiteral e
  goes_on _ _ _ (is_operand s e i) h = absurd (cc h)
  goes_on _ _ _ (is_grouped o c xs e opens closes is) h = absurd (cc h)
  goes_on _ _ _ (is_primary xs e is) h = postfix_goes xs e (is_primary xs e is) h
  goes_on _ _ _ (is_indexed o c at xs ys e f s closes first second) h = postfix_goes (xs ++ (o ∷ (ys ++ (c ∷ [])))) (tree.Index e f at) (is_indexed o c at xs ys e f s closes first second) h
  goes_on _ _ _ (is_called o c at xs ys e args s closes first second) h = postfix_goes _ _ (is_called o c at xs ys e args s closes first second) h
  goes_on _ _ _ (is_member o n arrow at name xs e s named first) h = postfix_goes _ _ (is_member o n arrow at name xs e s named first) h
  goes_on _ _ _ (is_stepped s op at xs e i first) h = postfix_goes _ _ (is_stepped s op at xs e i first) h
  goes_on _ _ _ (is_postfix xs e is) h =
      looser Postfix Prefix xs e is_postfix (postfix_goes xs e is (sym (ap (λ b. if b then is_open_brace w t else is_suffix w t) (postfix_plain w xs e is)) ∙ h))
  goes_on _ _ _ (is_prefixed s op at xs e i is) h =
      lifted (Infix 0) Prefix (λ us. s ∷ us) xs (λ zs. refl) (λ us g j. (tree.Unary op g at, is_prefixed s op at us g i j)) (tree.Unary op e at) e
      (λ k. ap (λ b. if b then false else ends_in_type e) (prefix_op w s op at i) ∙ k) (goes_on (Infix 0) xs e is (sym (ahead_of w op at e t (prefix_op w s op at i)) ∙ h))
  goes_on _ _ _ (is_stepping s op at xs e i is) h =
      lifted Prefix Prefix (λ us. s ∷ us) xs (λ zs. refl) (λ us g j. (tree.Unary op g at, is_stepping s op at us g i j)) (tree.Unary op e at) e
      (λ k. ap (λ b. if b then false else ends_in_type e) (step_op w s op at i) ∙ k) (goes_on Prefix xs e is (sym (ahead_of w op at e t (step_op w s op at i)) ∙ h))
  goes_on _ _ _ (is_size_of_expr s xs e i is) h =
      lifted Prefix Prefix (λ us. s ∷ us) xs (λ zs. refl) (λ us g j. (tree.SizeOfExpr g s.place, is_size_of_expr s us g i j)) (tree.SizeOfExpr e s.place) e (λ k. k) (goes_on Prefix xs e is h)
  goes_on _ _ _ (is_size_of_type s o c xs a i opens closes is) h = inr (refl, h)
  goes_on _ _ _ (is_uncast xs e is) h = looser Prefix (Infix 0) xs e is_uncast (goes_on Prefix xs e is h)
  goes_on _ _ _ (is_cast o c xs ys a e opens closes type is) h =
      lifted (Infix 0) (Infix 0) (λ us. o ∷ (xs ++ (c ∷ us))) ys (λ zs. ap (λ l. o ∷ l) (sym (append_assoc xs (c ∷ ys) zs)))
      (λ us g j. (tree.Cast (type_of a) g o.place, is_cast o c xs us a g opens closes type j)) (tree.Cast (type_of a) e o.place) e (λ k. k) (goes_on (Infix 0) ys e is h)
  goes_on _ _ _ (is_tighter k xs e is) h = by_operator (either (is_operator w (suc k) t) (more_infix w k e t) h) (λ m. goes_on (Infix k) xs e is m)
    where
      by_operator : (is_operator w (suc k) t ≡ true) ⊎ (more_infix w k e t ≡ true) → (more_infix w k e t ≡ true → Goes (Infix k) xs ⊎ IsLiteral e) → Goes (Infix (suc k)) xs ⊎ IsLiteral e
      by_operator (inl o) inner = inl (behind (Infix (suc k)) xs (can_operate w k xs e (is_tighter k xs e is) t o))
      by_operator (inr m) inner = looser (Infix k) (Infix (suc k)) xs e (is_tighter k) (inner m)
  goes_on _ _ _ (is_binary k s op at xs ys e f i first second) h =
      by_operator (either (is_operator w (suc k) t) (more_infix w k (tree.Binary op e f at) t) h) (λ m. goes_on (Infix k) ys f second (sym (right_operand w k op e f at t) ∙ m))
    where
      by_operator : (is_operator w (suc k) t ≡ true) ⊎ (more_infix w k (tree.Binary op e f at) t ≡ true) → (more_infix w k (tree.Binary op e f at) t ≡ true → Goes (Infix k) ys ⊎ IsLiteral f)
          → Goes (Infix (suc k)) (xs ++ (s ∷ ys)) ⊎ IsLiteral (tree.Binary op e f at)
      by_operator (inl o) inner = inl (behind (Infix (suc k)) (xs ++ (s ∷ ys)) (can_operate w k (xs ++ (s ∷ ys)) (tree.Binary op e f at) (is_binary k s op at xs ys e f i first second) t o))
      by_operator (inr m) inner =
          lifted (Infix k) (Infix (suc k)) (λ us. xs ++ (s ∷ us)) ys (λ zs. sym (append_assoc xs (s ∷ ys) zs)) (λ us g j. (tree.Binary op e g at, is_binary k s op at xs us e g i first j)) (tree.Binary op e f at) f (λ k. k)
          (inner m)
  goes_on _ _ _ (is_infix xs e is) h = by_question (either (is_question w t) (more_infix w 10 e t) h) (λ m. goes_on (Infix 10) xs e is m)
    where
      by_question : (is_question w t ≡ true) ⊎ (more_infix w 10 e t ≡ true) → (more_infix w 10 e t ≡ true → Goes (Infix 10) xs ⊎ IsLiteral e) → Goes Conditional xs ⊎ IsLiteral e
      by_question (inl q) inner = inl (behind Conditional xs (can_ask w xs e is t q))
      by_question (inr m) inner = looser (Infix 10) Conditional xs e is_infix (inner m)
  goes_on _ _ _ (is_conditional q c xs ys zs e f g question colon first second third) h =
      lifted Conditional Conditional (λ us. xs ++ (q ∷ (ys ++ (c ∷ us)))) zs (λ us. ap (λ l. xs ++ (q ∷ l)) (sym (append_assoc ys (c ∷ zs) us)) ∙ sym (append_assoc xs (q ∷ (ys ++ (c ∷ zs))) us))
      (λ us u j. (tree.Cond e f u q.place, is_conditional q c xs ys us e f u question colon first second j)) (tree.Cond e f g q.place) g (λ k. k) (goes_on Conditional zs g third h)
  goes_on _ _ _ (is_chosen xs e is) h = by_sign (either (ends_unary e && is_some (assignment_of w t)) (more_conditional w e t) h) (λ m. goes_on Conditional xs e is m)
    where
      by_sign : ((ends_unary e && is_some (assignment_of w t)) ≡ true) ⊎ (more_conditional w e t ≡ true) → (more_conditional w e t ≡ true → Goes Conditional xs ⊎ IsLiteral e) → Goes Assignment xs ⊎ IsLiteral e
      by_sign (inl s) inner =
          let unary : is_unary e ≡ true = sym (conditional_ends_unary w xs e is) ∙ and_first (ends_unary e) (is_some (assignment_of w t)) s in
          inl (behind Assignment xs (can_assign w xs e (unary_prefix w xs e is unary) t (and_second (ends_unary e) (is_some (assignment_of w t)) s)))
      by_sign (inr m) inner = looser Conditional Assignment xs e is_chosen (inner m)
  goes_on _ _ _ (is_assignment s op at xs ys e f i first second) h =
      lifted Assignment Assignment (λ us. xs ++ (s ∷ us)) ys (λ zs. sym (append_assoc xs (s ∷ ys) zs)) (λ us g j. (tree.Assign op e g at, is_assignment s op at xs us e g i first j)) (tree.Assign op e f at) f (λ k. k)
      (goes_on Assignment ys f second h)
  goes_on _ _ _ (is_assigned xs e is) h =
      by_comma (either (is_comma w t) (more_assignment w (last_of e) t) h) (λ m. goes_on Assignment xs e is (sym (ap (λ x. more_assignment w x t) (assignment_last w xs e is)) ∙ m))
    where
      by_comma : (is_comma w t ≡ true) ⊎ (more_assignment w (last_of e) t ≡ true) → (more_assignment w (last_of e) t ≡ true → Goes Assignment xs ⊎ IsLiteral e) → Goes Sequence xs ⊎ IsLiteral e
      by_comma (inl c) inner = inl (behind Sequence xs (can_follow w xs e (is_assigned xs e is) t c))
      by_comma (inr m) inner = looser Assignment Sequence xs e is_assigned (inner m)
  goes_on _ _ _ (is_sequence s xs ys e f i first second) h = by_comma (either (is_comma w t) (more_assignment w f t) h) (λ m. goes_on Assignment ys f second m)
    where
      by_comma : (is_comma w t ≡ true) ⊎ (more_assignment w f t ≡ true) → (more_assignment w f t ≡ true → Goes Assignment ys ⊎ IsLiteral f) → Goes Sequence (xs ++ (s ∷ ys)) ⊎ IsLiteral (tree.Binary binary.Comma e f s.place)
      by_comma (inl c) inner = inl (behind Sequence (xs ++ (s ∷ ys)) (can_follow w (xs ++ (s ∷ ys)) (tree.Binary binary.Comma e f s.place) (is_sequence s xs ys e f i first second) t c))
      by_comma (inr m) inner =
          lifted Assignment Sequence (λ us. xs ++ (s ∷ us)) ys (λ zs. sym (append_assoc xs (s ∷ ys) zs)) (λ us g j. (tree.Binary binary.Comma e g s.place, is_sequence s xs us e g i first j)) (tree.Binary binary.Comma e f s.place) f (λ k. k)
          (inner m)
