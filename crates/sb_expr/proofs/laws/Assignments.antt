-- The reader of assignments keeps the laws.
use Rattle.std.proofs.Common.{◌≡◌, ◌≤◌, ℕ, suc, Bool, true, false, ◌||◌, ◌&&◌, nat_lt, List, [], ◌∷◌, ◌++◌, Option, Some, None, is_some, refl, sym, ap, ◌∙◌, subst₂, append-nil, inl, inr, arith}
use Rattle.sb_base.specs.declared.refusals.Place.{Place}
use Rattle.sb_base.specs.declared.tokens.Token.{Token}
use Rattle.sb_parse.specs.Parser.{Parser, at_next, ◌>>=◌, pure, taken, choose, guard}
use Rattle.sb_parse.specs.Lawful.{Lawful, Follows, OnHead, Joined, Begun, IsEmpty, Mapped, Unbarred, Either}
use Rattle.sb_parse.proofs.Joining.{via, from_there, map_of}
use Rattle.sb_parse.proofs.Heads.{begun, begun_heads, at_head, head_via, guarded}
use Rattle.sb_tree.specs.declared.operator.BinaryOp.{BinaryOp}
use Rattle.sb_tree.specs.Trees as tree
use Rattle.sb_tree.specs.Trees.{ExprTree, depth_of_expr}
use Rattle.sb_expr.specs.Expression.{Prefix, Infix, Conditional, Assignment, IsExpr, is_operand, is_grouped, is_primary, is_indexed, is_called, is_member, is_stepped, is_postfix, is_prefixed, is_stepping, is_size_of_expr, is_size_of_type, is_uncast, is_cast, is_tighter, is_binary, is_infix, is_conditional, is_chosen, is_assignment}
use Rattle.sb_lexicon.specs.Lexicon.{Lexicon, assignment_of}
use Rattle.sb_expr.specs.Readers.{Parts, is_unary, assigns, assigned, assignment}
use Rattle.sb_lexicon.specs.Tokens.{unexpected, too_deep}
use Rattle.sb_expr.specs.Reads.{FitsExpr}
use Rattle.sb_expr.proofs.tokens.More.{ends_unary, more_conditional, more_assignment, LawfulParts}
use Rattle.sb_parse.proofs.Ways.{second_fails, perhaps_there}
use Rattle.sb_expr.proofs.tokens.Ends.{assigns_ends}
use Rattle.sb_lexicon.proofs.Depths.{within_room, room_within, room_beside, both_fit, first_fits, second_fits, operand_passes}
use Rattle.sb_expr.proofs.laws.Parenthesized.{raised}
use Rattle.sb_expr.proofs.laws.Primary.{LawfulInside}
use Rattle.sb_expr.proofs.laws.Conditionals.{conditional_law}

-- ---- what may stand on the left

module _ (w : Lexicon) where
  pub prefix_unary : (ts : List Token) (e : ExprTree) → IsExpr w Prefix ts e → is_unary e ≡ true
  prefix_unary _ _ (is_postfix _ _ (is_primary _ _ (is_operand t e h))) = operand_passes w t e is_unary (λ n v at. refl) (λ n at. refl) (λ n at. refl) h
  prefix_unary _ _ (is_postfix _ _ (is_primary _ _ (is_grouped o c xs e opens closes is))) = refl
  prefix_unary _ _ (is_postfix _ _ (is_indexed o c at xs ys e f s closes first second)) = refl
  prefix_unary _ _ (is_postfix _ _ (is_called o c at xs ys e args s closes first second)) = refl
  prefix_unary _ _ (is_postfix _ _ (is_member o n arrow at name xs e s named first)) = refl
  prefix_unary _ _ (is_postfix _ _ (is_stepped t op at xs e s first)) = refl
  prefix_unary _ _ (is_prefixed t op at xs e h is) = refl
  prefix_unary _ _ (is_stepping t op at xs e h is) = refl
  prefix_unary _ _ (is_size_of_expr t xs e h is) = refl
  prefix_unary _ _ (is_size_of_type t o c xs a h opens closes type) = refl

  infix_prefix : (k : ℕ) (ts : List Token) (e : ExprTree) → IsExpr w (Infix k) ts e → is_unary e ≡ true → IsExpr w Prefix ts e
  infix_prefix _ _ _ (is_uncast xs e is) h = is
  infix_prefix _ _ _ (is_cast o c xs ys a e opens closes type is) h = absurd (cc h)
  infix_prefix _ _ _ (is_tighter k xs e is) h = infix_prefix k xs e is h
  infix_prefix _ _ _ (is_binary k t op at xs ys e f s first second) h = absurd (cc h)

  pub unary_prefix : (ts : List Token) (e : ExprTree) → IsExpr w Conditional ts e → is_unary e ≡ true → IsExpr w Prefix ts e
  unary_prefix _ _ (is_infix xs e is) h = infix_prefix 10 xs e is h
  unary_prefix _ _ (is_conditional q c xs ys zs e f g question colon first second third) h = absurd (cc h)

  -- a unary expression is no assignment and no operator's text
  unary_ends : (e : ExprTree) → is_unary e ≡ true → ends_unary e ≡ is_unary e
  unary_ends (tree.Assign op e f place) h = absurd (cc h)
  unary_ends (tree.Binary op e f place) h = refl
  unary_ends _ h = refl

  infix_ends_unary : (k : ℕ) (ts : List Token) (e : ExprTree) → IsExpr w (Infix k) ts e → ends_unary e ≡ is_unary e
  infix_ends_unary _ _ _ (is_uncast xs e is) = unary_ends e (prefix_unary xs e is)
  infix_ends_unary _ _ _ (is_cast o c xs ys a e opens closes type is) = refl
  infix_ends_unary _ _ _ (is_tighter k xs e is) = infix_ends_unary k xs e is
  infix_ends_unary _ _ _ (is_binary k t op at xs ys e f s first second) = refl

  pub conditional_ends_unary : (ts : List Token) (e : ExprTree) → IsExpr w Conditional ts e → ends_unary e ≡ is_unary e
  conditional_ends_unary _ _ (is_infix xs e is) = infix_ends_unary 10 xs e is
  conditional_ends_unary _ _ (is_conditional q c xs ys zs e f g question colon first second third) = refl

-- ---- where something else holds besides

narrowed : {T A : Type 0} {goes : T → Bool} {Is : List T → A → Type 0} {more : A → T → Bool} {p : Parser T A} (b : Bool) → OnHead goes Is more p
    → OnHead (λ t. b && goes t) (λ ts a. (b ≡ true) × Is ts a) more p
narrowed {T = T} {A = A} {goes = goes} {Is = Is} {more = more} {p = p} true P =
    head_via P (λ ts a is. (refl, is)) (λ ts a is. is.1) p (λ ts. refl)
narrowed {T = T} {A = A} {goes = goes} {Is = Is} {more = more} {p = p} false P = record {
  sound = λ ts a rest h e. absurd (cc (sym (none ts) ∙ h));
  complete = λ ts a rest is e. absurd (cc is.0);
  stuck = λ ts n left h e. absurd (cc (sym (none ts) ∙ h));
  heads = λ ts a is. absurd (cc is.0);
}
  where
    none : (ts : List T) → at_next (λ t. false && goes t) ts ≡ false
    none [] = refl
    none (t ∷ ts) = refl

module _ (w : Lexicon) (below : ℕ) where
  abbrev AssignedText : ExprTree → List Token → ExprTree → Type 0
  AssignedText e = Begun (assignment_of w) (λ op. Mapped (λ f. tree.Assign op.0 e f op.1) (FitsExpr w below Assignment))

  abbrev MaybeText : ExprTree → List Token → ExprTree → Type 0
  MaybeText e = Either (Unbarred (nat_lt below (depth_of_expr e)) (λ ts a. (is_unary e ≡ true) × AssignedText e ts a)) (IsEmpty e)

  abbrev Fits : List Token → ExprTree → Type 0
  Fits = FitsExpr w (suc below) Assignment

  joined : (xs ys ts : List Token) (e a : ExprTree) → ts ≡ xs ++ ys → FitsExpr w (suc below) Conditional xs e → MaybeText e ys a → Fits ts a
  joined xs ys ts e a split f (inr m) = subst₂ Fits (sym (split ∙ ap (λ l. xs ++ l) m.none ∙ append-nil xs)) (sym m.same) (is_chosen xs e f.0, f.1)
  joined xs ys ts e a split f (inl u) =
      let b : AssignedText e ys a = u.is.1 in
      let m : Mapped (λ f. tree.Assign b.value.0 e f b.value.1) (FitsExpr w below Assignment) b.rest a = b.is in
      subst₂ Fits (sym (split ∙ ap (λ l. xs ++ l) b.split)) (sym m.same) (
        is_assignment b.opening b.value.0 b.value.1 xs b.rest e m.value b.gives_it (unary_prefix w xs e f.0 u.is.0) m.is.0,
        both_fit (depth_of_expr e) (depth_of_expr m.value) below (within_room below (depth_of_expr e) u.open_way) m.is.1,
      )

  to : (ts : List Token) (a : ExprTree) → Joined (FitsExpr w (suc below) Conditional) MaybeText ts a → Fits ts a
  to ts a j = joined j.before j.after ts j.value a j.split j.first j.second

  from : (ts : List Token) (a : ExprTree) → IsExpr w Assignment ts a → depth_of_expr a ≤ suc below → Joined (FitsExpr w (suc below) Conditional) MaybeText ts a
  from _ _ (is_chosen xs e is) deep = record { before = xs; after = []; value = e; split = sym (append-nil xs); first = (is, deep); second = inr (record { none = refl; same = refl }) }
  from _ _ (is_assignment t op at xs ys e f h first second) deep =
      let left : depth_of_expr e ≤ below = first_fits (depth_of_expr e) (depth_of_expr f) below deep in
      record {
        before = xs;
        after = t ∷ ys;
        value = e;
        split = refl;
        first = (is_infix xs e (raised w 10 xs e (is_uncast xs e first)), omega arith);
        second = inl (record {
          open_way = room_within below (depth_of_expr e) left;
          is = (
            prefix_unary w xs e first,
            record { opening = t; value = (op, at); rest = ys; split = refl; gives_it = h; is = record { value = f; is = (second, second_fits (depth_of_expr e) (depth_of_expr f) below deep); same = refl } },
          );
        });
      }

  module _ (part : ℕ → Parts) (P : LawfulInside w below part) where
    assigned_head : LawfulParts w below (part 0) → (e : ExprTree) → OnHead (λ t. is_some (assignment_of w t)) (AssignedText e) (more_assignment w) (assigned w below part e)
    unfolding assigned
    assigned_head L e = at_head (λ t. is_some (assignment_of w t)) (λ t h. with_sign t (assignment_of w t) refl h) begun_heads
      where
        with_sign : (t : Token) (o : Option (Option BinaryOp × Place)) → assignment_of w t ≡ o → is_some o ≡ true
            → Lawful (AssignedText e) (more_assignment w) (taken unexpected (assignment_of w) >>= (λ op. (part 0).expr Assignment >>= (λ f. pure (tree.Assign op.0 e f op.1))))
        with_sign t None gives h = absurd (cc h)
        with_sign t (Some v) gives h = begun unexpected (assignment_of w) t v gives (λ s op is. map_of (L.expr Assignment) (λ f. tree.Assign op.0 e f op.1) (more_assignment w) (λ f r. refl))

    maybe_law : (xs : List Token) (e : ExprTree) → IsExpr w Conditional xs e
        → Follows (more_conditional w e) (MaybeText e) (more_assignment w) (choose (assigns w e) (guard (nat_lt below (depth_of_expr e)) too_deep (assigned w below part e)) (pure e))
    maybe_law xs e is =
        perhaps_there e (guarded (nat_lt below (depth_of_expr e)) too_deep (λ room. narrowed (is_unary e) (assigned_head (P (room_beside below e room)) e)))
        (λ t. ap (λ b. (b && is_some (assignment_of w t)) || more_conditional w e t) (conditional_ends_unary w xs e is))

    apart : (e : ExprTree) (ys : List Token) (a : ExprTree) (rest : List Token) → MaybeText e ys a → at_next (more_assignment w a) rest ≡ false → at_next (more_conditional w e) (ys ++ rest) ≡ false
    apart e ys a rest (inl u) k = ap (λ l. at_next (more_conditional w e) (l ++ rest)) u.is.1.split ∙ assigns_ends w u.is.1.opening (ap is_some u.is.1.gives_it) e
    apart e ys a rest (inr m) k = ap (λ l. at_next (more_conditional w e) (l ++ rest)) m.none ∙ only_conditional rest (ap (λ x. at_next (more_assignment w x) rest) (sym m.same) ∙ k)
      where
        only_conditional : (rest : List Token) → at_next (more_assignment w e) rest ≡ false → at_next (more_conditional w e) rest ≡ false
        only_conditional [] h = refl
        only_conditional (t ∷ rest) h = second_fails (ends_unary e && is_some (assignment_of w t)) (more_conditional w e t) h

    pub assignment_law : Lawful Fits (more_assignment w) (assignment w below part)
    unfolding assignment
    assignment_law =
        via (from_there {Second = MaybeText} {q = λ e. choose (assigns w e) (guard (nat_lt below (depth_of_expr e)) too_deep (assigned w below part e)) (pure e)} (conditional_law w below part P) (λ xs e f. maybe_law xs e f.0)
        (λ xs e ys a rest is text k. apart e ys a rest text k)) to (λ ts a f. from ts a f.0 f.1) (assignment w below part) (λ ts. refl)
