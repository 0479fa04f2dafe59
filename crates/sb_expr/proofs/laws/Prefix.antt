-- The readers of what stands before an operand keep the laws.
use Rattle.std.proofs.Common.{◌≡◌, ◌≤◌, ◌<◌, ◌⊎◌, ℕ, suc, Bool, true, false, not, nat_lt, List, [], ◌∷◌, ◌++◌, length, Option, Some, None, is_some, if◌then◌else◌, refl, sym, ap, ◌∙◌, subst, subst₂, inl, inr, arith}
use Rattle.std.proofs.lemmas.Bool.{ltb-true}
use Rattle.std.specs.Option.{option_map_or}
use Rattle.sb_base.specs.declared.refusals.Place.{Place}
use Rattle.sb_base.specs.declared.tokens.Token.{Token}
use Rattle.sb_parse.specs.Parser.{at_next, done, stop, and_then, ◌>>=◌, pure, refuse, taken, choose}
use Rattle.sb_parse.specs.Lawful.{Lawful, OnHead, Begun, Opened, IsEmpty, Mapped, Unbarred, Either}
use Rattle.sb_parse.proofs.Joining.{via, map_of}
use Rattle.sb_parse.proofs.Heads.{opened, opened_heads, begun, begun_heads, at_head, barred, guarded, choice_of, perhaps_of}
use Rattle.sb_tree.specs.declared.operator.UnaryOp.{UnaryOp}
use Rattle.sb_sign.specs.declared.sign.Mark.{Mark}
use Rattle.sb_sign.specs.declared.sign.Mark.TheVariants as mark
use Rattle.sb_sign.specs.Signs as sign
use Rattle.sb_tree.specs.Trees as tree
use Rattle.sb_tree.specs.Trees.{ExprTree, depth_of_expr, depth_of_type}
use Rattle.sb_lexicon.specs.declared.operators.Suffix.{Suffix}
use Rattle.sb_lexicon.specs.declared.operators.Suffix.TheVariants as suffix
use Rattle.sb_parse.specs.Descent.{choose_second}
use Rattle.sb_expr.specs.Expression.{Postfix, Prefix, Infix, IsExpr, is_operand, is_grouped, is_primary, is_indexed, is_called, is_member, is_stepped, is_postfix, is_prefixed, is_stepping, is_size_of_expr, is_size_of_type}
use Rattle.sb_lexicon.specs.Lexicon.{Lexicon, begins_type, prefix_at, step_at, suffix_at, prefix_of, step_of, suffix_of}
use Rattle.sb_operand.specs.Pieces.{Declared, type_of}
use Rattle.sb_expr.specs.Readers.{Parts, prefixed, stepping, size_of_type, no_room_inside, size_of_expr, size_of_either, size_of, prefix_expr, postfix}
use Rattle.sb_lexicon.specs.Tokens.{unexpected, too_deep, compound_literal, is_zero, is_open, is_open_brace, is_prefix, is_step, is_size_of, is_suffix, begins_expr}
use Rattle.sb_expr.specs.Reads.{FitsExpr}
use Rattle.sb_expr.proofs.tokens.More.{is_behind, ends_in_type, more_operand}
use Rattle.sb_parse.proofs.Ways.{goes_on_where, Refuses, one_refuses, both_refuse, only_else}
use Rattle.sb_lexicon.proofs.Lexemes.{close_token}
use Rattle.sb_lexicon.proofs.Marks.{flipped, gives_value, number_token, number_tree, flat_number}
use Rattle.sb_expr.proofs.tokens.Begins.{expr_begins, step_no_prefix, size_no_sign, begins_with_no_prefix}
use Rattle.sb_lexicon.proofs.Depths.{some_type_depth, within_room, room_for, some_room, operand_passes}
use Rattle.sb_parse.proofs.Seconds.{behind, Behind, behind_law, second_of, overlapping_of}
use Rattle.sb_expr.proofs.laws.Parenthesized.{first_of, prefix_is_deep, prefix_no_type, number_inside, TypedText, typed_some, typed_head}
use Rattle.sb_expr.proofs.laws.Primary.{LawfulInside}
use Rattle.sb_expr.proofs.laws.Postfix.{postfix_law}

-- ---- operators before and behind an operand

prefix_ahead : (m : Mark) → option_map_or is_behind (prefix_at m) false ≡ false
prefix_ahead mark.Star = refl
prefix_ahead _ = refl

step_ahead : (m : Mark) → option_map_or is_behind (step_at m) false ≡ false
step_ahead mark.Star = refl
step_ahead _ = refl

abbrev steps_behind : Suffix → Bool
steps_behind (suffix.Step op at) = is_behind op
steps_behind _ = true

suffix_behind : (place : Place) (m : Mark) → option_map_or steps_behind (suffix_at place m) true ≡ true
suffix_behind place mark.Star = refl
suffix_behind place _ = refl

module _ (w : Lexicon) where
  pub prefix_op : (t : Token) (op : UnaryOp) (at : Place) → prefix_of w t ≡ Some (op, at) → is_behind op ≡ false
  prefix_op t op at h =
      let m : (m : Mark) × (sign.mark_of w.texts t ≡ Some m) × (prefix_at m ≡ Some op) = gives_value prefix_at t.place (sign.mark_of w.texts t) op at h in
      ap (λ o. option_map_or is_behind o false) (sym m.2) ∙ prefix_ahead m.0

  pub step_op : (t : Token) (op : UnaryOp) (at : Place) → step_of w t ≡ Some (op, at) → is_behind op ≡ false
  step_op t op at h =
      let m : (m : Mark) × (sign.mark_of w.texts t ≡ Some m) × (step_at m ≡ Some op) = gives_value step_at t.place (sign.mark_of w.texts t) op at h in
      ap (λ o. option_map_or is_behind o false) (sym m.2) ∙ step_ahead m.0

  suffix_op : (t : Token) (op : UnaryOp) (at : Place) → suffix_of w t ≡ Some (suffix.Step op at) → is_behind op ≡ true
  suffix_op t op at h = go (sign.mark_of w.texts t) h
    where
      go : (o : Option Mark) → option_map_or (suffix_at t.place) o None ≡ Some (suffix.Step op at) → is_behind op ≡ true
      go None h = absurd (cc h)
      go (Some m) h = ap (λ s. option_map_or steps_behind s true) (sym h) ∙ suffix_behind t.place m

  -- no text of a postfix expression ends with a type in parentheses
  pub postfix_plain : (ts : List Token) (e : ExprTree) → IsExpr w Postfix ts e → ends_in_type e ≡ false
  postfix_plain _ _ (is_primary _ _ (is_operand t e h)) = flipped (ends_in_type e) (operand_passes w t e (λ f. not (ends_in_type f)) (λ n v at. refl) (λ n at. refl) (λ n at. refl) h)
  postfix_plain _ _ (is_primary _ _ (is_grouped o c xs e opens closes is)) = refl
  postfix_plain _ _ (is_indexed o c at xs ys e f s closes first second) = refl
  postfix_plain _ _ (is_called o c at xs ys e args s closes first second) = refl
  postfix_plain _ _ (is_member o n arrow at name xs e s named first) = refl
  postfix_plain _ _ (is_stepped t op at xs e s first) = ap (λ b. if b then false else ends_in_type e) (suffix_op t op at s)

  pub ahead_of : (op : UnaryOp) (at : Place) (e : ExprTree) (t : Token) → is_behind op ≡ false → more_operand w (tree.Unary op e at) t ≡ more_operand w e t
  ahead_of op at e t h = ap (λ b. if (if b then false else ends_in_type e) then is_open_brace w t else is_suffix w t) h

  abbrev pub NoText : List Token → ExprTree → Type 0
  NoText ts e = ⊥

  module _ (below : ℕ) where
    -- ---- texts

    abbrev PrefixedText : List Token → ExprTree → Type 0
    PrefixedText = Begun (prefix_of w) (λ op. Mapped (λ e. tree.Unary op.0 e op.1) (FitsExpr w below (Infix 0)))

    abbrev SteppingText : List Token → ExprTree → Type 0
    SteppingText = Begun (step_of w) (λ op. Mapped (λ e. tree.Unary op.0 e op.1) (FitsExpr w below Prefix))

    abbrev SizeRest : Place → Token → Declared → List Token → ExprTree → Type 0
    SizeRest at o a = Either NoText (IsEmpty (tree.SizeOfType (type_of a) at))

    abbrev SizedType : Place → List Token → ExprTree → Type 0
    SizedType at = TypedText w below (SizeRest at)

    abbrev SizedExpr : Place → List Token → ExprTree → Type 0
    SizedExpr at = Mapped (λ e. tree.SizeOfExpr e at) (FitsExpr w below Prefix)

    -- the texts that begin with `(`
    abbrev SizedInside : Place → List Token → ExprTree → Type 0
    SizedInside at ts e = SizedType at ts e ⊎ (SizedExpr at ts e × (at_next (is_open w) ts ≡ true))

    abbrev SizeText : List Token → ExprTree → Type 0
    SizeText = Opened (is_size_of w) (λ s. Either (SizedInside s.place) (SizedExpr s.place))

    abbrev PrefixText : List Token → ExprTree → Type 0
    PrefixText = Either (Unbarred (is_zero below) PrefixedText) (Either (Unbarred (is_zero below) SteppingText) (Either (Unbarred (is_zero below) SizeText) (FitsExpr w (suc below) Postfix)))

    -- ---- from texts to the relation

    abbrev Fits : List Token → ExprTree → Type 0
    Fits = FitsExpr w (suc below) Prefix

    to_sized_type : (s : Token) (ts : List Token) (e : ExprTree) → is_size_of w s ≡ true → SizedType s.place ts e → Fits (s ∷ ts) e
    to_sized_type s ts e size text = go text.is.second.is
      where
        go : SizeRest s.place text.opening text.is.value text.is.second.rest e → Fits (s ∷ ts) e
        go (inl none) = absurd none
        go (inr n) =
            let deep : depth_of_type (type_of text.is.value) ≤ below = text.is.first.1 in
            let split : ts ≡ text.opening ∷ (text.is.before ++ (text.is.second.opening ∷ [])) =
            text.split ∙ ap (λ l. text.opening ∷ l) (text.is.split ∙ ap (λ l. text.is.before ++ l) (text.is.second.split ∙ ap (λ l. text.is.second.opening ∷ l) n.none)) in
            subst₂ Fits (sym (ap (λ l. s ∷ l) split)) (sym n.same)
            (is_size_of_type s text.opening text.is.second.opening text.is.before text.is.value size text.passes text.is.second.passes text.is.first.0, omega arith)

    to_sized_expr : (s : Token) (ts : List Token) (e : ExprTree) → is_size_of w s ≡ true → SizedExpr s.place ts e → Fits (s ∷ ts) e
    to_sized_expr s ts e size m = let deep : depth_of_expr m.value ≤ below = m.is.1 in subst (Fits (s ∷ ts)) (sym m.same) (is_size_of_expr s ts m.value size m.is.0, omega arith)

    to_size : (s : Token) (ts : List Token) (e : ExprTree) → is_size_of w s ≡ true → Either (SizedInside s.place) (SizedExpr s.place) ts e → Fits (s ∷ ts) e
    to_size s ts e size (inl (inl text)) = to_sized_type s ts e size text
    to_size s ts e size (inl (inr m)) = to_sized_expr s ts e size m.0
    to_size s ts e size (inr m) = to_sized_expr s ts e size m

    to : (ts : List Token) (e : ExprTree) → PrefixText ts e → Fits ts e
    to ts e (inl u) =
        let m : Mapped (λ e. tree.Unary u.is.value.0 e u.is.value.1) (FitsExpr w below (Infix 0)) u.is.rest e = u.is.is in
        let deep : depth_of_expr m.value ≤ below = m.is.1 in
        subst₂ Fits (sym u.is.split) (sym m.same) (is_prefixed u.is.opening u.is.value.0 u.is.value.1 u.is.rest m.value u.is.gives_it m.is.0, omega arith)
    to ts e (inr (inl u)) =
        let m : Mapped (λ e. tree.Unary u.is.value.0 e u.is.value.1) (FitsExpr w below Prefix) u.is.rest e = u.is.is in
        let deep : depth_of_expr m.value ≤ below = m.is.1 in
        subst₂ Fits (sym u.is.split) (sym m.same) (is_stepping u.is.opening u.is.value.0 u.is.value.1 u.is.rest m.value u.is.gives_it m.is.0, omega arith)
    to ts e (inr (inr (inl u))) = subst (λ l. Fits l e) (sym u.is.split) (to_size u.is.opening u.is.rest e u.is.passes u.is.is)
    to ts e (inr (inr (inr f))) = (is_postfix ts e f.0, f.1)

    -- ---- from the relation to texts

    from : (ts : List Token) (e : ExprTree) → IsExpr w Prefix ts e → depth_of_expr e ≤ suc below → PrefixText ts e
    from _ _ (is_postfix xs e is) deep = inr (inr (inr (is, deep)))
    from _ _ (is_prefixed t op at xs e h is) deep =
        let inside : depth_of_expr e ≤ below = omega arith in
        inl (record { open_way = room_for below e inside; is = record { opening = t; value = (op, at); rest = xs; split = refl; gives_it = h; is = record { value = e; is = (is, inside); same = refl } } })
    from _ _ (is_stepping t op at xs e h is) deep =
        let inside : depth_of_expr e ≤ below = omega arith in
        inr (inl (record { open_way = room_for below e inside; is = record { opening = t; value = (op, at); rest = xs; split = refl; gives_it = h; is = record { value = e; is = (is, inside); same = refl } } }))
    from _ _ (is_size_of_expr t xs e h is) deep =
        let inside : depth_of_expr e ≤ below = omega arith in
        inr (inr (inl (record { open_way = room_for below e inside; is = record { opening = t; rest = xs; split = refl; passes = h; is = inr (record { value = e; is = (is, inside); same = refl }) } })))
    from _ _ (is_size_of_type t o c xs a h opens closes is) deep =
        let inside : depth_of_type (type_of a) ≤ below = omega arith in
        inr (inr (inl (record {
          open_way = some_room below (depth_of_type (type_of a)) (some_type_depth (type_of a)) inside;
          is = record {
            opening = t;
            rest = o ∷ (xs ++ (c ∷ []));
            split = refl;
            passes = h;
            is = inl (inl (record {
              opening = o;
              rest = xs ++ (c ∷ []);
              split = refl;
              passes = opens;
              is = record { before = xs; after = c ∷ []; value = a; split = refl; first = (is, inside); second = record { opening = c; rest = []; split = refl; passes = closes; is = inr (record { none = refl; same = refl }) } };
            }));
          };
        })))

    -- ---- the laws

    module _ (part : ℕ → Parts) (P : LawfulInside w below part) where
      prefixed_head : is_zero below ≡ false → OnHead (is_prefix w) PrefixedText (more_operand w) (prefixed w below part)
      unfolding prefixed
      prefixed_head deep = at_head (is_prefix w) (λ t h. with_sign t (prefix_of w t) refl h) begun_heads
        where
          with_sign : (t : Token) (o : Option (UnaryOp × Place)) → prefix_of w t ≡ o → is_some o ≡ true
              → Lawful PrefixedText (more_operand w) (taken unexpected (prefix_of w) >>= (λ op. (part 0).expr (Infix 0) >>= (λ e. pure (tree.Unary op.0 e op.1))))
          with_sign t None gives h = absurd (cc h)
          with_sign t (Some v) gives h =
              begun unexpected (prefix_of w) t v gives (λ s op is. map_of ((P deep).expr (Infix 0)) (λ e. tree.Unary op.0 e op.1) (more_operand w) (λ e r. ahead_of op.0 op.1 e r (prefix_op s op.0 op.1 is)))

      stepping_head : is_zero below ≡ false → OnHead (is_step w) SteppingText (more_operand w) (stepping w below part)
      unfolding stepping
      stepping_head deep = at_head (is_step w) (λ t h. with_sign t (step_of w t) refl h) begun_heads
        where
          with_sign : (t : Token) (o : Option (UnaryOp × Place)) → step_of w t ≡ o → is_some o ≡ true
              → Lawful SteppingText (more_operand w) (taken unexpected (step_of w) >>= (λ op. (part 0).expr Prefix >>= (λ e. pure (tree.Unary op.0 e op.1))))
          with_sign t None gives h = absurd (cc h)
          with_sign t (Some v) gives h =
              begun unexpected (step_of w) t v gives (λ s op is. map_of ((P deep).expr Prefix) (λ e. tree.Unary op.0 e op.1) (more_operand w) (λ e r. ahead_of op.0 op.1 e r (step_op s op.0 op.1 is)))

      sized_type_head : is_zero below ≡ false → (at : Place) (o : Token) → is_open w o ≡ true → OnHead (begins_type w) (Behind o (SizedType at)) (more_operand w) (behind o (size_of_type w below part at))
      unfolding size_of_type
      sized_type_head deep at o h =
          typed_head w below (SizeRest at) part (P deep) (λ o a. choose (is_open_brace w) (refuse compound_literal) (pure (tree.SizeOfType (type_of a) at)))
          (λ o a. perhaps_of (tree.SizeOfType (type_of a) at) (barred (is_open_brace w) NoText (more_operand w) compound_literal (λ ts e none. none)) (λ t. refl)) o h

      sized_expr_law : is_zero below ≡ false → (at : Place) → Lawful (SizedExpr at) (more_operand w) (size_of_expr w below part at)
      unfolding size_of_expr
      sized_expr_law deep at = map_of ((P deep).expr Prefix) (λ e. tree.SizeOfExpr e at) (more_operand w) (λ e t. refl)

      no_empty_expr : (at : Place) (e : ExprTree) → SizedExpr at [] e → ⊥
      no_empty_expr at e m = cc (expr_begins w Prefix [] m.value m.is.0)

      -- there is room for an expression in the parentheses
      roomy_law : is_zero below ≡ false → nat_lt below 2 ≡ false → (at : Place) (o : Token) → is_open w o ≡ true
          → Lawful (Behind o (SizedInside at)) (more_operand w) (choose (begins_type w) (behind o (size_of_type w below part at)) (behind o (size_of_expr w below part at)))
      roomy_law deep room at o h =
          via (choice_of (sized_type_head deep at o h) (behind_law (sized_expr_law deep at) (no_empty_expr at) o (number_token ∷ (close_token ∷ [])) (tree.SizeOfExpr (tree.Paren number_tree o.place) at)
          (record { value = tree.Paren number_tree o.place; is = (number_inside w o h, number_fits); same = refl })) apart) there back
          (choose (begins_type w) (behind o (size_of_type w below part at)) (behind o (size_of_expr w below part at))) (λ ts. refl)
        where
          number_fits : suc (depth_of_expr number_tree) ≤ below
          number_fits = let flat : depth_of_expr number_tree ≡ 1 = flat_number in let two : 2 ≤ below = within_room below 2 room in omega arith

          apart : (ts : List Token) (e : ExprTree) (rest : List Token) → Behind o (SizedExpr at) ts e → at_next (more_operand w e) rest ≡ false → at_next (begins_type w) (ts ++ rest) ≡ false
          apart ts e rest m k = prefix_no_type w (o ∷ ts) m.value rest m.is.0 h

          there : (ts : List Token) (e : ExprTree) → Either (Behind o (SizedType at)) (Behind o (SizedExpr at)) ts e → Behind o (SizedInside at) ts e
          there ts e (inl text) = inl text
          there ts e (inr m) = inr (m, h)

          back : (ts : List Token) (e : ExprTree) → Behind o (SizedInside at) ts e → Either (Behind o (SizedType at)) (Behind o (SizedExpr at)) ts e
          back ts e (inl text) = inl text
          back ts e (inr m) = inr m.0

      -- there is none
      cramped_law : is_zero below ≡ false → nat_lt below 2 ≡ true → (at : Place) (o : Token) → is_open w o ≡ true
          → Lawful (Behind o (SizedInside at)) (more_operand w) (choose (begins_type w) (behind o (size_of_type w below part at)) (behind o (no_room_inside w below part)))
      unfolding no_room_inside size_of_type
      cramped_law deep full at o h =
          via (only_else (behind o (no_room_inside w below part)) (sized_type_head deep at o h) refuses text.0 text.1 text.2) (λ ts e t. inl t) back
          (choose (begins_type w) (behind o (size_of_type w below part at)) (behind o (no_room_inside w below part))) (λ ts. refl)
        where
          text : (xs : List Token) × (e : ExprTree) × SizedType at (o ∷ xs) e
          text = typed_some w below (SizeRest at) part (P deep) (λ o a. choose (is_open_brace w) (refuse compound_literal) (pure (tree.SizeOfType (type_of a) at)))
              (λ o a. perhaps_of (tree.SizeOfType (type_of a) at) (barred (is_open_brace w) NoText (more_operand w) compound_literal (λ ts e none. none)) (λ t. refl)) o h

          inside : (x : List Token) → no_room_inside w below part (o ∷ x) ≡ choose (begins_expr w) (refuse too_deep) (refuse unexpected) x
          inside x = ap (λ b. and_then (if b then done o x else stop unexpected (suc (length x))) (λ s. choose (begins_expr w) (refuse too_deep) (refuse unexpected))) h

          refuses : (ts : List Token) → Refuses (behind o (no_room_inside w below part)) ts
          refuses ts =
              let either : Refuses {A = ExprTree} (choose (begins_expr w) (refuse too_deep) (refuse unexpected)) ts =
              both_refuse (begins_expr w) (refuse too_deep) (refuse unexpected) ts (one_refuses too_deep ts) (one_refuses unexpected ts) in
              record { number = either.number; halts = λ x same. inside x ∙ either.halts x same }

          back : (ts : List Token) (e : ExprTree) → Behind o (SizedInside at) ts e → Behind o (SizedType at) ts e
          back ts e (inl text) = text
          back ts e (inr m) = absurd (let two : 2 ≤ depth_of_expr m.0.value = prefix_is_deep w (o ∷ ts) m.0.value m.0.is.0 h in let fits : depth_of_expr m.0.value ≤ below = m.0.is.1 in let less : below < 2 = ltb-true below 2 full in omega arith)

      inside_head : is_zero below ≡ false → (at : Place) → OnHead (is_open w) (SizedInside at) (more_operand w) (size_of_either w below part at)
      unfolding size_of_either
      inside_head deep at = by_room (nat_lt below 2) refl
        where
          heads : (ts : List Token) (e : ExprTree) → SizedInside at ts e → at_next (is_open w) ts ≡ true
          heads ts e (inl text) = opened_heads ts e text
          heads ts e (inr m) = m.1

          by_room : (b : Bool) → nat_lt below 2 ≡ b
              → OnHead (is_open w) (SizedInside at) (more_operand w) (choose_second (begins_type w) (size_of_type w below part at) (if b then no_room_inside w below part else size_of_expr w below part at))
          by_room true k = second_of (λ o h. cramped_law deep k at o h) heads
          by_room false k = second_of (λ o h. roomy_law deep k at o h) heads

      size_head : is_zero below ≡ false → OnHead (is_size_of w) SizeText (more_operand w) (size_of w below part)
      unfolding size_of
      size_head deep =
          at_head (is_size_of w) (λ t h. opened unexpected (is_size_of w) t h (λ s passes. overlapping_of (inside_head deep s.place) (sized_expr_law deep s.place) (within s.place))) opened_heads
        where
          within : (at : Place) (ts : List Token) (e : ExprTree) (rest : List Token) → SizedExpr at ts e → at_next (is_open w) (ts ++ rest) ≡ true → SizedInside at ts e
          within at ts e rest m k = inr (m, first_of w (is_open w) ts rest (expr_begins w Prefix ts m.value m.is.0) k)

      pub prefix_law : Lawful Fits (more_operand w) (prefix_expr w below part)
      unfolding prefix_expr
      prefix_law =
          via (choice_of (guarded (is_zero below) too_deep prefixed_head) (choice_of (guarded (is_zero below) too_deep stepping_head) (choice_of (guarded (is_zero below) too_deep size_head) operand_law size_apart) step_apart) prefix_apart)
          to (λ ts e f. from ts e f.0 f.1) (prefix_expr w below part) (λ ts. refl)
        where
          operand_law : Lawful (FitsExpr w (suc below) Postfix) (more_operand w) (postfix w below part)
          operand_law = goes_on_where (postfix_law w below part P) (more_operand w) (λ ts e f t. ap (λ b. if b then is_open_brace w t else is_suffix w t) (postfix_plain ts e f.0))

          size_apart : (ts : List Token) (e : ExprTree) (rest : List Token) → FitsExpr w (suc below) Postfix ts e → at_next (more_operand w e) rest ≡ false → at_next (is_size_of w) (ts ++ rest) ≡ false
          size_apart ts e rest f k = (begins_with_no_prefix w ts e rest f.0).2

          step_apart : (ts : List Token) (e : ExprTree) (rest : List Token) → Either (Unbarred (is_zero below) SizeText) (FitsExpr w (suc below) Postfix) ts e → at_next (more_operand w e) rest ≡ false → at_next (is_step w) (ts ++ rest) ≡ false
          step_apart ts e rest (inl u) k = ap (λ l. at_next (is_step w) (l ++ rest)) u.is.split ∙ (size_no_sign w u.is.opening u.is.passes).1
          step_apart ts e rest (inr f) k = (begins_with_no_prefix w ts e rest f.0).1

          prefix_apart : (ts : List Token) (e : ExprTree) (rest : List Token) → Either (Unbarred (is_zero below) SteppingText) (Either (Unbarred (is_zero below) SizeText) (FitsExpr w (suc below) Postfix)) ts e
              → at_next (more_operand w e) rest ≡ false → at_next (is_prefix w) (ts ++ rest) ≡ false
          prefix_apart ts e rest (inl u) k = ap (λ l. at_next (is_prefix w) (l ++ rest)) u.is.split ∙ step_no_prefix w u.is.opening (ap is_some u.is.gives_it)
          prefix_apart ts e rest (inr (inl u)) k = ap (λ l. at_next (is_prefix w) (l ++ rest)) u.is.split ∙ (size_no_sign w u.is.opening u.is.passes).0
          prefix_apart ts e rest (inr (inr f)) k = (begins_with_no_prefix w ts e rest f.0).0
