-- The reader of `?:` keeps the laws.
use Rattle.std.proofs.Common.{◌≡◌, ◌≤◌, ℕ, suc, false, max, nat_lt, List, [], ◌∷◌, ◌++◌, refl, sym, ap, ◌∙◌, subst₂, append-nil, inl, inr, arith}
use Rattle.std.proofs.Math.Nat.{max-le, le-max_left, le-max_right}
use Rattle.sb_base.specs.declared.tokens.Token.{Token}
use Rattle.sb_parse.specs.Parser.{at_next, pure, choose, guard}
use Rattle.sb_parse.specs.Lawful.{Lawful, Follows, OnHead, Joined, Opened, IsEmpty, Mapped, Unbarred, Either}
use Rattle.sb_parse.proofs.Joining.{via, in_order, from_there, map_of}
use Rattle.sb_parse.proofs.Heads.{opened, opened_heads, at_head, guarded}
use Rattle.sb_tree.specs.Trees as tree
use Rattle.sb_tree.specs.Trees.{ExprTree, depth_of_expr}
use Rattle.sb_expr.specs.Expression.{Infix, Conditional, Sequence, IsExpr, is_infix, is_conditional}
use Rattle.sb_lexicon.specs.Lexicon.{Lexicon}
use Rattle.sb_expr.specs.Readers.{Parts, branches, conditional}
use Rattle.sb_lexicon.specs.Tokens.{unexpected, too_deep, is_question, is_colon}
use Rattle.sb_expr.specs.Reads.{FitsExpr}
use Rattle.sb_expr.proofs.tokens.More.{more_infix, more_conditional, more, LawfulParts}
use Rattle.sb_parse.proofs.Ways.{second_fails, perhaps_there}
use Rattle.sb_lexicon.proofs.Marks.{colon_token, colon_token_is}
use Rattle.sb_expr.proofs.tokens.Ends.{question_ends, colon_ends}
use Rattle.sb_lexicon.proofs.Depths.{within_room, room_within, room_beside, both_fit, first_fits, second_fits}
use Rattle.sb_expr.proofs.laws.Primary.{LawfulInside}
use Rattle.sb_expr.proofs.laws.Infixes.{infix_law}

module _ (w : Lexicon) (below : ℕ) where
  abbrev LastText : Token → ExprTree → ExprTree → List Token → ExprTree → Type 0
  LastText q e f = Opened (is_colon w) (λ c. Mapped (λ g. tree.Cond e f g q.place) (FitsExpr w below Conditional))

  abbrev BranchesText : ExprTree → List Token → ExprTree → Type 0
  BranchesText e = Opened (is_question w) (λ q. Joined (FitsExpr w below Sequence) (LastText q e))

  abbrev MaybeText : ExprTree → List Token → ExprTree → Type 0
  MaybeText e = Either (Unbarred (nat_lt below (depth_of_expr e)) (BranchesText e)) (IsEmpty e)

  abbrev Fits : List Token → ExprTree → Type 0
  Fits = FitsExpr w (suc below) Conditional

  joined : (xs ys ts : List Token) (e a : ExprTree) → ts ≡ xs ++ ys → FitsExpr w (suc below) (Infix 10) xs e → MaybeText e ys a → Fits ts a
  joined xs ys ts e a split f (inr m) = subst₂ Fits (sym (split ∙ ap (λ l. xs ++ l) m.none ∙ append-nil xs)) (sym m.same) (is_infix xs e f.0, f.1)
  joined xs ys ts e a split f (inl u) =
      let j : Joined (FitsExpr w below Sequence) (LastText u.is.opening e) u.is.rest a = u.is.is in
      let s : LastText u.is.opening e j.value j.after a = j.second in
      let left : depth_of_expr e ≤ below = within_room below (depth_of_expr e) u.open_way in
      let right : max (depth_of_expr j.value) (depth_of_expr s.is.value) ≤ below = max-le j.first.1 s.is.is.1 in
      subst₂ Fits (sym (split ∙ ap (λ l. xs ++ l) (u.is.split ∙ ap (λ l. u.is.opening ∷ l) (j.split ∙ ap (λ l. j.before ++ l) s.split)))) (sym s.is.same) (
        is_conditional u.is.opening s.opening xs j.before s.rest e j.value s.is.value u.is.passes s.passes f.0 j.first.0 s.is.is.0,
        both_fit (depth_of_expr e) (max (depth_of_expr j.value) (depth_of_expr s.is.value)) below left right,
      )

  to : (ts : List Token) (a : ExprTree) → Joined (FitsExpr w (suc below) (Infix 10)) MaybeText ts a → Fits ts a
  to ts a j = joined j.before j.after ts j.value a j.split j.first j.second

  from : (ts : List Token) (a : ExprTree) → IsExpr w Conditional ts a → depth_of_expr a ≤ suc below → Joined (FitsExpr w (suc below) (Infix 10)) MaybeText ts a
  from _ _ (is_infix xs e is) deep = record { before = xs; after = []; value = e; split = sym (append-nil xs); first = (is, deep); second = inr (record { none = refl; same = refl }) }
  from _ _ (is_conditional q c xs ys zs e f g question colon first second third) deep =
      let left : depth_of_expr e ≤ below = first_fits (depth_of_expr e) (max (depth_of_expr f) (depth_of_expr g)) below deep in
      let right : max (depth_of_expr f) (depth_of_expr g) ≤ below = second_fits (depth_of_expr e) (max (depth_of_expr f) (depth_of_expr g)) below deep in
      let middle : depth_of_expr f ≤ max (depth_of_expr f) (depth_of_expr g) = le-max_left (depth_of_expr f) (depth_of_expr g) in
      let last : depth_of_expr g ≤ max (depth_of_expr f) (depth_of_expr g) = le-max_right (depth_of_expr f) (depth_of_expr g) in
      record {
        before = xs;
        after = q ∷ (ys ++ (c ∷ zs));
        value = e;
        split = refl;
        first = (first, omega arith);
        second = inl (record {
          open_way = room_within below (depth_of_expr e) left;
          is = record {
            opening = q;
            rest = ys ++ (c ∷ zs);
            split = refl;
            passes = question;
            is = record {
              before = ys;
              after = c ∷ zs;
              value = f;
              split = refl;
              first = (second, omega arith);
              second = record { opening = c; rest = zs; split = refl; passes = colon; is = record { value = g; is = (third, omega arith); same = refl } };
            };
          };
        });
      }

  module _ (part : ℕ → Parts) (P : LawfulInside w below part) where
    branches_head : LawfulParts w below (part 0) → (e : ExprTree) → OnHead (is_question w) (BranchesText e) (more_conditional w) (branches w below part e)
    unfolding branches
    branches_head L e =
        at_head (is_question w) (λ t h. opened unexpected (is_question w) t h (λ q passes. in_order {Second = LastText q e} (L.expr Sequence)
        (λ xs f is. opened unexpected (is_colon w) colon_token (colon_token_is w) (λ c closes. map_of (L.expr Conditional) (λ g. tree.Cond e f g q.place) (more_conditional w) (λ g t. refl)))
        (λ xs f ys a rest is last k. ap (λ l. at_next (more w Sequence f) (l ++ rest)) last.split ∙ colon_ends w last.opening last.passes f))) opened_heads

    maybe_law : (e : ExprTree) → Follows (more_infix w 10 e) (MaybeText e) (more_conditional w) (choose (is_question w) (guard (nat_lt below (depth_of_expr e)) too_deep (branches w below part e)) (pure e))
    maybe_law e = perhaps_there e (guarded (nat_lt below (depth_of_expr e)) too_deep (λ room. branches_head (P (room_beside below e room)) e)) (λ t. refl)

    apart : (e : ExprTree) (ys : List Token) (a : ExprTree) (rest : List Token) → MaybeText e ys a → at_next (more_conditional w a) rest ≡ false → at_next (more_infix w 10 e) (ys ++ rest) ≡ false
    apart e ys a rest (inl u) k = ap (λ l. at_next (more_infix w 10 e) (l ++ rest)) u.is.split ∙ question_ends w u.is.opening u.is.passes e
    apart e ys a rest (inr m) k = ap (λ l. at_next (more_infix w 10 e) (l ++ rest)) m.none ∙ only_infix rest (ap (λ x. at_next (more_conditional w x) rest) (sym m.same) ∙ k)
      where
        only_infix : (rest : List Token) → at_next (more_conditional w e) rest ≡ false → at_next (more_infix w 10 e) rest ≡ false
        only_infix [] h = refl
        only_infix (t ∷ rest) h = second_fails (is_question w t) (more_infix w 10 e t) h

    pub conditional_law : Lawful Fits (more_conditional w) (conditional w below part)
    unfolding conditional
    conditional_law =
        via (from_there {Second = MaybeText} {q = λ e. choose (is_question w) (guard (nat_lt below (depth_of_expr e)) too_deep (branches w below part e)) (pure e)} (infix_law w below part P 10) (λ xs e is. maybe_law e)
        (λ xs e ys a rest is text k. apart e ys a rest text k)) to (λ ts a f. from ts a f.0 f.1) (conditional w below part) (λ ts. refl)
