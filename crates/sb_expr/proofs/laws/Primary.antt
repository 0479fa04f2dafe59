-- The readers of operands and parentheses keep the laws.
use Rattle.std.proofs.Common.{◌≡◌, ◌≤◌, ℕ, suc, false, List, [], ◌∷◌, ◌++◌, refl, sym, ap, ◌∙◌, subst, subst₂, inl, inr, arith}
use Rattle.sb_base.specs.declared.tokens.Token.{Token}
use Rattle.sb_parse.specs.Parser.{at_next, never}
use Rattle.sb_parse.specs.Lawful.{Lawful, OnHead, Opened, Closed, Mapped, IsValue, Unbarred, Either}
use Rattle.sb_parse.proofs.Joining.{via, one_value}
use Rattle.sb_parse.proofs.Heads.{opened, opened_heads, at_head, guarded, choice_of}
use Rattle.sb_tree.specs.Trees as tree
use Rattle.sb_tree.specs.Trees.{ExprTree, depth_of_expr}
use Rattle.sb_expr.specs.Expression.{Primary, Sequence, IsExpr, is_operand, is_grouped}
use Rattle.sb_lexicon.specs.Lexicon.{Lexicon, operand_of}
use Rattle.sb_expr.specs.Readers.{Parts, grouped, primary}
use Rattle.sb_lexicon.specs.Tokens.{unexpected, too_deep, is_zero, is_open, is_close}
use Rattle.sb_expr.specs.Reads.{FitsExpr}
use Rattle.sb_expr.proofs.tokens.More.{LawfulParts}
use Rattle.sb_parse.proofs.Ways.{closing}
use Rattle.sb_lexicon.proofs.Lexemes.{close_token, close_token_is}
use Rattle.sb_lexicon.proofs.Marks.{number_token, number_tree, number_token_is}
use Rattle.sb_expr.proofs.tokens.Ends.{close_ends}
use Rattle.sb_expr.proofs.tokens.Begins.{operand_not_open}
use Rattle.sb_lexicon.proofs.Depths.{room_for, operand_flat}

-- the readers of the parts of a tree, where there is room for parts
abbrev pub LawfulInside : Lexicon → ℕ → (ℕ → Parts) → Type 0
LawfulInside w below part = is_zero below ≡ false → LawfulParts w below (part 0)

module _ (w : Lexicon) (below : ℕ) (part : ℕ → Parts) (P : LawfulInside w below part) where
  abbrev GroupedText : List Token → ExprTree → Type 0
  GroupedText = Opened (is_open w) (λ o. Mapped (λ e. tree.Paren e o.place) (Closed (is_close w) (FitsExpr w below Sequence)))

  grouped_head : is_zero below ≡ false → OnHead (is_open w) GroupedText (λ e. never) (grouped w below part)
  unfolding grouped
  grouped_head deep =
      at_head (is_open w) (λ t h. opened unexpected (is_open w) t h (λ o passes.
      closing unexpected (is_close w) close_token (close_token_is w) ((P deep).expr Sequence) (λ e s c. close_ends w s c e) (λ e. tree.Paren e o.place))) opened_heads

  abbrev PrimaryText : List Token → ExprTree → Type 0
  PrimaryText = Either (Unbarred (is_zero below) GroupedText) (IsValue (operand_of w))

  to : (ts : List Token) (e : ExprTree) → PrimaryText ts e → FitsExpr w (suc below) Primary ts e
  to ts e (inr v) =
      let flat : depth_of_expr e ≡ 1 = operand_flat w v.token e v.is in
      (subst (λ l. IsExpr w Primary l e) (sym v.alone) (is_operand v.token e v.is), omega arith)
  to ts e (inl u) =
      let m : Mapped (λ e. tree.Paren e u.is.opening.place) (Closed (is_close w) (FitsExpr w below Sequence)) u.is.rest e = u.is.is in
      let c : Closed (is_close w) (FitsExpr w below Sequence) u.is.rest m.value = m.is in
      let deep : depth_of_expr m.value ≤ below = c.is.1 in
      subst₂ (FitsExpr w (suc below) Primary) (sym (u.is.split ∙ ap (λ z. u.is.opening ∷ z) c.split)) (sym m.same) (is_grouped u.is.opening c.closing c.front m.value u.is.passes c.passes c.is.0, omega arith)

  from : (ts : List Token) (e : ExprTree) → IsExpr w Primary ts e → depth_of_expr e ≤ suc below → PrimaryText ts e
  from _ _ (is_operand t e h) deep = inr (record { token = t; alone = refl; is = h })
  from _ _ (is_grouped o c xs e opens closes is) deep =
      let inside : depth_of_expr e ≤ below = omega arith in
      inl (record {
        open_way = room_for below e inside;
        is = record { opening = o; rest = xs ++ (c ∷ []); split = refl; passes = opens; is = record { value = e; is = record { front = xs; closing = c; split = refl; is = (is, inside); passes = closes }; same = refl } };
      })

  pub primary_law : Lawful (FitsExpr w (suc below) Primary) (λ e. never) (primary w below part)
  unfolding primary
  primary_law =
      via (choice_of (guarded (is_zero below) too_deep grouped_head) (one_value unexpected (operand_of w) number_token number_tree (number_token_is w))
      (λ ts e rest v h. ap (λ l. at_next (is_open w) (l ++ rest)) v.alone ∙ operand_not_open w v.token e v.is)) to (λ ts e f. from ts e f.0 f.1) (primary w below part) (λ ts. refl)
