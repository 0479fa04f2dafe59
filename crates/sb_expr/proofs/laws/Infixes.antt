-- The readers of operators between operands keep the laws.
use Rattle.std.proofs.Common.{◌≡◌, ◌≤◌, ℕ, zero, suc, true, ◌||◌, nat_lt, List, [], ◌∷◌, ◌++◌, Option, Some, None, is_some, refl, sym, ap, ◌∙◌, subst, subst₂, append-nil, append_assoc, arith}
use Rattle.sb_base.specs.declared.refusals.Place.{Place}
use Rattle.sb_base.specs.declared.tokens.Token.{Token}
use Rattle.sb_parse.specs.Parser.{◌>>=◌, pure, taken}
use Rattle.sb_parse.specs.Lawful.{Lawful, OnHead, Joined, Begun, Mapped, Unbarred, Turns, over, turn}
use Rattle.sb_parse.proofs.Joining.{via, map_of}
use Rattle.sb_parse.proofs.Heads.{begun, begun_heads, at_head, guarded}
use Rattle.sb_parse.proofs.Looping.{looping}
use Rattle.sb_tree.specs.declared.operator.BinaryOp.{BinaryOp}
use Rattle.sb_tree.specs.Trees as tree
use Rattle.sb_tree.specs.Trees.{ExprTree, depth_of_expr}
use Rattle.sb_expr.specs.Expression.{Infix, IsExpr, is_tighter, is_binary}
use Rattle.sb_lexicon.specs.Lexicon.{Lexicon, operator_of}
use Rattle.sb_expr.specs.Readers.{Parts, operated, infix_at}
use Rattle.sb_lexicon.specs.Tokens.{unexpected, too_deep, is_operator}
use Rattle.sb_expr.specs.Reads.{FitsExpr}
use Rattle.sb_expr.proofs.tokens.More.{more_infix, LawfulParts}
use Rattle.sb_parse.proofs.Ways.{turned_once_more}
use Rattle.sb_expr.proofs.tokens.Ends.{operator_ends}
use Rattle.sb_lexicon.proofs.Depths.{within_room, room_within, room_beside, both_fit, first_fits, second_fits}
use Rattle.sb_expr.proofs.laws.Primary.{LawfulInside}
use Rattle.sb_expr.proofs.laws.Casts.{cast_law}

module _ (w : Lexicon) where
  -- what goes on from an operator's text goes on from its right operand
  pub right_operand : (k : ℕ) (op : BinaryOp) (e f : ExprTree) (at : Place) (t : Token) → more_infix w k (tree.Binary op e f at) t ≡ more_infix w k f t
  right_operand zero op e f at t = refl
  right_operand (suc k) op e f at t = ap (λ b. is_operator w (suc k) t || b) (right_operand k op e f at t)

  module _ (below : ℕ) where
    abbrev Turn : ℕ → ExprTree → List Token → ExprTree → Type 0
    Turn k e = Unbarred (nat_lt below (depth_of_expr e)) (Begun (operator_of w (suc k)) (λ op. Mapped (λ f. tree.Binary op.0 e f op.1) (FitsExpr w below (Infix k))))

    abbrev Fits : ℕ → List Token → ExprTree → Type 0
    Fits k = FitsExpr w (suc below) (Infix k)

    turned : (k : ℕ) (xs ys : List Token) (e f : ExprTree) → Fits (suc k) xs e → Turns (Turn k) e ys f → Fits (suc k) (xs ++ ys) f
    turned k xs _ e _ fits (over _) = subst (λ l. Fits (suc k) l e) (sym (append-nil xs)) fits
    turned k xs _ e f fits (turn _ g _ us vs first rest) =
        let b : Begun (operator_of w (suc k)) (λ op. Mapped (λ f. tree.Binary op.0 e f op.1) (FitsExpr w below (Infix k))) us g = first.is in
        let m : Mapped (λ f. tree.Binary b.value.0 e f b.value.1) (FitsExpr w below (Infix k)) b.rest g = b.is in
        let once : Fits (suc k) (xs ++ us) g = subst₂ (Fits (suc k)) (sym (ap (λ l. xs ++ l) b.split)) (sym m.same)
        (is_binary k b.opening b.value.0 b.value.1 xs b.rest e m.value b.gives_it fits.0 m.is.0, both_fit (depth_of_expr e) (depth_of_expr m.value) below (within_room below (depth_of_expr e) first.open_way) m.is.1) in
        subst (λ l. Fits (suc k) l f) (append_assoc xs us vs) (turned k (xs ++ us) vs g f once rest)

    to : (k : ℕ) (ts : List Token) (e : ExprTree) → Joined (Fits k) (Turns (Turn k)) ts e → Fits (suc k) ts e
    to k ts e j = subst (λ l. Fits (suc k) l e) (sym j.split) (turned k j.before j.after j.value e (is_tighter k j.before j.value j.first.0, j.first.1) j.second)

    once_more : (k : ℕ) (xs us : List Token) (e f : ExprTree) → Joined (Fits k) (Turns (Turn k)) xs e → Turn k e us f → Joined (Fits k) (Turns (Turn k)) (xs ++ us) f
    once_more k xs us e f j once = record {
      before = j.before;
      after = j.after ++ us;
      value = j.value;
      split = ap (λ l. l ++ us) j.split ∙ append_assoc j.before j.after us;
      first = j.first;
      second = turned_once_more j.value e f j.after us j.second once;
    }

    pub from : (k : ℕ) (ts : List Token) (e : ExprTree) → IsExpr w (Infix (suc k)) ts e → depth_of_expr e ≤ suc below → Joined (Fits k) (Turns (Turn k)) ts e
    from _ _ _ (is_tighter k xs e is) deep = record { before = xs; after = []; value = e; split = sym (append-nil xs); first = (is, deep); second = over e }
    from _ _ _ (is_binary k t op at xs ys e f h first second) deep =
        let left : depth_of_expr e ≤ below = first_fits (depth_of_expr e) (depth_of_expr f) below deep in
        let right : depth_of_expr f ≤ below = second_fits (depth_of_expr e) (depth_of_expr f) below deep in
        once_more k xs (t ∷ ys) e (tree.Binary op e f at) (from k xs e first (omega arith))
        (record {
          open_way = room_within below (depth_of_expr e) left;
          is = record { opening = t; value = (op, at); rest = ys; split = refl; gives_it = h; is = record { value = f; is = (second, right); same = refl } };
        })

    module _ (part : ℕ → Parts) (P : LawfulInside w below part) where
      pub operated_head : (k : ℕ) (e : ExprTree) → OnHead (is_operator w (suc k)) (Turn k e) (more_infix w k) (operated w below part k e)
      unfolding operated
      operated_head k e =
          guarded (nat_lt below (depth_of_expr e)) too_deep (λ room. at_head (is_operator w (suc k)) (λ t h. with_operator (P (room_beside below e room)) t (operator_of w (suc k) t) refl h) begun_heads)
        where
          with_operator : LawfulParts w below (part 0) → (t : Token) (o : Option (BinaryOp × Place)) → operator_of w (suc k) t ≡ o → is_some o ≡ true
              → Lawful (Begun (operator_of w (suc k)) (λ op. Mapped (λ f. tree.Binary op.0 e f op.1) (FitsExpr w below (Infix k)))) (more_infix w k)
              (taken unexpected (operator_of w (suc k)) >>= (λ op. (part 0).expr (Infix k) >>= (λ f. pure (tree.Binary op.0 e f op.1))))
          with_operator L t None gives h = absurd (cc h)
          with_operator L t (Some v) gives h = begun unexpected (operator_of w (suc k)) t v gives (λ s op is. map_of (L.expr (Infix k)) (λ f. tree.Binary op.0 e f op.1) (more_infix w k) (λ f r. right_operand k op.0 e f op.1 r))

      pub infix_law : (k : ℕ) → Lawful (Fits k) (more_infix w k) (infix_at w below part k)
      unfolding infix_at
      infix_law zero = cast_law w below part P
      infix_law (suc k) = via (looping (operated_head k) (λ e t h. operator_ends w t k h e) (infix_law k)) (to k) (λ ts e f. from k ts e f.0 f.1) (infix_at w below part (suc k)) (λ ts. refl)
