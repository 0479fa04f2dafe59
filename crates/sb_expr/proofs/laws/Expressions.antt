-- The readers of expressions keep the laws, at each level, if those of the parts of their trees do.
use Rattle.std.proofs.Common.{◌≡◌, ◌≤◌, ◌<◌, ◌-◌, ℕ, suc, Bool, true, nat_lt, List, [], ◌∷◌, ◌++◌, Some, refl, sym, ap, ◌∙◌, subst, subst₂, append-nil, append_assoc, arith}
use Rattle.sb_base.specs.declared.refusals.Place.{Place}
use Rattle.sb_base.specs.declared.tokens.Token.{Token}
use Rattle.sb_parse.specs.Lawful.{Lawful, OnHead, Joined, Opened, Mapped, Unbarred, Turns, over, turn}
use Rattle.sb_parse.proofs.Joining.{via, map_of}
use Rattle.sb_parse.proofs.Heads.{opened, opened_heads, at_head, guarded}
use Rattle.sb_parse.proofs.Looping.{looping}
use Rattle.sb_tree.specs.declared.operator.BinaryOp.{BinaryOp}
use Rattle.sb_tree.specs.declared.operator.BinaryOp.TheVariants as binary
use Rattle.sb_sign.specs.declared.sign.Mark.{Mark}
use Rattle.sb_sign.specs.Signs as sign
use Rattle.sb_tree.specs.Trees as tree
use Rattle.sb_tree.specs.Trees.{ExprTree, depth_of_expr}
use Rattle.sb_expr.specs.Expression.{Level, Primary, Postfix, Prefix, Infix, Conditional, Assignment, Sequence, IsExpr, is_uncast, is_cast, is_tighter, is_binary, is_infix, is_conditional, is_chosen, is_assignment, is_assigned, is_sequence}
use Rattle.sb_lexicon.specs.Lexicon.{Lexicon, rank, of_rank}
use Rattle.sb_expr.specs.Readers.{Parts, is_unary, followed, sequence, at_level}
use Rattle.sb_lexicon.specs.Tokens.{unexpected, too_deep, is_comma}
use Rattle.sb_expr.specs.Reads.{FitsExpr}
use Rattle.sb_expr.proofs.tokens.More.{more_assignment, last_of, more, LawfulParts}
use Rattle.sb_parse.proofs.Ways.{goes_on_where, turned_once_more}
use Rattle.sb_lexicon.proofs.Marks.{gives_value}
use Rattle.sb_expr.proofs.tokens.Ends.{has_rank, comma_ends}
use Rattle.sb_lexicon.proofs.Depths.{within_room, room_within, room_beside, room_is, both_fit, first_fits, second_fits}
use Rattle.sb_expr.proofs.laws.Primary.{LawfulInside, primary_law}
use Rattle.sb_expr.proofs.laws.Postfix.{postfix_law}
use Rattle.sb_expr.proofs.laws.Prefix.{prefix_law}
use Rattle.sb_expr.proofs.laws.Infixes.{infix_law}
use Rattle.sb_expr.proofs.laws.Conditionals.{conditional_law}
use Rattle.sb_expr.proofs.laws.Assignments.{prefix_unary, assignment_law}

-- ---- an assignment expression is no comma's

module _ (w : Lexicon) where
  tighter_last : (op : BinaryOp) (e f : ExprTree) (at : Place) (k : ℕ) → rank op ≡ k → k ≤ 10 → last_of (tree.Binary op e f at) ≡ tree.Binary op e f at
  tighter_last binary.Comma e f at k h le = absurd (omega arith)
  tighter_last _ e f at k h le = refl

  unary_last : (e : ExprTree) → is_unary e ≡ true → last_of e ≡ e
  unary_last (tree.Binary op e f place) h = absurd (cc h)
  unary_last _ h = refl

  infix_last : (k : ℕ) (ts : List Token) (e : ExprTree) → k ≤ 10 → IsExpr w (Infix k) ts e → last_of e ≡ e
  infix_last _ _ _ le (is_uncast xs e is) = unary_last e (prefix_unary w xs e is)
  infix_last _ _ _ le (is_cast o c xs ys a e opens closes type is) = refl
  infix_last _ _ _ le (is_tighter k xs e is) = infix_last k xs e (omega arith) is
  infix_last _ _ _ le (is_binary k t op at xs ys e f h first second) =
      let m : (m : Mark) × (sign.mark_of w.texts t ≡ Some m) × (of_rank (suc k) m ≡ Some op) = gives_value (of_rank (suc k)) t.place (sign.mark_of w.texts t) op at h in
      tighter_last op e f at (suc k) (has_rank (suc k) m.0 op m.2) le

  conditional_last : (ts : List Token) (e : ExprTree) → IsExpr w Conditional ts e → last_of e ≡ e
  conditional_last _ _ (is_infix xs e is) = infix_last 10 xs e (omega arith) is
  conditional_last _ _ (is_conditional q c xs ys zs e f g question colon first second third) = refl

  pub assignment_last : (ts : List Token) (e : ExprTree) → IsExpr w Assignment ts e → last_of e ≡ e
  assignment_last _ _ (is_chosen xs e is) = conditional_last xs e is
  assignment_last _ _ (is_assignment t op at xs ys e f h first second) = refl

  -- ---- commas

  module _ (below : ℕ) where
    abbrev Turn : ExprTree → List Token → ExprTree → Type 0
    Turn e = Unbarred (nat_lt below (depth_of_expr e)) (Opened (is_comma w) (λ t. Mapped (λ f. tree.Binary binary.Comma e f t.place) (FitsExpr w below Assignment)))

    abbrev Fits : List Token → ExprTree → Type 0
    Fits = FitsExpr w (suc below) Sequence

    turned : (xs ys : List Token) (e f : ExprTree) → Fits xs e → Turns Turn e ys f → Fits (xs ++ ys) f
    turned xs _ e _ fits (over _) = subst (λ l. Fits l e) (sym (append-nil xs)) fits
    turned xs _ e f fits (turn _ g _ us vs first rest) =
        let o : Opened (is_comma w) (λ t. Mapped (λ f. tree.Binary binary.Comma e f t.place) (FitsExpr w below Assignment)) us g = first.is in
        let m : Mapped (λ f. tree.Binary binary.Comma e f o.opening.place) (FitsExpr w below Assignment) o.rest g = o.is in
        let once : Fits (xs ++ us) g = subst₂ Fits (sym (ap (λ l. xs ++ l) o.split)) (sym m.same)
        (is_sequence o.opening xs o.rest e m.value o.passes fits.0 m.is.0, both_fit (depth_of_expr e) (depth_of_expr m.value) below (within_room below (depth_of_expr e) first.open_way) m.is.1) in
        subst (λ l. Fits l f) (append_assoc xs us vs) (turned (xs ++ us) vs g f once rest)

    to : (ts : List Token) (e : ExprTree) → Joined (FitsExpr w (suc below) Assignment) (Turns Turn) ts e → Fits ts e
    to ts e j = subst (λ l. Fits l e) (sym j.split) (turned j.before j.after j.value e (is_assigned j.before j.value j.first.0, j.first.1) j.second)

    once_more : (xs us : List Token) (e f : ExprTree) → Joined (FitsExpr w (suc below) Assignment) (Turns Turn) xs e → Turn e us f → Joined (FitsExpr w (suc below) Assignment) (Turns Turn) (xs ++ us) f
    once_more xs us e f j once = record {
      before = j.before;
      after = j.after ++ us;
      value = j.value;
      split = ap (λ l. l ++ us) j.split ∙ append_assoc j.before j.after us;
      first = j.first;
      second = turned_once_more j.value e f j.after us j.second once;
    }

    pub from : (ts : List Token) (e : ExprTree) → IsExpr w Sequence ts e → depth_of_expr e ≤ suc below → Joined (FitsExpr w (suc below) Assignment) (Turns Turn) ts e
    from _ _ (is_assigned xs e is) deep = record { before = xs; after = []; value = e; split = sym (append-nil xs); first = (is, deep); second = over e }
    from _ _ (is_sequence t xs ys e f comma first second) deep =
        let left : depth_of_expr e ≤ below = first_fits (depth_of_expr e) (depth_of_expr f) below deep in
        let right : depth_of_expr f ≤ below = second_fits (depth_of_expr e) (depth_of_expr f) below deep in
        once_more xs (t ∷ ys) e (tree.Binary binary.Comma e f t.place) (from xs e first (omega arith))
        (record {
          open_way = room_within below (depth_of_expr e) left;
          is = record { opening = t; rest = ys; split = refl; passes = comma; is = record { value = f; is = (second, right); same = refl } };
        })

    module _ (part : ℕ → Parts) (P : LawfulInside w below part) where
      abbrev more_behind : ExprTree → Token → Bool
      more_behind e = more_assignment w (last_of e)

      pub followed_head : (e : ExprTree) → OnHead (is_comma w) (Turn e) more_behind (followed w below part e)
      unfolding followed
      followed_head e =
          guarded (nat_lt below (depth_of_expr e)) too_deep (λ room.
          at_head (is_comma w) (λ t h. opened unexpected (is_comma w) t h (λ s passes. map_of ((P (room_beside below e room)).expr Assignment) (λ f. tree.Binary binary.Comma e f s.place) more_behind (λ f r. refl))) opened_heads)

      sequence_law : Lawful Fits (more w Sequence) (sequence w below part)
      unfolding sequence
      sequence_law =
          via (looping followed_head (λ e t h. comma_ends w t h (last_of e)) (goes_on_where (assignment_law w below part P) more_behind (λ ts e f t. ap (λ x. more_assignment w x t) (assignment_last ts e f.0))))
          to (λ ts e f. from ts e f.0 f.1) (sequence w below part) (λ ts. refl)

      level_law : (level : Level) → Lawful (FitsExpr w (suc below) level) (more w level) (at_level w below part level)
      level_law Primary = primary_law w below part P
      level_law Postfix = postfix_law w below part P
      level_law Prefix = prefix_law w below part P
      level_law (Infix k) = infix_law w below part P k
      level_law Conditional = conditional_law w below part P
      level_law Assignment = assignment_law w below part P
      level_law Sequence = sequence_law

module _ (w : Lexicon) (below : ℕ) (part : ℕ → Parts) (P : (k : ℕ) → k < below → LawfulParts w (below - k) (part k)) where
  inside : LawfulInside w below part
  inside h = let all : below - 0 ≡ below = omega arith in subst (λ n. LawfulParts w n (part 0)) all (P 0 (room_is below h))

  pub lawful_expr : (level : Level) → Lawful (FitsExpr w (suc below) level) (more w level) (at_level w below part level)
  lawful_expr level = level_law w below part inside level
