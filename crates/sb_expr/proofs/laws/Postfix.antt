-- The reader of what stands behind an operand keeps the laws.
use Rattle.std.proofs.Common.{◌≡◌, ◌≤◌, ℕ, suc, true, nat_lt, List, [], ◌∷◌, ◌++◌, Option, Some, None, is_some, refl, sym, ap, ◌∙◌, subst, subst₂, append-nil, append_assoc, inl, inr, arith}
use Rattle.std.specs.Option.{option_map_or}
use Rattle.sb_base.specs.declared.interning.Name.{Name}
use Rattle.sb_base.specs.declared.refusals.Place.{Place}
use Rattle.sb_base.specs.declared.tokens.Token.{Token}
use Rattle.sb_parse.specs.Parser.{never, ◌>>=◌, taken}
use Rattle.sb_parse.specs.Lawful.{Lawful, OnHead, Joined, Begun, IsValue, IsEmpty, Closed, Mapped, Unbarred, Turns, over, turn}
use Rattle.sb_parse.proofs.Joining.{via, one_value, map_of, nothing, goes_on_as}
use Rattle.sb_parse.proofs.Heads.{begun, begun_heads, at_head, guarded}
use Rattle.sb_parse.proofs.Looping.{looping}
use Rattle.sb_tree.specs.Plain.{expr_list}
use Rattle.sb_tree.specs.Trees as tree
use Rattle.sb_tree.specs.Trees.{ExprTree, depth_of_expr}
use Rattle.sb_lexicon.specs.declared.operators.Suffix.{Suffix}
use Rattle.sb_lexicon.specs.declared.operators.Suffix.TheVariants as suffix
use Rattle.sb_expr.specs.Expression.{Primary, Postfix, Sequence, IsExpr, AreArguments, no_arguments, arguments, is_primary, is_indexed, is_called, is_member, is_stepped}
use Rattle.sb_lexicon.specs.Lexicon.{Lexicon, name_of, suffix_of}
use Rattle.sb_expr.specs.Readers.{Parts, indexed, member, suffixed_by, suffixed, postfix}
use Rattle.sb_lexicon.specs.Tokens.{unexpected, too_deep, is_close, is_close_bracket, is_suffix, member_of}
use Rattle.sb_expr.specs.Reads.{FitsExpr}
use Rattle.sb_expr.proofs.tokens.More.{more, LawfulParts}
use Rattle.sb_parse.proofs.Ways.{closing, or_false, turned_once_more}
use Rattle.sb_lexicon.proofs.Lexemes.{close_bracket_token, close_bracket_token_is, name_token, name_token_is}
use Rattle.sb_expr.proofs.tokens.Ends.{bracket_ends}
use Rattle.sb_lexicon.proofs.Depths.{within_room, room_within, room_beside, both_fit, first_fits, second_fits}
use Rattle.sb_expr.proofs.laws.Primary.{LawfulInside, primary_law}
use Rattle.sb_expr.proofs.laws.Arguments.{CallText, FitsSome, depth_of_list, called_law}

-- ---- members

abbrev placed : Token → Option Name → Option (Name × Place)
placed t o = option_map_or (λ n. Some (n, t.place)) o None

member_is : (w : Lexicon) (t : Token) (n : Name) → name_of w t ≡ Some n → member_of w t ≡ Some (n, t.place)
member_is w t n h = ap (placed t) h

is_member_named : (w : Lexicon) (t : Token) (v : Name × Place) → member_of w t ≡ Some v → (name_of w t ≡ Some v.0) × (v.1 ≡ t.place)
is_member_named w t v h = go (name_of w t) h
  where
    go : (o : Option Name) → placed t o ≡ Some v → (o ≡ Some v.0) × (v.1 ≡ t.place)
    go None h = absurd (cc h)
    go (Some n) h = let same : Path (Name × Place) (n, t.place) v = cc h in (ap (λ x. Some x.0) same, ap (λ x. x.1) (sym same))

module _ (w : Lexicon) (below : ℕ) where
  -- what stands behind the first token of a suffix
  abbrev SuffixText : ExprTree → Suffix → List Token → ExprTree → Type 0
  SuffixText e (suffix.Index at) = Mapped (λ f. tree.Index e f at) (Closed (is_close_bracket w) (FitsExpr w below Sequence))
  SuffixText e (suffix.Call at) = CallText w below e at
  SuffixText e (suffix.Member arrow at) = Mapped (λ n. tree.Member e arrow n.0 n.1 at) (IsValue (member_of w))
  SuffixText e (suffix.Step op at) = IsEmpty (tree.Unary op e at)

  abbrev Turn : ExprTree → List Token → ExprTree → Type 0
  Turn e = Unbarred (nat_lt below (depth_of_expr e)) (Begun (suffix_of w) (SuffixText e))

  abbrev Fits : List Token → ExprTree → Type 0
  Fits = FitsExpr w (suc below) Postfix

  -- ---- from texts to the relation

  behind_suffix : (xs rest : List Token) (t : Token) (s : Suffix) (e f : ExprTree) → suffix_of w t ≡ Some s → IsExpr w Postfix xs e → depth_of_expr e ≤ below → SuffixText e s rest f → Fits (xs ++ (t ∷ rest)) f
  behind_suffix xs rest t (suffix.Index at) e f gives is deep m =
      let c : Closed (is_close_bracket w) (FitsExpr w below Sequence) rest m.value = m.is in
      subst₂ Fits (sym (ap (λ l. xs ++ (t ∷ l)) c.split)) (sym m.same)
      (is_indexed t c.closing at xs c.front e m.value gives c.passes is c.is.0, both_fit (depth_of_expr e) (depth_of_expr m.value) below deep c.is.1)
  behind_suffix xs rest t (suffix.Call at) e f gives is deep (inl m) =
      subst₂ Fits (sym (ap (λ l. xs ++ (t ∷ l)) m.is.alone)) (sym m.same) (is_called t m.value at xs [] e [] gives m.is.passes is no_arguments, both_fit (depth_of_expr e) 0 below deep (omega arith))
  behind_suffix xs rest t (suffix.Call at) e f gives is deep (inr m) =
      let c : Closed (is_close w) (FitsSome w below) rest m.value = m.is in
      subst₂ Fits (sym (ap (λ l. xs ++ (t ∷ l)) c.split)) (sym m.same)
      (is_called t c.closing at xs c.front e m.value gives c.passes is (arguments c.front m.value c.is.0), both_fit (depth_of_expr e) (depth_of_list m.value) below deep c.is.1)
  behind_suffix xs rest t (suffix.Member arrow at) e f gives is deep m =
      let v : IsValue (member_of w) rest m.value = m.is in
      let named : (name_of w v.token ≡ Some m.value.0) × (m.value.1 ≡ v.token.place) = is_member_named w v.token m.value v.is in
      subst₂ Fits (sym (ap (λ l. xs ++ (t ∷ l)) v.alone)) (sym (m.same ∙ ap (λ p. tree.Member e arrow m.value.0 p at) named.1))
      (is_member t v.token arrow at m.value.0 xs e gives named.0 is, omega arith)
  behind_suffix xs rest t (suffix.Step op at) e f gives is deep n = subst₂ Fits (sym (ap (λ l. xs ++ (t ∷ l)) n.none)) (sym n.same) (is_stepped t op at xs e gives is, omega arith)

  turned : (xs ys : List Token) (e f : ExprTree) → Fits xs e → Turns Turn e ys f → Fits (xs ++ ys) f
  turned xs _ e _ fits (over _) = subst (λ l. Fits l e) (sym (append-nil xs)) fits
  turned xs _ e f fits (turn _ g _ us vs first rest) =
      let once : Fits (xs ++ us) g = subst (λ l. Fits l g) (sym (ap (λ l. xs ++ l) first.is.split))
      (behind_suffix xs first.is.rest first.is.opening first.is.value e g first.is.gives_it fits.0 (within_room below (depth_of_expr e) first.open_way) first.is.is) in
      subst (λ l. Fits l f) (append_assoc xs us vs) (turned (xs ++ us) vs g f once rest)

  to : (ts : List Token) (e : ExprTree) → Joined (FitsExpr w (suc below) Primary) (Turns Turn) ts e → Fits ts e
  to ts e j = subst (λ l. Fits l e) (sym j.split) (turned j.before j.after j.value e (is_primary j.before j.value j.first.0, j.first.1) j.second)

  -- ---- from the relation to texts

  once_more : (xs us : List Token) (t : Token) (s : Suffix) (e f : ExprTree) → suffix_of w t ≡ Some s → depth_of_expr e ≤ below → Joined (FitsExpr w (suc below) Primary) (Turns Turn) xs e → SuffixText e s us f
      → Joined (FitsExpr w (suc below) Primary) (Turns Turn) (xs ++ (t ∷ us)) f
  once_more xs us t s e f gives deep j text = record {
    before = j.before;
    after = j.after ++ (t ∷ us);
    value = j.value;
    split = ap (λ l. l ++ (t ∷ us)) j.split ∙ append_assoc j.before j.after (t ∷ us);
    first = j.first;
    second = turned_once_more j.value e f j.after (t ∷ us) j.second (record { open_way = room_within below (depth_of_expr e) deep; is = record { opening = t; value = s; rest = us; split = refl; gives_it = gives; is = text } });
  }

  call_text : (e : ExprTree) (at : Place) (c : Token) (ys : List Token) (args : List ExprTree) → is_close w c ≡ true → AreArguments w ys args → depth_of_list args ≤ below → CallText w below e at (ys ++ (c ∷ [])) (tree.Call e (expr_list args) at)
  call_text e at c _ _ closes no_arguments deep = inl (record { value = c; is = record { alone = refl; passes = closes }; same = refl })
  call_text e at c _ _ closes (arguments xs es are) deep = inr (record { value = es; is = record { front = xs; closing = c; split = refl; is = (are, deep); passes = closes }; same = refl })

  from : (ts : List Token) (e : ExprTree) → IsExpr w Postfix ts e → depth_of_expr e ≤ suc below → Joined (FitsExpr w (suc below) Primary) (Turns Turn) ts e
  from _ _ (is_primary xs e is) deep = record { before = xs; after = []; value = e; split = sym (append-nil xs); first = (is, deep); second = over e }
  from _ _ (is_indexed o c at xs ys e f gives closes first second) deep =
      let left : depth_of_expr e ≤ below = first_fits (depth_of_expr e) (depth_of_expr f) below deep in
      once_more xs (ys ++ (c ∷ [])) o (suffix.Index at) e (tree.Index e f at) gives left (from xs e first (omega arith))
      (record { value = f; is = record { front = ys; closing = c; split = refl; is = (second, second_fits (depth_of_expr e) (depth_of_expr f) below deep); passes = closes }; same = refl })
  from _ _ (is_called o c at xs ys e args gives closes first second) deep =
      let left : depth_of_expr e ≤ below = first_fits (depth_of_expr e) (depth_of_list args) below deep in
      once_more xs (ys ++ (c ∷ [])) o (suffix.Call at) e (tree.Call e (expr_list args) at) gives left (from xs e first (omega arith))
      (call_text e at c ys args closes second (second_fits (depth_of_expr e) (depth_of_list args) below deep))
  from _ _ (is_member o n arrow at name xs e gives named first) deep =
      let left : depth_of_expr e ≤ below = omega arith in
      once_more xs (n ∷ []) o (suffix.Member arrow at) e (tree.Member e arrow name n.place at) gives left (from xs e first (omega arith))
      (record { value = (name, n.place); is = record { token = n; alone = refl; is = member_is w n name named }; same = refl })
  from _ _ (is_stepped t op at xs e gives first) deep =
      let left : depth_of_expr e ≤ below = omega arith in
      once_more xs [] t (suffix.Step op at) e (tree.Unary op e at) gives left (from xs e first (omega arith)) (record { none = refl; same = refl })

  -- ---- the laws

  module _ (part : ℕ → Parts) (P : LawfulInside w below part) where
    suffix_law : LawfulParts w below (part 0) → (e : ExprTree) (s : Suffix) → Lawful (SuffixText e s) (λ f. never) (suffixed_by w below part e s)
    unfolding indexed member
    suffix_law L e (suffix.Index at) = closing unexpected (is_close_bracket w) close_bracket_token (close_bracket_token_is w) (L.expr Sequence) (λ f t h. bracket_ends w t h f) (λ f. tree.Index e f at)
    suffix_law L e (suffix.Call at) = called_law w below part L e at
    suffix_law L e (suffix.Member arrow at) =
        map_of (one_value unexpected (member_of w) name_token (name_token.text, name_token.place) (member_is w name_token name_token.text (name_token_is w))) (λ n. tree.Member e arrow n.0 n.1 at) (λ f. never) (λ n t. refl)
    suffix_law L e (suffix.Step op at) = nothing (tree.Unary op e at)

    suffixed_head : (e : ExprTree) → OnHead (is_suffix w) (Turn e) (λ f. never) (suffixed w below part e)
    unfolding suffixed
    suffixed_head e = guarded (nat_lt below (depth_of_expr e)) too_deep (λ room. at_head (is_suffix w) (λ t h. with_suffix (P (room_beside below e room)) t (suffix_of w t) refl h) begun_heads)
      where
        with_suffix : LawfulParts w below (part 0) → (t : Token) (o : Option Suffix) → suffix_of w t ≡ o → is_some o ≡ true → Lawful (Begun (suffix_of w) (SuffixText e)) (λ f. never) (taken unexpected (suffix_of w) >>= suffixed_by w below part e)
        with_suffix L t None gives h = absurd (cc h)
        with_suffix L t (Some s) gives h = begun unexpected (suffix_of w) t s gives (λ r v is. suffix_law L e v)

    pub postfix_law : Lawful (FitsExpr w (suc below) Postfix) (more w Postfix) (postfix w below part)
    unfolding postfix
    postfix_law =
        via (goes_on_as (looping suffixed_head (λ e t h. refl) (primary_law w below part P)) (more w Postfix) (λ e t. sym (or_false (is_suffix w t)))) to (λ ts e f. from ts e f.0 f.1) (postfix w below part) (λ ts. refl)
