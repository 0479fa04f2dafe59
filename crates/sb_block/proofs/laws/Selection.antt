-- The readers of `if` and `switch` keep the laws.
use Rattle.std.proofs.Common.{◌≡◌, ◌≤◌, ℕ, suc, max, Bool, true, false, ◌&&◌, ◌||◌, List, [], ◌∷◌, ◌++◌, if◌then◌else◌, refl, sym, ap, ◌∙◌, subst, subst₂, append-nil, inl, inr, arith}
use Rattle.std.proofs.Math.Nat.{max-le}
use Rattle.sb_base.specs.declared.interning.Name.{Name}
use Rattle.sb_base.specs.declared.refusals.Place.{Place}
use Rattle.sb_base.specs.declared.tokens.Token.{Token}
use Rattle.sb_parse.specs.Parser.{Outcome, Parser, done, stop, at_next, and_then, ◌>>=◌, pure, token}
use Rattle.sb_parse.specs.Lawful.{Lawful, Follows, OnHead, IsEmpty, Joined, Opened, Mapped, Either}
use Rattle.sb_parse.proofs.Joining.{via, nothing, map_of, in_order, from_there, never_next}
use Rattle.sb_sign.specs.declared.sign.Keyword.TheVariants as keyword
use Rattle.sb_tree.specs.Trees as tree
use Rattle.sb_tree.specs.Trees.{ExprTree, StmtTree, OptionalStmt, depth_of_expr, depth_of_stmt}
use Rattle.sb_lexicon.specs.Lexicon.{is_keyword}
use Rattle.sb_lexicon.specs.Tokens.{unexpected}
use Rattle.sb_parse.proofs.Ways.{following_where, follows_map, perhaps_there}
use Rattle.sb_parse.proofs.Partly.{opened_head}
use Rattle.sb_specifier.specs.Specified.{reading}
use Rattle.sb_statement.specs.Readers.{Parts, other, selected, switched}
use Rattle.sb_statement.specs.Statement.{takes_else, is_if, is_if_else, is_switch}
use Rattle.sb_statement.proofs.laws.Fits.{is_else, more_statement, FitsStatement, FitsBlock, LawfulStatements}
use Rattle.sb_statement.proofs.laws.Expressions.{FitsTested, tested_law}

-- what a parser reads may settle what follows it
pub same_after : {A B : Type 0} {Is : List Token → A → Type 0} {more : A → Token → Bool} {p : Parser Token A} → Lawful Is more p → (f g : A → Parser Token B)
    → ((a : A) (rest : List Token) → at_next (more a) rest ≡ false → f a rest ≡ g a rest) → (ts : List Token) → and_then (p ts) f ≡ and_then (p ts) g
same_after {A = A} {B = B} {p = p} P f g same ts = go (p ts) refl
  where
    go : (o : Outcome Token A) → p ts ≡ o → and_then o f ≡ and_then o g
    go (done a rest) e = same a rest (P.sound ts a rest e).ends
    go (stop n left) e = refl

module _ (texts : List (List ℕ)) (below : ℕ) (part : Parts) (types : List Name) (cases : Bool) where
  abbrev pub is_word_if : Token → Bool
  is_word_if = is_keyword (reading texts types) keyword.If

  abbrev pub Body : List Token → StmtTree → Type 0
  Body = FitsStatement texts below false types

  abbrev pub ElseText : List Token → OptionalStmt → Type 0
  ElseText = Opened (is_else texts) (λ t. Mapped tree.AStmt Body)

  -- behind a statement that takes an `else` there is none
  abbrev pub OtherText : Bool → List Token → OptionalStmt → Type 0
  OtherText true = IsEmpty tree.NoStmt
  OtherText false = Either ElseText (IsEmpty tree.NoStmt)

  abbrev more_other : OptionalStmt → Token → Bool
  more_other tree.NoStmt t = is_else texts t
  more_other (tree.AStmt s) t = more_statement texts s t

  abbrev other_by : Bool → Parser Token OptionalStmt
  other_by takes = if takes then pure tree.NoStmt else other texts below part types

  abbrev pub IfText : List Token → StmtTree → Type 0
  IfText = Opened is_word_if (λ t. Joined (FitsTested texts below part types) (λ e. Joined Body (λ s. Mapped (λ o. tree.If e s o t.place) (OtherText (takes_else s)))))

  abbrev pub SwitchText : List Token → StmtTree → Type 0
  SwitchText = Opened (is_keyword (reading texts types) keyword.Switch) (λ t. Joined (FitsTested texts below part types) (λ e. Mapped (λ s. tree.Switch e s t.place) (FitsBlock texts below true types)))

  module _ (some : 1 ≤ below) (S : LawfulStatements texts below part) where
    else_head : OnHead (is_else texts) ElseText more_other (token unexpected (is_else texts) >>= (λ t. part.statement false types >>= (λ s. pure (tree.AStmt s))))
    else_head = opened_head unexpected (is_else texts) (is_else texts) (λ t h. h) (λ t h. map_of (S.statement false types) tree.AStmt more_other (λ s u. refl))

    other_law : (s : StmtTree) (takes : Bool) → takes_else s ≡ takes → Follows (more_statement texts s) (OtherText takes) more_other (other_by takes)
    unfolding other
    other_law s true h =
        following_where (nothing tree.NoStmt) (more_statement texts s) more_other (λ ts o is u off. refl)
        (λ ts o rest is before off. ap (λ z. at_next (more_other z) rest) is.same ∙ ap (λ b. at_next (λ u. b && is_else texts u) rest) (sym h) ∙ ap (λ z. at_next (more_statement texts s) (z ++ rest)) (sym is.none) ∙ before)
    other_law s false h = perhaps_there tree.NoStmt else_head (λ u. go (is_else texts u) ∙ ap (λ b. is_else texts u || (b && is_else texts u)) (sym h))
      where
        go : (b : Bool) → b ≡ (b || false)
        go true = refl
        go false = refl

    other_apart : (s : StmtTree) (takes : Bool) → takes_else s ≡ takes → (ys : List Token) (o : OptionalStmt) (rest : List Token) → OtherText takes ys o → at_next (more_other o) rest ≡ false
        → at_next (more_statement texts s) (ys ++ rest) ≡ false
    other_apart s true h ys o rest is off =
        ap (λ z. at_next (more_statement texts s) (z ++ rest)) is.none ∙ ap (λ b. at_next (λ u. b && is_else texts u) rest) h ∙ ap (λ z. at_next (more_other z) rest) (sym is.same) ∙ off
    other_apart s false h ys o rest is off = ap (λ b. at_next (λ u. b && is_else texts u) (ys ++ rest)) h ∙ never_next (ys ++ rest)

    same_other : (s : StmtTree) (takes : Bool) → takes_else s ≡ takes → (rest : List Token) → at_next (more_statement texts s) rest ≡ false → other texts below part types rest ≡ other_by takes rest
    unfolding other
    same_other s true h rest off =
        ap (λ b. if b then and_then (token unexpected (is_else texts) rest) (λ t. part.statement false types >>= (λ s. pure (tree.AStmt s))) else done tree.NoStmt rest) (ap (λ b. at_next (λ u. b && is_else texts u) rest) (sym h) ∙ off)
    same_other s false h rest off = refl

    if_rest : (e : ExprTree) (t : Token) → Lawful (Joined Body (λ s. Mapped (λ o. tree.If e s o t.place) (OtherText (takes_else s)))) (more_statement texts)
        (part.statement false types >>= (λ s. other texts below part types >>= (λ o. pure (tree.If e s o t.place))))
    if_rest e t =
        via (from_there {Second = λ s. Mapped (λ o. tree.If e s o t.place) (OtherText (takes_else s))} {q = λ s. other_by (takes_else s) >>= (λ o. pure (tree.If e s o t.place))} (S.statement false types)
        (λ xs s is. follows_map (other_law s (takes_else s) refl) (λ o. tree.If e s o t.place) (more_statement texts) (by_other e s t.place))
        (λ xs s ys o rest first second off. other_apart s (takes_else s) refl ys second.value rest second.is (sym (same_more e s t.place second.value rest) ∙ ap (λ z. at_next (more_statement texts z) rest) (sym second.same) ∙ off)))
        (λ ts s j. j) (λ ts s j. j) (part.statement false types >>= (λ s. other texts below part types >>= (λ o. pure (tree.If e s o t.place))))
        (λ ts. same_after (S.statement false types) (λ s. other texts below part types >>= (λ o. pure (tree.If e s o t.place))) (λ s. other_by (takes_else s) >>= (λ o. pure (tree.If e s o t.place)))
        (λ s rest off. ap (λ o. and_then o (λ o. pure (tree.If e s o t.place))) (same_other s (takes_else s) refl rest off)) ts)
      where
        by_other : (e : ExprTree) (s : StmtTree) (place : Place) (o : OptionalStmt) (u : Token) → more_statement texts (tree.If e s o place) u ≡ more_other o u
        by_other e s place tree.NoStmt u = refl
        by_other e s place (tree.AStmt r) u = refl

        same_more : (e : ExprTree) (s : StmtTree) (place : Place) (o : OptionalStmt) (rest : List Token) → at_next (more_statement texts (tree.If e s o place)) rest ≡ at_next (more_other o) rest
        same_more e s place o [] = refl
        same_more e s place o (u ∷ rest) = by_other e s place o u

    pub if_head : OnHead is_word_if IfText (more_statement texts) (selected texts below part types)
    unfolding selected
    if_head =
        opened_head unexpected is_word_if is_word_if (λ t h. h)
        (λ t h. in_order (tested_law texts below part types some) (λ xs e is. if_rest e t) (λ xs e ys s rest is second off. never_next (ys ++ rest)))

    pub switch_head : OnHead (is_keyword (reading texts types) keyword.Switch) SwitchText (more_statement texts) (switched texts below part types)
    unfolding switched
    switch_head =
        opened_head unexpected (is_keyword (reading texts types) keyword.Switch) (is_keyword (reading texts types) keyword.Switch) (λ t h. h)
        (λ t h. in_order (tested_law texts below part types some) (λ xs e is. map_of (S.block true types) (λ s. tree.Switch e s t.place) (more_statement texts) (λ s u. refl)) (λ xs e ys s rest is second off. never_next (ys ++ rest)))

  -- ---- in the grammar's words

  abbrev pub Fits : List Token → StmtTree → Type 0
  Fits = FitsStatement texts (suc below) cases types

  if_is : (t : Token) (xs zs ys : List Token) (e : ExprTree) (s : StmtTree) (o : OptionalStmt) → is_word_if t ≡ true → FitsTested texts below part types xs e → Body zs s → (takes : Bool) → takes_else s ≡ takes
      → OtherText takes ys o → Fits (t ∷ (xs ++ (zs ++ ys))) (tree.If e s o t.place)
  if_is t xs zs ys e s o word test body takes h is = go takes h is
    where
      two : max (depth_of_expr e) (max (depth_of_stmt s) 0) ≤ below
      two = let none : 0 ≤ below = omega arith in max-le test.1 (max-le body.1 none)

      without : IsEmpty tree.NoStmt ys o → Fits (t ∷ (xs ++ (zs ++ ys))) (tree.If e s o t.place)
      without is =
          subst₂ Fits (ap (λ z. t ∷ (xs ++ z)) (sym (append-nil zs) ∙ ap (λ z. zs ++ z) (sym is.none))) (ap (λ z. tree.If e s z t.place) (sym is.same))
          (is_if cases types t xs zs e s word test.0 body.0, let m = two in omega arith)

      go : (takes : Bool) → takes_else s ≡ takes → OtherText takes ys o → Fits (t ∷ (xs ++ (zs ++ ys))) (tree.If e s o t.place)
      go true h is = without is
      go false h (inr is) = without is
      go false h (inl l) =
          let m = l.is in
          let all : max (depth_of_expr e) (max (depth_of_stmt s) (depth_of_stmt m.value)) ≤ below = max-le test.1 (max-le body.1 m.is.1) in
          subst₂ Fits (ap (λ z. t ∷ (xs ++ (zs ++ z))) (sym l.split)) (ap (λ z. tree.If e s z t.place) (sym m.same))
          (is_if_else cases types t l.opening xs zs l.rest e s m.value word l.passes test.0 body.0 h m.is.0, omega arith)

  pub to_if : (ts : List Token) (s : StmtTree) → IfText ts s → Fits ts s
  to_if ts s o =
      let j = o.is in
      let k = j.second in
      let m = k.second in
      subst₂ Fits (sym (o.split ∙ ap (λ z. o.opening ∷ z) (j.split ∙ ap (λ z. j.before ++ z) k.split))) (sym m.same)
      (if_is o.opening j.before k.before k.after j.value k.value m.value o.passes j.first k.first (takes_else k.value) refl m.is)

  no_other : (takes : Bool) → OtherText takes [] tree.NoStmt
  no_other true = record { none = refl; same = refl }
  no_other false = inr (record { none = refl; same = refl })

  pub from_if : (t : Token) (xs ys : List Token) (e : ExprTree) (s : StmtTree) → is_word_if t ≡ true → FitsTested texts below part types xs e → Body ys s → IfText (t ∷ (xs ++ ys)) (tree.If e s tree.NoStmt t.place)
  from_if t xs ys e s word test body = record {
    opening = t;
    rest = xs ++ ys;
    split = refl;
    passes = word;
    is = record {
      before = xs;
      after = ys;
      value = e;
      split = refl;
      first = test;
      second = record { before = ys; after = []; value = s; split = sym (append-nil ys); first = body; second = record { value = tree.NoStmt; is = no_other (takes_else s); same = refl } };
    };
  }

  pub from_if_else : (t l : Token) (xs ys zs : List Token) (e : ExprTree) (s o : StmtTree) → is_word_if t ≡ true → is_else texts l ≡ true → FitsTested texts below part types xs e → Body ys s → takes_else s ≡ false → Body zs o
      → IfText (t ∷ (xs ++ (ys ++ (l ∷ zs)))) (tree.If e s (tree.AStmt o) t.place)
  from_if_else t l xs ys zs e s o word other_word test body takes_none other_body = record {
    opening = t;
    rest = xs ++ (ys ++ (l ∷ zs));
    split = refl;
    passes = word;
    is = record {
      before = xs;
      after = ys ++ (l ∷ zs);
      value = e;
      split = refl;
      first = test;
      second = record {
        before = ys;
        after = l ∷ zs;
        value = s;
        split = refl;
        first = body;
        second = record {
          value = tree.AStmt o;
          is = subst (λ b. OtherText b (l ∷ zs) (tree.AStmt o)) (sym takes_none) (inl (record { opening = l; rest = zs; split = refl; passes = other_word; is = record { value = o; is = other_body; same = refl } }));
          same = refl;
        };
      };
    };
  }

  pub to_switch : (ts : List Token) (s : StmtTree) → SwitchText ts s → Fits ts s
  to_switch ts s o =
      let j = o.is in
      let m = j.second in
      let both : max (depth_of_expr j.value) (depth_of_stmt m.value) ≤ below = max-le j.first.1 m.is.1 in
      subst₂ Fits (sym (o.split ∙ ap (λ z. o.opening ∷ z) j.split)) (sym m.same) (is_switch cases types o.opening j.before j.after j.value m.value o.passes j.first.0 m.is.0, omega arith)

  pub from_switch : (t : Token) (xs ys : List Token) (e : ExprTree) (s : StmtTree) → is_keyword (reading texts types) keyword.Switch t ≡ true → FitsTested texts below part types xs e → FitsBlock texts below true types ys s
      → SwitchText (t ∷ (xs ++ ys)) (tree.Switch e s t.place)
  from_switch t xs ys e s word test body = record {
    opening = t;
    rest = xs ++ ys;
    split = refl;
    passes = word;
    is = record { before = xs; after = ys; value = e; split = refl; first = test; second = record { value = s; is = body; same = refl } };
  }
