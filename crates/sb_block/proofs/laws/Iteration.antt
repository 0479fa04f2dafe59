-- The readers of `while`, `do` and `for` keep the laws.
use Rattle.std.proofs.Common.{◌≡◌, ◌≤◌, ℕ, suc, max, Bool, true, false, List, [], ◌∷◌, ◌++◌, refl, sym, ap, ◌∙◌, subst₂, append_assoc, arith}
use Rattle.std.proofs.Math.Nat.{max-le}
use Rattle.std.specs.Option.{option_map_or}
use Rattle.sb_base.specs.declared.interning.Name.{Name}
use Rattle.sb_base.specs.declared.refusals.Place.{Place}
use Rattle.sb_base.specs.declared.tokens.PpKind.TheVariants as kind
use Rattle.sb_base.specs.declared.tokens.Token.{Token}
use Rattle.sb_parse.specs.Parser.{at_next}
use Rattle.sb_parse.specs.Lawful.{Lawful, OnHead, Joined, Opened, Closed, Mapped}
use Rattle.sb_parse.proofs.Joining.{via, map_of, in_order, never_next}
use Rattle.sb_parse.proofs.Heads.{opened}
use Rattle.sb_sign.specs.declared.sign.Keyword.TheVariants as keyword
use Rattle.sb_sign.specs.declared.sign.Mark.TheVariants as mark
use Rattle.sb_sign.specs.Signs as sign
use Rattle.sb_tree.specs.Trees as tree
use Rattle.sb_tree.specs.Trees.{ExprTree, OptionalExpr, StmtTree, depth_of_expr, depth_of_optional_expr, depth_of_stmt, depth_of_optional_stmt}
use Rattle.sb_lexicon.specs.Lexicon.{Lexicon, is_keyword}
use Rattle.sb_lexicon.specs.Tokens.{unexpected, is_open, is_close}
use Rattle.sb_lexicon.specs.Outcomes.{nowhere}
use Rattle.sb_expr.proofs.tokens.Ends.{close_ends}
use Rattle.sb_lexicon.proofs.Lexemes.{keyword_is, close_token, close_token_is}
use Rattle.sb_parse.proofs.Ways.{closing, and_fails, goes_on_where}
use Rattle.sb_parse.proofs.Partly.{opened_head}
use Rattle.sb_sal.proofs.Tokens.{open_token, open_token_is}
use Rattle.sb_specifier.specs.Specified.{reading}
use Rattle.sb_specifier.specs.Readers.{is_semicolon}
use Rattle.sb_statement.specs.Readers.{First, Parts, semicolon, optional, repeated, done_first, stepped, iterated}
use Rattle.sb_statement.specs.Statement.{takes_else, is_while, is_do, is_for, IsOptional}
use Rattle.sb_statement.proofs.laws.Fits.{is_else, more_statement, FitsStatement, FitsFirst, LawfulStatements}
use Rattle.sb_statement.proofs.laws.Expressions.{FitsTested, tested_law, OptionalText, optional_law, semicolon_token, semicolon_token_is, semicolon_ends}
use Rattle.sb_statement.proofs.laws.Jumps.{same_closed}

while_token : Token
while_token = record { kind = kind.Word; text = record { 0 = 4294967329 }; place = nowhere; value = 0 }

while_token_is : (w : Lexicon) → is_keyword w keyword.While while_token ≡ true
unfolding while_token
while_token_is w = refl

module _ (texts : List (List ℕ)) (below : ℕ) (part : Parts) (types : List Name) (cases : Bool) where
  abbrev w : Lexicon
  w = reading texts types

  abbrev pub is_word_while : Token → Bool
  is_word_while = is_keyword w keyword.While

  abbrev Body : List Token → StmtTree → Type 0
  Body = FitsStatement texts below false types

  abbrev pub WhileText : List Token → StmtTree → Type 0
  WhileText = Opened is_word_while (λ t. Joined (FitsTested texts below part types) (λ e. Mapped (λ s. tree.While e s t.place) Body))

  abbrev pub DoText : List Token → StmtTree → Type 0
  DoText = Opened (is_keyword w keyword.Do) (λ t. Joined Body (λ s. Opened is_word_while (λ u. Mapped (λ e. tree.Do s e t.place) (Closed (is_semicolon w) (FitsTested texts below part types)))))

  -- the condition, and the expression between the turns
  abbrev TestText : First → List Token → OptionalExpr → Type 0
  TestText f = OptionalText texts below part f.types mark.Semicolon refl (λ u h e. semicolon_ends (reading texts f.types) u h e) semicolon_token (semicolon_token_is (reading texts f.types))

  abbrev StepText : First → List Token → OptionalExpr → Type 0
  StepText f = OptionalText texts below part f.types mark.CloseParenthesis refl (λ u h e. close_ends (reading texts f.types) u h e) close_token (close_token_is (reading texts f.types))

  abbrev RestText : Place → First → List Token → StmtTree → Type 0
  RestText place f = Joined (TestText f) (λ e. Joined (StepText f) (λ g. Mapped (λ s. tree.For f.first e g s place) (FitsStatement texts below false f.types)))

  abbrev pub ForText : List Token → StmtTree → Type 0
  ForText = Opened (is_keyword w keyword.For) (λ t. Opened (is_open w) (λ o. Joined (FitsFirst texts below types) (RestText t.place)))

  no_else : (s : StmtTree) (u : Token) → is_word_while u ≡ true → more_statement texts s u ≡ false
  no_else s u h = and_fails (takes_else s) (is_else texts u) (ap (λ o. option_map_or (sign.is_same_keyword keyword.Else) o false) (keyword_is w keyword.While u h))

  module _ (some : 1 ≤ below) (S : LawfulStatements texts below part) where
    pub while_head : OnHead is_word_while WhileText (more_statement texts) (repeated texts below part types)
    unfolding repeated
    while_head =
        opened_head unexpected is_word_while is_word_while (λ t h. h)
        (λ t h. in_order (tested_law texts below part types some) (λ xs e is. map_of (S.statement false types) (λ s. tree.While e s t.place) (more_statement texts) (λ s u. refl)) (λ xs e ys s rest is second off. never_next (ys ++ rest)))

    pub do_head : OnHead (is_keyword w keyword.Do) DoText (more_statement texts) (done_first texts below part types)
    unfolding done_first semicolon
    do_head =
        opened_head unexpected (is_keyword w keyword.Do) (is_keyword w keyword.Do) (λ t h. h)
        (λ t h. in_order (S.statement false types) (λ xs s is. goes_on_where (opened unexpected is_word_while while_token (while_token_is w)
        (λ u k. closing unexpected (is_semicolon w) semicolon_token (semicolon_token_is w) (tested_law texts below part types some) (λ e c l. refl) (λ e. tree.Do s e t.place))) (more_statement texts) (λ ts r o u. ap (λ z. more_statement texts z u) o.is.same))
        (λ xs s ys r rest is second off. ap (λ z. at_next (more_statement texts s) (z ++ rest)) second.split ∙ no_else s second.opening second.passes))

    rest_law : (place : Place) (f : First) → Lawful (RestText place f) (more_statement texts) (stepped texts below part place f)
    unfolding stepped
    rest_law place f =
        via (in_order (optional_law texts below part f.types mark.Semicolon refl (λ u h e. semicolon_ends (reading texts f.types) u h e) semicolon_token (semicolon_token_is (reading texts f.types)))
        (λ xs e is. in_order (optional_law texts below part f.types mark.CloseParenthesis refl (λ u h e. close_ends (reading texts f.types) u h e) close_token (close_token_is (reading texts f.types)))
        (λ ys g also. map_of (S.statement false f.types) (λ s. tree.For f.first e g s place) (more_statement texts) (λ s u. refl)) (λ xs g ys s rest is second off. never_next (ys ++ rest)))
        (λ xs e ys s rest is second off. never_next (ys ++ rest))) (λ ts s j. j) (λ ts s j. j) (stepped texts below part place f)
        (λ ts. same_closed (optional texts below part f.types (is_semicolon (reading texts f.types)) ts) (is_semicolon (reading texts f.types)) _ _
        (λ e rest. same_closed (optional texts below part f.types (is_close (reading texts f.types)) rest) (is_close (reading texts f.types)) _ _ (λ g later. refl)))

    pub for_head : OnHead (is_keyword w keyword.For) ForText (more_statement texts) (iterated texts below part types)
    unfolding iterated
    for_head =
        opened_head unexpected (is_keyword w keyword.For) (is_keyword w keyword.For) (λ t h. h)
        (λ t h. opened unexpected (is_open w) open_token (open_token_is w) (λ o k. in_order (S.first types) (λ xs f is. rest_law t.place f) (λ xs f ys s rest is second off. never_next (ys ++ rest))))

  -- ---- in the grammar's words

  abbrev Fits : List Token → StmtTree → Type 0
  Fits = FitsStatement texts (suc below) cases types

  pub to_while : (ts : List Token) (s : StmtTree) → WhileText ts s → Fits ts s
  to_while ts s o =
      let j = o.is in
      let m = j.second in
      let both : max (depth_of_expr j.value) (depth_of_stmt m.value) ≤ below = max-le j.first.1 m.is.1 in
      subst₂ Fits (sym (o.split ∙ ap (λ z. o.opening ∷ z) j.split)) (sym m.same) (is_while cases types o.opening j.before j.after j.value m.value o.passes j.first.0 m.is.0, omega arith)

  pub from_while : (t : Token) (xs ys : List Token) (e : ExprTree) (s : StmtTree) → is_word_while t ≡ true → FitsTested texts below part types xs e → Body ys s → WhileText (t ∷ (xs ++ ys)) (tree.While e s t.place)
  from_while t xs ys e s word test body = record {
    opening = t;
    rest = xs ++ ys;
    split = refl;
    passes = word;
    is = record { before = xs; after = ys; value = e; split = refl; first = test; second = record { value = s; is = body; same = refl } };
  }

  pub to_do : (ts : List Token) (s : StmtTree) → DoText ts s → Fits ts s
  to_do ts s o =
      let j = o.is in
      let u = j.second in
      let m = u.is in
      let c = m.is in
      let both : max (depth_of_stmt j.value) (depth_of_expr m.value) ≤ below = max-le j.first.1 c.is.1 in
      subst₂ Fits (sym (o.split ∙ ap (λ z. o.opening ∷ z) (j.split ∙ ap (λ z. j.before ++ z) (u.split ∙ ap (λ z. u.opening ∷ z) c.split)))) (sym m.same)
      (is_do cases types o.opening u.opening c.closing j.before c.front j.value m.value o.passes u.passes c.passes j.first.0 c.is.0, omega arith)

  pub from_do : (t u c : Token) (xs ys : List Token) (s : StmtTree) (e : ExprTree) → is_keyword w keyword.Do t ≡ true → is_word_while u ≡ true → is_semicolon w c ≡ true → Body xs s → FitsTested texts below part types ys e
      → DoText (t ∷ (xs ++ (u ∷ (ys ++ (c ∷ []))))) (tree.Do s e t.place)
  from_do t u c xs ys s e word again ends body test = record {
    opening = t;
    rest = xs ++ (u ∷ (ys ++ (c ∷ [])));
    split = refl;
    passes = word;
    is = record {
      before = xs;
      after = u ∷ (ys ++ (c ∷ []));
      value = s;
      split = refl;
      first = body;
      second = record { opening = u; rest = ys ++ (c ∷ []); split = refl; passes = again; is = record { value = e; is = record { front = ys; closing = c; split = refl; is = test; passes = ends }; same = refl } };
    };
  }

  pub to_for : (ts : List Token) (s : StmtTree) → ForText ts s → Fits ts s
  to_for ts s o =
      let p = o.is in
      let j = p.is in
      let k = j.second in
      let c = k.first in
      let l = k.second in
      let d = l.first in
      let m = l.second in
      let all : max (depth_of_optional_stmt j.value.first) (max (depth_of_optional_expr k.value) (max (depth_of_optional_expr l.value) (depth_of_stmt m.value))) ≤ below = max-le j.first.1 (max-le c.is.1 (max-le d.is.1 m.is.1)) in
      subst₂ Fits (sym (o.split ∙ ap (λ z. o.opening ∷ z) (p.split ∙ ap (λ z. p.opening ∷ z) (j.split ∙ ap (λ z. j.before ++ z)
      (k.split ∙ ap (λ z. z ++ k.after) c.split ∙ append_assoc c.front (c.closing ∷ []) k.after ∙ ap (λ z. c.front ++ (c.closing ∷ z)) (l.split ∙ ap (λ z. z ++ l.after) d.split ∙ append_assoc d.front (d.closing ∷ []) l.after))))))
      (sym m.same)
      (is_for cases types o.opening p.opening c.closing d.closing j.before c.front d.front l.after j.value k.value l.value m.value o.passes p.passes c.passes d.passes j.first.0 c.is.0 d.is.0 m.is.0, omega arith)

  pub from_for : (t o c d : Token) (xs ys zs us : List Token) (f : First) (e g : OptionalExpr) (s : StmtTree) → is_keyword w keyword.For t ≡ true → is_open w o ≡ true → is_semicolon w c ≡ true → is_close w d ≡ true
      → FitsFirst texts below types xs f → IsOptional (reading texts f.types) ys e × (depth_of_optional_expr e ≤ below) → IsOptional (reading texts f.types) zs g × (depth_of_optional_expr g ≤ below)
      → FitsStatement texts below false f.types us s → ForText (t ∷ (o ∷ (xs ++ (ys ++ (c ∷ (zs ++ (d ∷ us))))))) (tree.For f.first e g s t.place)
  from_for t o c d xs ys zs us f e g s word opens ends closes first test step body = record {
    opening = t;
    rest = o ∷ (xs ++ (ys ++ (c ∷ (zs ++ (d ∷ us)))));
    split = refl;
    passes = word;
    is = record {
      opening = o;
      rest = xs ++ (ys ++ (c ∷ (zs ++ (d ∷ us))));
      split = refl;
      passes = opens;
      is = record {
        before = xs;
        after = ys ++ (c ∷ (zs ++ (d ∷ us)));
        value = f;
        split = refl;
        first = first;
        second = record {
          before = ys ++ (c ∷ []);
          after = zs ++ (d ∷ us);
          value = e;
          split = sym (append_assoc ys (c ∷ []) (zs ++ (d ∷ us)));
          first = record { front = ys; closing = c; split = refl; is = test; passes = ends };
          second = record {
            before = zs ++ (d ∷ []);
            after = us;
            value = g;
            split = sym (append_assoc zs (d ∷ []) us);
            first = record { front = zs; closing = d; split = refl; is = step; passes = closes };
            second = record { value = s; is = body; same = refl };
          };
        };
      };
    };
  }
