-- The readers of expressions in statements keep the laws: in parentheses, with a semicolon, and where they may be left out.
use Rattle.std.proofs.Common.{◌≡◌, ◌≤◌, ◌+◌, ℕ, zero, suc, Bool, true, false, List, [], ◌∷◌, ◌++◌, if◌then◌else◌, refl, sym, ap, ◌∙◌, subst, subst₂, inl, inr, arith}
use Rattle.sb_base.specs.declared.interning.Name.{Name}
use Rattle.sb_base.specs.declared.tokens.PpKind.TheVariants as kind
use Rattle.sb_base.specs.declared.tokens.Token.{Token}
use Rattle.sb_parse.specs.Parser.{Outcome, Parser, done, stop, at_next, never, and_then, ◌>>=◌, pure, token, choose}
use Rattle.sb_parse.specs.Lawful.{Lawful, IsEmpty, Opened, Closed, Mapped, Either}
use Rattle.sb_parse.proofs.Joining.{via, nothing}
use Rattle.sb_parse.proofs.Heads.{opened, head_of_append}
use Rattle.sb_sign.specs.declared.sign.Mark.{Mark}
use Rattle.sb_sign.specs.declared.sign.Mark.TheVariants as mark
use Rattle.sb_tree.specs.Trees as tree
use Rattle.sb_tree.specs.Trees.{ExprTree, OptionalExpr, StmtTree, depth_of_expr, depth_of_optional_expr, depth_of_stmt}
use Rattle.sb_expr.specs.Expression.{Level, Sequence}
use Rattle.sb_lexicon.specs.Lexicon.{Lexicon, is_mark}
use Rattle.sb_expr.specs.Readers.{no_parts, whole_parts, expr_reader}
use Rattle.sb_lexicon.specs.Tokens.{unexpected, is_open, is_close, begins_expr}
use Rattle.sb_expr.specs.Reads.{FitsExpr}
use Rattle.sb_lexicon.specs.Outcomes.{nowhere}
use Rattle.sb_expr.proofs.tokens.Begins.{expr_begins}
use Rattle.sb_lexicon.proofs.Depths.{some_depth}
use Rattle.sb_expr.proofs.tokens.Ends.{close_ends, sequence_ends}
use Rattle.sb_lexicon.proofs.Lexemes.{mark_is, close_token, close_token_is}
use Rattle.sb_expr.proofs.tokens.More.{more}
use Rattle.sb_expr.proofs.Tying.{lawful_parts}
use Rattle.sb_parse.proofs.Descending.{descent_bottom}
use Rattle.sb_parse.proofs.Ways.{closing, Refuses, one_refuses, both_refuse, goes_on_where}
use Rattle.sb_sal.specs.Spellings.{begins_note}
use Rattle.sb_parse.proofs.Partly.{Partly, as_partly, partly_via, with_text, refusing, choosing, opened_head}
use Rattle.sb_sal.proofs.Tokens.{open_token, open_token_is}
use Rattle.sb_specifier.specs.Specified.{reading}
use Rattle.sb_specifier.specs.Readers.{is_semicolon}
use Rattle.sb_parse.specs.Texts.{with_front}
use Rattle.sb_parse.proofs.Texts.{WithText, text_law}
use Rattle.sb_statement.specs.Readers.{Parts, first_place, expression, in_parentheses, semicolon, evaluated, optional}
use Rattle.sb_statement.specs.Statement.{IsTested, is_tested, IsOptional, no_expr, an_expr, IsEvaluated, is_evaluated}
use Rattle.sb_statement.proofs.laws.Chains.{AMark, begins_none, sign_begins_none}
use Rattle.sb_statement.proofs.laws.Fits.{more_statement}

-- ---- tokens that there are in any case

abbrev own : ℕ → Token
own n = record { kind = kind.Punct; text = record { 0 = 4294967296 + n }; place = nowhere; value = 0 }

pub semicolon_token : Token
semicolon_token = own 69

pub semicolon_token_is : (w : Lexicon) → is_semicolon w semicolon_token ≡ true
unfolding semicolon_token
semicolon_token_is w = refl

-- ---- expressions at a depth

-- without room an expression is refused whatever is next
pub expr_refuses : (w : Lexicon) (level : Level) (ts : List Token) → Refuses (expr_reader w 0 level) ts
expr_refuses w level ts = record { number = it.number; halts = λ x e. ap (λ p. p.expr level x) (descent_bottom (no_parts w) (whole_parts w)) ∙ it.halts x e }
  where
    it : Refuses ((no_parts w).expr level) ts
    it = both_refuse _ _ _ ts (one_refuses _ ts) (one_refuses _ ts)

pub no_expr_fits : (w : Lexicon) (level : Level) (ts : List Token) (e : ExprTree) → FitsExpr w 0 level ts e → ⊥
no_expr_fits w level ts e is = let some : 1 ≤ depth_of_expr e = some_depth e in let none : depth_of_expr e ≤ 0 = is.1 in absurd (omega arith)

pub expr_law : (w : Lexicon) (below : ℕ) (level : Level) → 1 ≤ below → Lawful (FitsExpr w below level) (more w level) (expr_reader w below level)
expr_law w below level some = (lawful_parts w below some).expr level

pub semicolon_ends : (w : Lexicon) (t : Token) → is_semicolon w t ≡ true → (e : ExprTree) → more w Sequence e t ≡ false
semicolon_ends w t h e = sequence_ends w t mark.Semicolon (mark_is w mark.Semicolon t h) (refl, refl) (λ j le. refl) refl refl refl e

module _ (texts : List (List ℕ)) (below : ℕ) (part : Parts) (types : List Name) where
  abbrev w : Lexicon
  w = reading texts types

  -- ---- in parentheses

  abbrev pub FitsTested : List Token → ExprTree → Type 0
  FitsTested ts e = IsTested w ts e × (depth_of_expr e ≤ below)

  abbrev TestedText : List Token → ExprTree → Type 0
  TestedText = Opened (is_open w) (λ o. Mapped (λ e. e) (Closed (is_close w) (FitsExpr w below Sequence)))

  to_tested : (ts : List Token) (e : ExprTree) → TestedText ts e → FitsTested ts e
  to_tested ts e o =
      let m = o.is in
      let c = m.is in
      subst₂ FitsTested (sym (o.split ∙ ap (λ z. o.opening ∷ z) c.split)) (sym m.same) (is_tested o.opening c.closing c.front m.value o.passes c.passes c.is.0, c.is.1)

  from_tested : (ts : List Token) (e : ExprTree) → IsTested w ts e → depth_of_expr e ≤ below → TestedText ts e
  from_tested _ _ (is_tested o c ts e opens closes is) le =
      record { opening = o; rest = ts ++ (c ∷ []); split = refl; passes = opens; is = record { value = e; is = record { front = ts; closing = c; split = refl; is = (is, le); passes = closes }; same = refl } }

  pub tested_law : 1 ≤ below → Lawful FitsTested (λ _. never) (in_parentheses texts below part types)
  unfolding in_parentheses expression
  tested_law some =
      via (opened unexpected (is_open w) open_token (open_token_is w) (λ o h. closing unexpected (is_close w) close_token (close_token_is w) (expr_law w below Sequence some) (λ e u k. close_ends w u k e) (λ e. e)))
      to_tested (λ ts e is. from_tested ts e is.0 is.1) (in_parentheses texts below part types) (λ ts. refl)

  -- ---- where an expression may be left out

  module _ (m : Mark) (off : begins_none (AMark m) ≡ true) (ends : (t : Token) → is_mark w m t ≡ true → (e : ExprTree) → more w Sequence e t ≡ false) (t : Token) (there : is_mark w m t ≡ true) where
    abbrev pub FitsOptional : List Token → OptionalExpr → Type 0
    FitsOptional ts e = IsOptional w ts e × (depth_of_optional_expr e ≤ below)

    abbrev pub OptionalText : List Token → OptionalExpr → Type 0
    OptionalText = Closed (is_mark w m) FitsOptional

    abbrev EndedText : List Token → OptionalExpr → Type 0
    EndedText = Mapped tree.AnExpr (Closed (is_mark w m) (FitsExpr w below Sequence))

    abbrev EitherText : List Token → OptionalExpr → Type 0
    EitherText = Either (Opened (is_mark w m) (λ c. IsEmpty tree.NoExpr)) EndedText

    ended_partly : Partly EndedText (λ _. never) (expression texts below part types >>= (λ e. token unexpected (is_mark w m) >>= (λ c. pure (tree.AnExpr e))))
    unfolding expression
    ended_partly = by_room below refl
      where
        by_room : (n : ℕ) → n ≡ below → Partly EndedText (λ _. never) (expr_reader w below Sequence >>= (λ e. token unexpected (is_mark w m) >>= (λ c. pure (tree.AnExpr e))))
        by_room zero h =
            partly_via (refusing (λ _. never) (expr_reader w below Sequence >>= (λ e. token unexpected (is_mark w m) >>= (λ c. pure (tree.AnExpr e)))) (λ ts. halts ts (subst (λ n. Refuses (expr_reader w n Sequence) ts) h (expr_refuses w Sequence ts))))
            (λ ts e none. absurd none) (λ ts e u. no_expr_fits w Sequence u.is.front u.value (subst (λ n. FitsExpr w n Sequence u.is.front u.value) (sym h) u.is.is))
            (expr_reader w below Sequence >>= (λ e. token unexpected (is_mark w m) >>= (λ c. pure (tree.AnExpr e)))) (λ ts. refl)
          where
            halts : (ts : List Token) → Refuses (expr_reader w below Sequence) ts → Refuses (expr_reader w below Sequence >>= (λ e. token unexpected (is_mark w m) >>= (λ c. pure (tree.AnExpr e)))) ts
            halts ts r = record { number = r.number; halts = λ x e. ap (λ o. and_then o (λ e. token unexpected (is_mark w m) >>= (λ c. pure (tree.AnExpr e)))) (r.halts x e) }
        by_room (suc n) h =
            as_partly (closing unexpected (is_mark w m) t there (expr_law w below Sequence (subst (λ z. 1 ≤ z) h (omega arith))) (λ e u k. ends u k e) tree.AnExpr)

    apart : (ts : List Token) (a : OptionalExpr) (rest : List Token) → EndedText ts a → at_next never rest ≡ false → at_next (is_mark w m) (ts ++ rest) ≡ false
    apart ts a rest u e = ap (λ z. at_next (is_mark w m) (z ++ rest)) u.is.split ∙ go u.is.front (expr_begins w Sequence u.is.front u.value u.is.is.0)
      where
        go : (front : List Token) → at_next (begins_expr w) front ≡ true → at_next (is_mark w m) ((front ++ (u.is.closing ∷ [])) ++ rest) ≡ false
        go [] h = absurd (cc h)
        go (s ∷ front) h = by_test (is_mark w m s) refl
          where
            by_test : (b : Bool) → is_mark w m s ≡ b → b ≡ false
            by_test false k = refl
            by_test true k = let both : true ≡ false = sym h ∙ sign_begins_none texts types (AMark m) s off k in absurd (cc both)

    abbrev ends_optional : Parser Token OptionalExpr
    ends_optional = choose (is_mark w m) (token unexpected (is_mark w m) >>= (λ c. pure tree.NoExpr)) (expression texts below part types >>= (λ e. token unexpected (is_mark w m) >>= (λ c. pure (tree.AnExpr e))))

    abbrev pub optional_reader : Parser Token OptionalExpr
    optional_reader = optional texts below part types (is_mark w m) >>= (λ e. token unexpected (is_mark w m) >>= (λ c. pure e))

    same_optional : (ts : List Token) → optional_reader ts ≡ ends_optional ts
    unfolding optional
    same_optional ts = by_test (at_next (is_mark w m) ts)
      where
        by_outcome : (o : Outcome Token ExprTree) → and_then (and_then o (λ e. pure (tree.AnExpr e))) (λ e. token unexpected (is_mark w m) >>= (λ c. pure e)) ≡ and_then o (λ e. token unexpected (is_mark w m) >>= (λ c. pure (tree.AnExpr e)))
        by_outcome (done e rest) = refl
        by_outcome (stop n left) = refl

        by_test : (b : Bool) → and_then (if b then done tree.NoExpr ts else and_then (expression texts below part types ts) (λ e. pure (tree.AnExpr e))) (λ e. token unexpected (is_mark w m) >>= (λ c. pure e))
            ≡ (if b then and_then (token unexpected (is_mark w m) ts) (λ c. pure tree.NoExpr) else and_then (expression texts below part types ts) (λ e. token unexpected (is_mark w m) >>= (λ c. pure (tree.AnExpr e))))
        by_test true = refl
        by_test false = by_outcome (expression texts below part types ts)

    to_optional : (ts : List Token) (e : OptionalExpr) → EitherText ts e → OptionalText ts e
    to_optional ts e (inl o) =
        let none : 0 ≤ below = omega arith in
        record { front = []; closing = o.opening; split = o.split ∙ ap (λ z. o.opening ∷ z) o.is.none; is = subst (FitsOptional []) (sym o.is.same) (no_expr, none); passes = o.passes }
    to_optional ts e (inr u) =
        record { front = u.is.front; closing = u.is.closing; split = u.is.split; is = subst (FitsOptional u.is.front) (sym u.same) (an_expr u.is.front u.value u.is.is.0, u.is.is.1); passes = u.is.passes }

    from_optional : (ts : List Token) (e : OptionalExpr) → OptionalText ts e → EitherText ts e
    from_optional ts e c = go c.front e c.is.0 c.is.1 c.split
      where
        go : (front : List Token) (e : OptionalExpr) → IsOptional w front e → depth_of_optional_expr e ≤ below → ts ≡ front ++ (c.closing ∷ []) → EitherText ts e
        go _ _ no_expr le split = inl (record { opening = c.closing; rest = []; split = split; passes = c.passes; is = record { none = refl; same = refl } })
        go _ _ (an_expr front e is) le split = inr (record { value = e; is = record { front = front; closing = c.closing; split = split; is = (is, le); passes = c.passes }; same = refl })

    pub optional_law : Lawful OptionalText (λ _. never) optional_reader
    optional_law =
        via (with_text (choosing (opened_head unexpected (is_mark w m) (is_mark w m) (λ c h. h) (λ c h. nothing tree.NoExpr)) ended_partly apart)
        (t ∷ []) tree.NoExpr (inl (record { opening = t; rest = []; split = refl; passes = there; is = record { none = refl; same = refl } }))) to_optional from_optional optional_reader same_optional

  -- ---- with a semicolon

  abbrev tree_of : ExprTree × List Token → StmtTree
  tree_of v = tree.Evaluate (tree.AnExpr v.0) (first_place v.1)

  abbrev pub EvaluatedText : List Token → StmtTree → Type 0
  EvaluatedText = Mapped tree_of (Closed (is_semicolon w) (WithText (FitsExpr w below Sequence)))

  pub evaluated_law : 1 ≤ below → Lawful EvaluatedText (more_statement texts) (evaluated texts below part types)
  unfolding evaluated expression semicolon
  evaluated_law some =
      goes_on_where (closing unexpected (is_semicolon w) semicolon_token (semicolon_token_is w) (text_law (expr_law w below Sequence some)) (λ v u k. semicolon_ends w u k v.0) tree_of) (more_statement texts)
      (λ ts s m u. ap (λ z. more_statement texts z u) m.same)

  pub evaluated_heads : (ts : List Token) (s : StmtTree) → EvaluatedText ts s → at_next (begins_expr w) ts ≡ true
  evaluated_heads ts s m = ap (at_next (begins_expr w)) m.is.split ∙ head_of_append (begins_expr w) m.is.front (m.is.closing ∷ []) (expr_begins w Sequence m.is.front m.value.0 m.is.is.0.0)

  pub evaluated_refuses : below ≡ 0 → (ts : List Token) → Refuses (evaluated texts below part types) ts
  unfolding evaluated expression
  evaluated_refuses none ts = record { number = it.number; halts = λ x e. ap (λ o. and_then (with_front x o) (λ e. semicolon texts below part types >>= (λ c. pure (tree_of e)))) (it.halts x e) }
    where
      it : Refuses (expr_reader w below Sequence) ts
      it = subst (λ n. Refuses (expr_reader w n Sequence) ts) (sym none) (expr_refuses w Sequence ts)

  pub no_evaluated : below ≡ 0 → (ts : List Token) (s : StmtTree) → EvaluatedText ts s → ⊥
  no_evaluated none ts s m = no_expr_fits w Sequence m.is.front m.value.0 (subst (λ n. FitsExpr w n Sequence m.is.front m.value.0) none m.is.is.0)

  pub evaluated_partly : Partly EvaluatedText (more_statement texts) (evaluated texts below part types)
  evaluated_partly = by_room below refl
    where
      by_room : (n : ℕ) → below ≡ n → Partly EvaluatedText (more_statement texts) (evaluated texts below part types)
      by_room zero h = partly_via (refusing (more_statement texts) (evaluated texts below part types) (evaluated_refuses h)) (λ ts s none. absurd none) (no_evaluated h) (evaluated texts below part types) (λ ts. refl)
      by_room (suc n) h = as_partly (evaluated_law (subst (λ z. 1 ≤ z) (sym h) (omega arith)))

  abbrev pub FitsEvaluated : List Token → StmtTree → Type 0
  FitsEvaluated ts s = IsEvaluated w ts s × (depth_of_stmt s ≤ suc below)

  front_free : (xs : List Token) (c : Token) → at_next (begins_note w) (xs ++ (c ∷ [])) ≡ false → at_next (begins_note w) xs ≡ false
  front_free [] c h = refl
  front_free (x ∷ xs) c h = h

  free_front : (xs ys : List Token) → at_next (begins_expr w) xs ≡ true → at_next (begins_note w) xs ≡ false → at_next (begins_note w) (xs ++ ys) ≡ false
  free_front [] ys some h = absurd (cc some)
  free_front (x ∷ xs) ys some h = h

  pub to_evaluated : (ts : List Token) (s : StmtTree) → EvaluatedText ts s → at_next (begins_note w) ts ≡ false → FitsEvaluated ts s
  to_evaluated ts s m free =
      let c = m.is in
      let text : c.front ≡ m.value.1 = sym c.is.1 in
      let deep : depth_of_expr m.value.0 ≤ below = c.is.0.1 in
      subst₂ FitsEvaluated (sym c.split) (sym m.same) (
        subst (λ z. IsEvaluated w (c.front ++ (c.closing ∷ [])) (tree.Evaluate (tree.AnExpr m.value.0) (first_place z))) text
            (is_evaluated c.closing c.front m.value.0 c.passes (front_free c.front c.closing (sym (ap (at_next (begins_note w)) c.split) ∙ free)) c.is.0.0),
        omega arith,
      )

  pub from_evaluated : (ts : List Token) (s : StmtTree) → IsEvaluated w ts s → depth_of_stmt s ≤ suc below → EvaluatedText ts s × (at_next (begins_note w) ts ≡ false)
  from_evaluated _ _ (is_evaluated c ts e ends free is) le =
      let deep : depth_of_expr e ≤ below = omega arith in
      (record { value = (e, ts); is = record { front = ts; closing = c; split = refl; is = ((is, deep), refl); passes = ends }; same = refl }, free_front ts (c ∷ []) (expr_begins w Sequence ts e is) free)
