-- The readers of jumps and of the empty statement keep the laws.
use Rattle.std.proofs.Common.{◌≡◌, ◌≤◌, ℕ, suc, Bool, true, List, [], ◌∷◌, ◌++◌, Some, refl, sym, ap, ◌∙◌, subst₂, arith}
use Rattle.sb_base.specs.declared.interning.Name.{Name}
use Rattle.sb_base.specs.declared.tokens.Token.{Token}
use Rattle.sb_parse.specs.Parser.{Outcome, Parser, done, stop, and_then, ◌>>=◌, pure, token}
use Rattle.sb_parse.specs.Lawful.{OnHead, IsEmpty, IsToken, Opened, Begun, Mapped}
use Rattle.sb_parse.proofs.Joining.{via, map_of, nothing, one_token}
use Rattle.sb_parse.proofs.Heads.{begun}
use Rattle.sb_sign.specs.declared.sign.Keyword.TheVariants as keyword
use Rattle.sb_sign.specs.declared.sign.Mark.TheVariants as mark
use Rattle.sb_tree.specs.Trees as tree
use Rattle.sb_tree.specs.Trees.{OptionalExpr, StmtTree, depth_of_optional_expr}
use Rattle.sb_lexicon.specs.Lexicon.{Lexicon, is_keyword, name_of}
use Rattle.sb_lexicon.specs.Tokens.{unexpected}
use Rattle.sb_lexicon.proofs.Lexemes.{name_token, name_token_is}
use Rattle.sb_parse.proofs.Ways.{goes_on_where}
use Rattle.sb_parse.proofs.Partly.{opened_head}
use Rattle.sb_specifier.specs.Specified.{reading}
use Rattle.sb_specifier.specs.Readers.{is_semicolon, name_at}
use Rattle.sb_specifier.proofs.laws.Names.{named_at, at_name}
use Rattle.sb_statement.specs.Readers.{Parts, semicolon, empty, optional, gone, broken, continued, returned}
use Rattle.sb_statement.specs.Statement.{is_empty, is_goto, is_break, is_continue, is_return, IsOptional}
use Rattle.sb_statement.proofs.laws.Fits.{more_statement, FitsStatement}
use Rattle.sb_statement.proofs.laws.Expressions.{OptionalText, optional_law, semicolon_token, semicolon_token_is, semicolon_ends}

-- a token that must come, between two readers
pub same_closed : {A B : Type 0} (o : Outcome Token A) (test : Token → Bool) (f g : A → Parser Token B) → ((a : A) (rest : List Token) → f a rest ≡ g a rest)
    → and_then o (λ a. token unexpected test >>= (λ c. f a)) ≡ and_then (and_then o (λ a. token unexpected test >>= (λ c. pure a))) g
same_closed {A = A} (done a rest) test f g same = go (token unexpected test rest)
  where
    go : (o : Outcome Token Token) → and_then o (λ c. f a) ≡ and_then (and_then o (λ c. pure a)) g
    go (done c rest) = same a rest
    go (stop n left) = refl
same_closed (stop n left) test f g same = refl

module _ (texts : List (List ℕ)) (below : ℕ) (part : Parts) (types : List Name) (cases : Bool) where
  abbrev w : Lexicon
  w = reading texts types

  abbrev pub EmptyText : List Token → StmtTree → Type 0
  EmptyText = Opened (is_semicolon w) (λ c. IsEmpty (tree.Evaluate tree.NoExpr c.place))

  abbrev pub GotoText : List Token → StmtTree → Type 0
  GotoText = Opened (is_keyword w keyword.Goto) (λ t. Begun (name_at w) (λ n. Mapped (λ c. tree.Goto n.0 n.1 t.place) (IsToken (is_semicolon w))))

  abbrev pub BreakText : List Token → StmtTree → Type 0
  BreakText = Opened (is_keyword w keyword.Break) (λ t. Mapped (λ c. tree.Break t.place) (IsToken (is_semicolon w)))

  abbrev pub ContinueText : List Token → StmtTree → Type 0
  ContinueText = Opened (is_keyword w keyword.Continue) (λ t. Mapped (λ c. tree.Continue t.place) (IsToken (is_semicolon w)))

  abbrev ValueText : List Token → OptionalExpr → Type 0
  ValueText = OptionalText texts below part types mark.Semicolon refl (λ u h e. semicolon_ends w u h e) semicolon_token (semicolon_token_is w)

  abbrev pub ReturnText : List Token → StmtTree → Type 0
  ReturnText = Opened (is_keyword w keyword.Return) (λ t. Mapped (λ e. tree.Return e t.place) ValueText)

  pub empty_head : OnHead (is_semicolon w) EmptyText (more_statement texts) (empty texts below part types)
  unfolding empty
  empty_head =
      opened_head unexpected (is_semicolon w) (is_semicolon w) (λ t h. h)
      (λ t h. goes_on_where (nothing (tree.Evaluate tree.NoExpr t.place)) (more_statement texts) (λ ts s is u. ap (λ z. more_statement texts z u) is.same))

  pub goto_head : OnHead (is_keyword w keyword.Goto) GotoText (more_statement texts) (gone texts below part types)
  unfolding gone semicolon
  goto_head =
      opened_head unexpected (is_keyword w keyword.Goto) (is_keyword w keyword.Goto) (λ t h. h)
      (λ t h. begun {Is = λ n. Mapped (λ c. tree.Goto n.0 n.1 t.place) (IsToken (is_semicolon w))} unexpected (name_at w) name_token (name_token.text, name_token.place) (at_name w name_token name_token.text (name_token_is w))
      (λ l n k. map_of (one_token unexpected (is_semicolon w) semicolon_token (semicolon_token_is w)) (λ c. tree.Goto n.0 n.1 t.place) (more_statement texts) (λ c u. refl)))

  pub break_head : OnHead (is_keyword w keyword.Break) BreakText (more_statement texts) (broken texts below part types)
  unfolding broken semicolon
  break_head =
      opened_head unexpected (is_keyword w keyword.Break) (is_keyword w keyword.Break) (λ t h. h)
      (λ t h. map_of (one_token unexpected (is_semicolon w) semicolon_token (semicolon_token_is w)) (λ c. tree.Break t.place) (more_statement texts) (λ c u. refl))

  pub continue_head : OnHead (is_keyword w keyword.Continue) ContinueText (more_statement texts) (continued texts below part types)
  unfolding continued semicolon
  continue_head =
      opened_head unexpected (is_keyword w keyword.Continue) (is_keyword w keyword.Continue) (λ t h. h)
      (λ t h. map_of (one_token unexpected (is_semicolon w) semicolon_token (semicolon_token_is w)) (λ c. tree.Continue t.place) (more_statement texts) (λ c u. refl))

  pub return_head : OnHead (is_keyword w keyword.Return) ReturnText (more_statement texts) (returned texts below part types)
  unfolding returned semicolon
  return_head =
      opened_head unexpected (is_keyword w keyword.Return) (is_keyword w keyword.Return) (λ t h. h)
      (λ t h. via (map_of (optional_law texts below part types mark.Semicolon refl (λ u k e. semicolon_ends w u k e) semicolon_token (semicolon_token_is w)) (λ e. tree.Return e t.place) (more_statement texts) (λ e u. refl))
      (λ ts s m. m) (λ ts s m. m) (optional texts below part types (is_semicolon w) >>= (λ e. token unexpected (is_semicolon w) >>= (λ c. pure (tree.Return e t.place))))
      (λ ts. same_closed (optional texts below part types (is_semicolon w) ts) (is_semicolon w) _ _ (λ e rest. refl)))

  -- ---- in the grammar's words

  abbrev Fits : List Token → StmtTree → Type 0
  Fits = FitsStatement texts (suc below) cases types

  pub to_empty : (ts : List Token) (s : StmtTree) → EmptyText ts s → Fits ts s
  to_empty ts s o = subst₂ Fits (sym (o.split ∙ ap (λ z. o.opening ∷ z) o.is.none)) (sym o.is.same) (is_empty cases types o.opening o.passes, omega arith)

  pub from_empty : (c : Token) → is_semicolon w c ≡ true → EmptyText (c ∷ []) (tree.Evaluate tree.NoExpr c.place)
  from_empty c h = record { opening = c; rest = []; split = refl; passes = h; is = record { none = refl; same = refl } }

  pub to_goto : (ts : List Token) (s : StmtTree) → GotoText ts s → Fits ts s
  to_goto ts s o =
      let b = o.is in
      let m = b.is in
      let n : (name_of w b.opening ≡ Some b.value.0) × (b.value.1 ≡ b.opening.place) = named_at w b.opening b.value b.gives_it in
      subst₂ Fits (sym (o.split ∙ ap (λ z. o.opening ∷ z) (b.split ∙ ap (λ z. b.opening ∷ z) m.is.alone))) (sym (m.same ∙ ap (λ z. tree.Goto b.value.0 z o.opening.place) n.1))
      (is_goto cases types o.opening b.opening m.value b.value.0 o.passes n.0 m.is.passes, omega arith)

  pub from_goto : (t l c : Token) (n : Name) → is_keyword w keyword.Goto t ≡ true → name_of w l ≡ Some n → is_semicolon w c ≡ true → GotoText (t ∷ (l ∷ (c ∷ []))) (tree.Goto n l.place t.place)
  from_goto t l c n word named ends = record {
    opening = t;
    rest = l ∷ (c ∷ []);
    split = refl;
    passes = word;
    is = record { opening = l; value = (n, l.place); rest = c ∷ []; split = refl; gives_it = at_name w l n named; is = record { value = c; is = record { alone = refl; passes = ends }; same = refl } };
  }

  pub to_break : (ts : List Token) (s : StmtTree) → BreakText ts s → Fits ts s
  to_break ts s o =
      let m = o.is in
      subst₂ Fits (sym (o.split ∙ ap (λ z. o.opening ∷ z) m.is.alone)) (sym m.same) (is_break cases types o.opening m.value o.passes m.is.passes, omega arith)

  pub from_break : (t c : Token) → is_keyword w keyword.Break t ≡ true → is_semicolon w c ≡ true → BreakText (t ∷ (c ∷ [])) (tree.Break t.place)
  from_break t c word ends = record { opening = t; rest = c ∷ []; split = refl; passes = word; is = record { value = c; is = record { alone = refl; passes = ends }; same = refl } }

  pub to_continue : (ts : List Token) (s : StmtTree) → ContinueText ts s → Fits ts s
  to_continue ts s o =
      let m = o.is in
      subst₂ Fits (sym (o.split ∙ ap (λ z. o.opening ∷ z) m.is.alone)) (sym m.same) (is_continue cases types o.opening m.value o.passes m.is.passes, omega arith)

  pub from_continue : (t c : Token) → is_keyword w keyword.Continue t ≡ true → is_semicolon w c ≡ true → ContinueText (t ∷ (c ∷ [])) (tree.Continue t.place)
  from_continue t c word ends = record { opening = t; rest = c ∷ []; split = refl; passes = word; is = record { value = c; is = record { alone = refl; passes = ends }; same = refl } }

  pub to_return : (ts : List Token) (s : StmtTree) → ReturnText ts s → Fits ts s
  to_return ts s o =
      let m = o.is in
      let c = m.is in
      let deep : depth_of_optional_expr m.value ≤ below = c.is.1 in
      subst₂ Fits (sym (o.split ∙ ap (λ z. o.opening ∷ z) c.split)) (sym m.same) (is_return cases types o.opening c.closing c.front m.value o.passes c.passes c.is.0, omega arith)

  pub from_return : (t c : Token) (ts : List Token) (e : OptionalExpr) → is_keyword w keyword.Return t ≡ true → is_semicolon w c ≡ true → IsOptional w ts e × (depth_of_optional_expr e ≤ below)
      → ReturnText (t ∷ (ts ++ (c ∷ []))) (tree.Return e t.place)
  from_return t c ts e word ends is =
      record { opening = t; rest = ts ++ (c ∷ []); split = refl; passes = word; is = record { value = e; is = record { front = ts; closing = c; split = refl; is = is; passes = ends }; same = refl } }
