-- What begins statements and declarations.
use Rattle.std.proofs.Common.{◌≡◌, ◌⊎◌, ℕ, Bool, true, false, ◌||◌, is_some, List, [], ◌∷◌, ◌++◌, refl, sym, ap, ◌∙◌, subst, inl, inr}
use Rattle.sb_base.specs.declared.interning.Name.{Name}
use Rattle.sb_base.specs.declared.tokens.Token.{Token}
use Rattle.sb_parse.specs.Parser.{at_next}
use Rattle.sb_parse.proofs.Heads.{head_of_append}
use Rattle.sb_sign.specs.declared.sign.Keyword.TheVariants as keyword
use Rattle.sb_sign.specs.declared.sign.Mark.TheVariants as mark
use Rattle.sb_tree.specs.Trees.{StmtTree}
use Rattle.sb_expr.specs.Expression.{Sequence}
use Rattle.sb_lexicon.specs.Lexicon.{Lexicon}
use Rattle.sb_lexicon.specs.Tokens.{is_open_brace, begins_expr}
use Rattle.sb_expr.proofs.tokens.Begins.{expr_begins}
use Rattle.sb_lexicon.proofs.Lexemes.{same_mark, same_keyword}
use Rattle.sb_parse.proofs.Ways.{or_first, or_second}
use Rattle.sb_specifier.specs.declared.seat.Seat.TheVariants as seat
use Rattle.sb_specifier.specs.Specified.{reading}
use Rattle.sb_declare.specs.Declaration.{IsDeclaration, is_nameless, is_declaration}
use Rattle.sb_specifier.specs.Readers.{Declarations, is_name, begins_declaration}
use Rattle.sb_derivation.proofs.laws.Heads.{declaration_begins}
use Rattle.sb_statement.specs.Readers.{Body}
use Rattle.sb_statement.specs.Statement.{IsEvaluated, is_evaluated, IsDeclared, is_declared, IsStatement, IsBlock, is_braced}
use Rattle.sb_statement.specs.Statement as grammar
use Rattle.sb_statement.proofs.laws.Chains.{Sign, AMark, AWord, is_sign, same_sign, declares_none, is_new, heads_of, new_off, sign_no_name, sign_declares_none}
use Rattle.sb_statement.proofs.laws.Fits.{OneItem}

abbrev pub signs : List Sign
signs =
    AMark mark.OpenBrace ∷ (AMark mark.Semicolon ∷ (AWord keyword.If ∷ (AWord keyword.While ∷ (AWord keyword.Do ∷ (AWord keyword.For ∷ (AWord keyword.Switch ∷ (AWord keyword.Goto ∷ (AWord keyword.Break
    ∷ (AWord keyword.Continue ∷ (AWord keyword.Return ∷ (AWord keyword.Case ∷ (AWord keyword.Default ∷ []))))))))))))

abbrev stands : Sign → List Sign → Bool
stands s [] = false
stands s (o ∷ ss) = same_sign s o || stands s ss

-- a statement or a declaration
abbrev pub begins_item : Lexicon → Token → Bool
begins_item w t = heads_of w signs t || (is_name w t || begins_declaration w t)

module _ (texts : List (List ℕ)) where
  -- a sign with which neither begins
  pub item_off : (types : List Name) (s : Sign) (t : Token) → is_new s signs ≡ true → declares_none s ≡ true → begins_item (reading texts types) t ≡ true → is_sign (reading texts types) s t ≡ false
  item_off types s t new none h = by_test (is_sign (reading texts types) s t) refl
    where
      by_head : (b : Bool) → heads_of (reading texts types) signs t ≡ b → is_sign (reading texts types) s t ≡ true → true ≡ false
      by_head true k is = sym is ∙ new_off texts types s signs t new k
      by_head false k is =
          sym h ∙ ap (λ b. b || (is_name (reading texts types) t || begins_declaration (reading texts types) t)) k ∙ ap (λ b. b || begins_declaration (reading texts types) t) (sign_no_name texts types s t is)
          ∙ sign_declares_none texts types s t none is

      by_test : (b : Bool) → is_sign (reading texts types) s t ≡ b → b ≡ false
      by_test false k = refl
      by_test true k = let both : true ≡ false = by_head (heads_of (reading texts types) signs t) refl k in absurd (cc both)

  module _ (types : List Name) where
    abbrev w : Lexicon
    w = reading texts types

    by_sign : (t : Token) → heads_of w signs t ≡ true → begins_item w t ≡ true
    by_sign t h = or_first (heads_of w signs t) (is_name w t || begins_declaration w t) h

    by_name : (t : Token) → is_name w t ≡ true → begins_item w t ≡ true
    by_name t h = or_second (heads_of w signs t) (is_name w t || begins_declaration w t) (or_first (is_name w t) (begins_declaration w t) h)

    by_declaration : (t : Token) → begins_declaration w t ≡ true → begins_item w t ≡ true
    by_declaration t h = or_second (heads_of w signs t) (is_name w t || begins_declaration w t) (or_second (is_name w t) (begins_declaration w t) h)

    same_is : (s o : Sign) (t : Token) → same_sign s o ≡ true → is_sign w s t ≡ true → is_sign w o t ≡ true
    same_is (AMark m) (AMark n) t e h = subst (λ z. is_sign w (AMark z) t ≡ true) (same_mark m n e) h
    same_is (AWord j) (AWord k) t e h = subst (λ z. is_sign w (AWord z) t ≡ true) (same_keyword j k e) h
    same_is (AMark m) (AWord k) t e h = absurd (cc e)
    same_is (AWord j) (AMark n) t e h = absurd (cc e)

    at_sign : (s : Sign) (ss : List Sign) (t : Token) → stands s ss ≡ true → is_sign w s t ≡ true → heads_of w ss t ≡ true
    at_sign s [] t e h = absurd (cc e)
    at_sign s (o ∷ ss) t e h = by_test (same_sign s o) refl e (at_sign s ss t)
      where
        by_test : (b : Bool) → same_sign s o ≡ b → (b || stands s ss) ≡ true → (stands s ss ≡ true → is_sign w s t ≡ true → heads_of w ss t ≡ true) → (is_sign w o t || heads_of w ss t) ≡ true
        by_test true k e later = or_first (is_sign w o t) (heads_of w ss t) (same_is s o t k h)
        by_test false k e later = or_second (is_sign w o t) (heads_of w ss t) (later e h)

    at_start : (s : Sign) (t : Token) → stands s signs ≡ true → is_sign w s t ≡ true → begins_item w t ≡ true
    at_start s t e h = by_sign t (at_sign s signs t e h)

    at_expr : (ss : List Sign) (t : Token) → begins_expr w t ≡ true → heads_of w ss t ≡ true
    at_expr [] t h = h
    at_expr (s ∷ ss) t h = or_second (is_sign w s t) (heads_of w ss t) (at_expr ss t h)

    evaluated_begins : (ts : List Token) (s : StmtTree) → IsEvaluated w ts s → at_next (begins_expr w) ts ≡ true
    evaluated_begins _ _ (is_evaluated c ts e ends free is) = head_of_append (begins_expr w) ts (c ∷ []) (expr_begins w Sequence ts e is)

    pub declared_begins : (ts : List Token) (ds : Declarations) → IsDeclaration texts types ts ds → at_next (begins_declaration w) ts ≡ true
    declared_begins _ _ (is_nameless _ xs ys js c notes s base b judged ends) = declaration_begins texts types _ seat.Scope xs ys (js ++ (c ∷ [])) notes s base b.are_notes b.are_specifiers b.names
    declared_begins _ _ (is_declaration _ xs ys zs c notes s base ds b declared ends) = declaration_begins texts types _ seat.Scope xs ys (zs ++ (c ∷ [])) notes s base b.are_notes b.are_specifiers b.names

    head_with : (test other : Token → Bool) → ((t : Token) → test t ≡ true → other t ≡ true) → (ts : List Token) → at_next test ts ≡ true → at_next other ts ≡ true
    head_with test other to [] h = absurd (cc h)
    head_with test other to (t ∷ ts) h = to t h

  pub block_begins : (cases : Bool) (types : List Name) (ts : List Token) (s : StmtTree) → IsBlock texts cases types ts s → at_next (is_open_brace (reading texts types)) ts ≡ true
  block_begins _ _ _ _ (is_braced cases types o c ts b opens closes are) = opens

  pub statement_begins : (cases : Bool) (types : List Name) (ts : List Token) (s : StmtTree) → IsStatement texts cases types ts s → at_next (begins_item (reading texts types)) ts ≡ true
  statement_begins _ types _ _ (grammar.is_block cases _ ts s is) =
      head_with types (is_open_brace (reading texts types)) (begins_item (reading texts types)) (λ t h. at_start types (AMark mark.OpenBrace) t refl h) ts (block_begins false types ts s is)
  statement_begins _ types _ _ (grammar.is_empty cases _ c h) = at_start types (AMark mark.Semicolon) c refl h
  statement_begins _ types _ _ (grammar.is_expression cases _ ts s is) =
      head_with types (begins_expr (reading texts types)) (begins_item (reading texts types)) (λ t h. by_sign types t (at_expr types signs t h)) ts (evaluated_begins types ts s is)
  statement_begins _ types _ _ (grammar.is_if cases _ t xs ys e s h test is) = at_start types (AWord keyword.If) t refl h
  statement_begins _ types _ _ (grammar.is_if_else cases _ t l xs ys zs e s o h k test is none also) = at_start types (AWord keyword.If) t refl h
  statement_begins _ types _ _ (grammar.is_while cases _ t xs ys e s h test is) = at_start types (AWord keyword.While) t refl h
  statement_begins _ types _ _ (grammar.is_do cases _ t u c xs ys s e h k l is test) = at_start types (AWord keyword.Do) t refl h
  statement_begins _ types _ _ (grammar.is_for cases _ t o c d xs ys zs us f e g s h i j k first test step is) =
      at_start types (AWord keyword.For) t refl h
  statement_begins _ types _ _ (grammar.is_switch cases _ t xs ys e s h test is) =
      at_start types (AWord keyword.Switch) t refl h
  statement_begins _ types _ _ (grammar.is_goto cases _ t l c n h named ends) =
      at_start types (AWord keyword.Goto) t refl h
  statement_begins _ types _ _ (grammar.is_break cases _ t c h ends) =
      at_start types (AWord keyword.Break) t refl h
  statement_begins _ types _ _ (grammar.is_continue cases _ t c h ends) =
      at_start types (AWord keyword.Continue) t refl h
  statement_begins _ types _ _ (grammar.is_return cases _ t c ts e h ends is) =
      at_start types (AWord keyword.Return) t refl h
  statement_begins _ types _ _ (grammar.is_label cases _ t c n ts s named colon is) = by_name types t (ap is_some named)
  statement_begins _ types _ _ (grammar.is_case _ t c xs ys e s h colon value is) =
      at_start types (AWord keyword.Case) t refl h
  statement_begins _ types _ _ (grammar.is_default _ t c ts s h colon is) =
      at_start types (AWord keyword.Default) t refl h

  pub item_begins : (left : ℕ) (cases : Bool) (b c : Body) (ts : List Token) → OneItem texts left cases b ts c → at_next (begins_item (reading texts b.types)) ts ≡ true
  item_begins left cases b c ts o = go o.is
    where
      in_declared : (ts : List Token) (s : StmtTree) (now : List Name) → IsDeclared texts b.types ts s now → at_next (begins_item (reading texts b.types)) ts ≡ true
      in_declared _ _ _ (is_declared _ ts ds is) = head_with b.types (begins_declaration (reading texts b.types)) (begins_item (reading texts b.types)) (λ t h. by_declaration b.types t h) ts (declared_begins b.types ts ds is)

      go : (IsStatement texts cases b.types ts o.statement × (o.types ≡ b.types)) ⊎ IsDeclared texts b.types ts o.statement o.types → at_next (begins_item (reading texts b.types)) ts ≡ true
      go (inl is) = statement_begins cases b.types ts o.statement is.0
      go (inr is) = in_declared ts o.statement o.types is
