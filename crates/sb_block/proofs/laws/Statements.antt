-- The readers of statements keep the laws, if those of their parts do.
use Rattle.std.proofs.Common.{◌≡◌, ◌≤◌, ℕ, suc, max, Bool, true, false, ◌&&◌, not, List, [], ◌∷◌, refl, ap, inl, inr, arith}
use Rattle.std.proofs.Math.Nat.{le-max_left, le-max_right}
use Rattle.sb_base.specs.declared.interning.Name.{Name}
use Rattle.sb_base.specs.declared.tokens.Token.{Token}
use Rattle.sb_parse.specs.Parser.{at_next, choose, guard}
use Rattle.sb_parse.specs.Lawful.{Lawful, OnHead, Unbarred, Either}
use Rattle.sb_parse.proofs.Joining.{via}
use Rattle.sb_parse.proofs.Heads.{guarded}
use Rattle.sb_sign.specs.declared.sign.Keyword.{Keyword}
use Rattle.sb_sign.specs.declared.sign.Keyword.TheVariants as keyword
use Rattle.sb_sign.specs.declared.sign.Mark.TheVariants as mark
use Rattle.sb_tree.specs.Trees as tree
use Rattle.sb_tree.specs.Trees.{StmtTree, depth_of_expr, depth_of_optional_expr, depth_of_stmt, depth_of_optional_stmt}
use Rattle.sb_lexicon.specs.Lexicon.{Lexicon, is_keyword, is_type_name}
use Rattle.sb_lexicon.specs.Tokens.{too_deep, is_zero, is_open_brace}
use Rattle.sb_lexicon.proofs.Depths.{some_depth, some_room, room_is}
use Rattle.sb_parse.proofs.Ways.{and_second}
use Rattle.sb_sal.specs.Spellings.{begins_note, looks_like_note, word_of}
use Rattle.sb_parse.proofs.Partly.{with_text}
use Rattle.sb_specifier.specs.Specified.{reading}
use Rattle.sb_specifier.specs.Readers.{is_semicolon, is_close_brace, is_name}
use Rattle.sb_parse.proofs.Choices.{Elsewhere, hiding}
use Rattle.sb_specifier.proofs.laws.Names.{mark_no_name}
use Rattle.sb_statement.specs.Readers.{Body, Parts, evaluated, case_of, default_of, by_keyword, statement}
use Rattle.sb_statement.specs.Statement as grammar
use Rattle.sb_statement.specs.Statement.{IsEvaluated, IsStatement}
use Rattle.sb_statement.proofs.laws.Chains.{Sign, AMark, AWord, is_sign, Chain, link, heads_of, sign_no_name}
use Rattle.sb_statement.proofs.laws.Fits.{plain, more_statement, more_body, FitsStatement, FitsBlock, OneItem, LawfulStatements}
use Rattle.sb_statement.proofs.laws.Expressions.{EvaluatedText, evaluated_partly, evaluated_heads, to_evaluated, from_evaluated, semicolon_token, semicolon_token_is}
use Rattle.sb_block.proofs.laws.Selection.{IfText, SwitchText, if_head, switch_head, to_if, from_if, from_if_else, to_switch, from_switch}
use Rattle.sb_block.proofs.laws.Iteration.{WhileText, DoText, ForText, while_head, do_head, for_head, to_while, from_while, to_do, from_do, to_for, from_for}
use Rattle.sb_statement.proofs.laws.Jumps.{EmptyText, GotoText, BreakText, ContinueText, ReturnText, empty_head, goto_head, break_head, continue_head, return_head, to_empty, from_empty, to_goto, from_goto, to_break, from_break, to_continue, from_continue, to_return, from_return}
use Rattle.sb_block.proofs.laws.Cases.{CaseText, DefaultText, is_case_here, is_default_here, case_head, default_head, to_case, from_case, to_default, from_default}
use Rattle.sb_statement.proofs.tokens.Begins.{signs, block_begins}
use Rattle.sb_block.proofs.laws.Blocks.{some_stmt, block_head}
use Rattle.sb_block.proofs.laws.Labels.{NamedText, name_head, to_named, from_label_statement, from_plain}

module _ (texts : List (List ℕ)) (below : ℕ) (part : Parts) (types : List Name) (cases : Bool) where
  abbrev w : Lexicon
  w = reading texts types

  -- with others or expressions in it
  abbrev pub Nested : (List Token → StmtTree → Type 0) → List Token → StmtTree → Type 0
  Nested = Unbarred (is_zero below)

  abbrev pub LastText : List Token → StmtTree → Type 0
  LastText = Either (Nested (CaseText texts below part types cases)) (Either (Nested (DefaultText texts below part types cases)) (EvaluatedText texts below part types))

  abbrev pub JumpText : List Token → StmtTree → Type 0
  JumpText = Either (GotoText texts below part types cases) (Either (BreakText texts below part types cases) (Either (ContinueText texts below part types cases) (Either (ReturnText texts below part types cases) LastText)))

  abbrev pub TurnText : List Token → StmtTree → Type 0
  TurnText = Either (Nested (WhileText texts below part types cases)) (Either (Nested (DoText texts below part types cases)) (Either (Nested (ForText texts below part types cases)) (Either (Nested (SwitchText texts below part types cases)) JumpText)))

  abbrev pub KeywordText : List Token → StmtTree → Type 0
  KeywordText = Either (FitsBlock texts (suc below) false types) (Either (EmptyText texts below part types cases) (Either (Nested (IfText texts below part types cases)) TurnText))

  abbrev pub StatementText : List Token → StmtTree → Type 0
  StatementText = Either (NamedText texts below part types cases) (Elsewhere (is_name w) KeywordText)

  abbrev Fits : List Token → StmtTree → Type 0
  Fits = FitsStatement texts (suc below) cases types

  -- ---- in the grammar's words

  nameless_note : (ts : List Token) → at_next (is_name w) ts ≡ false → at_next (begins_note w) ts ≡ false
  nameless_note [] h = refl
  nameless_note (t ∷ ts) h = ap (λ b. b && (not (is_type_name w t) && looks_like_note (word_of texts t))) h

  to_keyword : (ts : List Token) (s : StmtTree) → KeywordText ts s → at_next (is_name w) ts ≡ false → Fits ts s
  to_keyword ts s (inl is) off = (grammar.is_block cases types ts s is.0, is.1)
  to_keyword ts s (inr (inl is)) off = to_empty texts below part types cases ts s is
  to_keyword ts s (inr (inr (inl u))) off = to_if texts below part types cases ts s u.is
  to_keyword ts s (inr (inr (inr (inl u)))) off = to_while texts below part types cases ts s u.is
  to_keyword ts s (inr (inr (inr (inr (inl u))))) off = to_do texts below part types cases ts s u.is
  to_keyword ts s (inr (inr (inr (inr (inr (inl u)))))) off = to_for texts below part types cases ts s u.is
  to_keyword ts s (inr (inr (inr (inr (inr (inr (inl u))))))) off = to_switch texts below part types cases ts s u.is
  to_keyword ts s (inr (inr (inr (inr (inr (inr (inr (inl is)))))))) off = to_goto texts below part types cases ts s is
  to_keyword ts s (inr (inr (inr (inr (inr (inr (inr (inr (inl is))))))))) off = to_break texts below part types cases ts s is
  to_keyword ts s (inr (inr (inr (inr (inr (inr (inr (inr (inr (inl is)))))))))) off = to_continue texts below part types cases ts s is
  to_keyword ts s (inr (inr (inr (inr (inr (inr (inr (inr (inr (inr (inl is))))))))))) off = to_return texts below part types cases ts s is
  to_keyword ts s (inr (inr (inr (inr (inr (inr (inr (inr (inr (inr (inr (inl u)))))))))))) off = to_case texts below part types cases ts s u.is
  to_keyword ts s (inr (inr (inr (inr (inr (inr (inr (inr (inr (inr (inr (inr (inl u))))))))))))) off = to_default texts below part types cases ts s u.is
  to_keyword ts s (inr (inr (inr (inr (inr (inr (inr (inr (inr (inr (inr (inr (inr m))))))))))))) off =
      let f = to_evaluated texts below part types ts s m (nameless_note ts off) in (grammar.is_expression cases types ts s f.0, f.1)

  to_statement : (ts : List Token) (s : StmtTree) → StatementText ts s → Fits ts s
  to_statement ts s (inl is) = to_named texts below part types cases ts s is
  to_statement ts s (inr is) = to_keyword ts s is.0 is.1

-- each statement is one of these
module _ (texts : List (List ℕ)) (below : ℕ) (part : Parts) (types : List Name) where
  abbrev here : Lexicon
  here = reading texts types

  abbrev Text : Bool → List Token → StmtTree → Type 0
  Text cases = StatementText texts below part types cases

  word_off : (k : Keyword) (t : Token) → is_keyword here k t ≡ true → is_name here t ≡ false
  word_off k t h = sign_no_name texts types (AWord k) t h

  room_with : (s : StmtTree) → depth_of_stmt s ≤ below → is_zero below ≡ false
  room_with s le = some_room below (depth_of_stmt s) (some_stmt s) le

  evaluated_room : (ts : List Token) (s : StmtTree) → IsEvaluated here ts s → depth_of_stmt s ≤ suc below → is_zero below ≡ false
  evaluated_room _ _ (grammar.is_evaluated c xs e ends free also) le = let deep : depth_of_expr e ≤ below = omega arith in some_room below (depth_of_expr e) (some_depth e) deep

  from_expression : (cases : Bool) (ts : List Token) (s : StmtTree) → IsEvaluated here ts s → depth_of_stmt s ≤ suc below → Text cases ts s
  from_expression cases ts s is le = by_test (at_next (is_name here) ts) refl
    where
      by_test : (b : Bool) → at_next (is_name here) ts ≡ b → Text cases ts s
      by_test true h = inl (from_plain texts below part types cases ts s (evaluated_room ts s is le) is le h)
      by_test false h =
          let e = from_evaluated texts below part types ts s is le in
          inr (inr (inr (inr (inr (inr (inr (inr (inr (inr (inr (inr (inr (inr e.0)))))))))))), h)

  pub from_statement : (cases : Bool) (ts : List Token) (s : StmtTree) → IsStatement texts cases types ts s → depth_of_stmt s ≤ suc below → Text cases ts s
  from_statement _ _ _ (grammar.is_block cases _ ts s is) le = inr (inl (is, le), by_brace ts (block_begins texts false types ts s is))
    where
      by_brace : (ts : List Token) → at_next (is_open_brace here) ts ≡ true → at_next (is_name here) ts ≡ false
      by_brace [] h = refl
      by_brace (t ∷ ts) h = mark_no_name here t mark.OpenBrace h
  from_statement _ _ _ (grammar.is_empty cases _ c h) le = inr (inr (inl (from_empty texts below part types cases c h)), mark_no_name here c mark.Semicolon h)
  from_statement _ _ _ (grammar.is_expression cases _ ts s is) le = from_expression cases ts s is le
  from_statement _ _ _ (grammar.is_if cases _ t xs ys e s h test is) le =
      let all : max (depth_of_expr e) (max (depth_of_stmt s) 0) ≤ below = omega arith in
      let first : depth_of_expr e ≤ max (depth_of_expr e) (max (depth_of_stmt s) 0) = le-max_left (depth_of_expr e) (max (depth_of_stmt s) 0) in
      let second : max (depth_of_stmt s) 0 ≤ max (depth_of_expr e) (max (depth_of_stmt s) 0) = le-max_right (depth_of_expr e) (max (depth_of_stmt s) 0) in
      let body : depth_of_stmt s ≤ max (depth_of_stmt s) 0 = le-max_left (depth_of_stmt s) 0 in
      let fits : depth_of_stmt s ≤ below = omega arith in
      let tested : depth_of_expr e ≤ below = omega arith in
      inr (inr (inr (inl (record { open_way = room_with s fits; is = from_if texts below part types cases t xs ys e s h (test, tested) (is, fits) }))), word_off keyword.If t h)
  from_statement _ _ _ (grammar.is_if_else cases _ t l xs ys zs e s o h k test is none also) le =
      let all : max (depth_of_expr e) (max (depth_of_stmt s) (depth_of_stmt o)) ≤ below = omega arith in
      let first : depth_of_expr e ≤ max (depth_of_expr e) (max (depth_of_stmt s) (depth_of_stmt o)) = le-max_left (depth_of_expr e) (max (depth_of_stmt s) (depth_of_stmt o)) in
      let second : max (depth_of_stmt s) (depth_of_stmt o) ≤ max (depth_of_expr e) (max (depth_of_stmt s) (depth_of_stmt o)) = le-max_right (depth_of_expr e) (max (depth_of_stmt s) (depth_of_stmt o)) in
      let body : depth_of_stmt s ≤ max (depth_of_stmt s) (depth_of_stmt o) = le-max_left (depth_of_stmt s) (depth_of_stmt o) in
      let rest : depth_of_stmt o ≤ max (depth_of_stmt s) (depth_of_stmt o) = le-max_right (depth_of_stmt s) (depth_of_stmt o) in
      let fits : depth_of_stmt s ≤ below = omega arith in
      let also_fits : depth_of_stmt o ≤ below = omega arith in
      let tested : depth_of_expr e ≤ below = omega arith in
      inr (inr (inr (inl (record { open_way = room_with s fits; is = from_if_else texts below part types cases t l xs ys zs e s o h k (test, tested) (is, fits) none (also, also_fits) }))), word_off keyword.If t h)
  from_statement _ _ _ (grammar.is_while cases _ t xs ys e s h test is) le =
      let all : max (depth_of_expr e) (depth_of_stmt s) ≤ below = omega arith in
      let first : depth_of_expr e ≤ max (depth_of_expr e) (depth_of_stmt s) = le-max_left (depth_of_expr e) (depth_of_stmt s) in
      let second : depth_of_stmt s ≤ max (depth_of_expr e) (depth_of_stmt s) = le-max_right (depth_of_expr e) (depth_of_stmt s) in
      let fits : depth_of_stmt s ≤ below = omega arith in
      let tested : depth_of_expr e ≤ below = omega arith in
      inr (inr (inr (inr (inl (record { open_way = room_with s fits; is = from_while texts below part types cases t xs ys e s h (test, tested) (is, fits) })))), word_off keyword.While t h)
  from_statement _ _ _ (grammar.is_do cases _ t u c xs ys s e h k l is test) le =
      let all : max (depth_of_stmt s) (depth_of_expr e) ≤ below = omega arith in
      let first : depth_of_stmt s ≤ max (depth_of_stmt s) (depth_of_expr e) = le-max_left (depth_of_stmt s) (depth_of_expr e) in
      let second : depth_of_expr e ≤ max (depth_of_stmt s) (depth_of_expr e) = le-max_right (depth_of_stmt s) (depth_of_expr e) in
      let fits : depth_of_stmt s ≤ below = omega arith in
      let tested : depth_of_expr e ≤ below = omega arith in
      inr (inr (inr (inr (inr (inl (record { open_way = room_with s fits; is = from_do texts below part types cases t u c xs ys s e h k l (is, fits) (test, tested) }))))), word_off keyword.Do t h)
  from_statement _ _ _ (grammar.is_for cases _ t o c d xs ys zs us f e g s h opens ends closes first test step is) le =
      let all : max (depth_of_optional_stmt f.first) (max (depth_of_optional_expr e) (max (depth_of_optional_expr g) (depth_of_stmt s))) ≤ below = omega arith in
      let a : depth_of_optional_stmt f.first ≤ max (depth_of_optional_stmt f.first) (max (depth_of_optional_expr e) (max (depth_of_optional_expr g) (depth_of_stmt s))) = le-max_left _ _ in
      let b : max (depth_of_optional_expr e) (max (depth_of_optional_expr g) (depth_of_stmt s)) ≤ max (depth_of_optional_stmt f.first) (max (depth_of_optional_expr e) (max (depth_of_optional_expr g) (depth_of_stmt s))) =
      le-max_right (depth_of_optional_stmt f.first) (max (depth_of_optional_expr e) (max (depth_of_optional_expr g) (depth_of_stmt s))) in
      let i : depth_of_optional_expr e ≤ max (depth_of_optional_expr e) (max (depth_of_optional_expr g) (depth_of_stmt s)) = le-max_left (depth_of_optional_expr e) (max (depth_of_optional_expr g) (depth_of_stmt s)) in
      let j : max (depth_of_optional_expr g) (depth_of_stmt s) ≤ max (depth_of_optional_expr e) (max (depth_of_optional_expr g) (depth_of_stmt s)) = le-max_right (depth_of_optional_expr e) (max (depth_of_optional_expr g) (depth_of_stmt s)) in
      let k : depth_of_optional_expr g ≤ max (depth_of_optional_expr g) (depth_of_stmt s) = le-max_left (depth_of_optional_expr g) (depth_of_stmt s) in
      let l : depth_of_stmt s ≤ max (depth_of_optional_expr g) (depth_of_stmt s) = le-max_right (depth_of_optional_expr g) (depth_of_stmt s) in
      let fits : depth_of_stmt s ≤ below = omega arith in
      let first_fits : depth_of_optional_stmt f.first ≤ below = omega arith in
      let test_fits : depth_of_optional_expr e ≤ below = omega arith in
      let step_fits : depth_of_optional_expr g ≤ below = omega arith in
      inr (
        inr (inr (inr (inr (inr (inl (record {
          open_way = room_with s fits;
          is = from_for texts below part types cases t o c d xs ys zs us f e g s h opens ends closes (first, first_fits) (test, test_fits) (step, step_fits) (is, fits);
        })))))),
        word_off keyword.For t h,
      )
  from_statement _ _ _ (grammar.is_switch cases _ t xs ys e s h test is) le =
      let all : max (depth_of_expr e) (depth_of_stmt s) ≤ below = omega arith in
      let first : depth_of_expr e ≤ max (depth_of_expr e) (depth_of_stmt s) = le-max_left (depth_of_expr e) (depth_of_stmt s) in
      let second : depth_of_stmt s ≤ max (depth_of_expr e) (depth_of_stmt s) = le-max_right (depth_of_expr e) (depth_of_stmt s) in
      let fits : depth_of_stmt s ≤ below = omega arith in
      let tested : depth_of_expr e ≤ below = omega arith in
      inr (inr (inr (inr (inr (inr (inr (inl (record { open_way = room_with s fits; is = from_switch texts below part types cases t xs ys e s h (test, tested) (is, fits) }))))))), word_off keyword.Switch t h)
  from_statement _ _ _ (grammar.is_goto cases _ t l c n h named ends) le =
      inr (inr (inr (inr (inr (inr (inr (inr (inl (from_goto texts below part types cases t l c n h named ends)))))))), word_off keyword.Goto t h)
  from_statement _ _ _ (grammar.is_break cases _ t c h ends) le =
      inr (inr (inr (inr (inr (inr (inr (inr (inr (inl (from_break texts below part types cases t c h ends))))))))), word_off keyword.Break t h)
  from_statement _ _ _ (grammar.is_continue cases _ t c h ends) le =
      inr (inr (inr (inr (inr (inr (inr (inr (inr (inr (inl (from_continue texts below part types cases t c h ends)))))))))), word_off keyword.Continue t h)
  from_statement _ _ _ (grammar.is_return cases _ t c ts e h ends is) le =
      let deep : depth_of_optional_expr e ≤ below = omega arith in
      inr (inr (inr (inr (inr (inr (inr (inr (inr (inr (inr (inl (from_return texts below part types cases t c ts e h ends (is, deep)))))))))))), word_off keyword.Return t h)
  from_statement _ _ _ (grammar.is_label cases _ t c n ts s named colon is) le =
      let fits : depth_of_stmt s ≤ below = omega arith in
      inl (from_label_statement texts below part types cases t c n ts s (room_with s fits) named colon (is, fits))
  from_statement _ _ _ (grammar.is_case _ t c xs ys e s h colon value is) le =
      let all : max (depth_of_expr e) (depth_of_stmt s) ≤ below = omega arith in
      let first : depth_of_expr e ≤ max (depth_of_expr e) (depth_of_stmt s) = le-max_left (depth_of_expr e) (depth_of_stmt s) in
      let second : depth_of_stmt s ≤ max (depth_of_expr e) (depth_of_stmt s) = le-max_right (depth_of_expr e) (depth_of_stmt s) in
      let fits : depth_of_stmt s ≤ below = omega arith in
      let tested : depth_of_expr e ≤ below = omega arith in
      inr (inr (inr (inr (inr (inr (inr (inr (inr (inr (inr (inr (inl (record { open_way = room_with s fits; is = from_case texts below part types t c xs ys e s h colon (value, tested) (is, fits) })))))))))))), word_off keyword.Case t h)
  from_statement _ _ _ (grammar.is_default _ t c ts s h colon is) le =
      let fits : depth_of_stmt s ≤ below = omega arith in
      inr (inr (inr (inr (inr (inr (inr (inr (inr (inr (inr (inr (inr (inl (record { open_way = room_with s fits; is = from_default texts below part types t c ts s h colon (is, fits) }))))))))))))), word_off keyword.Default t h)

module _ (texts : List (List ℕ)) (below : ℕ) (part : Parts) (types : List Name) (cases : Bool) (S : 1 ≤ below → LawfulStatements texts below part)
    (P : (b : Body) → OnHead (λ t. not (is_close_brace (plain texts) t)) (OneItem texts below false b) (more_body texts) (part.item false b)) where
  abbrev z : Lexicon
  z = reading texts types

  last_chain : Chain texts types (AWord keyword.Case ∷ (AWord keyword.Default ∷ [])) (LastText texts below part types cases) (more_statement texts)
      (choose (is_case_here texts below part types cases) (guard (is_zero below) too_deep (case_of texts below part types)) (choose (is_default_here texts below part types cases) (guard (is_zero below) too_deep (default_of texts below part types)) (evaluated texts below part types)))
  last_chain =
      link texts types (AWord keyword.Case) (AWord keyword.Default ∷ []) (is_case_here texts below part types cases) (λ t h. and_second cases (is_keyword z keyword.Case t) h) refl
      (guarded (is_zero below) too_deep (λ room. case_head texts below part types cases (room_is below room) (S (room_is below room))))
      (link texts types (AWord keyword.Default) [] (is_default_here texts below part types cases) (λ t h. and_second cases (is_keyword z keyword.Default t) h) refl
      (guarded (is_zero below) too_deep (λ room. default_head texts below part types cases (room_is below room) (S (room_is below room))))
      (record { law = evaluated_partly texts below part types; heads = evaluated_heads texts below part types }))

  -- a keyword alone
  by_word : (s : Sign) (t : Token) → is_sign z s t ≡ true → is_sign z s t ≡ true
  by_word s t h = h

  chain : Chain texts types signs (KeywordText texts below part types cases) (more_statement texts) (by_keyword texts below part cases types (evaluated texts below part types))
  unfolding by_keyword
  chain =
      link texts types (AMark mark.OpenBrace) _ (is_open_brace z) (by_word (AMark mark.OpenBrace)) refl (block_head texts below part types false P)
      (link texts types (AMark mark.Semicolon) _ (is_semicolon z) (by_word (AMark mark.Semicolon)) refl (empty_head texts below part types cases)
      (link texts types (AWord keyword.If) _ (is_keyword z keyword.If) (by_word (AWord keyword.If)) refl (guarded (is_zero below) too_deep (λ room. if_head texts below part types cases (room_is below room) (S (room_is below room))))
      (link texts types (AWord keyword.While) _ (is_keyword z keyword.While) (by_word (AWord keyword.While)) refl (guarded (is_zero below) too_deep (λ room. while_head texts below part types cases (room_is below room) (S (room_is below room))))
      (link texts types (AWord keyword.Do) _ (is_keyword z keyword.Do) (by_word (AWord keyword.Do)) refl (guarded (is_zero below) too_deep (λ room. do_head texts below part types cases (room_is below room) (S (room_is below room))))
      (link texts types (AWord keyword.For) _ (is_keyword z keyword.For) (by_word (AWord keyword.For)) refl (guarded (is_zero below) too_deep (λ room. for_head texts below part types cases (room_is below room) (S (room_is below room))))
      (link texts types (AWord keyword.Switch) _ (is_keyword z keyword.Switch) (by_word (AWord keyword.Switch)) refl (guarded (is_zero below) too_deep (λ room. switch_head texts below part types cases (room_is below room) (S (room_is below room))))
      (link texts types (AWord keyword.Goto) _ (is_keyword z keyword.Goto) (by_word (AWord keyword.Goto)) refl (goto_head texts below part types cases)
      (link texts types (AWord keyword.Break) _ (is_keyword z keyword.Break) (by_word (AWord keyword.Break)) refl (break_head texts below part types cases)
      (link texts types (AWord keyword.Continue) _ (is_keyword z keyword.Continue) (by_word (AWord keyword.Continue)) refl (continue_head texts below part types cases)
      (link texts types (AWord keyword.Return) _ (is_keyword z keyword.Return) (by_word (AWord keyword.Return)) refl (return_head texts below part types cases) last_chain))))))))))

  a_semicolon : EmptyText texts below part types cases (semicolon_token ∷ []) (tree.Evaluate tree.NoExpr semicolon_token.place)
  a_semicolon = from_empty texts below part types cases semicolon_token (semicolon_token_is z)

  keyword_law : Lawful (KeywordText texts below part types cases) (more_statement texts) (by_keyword texts below part cases types (evaluated texts below part types))
  keyword_law = with_text chain.law (semicolon_token ∷ []) (tree.Evaluate tree.NoExpr semicolon_token.place) (inr (inl a_semicolon))

  pub keyword_heads : (ts : List Token) (s : StmtTree) → KeywordText texts below part types cases ts s → at_next (heads_of z signs) ts ≡ true
  keyword_heads ts s is = chain.heads ts s is

  filled : (s : StmtTree) → (KeywordText texts below part types cases) [] s → ⊥
  filled s is = let none : false ≡ true = chain.heads [] s is in cc none

  pub statement_law : Lawful (FitsStatement texts (suc below) cases types) (more_statement texts) (statement texts below part cases types)
  unfolding statement
  statement_law =
      via (hiding (name_head texts below part types cases S) keyword_law filled (semicolon_token ∷ []) (tree.Evaluate tree.NoExpr semicolon_token.place) (inr (inl a_semicolon), mark_no_name z semicolon_token mark.Semicolon (semicolon_token_is z)))
      (to_statement texts below part types cases) (λ ts s is. from_statement texts below part types cases ts s is.0 is.1) (statement texts below part cases types) (λ ts. refl)
