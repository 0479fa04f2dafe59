-- The reader of blocks keeps the laws, if that of their items does.
use Rattle.std.proofs.Common.{◌≡◌, ◌≤◌, ◌⊎◌, ℕ, suc, max, Bool, true, false, ◌||◌, not, List, [], ◌∷◌, ◌++◌, refl, sym, ap, ◌∙◌, subst, subst₂, inl, inr, append_assoc, append-nil, arith}
use Rattle.std.specs.Option.{option_map_or}
use Rattle.std.proofs.Math.Nat.{le-max_left, le-max_right, max-le}
use Rattle.sb_base.specs.declared.interning.Name.{Name}
use Rattle.sb_base.specs.declared.tokens.PpKind.TheVariants as kind
use Rattle.sb_base.specs.declared.tokens.Token.{Token}
use Rattle.sb_parse.specs.Parser.{at_next, never, ◌>>=◌, pure, token, looped}
use Rattle.sb_parse.specs.Lawful.{Lawful, OnHead, IsEmpty, IsToken, Joined, Opened, Mapped, Turns, over, turn}
use Rattle.sb_parse.proofs.Joining.{via, map_of, nothing, in_order, one_token}
use Rattle.sb_parse.proofs.Heads.{opened, head_via}
use Rattle.sb_sign.specs.declared.sign.Keyword.TheVariants as keyword
use Rattle.sb_sign.specs.declared.sign.Mark.TheVariants as mark
use Rattle.sb_tree.specs.Plain.{stmt_list}
use Rattle.sb_sign.specs.Signs as sign
use Rattle.sb_tree.specs.Trees as tree
use Rattle.sb_tree.specs.Trees.{StmtTree, depth_of_stmt, depth_of_stmts}
use Rattle.sb_lexicon.specs.Lexicon.{Lexicon}
use Rattle.sb_lexicon.specs.Tokens.{unexpected, is_open_brace}
use Rattle.sb_lexicon.specs.Outcomes.{nowhere}
use Rattle.sb_lexicon.proofs.Lexemes.{mark_is, mark_no_keyword}
use Rattle.sb_parse.proofs.Ways.{goes_on_where, and_fails, turned_once_more}
use Rattle.sb_parse.proofs.Partly.{opened_head}
use Rattle.sb_specifier.specs.Specified.{reading}
use Rattle.sb_specifier.specs.Readers.{is_close_brace}
use Rattle.sb_specifier.proofs.laws.Names.{close_brace_token, close_brace_token_is}
use Rattle.sb_parse.proofs.Turning.{turning_from}
use Rattle.sb_statement.specs.Readers.{Body, Parts, block}
use Rattle.sb_statement.specs.Statement.{takes_else, IsDeclared, IsStatement, IsBlock, is_braced, AreItems, no_items, a_statement, some_declaration}
use Rattle.sb_statement.proofs.laws.Chains.{AWord}
use Rattle.sb_statement.proofs.laws.Fits.{plain, is_else, more_statement, more_last, more_body, FitsBlock, OneItem}
use Rattle.sb_statement.proofs.tokens.Begins.{begins_item, item_off, item_begins}

-- ---- a token that there is in any case

open_brace_token : Token
open_brace_token = record { kind = kind.Punct; text = record { 0 = 4294967337 }; place = nowhere; value = 0 }

open_brace_token_is : (w : Lexicon) → is_open_brace w open_brace_token ≡ true
unfolding open_brace_token
open_brace_token_is w = refl

-- ---- depths of lists

list_deep : (ss : List StmtTree) (s : StmtTree) (left : ℕ) → depth_of_stmts (stmt_list ss) ≤ left → depth_of_stmt s ≤ left → depth_of_stmts (stmt_list (ss ++ (s ∷ []))) ≤ left
list_deep [] s left h k = let none : 0 ≤ left = omega arith in max-le k none
list_deep (r ∷ ss) s left h k =
    let first : depth_of_stmt r ≤ max (depth_of_stmt r) (depth_of_stmts (stmt_list ss)) = le-max_left (depth_of_stmt r) (depth_of_stmts (stmt_list ss)) in
    let later : depth_of_stmts (stmt_list ss) ≤ max (depth_of_stmt r) (depth_of_stmts (stmt_list ss)) = le-max_right (depth_of_stmt r) (depth_of_stmts (stmt_list ss)) in
    let one : depth_of_stmt r ≤ left = omega arith in
    max-le one (list_deep ss s left (omega arith) k)

deep_list : (ss : List StmtTree) (s : StmtTree) (left : ℕ) → depth_of_stmts (stmt_list (ss ++ (s ∷ []))) ≤ left → (depth_of_stmts (stmt_list ss) ≤ left) × (depth_of_stmt s ≤ left)
deep_list [] s left h = let first : depth_of_stmt s ≤ max (depth_of_stmt s) 0 = le-max_left (depth_of_stmt s) 0 in (omega arith, omega arith)
deep_list (r ∷ ss) s left h =
    let first : depth_of_stmt r ≤ max (depth_of_stmt r) (depth_of_stmts (stmt_list (ss ++ (s ∷ [])))) = le-max_left (depth_of_stmt r) (depth_of_stmts (stmt_list (ss ++ (s ∷ [])))) in
    let later : depth_of_stmts (stmt_list (ss ++ (s ∷ []))) ≤ max (depth_of_stmt r) (depth_of_stmts (stmt_list (ss ++ (s ∷ [])))) = le-max_right (depth_of_stmt r) (depth_of_stmts (stmt_list (ss ++ (s ∷ [])))) in
    let one : depth_of_stmt r ≤ left = omega arith in
    let both = deep_list ss s left (omega arith) in
    (max-le one both.0, both.1)

pub some_stmt : (s : StmtTree) → 1 ≤ depth_of_stmt s
some_stmt (tree.Goto n at place) = omega arith
some_stmt (tree.Break place) = omega arith
some_stmt (tree.Continue place) = omega arith
some_stmt (tree.Block list place end) = omega arith
some_stmt (tree.Evaluate e place) = omega arith
some_stmt (tree.Declare ds place) = omega arith
some_stmt (tree.If e s o place) = omega arith
some_stmt (tree.While e s place) = omega arith
some_stmt (tree.Do s e place) = omega arith
some_stmt (tree.For f e g s place) = omega arith
some_stmt (tree.Switch e s place) = omega arith
some_stmt (tree.Case e s place) = omega arith
some_stmt (tree.Default s place) = omega arith
some_stmt (tree.Label n s place) = omega arith
some_stmt (tree.Return e place) = omega arith

-- ---- blocks

module _ (texts : List (List ℕ)) (below : ℕ) (part : Parts) (types : List Name) (cases : Bool) (P : (b : Body) → OnHead (λ t. not (is_close_brace (plain texts) t)) (OneItem texts below cases b) (more_body texts) (part.item cases b)) where
  abbrev here : Lexicon
  here = reading texts types

  abbrev none : Body
  none = record { list = []; types = types }

  abbrev ItemsText : List Token → Body → Type 0
  ItemsText = Joined (IsEmpty none) (Turns (OneItem texts below cases))

  abbrev BlockText : List Token → StmtTree → Type 0
  BlockText = Opened (is_open_brace here) (λ o. Joined ItemsText (λ b. Mapped (λ c. tree.Block (stmt_list b.list) o.place c.place) (IsToken (is_close_brace here))))

  no_else : (b c : Body) (ts : List Token) → OneItem texts below cases b ts c → at_next (more_body texts b) ts ≡ false
  no_else b c ts o = go ts (item_begins texts below cases b c ts o)
    where
      only_else : (ss : List StmtTree) (t : Token) → is_else texts t ≡ false → more_last texts ss t ≡ false
      only_else [] t h = refl
      only_else (s ∷ []) t h = and_fails (takes_else s) (is_else texts t) h
      only_else (s ∷ (r ∷ ss)) t h = only_else (r ∷ ss) t h

      go : (ts : List Token) → at_next (begins_item (reading texts b.types)) ts ≡ true → at_next (more_body texts b) ts ≡ false
      go [] h = refl
      go (t ∷ ts) h = only_else b.list t (item_off texts b.types (AWord keyword.Else) t refl refl h)

  items_law : Lawful ItemsText (λ b t. not (is_close_brace here t) || more_body texts b t) (looped (λ t. not (is_close_brace here t)) (part.item cases) none)
  items_law = turning_from {Turn = OneItem texts below cases} P (λ a b xs is. no_else a b xs is) (goes_on_where (nothing none) (more_body texts) (λ ts b is u. ap (λ z. more_body texts z u) is.same))

  ends_at_brace : (b : Body) (t : Token) → is_close_brace here t ≡ true → (not (is_close_brace here t) || more_body texts b t) ≡ false
  ends_at_brace b t h = ap (λ c. not c || more_body texts b t) h ∙ only_last b.list
    where
      only_last : (ss : List StmtTree) → more_last texts ss t ≡ false
      only_last [] = refl
      only_last (s ∷ []) = and_fails (takes_else s) (is_else texts t) (ap (λ o. option_map_or (sign.is_same_keyword keyword.Else) o false) (mark_no_keyword here mark.CloseBrace t (mark_is here mark.CloseBrace t h)))
      only_last (s ∷ (r ∷ ss)) = only_last (r ∷ ss)

  block_text_law : (other : StmtTree → Token → Bool) (o : Token) → ((b : Body) (c u : Token) → other (tree.Block (stmt_list b.list) o.place c.place) u ≡ false)
      → Lawful (Joined ItemsText (λ b. Mapped (λ c. tree.Block (stmt_list b.list) o.place c.place) (IsToken (is_close_brace here)))) other
      (looped (λ t. not (is_close_brace here t)) (part.item cases) none >>= (λ b. token unexpected (is_close_brace here) >>= (λ c. pure (tree.Block (stmt_list b.list) o.place c.place))))
  block_text_law other o off =
      in_order items_law (λ xs b is. map_of (one_token unexpected (is_close_brace here) close_brace_token (close_brace_token_is here)) (λ c. tree.Block (stmt_list b.list) o.place c.place) other (λ c u. off b c u))
      (λ xs b ys s rest is m off. ap (λ z. at_next (λ t. not (is_close_brace here t) || more_body texts b t) (z ++ rest)) m.is.alone ∙ ends_at_brace b m.value m.is.passes)

  -- ---- in the grammar's words

  abbrev FitsItems : List Token → Body → Type 0
  FitsItems ts b = AreItems texts cases types ts b × (depth_of_stmts (stmt_list b.list) ≤ below)

  add_one : (xs ys : List Token) (b c : Body) → FitsItems xs b → OneItem texts below cases b ys c → FitsItems (xs ++ ys) c
  add_one xs ys b c f o = subst (FitsItems (xs ++ ys)) (sym o.same) (go o.types o.is, list_deep b.list o.statement below f.1 o.fits)
    where
      go : (now : List Name) → (IsStatement texts cases b.types ys o.statement × (now ≡ b.types)) ⊎ IsDeclared texts b.types ys o.statement now → AreItems texts cases types (xs ++ ys) (record { list = b.list ++ (o.statement ∷ []); types = now })
      go now (inl is) = subst (λ z. AreItems texts cases types (xs ++ ys) (record { list = b.list ++ (o.statement ∷ []); types = z })) (sym is.1) (a_statement cases types xs ys b o.statement f.0 is.0)
      go now (inr is) = some_declaration cases types now xs ys b o.statement f.0 is

  add_all : (xs ts : List Token) (b c : Body) → FitsItems xs b → Turns (OneItem texts below cases) b ts c → FitsItems (xs ++ ts) c
  add_all xs _ _ _ f (over b) = subst (λ z. FitsItems z b) (sym (append-nil xs)) f
  add_all xs _ _ _ f (turn b m c ys zs o later) = subst (λ z. FitsItems z c) (append_assoc xs ys zs) (add_all (xs ++ ys) zs m c (add_one xs ys b m f o) later)

  to_items : (ts : List Token) (b : Body) → ItemsText ts b → FitsItems ts b
  to_items ts b j =
      let zero_deep : 0 ≤ below = omega arith in
      subst (λ z. FitsItems z b) (sym (j.split ∙ ap (λ z. z ++ j.after) j.first.none))
      (add_all [] j.after none b (no_items cases types, zero_deep) (subst (λ z. Turns (OneItem texts below cases) z j.after b) j.first.same j.second))

  in_turns : (ts : List Token) (b : Body) → AreItems texts cases types ts b → depth_of_stmts (stmt_list b.list) ≤ below → Turns (OneItem texts below cases) none ts b
  in_turns _ _ (no_items _ _) le = over none
  in_turns _ _ (a_statement _ _ xs ys b s are is) le =
      let both = deep_list b.list s below le in
      turned_once_more none b (record { list = b.list ++ (s ∷ []); types = b.types }) xs ys (in_turns xs b are both.0) (record { statement = s; types = b.types; is = inl (is, refl); fits = both.1; same = refl })
  in_turns _ _ (some_declaration _ _ now xs ys b s are is) le =
      let both = deep_list b.list s below le in
      turned_once_more none b (record { list = b.list ++ (s ∷ []); types = now }) xs ys (in_turns xs b are both.0) (record { statement = s; types = now; is = inr is; fits = both.1; same = refl })

  to_block : (ts : List Token) (s : StmtTree) → BlockText ts s → FitsBlock texts (suc below) cases types ts s
  to_block ts s o =
      let j = o.is in
      let m = j.second in
      let f : FitsItems j.before j.value = to_items j.before j.value j.first in
      let deep : depth_of_stmts (stmt_list j.value.list) ≤ below = f.1 in
      subst₂ (FitsBlock texts (suc below) cases types) (sym (o.split ∙ ap (λ z. o.opening ∷ z) (j.split ∙ ap (λ z. j.before ++ z) m.is.alone))) (sym m.same)
      (is_braced cases types o.opening m.value j.before j.value o.passes m.is.passes f.0, omega arith)

  from_block : (ts : List Token) (s : StmtTree) → IsBlock texts cases types ts s → depth_of_stmt s ≤ suc below → BlockText ts s
  from_block _ _ (is_braced _ _ o c ts b opens closes are) le =
      let deep : depth_of_stmts (stmt_list b.list) ≤ below = omega arith in
      record {
        opening = o;
        rest = ts ++ (c ∷ []);
        split = refl;
        passes = opens;
        is = record {
          before = ts;
          after = c ∷ [];
          value = b;
          split = refl;
          first = record { before = []; after = ts; value = none; split = refl; first = record { none = refl; same = refl }; second = in_turns ts b are deep };
          second = record { value = c; is = record { alone = refl; passes = closes }; same = refl };
        };
      }

  pub block_head : OnHead (is_open_brace here) (FitsBlock texts (suc below) cases types) (more_statement texts) (block texts below part types cases)
  unfolding block
  block_head = head_via (opened_head unexpected (is_open_brace here) (is_open_brace here) (λ o h. h) (λ o h. block_text_law (more_statement texts) o (λ b c u. refl))) to_block (λ ts s f. from_block ts s f.0 f.1) (block texts below part types cases) (λ ts. refl)

  pub block_law : Lawful (FitsBlock texts (suc below) cases types) (λ s. never) (block texts below part types cases)
  unfolding block
  block_law = via (opened unexpected (is_open_brace here) open_brace_token (open_brace_token_is here) (λ o h. block_text_law (λ s. never) o (λ b c u. refl))) to_block (λ ts s f. from_block ts s f.0 f.1) (block texts below part types cases) (λ ts. refl)
