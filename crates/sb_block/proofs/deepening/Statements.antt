-- Where readers of statements stop for want of depth, deeper readers get past that token, by what is known of the readers of their parts and of declarations.
use Rattle.std.proofs.Common.{◌≡◌, ◌≤◌, ℕ, zero, suc, Bool, true, false, ◌&&◌, not, List, [], ◌∷◌, length, if◌then◌else◌, ap, ◌∙◌, subst, arith}
use Rattle.sb_base.specs.declared.interning.Name.{Name}
use Rattle.sb_base.specs.declared.refusals.Place.{Place}
use Rattle.sb_base.specs.declared.tokens.Token.{Token}
use Rattle.sb_parse.specs.Parser.{Parser, stop, at_next, ◌>>=◌, pure, token, choose, guard}
use Rattle.sb_sign.specs.declared.sign.Keyword.{Keyword}
use Rattle.sb_sign.specs.declared.sign.Keyword.TheVariants as keyword
use Rattle.sb_tree.specs.Trees as tree
use Rattle.sb_tree.specs.Trees.{StmtTree}
use Rattle.sb_parse.specs.Descent.{choose_second}
use Rattle.sb_expr.specs.Expression.{Conditional, Sequence}
use Rattle.sb_lexicon.specs.Lexicon.{Lexicon, is_keyword}
use Rattle.sb_expr.specs.Readers.{expr_reader}
use Rattle.sb_lexicon.specs.Tokens.{unexpected, too_deep, unknown_before, misplaced_before, is_zero, is_open, is_close, is_open_brace, is_colon}
use Rattle.sb_parse.proofs.Ways.{and_second}
use Rattle.sb_lexicon.proofs.Wider.{zero_wider}
use Rattle.sb_sal.proofs.Deepening.{Past, Shrinks, Deepens, Deep, at_list, most_at, deep_guard, shrinks_token, shrinks_then, still_pure, still_refuse, in_order, choosing, choosing_where, choosing_second, turning, open_zero}
use Rattle.sb_sal.proofs.ExprDeepening.{expr_deepens}
use Rattle.sb_sal.proofs.Lowered.{not_unexpected, expects, takes}
use Rattle.sb_specifier.specs.Readers.{is_close_brace, is_semicolon, is_name, name_at}
use Rattle.sb_specifier.specs.Specified.{reading}
use Rattle.sb_declarator.proofs.deepening.Members.{text_deepens}
use Rattle.sb_specifier.proofs.deepening.Specifiers.{barred_token_at}
use Rattle.sb_statement.specs.Readers.{Body, First, Parts, only_label, expression, in_parentheses, semicolon, block, evaluated, empty, other, selected, switched, repeated, done_first, optional, gone, broken, continued, returned, labelled, case_of, default_of, stepped, iterated, by_keyword, unlabelled, by_name, statement}
use Rattle.sb_block.proofs.deepening.Shrinks.{SmallParts}
use Rattle.sb_block.proofs.deepening.Entering.{name_begins, statement_enters}

-- the readers of statements, each by its depth; the first part of a `for` is read only where there is room
pub record DeepParts (n : ℕ) (part : ℕ → Parts) : Type 0 where
  pub statement : (cases : Bool) (types : List Name) → Deepens n (λ m. (part m).statement cases types)
  pub block : (cases : Bool) (types : List Name) → Deepens n (λ m. (part m).block cases types)
  pub item : (cases : Bool) (b : Body) → Deepens n (λ m. (part m).item cases b)
  pub first : is_zero n ≡ false → (types : List Name) → Deepens n (λ m. (part m).first types)
  pub first_shrinks : (m : ℕ) → n ≤ m → (types : List Name) → Shrinks ((part m).first types)

pub unknown_not_deep : unknown_before ≡ too_deep → ⊥
unknown_not_deep e = cc e

pub misplaced_not_deep : misplaced_before 1 ≡ too_deep → ⊥
misplaced_not_deep e = cc e

pub least : (n m : ℕ) → is_zero n ≡ true → n ≤ m
least zero m h = omega arith
least (suc n) m h = absurd (cc h)

-- behind a word, where there is room
nested_deepens : {A : Type 0} (n : ℕ) (test word : Token → Bool) (q : ℕ → Token → Parser Token A) → ((ts : List Token) → at_next test ts ≡ true → at_next word ts ≡ true)
    → (is_zero n ≡ false → (t : Token) → Deepens n (λ m. q m t)) → ((m : ℕ) → n ≤ m → (t : Token) → Shrinks (q m t)) → (r : ℕ → Parser Token A) → Deepens n r
    → Deepens n (λ m. choose test (guard (is_zero m) too_deep (token unexpected word >>= q m)) (r m))
nested_deepens n test word q Is Q S r R =
    choosing_where n test (λ m. guard (is_zero m) too_deep (token unexpected word >>= q m)) r
    (λ ts h. barred_token_at n word is_zero q (λ m le h. zero_wider n m le h) (open_zero n) Q (λ m le h. S m le) ts (Is ts h)) (λ ts h. at_list n r R ts)

-- `part`: the readers of parts, by their depth
module _ (texts : List (List ℕ)) (n : ℕ) (part : ℕ → Parts) (Inner : DeepParts n part) where
  module _ (types : List Name) where
    abbrev w : Lexicon
    w = reading texts types

    expression_deepens : Deepens n (λ m. expression texts m (part m) types)
    unfolding expression
    expression_deepens = expr_deepens w Sequence n

    pub tested_deepens : Deepens n (λ m. in_parentheses texts m (part m) types)
    unfolding in_parentheses
    tested_deepens = in_order n _ _ (expects n (is_open w)) (λ o. in_order n _ _ expression_deepens (λ e. in_order n _ _ (expects n (is_close w)) (λ c. still_pure n e)))

    pub semicolon_deepens : Deepens n (λ m. semicolon texts m (part m) types)
    unfolding semicolon
    semicolon_deepens = expects n (is_semicolon w)

    pub block_deepens : (cases : Bool) → Deepens n (λ m. block texts m (part m) types cases)
    unfolding block
    block_deepens cases =
        in_order n _ _ (expects n (is_open_brace w)) (λ o. in_order n _ _ (turning n (λ t. not (is_close_brace w t)) (λ m. (part m).item cases) (λ b. Inner.item cases b) (record { list = []; types = types }))
        (λ b. in_order n _ _ (expects n (is_close_brace w)) (λ c. still_pure n _)))

    pub evaluated_deepens : Deepens n (λ m. evaluated texts m (part m) types)
    unfolding evaluated
    evaluated_deepens = in_order n _ _ (text_deepens n (λ m. expression texts m (part m) types) expression_deepens) (λ e. in_order n _ _ semicolon_deepens (λ c. still_pure n _))

    pub empty_deepens : Deepens n (λ m. empty texts m (part m) types)
    unfolding empty
    empty_deepens = in_order n _ _ (expects n (is_semicolon w)) (λ c. still_pure n _)

    other_deepens : Deepens n (λ m. other texts m (part m) types)
    unfolding other
    other_deepens = choosing n (is_keyword w keyword.Else) _ _ (in_order n _ _ (expects n (is_keyword w keyword.Else)) (λ t. in_order n _ _ (Inner.statement false types) (λ s. still_pure n _))) (still_pure n _)

    -- ---- behind the first word of a statement

    abbrev after_if : ℕ → Token → Parser Token StmtTree
    after_if m t = in_parentheses texts m (part m) types >>= (λ e. (part m).statement false types >>= (λ s. other texts m (part m) types >>= (λ o. pure (tree.If e s o t.place))))

    after_if_deepens : (t : Token) → Deepens n (λ m. after_if m t)
    after_if_deepens t = in_order n _ _ tested_deepens (λ e. in_order n _ _ (Inner.statement false types) (λ s. in_order n _ _ other_deepens (λ o. still_pure n _)))

    abbrev after_switch : ℕ → Token → Parser Token StmtTree
    after_switch m t = in_parentheses texts m (part m) types >>= (λ e. (part m).block true types >>= (λ s. pure (tree.Switch e s t.place)))

    after_switch_deepens : (t : Token) → Deepens n (λ m. after_switch m t)
    after_switch_deepens t = in_order n _ _ tested_deepens (λ e. in_order n _ _ (Inner.block true types) (λ s. still_pure n _))

    abbrev after_while : ℕ → Token → Parser Token StmtTree
    after_while m t = in_parentheses texts m (part m) types >>= (λ e. (part m).statement false types >>= (λ s. pure (tree.While e s t.place)))

    after_while_deepens : (t : Token) → Deepens n (λ m. after_while m t)
    after_while_deepens t = in_order n _ _ tested_deepens (λ e. in_order n _ _ (Inner.statement false types) (λ s. still_pure n _))

    abbrev after_do : ℕ → Token → Parser Token StmtTree
    after_do m t = (part m).statement false types >>= (λ s. token unexpected (is_keyword w keyword.While) >>= (λ u. in_parentheses texts m (part m) types >>= (λ e. semicolon texts m (part m) types >>= (λ c. pure (tree.Do s e t.place)))))

    after_do_deepens : (t : Token) → Deepens n (λ m. after_do m t)
    after_do_deepens t =
        in_order n _ _ (Inner.statement false types) (λ s. in_order n _ _ (expects n (is_keyword w keyword.While)) (λ u. in_order n _ _ tested_deepens (λ e. in_order n _ _ semicolon_deepens (λ c. still_pure n _))))

    abbrev after_case : ℕ → Token → Parser Token StmtTree
    after_case m t = expr_reader w m Conditional >>= (λ e. token unexpected (is_colon w) >>= (λ c. (part m).statement true types >>= (λ s. pure (tree.Case e s t.place))))

    after_case_deepens : (t : Token) → Deepens n (λ m. after_case m t)
    after_case_deepens t = in_order n _ _ (expr_deepens w Conditional n) (λ e. in_order n _ _ (expects n (is_colon w)) (λ c. in_order n _ _ (Inner.statement true types) (λ s. still_pure n _)))

    abbrev after_default : ℕ → Token → Parser Token StmtTree
    after_default m t = token unexpected (is_colon w) >>= (λ c. (part m).statement true types >>= (λ s. pure (tree.Default s t.place)))

    after_default_deepens : (t : Token) → Deepens n (λ m. after_default m t)
    after_default_deepens t = in_order n _ _ (expects n (is_colon w)) (λ c. in_order n _ _ (Inner.statement true types) (λ s. still_pure n _))

    optional_deepens : (ends : Token → Bool) → Deepens n (λ m. optional texts m (part m) types ends)
    unfolding optional
    optional_deepens ends = choosing n ends _ _ (still_pure n _) (in_order n _ _ expression_deepens (λ e. still_pure n _))

    gone_deepens : Deepens n (λ m. gone texts m (part m) types)
    unfolding gone
    gone_deepens = in_order n _ _ (expects n (is_keyword w keyword.Goto)) (λ t. in_order n _ _ (takes n (name_at w)) (λ l. in_order n _ _ semicolon_deepens (λ c. still_pure n _)))

    broken_deepens : Deepens n (λ m. broken texts m (part m) types)
    unfolding broken
    broken_deepens = in_order n _ _ (expects n (is_keyword w keyword.Break)) (λ t. in_order n _ _ semicolon_deepens (λ c. still_pure n _))

    continued_deepens : Deepens n (λ m. continued texts m (part m) types)
    unfolding continued
    continued_deepens = in_order n _ _ (expects n (is_keyword w keyword.Continue)) (λ t. in_order n _ _ semicolon_deepens (λ c. still_pure n _))

    returned_deepens : Deepens n (λ m. returned texts m (part m) types)
    unfolding returned
    returned_deepens = in_order n _ _ (expects n (is_keyword w keyword.Return)) (λ t. in_order n _ _ (optional_deepens (is_semicolon w)) (λ e. in_order n _ _ semicolon_deepens (λ c. still_pure n _)))

    labelled_deepens : (cases : Bool) → Deepens n (λ m. labelled texts m (part m) types cases)
    unfolding labelled
    labelled_deepens cases = in_order n _ _ (takes n (name_at w)) (λ l. in_order n _ _ (expects n (is_colon w)) (λ c. in_order n _ _ (Inner.statement cases types) (λ s. still_pure n _)))

  -- ---- `for`

  stepped_deepens : (place : Place) (f : First) → Deepens n (λ m. stepped texts m (part m) place f)
  unfolding stepped
  stepped_deepens place f =
      in_order n _ _ (optional_deepens f.types (is_semicolon (reading texts f.types))) (λ e. in_order n _ _ (expects n (is_semicolon (reading texts f.types)))
      (λ c. in_order n _ _ (optional_deepens f.types (is_close (reading texts f.types))) (λ g. in_order n _ _ (expects n (is_close (reading texts f.types)))
      (λ d. in_order n _ _ (Inner.statement false f.types) (λ s. still_pure n _)))))

  abbrev after_for : List Name → ℕ → Token → Parser Token StmtTree
  after_for types m t = token unexpected (is_open (reading texts types)) >>= (λ o. (part m).first types >>= stepped texts m (part m) t.place)

  after_for_deepens : (types : List Name) → is_zero n ≡ false → (t : Token) → Deepens n (λ m. after_for types m t)
  after_for_deepens types h t = in_order n _ _ (expects n (is_open (reading texts types))) (λ o. in_order n (λ m. (part m).first types) (λ m. stepped texts m (part m) t.place) (Inner.first h types) (stepped_deepens t.place))

  after_for_shrinks : (types : List Name) (m : ℕ) → n ≤ m → (t : Token) → Shrinks (after_for types m t)
  after_for_shrinks types m le t =
      shrinks_then (token unexpected (is_open (reading texts types))) (λ o. (part m).first types >>= stepped texts m (part m) t.place) (shrinks_token unexpected (is_open (reading texts types)))
      (λ o. shrinks_then ((part m).first types) (stepped texts m (part m) t.place) (Inner.first_shrinks m le types) (λ f. (stepped_deepens t.place f).shrinks m le))

  -- ---- statements by their first token

  by_word : (types : List Name) (k : Keyword) (q : ℕ → Token → Parser Token StmtTree) → (is_zero n ≡ false → (t : Token) → Deepens n (λ m. q m t)) → ((m : ℕ) → n ≤ m → (t : Token) → Shrinks (q m t))
      → (r : ℕ → Parser Token StmtTree) → Deepens n r
      → Deepens n (λ m. choose (is_keyword (reading texts types) k) (guard (is_zero m) too_deep (token unexpected (is_keyword (reading texts types) k) >>= q m)) (r m))
  by_word types k q = nested_deepens n (is_keyword (reading texts types) k) (is_keyword (reading texts types) k) q (λ ts h. h)

  label_word : (types : List Name) (cases : Bool) (k : Keyword) (ts : List Token) → at_next (λ t. cases && is_keyword (reading texts types) k t) ts ≡ true → at_next (is_keyword (reading texts types) k) ts ≡ true
  label_word types cases k [] h = absurd (cc h)
  label_word types cases k (t ∷ ts) h = and_second cases (is_keyword (reading texts types) k t) h

  keyword_deepens : (cases : Bool) (types : List Name) (p : ℕ → Parser Token StmtTree) → Deepens n p → Deepens n (λ m. by_keyword texts m (part m) cases types (p m))
  unfolding by_keyword selected repeated done_first iterated switched case_of default_of
  keyword_deepens cases types p P =
      choosing n _ _ _ (block_deepens types false)
      (choosing n _ _ _ (empty_deepens types)
      (by_word types keyword.If (after_if types) (λ h. after_if_deepens types) (λ m le t. (after_if_deepens types t).shrinks m le) _
      (by_word types keyword.While (after_while types) (λ h. after_while_deepens types) (λ m le t. (after_while_deepens types t).shrinks m le) _
      (by_word types keyword.Do (after_do types) (λ h. after_do_deepens types) (λ m le t. (after_do_deepens types t).shrinks m le) _
      (by_word types keyword.For (after_for types) (after_for_deepens types) (after_for_shrinks types) _
      (by_word types keyword.Switch (after_switch types) (λ h. after_switch_deepens types) (λ m le t. (after_switch_deepens types t).shrinks m le) _
      (choosing n _ _ _ (gone_deepens types)
      (choosing n _ _ _ (broken_deepens types)
      (choosing n _ _ _ (continued_deepens types)
      (choosing n _ _ _ (returned_deepens types)
      (nested_deepens n (λ t. cases && is_keyword (reading texts types) keyword.Case t) (is_keyword (reading texts types) keyword.Case) (after_case types) (label_word types cases keyword.Case) (λ h. after_case_deepens types)
      (λ m le t. (after_case_deepens types t).shrinks m le) _
      (nested_deepens n (λ t. cases && is_keyword (reading texts types) keyword.Default t) (is_keyword (reading texts types) keyword.Default) (after_default types) (label_word types cases keyword.Default) (λ h. after_default_deepens types)
      (λ m le t. (after_default_deepens types t).shrinks m le) _
      P))))))))))))

  -- ---- statements that begin with a name

  pub small : (m : ℕ) → n ≤ m → SmallParts (part m)
  small m le = record {
    statement = λ cases types. (Inner.statement cases types).shrinks m le;
    block = λ cases types. (Inner.block cases types).shrinks m le;
    item = λ cases b. (Inner.item cases b).shrinks m le;
    first = Inner.first_shrinks m le;
  }

  pub label_deepens : {A : Type 0} (types : List Name) (k : ℕ) → (k ≡ too_deep → ⊥) → Deepens {A = A} n (λ m. only_label k (reading texts types))
  unfolding only_label
  label_deepens types k other = in_order n _ _ (expects n (is_name (reading texts types))) (λ t. still_refuse n k other)

  unlabelled_deepens : (types : List Name) → Deepens n (λ m. unlabelled texts m (part m) types)
  unfolding unlabelled
  unlabelled_deepens types =
      choosing n _ _ _ (label_deepens types unknown_before unknown_not_deep) (choosing n _ _ _ (label_deepens types unexpected not_unexpected) (evaluated_deepens types))

  module _ (cases : Bool) (types : List Name) where
    abbrev labelled_or_not : ℕ → Parser Token StmtTree
    labelled_or_not m = choose_second (is_colon (reading texts types)) (labelled texts m (part m) types cases) (unlabelled texts m (part m) types)

    labelled_or_not_deepens : Deepens n labelled_or_not
    labelled_or_not_deepens = choosing_second n _ _ _ (labelled_deepens types cases) (unlabelled_deepens types)

    opened : (ts : List Token) → at_next (is_name (reading texts types)) ts ≡ true → is_zero n ≡ true → (m : ℕ) × (n ≤ m) × (is_zero m ≡ false) × Past (length ts) (labelled_or_not m ts)
    unfolding statement by_name
    opened ts h none =
        let d : (m : ℕ) × (is_zero m ≡ false) × ((one : Parts) → SmallParts one → Past (length ts) (statement texts m one cases types ts)) = statement_enters texts cases types ts (name_begins (reading texts types) cases ts h) in
        let le : n ≤ d.0 = least n d.0 none in (
          d.0,
          le,
          d.1,
          subst (Past (length ts)) (ap (λ b. if b then by_name texts d.0 (part d.0) cases types ts else by_keyword texts d.0 (part d.0) cases types (evaluated texts d.0 (part d.0) types) ts) h
              ∙ ap (λ b. if b then stop too_deep (length ts) else labelled_or_not d.0 ts) d.1) (d.2 (part d.0) (small d.0 le)),
        )

    by_name_deep : (ts : List Token) → at_next (is_name (reading texts types)) ts ≡ true → Deep n (length ts) (λ m. by_name texts m (part m) cases types ts)
    unfolding by_name
    by_name_deep ts h =
        deep_guard n (length ts) is_zero (λ m. labelled_or_not m ts) (λ m le k. zero_wider n m le k) (opened ts h) (λ k. at_list n labelled_or_not labelled_or_not_deepens ts)
        (λ m le k. most_at (labelled_or_not m) (labelled_or_not_deepens.shrinks m le) ts)

    pub statement_deepens : Deepens n (λ m. statement texts m (part m) cases types)
    unfolding statement
    statement_deepens =
        choosing_where n (is_name (reading texts types)) _ _ by_name_deep
        (λ ts h. at_list n (λ m. by_keyword texts m (part m) cases types (evaluated texts m (part m) types)) (keyword_deepens cases types (λ m. evaluated texts m (part m) types) (evaluated_deepens types)) ts)
