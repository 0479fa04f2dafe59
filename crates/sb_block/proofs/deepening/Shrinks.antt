-- Readers of statements leave no more than there was, and where a statement begins, those with room get past its first token.
use Rattle.std.proofs.Common.{◌≡◌, ◌≤◌, ℕ, zero, suc, Bool, true, false, not, List, [], ◌∷◌, length, Option, Some, None, is_some, if◌then◌else◌, refl, sym, ap, ◌∙◌, arith}
use Rattle.std.specs.Option.{option_map_or}
use Rattle.sb_base.specs.declared.interning.Name.{Name}
use Rattle.sb_base.specs.declared.refusals.Place.{Place}
use Rattle.sb_base.specs.declared.tokens.Token.{Token}
use Rattle.sb_parse.specs.Parser.{Outcome, Parser, done, stop, at_next, ◌>>=◌, pure, token, taken, choose, guard, refuse, looped}
use Rattle.sb_sign.specs.declared.sign.Keyword.TheVariants as keyword
use Rattle.sb_tree.specs.Plain.{stmt_list}
use Rattle.sb_sign.specs.Signs as sign
use Rattle.sb_tree.specs.Trees as tree
use Rattle.sb_tree.specs.Trees.{ExprTree, StmtTree}
use Rattle.sb_parse.specs.Descent.{descent}
use Rattle.sb_expr.specs.Expression.{Conditional, Sequence}
use Rattle.sb_lexicon.specs.Lexicon.{Lexicon, is_among, name_of, named_operand, operand_of, is_returned, is_keyword, is_type_name}
use Rattle.sb_expr.specs.Readers.{expr_reader}
use Rattle.sb_lexicon.specs.Tokens.{unexpected, too_deep, bad_arguments, volatile, is_zero, is_open, is_close, is_open_brace, is_colon, begins_expr}
use Rattle.sb_parse.proofs.Ways.{or_first}
use Rattle.sb_sal.specs.Readers.{is_bare}
use Rattle.sb_sal.specs.Spellings.{is_listed}
use Rattle.sb_sal.proofs.Deepening.{Past, read_past, stopped_past, Shrinks, past_bind, enters, enters_taken, shrinks_pure, shrinks_refuse, shrinks_token, shrinks_taken, shrinks_then, shrinks_choose, shrinks_second, shrinks_guard, shrinks_looped}
use Rattle.sb_sal.proofs.ExprDeepening.{expr_deepens}
use Rattle.sb_specifier.specs.declared.seat.Seat.TheVariants as seat
use Rattle.sb_parse.specs.Texts.{with_text}
use Rattle.sb_specifier.specs.Readers.{is_close_brace, is_semicolon, is_name, name_at, barred}
use Rattle.sb_specifier.specs.Specified.{reading}
use Rattle.sb_declarator.proofs.deepening.Members.{shrinks_text, past_front}
use Rattle.sb_statement.specs.Readers.{Body, First, Parts, first_place, goes_on_type, crowded, only_label, expression, in_parentheses, semicolon, block, evaluated, empty, other, selected, switched, repeated, done_first, optional, gone, broken, continued, returned, labelled, case_of, default_of, stepped, iterated, by_keyword, unlabelled, by_name, statement}

-- ---- ways to get past a token

pub past_choice : {A : Type 0} (left : ℕ) (b : Bool) (o p : Outcome Token A) → (b ≡ true → Past left o) → (b ≡ false → Past left p) → Past left (if b then o else p)
past_choice left true o p O P = O refl
past_choice left false o p O P = P refl

-- behind an open bar
pub past_guard : {A : Type 0} (left : ℕ) (bar : Bool) (n : ℕ) (p : Parser Token A) (ts : List Token) → bar ≡ false → Past left (p ts) → Past left (guard bar n p ts)
past_guard left true n p ts h P = absurd (cc h)
past_guard left false n p ts h P = P

pub not_past : {A : Type 0} (left i k : ℕ) (o : Outcome Token A) → o ≡ stop i k → left ≤ k → Past left o → ⊥
not_past {A = A} left i k o e le (read_past a rest f less) = absurd (let both : Path (Outcome Token A) (stop i k) (done a rest) = sym e ∙ f in cc both)
not_past {A = A} left i k o e le (stopped_past n j f less) = let both : Path (Outcome Token A) (stop i k) (stop n j) = sym e ∙ f in let same : k ≡ j = cc both in omega arith

-- ---- expressions

module _ (w : Lexicon) (ts : List Token) (h : at_next (begins_expr w) ts ≡ true) where
  no_room : expr_reader w 0 Sequence ts ≡ stop too_deep (length ts)
  unfolding descent
  no_room = ap (λ b. if b then stop too_deep (length ts) else stop unexpected (length ts)) h

  -- some reader gets past a token that begins an expression
  pub expr_past : (m : ℕ) × (is_zero m ≡ false) × Past (length ts) (expr_reader w m Sequence ts)
  expr_past = let d : (m : ℕ) × (0 ≤ m) × Past (length ts) (expr_reader w m Sequence ts) = (expr_deepens w Sequence 0).deeper ts (length ts) no_room in (d.0, above d.0 d.2, d.2)
    where
      above : (m : ℕ) → Past (length ts) (expr_reader w m Sequence ts) → is_zero m ≡ false
      above zero p = absurd (let le : length ts ≤ length ts = omega arith in not_past (length ts) too_deep (length ts) _ no_room le p)
      above (suc m) p = refl

-- a name that is no typedef name is an operand
pub name_begins_expr : (w : Lexicon) (t : Token) → is_name w t ≡ true → is_type_name w t ≡ false → begins_expr w t ≡ true
name_begins_expr w t named type = or_first (is_some (operand_of w t)) _ (by_tests (sign.is_number t) (sign.is_text t) (is_returned w t) (name_of w t) named type)
  where
    by_tests : (a b c : Bool) (o : Option Name) → is_some o ≡ true → option_map_or (λ n. is_among n w.types) o false ≡ false
        → is_some (if a then Some (tree.Number t.text t.value t.place) else (if b then Some (tree.Text t.text t.place) else (if c then Some (tree.Identifier t.text t.place) else named_operand w t.place o))) ≡ true
    by_tests true b c o h k = refl
    by_tests false true c o h k = refl
    by_tests false false true o h k = refl
    by_tests false false false None h k = absurd (cc h)
    by_tests false false false (Some n) h k = ap (λ b. is_some (if b then None else Some (tree.Identifier n t.place))) k

-- ---- what is left

pub record SmallParts (part : Parts) : Type 0 where
  pub statement : (cases : Bool) (types : List Name) → Shrinks (part.statement cases types)
  pub block : (cases : Bool) (types : List Name) → Shrinks (part.block cases types)
  pub item : (cases : Bool) (b : Body) → Shrinks (part.item cases b)
  pub first : (types : List Name) → Shrinks (part.first types)

-- the reader of a name that begins only a label
pub label_shrinks : {A : Type 0} (n : ℕ) (w : Lexicon) → Shrinks {A = A} (only_label n w)
unfolding only_label
label_shrinks n w = shrinks_then _ _ (shrinks_token unexpected (is_name w)) (λ t. shrinks_refuse n)

pub label_past : {A : Type 0} (n : ℕ) (w : Lexicon) (ts : List Token) → at_next (is_name w) ts ≡ true → Past {A = A} (length ts) (only_label n w ts)
unfolding only_label
label_past n w ts h = enters unexpected (is_name w) (λ t. refuse n) (λ t. shrinks_refuse n) ts h

pub barred_shrinks : {A : Type 0} (w : Lexicon) → Shrinks {A = A} (barred w seat.Scope)
barred_shrinks w =
    shrinks_choose _ _ _ (shrinks_refuse _) (shrinks_choose _ _ _ (shrinks_refuse _) (shrinks_choose _ _ _ (shrinks_refuse _) (shrinks_choose _ _ _ (shrinks_refuse _)
    (shrinks_choose _ _ _ (shrinks_refuse _) (shrinks_choose _ _ _ (shrinks_refuse _) (shrinks_choose _ _ _ (shrinks_refuse _) (shrinks_refuse _)))))))

pub crowded_shrinks : {A : Type 0} (w : Lexicon) (t : Token) → Shrinks {A = A} (crowded w t)
crowded_shrinks {A = A} w t = by_kind (is_bare w t) (is_listed w t)
  where
    by_kind : (c d : Bool) → Shrinks {A = A} (if c then choose (is_open w) (refuse bad_arguments) (barred w seat.Scope)
        else (if d then choose (is_open w) (refuse too_deep) (choose (λ s. true) (refuse bad_arguments) (refuse unexpected))
        else choose (is_keyword w keyword.Volatile) (refuse volatile) (choose (goes_on_type w) (refuse too_deep) (refuse unexpected))))
    by_kind true d = shrinks_choose _ _ _ (shrinks_refuse _) (barred_shrinks w)
    by_kind false true = shrinks_choose _ _ _ (shrinks_refuse _) (shrinks_choose _ _ _ (shrinks_refuse _) (shrinks_refuse _))
    by_kind false false = shrinks_choose _ _ _ (shrinks_refuse _) (shrinks_choose _ _ _ (shrinks_refuse _) (shrinks_refuse _))

module _ (texts : List (List ℕ)) (m : ℕ) (part : Parts) (S : SmallParts part) where
  module _ (types : List Name) where
    abbrev w : Lexicon
    w = reading texts types

    pub expression_shrinks : Shrinks (expression texts m part types)
    unfolding expression
    expression_shrinks = (expr_deepens w Sequence m).shrinks m (omega arith)

    pub tested_shrinks : Shrinks (in_parentheses texts m part types)
    unfolding in_parentheses
    tested_shrinks = shrinks_then _ _ (shrinks_token _ _) (λ o. shrinks_then _ _ expression_shrinks (λ e. shrinks_then _ _ (shrinks_token _ _) (λ c. shrinks_pure e)))

    pub semicolon_shrinks : Shrinks (semicolon texts m part types)
    unfolding semicolon
    semicolon_shrinks = shrinks_token _ _

    -- behind the brace of a block
    abbrev in_block : Bool → Token → Parser Token StmtTree
    in_block cases o = looped (λ t. not (is_close_brace w t)) (part.item cases) (record { list = []; types = types }) >>= (λ b. token unexpected (is_close_brace w) >>= (λ c. pure (tree.Block (stmt_list b.list) o.place c.place)))

    pub in_block_shrinks : (cases : Bool) (o : Token) → Shrinks (in_block cases o)
    in_block_shrinks cases o =
        shrinks_then _ _ (shrinks_looped (λ t. not (is_close_brace w t)) (part.item cases) (λ b. S.item cases b) (record { list = []; types = types })) (λ b. shrinks_then _ _ (shrinks_token _ _) (λ c. shrinks_pure _))

    pub block_shrinks : (cases : Bool) → Shrinks (block texts m part types cases)
    unfolding block
    block_shrinks cases = shrinks_then _ _ (shrinks_token _ _) (in_block_shrinks cases)

    pub block_past : (cases : Bool) (ts : List Token) → at_next (is_open_brace w) ts ≡ true → Past (length ts) (block texts m part types cases ts)
    unfolding block
    block_past cases ts h = enters unexpected (is_open_brace w) (in_block cases) (in_block_shrinks cases) ts h

    pub evaluating_shrinks : (e : ExprTree × List Token) → Shrinks (semicolon texts m part types >>= (λ c. pure (tree.Evaluate (tree.AnExpr e.0) (first_place e.1))))
    evaluating_shrinks e = shrinks_then _ _ semicolon_shrinks (λ c. shrinks_pure _)

    pub evaluated_shrinks : Shrinks (evaluated texts m part types)
    unfolding evaluated
    evaluated_shrinks = shrinks_then _ _ (shrinks_text _ expression_shrinks) evaluating_shrinks

    pub evaluated_past : (ts : List Token) → Past (length ts) (expr_reader w m Sequence ts) → Past (length ts) (evaluated texts m part types ts)
    unfolding evaluated expression
    evaluated_past ts p = past_bind (with_text (expression texts m part types)) _ (length ts) ts (past_front (length ts) ts (expression texts m part types ts) p) evaluating_shrinks

    pub other_shrinks : Shrinks (other texts m part types)
    unfolding other
    other_shrinks = shrinks_choose _ _ _ (shrinks_then _ _ (shrinks_token _ _) (λ t. shrinks_then _ _ (S.statement false types) (λ s. shrinks_pure _))) (shrinks_pure _)

    pub optional_shrinks : (ends : Token → Bool) → Shrinks (optional texts m part types ends)
    unfolding optional
    optional_shrinks ends = shrinks_choose _ _ _ (shrinks_pure _) (shrinks_then _ _ expression_shrinks (λ e. shrinks_pure _))

    pub labelled_past : (cases : Bool) (ts : List Token) → at_next (is_name w) ts ≡ true → Past (length ts) (labelled texts m part types cases ts)
    unfolding labelled
    labelled_past cases ts h =
        enters_taken unexpected (name_at w) (λ n. token unexpected (is_colon w) >>= (λ c. part.statement cases types >>= (λ s. pure (tree.Label n.0 s n.1))))
        (λ n. shrinks_then _ _ (shrinks_token _ _) (λ c. shrinks_then _ _ (S.statement cases types) (λ s. shrinks_pure _))) ts (given ts h)
      where
        by_name : (o : Option Name) (place : Place) → is_some o ≡ true → is_some {T = Name × Place} (option_map_or (λ n. Some (n, place)) o None) ≡ true
        by_name None place h = h
        by_name (Some n) place h = refl

        given : (ts : List Token) → at_next (is_name w) ts ≡ true → at_next (λ t. is_some (name_at w t)) ts ≡ true
        given [] h = h
        given (t ∷ ts) h = by_name (name_of w t) t.place h

    pub labelled_shrinks : (cases : Bool) → Shrinks (labelled texts m part types cases)
    unfolding labelled
    labelled_shrinks cases = shrinks_then _ _ (shrinks_taken _ _) (λ n. shrinks_then _ _ (shrinks_token _ _) (λ c. shrinks_then _ _ (S.statement cases types) (λ s. shrinks_pure _)))

    -- ---- behind the first word of a statement

    pub selected_shrinks : Shrinks (selected texts m part types)
    unfolding selected
    selected_shrinks = shrinks_then _ _ (shrinks_token _ _) (λ t. shrinks_then _ _ tested_shrinks (λ e. shrinks_then _ _ (S.statement false types) (λ s. shrinks_then _ _ other_shrinks (λ o. shrinks_pure _))))

    pub selected_past : (ts : List Token) → at_next (is_keyword w keyword.If) ts ≡ true → Past (length ts) (selected texts m part types ts)
    unfolding selected
    selected_past ts h = enters unexpected (is_keyword w keyword.If) _ (λ t. shrinks_then _ _ tested_shrinks (λ e. shrinks_then _ _ (S.statement false types) (λ s. shrinks_then _ _ other_shrinks (λ o. shrinks_pure _)))) ts h

    pub switched_shrinks : Shrinks (switched texts m part types)
    unfolding switched
    switched_shrinks = shrinks_then _ _ (shrinks_token _ _) (λ t. shrinks_then _ _ tested_shrinks (λ e. shrinks_then _ _ (S.block true types) (λ s. shrinks_pure _)))

    pub switched_past : (ts : List Token) → at_next (is_keyword w keyword.Switch) ts ≡ true → Past (length ts) (switched texts m part types ts)
    unfolding switched
    switched_past ts h = enters unexpected (is_keyword w keyword.Switch) _ (λ t. shrinks_then _ _ tested_shrinks (λ e. shrinks_then _ _ (S.block true types) (λ s. shrinks_pure _))) ts h

    pub repeated_shrinks : Shrinks (repeated texts m part types)
    unfolding repeated
    repeated_shrinks = shrinks_then _ _ (shrinks_token _ _) (λ t. shrinks_then _ _ tested_shrinks (λ e. shrinks_then _ _ (S.statement false types) (λ s. shrinks_pure _)))

    pub repeated_past : (ts : List Token) → at_next (is_keyword w keyword.While) ts ≡ true → Past (length ts) (repeated texts m part types ts)
    unfolding repeated
    repeated_past ts h = enters unexpected (is_keyword w keyword.While) _ (λ t. shrinks_then _ _ tested_shrinks (λ e. shrinks_then _ _ (S.statement false types) (λ s. shrinks_pure _))) ts h

    abbrev behind_do : Token → Parser Token StmtTree
    behind_do t = part.statement false types >>= (λ s. token unexpected (is_keyword w keyword.While) >>= (λ u. in_parentheses texts m part types >>= (λ e. semicolon texts m part types >>= (λ c. pure (tree.Do s e t.place)))))

    pub behind_do_shrinks : (t : Token) → Shrinks (behind_do t)
    behind_do_shrinks t = shrinks_then _ _ (S.statement false types) (λ s. shrinks_then _ _ (shrinks_token _ _) (λ u. shrinks_then _ _ tested_shrinks (λ e. shrinks_then _ _ semicolon_shrinks (λ c. shrinks_pure _))))

    pub done_shrinks : Shrinks (done_first texts m part types)
    unfolding done_first
    done_shrinks = shrinks_then _ _ (shrinks_token _ _) behind_do_shrinks

    pub done_past : (ts : List Token) → at_next (is_keyword w keyword.Do) ts ≡ true → Past (length ts) (done_first texts m part types ts)
    unfolding done_first
    done_past ts h = enters unexpected (is_keyword w keyword.Do) behind_do behind_do_shrinks ts h

    pub behind_goto_shrinks : (t : Token) → Shrinks (taken unexpected (name_at w) >>= (λ n. semicolon texts m part types >>= (λ c. pure (tree.Goto n.0 n.1 t.place))))
    behind_goto_shrinks t = shrinks_then _ _ (shrinks_taken _ _) (λ n. shrinks_then _ _ semicolon_shrinks (λ c. shrinks_pure _))

    pub gone_shrinks : Shrinks (gone texts m part types)
    unfolding gone
    gone_shrinks = shrinks_then _ _ (shrinks_token _ _) behind_goto_shrinks

    pub gone_past : (ts : List Token) → at_next (is_keyword w keyword.Goto) ts ≡ true → Past (length ts) (gone texts m part types ts)
    unfolding gone
    gone_past ts h = enters unexpected (is_keyword w keyword.Goto) _ behind_goto_shrinks ts h

    pub broken_shrinks : Shrinks (broken texts m part types)
    unfolding broken
    broken_shrinks = shrinks_then _ _ (shrinks_token _ _) (λ t. shrinks_then _ _ semicolon_shrinks (λ c. shrinks_pure _))

    pub broken_past : (ts : List Token) → at_next (is_keyword w keyword.Break) ts ≡ true → Past (length ts) (broken texts m part types ts)
    unfolding broken
    broken_past ts h = enters unexpected (is_keyword w keyword.Break) _ (λ t. shrinks_then _ _ semicolon_shrinks (λ c. shrinks_pure _)) ts h

    pub continued_shrinks : Shrinks (continued texts m part types)
    unfolding continued
    continued_shrinks = shrinks_then _ _ (shrinks_token _ _) (λ t. shrinks_then _ _ semicolon_shrinks (λ c. shrinks_pure _))

    pub continued_past : (ts : List Token) → at_next (is_keyword w keyword.Continue) ts ≡ true → Past (length ts) (continued texts m part types ts)
    unfolding continued
    continued_past ts h = enters unexpected (is_keyword w keyword.Continue) _ (λ t. shrinks_then _ _ semicolon_shrinks (λ c. shrinks_pure _)) ts h

    pub returned_shrinks : Shrinks (returned texts m part types)
    unfolding returned
    returned_shrinks = shrinks_then _ _ (shrinks_token _ _) (λ t. shrinks_then _ _ (optional_shrinks (is_semicolon w)) (λ e. shrinks_then _ _ semicolon_shrinks (λ c. shrinks_pure _)))

    pub returned_past : (ts : List Token) → at_next (is_keyword w keyword.Return) ts ≡ true → Past (length ts) (returned texts m part types ts)
    unfolding returned
    returned_past ts h = enters unexpected (is_keyword w keyword.Return) _ (λ t. shrinks_then _ _ (optional_shrinks (is_semicolon w)) (λ e. shrinks_then _ _ semicolon_shrinks (λ c. shrinks_pure _))) ts h

    pub behind_case_shrinks : (t : Token) → Shrinks (expr_reader w m Conditional >>= (λ e. token unexpected (is_colon w) >>= (λ c. part.statement true types >>= (λ s. pure (tree.Case e s t.place)))))
    behind_case_shrinks t = shrinks_then _ _ ((expr_deepens w Conditional m).shrinks m (omega arith)) (λ e. shrinks_then _ _ (shrinks_token _ _) (λ c. shrinks_then _ _ (S.statement true types) (λ s. shrinks_pure _)))

    pub case_shrinks : Shrinks (case_of texts m part types)
    unfolding case_of
    case_shrinks = shrinks_then _ _ (shrinks_token _ _) behind_case_shrinks

    pub case_past : (ts : List Token) → at_next (is_keyword w keyword.Case) ts ≡ true → Past (length ts) (case_of texts m part types ts)
    unfolding case_of
    case_past ts h = enters unexpected (is_keyword w keyword.Case) _ behind_case_shrinks ts h

    pub behind_default_shrinks : (t : Token) → Shrinks (token unexpected (is_colon w) >>= (λ c. part.statement true types >>= (λ s. pure (tree.Default s t.place))))
    behind_default_shrinks t = shrinks_then _ _ (shrinks_token _ _) (λ c. shrinks_then _ _ (S.statement true types) (λ s. shrinks_pure _))

    pub default_shrinks : Shrinks (default_of texts m part types)
    unfolding default_of
    default_shrinks = shrinks_then _ _ (shrinks_token _ _) behind_default_shrinks

    pub default_past : (ts : List Token) → at_next (is_keyword w keyword.Default) ts ≡ true → Past (length ts) (default_of texts m part types ts)
    unfolding default_of
    default_past ts h = enters unexpected (is_keyword w keyword.Default) _ behind_default_shrinks ts h

    pub empty_shrinks : Shrinks (empty texts m part types)
    unfolding empty
    empty_shrinks = shrinks_then _ _ (shrinks_token _ _) (λ c. shrinks_pure _)

    pub empty_past : (ts : List Token) → at_next (is_semicolon w) ts ≡ true → Past (length ts) (empty texts m part types ts)
    unfolding empty
    empty_past ts h = enters unexpected (is_semicolon w) _ (λ c. shrinks_pure _) ts h

  -- ---- `for`

  pub stepped_shrinks : (place : Place) (f : First) → Shrinks (stepped texts m part place f)
  unfolding stepped
  stepped_shrinks place f =
      shrinks_then _ _ (optional_shrinks f.types (is_semicolon (reading texts f.types))) (λ e. shrinks_then _ _ (shrinks_token _ _)
      (λ c. shrinks_then _ _ (optional_shrinks f.types (is_close (reading texts f.types))) (λ g. shrinks_then _ _ (shrinks_token _ _) (λ d. shrinks_then _ _ (S.statement false f.types) (λ s. shrinks_pure _)))))

  module _ (types : List Name) where
    abbrev behind_for : Token → Parser Token StmtTree
    behind_for t = token unexpected (is_open (reading texts types)) >>= (λ o. part.first types >>= stepped texts m part t.place)

    pub behind_for_shrinks : (t : Token) → Shrinks (behind_for t)
    behind_for_shrinks t = shrinks_then _ _ (shrinks_token _ _) (λ o. shrinks_then (part.first types) (stepped texts m part t.place) (S.first types) (stepped_shrinks t.place))

    pub iterated_shrinks : Shrinks (iterated texts m part types)
    unfolding iterated
    iterated_shrinks = shrinks_then _ _ (shrinks_token _ _) behind_for_shrinks

    pub iterated_past : (ts : List Token) → at_next (is_keyword (reading texts types) keyword.For) ts ≡ true → Past (length ts) (iterated texts m part types ts)
    unfolding iterated
    iterated_past ts h = enters unexpected (is_keyword (reading texts types) keyword.For) behind_for behind_for_shrinks ts h

  -- ---- statements by their first token

  pub nested_shrinks : (p : Parser Token StmtTree) → Shrinks p → Shrinks (guard (is_zero m) too_deep p)
  nested_shrinks p P = shrinks_guard (is_zero m) too_deep p (λ h. P)

  pub keyword_shrinks : (cases : Bool) (types : List Name) (p : Parser Token StmtTree) → Shrinks p → Shrinks (by_keyword texts m part cases types p)
  unfolding by_keyword
  keyword_shrinks cases types p P =
      shrinks_choose _ _ _ (block_shrinks types false)
      (shrinks_choose _ _ _ (empty_shrinks types)
      (shrinks_choose _ _ _ (nested_shrinks _ (selected_shrinks types))
      (shrinks_choose _ _ _ (nested_shrinks _ (repeated_shrinks types))
      (shrinks_choose _ _ _ (nested_shrinks _ (done_shrinks types))
      (shrinks_choose _ _ _ (nested_shrinks _ (iterated_shrinks types))
      (shrinks_choose _ _ _ (nested_shrinks _ (switched_shrinks types))
      (shrinks_choose _ _ _ (gone_shrinks types)
      (shrinks_choose _ _ _ (broken_shrinks types)
      (shrinks_choose _ _ _ (continued_shrinks types)
      (shrinks_choose _ _ _ (returned_shrinks types)
      (shrinks_choose _ _ _ (nested_shrinks _ (case_shrinks types))
      (shrinks_choose _ _ _ (nested_shrinks _ (default_shrinks types))
      P))))))))))))

  pub unlabelled_shrinks : (types : List Name) → Shrinks (unlabelled texts m part types)
  unfolding unlabelled
  unlabelled_shrinks types = shrinks_choose _ _ _ (label_shrinks _ _) (shrinks_choose _ _ _ (label_shrinks _ _) (evaluated_shrinks types))

  pub by_name_shrinks : (cases : Bool) (types : List Name) → Shrinks (by_name texts m part cases types)
  unfolding by_name
  by_name_shrinks cases types = nested_shrinks _ (shrinks_second _ _ _ (labelled_shrinks types cases) (unlabelled_shrinks types))

  pub statement_shrinks : (cases : Bool) (types : List Name) → Shrinks (statement texts m part cases types)
  unfolding statement
  statement_shrinks cases types = shrinks_choose _ _ _ (by_name_shrinks cases types) (keyword_shrinks cases types _ (evaluated_shrinks types))
