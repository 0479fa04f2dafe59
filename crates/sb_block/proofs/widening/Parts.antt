-- Readers of statements with more room, by what is known of the readers of their parts and of declarations.
use Rattle.std.proofs.Common.{◌≡◌, ◌≤◌, ℕ, Bool, true, false, not, List, [], length, refl}
use Rattle.sb_base.specs.declared.interning.Name.{Name}
use Rattle.sb_base.specs.declared.refusals.Place.{Place}
use Rattle.sb_base.specs.declared.tokens.Token.{Token}
use Rattle.sb_parse.specs.Parser.{Parser, at_next, pure, token, taken, guard}
use Rattle.sb_sign.specs.declared.sign.Keyword.TheVariants as keyword
use Rattle.sb_tree.specs.Trees as tree
use Rattle.sb_tree.specs.Trees.{StmtTree}
use Rattle.sb_parse.specs.Descent.{at_second, choose_second}
use Rattle.sb_expr.specs.Expression.{Level, Conditional, Sequence}
use Rattle.sb_lexicon.specs.Lexicon.{Lexicon, is_keyword}
use Rattle.sb_expr.specs.Readers.{expr_reader}
use Rattle.sb_lexicon.specs.Tokens.{unexpected, too_deep, is_zero, is_open, is_close, is_open_brace, is_colon}
use Rattle.sb_expr.proofs.widening.EachDepth.{parts_wider}
use Rattle.sb_lexicon.proofs.Wider.{Held, short, Wider, alike, one_by_one, behind, before, guarding, by_choice, choosing, turning, zero_wider}
use Rattle.sb_specifier.specs.Readers.{is_close_brace, is_semicolon, is_name, name_at}
use Rattle.sb_declare.specs.Readers.{declaration_reader}
use Rattle.sb_specifier.specs.Specified.{reading}
use Rattle.sb_declarator.proofs.widening.Members.{text_wider}
use Rattle.sb_statement.specs.Readers.{Body, First, Parts, names_declaration, expression, in_parentheses, semicolon, block, evaluated, empty, declared, other, selected, switched, repeated, done_first, optional, first, gone, broken, continued, returned, labelled, case_of, default_of, stepped, iterated, by_keyword, unlabelled, by_name, statement, declaration_item, statement_item, named_declaration, named_item, item, whole_parts}

-- the readers of statements, each with the one of its kind that has more room
pub record WiderParts (part more : Parts) : Type 0 where
  pub statement : (cases : Bool) (types : List Name) → Wider (part.statement cases types) (more.statement cases types)
  pub block : (cases : Bool) (types : List Name) → Wider (part.block cases types) (more.block cases types)
  pub item : (cases : Bool) (b : Body) → Wider (part.item cases b) (more.item cases b)
  pub first : (types : List Name) → Wider (part.first types) (more.first types)

-- `part`: readers of a depth, and `more` those of one that is no less
module _ (texts : List (List ℕ)) (n m : ℕ) (le : n ≤ m) (part more : Parts) (Inner : WiderParts part more) where
  room : is_zero n ≡ false → is_zero m ≡ false
  room h = zero_wider n m le h

  by_second : {A : Type 0} (goes : Token → Bool) (p s q r : Parser Token A) → Wider p s → Wider q r → Wider (choose_second goes p q) (choose_second goes s r)
  by_second goes p s q r P Q ts = by_choice (at_second goes ts) (p ts) (s ts) (q ts) (r ts) (λ h. P ts) (λ h. Q ts)

  module _ (types : List Name) where
    abbrev w : Lexicon
    w = reading texts types

    expr_wider : (level : Level) → Wider (expr_reader w n level) (expr_reader w m level)
    expr_wider level = (parts_wider w n m 0 le).0 level

    expression_wider : Wider (expression texts n part types) (expression texts m more types)
    unfolding expression
    expression_wider = expr_wider Sequence

    tested_wider : Wider (in_parentheses texts n part types) (in_parentheses texts m more types)
    unfolding in_parentheses
    tested_wider = behind (token unexpected (is_open w)) _ _ (λ o. before (expression texts n part types) (expression texts m more types) _ expression_wider)

    pub block_wider : (cases : Bool) → Wider (block texts n part types cases) (block texts m more types cases)
    unfolding block
    block_wider cases =
        behind (token unexpected (is_open_brace w)) _ _
        (λ o. before _ _ _ (turning (λ t. not (is_close_brace w t)) (part.item cases) (more.item cases) (Inner.item cases) (record { list = []; types = types })))

    evaluated_wider : Wider (evaluated texts n part types) (evaluated texts m more types)
    unfolding evaluated semicolon
    evaluated_wider = before _ _ _ (text_wider (expression texts n part types) (expression texts m more types) expression_wider)

    empty_wider : Wider (empty texts n part types) (empty texts m more types)
    unfolding empty
    empty_wider = alike _

    other_wider : Wider (other texts n part types) (other texts m more types)
    unfolding other
    other_wider = choosing (is_keyword w keyword.Else) _ _ _ _ (behind _ _ _ (λ t. before (part.statement false types) (more.statement false types) _ (Inner.statement false types))) (alike (pure tree.NoStmt))

    selected_wider : Wider (selected texts n part types) (selected texts m more types)
    unfolding selected
    selected_wider =
        behind _ _ _ (λ t. one_by_one (in_parentheses texts n part types) (in_parentheses texts m more types) _ _ tested_wider
        (λ e. one_by_one (part.statement false types) (more.statement false types) _ _ (Inner.statement false types) (λ s. before (other texts n part types) (other texts m more types) _ other_wider)))

    switched_wider : Wider (switched texts n part types) (switched texts m more types)
    unfolding switched
    switched_wider =
        behind _ _ _ (λ t. one_by_one (in_parentheses texts n part types) (in_parentheses texts m more types) _ _ tested_wider (λ e. before (part.block true types) (more.block true types) _ (Inner.block true types)))

    repeated_wider : Wider (repeated texts n part types) (repeated texts m more types)
    unfolding repeated
    repeated_wider =
        behind _ _ _ (λ t. one_by_one (in_parentheses texts n part types) (in_parentheses texts m more types) _ _ tested_wider (λ e. before (part.statement false types) (more.statement false types) _ (Inner.statement false types)))

    done_first_wider : Wider (done_first texts n part types) (done_first texts m more types)
    unfolding done_first semicolon
    done_first_wider =
        behind _ _ _ (λ t. one_by_one (part.statement false types) (more.statement false types) _ _ (Inner.statement false types)
        (λ s. behind _ _ _ (λ u. before (in_parentheses texts n part types) (in_parentheses texts m more types) _ tested_wider)))

    optional_wider : (ends : Token → Bool) → Wider (optional texts n part types ends) (optional texts m more types ends)
    unfolding optional
    optional_wider ends = choosing ends _ _ _ _ (alike _) (before (expression texts n part types) (expression texts m more types) _ expression_wider)

    gone_wider : Wider (gone texts n part types) (gone texts m more types)
    unfolding gone semicolon
    gone_wider = alike _

    broken_wider : Wider (broken texts n part types) (broken texts m more types)
    unfolding broken semicolon
    broken_wider = alike _

    continued_wider : Wider (continued texts n part types) (continued texts m more types)
    unfolding continued semicolon
    continued_wider = alike _

    returned_wider : Wider (returned texts n part types) (returned texts m more types)
    unfolding returned semicolon
    returned_wider = behind _ _ _ (λ t. before (optional texts n part types (is_semicolon w)) (optional texts m more types (is_semicolon w)) _ (optional_wider (is_semicolon w)))

    labelled_wider : (cases : Bool) → Wider (labelled texts n part types cases) (labelled texts m more types cases)
    unfolding labelled
    labelled_wider cases = behind (taken unexpected (name_at w)) _ _ (λ t. behind (token unexpected (is_colon w)) _ _ (λ c. before (part.statement cases types) (more.statement cases types) _ (Inner.statement cases types)))

    case_wider : Wider (case_of texts n part types) (case_of texts m more types)
    unfolding case_of
    case_wider =
        behind _ _ _ (λ t. one_by_one (expr_reader w n Conditional) (expr_reader w m Conditional) _ _ (expr_wider Conditional)
        (λ e. behind _ _ _ (λ c. before (part.statement true types) (more.statement true types) _ (Inner.statement true types))))

    default_wider : Wider (default_of texts n part types) (default_of texts m more types)
    unfolding default_of
    default_wider = behind (token unexpected (is_keyword w keyword.Default)) _ _ (λ t. behind (token unexpected (is_colon w)) _ _ (λ c. before (part.statement true types) (more.statement true types) _ (Inner.statement true types)))

  -- ---- `for`

  stepped_wider : (place : Place) (f : First) → Wider (stepped texts n part place f) (stepped texts m more place f)
  unfolding stepped
  stepped_wider place f =
      one_by_one (optional texts n part f.types (is_semicolon (reading texts f.types))) (optional texts m more f.types (is_semicolon (reading texts f.types))) _ _ (optional_wider f.types (is_semicolon (reading texts f.types)))
      (λ e. behind _ _ _ (λ c. one_by_one (optional texts n part f.types (is_close (reading texts f.types))) (optional texts m more f.types (is_close (reading texts f.types))) _ _ (optional_wider f.types (is_close (reading texts f.types)))
      (λ g. behind _ _ _ (λ d. before (part.statement false f.types) (more.statement false f.types) _ (Inner.statement false f.types)))))

  iterated_wider : (types : List Name) → Wider (iterated texts n part types) (iterated texts m more types)
  unfolding iterated
  iterated_wider types =
      behind (token unexpected (is_keyword (reading texts types) keyword.For)) _ _
      (λ t. behind (token unexpected (is_open (reading texts types))) _ _ (λ o. one_by_one (part.first types) (more.first types) _ _ (Inner.first types) (stepped_wider t.place)))

  -- ---- statements by their first token

  nested_wider : (p q : Parser Token StmtTree) → Wider p q → Wider (guard (is_zero n) too_deep p) (guard (is_zero m) too_deep q)
  nested_wider p q P = guarding (is_zero n) (is_zero m) p q room P

  keyword_wider : (cases : Bool) (types : List Name) (p q : Parser Token StmtTree) → Wider p q → Wider (by_keyword texts n part cases types p) (by_keyword texts m more cases types q)
  unfolding by_keyword
  keyword_wider cases types p q P =
      choosing _ _ _ _ _ (block_wider types false)
      (choosing _ _ _ _ _ (empty_wider types)
      (choosing _ _ _ _ _ (nested_wider _ _ (selected_wider types))
      (choosing _ _ _ _ _ (nested_wider _ _ (repeated_wider types))
      (choosing _ _ _ _ _ (nested_wider _ _ (done_first_wider types))
      (choosing _ _ _ _ _ (nested_wider _ _ (iterated_wider types))
      (choosing _ _ _ _ _ (nested_wider _ _ (switched_wider types))
      (choosing _ _ _ _ _ (gone_wider types)
      (choosing _ _ _ _ _ (broken_wider types)
      (choosing _ _ _ _ _ (continued_wider types)
      (choosing _ _ _ _ _ (returned_wider types)
      (choosing _ _ _ _ _ (nested_wider _ _ (case_wider types))
      (choosing _ _ _ _ _ (nested_wider _ _ (default_wider types))
      P))))))))))))

  unlabelled_wider : (types : List Name) → Wider (unlabelled texts n part types) (unlabelled texts m more types)
  unfolding unlabelled
  unlabelled_wider types = choosing _ _ _ _ _ (alike _) (choosing _ _ _ _ _ (alike _) (evaluated_wider types))

  by_name_wider : (cases : Bool) (types : List Name) → Wider (by_name texts n part cases types) (by_name texts m more cases types)
  unfolding by_name
  by_name_wider cases types = nested_wider _ _ (by_second (is_colon (reading texts types)) _ _ _ _ (labelled_wider types cases) (unlabelled_wider types))

  pub statement_wider : (cases : Bool) (types : List Name) → Wider (statement texts n part cases types) (statement texts m more cases types)
  unfolding statement
  statement_wider cases types = choosing (is_name (reading texts types)) _ _ _ _ (by_name_wider cases types) (keyword_wider cases types _ _ (evaluated_wider types))

  -- ---- declarations among statements

  module _ (Declaring : (types : List Name) → Wider (declaration_reader texts n types) (declaration_reader texts m types)) where
    declared_wider : (types : List Name) → Wider (declared texts n part types) (declared texts m more types)
    unfolding declared
    declared_wider types = before _ _ _ (text_wider (declaration_reader texts n types) (declaration_reader texts m types) (Declaring types))

    pub first_wider : (types : List Name) → Wider (first texts n part types) (first texts m more types)
    unfolding first semicolon
    first_wider types =
        choosing _ _ _ _ _ (alike _)
        (choosing _ _ _ _ _ (before (declared texts n part types) (declared texts m more types) _ (declared_wider types)) (before (evaluated texts n part types) (evaluated texts m more types) _ (evaluated_wider types)))

    pub declaration_item_wider : (b : Body) → Wider (declaration_item texts n part b) (declaration_item texts m more b)
    unfolding declaration_item
    declaration_item_wider b = before (declared texts n part b.types) (declared texts m more b.types) _ (declared_wider b.types)

    statement_item_wider : (cases : Bool) (b : Body) → Wider (statement_item texts n part cases b) (statement_item texts m more cases b)
    unfolding statement_item
    statement_item_wider cases b = before (statement texts n part cases b.types) (statement texts m more cases b.types) _ (statement_wider cases b.types)

    -- `Named`: declarations that begin with a name
    module _ (Named : (b : Body) (ts : List Token) → at_next (names_declaration (reading texts b.types)) ts ≡ true → Held (named_declaration texts n part b ts) (named_declaration texts m more b ts)) where
      named_item_held : (cases : Bool) (b : Body) (ts : List Token) → at_next (names_declaration (reading texts b.types)) ts ≡ true → Held (named_item texts n part cases b ts) (named_item texts m more cases b ts)
      unfolding named_item
      named_item_held cases b ts h = by_room (is_zero n) (is_zero m) room
        where
          there : Held (choose_second (is_colon (reading texts b.types)) (statement_item texts n part cases b) (named_declaration texts n part b) ts)
              (choose_second (is_colon (reading texts b.types)) (statement_item texts m more cases b) (named_declaration texts m more b) ts)
          there = by_choice (at_second (is_colon (reading texts b.types)) ts) _ _ _ _ (λ k. statement_item_wider cases b ts) (λ k. Named b ts h)

          by_room : (c d : Bool) → (c ≡ false → d ≡ false)
              → Held (guard c too_deep (choose_second (is_colon (reading texts b.types)) (statement_item texts n part cases b) (named_declaration texts n part b)) ts)
              (guard d too_deep (choose_second (is_colon (reading texts b.types)) (statement_item texts m more cases b) (named_declaration texts m more b)) ts)
          by_room true d open_way = short (length ts) refl
          by_room false true open_way = absurd (let both : true ≡ false = open_way refl in cc both)
          by_room false false open_way = there

      item_wider : (cases : Bool) (b : Body) → Wider (item texts n part cases b) (item texts m more cases b)
      unfolding item
      item_wider cases b ts =
          by_choice (at_next (names_declaration (reading texts b.types)) ts) _ _ _ _ (λ h. named_item_held cases b ts h) (λ h. choosing _ _ _ _ _ (declaration_item_wider b) (statement_item_wider cases b) ts)

      pub whole_wider : WiderParts (whole_parts texts n part) (whole_parts texts m more)
      whole_wider = record { statement = statement_wider; block = λ cases types. block_wider types cases; item = item_wider; first = first_wider }
