-- The readers of statements, as functions on the tokens that are left. Beside the numbers of declarations a stop has 2001 for a word one token before that is no annotation.
use Rattle.std.specs.Prelude.{ℕ, zero, suc, Bool, true, false, ◌&&◌, ◌||◌, not, List, [], ◌∷◌, ◌++◌, nat_lt, if◌then◌else◌}
use Rattle.std.specs.Option.{option_map_or}
use Rattle.sb_base.specs.declared.interning.Name.{Name}
use Rattle.sb_base.specs.declared.refusals.Place.{Place}
use Rattle.sb_base.specs.declared.tokens.Token.{Token}
use Rattle.sb_parse.specs.Parser.{Parser, ◌>>=◌, pure, refuse, token, taken, choose, guard, looped}
use Rattle.sb_sign.specs.declared.sign.Keyword.{Keyword}
use Rattle.sb_sign.specs.declared.sign.Keyword.TheVariants as keyword
use Rattle.sb_tree.specs.Plain.{decl_list, stmt_list}
use Rattle.sb_sign.specs.Signs as sign
use Rattle.sb_tree.specs.Trees as tree
use Rattle.sb_tree.specs.Trees.{ExprTree, OptionalExpr, StmtTree, OptionalStmt}
use Rattle.sb_parse.specs.Descent.{choose_second}
use Rattle.sb_expr.specs.Expression.{Conditional, Sequence}
use Rattle.sb_lexicon.specs.Lexicon.{Lexicon, is_keyword, is_type_name}
use Rattle.sb_expr.specs.Readers.{expr_reader}
use Rattle.sb_lexicon.specs.Tokens.{unexpected, too_deep, bad_arguments, unknown_before, misplaced_before, volatile, is_zero, is_open, is_close, is_star, is_open_brace, is_colon, begins_expr}
use Rattle.sb_sal.specs.Readers.{is_bare}
use Rattle.sb_sal.specs.declared.bearer.Bearer.TheVariants as bearer
use Rattle.sb_sal.specs.Spellings.{begins_note, is_listed, is_unlisted, may_stand}
use Rattle.sb_specifier.specs.declared.seat.Seat.TheVariants as seat
use Rattle.sb_specifier.specs.Readers.{barred, is_close_brace, is_semicolon, is_name, is_storage_word, name_at, begins_declaration}
use Rattle.sb_declare.specs.Readers.{declaration_reader}
use Rattle.sb_parse.specs.Texts.{with_text}
use Rattle.sb_specifier.specs.Specified.{reading}

-- ---- tests of one token

abbrev pub begins_keyword_statement : Keyword → Bool
begins_keyword_statement keyword.If = true
begins_keyword_statement keyword.While = true
begins_keyword_statement keyword.Do = true
begins_keyword_statement keyword.For = true
begins_keyword_statement keyword.Switch = true
begins_keyword_statement keyword.Goto = true
begins_keyword_statement keyword.Break = true
begins_keyword_statement keyword.Continue = true
begins_keyword_statement keyword.Return = true
begins_keyword_statement _ = false

abbrev pub is_label_keyword : Keyword → Bool
is_label_keyword keyword.Case = true
is_label_keyword keyword.Default = true
is_label_keyword _ = false

-- `cases`: in the block of a `switch`
abbrev pub begins_statement : Lexicon → Bool → Token → Bool
begins_statement w cases t = option_map_or begins_keyword_statement (sign.keyword_of w.texts t) false || ((cases && option_map_or is_label_keyword (sign.keyword_of w.texts t) false)
    || (is_open_brace w t || (is_semicolon w t || (is_name w t || begins_expr w t))))

-- a typedef name or a word that looks like an annotation
abbrev pub names_declaration : Lexicon → Token → Bool
names_declaration w t = begins_declaration w t && is_name w t

-- a declaration can go on so behind a typedef name
abbrev pub goes_on_type : Lexicon → Token → Bool
goes_on_type w t = is_keyword w keyword.Const t || (is_keyword w keyword.Restrict t || (is_storage_word w t || (is_star w t || (is_open w t || (is_name w t || is_semicolon w t)))))

-- an annotation that stands on no function stands on no declaration of a block
abbrev pub is_misplaced : Lexicon → Token → Bool
is_misplaced w t = is_listed w t && not (may_stand w bearer.Function t)

-- how deep the parts of a declaration have to be that begins so: an annotation with arguments is one deeper than others
abbrev pub room_for : Lexicon → Token → ℕ
room_for w t = if is_listed w t && not (is_bare w t) then 3 else 2

-- behind the first token of a declaration for which there is no room, though there is room for a label
abbrev pub crowded : {A : Type 0} → Lexicon → Token → Parser Token A
crowded w t =
    if is_bare w t then choose (is_open w) (refuse bad_arguments) (barred w seat.Scope)
    else (if is_listed w t then choose (is_open w) (refuse too_deep) (choose (λ s. true) (refuse bad_arguments) (refuse unexpected))
    else choose (is_keyword w keyword.Volatile) (refuse volatile) (choose (goes_on_type w) (refuse too_deep) (refuse unexpected)))

-- behind a name that begins no statement but a label
unfoldable pub only_label : {A : Type 0} → ℕ → Lexicon → Parser Token A
only_label n w = token unexpected (is_name w) >>= (λ t. refuse n)

abbrev pub first_place : List Token → Place
first_place [] = record { file = 0; line = 0; col = 0 }
first_place (t ∷ ts) = t.place

pub record Body : Type 0 where
  pub list : List StmtTree
  pub types : List Name

-- the first part of a `for`, and the typedef names in force behind it
pub record First : Type 0 where
  pub first : OptionalStmt
  pub types : List Name

-- the readers of statements that are at most so deep; `cases`: in the block of a `switch`
pub record Parts : Type 0 where
  pub statement : (cases : Bool) → List Name → Parser Token StmtTree
  pub block : (cases : Bool) → List Name → Parser Token StmtTree
  pub item : (cases : Bool) → Body → Parser Token Body
  pub first : List Name → Parser Token First

-- `below`: how deep the parts of a statement may be; `part`: their readers
module _ (texts : List (List ℕ)) (below : ℕ) (part : Parts) (types : List Name) where
  abbrev pub w : Lexicon
  w = reading texts types

  abbrev pub is_word : Keyword → Token → Bool
  is_word k = is_keyword w k

  abbrev pub word : Keyword → Parser Token Token
  word k = token unexpected (is_keyword w k)

  unfoldable pub expression : Parser Token ExprTree
  expression = expr_reader w below Sequence

  unfoldable pub in_parentheses : Parser Token ExprTree
  in_parentheses = token unexpected (is_open w) >>= (λ o. expression >>= (λ e. token unexpected (is_close w) >>= (λ c. pure e)))

  unfoldable pub semicolon : Parser Token Token
  semicolon = token unexpected (is_semicolon w)

  -- ---- blocks (6.8.2)

  unfoldable pub block : Bool → Parser Token StmtTree
  block cases = token unexpected (is_open_brace w) >>= (λ o. looped (λ t. not (is_close_brace w t)) (part.item cases) (record { list = []; types = types }) >>= (λ b.
      token unexpected (is_close_brace w) >>= (λ c. pure (tree.Block (stmt_list b.list) o.place c.place))))

  -- ---- expressions (6.8.3)

  unfoldable pub evaluated : Parser Token StmtTree
  evaluated = with_text expression >>= (λ e. semicolon >>= (λ c. pure (tree.Evaluate (tree.AnExpr e.0) (first_place e.1))))

  unfoldable pub empty : Parser Token StmtTree
  empty = token unexpected (is_semicolon w) >>= (λ c. pure (tree.Evaluate tree.NoExpr c.place))

  unfoldable pub declared : Parser Token (StmtTree × List Name)
  declared = with_text (declaration_reader texts below types) >>= (λ d. pure (tree.Declare (decl_list d.0.list) (first_place d.1), d.0.types))

  -- ---- selection (6.8.4)

  unfoldable pub other : Parser Token OptionalStmt
  other = choose (is_word keyword.Else) (word keyword.Else >>= (λ t. part.statement false types >>= (λ s. pure (tree.AStmt s)))) (pure tree.NoStmt)

  unfoldable pub selected : Parser Token StmtTree
  selected = word keyword.If >>= (λ t. in_parentheses >>= (λ e. part.statement false types >>= (λ s. other >>= (λ o. pure (tree.If e s o t.place)))))

  unfoldable pub switched : Parser Token StmtTree
  switched = word keyword.Switch >>= (λ t. in_parentheses >>= (λ e. part.block true types >>= (λ s. pure (tree.Switch e s t.place))))

  -- ---- iteration (6.8.5)

  unfoldable pub repeated : Parser Token StmtTree
  repeated = word keyword.While >>= (λ t. in_parentheses >>= (λ e. part.statement false types >>= (λ s. pure (tree.While e s t.place))))

  unfoldable pub done_first : Parser Token StmtTree
  done_first = word keyword.Do >>= (λ t. part.statement false types >>= (λ s. word keyword.While >>= (λ u. in_parentheses >>= (λ e. semicolon >>= (λ c. pure (tree.Do s e t.place))))))

  unfoldable pub optional : (Token → Bool) → Parser Token OptionalExpr
  optional ends = choose ends (pure tree.NoExpr) (expression >>= (λ e. pure (tree.AnExpr e)))

  -- the first part of a `for` with its semicolon
  unfoldable pub first : Parser Token First
  first =
      choose (is_semicolon w) (semicolon >>= (λ c. pure (record { first = tree.NoStmt; types = types })))
      (choose (begins_declaration w) (declared >>= (λ d. pure (record { first = tree.AStmt d.0; types = d.1 })))
      (evaluated >>= (λ s. pure (record { first = tree.AStmt s; types = types }))))

  -- ---- jumps (6.8.6)

  unfoldable pub gone : Parser Token StmtTree
  gone = word keyword.Goto >>= (λ t. taken unexpected (name_at w) >>= (λ n. semicolon >>= (λ c. pure (tree.Goto n.0 n.1 t.place))))

  unfoldable pub broken : Parser Token StmtTree
  broken = word keyword.Break >>= (λ t. semicolon >>= (λ c. pure (tree.Break t.place)))

  unfoldable pub continued : Parser Token StmtTree
  continued = word keyword.Continue >>= (λ t. semicolon >>= (λ c. pure (tree.Continue t.place)))

  unfoldable pub returned : Parser Token StmtTree
  returned = word keyword.Return >>= (λ t. optional (is_semicolon w) >>= (λ e. semicolon >>= (λ c. pure (tree.Return e t.place))))

  -- ---- labels (6.8.1)

  unfoldable pub labelled : Bool → Parser Token StmtTree
  labelled cases = taken unexpected (name_at w) >>= (λ n. token unexpected (is_colon w) >>= (λ c. part.statement cases types >>= (λ s. pure (tree.Label n.0 s n.1))))

  unfoldable pub case_of : Parser Token StmtTree
  case_of = word keyword.Case >>= (λ t. expr_reader w below Conditional >>= (λ e. token unexpected (is_colon w) >>= (λ c. part.statement true types >>= (λ s. pure (tree.Case e s t.place)))))

  unfoldable pub default_of : Parser Token StmtTree
  default_of = word keyword.Default >>= (λ t. token unexpected (is_colon w) >>= (λ c. part.statement true types >>= (λ s. pure (tree.Default s t.place))))

-- a `for`, whose later parts see what its first part declares
module _ (texts : List (List ℕ)) (below : ℕ) (part : Parts) where
  unfoldable pub stepped : Place → First → Parser Token StmtTree
  stepped place f = optional texts below part f.types (is_semicolon (reading texts f.types)) >>= (λ e. token unexpected (is_semicolon (reading texts f.types)) >>= (λ c.
      optional texts below part f.types (is_close (reading texts f.types)) >>= (λ g. token unexpected (is_close (reading texts f.types)) >>= (λ d.
      part.statement false f.types >>= (λ s. pure (tree.For f.first e g s place))))))

  unfoldable pub iterated : List Name → Parser Token StmtTree
  iterated types = token unexpected (is_keyword (reading texts types) keyword.For) >>= (λ t. token unexpected (is_open (reading texts types)) >>= (λ o. part.first types >>= stepped t.place))

  -- a statement that has others or expressions in it
  abbrev pub nested : Parser Token StmtTree → Parser Token StmtTree
  nested p = guard (is_zero below) too_deep p

  -- a statement that begins with no name; `p` where none of these begins it
  unfoldable pub by_keyword : Bool → List Name → Parser Token StmtTree → Parser Token StmtTree
  by_keyword cases types p =
      choose (is_open_brace (reading texts types)) (block texts below part types false)
      (choose (is_semicolon (reading texts types)) (empty texts below part types)
      (choose (is_keyword (reading texts types) keyword.If) (nested (selected texts below part types))
      (choose (is_keyword (reading texts types) keyword.While) (nested (repeated texts below part types))
      (choose (is_keyword (reading texts types) keyword.Do) (nested (done_first texts below part types))
      (choose (is_keyword (reading texts types) keyword.For) (nested (iterated types))
      (choose (is_keyword (reading texts types) keyword.Switch) (nested (switched texts below part types))
      (choose (is_keyword (reading texts types) keyword.Goto) (gone texts below part types)
      (choose (is_keyword (reading texts types) keyword.Break) (broken texts below part types)
      (choose (is_keyword (reading texts types) keyword.Continue) (continued texts below part types)
      (choose (is_keyword (reading texts types) keyword.Return) (returned texts below part types)
      (choose (λ t. cases && is_keyword (reading texts types) keyword.Case t) (nested (case_of texts below part types))
      (choose (λ t. cases && is_keyword (reading texts types) keyword.Default t) (nested (default_of texts below part types))
      p))))))))))))

  -- a statement that begins with a name and is no label
  unfoldable pub unlabelled : List Name → Parser Token StmtTree
  unlabelled types =
      choose (is_unlisted (reading texts types)) (only_label unknown_before (reading texts types))
      (choose (λ t. begins_note (reading texts types) t || is_type_name (reading texts types) t) (only_label unexpected (reading texts types))
      (evaluated texts below part types))

  unfoldable pub by_name : Bool → List Name → Parser Token StmtTree
  by_name cases types = guard (is_zero below) too_deep (choose_second (is_colon (reading texts types)) (labelled texts below part types cases) (unlabelled types))

  unfoldable pub statement : Bool → List Name → Parser Token StmtTree
  statement cases types = choose (is_name (reading texts types)) (by_name cases types) (by_keyword cases types (evaluated texts below part types))

  -- a declaration or a statement of a block, behind others
  unfoldable pub declaration_item : Body → Parser Token Body
  declaration_item b = declared texts below part b.types >>= (λ d. pure (record { list = b.list ++ (d.0 ∷ []); types = d.1 }))

  unfoldable pub statement_item : Bool → Body → Parser Token Body
  statement_item cases b = statement cases b.types >>= (λ s. pure (record { list = b.list ++ (s ∷ []); types = b.types }))

  -- a declaration that begins with a name
  unfoldable pub named_declaration : Body → Parser Token Body
  named_declaration b =
      choose (is_unlisted (reading texts b.types)) (only_label unknown_before (reading texts b.types))
      (choose (is_misplaced (reading texts b.types)) (only_label (misplaced_before 1) (reading texts b.types))
      (choose (λ t. nat_lt below (room_for (reading texts b.types) t)) (token unexpected (is_name (reading texts b.types)) >>= crowded (reading texts b.types)) (declaration_item b)))

  -- a declaration or a label
  unfoldable pub named_item : Bool → Body → Parser Token Body
  named_item cases b = guard (is_zero below) too_deep (choose_second (is_colon (reading texts b.types)) (statement_item cases b) (named_declaration b))

  unfoldable pub item : Bool → Body → Parser Token Body
  item cases b =
      choose (names_declaration (reading texts b.types)) (named_item cases b)
      (choose (begins_declaration (reading texts b.types)) (declaration_item b)
      (statement_item cases b))

  abbrev pub whole_parts : Parts
  whole_parts = record {
    statement = statement;
    block = λ cases types. block texts below part types cases;
    item = item;
    first = λ types. first texts below part types;
  }

abbrev pub no_statement : {A : Type 0} → Lexicon → Bool → Parser Token A → Parser Token A
no_statement w cases p = choose (begins_statement w cases) (refuse too_deep) p

-- the readers of statements that are at most so deep
unfoldable pub statements : List (List ℕ) → ℕ → Parts
statements texts zero = record {
  statement = λ cases types. no_statement (reading texts types) cases (refuse unexpected);
  block = λ cases types. choose (is_open_brace (reading texts types)) (refuse too_deep) (refuse unexpected);
  item = λ cases b. no_statement (reading texts b.types) cases (barred (reading texts b.types) seat.Scope);
  first = λ types. choose (λ t. is_semicolon (reading texts types) t || begins_expr (reading texts types) t) (refuse too_deep) (barred (reading texts types) seat.Scope);
}
statements texts (suc below) = whole_parts texts below (statements texts below)
