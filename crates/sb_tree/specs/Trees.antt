-- The trees of texts (C99 6.5 to 6.9) as contracts and the grammar's relation speak of them: values without memory.
use Rattle.std.specs.Prelude.{ℕ, suc, Bool, Option, max}
use Rattle.sb_base.specs.declared.interning.Name.{Name}
use Rattle.sb_base.specs.declared.refusals.Place.{Place}
use Rattle.sb_tree.specs.declared.operator.UnaryOp.{UnaryOp}
use Rattle.sb_tree.specs.declared.operator.BinaryOp.{BinaryOp}
use Rattle.sb_tree.specs.declared.syntax.Storage.{Storage}

mutual
  -- an expression; each with the place of its first token, but a unary operator behind its operand, a binary one, `=`, `?`, `(` of a call, `[`, `.` and `->` with their own
  pub data ExprTree : Type 0 where
    Number : Name → ℕ → Place → ExprTree
    Text : Name → Place → ExprTree
    Identifier : Name → Place → ExprTree
    Unary : UnaryOp → ExprTree → Place → ExprTree
    Binary : BinaryOp → ExprTree → ExprTree → Place → ExprTree
    Assign : Option BinaryOp → ExprTree → ExprTree → Place → ExprTree
    Cond : ExprTree → ExprTree → ExprTree → Place → ExprTree
    Call : ExprTree → ExprTrees → Place → ExprTree
    Index : ExprTree → ExprTree → Place → ExprTree
    -- of what, by `->`, the member's name and its place
    Member : ExprTree → Bool → Name → Place → Place → ExprTree
    Cast : TypeTree → ExprTree → Place → ExprTree
    SizeOfType : TypeTree → Place → ExprTree
    SizeOfExpr : ExprTree → Place → ExprTree
    Paren : ExprTree → Place → ExprTree

  pub data ExprTrees : Type 0 where
    NoExprs : ExprTrees
    MoreExprs : ExprTree → ExprTrees → ExprTrees

  pub data OptionalExpr : Type 0 where
    NoExpr : OptionalExpr
    AnExpr : ExprTree → OptionalExpr

  -- a type as it is written: what a pointer points to and what an array or a function is of stands inside
  pub data TypeTree : Type 0 where
    Base : ℕ → Place → TypeTree
    Const : TypeTree → TypeTree
    Pointer : TypeTree → Place → TypeTree
    Array : TypeTree → OptionalExpr → Place → TypeTree
    Function : TypeTree → DeclTrees → Place → TypeTree
    Struct : Option Name → OptionalDecls → Place → TypeTree
    Enum : Option Name → OptionalItems → Place → TypeTree
    Defined : Name → Place → TypeTree
    Same : Place → TypeTree
    ParenType : TypeTree → Place → TypeTree

  pub data ItemTree : Type 0 where
    Item : Name → OptionalExpr → Place → ItemTree

  pub data ItemTrees : Type 0 where
    NoItems : ItemTrees
    MoreItems : ItemTree → ItemTrees → ItemTrees

  pub data OptionalItems : Type 0 where
    Unlisted : OptionalItems
    Listed : ItemTrees → OptionalItems

  pub data ArgTree : Type 0 where
    ExprArg : ExprTree → ArgTree
    NoteArg : NoteTree → ArgTree

  pub data ArgTrees : Type 0 where
    NoArgs : ArgTrees
    MoreArgs : ArgTree → ArgTrees → ArgTrees

  pub data NoteTree : Type 0 where
    Note : Name → ArgTrees → Place → NoteTree

  pub data NoteTrees : Type 0 where
    NoNotes : NoteTrees
    MoreNotes : NoteTree → NoteTrees → NoteTrees

  pub data InitTree : Type 0 where
    One : ExprTree → InitTree
    Braces : InitTrees → Place → InitTree

  pub data InitTrees : Type 0 where
    NoInits : InitTrees
    MoreInits : InitTree → InitTrees → InitTrees

  pub data OptionalInit : Type 0 where
    NoInit : OptionalInit
    AnInit : InitTree → OptionalInit

  pub data DeclTree : Type 0 where
    Decl : NoteTrees → Storage → TypeTree → Option Name → Place → OptionalInit → OptionalStmt → DeclTree

  pub data DeclTrees : Type 0 where
    NoDecls : DeclTrees
    MoreDecls : DeclTree → DeclTrees → DeclTrees

  pub data OptionalDecls : Type 0 where
    Undeclared : OptionalDecls
    Declared : DeclTrees → OptionalDecls

  -- a statement, with the place of its first token; a block also with that of its closing brace
  pub data StmtTree : Type 0 where
    Block : StmtTrees → Place → Place → StmtTree
    Evaluate : OptionalExpr → Place → StmtTree
    Declare : DeclTrees → Place → StmtTree
    If : ExprTree → StmtTree → OptionalStmt → Place → StmtTree
    While : ExprTree → StmtTree → Place → StmtTree
    Do : StmtTree → ExprTree → Place → StmtTree
    For : OptionalStmt → OptionalExpr → OptionalExpr → StmtTree → Place → StmtTree
    Switch : ExprTree → StmtTree → Place → StmtTree
    Case : ExprTree → StmtTree → Place → StmtTree
    Default : StmtTree → Place → StmtTree
    Label : Name → StmtTree → Place → StmtTree
    Goto : Name → Place → Place → StmtTree
    Break : Place → StmtTree
    Continue : Place → StmtTree
    Return : OptionalExpr → Place → StmtTree

  pub data StmtTrees : Type 0 where
    NoStmts : StmtTrees
    MoreStmts : StmtTree → StmtTrees → StmtTrees

  pub data OptionalStmt : Type 0 where
    NoStmt : OptionalStmt
    AStmt : StmtTree → OptionalStmt

-- ---- how deep a tree is: 1 more than the deepest node in its fields

abbrev mutual
  pub depth_of_expr : ExprTree → ℕ
  depth_of_expr (Number text value place) = 1
  depth_of_expr (Text text place) = 1
  depth_of_expr (Identifier name place) = 1
  depth_of_expr (Unary op e place) = suc (depth_of_expr e)
  depth_of_expr (Binary op e f place) = suc (max (depth_of_expr e) (depth_of_expr f))
  depth_of_expr (Assign op e f place) = suc (max (depth_of_expr e) (depth_of_expr f))
  depth_of_expr (Cond e f g place) = suc (max (depth_of_expr e) (max (depth_of_expr f) (depth_of_expr g)))
  depth_of_expr (Call e args place) = suc (max (depth_of_expr e) (depth_of_exprs args))
  depth_of_expr (Index e f place) = suc (max (depth_of_expr e) (depth_of_expr f))
  depth_of_expr (Member e arrow name at place) = suc (depth_of_expr e)
  depth_of_expr (Cast t e place) = suc (max (depth_of_type t) (depth_of_expr e))
  depth_of_expr (SizeOfType t place) = suc (depth_of_type t)
  depth_of_expr (SizeOfExpr e place) = suc (depth_of_expr e)
  depth_of_expr (Paren e place) = suc (depth_of_expr e)

  pub depth_of_exprs : ExprTrees → ℕ
  depth_of_exprs NoExprs = 0
  depth_of_exprs (MoreExprs e es) = max (depth_of_expr e) (depth_of_exprs es)

  pub depth_of_optional_expr : OptionalExpr → ℕ
  depth_of_optional_expr NoExpr = 0
  depth_of_optional_expr (AnExpr e) = depth_of_expr e

  pub depth_of_type : TypeTree → ℕ
  depth_of_type (Base code place) = 1
  depth_of_type (Const t) = suc (depth_of_type t)
  depth_of_type (Pointer t place) = suc (depth_of_type t)
  depth_of_type (Array t size place) = suc (max (depth_of_type t) (depth_of_optional_expr size))
  depth_of_type (Function t params place) = suc (max (depth_of_type t) (depth_of_decls params))
  depth_of_type (Struct tag members place) = suc (depth_of_optional_decls members)
  depth_of_type (Enum tag items place) = suc (depth_of_optional_items items)
  depth_of_type (Defined name place) = 1
  depth_of_type (Same place) = 1
  depth_of_type (ParenType t place) = suc (depth_of_type t)

  pub depth_of_item : ItemTree → ℕ
  depth_of_item (Item name value place) = depth_of_optional_expr value

  pub depth_of_items : ItemTrees → ℕ
  depth_of_items NoItems = 0
  depth_of_items (MoreItems i is) = max (depth_of_item i) (depth_of_items is)

  pub depth_of_optional_items : OptionalItems → ℕ
  depth_of_optional_items Unlisted = 0
  depth_of_optional_items (Listed is) = depth_of_items is

  pub depth_of_arg : ArgTree → ℕ
  depth_of_arg (ExprArg e) = depth_of_expr e
  depth_of_arg (NoteArg n) = depth_of_note n

  pub depth_of_args : ArgTrees → ℕ
  depth_of_args NoArgs = 0
  depth_of_args (MoreArgs a rest) = max (depth_of_arg a) (depth_of_args rest)

  pub depth_of_note : NoteTree → ℕ
  depth_of_note (Note name args place) = suc (depth_of_args args)

  pub depth_of_notes : NoteTrees → ℕ
  depth_of_notes NoNotes = 0
  depth_of_notes (MoreNotes n ns) = max (depth_of_note n) (depth_of_notes ns)

  pub depth_of_init : InitTree → ℕ
  depth_of_init (One e) = suc (depth_of_expr e)
  depth_of_init (Braces is place) = suc (depth_of_inits is)

  pub depth_of_inits : InitTrees → ℕ
  depth_of_inits NoInits = 0
  depth_of_inits (MoreInits i is) = max (depth_of_init i) (depth_of_inits is)

  pub depth_of_optional_init : OptionalInit → ℕ
  depth_of_optional_init NoInit = 0
  depth_of_optional_init (AnInit i) = depth_of_init i

  pub depth_of_decl : DeclTree → ℕ
  depth_of_decl (Decl notes storage t name place init body) =
      suc (max (depth_of_notes notes) (max (depth_of_type t) (max (depth_of_optional_init init) (depth_of_optional_stmt body))))

  pub depth_of_decls : DeclTrees → ℕ
  depth_of_decls NoDecls = 0
  depth_of_decls (MoreDecls d ds) = max (depth_of_decl d) (depth_of_decls ds)

  pub depth_of_optional_decls : OptionalDecls → ℕ
  depth_of_optional_decls Undeclared = 0
  depth_of_optional_decls (Declared ds) = depth_of_decls ds

  pub depth_of_stmt : StmtTree → ℕ
  depth_of_stmt (Block list place end) = suc (depth_of_stmts list)
  depth_of_stmt (Evaluate value place) = suc (depth_of_optional_expr value)
  depth_of_stmt (Declare list place) = suc (depth_of_decls list)
  depth_of_stmt (If test body other place) = suc (max (depth_of_expr test) (max (depth_of_stmt body) (depth_of_optional_stmt other)))
  depth_of_stmt (While test body place) = suc (max (depth_of_expr test) (depth_of_stmt body))
  depth_of_stmt (Do body test place) = suc (max (depth_of_stmt body) (depth_of_expr test))
  depth_of_stmt (For first test step body place) =
      suc (max (depth_of_optional_stmt first) (max (depth_of_optional_expr test) (max (depth_of_optional_expr step) (depth_of_stmt body))))
  depth_of_stmt (Switch on body place) = suc (max (depth_of_expr on) (depth_of_stmt body))
  depth_of_stmt (Case value body place) = suc (max (depth_of_expr value) (depth_of_stmt body))
  depth_of_stmt (Default body place) = suc (depth_of_stmt body)
  depth_of_stmt (Label name body place) = suc (depth_of_stmt body)
  depth_of_stmt (Goto name at place) = 1
  depth_of_stmt (Break place) = 1
  depth_of_stmt (Continue place) = 1
  depth_of_stmt (Return value place) = suc (depth_of_optional_expr value)

  pub depth_of_stmts : StmtTrees → ℕ
  depth_of_stmts NoStmts = 0
  depth_of_stmts (MoreStmts s ss) = max (depth_of_stmt s) (depth_of_stmts ss)

  pub depth_of_optional_stmt : OptionalStmt → ℕ
  depth_of_optional_stmt NoStmt = 0
  depth_of_optional_stmt (AStmt s) = depth_of_stmt s
