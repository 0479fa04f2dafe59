-- The plain tree of each node of a tree in memory.
use Rattle.std.specs.Prelude.{List, [], ◌∷◌, map, Option, Some, None}
use Rattle.std.specs.declared.alloc.Global.{Global}
use Rattle.std.specs.declared.boxed.Box.{Box}
use Rattle.std.specs.declared.vec.Vec.{Vec}
use Rattle.sb_tree.specs.declared.syntax.Arg.{Arg, fold-Arg}
use Rattle.sb_tree.specs.declared.syntax.Expr.{Expr, fold-Expr}
use Rattle.sb_tree.specs.declared.syntax.Init.{Init, fold-Init}
use Rattle.sb_tree.specs.declared.syntax.Stmt.{Stmt, fold-Stmt}
use Rattle.sb_tree.specs.declared.syntax.TypeName.{TypeName, fold-TypeName}
use Rattle.sb_tree.specs.declared.syntax.Decl.{Decl, fold-Decl}
use Rattle.sb_tree.specs.declared.syntax.Item.{Item, fold-Item}
use Rattle.sb_tree.specs.declared.syntax.Note.{Note, fold-Note}
use Rattle.sb_tree.specs.declared.syntax.Arg.TheOpen as layer
use Rattle.sb_tree.specs.Trees as tree
use Rattle.sb_tree.specs.Trees.{ExprTree, ExprTrees, OptionalExpr, TypeTree, ItemTree, ItemTrees, OptionalItems, ArgTree, ArgTrees, NoteTree, NoteTrees, InitTree, InitTrees, OptionalInit, DeclTree, DeclTrees, OptionalDecls, StmtTree, StmtTrees, OptionalStmt}

abbrev pub expr_list : List ExprTree → ExprTrees
expr_list [] = tree.NoExprs
expr_list (e ∷ es) = tree.MoreExprs e (expr_list es)

abbrev pub item_list : List ItemTree → ItemTrees
item_list [] = tree.NoItems
item_list (i ∷ is) = tree.MoreItems i (item_list is)

abbrev pub arg_list : List ArgTree → ArgTrees
arg_list [] = tree.NoArgs
arg_list (a ∷ rest) = tree.MoreArgs a (arg_list rest)

abbrev pub note_list : List NoteTree → NoteTrees
note_list [] = tree.NoNotes
note_list (n ∷ ns) = tree.MoreNotes n (note_list ns)

abbrev pub init_list : List InitTree → InitTrees
init_list [] = tree.NoInits
init_list (i ∷ is) = tree.MoreInits i (init_list is)

abbrev pub decl_list : List DeclTree → DeclTrees
decl_list [] = tree.NoDecls
decl_list (d ∷ ds) = tree.MoreDecls d (decl_list ds)

abbrev pub stmt_list : List StmtTree → StmtTrees
stmt_list [] = tree.NoStmts
stmt_list (s ∷ ss) = tree.MoreStmts s (stmt_list ss)

abbrev pub optional_expr : Option ExprTree → OptionalExpr
optional_expr None = tree.NoExpr
optional_expr (Some e) = tree.AnExpr e

abbrev pub optional_items : Option (List ItemTree) → OptionalItems
optional_items None = tree.Unlisted
optional_items (Some is) = tree.Listed (item_list is)

abbrev pub optional_init : Option InitTree → OptionalInit
optional_init None = tree.NoInit
optional_init (Some i) = tree.AnInit i

abbrev pub optional_decls : Option (List DeclTree) → OptionalDecls
optional_decls None = tree.Undeclared
optional_decls (Some ds) = tree.Declared (decl_list ds)

abbrev pub optional_stmt : Option StmtTree → OptionalStmt
optional_stmt None = tree.NoStmt
optional_stmt (Some s) = tree.AStmt s

-- ---- one layer of a tree in memory, whose parts are plain

abbrev pub Layer : (Type 0 → Type 0 → Type 0 → Type 0 → Type 0 → Type 0 → Type 0 → Type 0 → Type 0) → Type 0
Layer F = F ArgTree ExprTree InitTree StmtTree TypeTree DeclTree ItemTree NoteTree

abbrev pub boxed : {A : Type 0} → Option (Box A Global) → Option A
boxed None = None
boxed (Some b) = Some b.value

abbrev pub listed : {A : Type 0} → Option (Vec A Global) → Option (List A)
listed None = None
listed (Some v) = Some v.items

abbrev pub expr_step : Layer layer.Expr-F → ExprTree
expr_step (layer.Number text value place) = tree.Number text value place
expr_step (layer.Text text place) = tree.Text text place
expr_step (layer.Name name place) = tree.Identifier name place
expr_step (layer.Unary op e place) = tree.Unary op e.value place
expr_step (layer.Binary op e f place) = tree.Binary op e.value f.value place
expr_step (layer.Assign op e f place) = tree.Assign op e.value f.value place
expr_step (layer.Cond e f g place) = tree.Cond e.value f.value g.value place
expr_step (layer.Call e args place) = tree.Call e.value (expr_list args.items) place
expr_step (layer.Index e f place) = tree.Index e.value f.value place
expr_step (layer.Member e arrow name at place) = tree.Member e.value arrow name at place
expr_step (layer.Cast t e place) = tree.Cast t.value e.value place
expr_step (layer.SizeOfType t place) = tree.SizeOfType t.value place
expr_step (layer.SizeOfExpr e place) = tree.SizeOfExpr e.value place
expr_step (layer.Expr::Paren e place) = tree.Paren e.value place

abbrev pub type_step : Layer layer.TypeName-F → TypeTree
type_step (layer.Base code place) = tree.Base code place
type_step (layer.Const t) = tree.Const t.value
type_step (layer.Pointer t place) = tree.Pointer t.value place
type_step (layer.Array t size place) = tree.Array t.value (optional_expr (boxed size)) place
type_step (layer.Function t params place) = tree.Function t.value (decl_list params.items) place
type_step (layer.Struct tag members place) = tree.Struct tag (optional_decls (listed members)) place
type_step (layer.Enum tag items place) = tree.Enum tag (optional_items (listed items)) place
type_step (layer.Named name place) = tree.Defined name place
type_step (layer.Same place) = tree.Same place
type_step (layer.TypeName::Paren t place) = tree.ParenType t.value place

abbrev pub item_step : Layer layer.Item-F → ItemTree
item_step i = tree.Item i.name (optional_expr i.value) i.place

abbrev pub arg_step : Layer layer.Arg-F → ArgTree
arg_step (layer.Arg::Expr e) = tree.ExprArg e
arg_step (layer.Note n) = tree.NoteArg n.value

abbrev pub note_step : Layer layer.Note-F → NoteTree
note_step n = tree.Note n.name (arg_list n.args.items) n.place

abbrev pub init_step : Layer layer.Init-F → InitTree
init_step (layer.One e) = tree.One e
init_step (layer.List is place) = tree.Braces (init_list is.items) place

abbrev pub decl_step : Layer layer.Decl-F → DeclTree
decl_step d = tree.Decl (note_list d.notes.items) d.storage d.type_name d.name d.place (optional_init d.init) (optional_stmt d.body)

abbrev pub stmt_step : Layer layer.Stmt-F → StmtTree
stmt_step (layer.Block list place end) = tree.Block (stmt_list list.items) place end
stmt_step (layer.Stmt::Expr value place) = tree.Evaluate (optional_expr value) place
stmt_step (layer.Decl list place) = tree.Declare (decl_list list.items) place
stmt_step (layer.If test body other place) = tree.If test body.value (optional_stmt (boxed other)) place
stmt_step (layer.While test body place) = tree.While test body.value place
stmt_step (layer.Do body test place) = tree.Do body.value test place
stmt_step (layer.For first test step body place) = tree.For (optional_stmt (boxed first)) (optional_expr test) (optional_expr step) body.value place
stmt_step (layer.Switch on body place) = tree.Switch on body.value place
stmt_step (layer.Case value body place) = tree.Case value body.value place
stmt_step (layer.Default body place) = tree.Default body.value place
stmt_step (layer.Label name body place) = tree.Label name body.value place
stmt_step (layer.Goto name at place) = tree.Goto name at place
stmt_step (layer.Break place) = tree.Break place
stmt_step (layer.Continue place) = tree.Continue place
stmt_step (layer.Return value place) = tree.Return (optional_expr value) place

-- ---- whole trees

unfoldable pub plain_expr : Expr → ExprTree
plain_expr = fold-Expr ArgTree ExprTree InitTree StmtTree TypeTree DeclTree ItemTree NoteTree arg_step expr_step init_step stmt_step type_step decl_step item_step note_step

unfoldable pub plain_type : TypeName → TypeTree
plain_type = fold-TypeName ArgTree ExprTree InitTree StmtTree TypeTree DeclTree ItemTree NoteTree arg_step expr_step init_step stmt_step type_step decl_step item_step note_step

unfoldable pub plain_arg : Arg → ArgTree
plain_arg = fold-Arg ArgTree ExprTree InitTree StmtTree TypeTree DeclTree ItemTree NoteTree arg_step expr_step init_step stmt_step type_step decl_step item_step note_step

unfoldable pub plain_note : Note → NoteTree
plain_note = fold-Note ArgTree ExprTree InitTree StmtTree TypeTree DeclTree ItemTree NoteTree arg_step expr_step init_step stmt_step type_step decl_step item_step note_step

unfoldable pub plain_item : Item → ItemTree
plain_item = fold-Item ArgTree ExprTree InitTree StmtTree TypeTree DeclTree ItemTree NoteTree arg_step expr_step init_step stmt_step type_step decl_step item_step note_step

unfoldable pub plain_init : Init → InitTree
plain_init = fold-Init ArgTree ExprTree InitTree StmtTree TypeTree DeclTree ItemTree NoteTree arg_step expr_step init_step stmt_step type_step decl_step item_step note_step

unfoldable pub plain_decl : Decl → DeclTree
plain_decl = fold-Decl ArgTree ExprTree InitTree StmtTree TypeTree DeclTree ItemTree NoteTree arg_step expr_step init_step stmt_step type_step decl_step item_step note_step

unfoldable pub plain_stmt : Stmt → StmtTree
plain_stmt = fold-Stmt ArgTree ExprTree InitTree StmtTree TypeTree DeclTree ItemTree NoteTree arg_step expr_step init_step stmt_step type_step decl_step item_step note_step

-- ---- lists and options of trees in memory

abbrev pub plain_exprs : List Expr → List ExprTree
plain_exprs = map plain_expr

abbrev pub plain_args : List Arg → List ArgTree
plain_args = map plain_arg

abbrev pub plain_notes : List Note → List NoteTree
plain_notes = map plain_note

abbrev pub plain_items : List Item → List ItemTree
plain_items = map plain_item

abbrev pub plain_inits : List Init → List InitTree
plain_inits = map plain_init

abbrev pub plain_decls : List Decl → List DeclTree
plain_decls = map plain_decl

abbrev pub plain_stmts : List Stmt → List StmtTree
plain_stmts = map plain_stmt
