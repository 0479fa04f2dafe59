-- How deep trees in memory are: the depths of their plain trees.
use Rattle.std.specs.Prelude.{ℕ, List, Option}
use Rattle.std.specs.Option.{option_map}
use Rattle.std.specs.declared.alloc.Global.{Global}
use Rattle.std.specs.declared.boxed.Box.{Box}
use Rattle.sb_tree.specs.Plain.{plain_arg, plain_args, plain_decl, plain_decls, plain_expr, plain_exprs, plain_init, plain_inits, plain_item, plain_items, plain_note, plain_notes, plain_stmt, plain_stmts, plain_type, arg_list, decl_list, expr_list, init_list, item_list, note_list, stmt_list, boxed, optional_expr, optional_init, optional_stmt}
use Rattle.sb_tree.specs.Trees as tree
use Rattle.sb_tree.specs.declared.syntax.Arg.{Arg}
use Rattle.sb_tree.specs.declared.syntax.Decl.{Decl}
use Rattle.sb_tree.specs.declared.syntax.Expr.{Expr}
use Rattle.sb_tree.specs.declared.syntax.Init.{Init}
use Rattle.sb_tree.specs.declared.syntax.Item.{Item}
use Rattle.sb_tree.specs.declared.syntax.Note.{Note}
use Rattle.sb_tree.specs.declared.syntax.Stmt.{Stmt}
use Rattle.sb_tree.specs.declared.syntax.TypeName.{TypeName}

abbrev pub expr_depth : Expr → ℕ
expr_depth e = tree.depth_of_expr (plain_expr e)

abbrev pub type_depth : TypeName → ℕ
type_depth t = tree.depth_of_type (plain_type t)

abbrev pub item_depth : Item → ℕ
item_depth i = tree.depth_of_item (plain_item i)

abbrev pub arg_depth : Arg → ℕ
arg_depth a = tree.depth_of_arg (plain_arg a)

abbrev pub note_depth : Note → ℕ
note_depth n = tree.depth_of_note (plain_note n)

abbrev pub init_depth : Init → ℕ
init_depth i = tree.depth_of_init (plain_init i)

abbrev pub decl_depth : Decl → ℕ
decl_depth d = tree.depth_of_decl (plain_decl d)

abbrev pub stmt_depth : Stmt → ℕ
stmt_depth s = tree.depth_of_stmt (plain_stmt s)

-- ---- lists and parts that may be absent

abbrev pub exprs_depth : List Expr → ℕ
exprs_depth list = tree.depth_of_exprs (expr_list (plain_exprs list))

abbrev pub items_depth : List Item → ℕ
items_depth list = tree.depth_of_items (item_list (plain_items list))

abbrev pub args_depth : List Arg → ℕ
args_depth list = tree.depth_of_args (arg_list (plain_args list))

abbrev pub notes_depth : List Note → ℕ
notes_depth list = tree.depth_of_notes (note_list (plain_notes list))

abbrev pub inits_depth : List Init → ℕ
inits_depth list = tree.depth_of_inits (init_list (plain_inits list))

abbrev pub decls_depth : List Decl → ℕ
decls_depth list = tree.depth_of_decls (decl_list (plain_decls list))

abbrev pub stmts_depth : List Stmt → ℕ
stmts_depth list = tree.depth_of_stmts (stmt_list (plain_stmts list))

abbrev pub optional_expr_depth : Option Expr → ℕ
optional_expr_depth part = tree.depth_of_optional_expr (optional_expr (option_map plain_expr part))

abbrev pub optional_init_depth : Option Init → ℕ
optional_init_depth part = tree.depth_of_optional_init (optional_init (option_map plain_init part))

abbrev pub optional_stmt_depth : Option Stmt → ℕ
optional_stmt_depth part = tree.depth_of_optional_stmt (optional_stmt (option_map plain_stmt part))

abbrev pub boxed_expr_depth : Option (Box Expr Global) → ℕ
boxed_expr_depth part = optional_expr_depth (boxed part)

abbrev pub boxed_stmt_depth : Option (Box Stmt Global) → ℕ
boxed_stmt_depth part = optional_stmt_depth (boxed part)
