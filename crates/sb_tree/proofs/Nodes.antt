-- The plain trees of nodes with parts that may be absent.
use Rattle.std.specs.Prelude.{◌≡◌, Option, Some, None}
use Rattle.std.specs.Option.{option_map}
use Rattle.std.specs.declared.alloc.Global.{Global}
use Rattle.std.specs.declared.boxed.Box.{Box}
use Rattle.std.proofs.Common.{ap, refl, ◌∙◌}
use Rattle.sb_base.specs.declared.refusals.Place.{Place}
use Rattle.sb_tree.specs.Plain.{plain_expr, plain_type, plain_stmt, boxed, optional_expr, optional_stmt, Layer, arg_step, expr_step, init_step, stmt_step, type_step, decl_step, item_step, note_step, plain_arg, plain_init, plain_decl, plain_item, plain_note}
use Rattle.sb_tree.specs.Trees as tree
use Rattle.sb_tree.specs.Trees.{ExprTree, TypeTree, ItemTree, ArgTree, NoteTree, InitTree, DeclTree, StmtTree}
use Rattle.sb_tree.specs.declared.syntax.Arg.{Arg}
use Rattle.sb_tree.specs.declared.syntax.Decl.{Decl}
use Rattle.sb_tree.specs.declared.syntax.Expr.{Expr}
use Rattle.sb_tree.specs.declared.syntax.Init.{Init}
use Rattle.sb_tree.specs.declared.syntax.Item.{Item}
use Rattle.sb_tree.specs.declared.syntax.Note.{Note}
use Rattle.sb_tree.specs.declared.syntax.Stmt.{Stmt, map-Stmt, fold_out-Stmt, out-Stmt}
use Rattle.sb_tree.specs.declared.syntax.TypeName.{TypeName}
use Rattle.sb_tree.specs.declared.syntax.Arg.TheOpen as layer
use Rattle.sb_tree.specs.declared.syntax.Arg.TheViews.{If, outs-If, For, outs-For}

abbrev plain_stmt_layer : layer.Stmt-F Arg Expr Init Stmt TypeName Decl Item Note → Layer layer.Stmt-F
plain_stmt_layer = map-Stmt Arg Expr Init Stmt TypeName Decl Item Note ArgTree ExprTree InitTree StmtTree TypeTree DeclTree ItemTree NoteTree plain_arg plain_expr plain_init plain_stmt plain_type plain_decl plain_item plain_note

opened_stmt : (s : Stmt) → plain_stmt s ≡ stmt_step (plain_stmt_layer (out-Stmt s))
unfolding plain_arg plain_expr plain_init plain_stmt plain_type plain_decl plain_item plain_note
opened_stmt = fold_out-Stmt ArgTree ExprTree InitTree StmtTree TypeTree DeclTree ItemTree NoteTree arg_step expr_step init_step stmt_step type_step decl_step item_step note_step

pub plain_if : (test : Expr) (body : Box Stmt Global) (other : Option (Box Stmt Global)) (place : Place) → plain_stmt (If test body other place) ≡ tree.If (plain_expr test) (plain_stmt body.value) (optional_stmt (option_map plain_stmt (boxed other))) place
plain_if test body None place = opened_stmt (If test body None place) ∙ ap (λ l. stmt_step (plain_stmt_layer l)) (outs-If test body None place)
plain_if test body (Some s) place = opened_stmt (If test body (Some s) place) ∙ ap (λ l. stmt_step (plain_stmt_layer l)) (outs-If test body (Some s) place)

pub plain_for : (first : Option (Box Stmt Global)) (test step : Option Expr) (body : Box Stmt Global) (place : Place) → plain_stmt (For first test step body place) ≡ tree.For (optional_stmt (option_map plain_stmt (boxed first))) (optional_expr (option_map plain_expr test)) (optional_expr (option_map plain_expr step)) (plain_stmt body.value) place
plain_for first test step body place = opened_stmt (For first test step body place) ∙ (ap (λ l. stmt_step (plain_stmt_layer l)) (outs-For first test step body place) ∙ parts first test step)
  where
    parts : (first : Option (Box Stmt Global)) (test step : Option Expr) → stmt_step (plain_stmt_layer (layer.For first test step body place)) ≡ tree.For (optional_stmt (option_map plain_stmt (boxed first))) (optional_expr (option_map plain_expr test)) (optional_expr (option_map plain_expr step)) (plain_stmt body.value) place
    parts None None None = refl
    parts None None (Some _) = refl
    parts None (Some _) None = refl
    parts None (Some _) (Some _) = refl
    parts (Some _) None None = refl
    parts (Some _) None (Some _) = refl
    parts (Some _) (Some _) None = refl
    parts (Some _) (Some _) (Some _) = refl
