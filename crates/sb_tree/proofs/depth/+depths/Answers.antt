-- A turn of a loop goes into one part and adds its depth; and `for`, whose parts are three options and a body.
use denote.Param.Weighed.{most}
use Rattle.std.proofs.Common.{refl, sym, arith, suc, max, ◌≡◌, ◌≤◌, ap, ◌∙◌}
use Rattle.sb_tree.specs.Depths.{expr_depth, item_depth, arg_depth, note_depth, init_depth, decl_depth, stmt_depth, exprs_depth, items_depth, args_depth, notes_depth, inits_depth, decls_depth, stmts_depth, boxed_stmt_depth, optional_expr_depth}
use Rattle.sb_tree.specs.Trees as tree
use Rattle.sb_tree.specs.declared.syntax.Arg.{size-Arg}
use Rattle.sb_tree.specs.declared.syntax.Decl.{size-Decl}
use Rattle.sb_tree.specs.declared.syntax.Expr.{size-Expr}
use Rattle.sb_tree.specs.declared.syntax.Init.{size-Init}
use Rattle.sb_tree.specs.declared.syntax.Item.{size-Item}
use Rattle.sb_tree.specs.declared.syntax.Note.{size-Note}
use Rattle.sb_tree.specs.declared.syntax.Stmt.{size-Stmt}
use Rattle.sb_tree.proofs.Depths.{one_within, with_one}
use Rattle.sb_tree.proofs.Nodes.{plain_for}
use Rattle.sb_tree.proofs.depth.+depths.Goals as goal

pub depth_of_exprs-depth_of_expr-requires : goal.depth_of_exprs-depth_of_expr-requires
depth_of_exprs-depth_of_expr-requires t c =
    let smaller : size-Expr c.part-item.result ≤ most size-Expr c.args.list.now = one_within (most size-Expr) size-Expr refl (λ _ _. refl) c.args.list.now c.loop-part.part-index c.part-item.result (omega arith) c.part-item.is in
    let shallower : expr_depth c.part-item.result ≤ exprs_depth c.args.list.now = one_within exprs_depth expr_depth refl (λ _ _. refl) c.args.list.now c.loop-part.part-index c.part-item.result (omega arith) c.part-item.is in
    (omega (arith, smaller), omega (arith, shallower, c.requires))

pub depth_of_exprs-loop-part-preserved : goal.depth_of_exprs-loop-part-preserved
depth_of_exprs-loop-part-preserved t c = rw (c.deeper-depth.ensures, c.loop-part.invariant, c.depth_of_expr.ensures) (sym (with_one exprs_depth expr_depth refl (λ _ _. refl) c.args.list.now c.loop-part.part-index c.part-item.result (omega arith) c.part-item.is))

pub depth_of_items-depth_of_item-requires : goal.depth_of_items-depth_of_item-requires
depth_of_items-depth_of_item-requires t c =
    let smaller : size-Item c.part-item.result ≤ most size-Item c.args.list.now = one_within (most size-Item) size-Item refl (λ _ _. refl) c.args.list.now c.loop-part.part-index c.part-item.result (omega arith) c.part-item.is in
    let shallower : item_depth c.part-item.result ≤ items_depth c.args.list.now = one_within items_depth item_depth refl (λ _ _. refl) c.args.list.now c.loop-part.part-index c.part-item.result (omega arith) c.part-item.is in
    (omega (arith, smaller), omega (arith, shallower, c.requires))

pub depth_of_items-loop-part-preserved : goal.depth_of_items-loop-part-preserved
depth_of_items-loop-part-preserved t c = rw (c.deeper-depth.ensures, c.loop-part.invariant, c.depth_of_item.ensures) (sym (with_one items_depth item_depth refl (λ _ _. refl) c.args.list.now c.loop-part.part-index c.part-item.result (omega arith) c.part-item.is))

pub depth_of_args-depth_of_arg-requires : goal.depth_of_args-depth_of_arg-requires
depth_of_args-depth_of_arg-requires t c =
    let smaller : size-Arg c.part-item.result ≤ most size-Arg c.args.list.now = one_within (most size-Arg) size-Arg refl (λ _ _. refl) c.args.list.now c.loop-part.part-index c.part-item.result (omega arith) c.part-item.is in
    let shallower : arg_depth c.part-item.result ≤ args_depth c.args.list.now = one_within args_depth arg_depth refl (λ _ _. refl) c.args.list.now c.loop-part.part-index c.part-item.result (omega arith) c.part-item.is in
    (omega (arith, smaller), omega (arith, shallower, c.requires))

pub depth_of_args-loop-part-preserved : goal.depth_of_args-loop-part-preserved
depth_of_args-loop-part-preserved t c = rw (c.deeper-depth.ensures, c.loop-part.invariant, c.depth_of_arg.ensures) (sym (with_one args_depth arg_depth refl (λ _ _. refl) c.args.list.now c.loop-part.part-index c.part-item.result (omega arith) c.part-item.is))

pub depth_of_notes-depth_of_note-requires : goal.depth_of_notes-depth_of_note-requires
depth_of_notes-depth_of_note-requires t c =
    let smaller : size-Note c.part-item.result ≤ most size-Note c.args.list.now = one_within (most size-Note) size-Note refl (λ _ _. refl) c.args.list.now c.loop-part.part-index c.part-item.result (omega arith) c.part-item.is in
    let shallower : note_depth c.part-item.result ≤ notes_depth c.args.list.now = one_within notes_depth note_depth refl (λ _ _. refl) c.args.list.now c.loop-part.part-index c.part-item.result (omega arith) c.part-item.is in
    (omega (arith, smaller), omega (arith, shallower, c.requires))

pub depth_of_notes-loop-part-preserved : goal.depth_of_notes-loop-part-preserved
depth_of_notes-loop-part-preserved t c = rw (c.deeper-depth.ensures, c.loop-part.invariant, c.depth_of_note.ensures) (sym (with_one notes_depth note_depth refl (λ _ _. refl) c.args.list.now c.loop-part.part-index c.part-item.result (omega arith) c.part-item.is))

pub depth_of_inits-depth_of_init-requires : goal.depth_of_inits-depth_of_init-requires
depth_of_inits-depth_of_init-requires t c =
    let smaller : size-Init c.part-item.result ≤ most size-Init c.args.list.now = one_within (most size-Init) size-Init refl (λ _ _. refl) c.args.list.now c.loop-part.part-index c.part-item.result (omega arith) c.part-item.is in
    let shallower : init_depth c.part-item.result ≤ inits_depth c.args.list.now = one_within inits_depth init_depth refl (λ _ _. refl) c.args.list.now c.loop-part.part-index c.part-item.result (omega arith) c.part-item.is in
    (omega (arith, smaller), omega (arith, shallower, c.requires))

pub depth_of_inits-loop-part-preserved : goal.depth_of_inits-loop-part-preserved
depth_of_inits-loop-part-preserved t c = rw (c.deeper-depth.ensures, c.loop-part.invariant, c.depth_of_init.ensures) (sym (with_one inits_depth init_depth refl (λ _ _. refl) c.args.list.now c.loop-part.part-index c.part-item.result (omega arith) c.part-item.is))

pub depth_of_decls-depth_of_decl-requires : goal.depth_of_decls-depth_of_decl-requires
depth_of_decls-depth_of_decl-requires t c =
    let smaller : size-Decl c.part-item.result ≤ most size-Decl c.args.list.now = one_within (most size-Decl) size-Decl refl (λ _ _. refl) c.args.list.now c.loop-part.part-index c.part-item.result (omega arith) c.part-item.is in
    let shallower : decl_depth c.part-item.result ≤ decls_depth c.args.list.now = one_within decls_depth decl_depth refl (λ _ _. refl) c.args.list.now c.loop-part.part-index c.part-item.result (omega arith) c.part-item.is in
    (omega (arith, smaller), omega (arith, shallower, c.requires))

pub depth_of_decls-loop-part-preserved : goal.depth_of_decls-loop-part-preserved
depth_of_decls-loop-part-preserved t c = rw (c.deeper-depth.ensures, c.loop-part.invariant, c.depth_of_decl.ensures) (sym (with_one decls_depth decl_depth refl (λ _ _. refl) c.args.list.now c.loop-part.part-index c.part-item.result (omega arith) c.part-item.is))

pub depth_of_stmts-depth_of_stmt-requires : goal.depth_of_stmts-depth_of_stmt-requires
depth_of_stmts-depth_of_stmt-requires t c =
    let smaller : size-Stmt c.part-item.result ≤ most size-Stmt c.args.list.now = one_within (most size-Stmt) size-Stmt refl (λ _ _. refl) c.args.list.now c.loop-part.part-index c.part-item.result (omega arith) c.part-item.is in
    let shallower : stmt_depth c.part-item.result ≤ stmts_depth c.args.list.now = one_within stmts_depth stmt_depth refl (λ _ _. refl) c.args.list.now c.loop-part.part-index c.part-item.result (omega arith) c.part-item.is in
    (omega (arith, smaller), omega (arith, shallower, c.requires))

pub depth_of_stmts-loop-part-preserved : goal.depth_of_stmts-loop-part-preserved
depth_of_stmts-loop-part-preserved t c = rw (c.deeper-depth.ensures, c.loop-part.invariant, c.depth_of_stmt.ensures) (sym (with_one stmts_depth stmt_depth refl (λ _ _. refl) c.args.list.now c.loop-part.part-index c.part-item.result (omega arith) c.part-item.is))

pub depth_of_stmt-returns-in-For : goal.depth_of_stmt-returns-in-For
depth_of_stmt-returns-in-For t c =
    let whole : stmt_depth c.args.stmt.now ≡ suc (max (boxed_stmt_depth c.in-For.first) (max (optional_expr_depth c.in-For.test) (max (optional_expr_depth c.in-For.step) (stmt_depth c.in-For.body.value)))) = ap stmt_depth c.in-For.is ∙ ap tree.depth_of_stmt (plain_for c.in-For.first c.in-For.test c.in-For.step c.in-For.body c.in-For.place) in
    rw (whole, c.deeper-in-For-3.ensures, c.deeper-in-For-2.ensures, c.deeper-in-For.ensures, c.depth_of_boxed_stmt-in-For.ensures, c.depth_of_optional_expr-in-For.ensures, c.depth_of_optional_expr-in-For-2.ensures, c.depth_of_stmt-in-For.ensures, c.deref-in-For.ensures) (omega arith)

pub depth_of_stmt-overflow_add-result-in-For : goal.depth_of_stmt-overflow_add-result-in-For
depth_of_stmt-overflow_add-result-in-For t c = omega (arith, depth_of_stmt-returns-in-For t c, c.requires)
